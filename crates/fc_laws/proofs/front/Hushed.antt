-- Messages without a response.
use Rattle.std.proofs.Common.{◌≡◌, ℕ, List, Bool, Option, None, Ok, Err, ap, ◌∙◌}
use Rattle.std.specs.Borrow.{Bor}
use Rattle.coap_msg.specs.declared.types.Bad.TheVariants as bad
use Rattle.coap_msg.specs.declared.types.Emission.{Emission}
use Rattle.coap_msg.specs.declared.types.Endpoint.{Endpoint}
use Rattle.coap_msg.specs.Reading.{reading_of}
use Rattle.coap_msg.specs.Wire.{Message}
use Rattle.coap_opts.specs.Verdict.{Verdict, IsIgnored, IsSignal, IsSilent, verdict}
use Rattle.fc_core.specs.declared.event.Event.TheVariants.{Deliver}
use Rattle.fc_front.specs.declared.by_value.Delivered.TheVariants.{Signal}
use Rattle.fc_laws.specs.ExchangeLaws.{IsOpening}
use Rattle.fc_front.specs.Exchanges.{FrontState}
use Rattle.fc_core.specs.History.{Seen, front_at}
use Rattle.fc_core.specs.Legal.{Emits}
use Rattle.fc_front.specs.Receiving.{Received, delivered, handed_on, received, received_as, sent}
use Rattle.fc_laws.proofs.front.Repeats.{new_as, opening_is, received_of}

-- the classification of a message is determined by the message's verdict.
as_judged : (f : FrontState) (to : Endpoint) (bytes : List ℕ) (m : Message) (v : Verdict) → reading_of bytes ≡ Ok m → verdict m ≡ v
    → received f to bytes ≡ received_as f to m v
as_judged f to bytes m v read is = received_of f to bytes (Ok m) read ∙ ap (received_as f to m) is

pub signals_on : (f : FrontState) (to : Endpoint) (bytes : List ℕ) (m : Message) (reset : Bool) → reading_of bytes ≡ Ok m
    → verdict m ≡ IsSignal reset → delivered f to bytes ≡ Signal m.id reset
signals_on f to bytes m reset read is = ap (λ (x : Received). handed_on x f to) (as_judged f to bytes m (IsSignal reset) read is)

pub signal_hushed : (s : Seen) (now : ℕ) (to : Endpoint) (bytes : Bor (List ℕ)) (m : Message) (reset : Bool) (o : Option Emission)
    → reading_of bytes.now ≡ Ok m → verdict m ≡ IsSignal reset → Emits s (Deliver now to bytes) o → o ≡ None
signal_hushed s now to bytes m reset o read is legal =
    legal ∙ ap (λ (x : Received). sent x (front_at s now) to) (as_judged (front_at s now) to bytes.now m (IsSignal reset) read is)

pub ignored_hushed : (s : Seen) (now : ℕ) (to : Endpoint) (bytes : Bor (List ℕ)) (m : Message) (o : Option Emission)
    → reading_of bytes.now ≡ Ok m → verdict m ≡ IsIgnored → Emits s (Deliver now to bytes) o → o ≡ None
ignored_hushed s now to bytes m o read is legal =
    legal ∙ ap (λ (x : Received). sent x (front_at s now) to) (as_judged (front_at s now) to bytes.now m IsIgnored read is)

pub no_message_hushed : (s : Seen) (now : ℕ) (to : Endpoint) (bytes : Bor (List ℕ)) (o : Option Emission)
    → reading_of bytes.now ≡ Err bad.Ignore → Emits s (Deliver now to bytes) o → o ≡ None
no_message_hushed s now to bytes o read legal =
    legal ∙ ap (λ (x : Received). sent x (front_at s now) to) (received_of (front_at s now) to bytes.now (Err bad.Ignore) read)

pub silence_hushed : (s : Seen) (now : ℕ) (to : Endpoint) (bytes : Bor (List ℕ)) (w : IsOpening s now to bytes.now) (o : Option Emission)
    → verdict w.message ≡ IsSilent → Emits s (Deliver now to bytes) o → o ≡ None
silence_hushed s now to bytes w o silent legal =
    legal
    ∙ (ap (λ (x : Received). sent x (front_at s now) to) (opening_is s now to bytes.now w)
    ∙ ap (λ (v : Verdict). sent (new_as (front_at s now) to v w.message) (front_at s now) to) silent)
