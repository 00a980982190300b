-- A block that doesn't fit is answered immediately by the code of its cause, and produces nothing.
use Rattle.std.proofs.Common.{◌≡◌, ℕ, ◌∙◌, ◌++◌, map, Option, Some, refl, sym, ap, arith}
use Rattle.std.proofs.lemmas.List.{append-nil}
use Rattle.coap_msg.specs.Codes.{code}
use Rattle.coap_msg.specs.Wire.{Message}
use Rattle.coap_msg.specs.declared.types.Emission.{Emission}
use Rattle.coap_msg.specs.declared.types.Endpoint.{Endpoint}
use Rattle.coap_opts.specs.Values.{Place}
use Rattle.coap_opts.specs.Verdict.{Asked}
use Rattle.coap_block.specs.Uploads.{Add, Continues, IsWhole, IsIncomplete, IsBadLength, IsTooLarge, IsFull}
use Rattle.coap_reply.specs.Responses.{Response, bare, settled_by}
use Rattle.fc_core.specs.declared.event.Event.{Event}
use Rattle.fc_core.specs.declared.event.Event.TheVariants.{Deliver}
use Rattle.fc_laws.specs.BodyLaws.{Asks, BadRequest, Continue, Incomplete, IsAnswerAtOnce, RespondsNowBy, TooLarge, Unavailable, asked_at}
use Rattle.fc_laws.specs.ExchangeLaws.{bare_by}
use Rattle.fc_core.specs.History.{Seen, and_then, did, front_at}
use Rattle.fc_core.specs.Legal.{Emits}
use Rattle.fc_front.specs.Receiving.{Received, Immediate, add_in, brought, next_opening, received_added, sent}
use Rattle.fc_core.specs.Stages.{new_task}
use Rattle.fc_laws.proofs.front.Bodies.{anew_is, settled_code}

pub is_full : (x : Add) (m : Message) (r : Asked) → received_added x m r ≡ Immediate m r (bare 163) → x ≡ IsFull
is_full (IsWhole bytes) m r e = absurd (cc e)
is_full Continues m r e = let same : code 2 31 ≡ 163 = ap settled_code e in absurd (omega (arith, same))
is_full IsIncomplete m r e = let same : code 4 8 ≡ 163 = ap settled_code e in absurd (omega (arith, same))
is_full IsBadLength m r e = let same : code 4 0 ≡ 163 = ap settled_code e in absurd (omega (arith, same))
is_full IsTooLarge m r e = let same : code 4 13 ≡ 163 = ap settled_code e in absurd (omega (arith, same))
is_full IsFull m r e = refl

pub is_incomplete : (x : Add) (m : Message) (r : Asked) → received_added x m r ≡ Immediate m r (bare 136) → x ≡ IsIncomplete
is_incomplete (IsWhole bytes) m r e = absurd (cc e)
is_incomplete Continues m r e = let same : code 2 31 ≡ 136 = ap settled_code e in absurd (omega (arith, same))
is_incomplete IsIncomplete m r e = refl
is_incomplete IsBadLength m r e = let same : code 4 0 ≡ 136 = ap settled_code e in absurd (omega (arith, same))
is_incomplete IsTooLarge m r e = let same : code 4 13 ≡ 136 = ap settled_code e in absurd (omega (arith, same))
is_incomplete IsFull m r e = let same : code 5 3 ≡ 136 = ap settled_code e in absurd (omega (arith, same))

pub is_bad_length : (x : Add) (m : Message) (r : Asked) → received_added x m r ≡ Immediate m r (bare 128) → x ≡ IsBadLength
is_bad_length (IsWhole bytes) m r e = absurd (cc e)
is_bad_length Continues m r e = let same : code 2 31 ≡ 128 = ap settled_code e in absurd (omega (arith, same))
is_bad_length IsIncomplete m r e = let same : code 4 8 ≡ 128 = ap settled_code e in absurd (omega (arith, same))
is_bad_length IsBadLength m r e = refl
is_bad_length IsTooLarge m r e = let same : code 4 13 ≡ 128 = ap settled_code e in absurd (omega (arith, same))
is_bad_length IsFull m r e = let same : code 5 3 ≡ 128 = ap settled_code e in absurd (omega (arith, same))

pub is_too_large : (x : Add) (m : Message) (r : Asked) → received_added x m r ≡ Immediate m r (bare 141) → x ≡ IsTooLarge
is_too_large (IsWhole bytes) m r e = absurd (cc e)
is_too_large Continues m r e = let same : code 2 31 ≡ 141 = ap settled_code e in absurd (omega (arith, same))
is_too_large IsIncomplete m r e = let same : code 4 8 ≡ 141 = ap settled_code e in absurd (omega (arith, same))
is_too_large IsBadLength m r e = let same : code 4 0 ≡ 141 = ap settled_code e in absurd (omega (arith, same))
is_too_large IsTooLarge m r e = refl
is_too_large IsFull m r e = let same : code 5 3 ≡ 141 = ap settled_code e in absurd (omega (arith, same))

pub by_added : (x y : Add) (m : Message) (r : Asked) → x ≡ y → received_added x m r ≡ received_added y m r
by_added x y m r e = ap (λ (z : Add). received_added z m r) e

-- the response that is sent immediately.
abbrev response_of : Received → Response
response_of (Immediate m r response) = response
response_of other = bare 0

answered_at_once : (x : Add) (m : Message) (r : Asked) (b : Place) (response : Response) → r.block1 ≡ Some b → received_added x m r ≡ Immediate m r response → IsAnswerAtOnce b response
answered_at_once (IsWhole bytes) m r b response is e = absurd (cc e)
answered_at_once Continues m r b response is e = Continue (sym (ap response_of e) ∙ ap (λ (block : Option Place). settled_by 95 block) is)
answered_at_once IsIncomplete m r b response is e = Incomplete (sym (ap response_of e))
answered_at_once IsBadLength m r b response is e = BadRequest (sym (ap response_of e))
answered_at_once IsTooLarge m r b response is e = TooLarge (sym (ap response_of e))
answered_at_once IsFull m r b response is e = Unavailable (sym (ap response_of e))

pub at_once : (s : Seen) (now : ℕ) (to : Endpoint) (m : Message) (r : Asked) (b : Place) (response : Response) → r.block1 ≡ Some b → asked_at s now to m r ≡ Immediate m r response → IsAnswerAtOnce b response
at_once s now to m r b response is e = answered_at_once (add_in (front_at s now) to r) m r b response is e

-- ---- the effects of a block that doesn't fit

pub responding_emits : (e : Event) (s : Seen) (m : Message) (r : Asked) (answer : ℕ) (emitted : Option Emission) → Asks s e m r → RespondsNowBy s e m r answer → Emits s e emitted → emitted ≡ bare_by s e m answer
responding_emits (Deliver now to bytes) s m r answer emitted w is legal = legal ∙ ap (λ (x : Received). sent x (front_at s now) to) (anew_is s now to bytes.now m r w ∙ is)
responding_emits other s m r answer emitted w is legal = absurd w

pub responding_waits : (e : Event) (o : Option Emission) (s : Seen) (m : Message) (r : Asked) (answer : ℕ) → Asks s e m r → RespondsNowBy s e m r answer → (and_then (did e o) s).tasks ≡ s.tasks
responding_waits (Deliver now to bytes) o s m r answer w is = ap (λ (x : Received). s.tasks ++ map new_task (brought x (next_opening (front_at s now)) to)) (anew_is s now to bytes.now m r w ∙ is) ∙ append-nil s.tasks
responding_waits other o s m r answer w is = absurd w
