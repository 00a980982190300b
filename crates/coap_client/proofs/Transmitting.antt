-- The calls on a peer, one after the other.
use Rattle.std.proofs.Common.{◌≡◌, ℕ, suc, IfOk, IfSome, Result, Ok, Err, ◌+◌, ◌<◌, ◌≤◌, ◌^◌, inl, inr, Bool, true, false, List, [], ◌∷◌, ◌++◌, length, Option, Some, None, refl, sym, ◌∙◌, ap, subst, append_assoc, take, add-one}
use Rattle.coap_msg.specs.Reading.{reading_of}
use Rattle.coap_msg.specs.Wire.{Message, message_bytes}
use Rattle.coap_msg.specs.declared.types.MessageType.TheVariants.{Confirmable}
use Rattle.coap_client.specs.declared.fetcher.FetchFault.{FetchFault}
use Rattle.coap_client.specs.declared.transmission.ReplyClass.{ReplyClass}
use Rattle.coap_client.specs.declared.transmission.ReplyClass.TheVariants.{Reply, Separate, Repeat, Acknowledged, Rejected, Other}
use Rattle.coap_client.specs.declared.transmission.SentRequest.{SentRequest}
use Rattle.coap_client.specs.Handled.{HasResponse, IsAwaitedAnswer, IsResponseTo, TellsSent}
use Rattle.coap_client.specs.Listening.{ArePassedOver, EndsOn, IsAcknowledgedBy, IsAnsweredBy, IsOver, IsPassedOver, acknowledges, acknowledges_kind, acknowledges_read, is_answering, is_passed_over, sent_behind}
use Rattle.coap_client.specs.PeerCalls.{Adds, PeerCall, Sends, Waits, Receives, received_bytes, receives_in}
use Rattle.coap_client.specs.Requests.{acknowledgement}
use Rattle.coap_client.specs.Transmissions.{ack_timeout, most_sendings, non_wait, separate_wait, AreBehind, AreInVain, MakesCalls, IsAcknowledgedFirst, EndsAnswered, IsTransmitted, IsAskedAgain, EndsAwaited, IsLastSending, IsSending, IsAnsweredTransmission, IsTransmission}

abbrev pub Calls : Type 1
Calls = List PeerCall → Type 0

abbrev pub Passes : Type 1
Passes = List ℕ → List PeerCall → Type 0

abbrev Told : Type 1
Told = List ℕ → ReplyClass → Type 0

-- if no call is made, the calls made are the empty list.
pub does_nothing : (now P : Calls) → P [] → MakesCalls now now P
does_nothing now P p calls h = record { more = []; are = p; is = h }

-- if the calls `more` are made, and have the property `P`, calls with that property are made.
pub does : (before after P : Calls) (more : List PeerCall) → Adds before after more → P more → MakesCalls before after P
does before after P more adds p calls h = record { more = more; are = p; is = adds calls h }

-- if calls with `P` are made, then calls with `Q`, and both together have `R`, calls with `R` are
-- made.
pub does_both : (before between after P Q R : Calls) → MakesCalls before between P → MakesCalls between after Q
    → ((first second : List PeerCall) → P first → Q second → R (second ++ first)) → MakesCalls before after R
does_both before between after P Q R one other joins calls h =
    let a = one calls h in
    let b = other (a.more ++ calls) a.is in
    record { more = b.more ++ a.more; are = joins a.more b.more a.are b.are; is = subst after (sym (append_assoc b.more a.more calls)) b.is }

-- if calls with `P` are made, then the calls `more`, and all together have `R`, calls with `R` are
-- made.
pub does_then : (before between after P R : Calls) (more : List PeerCall) → MakesCalls before between P → Adds between after more
    → ((first : List PeerCall) → P first → R (more ++ first)) → MakesCalls before after R
does_then before between after P R more one adds joins calls h =
    let a = one calls h in
    record { more = more ++ a.more; are = joins a.more a.are; is = subst after (sym (append_assoc more a.more calls)) (adds (a.more ++ calls) a.is) }

-- if calls with `P` are made, and `P` implies `Q`, calls with `Q` are made.
pub does_of : (before after P Q : Calls) → MakesCalls before after P → ((calls : List PeerCall) → P calls → Q calls) → MakesCalls before after Q
does_of before after P Q one turns calls h = let a = one calls h in record { more = a.more; are = turns a.more a.are; is = a.is }

-- ---- during a wait

pub none_come : (passes : Passes) (now : Calls) → MakesCalls now now (ArePassedOver passes 0)
none_come passes now = does_nothing now (ArePassedOver passes 0) refl

-- after n skipped datagrams, a further datagram arrives.
record Comes (passes : Passes) (n : ℕ) (bytes : List ℕ) (calls : List PeerCall) : Type 0 where
  pub older : List PeerCall
  pub before : ArePassedOver passes n older
  pub is : calls ≡ Receives (Some bytes) ∷ older

comes : (passes : Passes) (n count : ℕ) (buffer : List ℕ) (o : Option ℕ) (before between after : Calls) → o ≡ Some count → MakesCalls before between (ArePassedOver passes n)
    → Adds between after (receives_in buffer o ∷ []) → MakesCalls before after (Comes passes n (take count buffer))
comes passes n count buffer o before between after some one adds =
    does_then before between after (ArePassedOver passes n) (Comes passes n (take count buffer)) (Receives (Some (take count buffer)) ∷ []) one
    (subst (λ (x : Option ℕ). Adds between after (receives_in buffer x ∷ [])) some adds)
    (λ first h. record { older = first; before = h; is = refl })

pub ended : (passes : Passes) (n count : ℕ) (buffer : List ℕ) (o : Option ℕ) (before between after : Calls) → o ≡ Some count → MakesCalls before between (ArePassedOver passes n)
    → Adds between after (receives_in buffer o ∷ []) → MakesCalls before after (EndsOn passes (take count buffer))
ended passes n count buffer o before between after some one adds =
    does_of before after (Comes passes n (take count buffer)) (EndsOn passes (take count buffer)) (comes passes n count buffer o before between after some one adds)
    (λ calls h. record { n = n; older = h.older; before = h.before; is = h.is })

-- if a further datagram arrives and is skipped, n + 1 datagrams were skipped.
pub one_comes : (passes : Passes) (n count : ℕ) (buffer : List ℕ) (o : Option ℕ) (before between after later : Calls) → o ≡ Some count → MakesCalls before between (ArePassedOver passes n)
    → Adds between after (receives_in buffer o ∷ []) → MakesCalls after later (passes (take count buffer)) → MakesCalls before later (ArePassedOver passes (n + 1))
one_comes passes n count buffer o before between after later some one adds other =
    subst (λ (x : ℕ). MakesCalls before later (ArePassedOver passes x)) (sym (add-one n))
    (does_both before after later (Comes passes n (take count buffer)) (passes (take count buffer)) (ArePassedOver passes (suc n))
    (comes passes n count buffer o before between after some one adds) other
    (λ first second a b. record {
      older = a.older;
      before = a.before;
      bytes = take count buffer;
      sent = second;
      passed = b;
      is = ap (λ (x : List PeerCall). second ++ x) a.is;
    }))

-- if n datagrams were skipped, and then none arrives, the wait is over.
pub over : (passes : Passes) (n : ℕ) (buffer : List ℕ) (o : Option ℕ) (before between after : Calls) → o ≡ None → MakesCalls before between (ArePassedOver passes n)
    → Adds between after (receives_in buffer o ∷ []) → MakesCalls before after (IsOver passes)
over passes n buffer o before between after none one adds =
    does_then before between after (ArePassedOver passes n) (IsOver passes) (Receives None ∷ []) one (subst (λ (x : Option ℕ). Adds between after (receives_in buffer x ∷ [])) none adds)
    (λ first h. record { n = n; older = first; before = h; is = inl refl })

-- if 2^64 - 1 datagrams or more were skipped, the wait is over.
pub flooded : (passes : Passes) (n : ℕ) (before after : Calls) → 2 ^ 64 ≤ n + 1 → MakesCalls before after (ArePassedOver passes n) → MakesCalls before after (IsOver passes)
flooded passes n before after many one =
    does_of before after (ArePassedOver passes n) (IsOver passes) one (λ handled h. record { n = n; older = handled; before = h; is = inr (refl, many) })

-- ---- the calls after a datagram, by its class

pub passed : (tells : Told) (awaited : Bool) (bytes : List ℕ) (handled : ReplyClass) (before after : Calls) → tells bytes handled → is_passed_over awaited handled ≡ true
    → Adds before after (sent_behind handled bytes) → MakesCalls before after (IsPassedOver tells awaited bytes)
passed tells awaited bytes handled before after told over adds =
    does before after (IsPassedOver tells awaited bytes) (sent_behind handled bytes) adds (record { handled = handled; told = told; passed = over; sent_is = refl })

-- if a datagram isn't skipped, nothing is sent after it.
quiet : (awaited : Bool) (bytes : List ℕ) (handled : ReplyClass) (before after : Calls) → is_passed_over awaited handled ≡ false → Adds before after (sent_behind handled bytes) → Adds before after []
quiet awaited bytes Reply before after ends adds = adds
quiet awaited bytes Separate before after ends adds = adds
quiet awaited bytes Repeat before after ends adds = absurd (cc ends)
quiet awaited bytes Acknowledged before after ends adds = adds
quiet awaited bytes Rejected before after ends adds = adds
quiet awaited bytes Other before after ends adds = adds

pub ended_by : (tells : Told) (awaited : Bool) (n count : ℕ) (buffer : List ℕ) (o : Option ℕ) (handled : ReplyClass) (before between after later : Calls) → o ≡ Some count
    → MakesCalls before between (ArePassedOver (IsPassedOver tells awaited) n) → Adds between after (receives_in buffer o ∷ []) → is_passed_over awaited handled ≡ false
    → Adds after later (sent_behind handled (take count buffer)) → MakesCalls before later (EndsOn (IsPassedOver tells awaited) (take count buffer))
ended_by tells awaited n count buffer o handled before between after later some one adds ends sends =
    let passes = IsPassedOver tells awaited in
    does_then before after later (EndsOn passes (take count buffer)) (EndsOn passes (take count buffer)) [] (ended passes n count buffer o before between after some one adds)
    (quiet awaited (take count buffer) handled after later ends sends) (λ first h. h)

-- if a datagram ends a wait, and is neither an acknowledgement nor a rejection, it is the response.
answering : (awaited : Bool) (handled : ReplyClass) → is_passed_over awaited handled ≡ false → (handled ≡ Acknowledged → ⊥) → (handled ≡ Rejected → ⊥) → is_answering awaited handled ≡ true
answering awaited Reply ends acknowledged rejected = refl
answering true Separate ends acknowledged rejected = refl
answering false Separate ends acknowledged rejected = absurd (cc ends)
answering awaited Repeat ends acknowledged rejected = absurd (cc ends)
answering awaited Acknowledged ends acknowledged rejected = absurd (acknowledged refl)
answering awaited Rejected ends acknowledged rejected = absurd (rejected refl)
answering awaited Other ends acknowledged rejected = absurd (cc ends)

-- if a datagram that arrived ends a wait, and is neither an acknowledgement nor a rejection, it is
-- a response that was awaited.
pub awaited_answer : (came : List ℕ → Type 0) (r : SentRequest) (awaited : Bool) (bytes : List ℕ) (handled : ReplyClass) → came bytes → TellsSent r bytes handled
    → is_passed_over awaited handled ≡ false → (handled ≡ Acknowledged → ⊥) → (handled ≡ Rejected → ⊥) → IsAwaitedAnswer came r awaited bytes
awaited_answer came r awaited bytes Reply came_is told ends acknowledged rejected = record { message = told.message; came_is = came_is; read_is = told.read_is; answers = inl told.holds }
awaited_answer came r true bytes Separate came_is told ends acknowledged rejected = record { message = told.message; came_is = came_is; read_is = told.read_is; answers = inr (refl, told.holds) }
awaited_answer came r false bytes Separate came_is told ends acknowledged rejected = absurd (cc ends)
awaited_answer came r awaited bytes Repeat came_is told ends acknowledged rejected = absurd (cc ends)
awaited_answer came r awaited bytes Acknowledged came_is told ends acknowledged rejected = absurd (acknowledged refl)
awaited_answer came r awaited bytes Rejected came_is told ends acknowledged rejected = absurd (rejected refl)
awaited_answer came r awaited bytes Other came_is told ends acknowledged rejected = absurd (cc ends)

pub answer_came : (tells : Told) (awaited : Bool) (answer : List ℕ) (handled : ReplyClass) (before after : Calls) → tells answer handled → is_passed_over awaited handled ≡ false
    → (handled ≡ Acknowledged → ⊥) → (handled ≡ Rejected → ⊥) → MakesCalls before after (EndsOn (IsPassedOver tells awaited) answer) → MakesCalls before after (IsAnsweredBy tells awaited answer)
answer_came tells awaited answer handled before after told ends acknowledged rejected one =
    does_of before after (EndsOn (IsPassedOver tells awaited) answer) (IsAnsweredBy tells awaited answer) one
    (λ calls h. (record { handled = handled; told = told; answers = answering awaited handled ends acknowledged rejected }, h))

pub acknowledgement_came : (tells : Told) (awaited : Bool) (bytes : List ℕ) (handled : ReplyClass) (before after : Calls) → tells bytes handled → is_passed_over awaited handled ≡ false
    → handled ≡ Acknowledged → MakesCalls before after (EndsOn (IsPassedOver tells awaited) bytes) → MakesCalls before after (λ calls. (awaited ≡ false) × IsAcknowledgedBy tells calls)
acknowledgement_came tells awaited bytes handled before after told ends is one =
    let not_awaited : awaited ≡ false = sym (ap (is_passed_over awaited) is) ∙ ends in
    does_of before after (EndsOn (IsPassedOver tells awaited) bytes) (λ calls. (awaited ≡ false) × IsAcknowledgedBy tells calls) one
    (λ calls h. (not_awaited, (bytes, subst (tells bytes) is told, subst (λ (b : Bool). EndsOn (IsPassedOver tells b) bytes calls) not_awaited h)))

-- ---- the transmissions of a request

-- if a request is sent, a wait begins, and calls with `P` follow, these calls are a sending.
pub sending : (request : List ℕ) (seconds : ℕ) (before between after P : Calls) → Adds before between (Waits seconds ∷ Sends request ∷ []) → MakesCalls between after P
    → MakesCalls before after (IsSending request seconds P)
sending request seconds before between after P adds one =
    does_both before between after (λ calls. calls ≡ Waits seconds ∷ Sends request ∷ []) P (IsSending request seconds P)
    (does before between (λ calls. calls ≡ Waits seconds ∷ Sends request ∷ []) _ adds refl) one
    (λ first handled is h. record { handled = handled; ends = h; is = ap (λ (x : List PeerCall). handled ++ x) is })

-- if a request is sent again after n transmissions in vain, and no response arrives, it was sent n
-- + 1 times in vain.
pub in_vain : (passes : Passes) (request : List ℕ) (n : ℕ) (before between after : Calls) → MakesCalls before between (AreInVain passes request n)
    → MakesCalls between after (IsSending request (ack_timeout n) (IsOver passes)) → MakesCalls before after (AreInVain passes request (n + 1))
in_vain passes request n before between after one other = subst (λ (x : ℕ). MakesCalls before after (AreInVain passes request x)) (sym (add-one n))
    (does_both before between after (AreInVain passes request n) (IsSending request (ack_timeout n) (IsOver passes)) (AreInVain passes request (suc n)) one other
    (λ older last a b. record { older = older; before = a; last = last; in_vain = b; is = refl }))

-- if a request is sent again after fewer transmissions in vain than the maximum, this can be the
-- last sending.
pub last_sending : (passes : Passes) (request : List ℕ) (n : ℕ) (before between after P : Calls) → n < most_sendings → MakesCalls before between (AreInVain passes request n)
    → MakesCalls between after (IsSending request (ack_timeout n) P) → MakesCalls before after (IsLastSending passes request P)
last_sending passes request n before between after P few one other =
    does_both before between after (AreInVain passes request n) (IsSending request (ack_timeout n) P) (IsLastSending passes request P) one other
    (λ older last a b. record { n = n; few = few; older = older; before = a; last = last; sending = b; is = refl })

-- if a request is acknowledged, and then a separate response is awaited, these calls are
-- `IsAcknowledgedFirst`.
acknowledged : (tells : Told) (answer : Option (List ℕ)) (before between begun after : Calls) → MakesCalls before between (IsAcknowledgedBy tells)
    → Adds between begun (Waits separate_wait ∷ []) → MakesCalls begun after (EndsAwaited tells answer) → MakesCalls before after (IsAcknowledgedFirst tells answer)
acknowledged tells answer before between begun after one adds other calls h =
    let a = one calls h in
    let b = other (Waits separate_wait ∷ a.more ++ calls) (adds (a.more ++ calls) a.is) in
    record {
      more = b.more ++ Waits separate_wait ∷ a.more;
      are = record { first = a.more; acknowledged = a.are; more = b.more; ends = b.are; is = refl };
      is = subst after (sym (append_assoc b.more (Waits separate_wait ∷ a.more) calls)) b.is;
    }

-- if a request is sent after n others with the wait for that number, these calls are a sending.
pub again : (request : List ℕ) (n seconds : ℕ) (between sent after P : Calls) → seconds ≡ ack_timeout n
    → Adds between sent (Waits seconds ∷ Sends request ∷ []) → MakesCalls sent after P → MakesCalls between after (IsSending request (ack_timeout n) P)
again request n seconds between sent after P twice adds one =
    sending request (ack_timeout n) between sent after P (subst (λ (s : ℕ). Adds between sent (Waits s ∷ Sends request ∷ [])) twice adds) one

-- if a confirmable request is sent after n transmissions in vain, and a response arrives without an
-- acknowledgement before it, the request has that response.
pub answered : (tells : Told) (request : List ℕ) (n : ℕ) (answer : List ℕ) (before between after : Calls) → n < most_sendings
    → MakesCalls before between (AreInVain (IsPassedOver tells false) request n) → MakesCalls between after (IsSending request (ack_timeout n) (IsAnsweredBy tells false answer))
    → MakesCalls before after (IsAskedAgain tells request (Some answer))
answered tells request n answer before between after few one other =
    last_sending (IsPassedOver tells false) request n before between after (EndsAnswered tells answer) few one
    (does_of between after (IsSending request (ack_timeout n) (IsAnsweredBy tells false answer)) (IsSending request (ack_timeout n) (EndsAnswered tells answer)) other
    (λ calls s. record { handled = s.handled; ends = inl s.ends; is = s.is }))

answered_later : (tells : Told) (request : List ℕ) (n : ℕ) (answer : Option (List ℕ)) (before between after : Calls) → n < most_sendings
    → MakesCalls before between (AreInVain (IsPassedOver tells false) request n) → MakesCalls between after (IsSending request (ack_timeout n) (IsAcknowledgedFirst tells answer))
    → MakesCalls before after (IsAskedAgain tells request answer)
answered_later tells request n None before between after few one other =
    let passes = IsPassedOver tells false in
    does_of before after (IsLastSending passes request (IsAcknowledgedFirst tells None)) (IsAskedAgain tells request None)
    (last_sending passes request n before between after (IsAcknowledgedFirst tells None) few one other) (λ calls s. inr s)
answered_later tells request n (Some answer) before between after few one other =
    last_sending (IsPassedOver tells false) request n before between after (EndsAnswered tells answer) few one
    (does_of between after (IsSending request (ack_timeout n) (IsAcknowledgedFirst tells (Some answer))) (IsSending request (ack_timeout n) (EndsAnswered tells answer)) other
    (λ calls s. record { handled = s.handled; ends = inr s.ends; is = s.is }))

-- if a confirmable request is acknowledged, and then a separate response is awaited, the calls are
-- those of its transmissions.
pub awaited : (tells : Told) (request : List ℕ) (n seconds : ℕ) (buffer : List ℕ) (before between sent handled begun after : Calls) → n < most_sendings
    → MakesCalls before between (AreInVain (IsPassedOver tells false) request n) → seconds ≡ ack_timeout n → Adds between sent (Waits seconds ∷ Sends request ∷ [])
    → MakesCalls sent handled (λ calls. (false ≡ false) × IsAcknowledgedBy tells calls) → Adds handled begun (Waits separate_wait ∷ []) → (r : Result (Option ℕ) FetchFault)
    → IfOk r (λ count. MakesCalls begun after (EndsAwaited tells (received_bytes buffer count))) → IfOk r (λ count. MakesCalls before after (IsAskedAgain tells request (received_bytes buffer count)))
awaited tells request n seconds buffer before between sent handled begun after few one twice adds came waits (Ok count) other =
    let answer = received_bytes buffer count in
    answered_later tells request n answer before between after few one
    (again request n seconds between sent after (IsAcknowledgedFirst tells answer) twice adds (acknowledged tells answer sent handled begun after
    (does_of sent handled (λ calls. (false ≡ false) × IsAcknowledgedBy tells calls) (IsAcknowledgedBy tells) came (λ calls h. h.1)) waits other))
awaited tells request n seconds buffer before between sent handled begun after few one twice adds came waits (Err fault) other = tt

pub in_vain_to_the_end : (tells : Told) (request : List ℕ) (n : ℕ) (before after : Calls) → n ≡ most_sendings
    → MakesCalls before after (AreInVain (IsPassedOver tells false) request n) → MakesCalls before after (IsAskedAgain tells request None)
in_vain_to_the_end tells request n before after five one =
    let passes = IsPassedOver tells false in
    does_of before after (AreInVain passes request most_sendings) (IsAskedAgain tells request None)
    (subst (λ (x : ℕ). MakesCalls before after (AreInVain passes request x)) five one) (λ calls s. inl s)

-- if a non-confirmable request is sent, and then the response is awaited, these calls are a
-- sending.
pub once : (tells : Told) (request buffer : List ℕ) (before between after : Calls) → Adds before between (Waits non_wait ∷ Sends request ∷ []) → (r : Result (Option ℕ) FetchFault)
    → IfOk r (λ count. MakesCalls between after (EndsAwaited tells (received_bytes buffer count)))
    → IfOk r (λ count. MakesCalls before after (IsSending request non_wait (EndsAwaited tells (received_bytes buffer count))))
once tells request buffer before between after adds (Ok count) one = sending request non_wait before between after (EndsAwaited tells (received_bytes buffer count)) adds one
once tells request buffer before between after adds (Err fault) one = tt

-- if a response arrives and is acknowledged, the calls are those of the request's transmission.
pub transmitted : (confirmable : Bool) (tells : Told) (request answer : List ℕ) (before between after : Calls) → MakesCalls before between (IsTransmitted confirmable tells request (Some answer))
    → Adds between after (acknowledges answer) → MakesCalls before after (IsTransmission confirmable tells request (Some answer))
transmitted confirmable tells request answer before between after one adds =
    does_then before between after (IsTransmitted confirmable tells request (Some answer)) (IsTransmission confirmable tells request (Some answer)) (acknowledges answer) one adds
    (λ asked a. record { asked = asked; is_asked = a; is = refl })

pub unanswered : (confirmable : Bool) (tells : Told) (request : List ℕ) (before after : Calls) → MakesCalls before after (IsTransmitted confirmable tells request None)
    → MakesCalls before after (IsTransmission confirmable tells request None)
unanswered confirmable tells request before after one =
    does_of before after (IsTransmitted confirmable tells request None) (IsTransmission confirmable tells request None) one (λ asked a. record { asked = asked; is_asked = a; is = refl })

-- if calls with `P` are made, and then calls with `Q`, calls with `P` and then `Q` are made.
pub both : (before between after P Q : Calls) → MakesCalls before between P → MakesCalls between after Q → MakesCalls before after (AreBehind P Q)
both before between after P Q one other =
    does_both before between after P Q (AreBehind P Q) one other (λ older newer a b. record { older = older; first = a; newer = newer; then = b; is = refl })

pub some_of : {A : Type 0} (o : Option A) (n : A) (P : A → Type 0) → o ≡ Some n → IfSome o P → P n
some_of {A} o n P some h = subst (λ (x : Option A). IfSome x P) some h

-- if the response that arrived is acknowledged, the request was transmitted, and this is the
-- response to it.
pub asked_for : (went came : List ℕ → Type 0) (before between after : Calls) (r : SentRequest) (count : ℕ) (buffer : List ℕ) (o : Option ℕ) (m : Message) → o ≡ Some count
    → IfSome o (λ n. (n ≤ length buffer) × HasResponse went came r (take n buffer))
    → MakesCalls before between (IsTransmitted r.confirmable (TellsSent r) r.datagram.now.items (received_bytes buffer o)) → reading_of (take count buffer) ≡ Ok m
    → (m.kind ≡ Confirmable → went (message_bytes (acknowledgement m.id))) → Adds between after (acknowledges_kind m.kind m.id) → IsAnsweredTransmission went came (MakesCalls before after) r m
asked_for went came before between after r count buffer o m some response called read acknowledged adds =
    let bytes = take count buffer in
    let own = some_of o count (λ n. (n ≤ length buffer) × HasResponse went came r (take n buffer)) some response in
    let same : own.1.message ≡ m = cc (own.1.is.read_is, read) in
    record {
      bytes = bytes;
      is = record {
        asked = subst (IsResponseTo went came r.confirmable r.id r.earlier.now r.datagram.now.items bytes) same own.1.is;
        acknowledged = acknowledged;
      };
      called = transmitted r.confirmable (TellsSent r) r.datagram.now.items bytes before between after
          (subst (λ x. MakesCalls before between (IsTransmitted r.confirmable (TellsSent r) r.datagram.now.items (received_bytes buffer x))) some called)
          (subst (λ x. Adds between after (acknowledges_read x)) (sym read) adds);
    }
