-- The schedule of a request that is transmitted.
use Rattle.std.proofs.Common.{◌≡◌, ℕ, zero, suc, ◌+◌, ◌-◌, ◌*◌, ◌<◌, ◌⊎◌, inl, inr, Bool, true, false, List, [], ◌∷◌, ◌++◌, Result, Ok, Err, Option, Some, None, refl, sym, ap, subst, ◌∙◌, append_assoc, arith, cond}
use Rattle.std.specs.Prelude.{◌==◌, ◌≤◌, drop, not, sum_by}
use Rattle.std.proofs.lemmas.Bool.{eqb-true, false_from_ne_true}
use Rattle.std.proofs.lemmas.List.Elements.{filter-append}
use Rattle.std.proofs.lemmas.List.Sums.{sum_by-cons}
use Rattle.coap_msg.specs.Reading.{reading_of}
use Rattle.coap_msg.specs.Wire.{Message, message_bytes}
use Rattle.coap_msg.specs.declared.types.Bad.{Bad}
use Rattle.coap_msg.specs.declared.types.MessageType.{MessageType}
use Rattle.coap_msg.specs.declared.types.MessageType.TheVariants.{Acknowledgement, Confirmable, NonConfirmable, Reset}
use Rattle.coap_client.specs.declared.transmission.ReplyClass.{ReplyClass}
use Rattle.coap_client.specs.declared.transmission.ReplyClass.TheVariants.{Reply, Separate, Repeat, Acknowledged, Rejected, Other}
use Rattle.coap_client.specs.Listening.{ArePassedOver, EndsOn, IsOver, IsPassedOver, acknowledges, acknowledges_kind, acknowledges_read, sent_behind}
use Rattle.coap_client.specs.PeerCalls.{PeerCall, Sends, Waits, Receives}
use Rattle.coap_client.specs.Faults.{EndsRejected, IsRejection}
use Rattle.coap_client.specs.Schedules.{AwaitsResponse, BeginsSchedule, full_schedule, has_code, is_scheduled, schedule, seconds_in, seconds_of}
use Rattle.coap_client.specs.Transmissions.{ack_timeout, acknowledges_answer, AreInVain, EndsAnswered, EndsAwaited, IsAcknowledgedFirst, IsLastSending, IsSending, IsTransmission}

-- the schedule of two joined lists of calls is the schedules of both, joined.
pub both : (xs ys newer older : List PeerCall) → schedule xs ≡ newer → schedule ys ≡ older → schedule (xs ++ ys) ≡ newer ++ older
both xs ys newer older x y = filter-append is_scheduled xs ys ∙ ap (λ (l : List PeerCall). l ++ schedule ys) x ∙ ap (λ (l : List PeerCall). newer ++ l) y

-- an acknowledgement isn't part of a schedule.
acknowledgement_of : (kind : MessageType) (id : ℕ) → schedule (acknowledges_kind kind id) ≡ []
acknowledgement_of Confirmable id = refl
acknowledgement_of NonConfirmable id = refl
acknowledgement_of Acknowledgement id = refl
acknowledgement_of Reset id = refl

acknowledgement_read : (r : Result Message Bad) → schedule (acknowledges_read r) ≡ []
acknowledgement_read (Ok m) = acknowledgement_of m.kind m.id
acknowledgement_read (Err bad) = refl

pub acknowledgement : (bytes : List ℕ) → schedule (acknowledges bytes) ≡ []
acknowledgement bytes = acknowledgement_read (reading_of bytes)

acknowledgement_behind : (handled : ReplyClass) (bytes : List ℕ) → schedule (sent_behind handled bytes) ≡ []
acknowledgement_behind Reply bytes = refl
acknowledgement_behind Separate bytes = refl
acknowledgement_behind Repeat bytes = acknowledgement bytes
acknowledgement_behind Acknowledged bytes = refl
acknowledgement_behind Rejected bytes = refl
acknowledgement_behind Other bytes = refl

acknowledgement_of_answer : (answer : Option (List ℕ)) → schedule (acknowledges_answer answer) ≡ []
acknowledgement_of_answer None = refl
acknowledgement_of_answer (Some answer) = acknowledgement answer

-- the calls after a skipped datagram aren't part of a schedule.
abbrev pub IsQuiet : (List ℕ → List PeerCall → Type 0) → Type 0
IsQuiet passes = (bytes : List ℕ) (sent : List PeerCall) → passes bytes sent → schedule sent ≡ []

request_is_quiet : (tells : List ℕ → ReplyClass → Type 0) (awaited : Bool) → IsQuiet (IsPassedOver tells awaited)
request_is_quiet tells awaited bytes sent p = ap schedule p.sent_is ∙ acknowledgement_behind p.handled bytes

-- the calls for skipped datagrams during a wait aren't part of a schedule.
passed : (passes : List ℕ → List PeerCall → Type 0) → IsQuiet passes → (n : ℕ) (calls : List PeerCall) → ArePassedOver passes n calls → schedule calls ≡ []
passed passes quiet zero calls none = ap schedule none
passed passes quiet (suc n) calls one =
    ap schedule one.is
    ∙ both one.sent (Receives (Some one.bytes) ∷ one.older) [] [] (quiet one.bytes one.sent one.passed) (passed passes quiet n one.older one.before)

pub over : (passes : List ℕ → List PeerCall → Type 0) → IsQuiet passes → (calls : List PeerCall) → IsOver passes calls → schedule calls ≡ []
over passes quiet calls o = elim o.is as (λ _. schedule calls ≡ []) [
  | inl timed ↦ ap schedule timed ∙ passed passes quiet o.n o.older o.before
  | inr full ↦ ap schedule full.0 ∙ passed passes quiet o.n o.older o.before
]

pub ended : (passes : List ℕ → List PeerCall → Type 0) → IsQuiet passes → (bytes : List ℕ) (calls : List PeerCall) → EndsOn passes bytes calls → schedule calls ≡ []
ended passes quiet bytes calls e = ap schedule e.is ∙ passed passes quiet e.n e.older e.before

-- the calls during a wait for a separate response aren't part of a schedule.
awaited : (tells : List ℕ → ReplyClass → Type 0) (answer : Option (List ℕ)) (handled : List PeerCall) → EndsAwaited tells answer handled → schedule handled ≡ []
awaited tells None handled ends = over (IsPassedOver tells true) (request_is_quiet tells true) handled ends
awaited tells (Some answer) handled ends = ended (IsPassedOver tells true) (request_is_quiet tells true) answer handled ends.1

-- if a request is acknowledged, the schedule has one more wait, of 93 seconds.
acknowledged : (tells : List ℕ → ReplyClass → Type 0) (answer : Option (List ℕ)) (handled : List PeerCall) → IsAcknowledgedFirst tells answer handled → schedule handled ≡ Waits 93 ∷ []
acknowledged tells answer handled a =
    ap schedule a.is
    ∙ both a.more (Waits 93 ∷ a.first) [] (Waits 93 ∷ []) (awaited tells answer a.more a.ends)
    (ap (λ (l : List PeerCall). Waits 93 ∷ l) (ended (IsPassedOver tells false) (request_is_quiet tells false) a.acknowledged.0 a.first a.acknowledged.2))

-- the acknowledgement of the response adds nothing to the schedule of a transmission.
taken : (confirmable : Bool) (tells : List ℕ → ReplyClass → Type 0) (request : List ℕ) (answer : Option (List ℕ)) (calls : List PeerCall) (t : IsTransmission confirmable tells request answer calls)
    → schedule calls ≡ schedule t.asked
taken confirmable tells request answer calls t =
    ap schedule t.is ∙ both (acknowledges_answer answer) t.asked [] (schedule t.asked) (acknowledgement_of_answer answer) refl

-- ---- a message that isn't empty
module _ (m : Message) (coded : m.code ≡ 0 → ⊥) where
  abbrev request : List ℕ
  request = message_bytes m

  has_own_code : has_code request ≡ true
  has_own_code = ap not (false_from_ne_true (m.code == 0) (λ e. coded (eqb-true m.code 0 e)))

  -- the schedule of a sending is that of the calls after it, the wait, and the request.
  sent : (seconds : ℕ) (P : List PeerCall → Type 0) (calls newer : List PeerCall) (s : IsSending request seconds P calls) → schedule s.handled ≡ newer → schedule calls ≡ newer ++ Waits seconds ∷ Sends request ∷ []
  sent seconds P calls newer s handled =
      ap schedule s.is
      ∙ both s.handled (Waits seconds ∷ Sends request ∷ []) newer (Waits seconds ∷ Sends request ∷ []) handled (ap (λ (b : Bool). Waits seconds ∷ cond b (Sends request ∷ []) []) has_own_code)

  -- the calls of the first n of the five transmissions.
  abbrev first_of : ℕ → List PeerCall
  first_of n = drop (2 * (5 - n)) (full_schedule request)

  one_more : (n : ℕ) → n < 5 → Waits (ack_timeout n) ∷ Sends request ∷ first_of n ≡ first_of (n + 1)
  one_more zero few = refl
  one_more (suc zero) few = refl
  one_more (suc (suc zero)) few = refl
  one_more (suc (suc (suc zero))) few = refl
  one_more (suc (suc (suc (suc zero)))) few = refl
  one_more (suc (suc (suc (suc (suc n))))) few = absurd (omega (arith, few))

  once_more : (n : ℕ) (P : List PeerCall → Type 0) (calls older last newer : List PeerCall) → n < 5 → schedule older ≡ first_of n → (s : IsSending request (ack_timeout n) P last)
      → schedule s.handled ≡ newer → calls ≡ last ++ older → schedule calls ≡ newer ++ first_of (n + 1)
  once_more n P calls older last newer few before s handled is =
      ap schedule is
      ∙ both last older (newer ++ Waits (ack_timeout n) ∷ Sends request ∷ []) (first_of n) (sent (ack_timeout n) P last newer s handled) before
      ∙ append_assoc newer (Waits (ack_timeout n) ∷ Sends request ∷ []) (first_of n)
      ∙ ap (λ (l : List PeerCall). newer ++ l) (one_more n few)

  pub in_vain : (passes : List ℕ → List PeerCall → Type 0) → IsQuiet passes → (n : ℕ) (calls : List PeerCall) → n < 6 → AreInVain passes request n calls → schedule calls ≡ first_of n
  in_vain passes quiet zero calls few none = ap schedule none
  in_vain passes quiet (suc n) calls few again =
      once_more n (IsOver passes) calls again.older again.last [] (omega (arith, few)) (in_vain passes quiet n again.older (omega (arith, few)) again.before) again.in_vain
      (over passes quiet again.in_vain.handled again.in_vain.ends) again.is
      ∙ ap first_of (omega arith)

  -- the schedule of a last sending is that of the calls after it, and the first n + 1
  -- transmissions.
  last : (passes : List ℕ → List PeerCall → Type 0) → IsQuiet passes → (P : List PeerCall → Type 0) (calls newer : List PeerCall) (s : IsLastSending passes request P calls)
      → schedule s.sending.handled ≡ newer → schedule calls ≡ newer ++ first_of (s.n + 1)
  last passes quiet P calls newer s handled =
      let few = s.few in
      once_more s.n P calls s.older s.last newer few (in_vain passes quiet s.n s.older (omega (arith, few)) s.before) s.sending handled s.is

  begins : (n : ℕ) → n < 5 → BeginsSchedule request (first_of (n + 1))
  begins n few = (5 - (n + 1), omega (arith, few), refl)

  -- if the calls after a last sending add nothing to the schedule, the schedule is the first
  -- transmissions, at least one.
  pub begun : (passes : List ℕ → List PeerCall → Type 0) → IsQuiet passes → (P : List PeerCall → Type 0) (calls : List PeerCall) (s : IsLastSending passes request P calls)
      → schedule s.sending.handled ≡ [] → BeginsSchedule request (schedule calls)
  begun passes quiet P calls s handled = subst (BeginsSchedule request) (sym (last passes quiet P calls [] s handled)) (begins s.n s.few)

  begun_later : (passes : List ℕ → List PeerCall → Type 0) → IsQuiet passes → (P : List PeerCall → Type 0) (calls : List PeerCall) (s : IsLastSending passes request P calls)
      → schedule s.sending.handled ≡ Waits 93 ∷ [] → AwaitsResponse request (schedule calls)
  begun_later passes quiet P calls s handled = (first_of (s.n + 1), begins s.n s.few, last passes quiet P calls (Waits 93 ∷ []) s handled)

  -- ---- transmissions

  pub unanswered : (tells : List ℕ → ReplyClass → Type 0) (calls : List PeerCall) → IsTransmission true tells request None calls
      → (schedule calls ≡ full_schedule request) ⊎ AwaitsResponse request (schedule calls)
  unanswered tells calls t =
      let passes = IsPassedOver tells false in
      let quiet = request_is_quiet tells false in
      let own = sym (taken true tells request None calls t) in
      subst (λ (l : List PeerCall). (l ≡ full_schedule request) ⊎ AwaitsResponse request l) own (elim t.is_asked as (λ _. (schedule t.asked ≡ full_schedule request) ⊎ AwaitsResponse request (schedule t.asked)) [
        | inl all ↦ inl (in_vain passes quiet 5 t.asked (omega arith) all)
        | inr s ↦ inr (begun_later passes quiet (IsAcknowledgedFirst tells None) t.asked s (acknowledged tells None s.sending.handled s.sending.ends))
      ])

  pub answered : (tells : List ℕ → ReplyClass → Type 0) (answer : List ℕ) (calls : List PeerCall) → IsTransmission true tells request (Some answer) calls
      → BeginsSchedule request (schedule calls) ⊎ AwaitsResponse request (schedule calls)
  answered tells answer calls t =
      let passes = IsPassedOver tells false in
      let quiet = request_is_quiet tells false in
      let own = sym (taken true tells request (Some answer) calls t) in
      let s = t.is_asked in
      subst (λ (l : List PeerCall). BeginsSchedule request l ⊎ AwaitsResponse request l) own (elim s.sending.ends as (λ _. BeginsSchedule request (schedule t.asked) ⊎ AwaitsResponse request (schedule t.asked)) [
        | inl at_once ↦ inl (begun passes quiet (EndsAnswered tells answer) t.asked s (ended passes quiet answer s.sending.handled at_once.1))
        | inr later ↦ inr (begun_later passes quiet (EndsAnswered tells answer) t.asked s (acknowledged tells (Some answer) s.sending.handled later))
      ])

  pub sent_once : (tells : List ℕ → ReplyClass → Type 0) (answer : Option (List ℕ)) (calls : List PeerCall) → IsTransmission false tells request answer calls
      → schedule calls ≡ Waits 32 ∷ Sends request ∷ []
  sent_once tells answer calls t =
      taken false tells request answer calls t ∙ sent 32 (EndsAwaited tells answer) t.asked [] t.is_asked (awaited tells answer t.is_asked.handled t.is_asked.ends)

  -- ---- rejections, and requests without a response

  rejected_at : (tells : List ℕ → ReplyClass → Type 0) (handled : List PeerCall) → EndsRejected tells handled → (schedule handled ≡ []) ⊎ (schedule handled ≡ Waits 93 ∷ [])
  rejected_at tells handled (inl at_once) = inl (ended (IsPassedOver tells false) (request_is_quiet tells false) at_once.0 handled at_once.2)
  rejected_at tells handled (inr later) = inr (
      ap schedule later.is
      ∙ both later.more (Waits 93 ∷ later.first) [] (Waits 93 ∷ [])
      (ended (IsPassedOver tells true) (request_is_quiet tells true) later.rejected.0 later.more later.rejected.2)
      (ap (λ (l : List PeerCall). Waits 93 ∷ l) (ended (IsPassedOver tells false) (request_is_quiet tells false) later.acknowledged.0 later.first later.acknowledged.2)))

  pub rejected : (tells : List ℕ → ReplyClass → Type 0) (calls : List PeerCall) → IsRejection true tells request calls
      → BeginsSchedule request (schedule calls) ⊎ AwaitsResponse request (schedule calls)
  rejected tells calls s =
      let passes = IsPassedOver tells false in
      let quiet = request_is_quiet tells false in
      elim (rejected_at tells s.sending.handled s.sending.ends) as (λ _. BeginsSchedule request (schedule calls) ⊎ AwaitsResponse request (schedule calls)) [
        | inl at_once ↦ inl (begun passes quiet (EndsRejected tells) calls s at_once)
        | inr later ↦ inr (begun_later passes quiet (EndsRejected tells) calls s later)
      ]

  -- if no response arrived, the waits are at least 62 seconds together.
  pub waited_for : (calls : List PeerCall) → (schedule calls ≡ full_schedule request) ⊎ AwaitsResponse request (schedule calls) → 62 ≤ seconds_in calls
  waited_for calls (inl all) = let seconds : seconds_in calls ≡ 62 = ap (λ (l : List PeerCall). sum_by seconds_of l) all in omega (arith, seconds)
  waited_for calls (inr later) =
      let seconds : seconds_in calls ≡ 93 + sum_by seconds_of later.0 =
      ap (λ (l : List PeerCall). sum_by seconds_of l) later.2 ∙ sum_by-cons seconds_of (Waits 93) later.0 in
      omega (arith, seconds)
