-- The time when the answer of a job is sent, and its stored bytes.
use Rattle.std.proofs.Common.{◌≡◌, ℕ, zero, suc, ◌+◌, ◌<◌, List, [], ◌∷◌, ◌++◌, length, map, set, Bool, true, false, Option, Some, None, refl, sym, ap, ◌∙◌, subst, ◌⊎◌, inl, inr, arith, max, if◌then◌else◌}
use Rattle.std.specs.Prelude.{is_some, nat_lt, ◌==◌}
use Rattle.std.proofs.lemmas.Bool.{and_from, and_parts, eq-eqb, ne_eqb, ltb-true, lt-ltb}
use Rattle.std.proofs.lemmas.List.{append-nil, length-map, map-append}
use Rattle.std.proofs.Math.Seq.{set-append_seam}
use Rattle.arrayvec.specs.ArrayVec.{ArrayVec}
use Rattle.coap_msg.specs.declared.types.Emission.{Emission}
use Rattle.coap_msg.specs.declared.types.Endpoint.{Endpoint}
use Rattle.coap_dedup.specs.Exchanges.{Exchange, answered_if}
use Rattle.coap_opts.specs.Verdict.{Asked, Verdict, IsAsked, IsRefused, IsSilent, IsReset, IsSignal, IsIgnored, verdict}
use Rattle.coap_msg.specs.Wire.{Message}
use Rattle.coap_block.specs.Uploads.{Add, Continues, IsWhole, IsIncomplete, IsBadLength, IsTooLarge, IsFull}
use Rattle.fc_ticket.specs.declared.job.Job.{Job}
use Rattle.fc_ticket.specs.declared.job.Opening.{Opening}
use Rattle.fc_front.specs.Contents.{Content}
use Rattle.fc_core.specs.declared.event.Event.{Event}
use Rattle.fc_core.specs.declared.event.Event.TheVariants.{Answer, Deliver}
use Rattle.fc_core.specs.Stage.{Stage}
use Rattle.fc_core.specs.Stage.{ToAnswer}
use Rattle.fc_front.specs.Exchanges.{FrontState, has_exchange, opening_is_live}
use Rattle.fc_laws.specs.ExchangeLaws.{HasExchange, Opens}
use Rattle.fc_core.specs.History.{Entry, History, BeginsWith, Then, Seen, seen, answered_in, did, exchanges_received, front_at, job, received_at, stage, at_front, exchanges_by}
use Rattle.fc_front.specs.Ids.{free_id}
use Rattle.fc_laws.specs.KeptLaws.{AnswersJob, HasId, answers, answers_with, emitted_bytes, exchange_of_job, opened_at}
use Rattle.fc_core.specs.Legal.{AnswerEmits, Emits, IsAnswered}
use Rattle.fc_front.specs.Policies.{is_allowed}
use Rattle.fc_front.specs.Receiving.{Received, Silenced, Refused, Opened, Immediate, add_in, id_in, kept_of, next_opening, opened_by, received_added, sent, received_if}
use Rattle.fc_core.specs.Stages.{content_at}
use Rattle.fc_laws.proofs.front.Repeats.{new_as, opened_none, opening_is}

-- ---- in time

overdue_by : (b : Bool) (id : Option ℕ) (j : Job) (c : Content) (e : Emission) → IsAnswered b id j c (Some e) → b ≡ true
overdue_by true id j c e w = refl
overdue_by false id j c e w = absurd (cc w)

overdue_at : (c : Option Content) (j : Job) (f : FrontState) (e : Emission) → AnswerEmits c j f (Some e) → f.now < j.origin.opening.at + 247000
overdue_at None j f e w = absurd (cc w)
overdue_at (Some c) j f e w = ltb-true f.now (j.origin.opening.at + 247000)
    (and_parts (has_exchange j.origin.opening) (nat_lt f.now (j.origin.opening.at + 247000)) (overdue_by (opening_is_live f.now j.origin.opening) (id_in f j.confirmable j.origin.id) j c e w)).1

pub in_window : (s : Seen) (k now : ℕ) (e : Emission) → Emits s (Answer k now) (Some e) → max s.time now < opened_at s k + 247000
in_window s k now e w = overdue_at (content_at (stage s k)) (job s k) (front_at s now) e w

id_by : (c : Bool) (id : ℕ) (f : FrontState) → (c ≡ true) ⊎ (is_some (free_id f.ids f.now) ≡ true) → is_some (id_in f c id) ≡ true
id_by true id f w = refl
id_by false id f (inl is) = absurd (cc is)
id_by false id f (inr is) = is

out_by : (b : Bool) (id : Option ℕ) (j : Job) (c : Content) (o : Option Emission) → b ≡ true → is_some id ≡ true → IsAnswered b id j c o → is_some o ≡ true
out_by true (Some id) j c (Some e) live has w = refl
out_by true (Some id) j c None live has w = absurd w
out_by true None j c o live has w = absurd (cc has)
out_by false id j c o live has w = absurd (cc live)

out_at : (c : Option Content) (content : Content) (j : Job) (f : FrontState) (o : Option Emission) → c ≡ Some content → HasExchange j → f.now < j.origin.opening.at + 247000 → (j.confirmable ≡ true) ⊎ (is_some (free_id f.ids f.now) ≡ true) → AnswerEmits c j f o → is_some o ≡ true
out_at None content j f o is opened lt has w = absurd (cc is)
out_at (Some c) content j f o is opened lt has w = out_by (opening_is_live f.now j.origin.opening) (id_in f j.confirmable j.origin.id) j c o
    (and_from (has_exchange j.origin.opening) (nat_lt f.now (j.origin.opening.at + 247000)) (lt-ltb j.origin.opening.number 18446744073709551615 opened) (lt-ltb f.now (j.origin.opening.at + 247000) lt)) (id_by j.confirmable j.origin.id f has) w

pub goes_out : (s : Seen) (k now : ℕ) (content : Content) (o : Option Emission) → stage s k ≡ ToAnswer content → HasExchange (job s k) → max s.time now < opened_at s k + 247000 → HasId s k now → Emits s (Answer k now) o → is_some o ≡ true
goes_out s k now content o is opened lt has w = out_at (content_at (stage s k)) content (job s k) (front_at s now) o (ap content_at is) opened lt has w

-- ---- numbers are positions

abbrev AreNumbered : ℕ → List Exchange → Type 0
AreNumbered from [] = Unit {0}
AreNumbered from (e ∷ es) = (e.number ≡ from) × AreNumbered (from + 1) es

answered_number : (b : Bool) (bytes : ArrayVec ℕ) (e : Exchange) → (answered_if b bytes e).number ≡ e.number
answered_number true bytes e = refl
answered_number false bytes e = refl

numbered_answered : (n : ℕ) (bytes : ArrayVec ℕ) (from : ℕ) (es : List Exchange) → AreNumbered from es → AreNumbered from (map (λ e. answered_if (e.number == n) bytes e) es)
numbered_answered n bytes from [] w = tt
numbered_answered n bytes from (e ∷ es) w = (answered_number (e.number == n) bytes e ∙ w.0, numbered_answered n bytes (from + 1) es w.1)

numbered_kept : (n : ℕ) (o : Option Emission) (es : List Exchange) → AreNumbered 0 es → AreNumbered 0 (answered_in n o es)
numbered_kept n None es w = w
numbered_kept n (Some em) es w = numbered_answered n em.bytes 0 es w

numbered_if : (b : Bool) (n : ℕ) (o : Option Emission) (es : List Exchange) → AreNumbered 0 es → AreNumbered 0 (if b then answered_in n o es else es)
numbered_if true n o es w = numbered_kept n o es w
numbered_if false n o es w = w

numbered_more : (from : ℕ) (es : List Exchange) (x : Received) (at : ℕ) (to : Endpoint) (number : ℕ) → AreNumbered from es → number ≡ from + length es → AreNumbered from (es ++ opened_by x (record { number = number; at = at }) to)
numbered_more from [] (Opened m asked body) at to number w is = (omega (arith, is), tt)
numbered_more from [] (Immediate m asked response) at to number w is = (omega (arith, is), tt)
numbered_more from [] (Silenced m) at to number w is = (omega (arith, is), tt)
numbered_more from [] (Refused m answer) at to number w is = (omega (arith, is), tt)
numbered_more from [] other at to number w is = tt
numbered_more from (e ∷ es) x at to number w is = (w.0, numbered_more (from + 1) es x at to number w.1 (omega (arith, is)))

numbered_by : (e : Event) (o : Option Emission) (s : Seen) → AreNumbered 0 s.exchanges → AreNumbered 0 (exchanges_by (at_front e) o s)
numbered_by (Deliver now to bytes) o s w = let x = received_at s now to bytes.now in
    numbered_kept (length s.exchanges) (kept_of x o) (s.exchanges ++ opened_by x (next_opening (front_at s now)) to) (numbered_more 0 s.exchanges x (max s.time now) to (length s.exchanges) w (omega arith))
numbered_by (Answer k now) o s w = numbered_if (is_some (content_at (stage s k))) (exchange_of_job s k) o s.exchanges w
numbered_by other o s w = w

pub numbered : (h : History) → AreNumbered 0 (seen h).exchanges
unfolding seen
numbered (BeginsWith stored id policy) = tt
numbered (Then h r) = numbered_by r.event r.emitted (seen h) (numbered h)

-- ---- stored answers

abbrev answer_of : Exchange → Option (ArrayVec ℕ)
answer_of e = e.answer

-- the answer of an exchange whose number is less than those of the list leaves the list's answers
-- unchanged.
past_answers : (n : ℕ) (bytes : ArrayVec ℕ) (from : ℕ) (es : List Exchange) → n < from → AreNumbered from es → map answer_of (map (λ e. answered_if (e.number == n) bytes e) es) ≡ map answer_of es
past_answers n bytes from [] lt w = refl
past_answers n bytes from (e ∷ es) lt w =
    ap (λ (b : Bool). (answered_if b bytes e).answer ∷ map answer_of (map (λ x. answered_if (x.number == n) bytes x) es)) (ne_eqb e.number n (λ q. omega (arith, w.0, q, lt)))
    ∙ ap (λ l. e.answer ∷ l) (past_answers n bytes (from + 1) es (omega (arith, lt)) w.1)

set_answers : (n : ℕ) (bytes : ArrayVec ℕ) (from : ℕ) (es : List Exchange) → AreNumbered from es → map answer_of (map (λ e. answered_if (e.number == from + n) bytes e) es) ≡ set (map answer_of es) n (Some bytes)
set_answers n bytes from [] w = refl
set_answers zero bytes from (e ∷ es) w =
    ap (λ (b : Bool). (answered_if b bytes e).answer ∷ map answer_of (map (λ x. answered_if (x.number == from + 0) bytes x) es)) (eq-eqb e.number (from + 0) (omega (arith, w.0)))
    ∙ ap (λ l. Some bytes ∷ l) (past_answers (from + 0) bytes (from + 1) es (omega arith) w.1)
set_answers (suc n) bytes from (e ∷ es) w =
    let same : from + suc n ≡ (from + 1) + n = omega arith in
    ap (λ (b : Bool). (answered_if b bytes e).answer ∷ map answer_of (map (λ x. answered_if (x.number == from + suc n) bytes x) es)) (ne_eqb e.number (from + suc n) (λ q. omega (arith, w.0, q)))
    ∙ (ap (λ (i : ℕ). e.answer ∷ map answer_of (map (λ x. answered_if (x.number == i) bytes x) es)) same
    ∙ ap (λ l. e.answer ∷ l) (set_answers n bytes (from + 1) es w.1))

kept_answers : (n : ℕ) (o : Option Emission) (es : List Exchange) → AreNumbered 0 es → map answer_of (answered_in n o es) ≡ answers_with o n (map answer_of es)
kept_answers n None es w = refl
kept_answers n (Some em) es w =
    let same : n ≡ 0 + n = omega arith in
    ap (λ (i : ℕ). map answer_of (map (λ e. answered_if (e.number == i) em.bytes e) es)) same ∙ set_answers n em.bytes 0 es w

answered_by : (c : Option Content) (content : Content) (n : ℕ) (o : Option Emission) (es : List Exchange) → c ≡ Some content → AreNumbered 0 es → map answer_of (if is_some c then answered_in n o es else es) ≡ answers_with o n (map answer_of es)
answered_by None content n o es is w = absurd (cc is)
answered_by (Some c) content n o es is w = kept_answers n o es w

pub job_keeps : (h : History) (k now : ℕ) (content : Content) (o : Option Emission) → stage (seen h) k ≡ ToAnswer content → answers (seen (Then h (did (Answer k now) o))) ≡ answers_with o (exchange_of_job (seen h) k) (answers (seen h))
unfolding seen
job_keeps h k now content o is = answered_by (content_at (stage (seen h) k)) content (exchange_of_job (seen h) k) o (seen h).exchanges (ap content_at is) (numbered h)

-- ---- a delivery

seam : (o : Option Emission) (kept : List (Option (ArrayVec ℕ))) (n : ℕ) → length kept ≡ n → answers_with o n (kept ++ None ∷ []) ≡ kept ++ emitted_bytes o ∷ []
seam None kept n len = refl
seam (Some em) kept n len = ap (λ (i : ℕ). set (kept ++ None ∷ []) i (Some em.bytes)) (sym len) ∙ set-append_seam kept None [] (Some em.bytes)

-- the datagram that is sent in response to a new request is stored in the exchange of the request.
abbrev KeepsSent : Received → FrontState → Endpoint → Opening → Type 0
KeepsSent x f to opening = (o : Option Emission) (kept : List (Option (ArrayVec ℕ))) (n : ℕ) → length kept ≡ n → o ≡ sent x f to → answers_with (kept_of x o) n (kept ++ map answer_of (opened_by x opening to)) ≡ kept ++ emitted_bytes o ∷ []

nothing_sent : (kept : List (Option (ArrayVec ℕ))) (o : Option Emission) → o ≡ None → kept ++ None ∷ [] ≡ kept ++ emitted_bytes o ∷ []
nothing_sent kept o is = ap (λ (x : Option Emission). kept ++ emitted_bytes x ∷ []) (sym is)

added_keeps : (a : Add) (m : Message) (r : Asked) (f : FrontState) (to : Endpoint) (opening : Opening) → KeepsSent (received_added a m r) f to opening
added_keeps (IsWhole body) m r f to opening o kept n len is = nothing_sent kept o is
added_keeps Continues m r f to opening o kept n len is = seam o kept n len
added_keeps IsIncomplete m r f to opening o kept n len is = seam o kept n len
added_keeps IsBadLength m r f to opening o kept n len is = seam o kept n len
added_keeps IsTooLarge m r f to opening o kept n len is = seam o kept n len
added_keeps IsFull m r f to opening o kept n len is = seam o kept n len

asked_keeps : (b : Bool) (m : Message) (r : Asked) (f : FrontState) (to : Endpoint) (opening : Opening) → KeepsSent (received_if b f to m r) f to opening
asked_keeps true m r f to opening = added_keeps (add_in f to r) m r f to opening
asked_keeps false m r f to opening = λ o kept n len is. seam o kept n len

new_keeps : (v : Verdict) (m : Message) (f : FrontState) (to : Endpoint) (opening : Opening) → KeepsSent (new_as f to v m) f to opening
new_keeps (IsAsked asked) m f to opening = asked_keeps (is_allowed f.managers to asked.action) m asked f to opening
new_keeps (IsRefused answer) m f to opening = λ o kept n len is. seam o kept n len
new_keeps IsSilent m f to opening = λ o kept n len is. nothing_sent kept o is
new_keeps IsReset m f to opening = λ o kept n len is. nothing_sent kept o is
new_keeps (IsSignal reset) m f to opening = λ o kept n len is. nothing_sent kept o is
new_keeps IsIgnored m f to opening = λ o kept n len is. nothing_sent kept o is

received_answers : (s : Seen) (now : ℕ) (to : Endpoint) (x : Received) (o : Option Emission) → AreNumbered 0 s.exchanges → map answer_of (exchanges_received x to o s now) ≡ answers_with (kept_of x o) (length s.exchanges) (answers s ++ map answer_of (opened_by x (next_opening (front_at s now)) to))
received_answers s now to x o w =
    let new = opened_by x (next_opening (front_at s now)) to in
    kept_answers (length s.exchanges) (kept_of x o) (s.exchanges ++ new) (numbered_more 0 s.exchanges x (max s.time now) to (length s.exchanges) w (omega arith))
    ∙ ap (answers_with (kept_of x o) (length s.exchanges)) (map-append answer_of s.exchanges new)

opened_keeps : (s : Seen) (e : Event) (o : Option Emission) → AreNumbered 0 s.exchanges → Opens s e → Emits s e o → map answer_of (exchanges_by (at_front e) o s) ≡ answers s ++ emitted_bytes o ∷ []
opened_keeps s (Deliver now to bytes) o w opens legal =
    received_answers s now to (received_at s now to bytes.now) o w
    ∙ subst (λ (x : Received). KeepsSent x (front_at s now) to (next_opening (front_at s now))) (sym (opening_is s now to bytes.now opens)) (new_keeps (verdict opens.message) opens.message (front_at s now) to (next_opening (front_at s now))) o (answers s) (length s.exchanges) (length-map s.exchanges answer_of) legal
opened_keeps s other o w opens legal = absurd opens

pub delivery_keeps : (h : History) (r : Entry) → Opens (seen h) r.event → Emits (seen h) r.event r.emitted → answers (seen (Then h r)) ≡ answers (seen h) ++ emitted_bytes r.emitted ∷ []
unfolding seen
delivery_keeps h r opens legal = opened_keeps (seen h) r.event r.emitted (numbered h) opens legal

-- ---- other events

none_kept : (x : Received) (o : Option Emission) (opening : Opening) (to : Endpoint) → length (opened_by x opening to) ≡ 0 → kept_of x o ≡ None
none_kept (Opened m asked body) o opening to none = refl
none_kept (Immediate m asked response) o opening to none = absurd (cc none)
none_kept (Refused m answer) o opening to none = absurd (cc none)
none_kept other o opening to none = refl

none_opened : (kept : List (Option (ArrayVec ℕ))) (es : List Exchange) → length es ≡ 0 → kept ++ map answer_of es ≡ kept
none_opened kept [] none = append-nil kept
none_opened kept (e ∷ es) none = absurd (cc none)

not_answered : (st : Stage) (o : Option Emission) (n : ℕ) (es : List Exchange) → ((content : Content) → st ≡ ToAnswer content → ⊥) → map answer_of (if is_some (content_at st) then answered_in n o es else es) ≡ map answer_of es
not_answered (ToAnswer content) o n es never = absurd (never content refl)
not_answered other o n es never = refl

others_keep : (s : Seen) (e : Event) (o : Option Emission) → AreNumbered 0 s.exchanges → (Opens s e → ⊥) → (AnswersJob s e → ⊥) → map answer_of (exchanges_by (at_front e) o s) ≡ answers s
others_keep s (Deliver now to bytes) o w not never =
    let x = received_at s now to bytes.now in
    let none = opened_none s now to bytes.now not in
    received_answers s now to x o w
    ∙ (ap (λ (k : Option Emission). answers_with k (length s.exchanges) (answers s ++ map answer_of (opened_by x (next_opening (front_at s now)) to))) (none_kept x o (next_opening (front_at s now)) to none)
    ∙ none_opened (answers s) (opened_by x (next_opening (front_at s now)) to) none)
others_keep s (Answer k now) o w not never = not_answered (stage s k) o (exchange_of_job s k) s.exchanges (λ content at. never (record { number = k; now = now; content = content; event = refl; at = at }))
others_keep s other o w not never = refl

pub others_keep_answers : (h : History) (r : Entry) → (Opens (seen h) r.event → ⊥) → (AnswersJob (seen h) r.event → ⊥) → answers (seen (Then h r)) ≡ answers (seen h)
unfolding seen
others_keep_answers h r not never = others_keep (seen h) r.event r.emitted (numbered h) not never
