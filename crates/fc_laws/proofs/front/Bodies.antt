-- Bodies in blocks: the times of added payloads never decrease, and a request is served with the
-- complete body.
use Rattle.std.proofs.Common.{◌≡◌, ℕ, ◌<◌, ◌≤◌, ◌∙◌, min, max, Bool, true, false, if◌then◌else◌, List, [], ◌∷◌, ◌++◌, map, Option, Some, Result, Ok, Err, refl, sym, ap, subst, arith}
use Rattle.std.specs.Prelude.{is_some}
use Rattle.std.proofs.Math.Nat.{le-max_left, min-eq_left}
use Rattle.std.proofs.lemmas.List.{append-nil}
use Rattle.coap_msg.specs.declared.types.Bad.{Bad}
use Rattle.coap_msg.specs.declared.types.Bad.TheVariants as bad
use Rattle.coap_msg.specs.declared.types.Emission.{Emission}
use Rattle.coap_msg.specs.declared.types.Endpoint.{Endpoint}
use Rattle.coap_msg.specs.Codes.{code}
use Rattle.coap_msg.specs.Reading.{reading_of}
use Rattle.coap_msg.specs.Wire.{Message}
use Rattle.coap_opts.specs.Values.{Place}
use Rattle.coap_opts.specs.Verdict.{Asked, Verdict, IsAsked, IsRefused, IsSilent, IsReset, IsSignal, IsIgnored, verdict}
use Rattle.coap_dedup.specs.Exchanges.{Look, IsNew, IsBusy, IsAgain, IsSilent as IsAnsweredNon, IsFull as IsTableFull, IsOverShare}
use Rattle.coap_block.specs.Cuts.{cut_at}
use Rattle.coap_block.specs.Transfers.{Addition, transfers}
use Rattle.coap_block.specs.UnderWay.{FitsBehind, RisesTo}
use Rattle.coap_block.specs.Uploads.{Add, add_of, block_added, Continues, IsWhole, IsIncomplete, IsBadLength, IsTooLarge, IsFull}
use Rattle.fc_ticket.specs.declared.job.Ask.TheVariants.{Install as Installs}
use Rattle.fc_ticket.specs.declared.job.Opening.{Opening}
use Rattle.fc_core.specs.declared.event.Event.{Event}
use Rattle.fc_core.specs.declared.event.Event.TheVariants.{Deliver, Answer, Fire, Fresh, Tick}
use Rattle.coap_reply.specs.Blocks.{cut_for}
use Rattle.fc_laws.specs.BodyLaws.{Asks, BringsInstall, FitsBy, IsAskedAnew, PutsBlock, addition_at, addition_by, asked_at, continue_by}
use Rattle.fc_laws.specs.ExchangeLaws.{IsOnRequest}
use Rattle.fc_core.specs.History.{Entry, History, BeginsWith, Then, Seen, and_then, did, front_at, received_at, seen, stage, at_front, time_by, additions_by}
use Rattle.fc_core.specs.Legal.{Emits}
use Rattle.fc_front.specs.Policies.{is_allowed}
use Rattle.fc_front.specs.Receiving.{Received, Silenced, Refused, Immediate, Opened, add_in, added_by, addition_of, ask_by, brought, is_confirmable, job_of, look_in, looked, next_opening, over_share, received_added, received_as, received_read, request_received, sent, slot_asked, received_if, initial_vars_by}
use Rattle.coap_reply.specs.Responses.{settled_by}
use Rattle.fc_core.specs.Stages.{content_at, needs_id, new_task}
use Rattle.fc_laws.proofs.front.Repeats.{new_as, opening_is, opening_of, received_of}

-- ---- times

pub rises_later : (now later : ℕ) (h : List Addition) → now ≤ later → RisesTo now h → RisesTo later h
rises_later now later [] le w = tt
rises_later now later (a ∷ h) le w = (omega (arith, w.0), w.1)

with_added : (x : Received) (at : ℕ) (to : Endpoint) (h : List Addition) → RisesTo at h → RisesTo at (added_by x at to ++ h)
with_added (Opened m asked body) at to h w = (omega arith, w)
with_added (Immediate m asked response) at to h w = (omega arith, w)
with_added other at to h w = w

answered_rises : (answers : Bool) (time now : ℕ) (h : List Addition) → RisesTo time h → RisesTo (if answers then max time now else time) h
answered_rises true time now h w = rises_later time (max time now) h (le-max_left time now) w
answered_rises false time now h w = w

rises_on : (e : Event) (s : Seen) → RisesTo s.time s.additions → RisesTo (time_by (at_front e) s) (additions_by (at_front e) s ++ s.additions)
rises_on (Deliver now to bytes) s w = with_added (received_at s now to bytes.now) (max s.time now) to s.additions (rises_later s.time (max s.time now) s.additions (le-max_left s.time now) w)
rises_on (Answer k now) s w = answered_rises (is_some (content_at (stage s k))) s.time now s.additions w
rises_on (Fresh k now) s w = answered_rises (needs_id (stage s k)) s.time now s.additions w
rises_on (Fire slot now) s w = rises_later s.time (max s.time now) s.additions (le-max_left s.time now) w
rises_on (Tick now) s w = rises_later s.time (max s.time now) s.additions (le-max_left s.time now) w
rises_on other s w = w

pub rises : (h : History) → RisesTo (seen h).time (seen h).additions
unfolding seen
rises (BeginsWith stored id policy) = tt
rises (Then h r) = rises_on r.event (seen h) (rises h)

pub rises_at : (h : History) (now : ℕ) → RisesTo (max (seen h).time now) (seen h).additions
rises_at h now = rises_later (seen h).time (max (seen h).time now) (seen h).additions (le-max_left (seen h).time now) (rises h)

-- ---- served requests, and continued ones

pub is_whole : (x : Add) (m : Message) (r : Asked) (body : List ℕ) → received_added x m r ≡ Opened m r body → x ≡ IsWhole body
is_whole (IsWhole bytes) m r body e = cc e
is_whole Continues m r body e = absurd (cc e)
is_whole IsIncomplete m r body e = absurd (cc e)
is_whole IsBadLength m r body e = absurd (cc e)
is_whole IsTooLarge m r body e = absurd (cc e)
is_whole IsFull m r body e = absurd (cc e)

pub is_opened : (x : Add) (m : Message) (r : Asked) (body : List ℕ) → x ≡ IsWhole body → received_added x m r ≡ Opened m r body
is_opened x m r body e = ap (λ (x : Add). received_added x m r) e

-- the code of the response that is sent immediately.
abbrev pub settled_code : Received → ℕ
settled_code (Immediate m r response) = response.code
settled_code other = 0

pub goes_on : (x : Add) (m : Message) (r : Asked) (b : Place) → received_added x m r ≡ Immediate m r (settled_by (code 2 31) (Some b)) → x ≡ Continues
goes_on (IsWhole bytes) m r b e = absurd (cc e)
goes_on Continues m r b e = refl
goes_on IsIncomplete m r b e = let same : code 4 8 ≡ code 2 31 = ap settled_code e in absurd (omega (arith, same))
goes_on IsBadLength m r b e = let same : code 4 0 ≡ code 2 31 = ap settled_code e in absurd (omega (arith, same))
goes_on IsTooLarge m r b e = let same : code 4 13 ≡ code 2 31 = ap settled_code e in absurd (omega (arith, same))
goes_on IsFull m r b e = let same : code 5 3 ≡ code 2 31 = ap settled_code e in absurd (omega (arith, same))

pub is_continued : (x : Add) (m : Message) (r : Asked) (b : Place) → r.block1 ≡ Some b → x ≡ Continues → received_added x m r ≡ Immediate m r (settled_by (code 2 31) (Some b))
is_continued x m r b is e = ap (λ (x : Add). received_added x m r) e ∙ ap (λ (block : Option Place). Immediate m r (settled_by (code 2 31) block)) is

-- the result of adding the payload of a new request with a block is that of adding the block.
pub added_block : (s : Seen) (now : ℕ) (to : Endpoint) (r : Asked) (b : Place) → r.block1 ≡ Some b → add_of (transfers s.additions) (max s.time now) to (slot_asked r.action) r.block1 r.payload ≡ block_added (transfers s.additions) (max s.time now) to (slot_asked r.action) b r.payload
added_block s now to r b is = ap (λ (block : Option Place). add_of (transfers s.additions) (max s.time now) to (slot_asked r.action) block r.payload) is

-- ---- added payloads

-- the classification of a new request is determined by the result of adding its payload.
pub anew_is : (s : Seen) (now : ℕ) (to : Endpoint) (bytes : List ℕ) (m : Message) (r : Asked) → IsAskedAnew s now to bytes m r → received_at s now to bytes ≡ asked_at s now to m r
anew_is s now to bytes m r w =
    let message : w.opens.message ≡ m = cc (sym w.opens.read ∙ w.read) in
    opening_is s now to bytes w.opens
    ∙ (ap (λ (x : Message). new_as (front_at s now) to (verdict x) x) message
    ∙ (ap (λ (v : Verdict). new_as (front_at s now) to v m) w.asks
    ∙ ap (λ (b : Bool). received_if b (front_at s now) to m r) w.allowed))

-- whatever the result of adding the payload of a new request, the payload is added.
added_anyway : (x : Add) (m : Message) (r : Asked) (at : ℕ) (to : Endpoint) → added_by (received_added x m r) at to ≡ addition_of at to r ∷ []
added_anyway Continues m r at to = refl
added_anyway (IsWhole body) m r at to = refl
added_anyway IsIncomplete m r at to = refl
added_anyway IsBadLength m r at to = refl
added_anyway IsTooLarge m r at to = refl
added_anyway IsFull m r at to = refl

asked_adds : (s : Seen) (e : Event) (m : Message) (r : Asked) → Asks s e m r → additions_by (at_front e) s ≡ addition_by s e r
asked_adds s (Deliver now to bytes) m r w =
    ap (λ (x : Received). added_by x (max s.time now) to) (anew_is s now to bytes.now m r w)
    ∙ added_anyway (add_in (front_at s now) to r) m r (max s.time now) to
asked_adds s other m r w = absurd w

pub requests_add : (e : Entry) (s : Seen) (m : Message) (r : Asked) → Asks s e.event m r → (and_then e s).additions ≡ addition_by s e.event r ++ s.additions
requests_add e s m r w = ap (λ (l : List Addition). l ++ s.additions) (asked_adds s e.event m r w)

over_adds : (c : Bool) (m : Message) (at : ℕ) (to : Endpoint) → added_by (over_share c m) at to ≡ []
over_adds true m at to = refl
over_adds false m at to = refl

looked_adds : (l : Look) (m : Message) (new : Received) (at : ℕ) (to : Endpoint) → (l ≡ IsNew → added_by new at to ≡ []) → added_by (looked l m new) at to ≡ []
looked_adds IsNew m new at to none = none refl
looked_adds IsBusy m new at to none = refl
looked_adds IsAnsweredNon m new at to none = refl
looked_adds (IsAgain bytes) m new at to none = refl
looked_adds IsTableFull m new at to none = refl
looked_adds IsOverShare m new at to none = over_adds (is_confirmable m.kind) m at to

message_adds : (s : Seen) (now : ℕ) (to : Endpoint) (bytes : List ℕ) (m : Message) (v : Verdict) (at : ℕ) → reading_of bytes ≡ Ok m → verdict m ≡ v → ((r : Asked) → IsAskedAnew s now to bytes m r → ⊥) → added_by (received_as (front_at s now) to m v) at to ≡ []
message_adds s now to bytes m (IsAsked r) at read is not = looked_adds (look_in (front_at s now) to m) m (request_received (front_at s now) to m r) at to (λ new.
    (elim (is_allowed s.policy.managers to r.action) as (λ b. is_allowed s.policy.managers to r.action ≡ b → added_by (received_if b (front_at s now) to m r) at to ≡ []) [
      | true ↦ λ allowed. absurd (not r (record { opens = opening_of s now to bytes m read (subst IsOnRequest (sym is) tt) new; read = read; asks = is; allowed = allowed }))
      | false ↦ λ allowed. refl
    ]) refl)
message_adds s now to bytes m (IsRefused answer) at read is not = looked_adds (look_in (front_at s now) to m) m (Refused m answer) at to (λ new. refl)
message_adds s now to bytes m IsSilent at read is not = looked_adds (look_in (front_at s now) to m) m (Silenced m) at to (λ new. refl)
message_adds s now to bytes m IsReset at read is not = refl
message_adds s now to bytes m (IsSignal reset) at read is not = refl
message_adds s now to bytes m IsIgnored at read is not = refl

read_adds : (s : Seen) (now : ℕ) (to : Endpoint) (bytes : List ℕ) (x : Result Message Bad) (at : ℕ) → reading_of bytes ≡ x → ((m : Message) (r : Asked) → IsAskedAnew s now to bytes m r → ⊥) → added_by (received_read (front_at s now) to x) at to ≡ []
read_adds s now to bytes (Ok m) at read not = message_adds s now to bytes m (verdict m) at read refl (not m)
read_adds s now to bytes (Err bad.Ignore) at read not = refl
read_adds s now to bytes (Err (bad.Reset id)) at read not = refl

adds_none : (s : Seen) (e : Event) → ((m : Message) (r : Asked) → Asks s e m r → ⊥) → additions_by (at_front e) s ≡ []
adds_none s (Deliver now to bytes) not =
    ap (λ (x : Received). added_by x (max s.time now) to) (received_of (front_at s now) to bytes.now (reading_of bytes.now) refl)
    ∙ read_adds s now to bytes.now (reading_of bytes.now) (max s.time now) refl not
adds_none s other not = refl

pub others_add_nothing : (e : Entry) (s : Seen) → ((m : Message) (r : Asked) → Asks s e.event m r → ⊥) → (and_then e s).additions ≡ s.additions
others_add_nothing e s not = ap (λ (l : List Addition). l ++ s.additions) (adds_none s e.event not)

-- ---- effects of a block that fits

-- the job of a PUT of slot N is to install the request's body there.
put_asks : (o : Opening) (to : Endpoint) (m : Message) (r : Asked) (n : ℕ) (b : Place) (body : List ℕ) → PutsBlock r n b → (job_of o to m r body).ask ≡ Installs (record { items = body }) (initial_vars_by r.query)
put_asks o to m r n b body w = λ i. ask_by (w.action i) r body

-- if a last block that fits completes the body at each time, the event's job installs this body.
pub put_brings : (e : Event) (o : Option Emission) (s : Seen) (m : Message) (r : Asked) (n : ℕ) (b : Place) (body : List ℕ) → ((now : ℕ) (to : Endpoint) → FitsBehind s.additions (addition_at s now to r) b body → asked_at s now to m r ≡ Opened m r body) → Asks s e m r → PutsBlock r n b → FitsBy s e r b body → BringsInstall (did e o) s r n body
put_brings (Deliver now to bytes) o s m r n b body is w puts fits = record {
  job = job_of (next_opening (front_at s now)) to m r body;
  tasks = ap (λ (x : Received). s.tasks ++ map new_task (brought x (next_opening (front_at s now)) to)) (anew_is s now to bytes.now m r w ∙ is now to fits);
  asks = put_asks (next_opening (front_at s now)) to m r n b body puts;
  slot = ap slot_asked puts.action;
}
put_brings other o s m r n b body is w puts fits = absurd w

-- if a block that fits is answered 2.31 (Continue) at each time, the event emits that response to
-- its request.
pub put_continues : (e : Event) (s : Seen) (m : Message) (r : Asked) (b : Place) (body : List ℕ) (emitted : Option Emission) → ((now : ℕ) (to : Endpoint) → FitsBehind s.additions (addition_at s now to r) b body → asked_at s now to m r ≡ Immediate m r (settled_by (code 2 31) (Some b))) → Asks s e m r → FitsBy s e r b body → Emits s e emitted → emitted ≡ continue_by s e m b
put_continues (Deliver now to bytes) s m r b body emitted is w fits legal = legal ∙ ap (λ (x : Received). sent x (front_at s now) to) (anew_is s now to bytes.now m r w ∙ is now to fits)
put_continues other s m r b body emitted is w fits legal = absurd w

pub put_waits : (e : Event) (o : Option Emission) (s : Seen) (m : Message) (r : Asked) (b : Place) (body : List ℕ) → ((now : ℕ) (to : Endpoint) → FitsBehind s.additions (addition_at s now to r) b body → asked_at s now to m r ≡ Immediate m r (settled_by (code 2 31) (Some b))) → Asks s e m r → FitsBy s e r b body → (and_then (did e o) s).tasks ≡ s.tasks
put_waits (Deliver now to bytes) o s m r b body is w fits = ap (λ (x : Received). s.tasks ++ map new_task (brought x (next_opening (front_at s now)) to)) (anew_is s now to bytes.now m r w ∙ is now to fits) ∙ append-nil s.tasks
put_waits other o s m r b body is w fits = absurd w

-- ---- cuts

pub asked_cut : (body : List ℕ) (p : Place) → p.szx < 7 → cut_for (Some p) body ≡ cut_at body p.number p.szx
asked_cut body p lt = let same : min p.szx 6 ≡ p.szx = min-eq_left (omega (arith, lt)) in ap (λ (szx : ℕ). cut_at body p.number szx) same
