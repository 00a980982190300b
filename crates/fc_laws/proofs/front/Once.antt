-- Jobs with one endpoint and message ID arrive at least a lifetime apart.
use Rattle.std.proofs.Common.{◌≡◌, ℕ, ◌+◌, ◌<◌, ◌≤◌, List, [], ◌∷◌, ◌++◌, length, map, Bool, true, false, cond, Option, Some, None, Result, Ok, Err, refl, sym, ◌∙◌, subst, ◌⊎◌, inl, inr, ⊎_elim, arith, max}
use Rattle.std.specs.Prelude.{nat_eq, ◌==◌, ◌&&◌, find, is_some, if◌then◌else◌}
use Rattle.std.specs.Cmp.Lexicographic.{pointwise}
use borrow.Author.Tests.{ltb-false}
use Rattle.std.proofs.lemmas.Bool.{cases_lt, eq-eqb, and_from}
use Rattle.coap_msg.specs.declared.types.Bad.{Bad}
use Rattle.coap_msg.specs.declared.types.Bad.TheVariants as bad
use Rattle.arrayvec.specs.ArrayVec.{ArrayVec}
use Rattle.coap_msg.specs.declared.types.Emission.{Emission}
use Rattle.coap_msg.specs.declared.types.Endpoint.{Endpoint}
use Rattle.coap_msg.specs.Reading.{reading_of}
use Rattle.coap_msg.specs.Wire.{Message}
use Rattle.coap_opts.specs.Verdict.{Asked, Verdict, IsAsked, IsRefused, IsSilent, IsReset, IsSignal, IsIgnored, verdict}
use Rattle.coap_dedup.specs.Exchanges.{Exchange}
use Rattle.coap_dedup.specs.Exchanges.{Look, IsNew, IsBusy, IsAgain, IsSilent as IsAnsweredNon, IsFull, IsOverShare, answered_if, is_of}
use Rattle.coap_msg.specs.Endpoints.{same_endpoint}
use Rattle.fc_ticket.specs.declared.job.Job.{Job}
use Rattle.fc_ticket.specs.declared.job.Opening.{Opening}
use Rattle.fc_ticket.specs.declared.job.Origin.{Origin}
use Rattle.fc_core.specs.declared.event.Event.{Event}
use Rattle.fc_core.specs.declared.event.Event.TheVariants.{Deliver, Due, Fire, Answer}
use Rattle.fc_laws.specs.ExchangeLaws.{IsOfRequest, is_within, repeated}
use Rattle.fc_core.specs.History.{Entry, History, BeginsWith, Then, Seen, seen, and_then, answered_in, due_in, front_at, job, received_at, stage, tasks_brought, at_front, exchanges_by}
use Rattle.fc_core.specs.Laws.{HasCome}
use Rattle.coap_block.specs.Uploads.{Add, Continues, IsWhole, IsIncomplete, IsBadLength, IsTooLarge, IsFull}
use Rattle.fc_front.specs.Policies.{is_allowed}
use Rattle.fc_front.specs.Receiving.{Received, Silenced, Refused, add_in, received_added, request_received, brought, is_confirmable, kept_of, look_in, looked, next_opening, opened_by, over_share, received_as, received_read, received_if}
use Rattle.fc_core.specs.Stages.{content_at, new_task}
use Rattle.fc_core.proofs.Lists.{Each}
use Rattle.fc_laws.proofs.jobs.Others.{job_stays}
use Rattle.fc_laws.proofs.front.Repeats.{look_is, new_look, received_of, room_in}
use Rattle.fc_laws.proofs.front.NewJobs.{due_has, each_weaker, length_after, new_has, one_brought}

-- some element of the list has the property.
abbrev Any : {X : Type 0} → (X → Type 0) → List X → Type 0
Any P [] = ⊥
Any P (x ∷ xs) = P x ⊎ Any P xs

any_left : {X : Type 0} (P : X → Type 0) (xs ys : List X) → Any P xs → Any P (xs ++ ys)
any_left P [] ys a = absurd a
any_left P (x ∷ xs) ys (inl p) = inl p
any_left P (x ∷ xs) ys (inr a) = inr (any_left P xs ys a)

any_right : {X : Type 0} (P : X → Type 0) (xs ys : List X) → Any P ys → Any P (xs ++ ys)
any_right P [] ys a = a
any_right P (x ∷ xs) ys a = inr (any_right P xs ys a)

any_map : {X : Type 0} (P : X → Type 0) (f : X → X) (xs : List X) → ((x : X) → P x → P (f x)) → Any P xs → Any P (map f xs)
any_map P f [] keeps a = a
any_map P f (x ∷ xs) keeps (inl p) = inl (keeps x p)
any_map P f (x ∷ xs) keeps (inr a) = inr (any_map P f xs keeps a)

not_found_if : {X : Type 0} (P : X → Type 0) (p : X → Bool) (y : X) (ys : List X) (b : Bool) → p y ≡ b → (find p ys ≡ None → Any P ys → (x : X) × P x × (p x ≡ false)) → cond b (Some y) (find p ys) ≡ None → Any P (y ∷ ys) → (x : X) × P x × (p x ≡ false)
not_found_if P p y ys true is rest e a = absurd (cc e)
not_found_if P p y ys false is rest e (inl here) = (y, here, is)
not_found_if P p y ys false is rest e (inr there) = rest e there

-- if no element passes the test, an element with the property exists that fails the test.
not_found : {X : Type 0} (P : X → Type 0) (p : X → Bool) (xs : List X) → find p xs ≡ None → Any P xs → (x : X) × P x × (p x ≡ false)
not_found P p [] e a = absurd a
not_found P p (x ∷ xs) e a = not_found_if P p x xs (p x) refl (not_found P p xs) e a

-- ---- the exchange of a job

-- the exchange was opened for a job with this origin.
abbrev IsOf : Origin → Exchange → Type 0
IsOf o e = (e.endpoint ≡ o.endpoint) × (e.id ≡ o.id) × (e.at ≡ o.opening.at)

answered_of : (o : Origin) (b : Bool) (bytes : ArrayVec ℕ) (e : Exchange) → IsOf o e → IsOf o (answered_if b bytes e)
answered_of o true bytes e is = is
answered_of o false bytes e is = is

kept_in : (o : Origin) (n : ℕ) (emitted : Option Emission) (es : List Exchange) → Any (IsOf o) es → Any (IsOf o) (answered_in n emitted es)
kept_in o n None es a = a
kept_in o n (Some emission) es a = any_map (IsOf o) (λ e. answered_if (e.number == n) emission.bytes e) es (λ e is. answered_of o (e.number == n) emission.bytes e is) a

kept_if : (o : Origin) (n : ℕ) (emitted : Option Emission) (es : List Exchange) (b : Bool) → Any (IsOf o) es → Any (IsOf o) (if b then answered_in n emitted es else es)
kept_if o n emitted es true a = kept_in o n emitted es a
kept_if o n emitted es false a = a

still_open : (o : Origin) (e : Event) (emitted : Option Emission) (s : Seen) → Any (IsOf o) s.exchanges → Any (IsOf o) (exchanges_by (at_front e) emitted s)
still_open o (Deliver now to bytes) emitted s a =
    let x = received_at s now to bytes.now in
    kept_in o (length s.exchanges) (kept_of x emitted) (s.exchanges ++ opened_by x (next_opening (front_at s now)) to) (any_left (IsOf o) s.exchanges (opened_by x (next_opening (front_at s now)) to) a)
still_open o (Answer k now) emitted s a = kept_if o (job s k).origin.opening.number emitted s.exchanges (is_some (content_at (stage s k))) a
still_open o other emitted s a = a

-- ---- new jobs

-- a new job is no duplicate, and its exchange is opened together with it.
record IsNewJob (s : Seen) (es : List Exchange) (j : Job) : Type 0 where
  time : ℕ
  none : repeated s time j.origin.endpoint j.origin.id ≡ None
  at_is : j.origin.opening.at ≡ time
  opened : Any (IsOf j.origin) es

module _ (s : Seen) (now : ℕ) (to : Endpoint) where
  abbrev opening : Opening
  opening = next_opening (front_at s now)

  abbrev AreNew : Received → Type 0
  AreNew x = Each (IsNewJob s (opened_by x opening to)) (brought x opening to)

  over_new : (c : Bool) (m : Message) → AreNew (over_share c m)
  over_new true m = tt
  over_new false m = tt

  looked_new : (m : Message) (new : Received) (l : Look) → (l ≡ IsNew → AreNew new) → AreNew (looked l m new)
  looked_new m new IsNew w = w refl
  looked_new m new IsBusy w = tt
  looked_new m new IsAnsweredNon w = tt
  looked_new m new (IsAgain bytes) w = tt
  looked_new m new IsFull w = tt
  looked_new m new IsOverShare w = over_new (is_confirmable m.kind) m

  no_repeat : (m : Message) → look_in (front_at s now) to m ≡ IsNew → repeated s (max s.time now) to m.id ≡ None
  no_repeat m is = (new_look (repeated s (max s.time now) to m.id) (room_in s (max s.time now) to.ip) (sym (look_is s now to m) ∙ is)).none

  added_new : (a : Add) (m : Message) (r : Asked) → look_in (front_at s now) to m ≡ IsNew → AreNew (received_added a m r)
  added_new (IsWhole body) m r is = (record { time = max s.time now; none = no_repeat m is; at_is = refl; opened = inl (refl, refl, refl) }, tt)
  added_new Continues m r is = tt
  added_new IsIncomplete m r is = tt
  added_new IsBadLength m r is = tt
  added_new IsTooLarge m r is = tt
  added_new IsFull m r is = tt

  asked_new : (b : Bool) (m : Message) (r : Asked) → look_in (front_at s now) to m ≡ IsNew → AreNew (received_if b (front_at s now) to m r)
  asked_new true m r is = added_new (add_in (front_at s now) to r) m r is
  asked_new false m r is = tt

  verdict_new : (m : Message) (v : Verdict) → AreNew (received_as (front_at s now) to m v)
  verdict_new m (IsAsked asked) = looked_new m (request_received (front_at s now) to m asked) (look_in (front_at s now) to m) (λ is. asked_new (is_allowed s.policy.managers to asked.action) m asked is)
  verdict_new m (IsRefused answer) = looked_new m (Refused m answer) (look_in (front_at s now) to m) (λ is. tt)
  verdict_new m IsSilent = looked_new m (Silenced m) (look_in (front_at s now) to m) (λ is. tt)
  verdict_new m IsReset = tt
  verdict_new m (IsSignal reset) = tt
  verdict_new m IsIgnored = tt

  read_new : (r : Result Message Bad) → AreNew (received_read (front_at s now) to r)
  read_new (Ok m) = verdict_new m (verdict m)
  read_new (Err bad.Ignore) = tt
  read_new (Err (bad.Reset id)) = tt

  new_in : (bytes : List ℕ) → AreNew (received_at s now to bytes)
  new_in bytes = subst AreNew (sym (received_of (front_at s now) to bytes (reading_of bytes) refl)) (read_new (reading_of bytes))

  new_tasks : (x : Received) (emitted : Option Emission) (js : List Job) → Each (IsNewJob s (opened_by x opening to)) js → Each (λ t. IsNewJob s (answered_in (length s.exchanges) (kept_of x emitted) (s.exchanges ++ opened_by x opening to)) t.job) (map new_task js)
  new_tasks x emitted [] w = tt
  new_tasks x emitted (j ∷ js) w = (record { time = w.0.time; none = w.0.none; at_is = w.0.at_is; opened = kept_in j.origin (length s.exchanges) (kept_of x emitted) (s.exchanges ++ opened_by x opening to) (any_right (IsOf j.origin) s.exchanges (opened_by x opening to) w.0.opened) }, new_tasks x emitted js w.1)

brought_new : (e : Event) (emitted : Option Emission) (s : Seen) → Each (λ t. IsOfRequest t.job → IsNewJob s (exchanges_by (at_front e) emitted s) t.job) (tasks_brought e s)
brought_new (Deliver now to bytes) emitted s =
    let es = exchanges_by (at_front (Deliver now to bytes)) emitted s in
    each_weaker (λ t. IsNewJob s es t.job) (λ t. IsOfRequest t.job → IsNewJob s es t.job) (tasks_brought (Deliver now to bytes) s) (λ t w is. w)
    (new_tasks s now to (received_at s now to bytes.now) emitted (brought (received_at s now to bytes.now) (next_opening (front_at s now)) to) (new_in s now to bytes.now))
brought_new (Due shard now) emitted s =
    let at = max (s.shard_time shard) now in
    let es = exchanges_by (at_front (Due shard now)) emitted s in
    -- the job of a lease isn't that of a request.
    due_has (λ t. IsOfRequest t.job → IsNewJob s es t.job) (λ j lease is. absurd (cc (is.0, lease.1))) s shard at (due_in s shard at)
brought_new (Fire slot now) emitted s = (λ is. absurd (omega (arith, is.1)), tt)
brought_new other emitted s = tt

new_job : (r : Entry) (s : Seen) (k : ℕ) → length s.tasks ≤ k → HasCome (and_then r s) k → IsOfRequest (job (and_then r s) k) → IsNewJob s (and_then r s).exchanges (job (and_then r s) k)
new_job r s k le come = new_has (λ t. IsOfRequest t.job → IsNewJob s (and_then r s).exchanges t.job) r s k le come (brought_new r.event r.emitted s)

opened_after : (r : Entry) (s : Seen) (k : ℕ) → HasCome (and_then r s) k → IsOfRequest (job (and_then r s) k) → (HasCome s k → IsOfRequest (job s k) → Any (IsOf (job s k).origin) s.exchanges) → Any (IsOf (job (and_then r s) k).origin) (and_then r s).exchanges
opened_after r s k come asks w = ⊎_elim
    (λ (lt : k < length s.tasks). subst (λ (j : Job). Any (IsOf j.origin) (and_then r s).exchanges) (sym (job_stays r s k lt)) (still_open (job s k).origin r.event r.emitted s (w lt (subst (λ (j : Job). IsOfRequest j) (job_stays r s k lt) asks))))
    (λ (le : length s.tasks ≤ k). (new_job r s k le come asks).opened)
    (cases_lt k (length s.tasks))

-- each job of a request has its exchange in the table.
opened_for : (h : History) (k : ℕ) → HasCome (seen h) k → IsOfRequest (job (seen h) k) → Any (IsOf (job (seen h) k).origin) (seen h).exchanges
unfolding seen
opened_for (BeginsWith stored id policy) k come asks = absurd (omega arith)
opened_for (Then h r) k come asks = opened_after r (seen h) k come asks (opened_for h k)

-- ---- at most once within a lifetime

pub same_bytes : (xs : List ℕ) → pointwise nat_eq xs xs ≡ true
same_bytes [] = refl
same_bytes (x ∷ xs) = and_from (nat_eq x x) (pointwise nat_eq xs xs) (eq-eqb x x refl) (same_bytes xs)

pub equal_endpoints : (a b : Endpoint) → a ≡ b → same_endpoint a b ≡ true
equal_endpoints a b is = subst (λ (x : Endpoint). same_endpoint a x ≡ true) is (and_from (pointwise nat_eq a.ip a.ip) (a.port == a.port) (same_bytes a.ip) (eq-eqb a.port a.port refl))

second_false : (a b : Bool) → (a && b) ≡ false → b ≡ true → a ≡ false
second_false true b e is = absurd (cc (e, is))
second_false false b e is = refl

-- an exchange that isn't found as the original of a duplicate was opened at least a lifetime
-- before.
past_window : (s : Seen) (at : ℕ) (o p : Origin) → repeated s at p.endpoint p.id ≡ None → Any (IsOf o) s.exchanges → o.endpoint ≡ p.endpoint → o.id ≡ p.id → o.opening.at + 247000 ≤ at
past_window s at o p none a to id =
    let found = not_found (IsOf o) (λ e. is_within at e && is_of p.endpoint p.id e) s.exchanges none a in
    let e = found.0 in
    let passes : is_of p.endpoint p.id e ≡ true = and_from (same_endpoint e.endpoint p.endpoint) (e.id == p.id) (equal_endpoints e.endpoint p.endpoint (found.1.0 ∙ to)) (eq-eqb e.id p.id (found.1.1 ∙ id)) in
    let old : e.at + 247000 ≤ at = ltb-false at (e.at + 247000) (second_false (is_within at e) (is_of p.endpoint p.id e) found.2 passes) in
    subst (λ (n : ℕ). n + 247000 ≤ at) found.1.2 old

-- the exchanges of two jobs of requests with one endpoint and message ID were opened at least a
-- lifetime apart.
abbrev AreApart : Seen → ℕ → ℕ → Type 0
AreApart s j k = IsOfRequest (job s j) → IsOfRequest (job s k) → (job s j).origin.endpoint ≡ (job s k).origin.endpoint → (job s j).origin.id ≡ (job s k).origin.id → (job s j).origin.opening.at + 247000 ≤ (job s k).origin.opening.at

abbrev ApartJobs : Job → Job → Type 0
ApartJobs a b = IsOfRequest a → IsOfRequest b → a.origin.endpoint ≡ b.origin.endpoint → a.origin.id ≡ b.origin.id → a.origin.opening.at + 247000 ≤ b.origin.opening.at

apart_after : (h : History) (r : Entry) (j k : ℕ) → j < k → HasCome (and_then r (seen h)) k → (HasCome (seen h) k → AreApart (seen h) j k) → AreApart (and_then r (seen h)) j k
apart_after h r j k lt come w =
    let s = seen h in
    ⊎_elim
    (λ (old : k < length s.tasks).
    subst (λ (a : Job). ApartJobs a (job (and_then r s) k)) (sym (job_stays r s j (let here : j < length s.tasks = omega arith in here)))
    (subst (λ (b : Job). ApartJobs (job s j) b) (sym (job_stays r s k old)) (w old)))
    (λ (le : length s.tasks ≤ k).
    let here : j < length s.tasks = omega (arith, length_after r s, one_brought r.event s, come) in
    subst (λ (a : Job). ApartJobs a (job (and_then r s) k)) (sym (job_stays r s j here))
    (λ first second to id. let new = new_job r s k le come second in subst (λ (n : ℕ). (job s j).origin.opening.at + 247000 ≤ n) (sym new.at_is) (past_window s new.time (job s j).origin (job (and_then r s) k).origin new.none (opened_for h j here first) to id)))
    (cases_lt k (length s.tasks))

pub jobs_apart : (h : History) (j k : ℕ) → j < k → HasCome (seen h) k → IsOfRequest (job (seen h) j) → IsOfRequest (job (seen h) k) → (job (seen h) j).origin.endpoint ≡ (job (seen h) k).origin.endpoint → (job (seen h) j).origin.id ≡ (job (seen h) k).origin.id → (job (seen h) j).origin.opening.at + 247000 ≤ (job (seen h) k).origin.opening.at
unfolding seen
jobs_apart (BeginsWith stored id policy) j k lt come = absurd (omega arith)
jobs_apart (Then h r) j k lt come = apart_after h r j k lt come (jobs_apart h j k lt)
