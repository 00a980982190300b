-- The jobs of timers, and answers without an exchange.
use Rattle.std.proofs.Common.{◌≡◌, ℕ, ◌+◌, ◌-◌, ◌<◌, ◌≤◌, ◌%◌, List, [], ◌∷◌, ◌++◌, length, map, Bool, true, false, Option, Some, None, refl, sym, ap, ◌∙◌, subst, ◌⊎◌, inl, inr, ⊎_elim, arith, max, get_or, length-append, if◌then◌else◌}
use Rattle.std.specs.Prelude.{is_some}
use Rattle.std.proofs.lemmas.Bool.{cases_lt, false_from_ne_true, ltb-true}
use Rattle.std.proofs.lemmas.List.{length-map}
use Rattle.std.proofs.Math.Seq.{get_or-append_right}
use Rattle.coap_msg.specs.declared.types.Emission.{Emission}
use Rattle.coap_msg.specs.declared.types.Endpoint.{Endpoint}
use Rattle.coap_msg.specs.Wire.{Message}
use Rattle.coap_dedup.specs.Exchanges.{Exchange}
use Rattle.fc_ticket.specs.declared.job.Job.{Job}
use Rattle.fc_ticket.specs.declared.job.Opening.{Opening}
use Rattle.fc_front.specs.Contents.{Content}
use Rattle.fc_core.specs.declared.event.Event.{Event}
use Rattle.fc_core.specs.declared.event.Event.TheVariants.{Answer, Deliver, Due, Fire}
use Rattle.fc_core.specs.declared.stage.Task.{Task}
use Rattle.fc_front.specs.Exchanges.{has_exchange, opening_is_live}
use Rattle.fc_core.specs.History.{Entry, History, BeginsWith, Then, Seen, seen, and_then, at_front, did, due_in, exchanges_by, front_at, ids_answered, job, no_task, received_at, stage, tasks_brought}
use Rattle.fc_front.specs.Ids.{Ids}
use Rattle.fc_core.specs.Laws.{HasCome, followed_by, slot_of}
use Rattle.fc_core.specs.Legal.{Emits}
use Rattle.fc_front.specs.Receiving.{Received, Opened, brought, next_opening, opened_by}
use Rattle.fc_core.specs.Stage.{ToTake, ToAnswer, ToTell, Gone}
use Rattle.fc_core.specs.Stages.{content_at, new_task}
use Rattle.fc_front.specs.Timers.{timer_job}
use Rattle.fc_core.specs.TurnStage.{TurnStage}
use Rattle.fc_core.proofs.Lists.{Each}
use Rattle.fc_core.proofs.Unsent.{never_live, unsent}
use Rattle.fc_laws.specs.AskLaws.{BringsJob}
use Rattle.fc_laws.specs.DrawLaws.{NeedsId, AnswersInTime}
use Rattle.fc_laws.specs.ExchangeLaws.{HasExchange, IsOfLease, IsOfRequest, arrival_of, arrival_of_job, arrivals}
use Rattle.fc_laws.specs.KeptLaws.{HasId, opened_at}
use Rattle.fc_laws.specs.TimerLaws.{HasNoFire, IsNoFire, IsOfFire, IsPostOfTimer}
use Rattle.fc_laws.proofs.front.Asking.{brought_is, exchange_is}
use Rattle.fc_laws.proofs.front.Kept.{goes_out}
use Rattle.fc_laws.proofs.front.NewJobs.{due_has, each_weaker, new_has, tasks_each}
use Rattle.fc_laws.proofs.front.Once.{jobs_apart}
use Rattle.fc_laws.proofs.front.Repeats.{opened_none, received_arrivals}
use Rattle.fc_laws.proofs.jobs.Others.{is_here, job_stays, still_here}
use Rattle.fc_laws.proofs.turns.Apart.{turn_apart}

-- ---- the job of a timer

posts : (n : ℕ) → IsPostOfTimer (n % 64) (timer_job n)
posts n = record {
  endpoint = refl;
  slot = refl;
  exchange = λ lt. omega (arith, lt);
  turn = refl;
  confirmable = refl;
  token = refl;
  etags = refl;
  block = refl;
  observe = refl;
  ask = refl;
}

pub makes_job : (s : Seen) (n now : ℕ) (o : Option Emission) → (j : Job) × IsPostOfTimer (n % 64) j × ((and_then (did (Fire n now) o) s).tasks ≡ s.tasks ++ record { job = j; stage = ToTake 0 } ∷ [])
makes_job s n now o = (timer_job n, posts n, refl)

-- ---- without an exchange

none_has : (j : Job) → (HasExchange j → ⊥) → has_exchange j.origin.opening ≡ false
none_has j none = false_from_ne_true (has_exchange j.origin.opening) (λ is. none (ltb-true j.origin.opening.number 18446744073709551615 is))

pub dropped : (s : Seen) (k now : ℕ) (o : Option Emission) → (HasExchange (job s k) → ⊥) → Emits s (Answer k now) o → o ≡ None
dropped s k now o none w = unsent (content_at (stage s k)) (job s k) (front_at s now) o (none_has (job s k) none) w

same_either : (b : Bool) (es : List Exchange) → (if b then es else es) ≡ es
same_either true es = refl
same_either false es = refl

none_stored : (s : Seen) (k now : ℕ) (o : Option Emission) → o ≡ None → (and_then (did (Answer k now) o) s).exchanges ≡ s.exchanges
none_stored s k now None is = same_either (is_some (content_at (stage s k))) s.exchanges
none_stored s k now (Some emission) is = absurd (cc is)

pub stores_nothing : (s : Seen) (k now : ℕ) (o : Option Emission) → (HasExchange (job s k) → ⊥) → Emits s (Answer k now) o → (and_then (did (Answer k now) o) s).exchanges ≡ s.exchanges
stores_nothing s k now o none w = none_stored s k now o (dropped s k now o none w)

ids_same : (c : Option Content) (live confirmable : Bool) (ids : Ids) (at : ℕ) → live ≡ false → ids_answered c live confirmable ids at ≡ ids
ids_same None live confirmable ids at is = refl
ids_same (Some content) live confirmable ids at is = ap (λ (b : Bool). ids_answered (Some content) b confirmable ids at) is

pub draws_nothing : (s : Seen) (k now : ℕ) (o : Option Emission) → (HasExchange (job s k) → ⊥) → (and_then (did (Answer k now) o) s).ids ≡ s.ids
draws_nothing s k now o none =
    let at = max s.time now in
    let opening = (job s k).origin.opening in
    ids_same (content_at (stage s k)) (opening_is_live at opening) (job s k).confirmable s.ids at (never_live opening at (none_has (job s k) none))

-- ---- after a timer has fired

job_later : (rs : List Entry) (h : History) (k : ℕ) → HasCome (seen h) k → job (seen (followed_by h rs)) k ≡ job (seen h) k
unfolding seen
job_later [] h k come = refl
job_later (r ∷ rs) h k come = job_later rs (Then h r) k (still_here r (seen h) k come) ∙ job_stays r (seen h) k come

fired_here : (h : History) (n now : ℕ) (o : Option Emission) → HasCome (seen (Then h (did (Fire n now) o))) (length (seen h).tasks)
unfolding seen
fired_here h n now o = omega (arith, length-append (seen h).tasks (new_task (timer_job n) ∷ []))

fired_job : (h : History) (n now : ℕ) (o : Option Emission) → job (seen (Then h (did (Fire n now) o))) (length (seen h).tasks) ≡ timer_job n
unfolding seen
fired_job h n now o =
    let old = (seen h).tasks in
    let first : length old - length old ≡ 0 = omega arith in
    ap (λ (t : Task). t.job) (get_or-append_right old (new_task (timer_job n) ∷ []) (length old) no_task (omega arith) ∙ ap (λ (i : ℕ). get_or (new_task (timer_job n) ∷ []) i no_task) first)

pub remains_post : (h : History) (n k : ℕ) → IsOfFire n k h → IsPostOfTimer (n % 64) (job (seen h) k)
remains_post h n k f =
    let fired = Then f.before (did (Fire n f.now) f.emitted) in
    let first = length (seen f.before).tasks in
    let is : job (seen h) k ≡ timer_job n =
    ap (λ (g : History). job (seen g) k) f.is
    ∙ (ap (λ (i : ℕ). job (seen (followed_by fired f.since)) i) f.number
    ∙ (job_later f.since fired first (fired_here f.before n f.now f.emitted) ∙ fired_job f.before n f.now f.emitted)) in
    subst (IsPostOfTimer (n % 64)) (sym is) (posts n)

pub timer_dropped : (h : History) (n k now : ℕ) (o : Option Emission) → IsOfFire n k h → Emits (seen h) (Answer k now) o → o ≡ None
timer_dropped h n k now o f w = dropped (seen h) k now o (remains_post h n k f).exchange w

pub timer_stores_nothing : (h : History) (n k now : ℕ) (o : Option Emission) → IsOfFire n k h → Emits (seen h) (Answer k now) o → (and_then (did (Answer k now) o) (seen h)).exchanges ≡ (seen h).exchanges
timer_stores_nothing h n k now o f w = stores_nothing (seen h) k now o (remains_post h n k f).exchange w

pub timer_draws_nothing : (h : History) (n k now : ℕ) (o : Option Emission) → IsOfFire n k h → (and_then (did (Answer k now) o) (seen h)).ids ≡ (seen h).ids
timer_draws_nothing h n k now o f = draws_nothing (seen h) k now o (remains_post h n k f).exchange

-- ---- a request

arrival_brought : (x : Received) (o : Opening) (to : Endpoint) (j : Job) → brought x o to ≡ j ∷ [] → map arrival_of (opened_by x o to) ≡ arrival_of_job j ∷ []
arrival_brought (Opened m asked body) o to j is = ap (λ (jobs : List Job). map arrival_of_job jobs) is
arrival_brought other o to j is = absurd (cc is)

pub opens_exchange : (r : Entry) (s : Seen) (from : Endpoint) (m : Message) (j : Job) → BringsJob r s from m j → arrivals (and_then r s) ≡ arrivals s ++ arrival_of_job j ∷ []
opens_exchange r s from m j b =
    let x = received_at s b.now from b.bytes.now in
    let opens : Event → Type 0 = λ e. map arrival_of (exchanges_by (at_front e) r.emitted s) ≡ arrivals s ++ arrival_of_job j ∷ [] in
    subst opens (sym b.delivers)
    (received_arrivals s b.now from x r.emitted ∙ ap (λ l. arrivals s ++ l) (arrival_brought x (next_opening (front_at s b.now)) from j (brought_is r s from m j b)))

pub exchange_number : (r : Entry) (s : Seen) (from : Endpoint) (m : Message) (j : Job) → BringsJob r s from m j → j.origin.opening.number ≡ length (arrivals s)
exchange_number r s from m j b = ap (λ (o : Opening). o.number) (exchange_is r s from m j b) ∙ sym (length-map s.exchanges arrival_of)

-- fewer than 2^64 - 1 exchanges were opened, or a delivery opens none.
number_or_none : (s : Seen) (now : ℕ) (to : Endpoint) (bytes : List ℕ) → (length s.exchanges < 18446744073709551615) ⊎ (length (opened_by (received_at s now to bytes) (next_opening (front_at s now)) to) ≡ 0)
number_or_none s now to bytes = ⊎_elim
    (λ (lt : length s.exchanges < 18446744073709551615). inl lt)
    (λ (le : 18446744073709551615 ≤ length s.exchanges). inr (opened_none s now to bytes (λ w. omega (arith, le, w.numbers))))
    (cases_lt (length s.exchanges) 18446744073709551615)

requests : (x : Received) (o : Opening) (to : Endpoint) → (o.number < 18446744073709551615) ⊎ (length (opened_by x o to) ≡ 0) → Each IsOfRequest (brought x o to)
requests (Opened m asked body) o to (inl lt) = ((refl, lt), tt)
requests (Opened m asked body) o to (inr none) = absurd (cc none)
requests other o to w = tt

delivered_requests : (s : Seen) (now : ℕ) (to : Endpoint) (bytes : List ℕ) → Each IsOfRequest (brought (received_at s now to bytes) (next_opening (front_at s now)) to)
delivered_requests s now to bytes = requests (received_at s now to bytes) (next_opening (front_at s now)) to (number_or_none s now to bytes)

pub has_opened : (r : Entry) (s : Seen) (from : Endpoint) (m : Message) (j : Job) → BringsJob r s from m j → HasExchange j
has_opened r s from m j b = (subst (Each IsOfRequest) (brought_is r s from m j b) (delivered_requests s b.now from b.bytes.now)).0.1

-- ---- each job of a history

-- each timer that fires in the history makes a job with this property.
abbrev FiresMake : (Job → Type 0) → History → Type 0
FiresMake P (BeginsWith stored id policy) = Unit {0}
FiresMake P (Then h r) = ((n now : ℕ) → r.event ≡ Fire n now → P (timer_job n)) × FiresMake P h

-- if a property holds of leases, of requests, and of the jobs of the timers that fired, it holds of
-- each job.
module _ (P : Job → Type 0) (lease : (j : Job) → IsOfLease j → P j) (request : (j : Job) → IsOfRequest j → P j) where
  brought_have : (e : Event) (s : Seen) → ((n now : ℕ) → e ≡ Fire n now → P (timer_job n)) → Each (λ t. P t.job) (tasks_brought e s)
  brought_have (Deliver now to bytes) s timer =
      let js = brought (received_at s now to bytes.now) (next_opening (front_at s now)) to in
      tasks_each P js (each_weaker IsOfRequest P js request (delivered_requests s now to bytes.now))
  brought_have (Due shard now) s timer = let at = max (s.shard_time shard) now in due_has (λ t. P t.job) lease s shard at (due_in s shard at)
  brought_have (Fire slot now) s timer = (timer slot now refl, tt)
  brought_have other s timer = tt

  each_after : (r : Entry) (s : Seen) (k : ℕ) → ((n now : ℕ) → r.event ≡ Fire n now → P (timer_job n)) → HasCome (and_then r s) k → (HasCome s k → P (job s k)) → P (job (and_then r s) k)
  each_after r s k timer come before = ⊎_elim
      (λ (lt : k < length s.tasks). subst P (sym (job_stays r s k lt)) (before lt))
      (λ (le : length s.tasks ≤ k). new_has (λ t. P t.job) r s k le come (brought_have r.event s timer))
      (cases_lt k (length s.tasks))

  each_job : (h : History) (k : ℕ) → FiresMake P h → HasCome (seen h) k → P (job (seen h) k)
  unfolding seen
  each_job (BeginsWith stored id policy) k timers come = absurd (omega arith)
  each_job (Then h r) k timers come = each_after r (seen h) k timers.0 come (each_job h k timers.1)

abbrev IsOfOne : Job → Type 0
IsOfOne j = IsOfLease j ⊎ (IsOfRequest j ⊎ IsPostOfTimer j.origin.slot j)

all_posts : (h : History) → FiresMake IsOfOne h
all_posts (BeginsWith stored id policy) = tt
all_posts (Then h r) = (λ n now is. inr (inr (posts n)), all_posts h)

pub of_one : (h : History) (k : ℕ) → HasCome (seen h) k → IsOfLease (job (seen h) k) ⊎ (IsOfRequest (job (seen h) k) ⊎ IsPostOfTimer (slot_of (seen h) k) (job (seen h) k))
of_one h k come = each_job IsOfOne (λ j w. inl w) (λ j w. inr (inl w)) h k (all_posts h) come

none_fire : (P : Job → Type 0) (h : History) → HasNoFire h → FiresMake P h
none_fire P (BeginsWith stored id policy) none = tt
none_fire P (Then h r) none = (λ n now is. absurd (subst IsNoFire is none.0), none_fire P h none.1)

pub of_either : (h : History) (k : ℕ) → HasNoFire h → HasCome (seen h) k → IsOfLease (job (seen h) k) ⊎ IsOfRequest (job (seen h) k)
of_either h k none come = each_job (λ j. IsOfLease j ⊎ IsOfRequest j) (λ j w. inl w) (λ j w. inr w) h k (none_fire (λ j. IsOfLease j ⊎ IsOfRequest j) h none) come

-- ---- without timers

of_request : (h : History) (k : ℕ) → HasNoFire h → HasCome (seen h) k → (IsOfLease (job (seen h) k) → ⊥) → IsOfRequest (job (seen h) k)
of_request h k none come unleased = ⊎_elim (λ (lease : IsOfLease (job (seen h) k)). absurd (unleased lease)) (λ (w : IsOfRequest (job (seen h) k)). w) (of_either h k none come)

pub apart_without : (h : History) (j k : ℕ) → HasNoFire h → j < k → HasCome (seen h) k → (job (seen h) j).turn ≡ None → (job (seen h) k).turn ≡ None → (job (seen h) j).origin.endpoint ≡ (job (seen h) k).origin.endpoint → (job (seen h) j).origin.id ≡ (job (seen h) k).origin.id → (job (seen h) j).origin.opening.at + 247000 ≤ (job (seen h) k).origin.opening.at
apart_without h j k none lt come first second = jobs_apart h j k lt come
    (of_request h j none (omega (arith, lt, come)) (λ lease. cc (first, lease.1)))
    (of_request h k none come (λ lease. cc (second, lease.1)))

-- the job of a lease is never at the stage of its answer.
unanswered : (h : History) (k : ℕ) (content : Content) → stage (seen h) k ≡ ToAnswer content → IsOfLease (job (seen h) k) → ⊥
unanswered h k content at lease = ⊎_elim
    (λ (w : (needs : TurnStage) × (stage (seen h) k ≡ ToTell (record { slot = slot_of (seen h) k; number = lease.0 }) needs)). cc (at, w.1))
    (λ (w : stage (seen h) k ≡ Gone). cc (at, w))
    (turn_apart h k lease.0 lease.1)

answered_has : (h : History) (k : ℕ) (content : Content) → HasNoFire h → stage (seen h) k ≡ ToAnswer content → HasExchange (job (seen h) k)
answered_has h k content none at = (of_request h k none (is_here (seen h) k (ToAnswer content) at (λ e. absurd (cc e))) (unanswered h k content at)).1

pub goes_out_without : (h : History) (k now : ℕ) (content : Content) (o : Option Emission) → HasNoFire h → stage (seen h) k ≡ ToAnswer content → max (seen h).time now < opened_at (seen h) k + 247000 → HasId (seen h) k now → Emits (seen h) (Answer k now) o → is_some o ≡ true
goes_out_without h k now content o none at = goes_out (seen h) k now content o at (answered_has h k content none at)

pub needs_without : (h : History) (k now : ℕ) (content : Content) → HasNoFire h → stage (seen h) k ≡ ToAnswer content → (job (seen h) k).confirmable ≡ false → max (seen h).time now < opened_at (seen h) k + 247000 → NeedsId (seen h) (Answer k now)
needs_without h k now content none at kind lt = AnswersInTime k now content refl at kind (answered_has h k content none at) lt
