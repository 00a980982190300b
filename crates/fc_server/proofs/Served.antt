-- The effect of a server on one thread on a job is a list of events.
use Rattle.std.proofs.Common.{◌≡◌, ◌≢◌, ℕ, List, [], ◌∷◌, ◌++◌, length, map, set, ◌<◌, Bool, true, false, Option, Some, None, refl, sym, ap, ◌∙◌, subst, Bor}
use Rattle.std.specs.Option.{option_to_list}
use Rattle.std.specs.Prelude.{nat_lt}
use Rattle.std.proofs.lemmas.Bool.{lt-ltb}
use Rattle.std.proofs.lemmas.List.{append-nil}
use Rattle.std.proofs.Math.Seq.{get_or-append_seam, set-append_seam}
use Rattle.arrayvec.specs.ArrayVec.{ArrayVec}
use Rattle.coap_msg.specs.declared.types.Endpoint.{Endpoint}
use Rattle.coap_msg.specs.declared.types.Emission.{Emission}
use Rattle.fc_ticket.specs.declared.job.Job.{Job}
use Rattle.fc_registry.specs.Shards.{shard_at}
use Rattle.fc_registry.specs.Slots.{Slot}
use Rattle.fc_registry.specs.Watches.{signal_call, signalled}
use Rattle.fc_core.specs.declared.event.Event.{Event}
use Rattle.fc_core.specs.declared.event.Event.TheVariants.{Deliver, Peek, Take, Commit, Install, Remove, Receipt, Raise, Answer, Due, Fire, Fresh, Note, GiveUp, Signal, Tick, ShardTick}
use Rattle.fc_front.specs.declared.by_value.Delivered.{Delivered}
use Rattle.fc_front.specs.declared.by_value.Delivered.TheVariants.{Reply, Job as Brings, Signal as Signals}
use Rattle.fc_ticket.specs.Taken.{SlotSnapshot}
use Rattle.fc_front.specs.Contents.{Content}
use Rattle.fc_core.specs.Room.{stage_of}
use Rattle.fc_core.specs.declared.stage.Step.{Step}
use Rattle.fc_core.specs.declared.stage.Step.TheVariants as steps
use Rattle.fc_core.specs.declared.stage.Task.{Task}
use Rattle.fc_front.specs.Exchanges.{FrontState, advanced}
use Rattle.fc_core.specs.Fits.{FitsStage}
use Rattle.fc_core.specs.History.{History, Seen, seen, task_at, no_task}
use Rattle.fc_front.specs.Receiving as x
use Rattle.fc_front.specs.Receiving.{Received, after_delivered, brought, delivered, handed_on, next_opening, received, reply_or_nothing, sent}
use Rattle.fc_core.specs.Stages.{first_stage, new_task}
use Rattle.fc_front.specs.Timers.{timer_job}
use Rattle.fc_server.specs.Agreement.{Agrees, Parts}
use Rattle.fc_server.specs.Serving.{TurnGiven, Delivers, FiresTimer, Handled, Handles, IsReachable, AsksForTurn, Passes, TicksShard, Serves, next, run_through, signalled_below, turned, with_tasks, worked, IsBegun, IsSignalled, WorksOff}
use Rattle.fc_server.specs.States.{Responds, AtWork, Does, DrawsId, ServerState}
use Rattle.fc_server.specs.Steps.{DeliveredTo, Done, IsOfJob, IsReached, resent_if, shard_asked, shard_changed, shard_resent, shard_ticked, shard_turn, turn_if}
use Rattle.fc_server.proofs.Others.{delivered_done, does_done, draws_done, fired_done, responds_done, shard_done, ticked_done}
use Rattle.fc_server.proofs.Stepping.{goes_on}

-- an event leaves the job of its task unchanged.
pub kept_by : {e : Event} {old new : ServerState} {task later : Task} {out : Option Emission} → Does e old task new later out → later.job ≡ task.job
kept_by d = ap (λ (t : Task). t.job) d.task_is

-- the answer leaves the job of its task unchanged.
pub kept_by_answer : {now : ℕ} {old new : ServerState} {task later : Task} {out : Option Emission} → Responds now old task new later out → later.job ≡ task.job
kept_by_answer d = ap (λ (t : Task). t.job) d.task_is

seam : (rest : List Task) (task : Task) → task_at (rest ++ task ∷ []) (length rest) ≡ task
seam rest task = get_or-append_seam rest task [] no_task

-- a server that agrees with a history may run a task of the history.
pub at_seen : (s : Seen) (p : Parts) (k : ℕ) (task : Task) → Agrees s p → task_at s.tasks k ≡ task → AtWork (record { front = p.front; shards = p.shards; words = p.words }) task
at_seen s p k task a is =
    let P : Task → Type 0 = λ t. AtWork (record { front = p.front; shards = p.shards; words = p.words }) t in
    let was = task_at s.tasks k in
    let low = (a.sound.within k).0 in
    subst P is (record {
      count = a.shards.are.count;
      index = a.shards.are.index;
      slot = low;
      stage = subst (λ (x : Slot). FitsStage was.job x was.stage) (sym (a.shards.slot was.job.origin.slot low)) (a.sound.stages k);
    })

-- a server that some history leaves may run the task with any number.
pub reached_at_work : (p : Parts) (k : ℕ) → IsReached p → AtWork (record { front = p.front; shards = p.shards; words = p.words }) (task_at p.tasks k)
reached_at_work p k r = at_seen r.seen p k (task_at p.tasks k) r.agrees (ap (λ (ts : List Task). task_at ts k) (sym r.agrees.tasks))

pub at_work : {h : History} {s : ServerState} (rest : List Task) {task : Task} → Serves h s (rest ++ task ∷ []) → AtWork s task
at_work {h} {s} rest {task} v = at_seen (seen h) (with_tasks s (rest ++ task ∷ [])) (length rest) task v.agrees (ap (λ (ts : List Task). task_at ts (length rest)) (sym v.agrees.tasks) ∙ seam rest task)

pub begun_on : {h : History} {s : ServerState} (rest : List Task) {task : Task} → Serves h s (rest ++ task ∷ []) → IsBegun s task
begun_on {h} rest v = record { history = h; rest = rest; serves = v }

-- one more event continues the history that leaves the server.
serves_on : (h : History) (e : Event) (old : ServerState) (tasks : List Task) (out : Option Emission) (new : ServerState) (later : List Task) → Done e (with_tasks old tasks) out (with_tasks new later) → Serves h old tasks → Serves (next h e out) new later
unfolding seen
serves_on h e old tasks out new later done v =
    let s = goes_on e (with_tasks old tasks) (with_tasks new later) out done (seen h) v.agrees in
    record { legal = (s.emits, v.legal); means = (s.means, v.means); agrees = s.agrees }

module _ (rest : List Task) {h : History} {old : ServerState} {task : Task} {new : ServerState} {later : Task} (v : Serves h old (rest ++ task ∷ [])) where
  does_on : (e : Event) (out : Option Emission) → IsOfJob e (length rest) → Does e old task new later out → Serves (next h e out) new (rest ++ later ∷ [])
  does_on e out is d = serves_on h e old (rest ++ task ∷ []) out new (rest ++ later ∷ [])
      (does_done e (length rest) is old new (rest ++ task ∷ []) (rest ++ later ∷ []) task later out (sym (seam rest task)) (sym (set-append_seam rest task [] later)) d) v

  pub took_on : (memory : Bool) (readings : List ℕ) → Does (Take (length rest) memory readings) old task new later None → Serves (next h (Take (length rest) memory readings) None) new (rest ++ later ∷ [])
  took_on memory readings d = does_on (Take (length rest) memory readings) None (refl, refl, refl) d

  pub peeked_on : (n : ℕ) → Does (Peek (length rest) n) old task new later None → Serves (next h (Peek (length rest) n) None) new (rest ++ later ∷ [])
  peeked_on n d = does_on (Peek (length rest) n) None (refl, refl, refl) d

  pub removed_on : Does (Remove (length rest)) old task new later None → Serves (next h (Remove (length rest)) None) new (rest ++ later ∷ [])
  removed_on d = does_on (Remove (length rest)) None (refl, refl, refl) d

  pub described_on : Does (Receipt (length rest)) old task new later None → Serves (next h (Receipt (length rest)) None) new (rest ++ later ∷ [])
  described_on d = does_on (Receipt (length rest)) None (refl, refl, refl) d

  pub committed_on : (now : ℕ) → Does (Commit (length rest) now) old task new later None → Serves (next h (Commit (length rest) now) None) new (rest ++ later ∷ [])
  committed_on now d = does_on (Commit (length rest) now) None (refl, refl, refl) d

  pub installed_on : (memory : Bool) → Does (Install (length rest) memory) old task new later None → Serves (next h (Install (length rest) memory) None) new (rest ++ later ∷ [])
  installed_on memory d = does_on (Install (length rest) memory) None (refl, refl, refl) d

  pub raised_on : Does (Raise (length rest)) old task new later None → Serves (next h (Raise (length rest)) None) new (rest ++ later ∷ [])
  raised_on d = does_on (Raise (length rest)) None (refl, refl, refl) d

  pub answered_on : (now : ℕ) (out : Option Emission) → Responds now old task new later out → Serves (next h (Answer (length rest) now) out) new (rest ++ later ∷ [])
  answered_on now out d = serves_on h (Answer (length rest) now) old (rest ++ task ∷ []) out new (rest ++ later ∷ [])
      (responds_done (length rest) now old new (rest ++ task ∷ []) (rest ++ later ∷ []) task later out (sym (seam rest task)) (sym (set-append_seam rest task [] later)) d) v

  pub drew_on : (now : ℕ) → DrawsId now old task new later → Serves (next h (Fresh (length rest) now) None) new (rest ++ later ∷ [])
  drew_on now d = serves_on h (Fresh (length rest) now) old (rest ++ task ∷ []) None new (rest ++ later ∷ [])
      (draws_done (length rest) now old new (rest ++ task ∷ []) (rest ++ later ∷ []) task later (sym (seam rest task)) (sym (set-append_seam rest task [] later)) d) v

  pub noted_on : (now random : ℕ) (out : Option Emission) → Does (Note (length rest) now random) old task new later out → Serves (next h (Note (length rest) now random) out) new (rest ++ later ∷ [])
  noted_on now random out d = does_on (Note (length rest) now random) out (refl, refl, refl) d

  pub given_up_on : (now : ℕ) → Does (GiveUp (length rest) now) old task new later None → Serves (next h (GiveUp (length rest) now) None) new (rest ++ later ∷ [])
  given_up_on now d = does_on (GiveUp (length rest) now) None (refl, refl, refl) d

-- ---- a shard

module _ (i : ℕ) (low : i < 8) (old new : ServerState) (front : new.front ≡ old.front) (words : new.words ≡ old.words) (h : History) (tasks : List Task) (v : Serves h old tasks) where
  there : true ≡ nat_lt i 8
  there = sym (lt-ltb i 8 low)

  pub signalled_on : (to : Endpoint) (id : ℕ) (reset : Bool) → new.shards ≡ set old.shards i (signalled (signal_call reset to id) (shard_at old.shards i)) → Serves (next h (Signal i to id reset) None) new tasks
  signalled_on to id reset shards =
      let e = Signal i to id reset in
      let done = shard_done e old new tasks None refl refl front words (shards ∙ ap (λ (b : Bool). shard_changed b i (signalled (signal_call reset to id)) old.shards) there) refl in
      serves_on h e old tasks None new tasks (subst (λ (ts : List Task). Done e (with_tasks old tasks) None (with_tasks new ts)) (append-nil tasks) done) v

  pub resent_on : (now : ℕ) (out : Option Emission) → new.shards ≡ set old.shards i (shard_ticked now (shard_at old.shards i)) → out ≡ shard_resent now (shard_at old.shards i) → Serves (next h (ShardTick i now) out) new tasks
  resent_on now out shards sent =
      let e = ShardTick i now in
      let done = shard_done e old new tasks out refl refl front words (shards ∙ ap (λ (b : Bool). shard_changed b i (shard_ticked now) old.shards) there) (sent ∙ ap (λ (b : Bool). resent_if b (shard_resent now (shard_at old.shards i))) there) in
      serves_on h e old tasks out new tasks (subst (λ (ts : List Task). Done e (with_tasks old tasks) out (with_tasks new ts)) (append-nil tasks) done) v

  pub asked_on : (now : ℕ) (o : Option Job) → new.shards ≡ set old.shards i (shard_asked now (shard_at old.shards i)) → o ≡ shard_turn now (shard_at old.shards i) → Serves (next h (Due i now) None) new (tasks ++ map new_task (option_to_list o))
  asked_on now o shards job =
      let e = Due i now in
      let done = shard_done e old new tasks None refl refl front words (shards ∙ ap (λ (b : Bool). shard_changed b i (shard_asked now) old.shards) there) refl in
      let is : turn_if (nat_lt i 8) (shard_turn now (shard_at old.shards i)) ≡ o = ap (λ (b : Bool). turn_if b (shard_turn now (shard_at old.shards i))) (sym there) ∙ sym job in
      serves_on h e old tasks None new (tasks ++ map new_task (option_to_list o)) (subst (λ (p : Option Job). Done e (with_tasks old tasks) None (with_tasks new (tasks ++ map new_task (option_to_list p)))) is done) v

-- ---- a delivery

-- the emission of a delivery with this result.
abbrev pub sent_by : Delivered → Option Emission
sent_by (Reply emission) = Some emission
sent_by other = None

-- the jobs that a delivery with this result makes.
abbrev pub jobs_by : Delivered → List Job
jobs_by (Brings job) = job ∷ []
jobs_by other = []

sent_or : (em : Option Emission) → em ≡ sent_by (reply_or_nothing em)
sent_or None = refl
sent_or (Some em) = refl

jobs_or : (em : Option Emission) → [] ≡ jobs_by (reply_or_nothing em)
jobs_or None = refl
jobs_or (Some em) = refl

handed_sent : (r : Received) (f : FrontState) (to : Endpoint) → sent r f to ≡ sent_by (handed_on r f to)
handed_sent (x.Opened m asked body) f to = refl
handed_sent (x.Signals id reset) f to = refl
handed_sent x.Ignored f to = refl
handed_sent (x.Rejected id) f to = refl
handed_sent x.Unanswered f to = refl
handed_sent (x.Again bytes) f to = refl
handed_sent (x.Full m) f to = sent_or (sent (x.Full m) f to)
handed_sent (x.Silenced m) f to = refl
handed_sent (x.Immediate m asked response) f to = sent_or (sent (x.Immediate m asked response) f to)
handed_sent (x.Refused m answer) f to = sent_or (sent (x.Refused m answer) f to)

handed_jobs : (r : Received) (f : FrontState) (to : Endpoint) → brought r (next_opening f) to ≡ jobs_by (handed_on r f to)
handed_jobs (x.Opened m asked body) f to = refl
handed_jobs (x.Signals id reset) f to = refl
handed_jobs x.Ignored f to = refl
handed_jobs (x.Rejected id) f to = refl
handed_jobs x.Unanswered f to = refl
handed_jobs (x.Again bytes) f to = refl
handed_jobs (x.Full m) f to = jobs_or (sent (x.Full m) f to)
handed_jobs (x.Silenced m) f to = refl
handed_jobs (x.Immediate m asked response) f to = jobs_or (sent (x.Immediate m asked response) f to)
handed_jobs (x.Refused m answer) f to = jobs_or (sent (x.Refused m answer) f to)

-- the state after a delivery, by the front's result.
pub delivered_to : (now : ℕ) (to : Endpoint) (bytes : List ℕ) (old new : ServerState) (tasks : List Task) (d : Delivered) → delivered (advanced old.front now) to bytes ≡ d → new.front ≡ after_delivered (advanced old.front now) to bytes → new.shards ≡ old.shards → new.words ≡ old.words → DeliveredTo now to bytes (with_tasks old tasks) (with_tasks new (tasks ++ map new_task (jobs_by d))) (sent_by d)
delivered_to now to bytes old new tasks d is front shards words =
    let f = advanced old.front now in
    record {
      front = front;
      tasks = ap (λ (js : List Job). tasks ++ map new_task js) (ap jobs_by (sym is) ∙ sym (handed_jobs (received f to bytes) f to));
      shards = shards;
      words = words;
      emits = ap sent_by (sym is) ∙ sym (handed_sent (received f to bytes) f to);
    }

pub delivered_on : (now : ℕ) (to : Endpoint) (b : Bor (List ℕ)) (old new : ServerState) (d : Delivered) → delivered (advanced old.front now) to b.now ≡ d → new.front ≡ after_delivered (advanced old.front now) to b.now → new.shards ≡ old.shards → new.words ≡ old.words → (h : History) (tasks : List Task) → Serves h old tasks → Serves (next h (Deliver now to b) (sent_by d)) new (tasks ++ map new_task (jobs_by d))
delivered_on now to b old new d is front shards words h tasks v =
    serves_on h (Deliver now to b) old tasks (sent_by d) new (tasks ++ map new_task (jobs_by d)) (delivered_done now to b (with_tasks old tasks) (with_tasks new (tasks ++ map new_task (jobs_by d))) (sent_by d) (delivered_to now to b.now old new tasks d is front shards words)) v

-- the delivery produces neither a job nor a signal.
abbrev pub IsJobless : Delivered → Type 0
IsJobless (Brings job) = ⊥
IsJobless (Signals id reset) = ⊥
IsJobless other = Unit {0}

handled_jobless : (readings : List ℕ) (h : History) (k now : ℕ) (to : Endpoint) (b : Bor (List ℕ)) (new : ServerState) (out : Option Emission) (d : Delivered) → IsJobless d → Delivers h (Deliver now to b) new out → Handled readings h k now to b d new out
handled_jobless readings h k now to b new out (Brings job) none w = absurd none
handled_jobless readings h k now to b new out (Signals id reset) none w = absurd none
handled_jobless readings h k now to b new out other none w = w

-- a delivery that produces no job and no signal is handled by its event alone.
pub handled_on : (readings : List ℕ) (now : ℕ) (to : Endpoint) (b : Bor (List ℕ)) (old new : ServerState) (d : Delivered) (out : Option Emission) → IsJobless d → out ≡ sent_by d → delivered (advanced old.front now) to b.now ≡ d → new.front ≡ after_delivered (advanced old.front now) to b.now → new.shards ≡ old.shards → new.words ≡ old.words → Handles readings now to b (delivered (advanced old.front now) to b.now) old new out
handled_on readings now to b old new d out none emits is front shards words h tasks v =
    let serves = subst (λ (o : Option Emission). Serves (next h (Deliver now to b) o) new (tasks ++ map new_task (jobs_by d))) (sym emits) (delivered_on now to b old new d is front shards words h tasks v) in
    subst (λ (y : Delivered). Handled readings h (length tasks) now to b y new out) (sym is) (handled_jobless readings h (length tasks) now to b new out d none (record { tasks = tasks ++ map new_task (jobs_by d); serves = serves }))

-- a delivery that produces a job is handled by its event and the run of the job.
module _ (now : ℕ) (to : Endpoint) (b : Bor (List ℕ)) (old mid : ServerState) (job : Job) (is : delivered (advanced old.front now) to b.now ≡ Brings job) (front : mid.front ≡ after_delivered (advanced old.front now) to b.now) (shards : mid.shards ≡ old.shards) (words : mid.words ≡ old.words) where
  pub begun_by : IsReachable old → IsBegun mid (new_task job)
  begun_by s = record { history = next s.history (Deliver now to b) None; rest = s.tasks; serves = delivered_on now to b old mid (Brings job) is front shards words s.history s.tasks s.serves }

  pub handled_job : (readings : List ℕ) (new : ServerState) (out : Option Emission) → WorksOff readings (first_stage job) now mid (new_task job) new out → Handles readings now to b (delivered (advanced old.front now) to b.now) old new out
  handled_job readings new out works h tasks v =
      subst (λ (y : Delivered). Handled readings h (length tasks) now to b y new out) (sym is)
      (works (next h (Deliver now to b) None) tasks (delivered_on now to b old mid (Brings job) is front shards words h tasks v))

-- a delivery that is a signal is handled by its event and one signal for each shard.
module _ (now : ℕ) (to : Endpoint) (b : Bor (List ℕ)) (old mid : ServerState) (id : ℕ) (reset : Bool) (is : delivered (advanced old.front now) to b.now ≡ Signals id reset) (front : mid.front ≡ after_delivered (advanced old.front now) to b.now) (shards : mid.shards ≡ old.shards) (words : mid.words ≡ old.words) where
  pub reached_by : IsReachable old → IsReachable mid
  reached_by s = record { history = next s.history (Deliver now to b) None; tasks = s.tasks ++ []; serves = delivered_on now to b old mid (Signals id reset) is front shards words s.history s.tasks s.serves }

  pub handled_signal : (readings : List ℕ) (new : ServerState) → IsSignalled to id reset mid new → Handles readings now to b (delivered (advanced old.front now) to b.now) old new None
  handled_signal readings new signals h tasks v =
      subst (λ (y : Delivered). Handled readings h (length tasks) now to b y new None) (sym is)
      (refl, record { tasks = tasks ++ []; serves = signals (next h (Deliver now to b) None) (tasks ++ []) (delivered_on now to b old mid (Signals id reset) is front shards words h tasks v) })

-- some history leaves the server after it handled a datagram.
handled_served : (readings : List ℕ) (h : History) (k now : ℕ) (to : Endpoint) (b : Bor (List ℕ)) (new : ServerState) (out : Option Emission) (d : Delivered) → Handled readings h k now to b d new out → IsReachable new
handled_served readings h k now to b new out (Brings job) w = record { history = worked readings (first_stage job) job.origin.slot k w.memory now out (next h (Deliver now to b) None); tasks = w.tasks; serves = w.serves }
handled_served readings h k now to b new out (Signals id reset) w = record { history = signalled_below to id reset 8 (next h (Deliver now to b) None); tasks = w.1.tasks; serves = w.1.serves }
handled_served readings h k now to b new out other w = record { history = next h (Deliver now to b) out; tasks = w.tasks; serves = w.serves }

pub still_served : (readings : List ℕ) (now : ℕ) (to : Endpoint) (b : Bor (List ℕ)) (d : Delivered) (old new : ServerState) (out : Option Emission) → IsReachable old → Handles readings now to b d old new out → IsReachable new
still_served readings now to b d old new out s handles = handled_served readings s.history (length s.tasks) now to b new out d (handles s.history s.tasks s.serves)

-- ---- a tick

pub ticked_on : (now : ℕ) (old new : ServerState) → new.front ≡ advanced old.front now → new.shards ≡ old.shards → new.words ≡ old.words → Passes now old new
ticked_on now old new front shards words h tasks v = serves_on h (Tick now) old tasks None new tasks (ticked_done now old new tasks front shards words) v

pub passed_served : (now : ℕ) (old new : ServerState) → IsReachable old → Passes now old new → IsReachable new
passed_served now old new s passes = record { history = next s.history (Tick now) None; tasks = s.tasks; serves = passes s.history s.tasks s.serves }

-- ---- a timer

module _ (slot now : ℕ) (old mid : ServerState) (front : mid.front ≡ advanced old.front now) (shards : mid.shards ≡ old.shards) (words : mid.words ≡ old.words) where
  pub fired_on : (h : History) (tasks : List Task) → Serves h old tasks → Serves (next h (Fire slot now) None) mid (tasks ++ new_task (timer_job slot) ∷ [])
  fired_on h tasks v = serves_on h (Fire slot now) old tasks None mid (tasks ++ new_task (timer_job slot) ∷ []) (fired_done slot now old mid tasks front shards words) v

  pub fired_begun : IsReachable old → IsBegun mid (new_task (timer_job slot))
  fired_begun s = record { history = next s.history (Fire slot now) None; rest = s.tasks; serves = fired_on s.history s.tasks s.serves }

pub fired_served : (readings : List ℕ) (slot now : ℕ) (memory : Bool) (old new : ServerState) → IsReachable old → FiresTimer readings slot now memory old new → IsReachable new
fired_served readings slot now memory old new s fires =
    let w = fires s.history s.tasks s.serves in
    record { history = run_through readings (length s.tasks) memory now None (next s.history (Fire slot now) None); tasks = w.tasks; serves = w.serves }

-- ---- a lease

pub resent_served : (shard now : ℕ) (old new : ServerState) (out : Option Emission) → IsReachable old → TicksShard shard now old new out → IsReachable new
resent_served shard now old new out s resends = record { history = next s.history (ShardTick shard now) out; tasks = s.tasks; serves = resends s.history s.tasks s.serves }

asked_served : (b : Bool) (readings : List ℕ) (h : History) (k now random : ℕ) (new : ServerState) (out : Option Emission) → TurnGiven b readings h k now random new out → IsReachable new
asked_served false readings h k now random new out w = record { history = h; tasks = w.1.tasks; serves = w.1.serves }
asked_served true readings h k now random new out w = record { history = turned readings k w.memory now random out h; tasks = w.tasks; serves = w.serves }

pub notified_served : (readings : List ℕ) (shard now random : ℕ) (old new : ServerState) (given : Bool) (out : Option Emission) → IsReachable old → AsksForTurn readings shard now random old new given out → IsReachable new
notified_served readings shard now random old new given out s notifies = asked_served given readings (next s.history (Due shard now) None) (length s.tasks) now random new out (notifies.asked s.history s.tasks s.serves)

-- ---- a job that is to be answered

-- at a stage without a call of its own, a job only has its answer.
pub worked_at_once : (readings : List ℕ) (step : Step) (f : SlotSnapshot) (seen : ArrayVec ℕ) (content : Content) (slot k : ℕ) (memory : Bool)
    (now : ℕ) (out : Option Emission) (h : History) → step ≢ steps.ToMatch → ((count : ℕ) → step ≢ steps.ToTake count) → step ≢ steps.ToInstall
    → step ≢ steps.ToRemove → step ≢ steps.ToDescribe → step ≢ steps.ToList
    → worked readings (stage_of step f seen content) slot k memory now out h ≡ next h (Answer k now) out
worked_at_once readings steps.ToMatch x seen content slot k memory now out h a b c d e f = absurd (a refl)
worked_at_once readings (steps.ToTake count) x seen content slot k memory now out h a b c d e f = absurd (b count refl)
worked_at_once readings steps.ToInstall x seen content slot k memory now out h a b c d e f = absurd (c refl)
worked_at_once readings steps.ToRemove x seen content slot k memory now out h a b c d e f = absurd (d refl)
worked_at_once readings steps.ToDescribe x seen content slot k memory now out h a b c d e f = absurd (e refl)
worked_at_once readings steps.ToList x seen content slot k memory now out h a b c d e f = absurd (f refl)
worked_at_once readings other x seen content slot k memory now out h a b c d e f = refl
