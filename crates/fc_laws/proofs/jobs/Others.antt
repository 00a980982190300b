-- The parts that an event leaves unchanged.
use Rattle.std.proofs.Common.{◌≡◌, ℕ, ◌<◌, ◌≤◌, List, [], ◌∷◌, ◌++◌, Bool, Some, None, refl, sym, ap, ◌∙◌, subst, ⊎_elim, length, arith, if◌then◌else◌}
use Rattle.std.proofs.lemmas.Bool.{cases_lt, eq-eqb, ne_eqb}
use Rattle.std.proofs.lemmas.List.{get_or_past}
use Rattle.fc_ticket.specs.declared.job.Job.{Job}
use Rattle.fc_registry.specs.Slots.{Slot}
use Rattle.fc_core.specs.declared.event.Event.{Event}
use Rattle.fc_core.specs.Stage.{Stage}
use Rattle.fc_core.specs.Stage.{Gone}
use Rattle.fc_core.specs.declared.stage.Task.{Task}
use Rattle.fc_core.specs.History.{Entry, History, Then, Seen, seen, and_then, changes_after, job, no_task, inputs, stage, task_at}
use Rattle.fc_core.specs.Laws.{HasCome, followed_by, slot_of}
use Rattle.fc_core.specs.Transitions.{Around, names, transition}
use Rattle.fc_laws.proofs.jobs.Steps.{Becomes, Moves, Stays, Comes, becomes, tasks_grow}

unnamed_by : (r : Entry) (s : Seen) (k : ℕ) (t : Task) → Becomes (names r.event) r.event s k t → HasCome s k → (names r.event ≡ Some k → ⊥) → t.stage ≡ stage s k
unnamed_by r s k t (Moves named is) come ne = absurd (ne named)
unnamed_by r s k t (Stays other is) come ne = ap (λ (x : Task). x.stage) is
unnamed_by r s k t (Comes new j is) come ne = absurd (omega (arith, new, come))

pub unnamed_stays : (r : Entry) (s : Seen) (k : ℕ) → HasCome s k → (names r.event ≡ Some k → ⊥) → stage (and_then r s) k ≡ stage s k
unnamed_stays r s k come ne = unnamed_by r s k (task_at (and_then r s).tasks k) (becomes r s k) come ne

job_by : (r : Entry) (s : Seen) (k : ℕ) (t : Task) → Becomes (names r.event) r.event s k t → HasCome s k → t.job ≡ job s k
job_by r s k t (Moves named is) come = ap (λ (x : Task). x.job) is
job_by r s k t (Stays other is) come = ap (λ (x : Task). x.job) is
job_by r s k t (Comes new j is) come = absurd (omega (arith, new, come))

pub job_stays : (r : Entry) (s : Seen) (k : ℕ) → HasCome s k → job (and_then r s) k ≡ job s k
job_stays r s k come = job_by r s k (task_at (and_then r s).tasks k) (becomes r s k) come

pub other_slot : (r : Entry) (s : Seen) (k n : ℕ) → names r.event ≡ Some k → (n ≡ (job s k).origin.slot → ⊥) → (and_then r s).changes n ≡ s.changes n
other_slot r s k n named ne =
    (λ i. changes_after (named i) r.event s n)
    ∙ ap (λ (b : Bool). if b then (transition r.event (inputs s k)).changes ++ s.changes n else s.changes n) (ne_eqb (job s k).origin.slot n (λ e. ne (sym e)))

pub no_slot : (r : Entry) (s : Seen) (n : ℕ) → names r.event ≡ None → (and_then r s).changes n ≡ s.changes n
no_slot r s n none = λ i. changes_after (none i) r.event s n

-- a job that hasn't ended has arrived.
pub is_here : (s : Seen) (k : ℕ) (at : Stage) → stage s k ≡ at → (at ≡ Gone → ⊥) → HasCome s k
is_here s k at is alive = ⊎_elim
    (λ (lt : k < length s.tasks). lt)
    (λ (le : length s.tasks ≤ k). absurd (alive (sym is ∙ ap (λ (t : Task). t.stage) (get_or_past s.tasks k no_task le))))
    (cases_lt k (length s.tasks))

named_by : (r : Entry) (s : Seen) (k : ℕ) (t : Task) → Becomes (names r.event) r.event s k t → HasCome s k → names r.event ≡ Some k → t.stage ≡ (transition r.event (inputs s k)).stage
named_by r s k t (Moves same is) come named = ap (λ (x : Task). x.stage) is
named_by r s k t (Stays other is) come named = absurd (other named)
named_by r s k t (Comes new j is) come named = absurd (omega (arith, new, come))

-- the stage of a job after an event that names it is that of the transition.
pub named_stage : (r : Entry) (s : Seen) (k : ℕ) → HasCome s k → names r.event ≡ Some k → stage (and_then r s) k ≡ (transition r.event (inputs s k)).stage
named_stage r s k come named = named_by r s k (task_at (and_then r s).tasks k) (becomes r s k) come named

-- a job that arrived is among the jobs after each event.
pub still_here : (r : Entry) (s : Seen) (k : ℕ) → HasCome s k → HasCome (and_then r s) k
still_here r s k come = omega (arith, tasks_grow r s, come)

-- if each transition keeps a property of a job's stage, the property holds after each event.
pub kept_by : (Q : Stage → Type 0) → ((e : Event) (j : Job) (slot : Slot) (ws : Around) (at : Stage) → Q at → Q (transition e (record { job = j; slot = slot; around = ws; stage = at })).stage) → (r : Entry) (s : Seen) (k : ℕ) (t : Task) → Becomes (names r.event) r.event s k t → HasCome s k → Q (stage s k) → Q t.stage
kept_by Q keeps r s k t (Moves named is) come q = subst (λ (x : Task). Q x.stage) (sym is) (keeps r.event (job s k) (inputs s k).slot (inputs s k).around (stage s k) q)
kept_by Q keeps r s k t (Stays other is) come q = subst (λ (x : Task). Q x.stage) (sym is) q
kept_by Q keeps r s k t (Comes new j is) come q = absurd (omega (arith, new, come))

-- if each transition keeps a property of a job's stage, the property holds after all later events.
pub kept_later : (Q : Stage → Type 0) → ((e : Event) (j : Job) (slot : Slot) (ws : Around) (at : Stage) → Q at → Q (transition e (record { job = j; slot = slot; around = ws; stage = at })).stage) → (rs : List Entry) (h : History) (k : ℕ) → HasCome (seen h) k → Q (stage (seen h) k) → Q (stage (seen (followed_by h rs)) k)
unfolding seen
kept_later Q keeps [] h k come q = q
kept_later Q keeps (r ∷ rs) h k come q = kept_later Q keeps rs (Then h r) k (still_here r (seen h) k come) (kept_by Q keeps r (seen h) k (task_at (and_then r (seen h)).tasks k) (becomes r (seen h) k) come q)

-- the changes of a slot after an event that names one of its jobs.
pub own_slot : (r : Entry) (s : Seen) (k : ℕ) → names r.event ≡ Some k → (and_then r s).changes (slot_of s k) ≡ (transition r.event (inputs s k)).changes ++ s.changes (slot_of s k)
own_slot r s k named =
    (λ i. changes_after (named i) r.event s (slot_of s k))
    ∙ ap (λ (b : Bool). if b then (transition r.event (inputs s k)).changes ++ s.changes (slot_of s k) else s.changes (slot_of s k)) (eq-eqb (slot_of s k) (slot_of s k) refl)
