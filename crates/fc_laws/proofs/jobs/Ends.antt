-- A job is answered at most once, and a job that has ended stays ended.
use Rattle.std.proofs.Common.{◌≡◌, ℕ, ◌+◌, ◌≤◌, List, [], ◌∷◌, ◌++◌, Bool, true, false, Option, Some, None, refl, sym, ap, ◌∙◌, subst, arith, if◌then◌else◌}
use Rattle.coap_msg.specs.declared.types.Emission.{Emission}
use Rattle.fc_ticket.specs.declared.job.Ask.{Ask}
use Rattle.fc_ticket.specs.declared.job.Job.{Job}
use Rattle.fc_registry.specs.Slots.{Slot}
use Rattle.fc_ticket.specs.Tickets.{Present, Ticket}
use Rattle.fc_registry.specs.Changes.{Change}
use Rattle.fc_registry.specs.Calls.{commit_of, snapshot}
use Rattle.fc_ticket.specs.Runs.{run_of, ticket_of}
use Rattle.fc_core.specs.declared.event.Event.{Event}
use Rattle.fc_core.specs.declared.event.Event.TheVariants.{Take, Install, Raise, Answer, Lose}
use Rattle.fc_core.specs.Stage.{Stage}
use Rattle.fc_core.specs.Stage.{ToTake, ToCommit, ToInstall, ToRaise, ToAnswer, Gone, ToTell}
use Rattle.fc_core.specs.TurnStage as turns
use Rattle.fc_front.specs.Contents.{Content, Unavailable}
use Rattle.fc_core.specs.History.{around, Entry, History, Then, Seen, seen, and_then, did, job, inputs, slot_at, stage, task_at}
use Rattle.fc_core.specs.Laws.{HasCome, Snapshot, answers_of, gives, is_answered, is_named, followed_by, slot_of, snapshots_of}
use Rattle.fc_core.specs.Stages.{first_by, took}
use Rattle.fc_core.specs.Transitions.{Around, Inputs, transition}
use Rattle.fc_core.proofs.ByStep.{Step, IsUnanswered, by_effect, by_step, event_by, effect_by, stage_by}
use Rattle.fc_core.proofs.ByStep as steps
use Rattle.fc_laws.proofs.jobs.Along.{IsTold, along}
use Rattle.fc_laws.proofs.jobs.Others.{is_here, kept_by, kept_later, named_stage, still_here}
use Rattle.fc_laws.proofs.jobs.Steps.{becomes, gone_stays}

abbrev at : Job → Slot → Around → Stage → Inputs
at job slot ws stage = record { job = job; slot = slot; around = ws; stage = stage }

-- ---- answered at most once

-- the number of answers that a job at this stage has been given: at most one, and none before the
-- end.
abbrev FitsAnswers : ℕ → Stage → Type 0
FitsAnswers n Gone = n ≤ 1
FitsAnswers n other = n ≡ 0

none_is_few : (n : ℕ) → n ≡ 0 → n ≤ 1
none_is_few n f = omega (arith, f)

at_most_once : (s : Stage) (n : ℕ) → FitsAnswers n s → n ≤ 1
at_most_once Gone n f = f
at_most_once other n f = none_is_few n f

never_yet : (s : Stage) (n : ℕ) → n ≡ 0 → FitsAnswers n s
never_yet Gone n is = omega arith
never_yet other n is = is

none_yet : (s : Stage) (n : ℕ) → IsUnanswered s → FitsAnswers n s → n ≡ 0
none_yet Gone n none f = absurd none
none_yet other n none f = f

-- a step of a job that isn't answered yet keeps the number of answers fitting.
step_answers : (k : ℕ) (c : Step) (job : Job) (slot : Slot) (ws : Around) (n : ℕ) → FitsAnswers n (stage_by c) → FitsAnswers (if is_answered (event_by k c) (stage_by c) then n + 1 else n) (effect_by c job slot ws).stage
step_answers k (steps.Answers now content) job slot ws n f = omega (arith, f)
step_answers k (steps.Loses needs) job slot ws n f = at_most_once needs n f
step_answers k (steps.Refuses refusal) job slot ws n f = subst (λ (b : Bool). FitsAnswers (if b then n + 1 else n) (ToAnswer Unavailable)) (sym (refusal.answered k)) (none_yet refusal.stage n refusal.unanswered f)
step_answers k other job slot ws n f = never_yet (effect_by other job slot ws).stage n f

transition_answers : (e : Event) (job : Job) (slot : Slot) (ws : Around) (s : Stage) (n : ℕ) → FitsAnswers n s → FitsAnswers (if is_answered e s then n + 1 else n) (transition e (at job slot ws s)).stage
transition_answers e job slot ws s n =
    by_step (λ d st m. FitsAnswers n st → FitsAnswers (if is_answered d st then n + 1 else n) m.stage) job slot ws (λ k c asked. step_answers k c job slot ws n)
    (λ d st rest f. subst (λ (b : Bool). FitsAnswers (if b then n + 1 else n) st) (sym rest.answered) f) e s

gone_answered : (e : Event) → is_answered e Gone ≡ false
gone_answered (Answer k now) = refl
gone_answered other = refl

first_answers : (ask : Ask) (serials : List ℕ) → FitsAnswers 0 (first_by ask serials)
first_answers ask serials = never_yet (first_by ask serials) 0 refl

abbrev once_more : Event → Seen → ℕ → ℕ → ℕ
once_more e s k n = if is_answered e (stage s k) then n + 1 else n

answers_told : IsTold answers_of once_more FitsAnswers 0
answers_told = record {
  begins = λ stored id policy k. refl;
  then_is = λ h r k. refl;
  still = λ e s k n is. ap (λ (b : Bool). if b then n + 1 else n) (ap (is_answered e) is ∙ gone_answered e);
  gone = omega arith;
  first = first_answers;
  turns = λ turn. refl;
  keeps = λ e s k n f. transition_answers e (job s k) (slot_at s (slot_of s k)) (around s (slot_of s k)) (stage s k) n f;
}

answers_fit : (h : History) (k : ℕ) → FitsAnswers (answers_of h k) (stage (seen h) k)
answers_fit = along answers_of once_more FitsAnswers 0 answers_told

pub answered_once : (h : History) (k : ℕ) → answers_of h k ≤ 1
answered_once h k = at_most_once (stage (seen h) k) (answers_of h k) (answers_fit h k)

some_isnt_none : (P : Type 0) (n : ℕ) → n ≡ 0 → 1 ≤ n → P
some_isnt_none P n f le = absurd (omega (arith, f))

answered_by : (s : Stage) (n : ℕ) → FitsAnswers n s → 1 ≤ n → s ≡ Gone
answered_by Gone n f le = refl
answered_by other n f le = some_isnt_none (other ≡ Gone) n f le

pub answered_gone : (h : History) (k : ℕ) → 1 ≤ answers_of h k → stage (seen h) k ≡ Gone
answered_gone h k le = answered_by (stage (seen h) k) (answers_of h k) (answers_fit h k) le

-- ---- ends

transition_gone : (e : Event) (job : Job) (slot : Slot) (ws : Around) (s : Stage) → s ≡ Gone → (transition e (at job slot ws s)).stage ≡ Gone
transition_gone e job slot ws s is = ap (λ (x : Stage). (transition e (at job slot ws x)).stage) is ∙ gone_stays e job slot ws

pub gone_later : (h : History) (rs : List Entry) (k : ℕ) → HasCome (seen h) k → stage (seen h) k ≡ Gone → stage (seen (followed_by h rs)) k ≡ Gone
gone_later h rs k come is = kept_later (λ s. s ≡ Gone) transition_gone rs h k come is

pub lost_gone : (s : Seen) (k : ℕ) (o : Option Emission) → HasCome s k → stage (and_then (did (Lose k) o) s) k ≡ Gone
lost_gone s k o come = named_stage (did (Lose k) o) s k come refl

pub answer_gone : (s : Seen) (k now : ℕ) (o : Option Emission) (content : Content) → stage s k ≡ ToAnswer content → stage (and_then (did (Answer k now) o) s) k ≡ Gone
answer_gone s k now o content is = named_stage (did (Answer k now) o) s k (is_here s k (ToAnswer content) is (λ e. absurd (cc e))) refl
    ∙ ap (λ (x : Stage). (transition (Answer k now) (at (job s k) (slot_at s (slot_of s k)) (around s (slot_of s k)) x)).stage) is

pub raise_keeps : (s : Seen) (k word : ℕ) (o : Option Emission) (content : Content) → stage s k ≡ ToRaise word content → stage (and_then (did (Raise k) o) s) k ≡ ToAnswer content
raise_keeps s k word o content is = named_stage (did (Raise k) o) s k (is_here s k (ToRaise word content) is (λ e. absurd (cc e))) refl
    ∙ ap (λ (x : Stage). (transition (Raise k) (at (job s k) (slot_at s (slot_of s k)) (around s (slot_of s k)) x)).stage) is

-- ---- memory

pub take_refused : (s : Seen) (k count : ℕ) (readings : List ℕ) (o : Option Emission) (p : Present) → stage s k ≡ ToTake count → (slot_at s (slot_of s k)).present ≡ Some p → stage (and_then (did (Take k false readings) o) s) k ≡ ToAnswer Unavailable
take_refused s k count readings o p is holds = named_stage (did (Take k false readings) o) s k (is_here s k (ToTake count) is (λ e. absurd (cc e))) refl
    ∙ (ap (λ (x : Stage). (transition (Take k false readings) (at (job s k) (slot_at s (slot_of s k)) (around s (slot_of s k)) x)).stage) is
    ∙ ap (λ (x : Option Present). took count (snapshot None (job s k) (slot_at s (slot_of s k)).serial x)) holds)

-- a snapshot with memory keeps the readings that were passed to it.
pub take_keeps : (s : Seen) (k count : ℕ) (readings : List ℕ) (o : Option Emission) (p : Present) → stage s k ≡ ToTake count → (slot_at s (slot_of s k)).present ≡ Some p → (t : Ticket) × (stage (and_then (did (Take k true readings) o) s) k ≡ ToCommit (count + 1) t) × ((run_of t).input.readings ≡ readings) × ((commit_of t).readings ≡ readings)
take_keeps s k count readings o p is holds = (
  ticket_of (job s k) readings (slot_at s (slot_of s k)).serial p,
  named_stage (did (Take k true readings) o) s k (is_here s k (ToTake count) is (λ e. absurd (cc e))) refl
      ∙ (ap (λ (x : Stage). (transition (Take k true readings) (at (job s k) (slot_at s (slot_of s k)) (around s (slot_of s k)) x)).stage) is
      ∙ ap (λ (x : Option Present). took count (snapshot (Some readings) (job s k) (slot_at s (slot_of s k)).serial x)) holds),
  refl,
  refl,
)

pub install_refused : (s : Seen) (k : ℕ) (o : Option Emission) → stage s k ≡ ToInstall → stage (and_then (did (Install k false) o) s) k ≡ ToAnswer Unavailable
install_refused s k o is = named_stage (did (Install k false) o) s k (is_here s k ToInstall is (λ e. absurd (cc e))) refl
    ∙ ap (λ (x : Stage). (transition (Install k false) (at (job s k) (slot_at s (slot_of s k)) (around s (slot_of s k)) x)).stage) is

-- a job at this stage takes no more snapshots.
abbrev IsImmediate : Stage → Type 0
IsImmediate (ToRaise word content) = Unit {0}
IsImmediate (ToAnswer content) = Unit {0}
IsImmediate Gone = Unit {0}
IsImmediate other = ⊥

step_settled : (c : Step) (job : Job) (slot : Slot) (ws : Around) → IsImmediate (stage_by c) → IsImmediate (effect_by c job slot ws).stage
step_settled (steps.Raises word content) job slot ws f = tt
step_settled (steps.Answers now content) job slot ws f = tt
step_settled (steps.Loses needs) job slot ws f = tt
step_settled (steps.Refuses refusal) job slot ws f = tt
step_settled other job slot ws f = absurd f

transition_settled : (e : Event) (job : Job) (slot : Slot) (ws : Around) (s : Stage) → IsImmediate s → IsImmediate (transition e (at job slot ws s)).stage
transition_settled e job slot ws s = by_effect (λ st m. IsImmediate st → IsImmediate m.stage) job slot ws (λ c asked. step_settled c job slot ws) (λ st f. f) e s

settled_given : (e : Event) (job : Job) (slot : Slot) (ws : Around) (cs : List Change) (s : Stage) → IsImmediate s → gives e (at job slot ws s) cs ≡ []
settled_given (Take k true readings) job slot ws cs (ToTake count) f = absurd f
settled_given (Take k true readings) job slot ws cs (ToTell turn turns.ToTake) f = absurd f
settled_given (Take k false readings) job slot ws cs s f = refl
settled_given other job slot ws cs s f = refl

none_more : (b : Bool) (new ts : List Snapshot) → new ≡ [] → (if b then new ++ ts else ts) ≡ ts
none_more true new ts is = ap (λ (l : List Snapshot). l ++ ts) is
none_more false new ts is = refl

settled_later : (rs : List Entry) (h : History) (k : ℕ) → HasCome (seen h) k → IsImmediate (stage (seen h) k) → snapshots_of (followed_by h rs) k ≡ snapshots_of h k
unfolding seen
settled_later [] h k come f = refl
settled_later (r ∷ rs) h k come f =
    let s = seen h in
    settled_later rs (Then h r) k (still_here r s k come) (kept_by IsImmediate transition_settled r s k (task_at (and_then r s).tasks k) (becomes r s k) come f)
    ∙ none_more (is_named k r.event) (gives r.event (inputs s k) (s.changes (slot_of s k))) (snapshots_of h k) (settled_given r.event (job s k) (slot_at s (slot_of s k)) (around s (slot_of s k)) (s.changes (slot_of s k)) (stage s k) f)

pub none_taken_later : (h : History) (rs : List Entry) (k : ℕ) (content : Content) → stage (seen h) k ≡ ToAnswer content → snapshots_of (followed_by h rs) k ≡ snapshots_of h k
none_taken_later h rs k content is = settled_later rs h k (is_here (seen h) k (ToAnswer content) is (λ e. absurd (cc e))) (subst IsImmediate (sym is) tt)
