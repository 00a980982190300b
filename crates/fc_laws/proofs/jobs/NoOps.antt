-- A no-op event changes nothing.
use Rattle.std.proofs.Common.{◌≡◌, ℕ, [], ◌++◌, set, Bool, true, false, Option, Some, None, refl, sym, ap, ◌∙◌, if◌then◌else◌}
use Rattle.std.specs.Prelude.{◌==◌, ◌%◌, length, not, List}
use Rattle.std.proofs.lemmas.List.{append-nil, set-get_or}
use Rattle.coap_msg.specs.declared.types.Emission.{Emission}
use Rattle.fc_ticket.specs.declared.job.Job.{Job}
use Rattle.fc_registry.specs.Slots.{Slot}
use Rattle.fc_core.specs.declared.event.Event.{Event}
use Rattle.fc_core.specs.declared.event.Event.TheVariants.{Deliver, Answer, Signal, Tick, ShardTick, Fresh, Note, Due, Fire}
use Rattle.fc_core.specs.Stage.{Stage}
use Rattle.fc_core.specs.Stage.{ToAnswer, Gone, ToTell}
use Rattle.fc_core.specs.TurnStage as turns
use Rattle.fc_front.specs.Contents.{Content}
use Rattle.fc_core.specs.Stages.{content_at, needs_id}
use Rattle.fc_core.specs.Steps.{Call, next_stage}
use Rattle.fc_core.specs.declared.stage.Task.{Task}
use Rattle.fc_core.specs.Transitions.{Around, Effect, Inputs, call_if, effect_of, handed, task_moved, goes_to, names, notification, transition, words_after}
use Rattle.fc_core.specs.History.{AtFront, AtShard, Calm, Entry, Rests, Seen, and_then, calls_named, changes_after, did, job, no_task, inputs, shard_time_after, stage, task_at, tasks_brought, tasks_by, tasks_moved, turns_by, words_seen, at_front, time_by, exchanges_by, additions_by, ids_by, at_shard, hands_by, calls_by}
use Rattle.coap_block.specs.Transfers.{Addition}
use Rattle.fc_core.specs.Laws.{is_noop, is_noop_at, own_of_named, stage_named}
use Rattle.fc_core.specs.Legal.{Emits, AnswerEmits}
use Rattle.fc_front.specs.Exchanges.{FrontState}
use Rattle.fc_core.proofs.ByStep.{Step, by_step, event_by, effect_by, stage_by, IsAsked}
use Rattle.fc_core.proofs.ByStep as steps

abbrev at : Job → Slot → Around → Stage → Inputs
at job slot ws stage = record { job = job; slot = slot; around = ws; stage = stage }

false_isnt : false ≡ true → ⊥
false_isnt e = cc e

-- a `Peek` of the head word that the job needs isn't a no-op.
asked_isnt : (b : Bool) → b ≡ true → not b ≡ true → ⊥
asked_isnt true is e = false_isnt e
asked_isnt false is e = false_isnt is

step_still : (k : ℕ) (c : Step) (job : Job) (slot : Slot) (ws : Around) → IsAsked c job → is_noop_at (event_by k c) job.origin.slot (stage_by c) ≡ true → effect_by c job slot ws ≡ goes_to (stage_by c)
step_still k (steps.Matches n) job slot ws asked e = absurd (asked_isnt (n == job.origin.slot) asked e)
step_still k (steps.Lists n seen) job slot ws asked e = absurd (asked_isnt (n == length seen.items) asked e)
step_still k (steps.Refuses refusal) job slot ws asked e = absurd (false_isnt (sym (refusal.needed k job.origin.slot) ∙ e))
step_still k (steps.Loses Gone) job slot ws asked e = refl
step_still k other job slot ws asked e = absurd (false_isnt e)

-- a call that changes its job's stage alone, under a condition.
pub call_moves : (e : Event) (x : Inputs) (c : Call) → effect_of e x (Some c) ≡ goes_to (next_stage c) → (b : Bool) → effect_of e x (call_if b c) ≡ goes_to (effect_of e x (call_if b c)).stage
call_moves e x c idle true = idle
call_moves e x c idle false = refl

transition_still : (e : Event) (job : Job) (slot : Slot) (ws : Around) (s : Stage) → is_noop_at e job.origin.slot s ≡ true → transition e (at job slot ws s) ≡ goes_to s
transition_still e job slot ws s =
    by_step (λ d st m. is_noop_at d job.origin.slot st ≡ true → m ≡ goes_to st) job slot ws
    (λ k c asked. step_still k c job slot ws asked) (λ d st rest e. refl) e s

none_drawn : (k now own : ℕ) (s : Stage) → is_noop_at (Fresh k now) own s ≡ true → needs_id s ≡ false
none_drawn k now own (ToTell turn (turns.ToDraw found)) e = absurd (cc)
none_drawn k now own other e = refl

none_answered : (k now own : ℕ) (s : Stage) → is_noop_at (Answer k now) own s ≡ true → content_at s ≡ None
none_answered k now own (ToAnswer content) e = absurd (cc)
none_answered k now own other e = refl

-- the history's summary with job k at this stage.
abbrev pub with_stage : Seen → ℕ → Stage → Seen
with_stage s k stage = record s { tasks = set s.tasks k (record { job = job s k; stage = stage }) }

module _ (s : Seen) (e : Event) (k : ℕ) (st : Stage) (still : transition e (inputs s k) ≡ goes_to st) where
  tasks_still : tasks_moved (Some k) e s ≡ set s.tasks k (record { job = job s k; stage = st })
  tasks_still = ap (λ (m : Effect). set s.tasks k (task_moved (task_at s.tasks k) m)) still

  changes_if : (n : ℕ) (b : Bool) → (if b then (transition e (inputs s k)).changes ++ s.changes n else s.changes n) ≡ s.changes n
  changes_if n true = ap (λ (m : Effect). m.changes ++ s.changes n) still
  changes_if n false = refl

  changes_still : (n : ℕ) → changes_after (Some k) e s n ≡ s.changes n
  changes_still n = changes_if n ((job s k).origin.slot == n)

  calls_if : (n : ℕ) (b : Bool) → (if b then (transition e (inputs s k)).calls else []) ++ s.calls n ≡ s.calls n
  calls_if n true = ap (λ (m : Effect). m.calls ++ s.calls n) still
  calls_if n false = refl

  calls_still : (n : ℕ) → calls_named (Some k) e s n ++ s.calls n ≡ s.calls n
  calls_still n = calls_if n ((job s k).origin.slot == n)

  shard_if : (i : ℕ) (b : Bool) → (if b then handed (transition e (inputs s k)).hands (s.shard_time i) else s.shard_time i) ≡ s.shard_time i
  shard_if i true = ap (λ (m : Effect). handed m.hands (s.shard_time i)) still
  shard_if i false = refl

  shard_still : (i : ℕ) → shard_time_after (Some k) e s i ≡ s.shard_time i
  shard_still i = shard_if i ((job s k).origin.slot % 8 == i)

  words_still : words_seen (Some k) e s ≡ s.words
  words_still = ap (λ (m : Effect). words_after m (task_at s.tasks k) s.words) still

all_same : (a b : Seen) → a.policy ≡ b.policy → a.stored ≡ b.stored → a.time ≡ b.time → a.exchanges ≡ b.exchanges → a.additions ≡ b.additions → a.ids ≡ b.ids → a.tasks ≡ b.tasks → ((n : ℕ) → a.changes n ≡ b.changes n) → ((n : ℕ) → a.shard_time n ≡ b.shard_time n) → ((n : ℕ) → a.calls n ≡ b.calls n) → a.words ≡ b.words → a ≡ b
all_same a b o f m x p d t c h v w = λ i. record { policy = o i; stored = f i; time = m i; exchanges = x i; additions = p i; ids = d i; tasks = t i; changes = λ n. c n i; shard_time = λ n. h n i; calls = λ n. v n i; words = w i }

-- the event leaves the front unchanged, brings no job, and has no effect at a shard of its own.
pub record IsCalm (s : Seen) (e : Event) (o : Option Emission) : Type 0 where
  time : time_by (at_front e) s ≡ s.time
  exchanges : exchanges_by (at_front e) o s ≡ s.exchanges
  additions : additions_by (at_front e) s ≡ []
  ids : ids_by (at_front e) s ≡ s.ids
  brought : tasks_brought e s ≡ []
  hands : (i : ℕ) → hands_by (at_shard e) i ≡ None
  calls : (n : ℕ) → calls_by (at_shard e) s n ≡ []

-- an event without an effect on the front, and without one at a shard of its own, is calm.
pub calm_at_rest : (s : Seen) (e : Event) (o : Option Emission) → at_front e ≡ Rests → at_shard e ≡ Calm → IsCalm s e o
calm_at_rest s e o rests calm = record {
  time = ap (λ (x : AtFront). time_by x s) rests;
  exchanges = ap (λ (x : AtFront). exchanges_by x o s) rests;
  additions = ap (λ (x : AtFront). additions_by x s) rests;
  ids = ap (λ (x : AtFront). ids_by x s) rests;
  brought = λ i. turns_by (calm i) s ++ tasks_by (rests i) s;
  hands = λ n. ap (λ (x : AtShard). hands_by x n) calm;
  calls = λ n. ap (λ (x : AtShard). calls_by x s n) calm;
}

-- if a calm event of a job changes the job's stage alone, it leaves everything else unchanged.
pub named_moves : (s : Seen) (e : Event) (o : Option Emission) (k : ℕ) (st : Stage) → names e ≡ Some k → transition e (inputs s k) ≡ goes_to st → IsCalm s e o → and_then (did e o) s ≡ with_stage s k st
named_moves s e o k st is still calm =
    all_same (and_then (did e o) s) (with_stage s k st) refl refl calm.time calm.exchanges (ap (λ (l : List Addition). l ++ s.additions) calm.additions) calm.ids
    ((λ i. tasks_moved (is i) e s ++ calm.brought i) ∙ (append-nil (tasks_moved (Some k) e s) ∙ tasks_still s e k st still))
    (λ n. (λ i. changes_after (is i) e s n) ∙ changes_still s e k st still n)
    (λ n. (λ i. handed (calm.hands n i) (shard_time_after (is i) e s n)) ∙ shard_still s e k st still n)
    (λ n. (λ i. calls_named (is i) e s n ++ (calm.calls n i ++ s.calls n)) ∙ calls_still s e k st still n)
    ((λ i. words_seen (is i) e s) ∙ words_still s e k st still)

-- a calm event that names no job leaves everything unchanged.
unnamed_stays : (s : Seen) (e : Event) (o : Option Emission) → names e ≡ None → IsCalm s e o → and_then (did e o) s ≡ s
unnamed_stays s e o is calm =
    all_same (and_then (did e o) s) s refl refl calm.time calm.exchanges (ap (λ (l : List Addition). l ++ s.additions) calm.additions) calm.ids
    ((λ i. tasks_moved (is i) e s ++ calm.brought i) ∙ append-nil s.tasks)
    (λ n i. changes_after (is i) e s n)
    (λ n i. handed (calm.hands n i) (shard_time_after (is i) e s n))
    (λ n i. calls_named (is i) e s n ++ (calm.calls n i ++ s.calls n))
    (λ i. words_seen (is i) e s)

-- a calm no-op leaves everything unchanged.
calm_still : (s : Seen) (e : Event) (o : Option Emission) → IsCalm s e o → (n : Option ℕ) → names e ≡ n → is_noop_at e (own_of_named s n) (stage_named s n) ≡ true → and_then (did e o) s ≡ s
calm_still s e o calm None is noop = unnamed_stays s e o is calm
calm_still s e o calm (Some k) is noop =
    let still : transition e (inputs s k) ≡ goes_to (stage s k) = transition_still e (job s k) (inputs s k).slot (inputs s k).around (stage s k) noop in
    named_moves s e o k (stage s k) is still calm ∙ ap (λ (ts : List Task). record s { tasks = ts }) (set-get_or s.tasks k no_task)

noop_still : (e : Event) (o : Option Emission) (s : Seen) → is_noop s e ≡ true → and_then (did e o) s ≡ s
noop_still (Deliver now to bytes) o s e = absurd (cc)
noop_still (Tick now) o s e = absurd (cc)
noop_still (Fire slot now) o s e = absurd (cc)
noop_still (Signal shard to id reset) o s e = absurd (cc)
noop_still (Due shard now) o s e = absurd (cc)
noop_still (ShardTick shard now) o s e = absurd (cc)
noop_still (Answer k now) o s e =
    let none : content_at (stage s k) ≡ None = none_answered k now (job s k).origin.slot (stage s k) e in
    calm_still s (Answer k now) o (record { time = rw none; exchanges = rw none; additions = refl; ids = rw none; brought = refl; hands = λ i. refl; calls = λ n. refl }) (Some k) refl e
noop_still (Fresh k now) o s e =
    let none : needs_id (stage s k) ≡ false = none_drawn k now (job s k).origin.slot (stage s k) e in
    calm_still s (Fresh k now) o (record { time = rw none; exchanges = refl; additions = refl; ids = rw none; brought = refl; hands = λ i. refl; calls = λ n. refl }) (Some k) refl e
noop_still other o s e = calm_still s other o (calm_at_rest s other o refl refl) (names other) refl e

pub no_ops_stay : (r : Entry) (s : Seen) → is_noop s r.event ≡ true → and_then r s ≡ s
no_ops_stay r s e = noop_still r.event r.emitted s e

-- ---- emissions

none_told : (k now random own : ℕ) (x : Inputs) (st : Stage) → is_noop_at (Note k now random) own st ≡ true → notification now x st ≡ None
none_told k now random own x (ToTell turn (turns.ToNote found id)) e = absurd (cc)
none_told k now random own x other e = refl

none_emits : (c : Option Content) (j : Job) (f : FrontState) (o : Option Emission) → c ≡ None → AnswerEmits c j f o → o ≡ None
none_emits None j f o e w = w
none_emits (Some content) j f o e w = absurd (cc)

noop_emits : (s : Seen) (e : Event) (o : Option Emission) → is_noop s e ≡ true → Emits s e o → o ≡ None
noop_emits s (Deliver now to bytes) o e w = absurd (cc)
noop_emits s (ShardTick shard now) o e w = absurd (cc)
noop_emits s (Answer k now) o e w = none_emits (content_at (stage s k)) _ _ o (none_answered k now (job s k).origin.slot (stage s k) e) w
noop_emits s (Note k now random) o e w = w ∙ none_told k now random (job s k).origin.slot (inputs s k) (stage s k) e
noop_emits s other o e w = w

pub no_ops_emit_nothing : (r : Entry) (s : Seen) → is_noop s r.event ≡ true → Emits s r.event r.emitted → r.emitted ≡ None
no_ops_emit_nothing r s e w = noop_emits s r.event r.emitted e w
