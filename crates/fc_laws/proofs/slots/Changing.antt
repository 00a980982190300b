-- A job changes its slot at most once, and then publishes the slot's serial.
use Rattle.std.proofs.Common.{◌≡◌, ℕ, ◌+◌, ◌-◌, ◌<◌, ◌≤◌, length, Bool, true, false, Option, Some, None, refl, sym, ap, ◌∙◌, subst, ◌⊎◌, inl, inr, ⊎_elim, arith, if◌then◌else◌, length-append}
use Rattle.std.specs.Prelude.{List, [], ◌∷◌, ◌++◌, nat_lt}
use Rattle.std.proofs.lemmas.Bool.{cases_Bool, cases_lt, eqb-true}
use Rattle.fc_kinds.specs.Meaning.{Program}
use Rattle.fc_verify.specs.Accepted.{Judgement, Accepts, Breaks, Untypable}
use Rattle.fc_verify.specs.Judged.{judged}
use Rattle.fc_ticket.specs.declared.job.InitialVars.{InitialVars}
use Rattle.fc_ticket.specs.declared.job.Job.{Job}
use Rattle.fc_registry.specs.declared.commit.CommitOutcome.{CommitOutcome}
use Rattle.fc_registry.specs.declared.commit.CommitOutcome.TheVariants.{Writes, Keeps, Overtakes, Ends}
use Rattle.fc_registry.specs.Slots.{Slot, last_serial}
use Rattle.fc_ticket.specs.Tickets.{Present, Ticket}
use Rattle.fc_registry.specs.Calls.{clear_by, outcome, put_by, snapshot, readings_if}
use Rattle.fc_ticket.specs.Runs.{receipt_of, initial_vars_of}
use Rattle.fc_core.specs.declared.event.Event.{Event}
use Rattle.fc_core.specs.declared.event.Event.TheVariants.{Deliver, Due, Fire, ShardTick, Signal, Take, Tick}
use Rattle.fc_core.specs.Stage.{Stage}
use Rattle.fc_core.specs.Stage.{ToMatch, ToTake, ToCommit, ToInstall, ToRemove, ToList, ToRaise, ToAnswer, Gone, ToTell}
use Rattle.fc_core.specs.TurnStage as turns
use Rattle.fc_front.specs.Contents.{Content, Listed, Unavailable}
use Rattle.fc_front.specs.Heads.{is_match, word_at}
use Rattle.fc_core.specs.History.{around, Entry, History, Then, Seen, seen, and_then, job, inputs, slot_at, stage}
use Rattle.fc_core.specs.Laws.{HasCome, changes_by, is_named, is_job, is_noop, is_noop_at, own_of_named, slot_of, stage_named}
use Rattle.fc_laws.specs.SlotLaws.{IsToRaise}
use Rattle.fc_core.specs.Stages.{first_by, image_of, made, matched_by, removed, took}
use Rattle.fc_core.specs.Transitions.{Around, Inputs, names, transition, install_call, install_if}
use Rattle.fc_core.specs.Steps.{Installs, Removes, changes_of_call, next_stage}
use Rattle.fc_core.proofs.ByStep.{Step, by_effect, by_step, effect_by, stage_by, committed}
use Rattle.fc_core.proofs.ByStep as steps
use Rattle.fc_laws.proofs.turns.Telling.{after_turn}
use Rattle.fc_laws.proofs.jobs.Along.{IsTold, along, gone_before}
use Rattle.fc_laws.proofs.jobs.Others.{named_stage, own_slot}
use Rattle.fc_laws.proofs.jobs.NoOps.{no_ops_stay}

abbrev at : Job → Slot → Around → Stage → Inputs
at job slot ws stage = record { job = job; slot = slot; around = ws; stage = stage }

-- the number of changes that a job at this stage is to publish.
abbrev raises : Stage → ℕ
raises (ToRaise word content) = 1
raises other = 0

snapshot_raises : (kept : Option (List ℕ)) (job : Job) (slot : Slot) (n : ℕ) (p : Option Present) → 0 ≡ raises (took n (snapshot kept job slot.serial p))
snapshot_raises kept job slot n None = refl
snapshot_raises (Some readings) job slot n (Some p) = refl
snapshot_raises None job slot n (Some p) = refl

retaken_raises : (n : ℕ) (b : Bool) → 0 ≡ raises (if b then ToTake n else ToAnswer Unavailable)
retaken_raises n true = refl
retaken_raises n false = refl

committed_raises : (n : ℕ) (t : Ticket) (now serial : ℕ) (ws : Around) (o : CommitOutcome) → length (committed o n t now serial ws).changes ≡ raises (committed o n t now serial ws).stage
committed_raises n t now serial ws Writes = refl
committed_raises n t now serial ws Keeps = refl
committed_raises n t now serial ws Overtakes = retaken_raises n (nat_lt n 8)
committed_raises n t now serial ws Ends = refl

put_raises : (b : Bool) (slot : Slot) (p : Program) (v : InitialVars) → length (changes_of_call (Installs p v (put_by b slot p v).answer)) ≡ raises (made (receipt_of p 0) (put_by b slot p v).answer)
put_raises true slot p v = refl
put_raises false slot p v = refl

installed_raises : (v : InitialVars) (j : Judgement) (slot : Slot) → length (changes_of_call (install_call v j slot)) ≡ raises (next_stage (install_call v j slot))
installed_raises v (Accepts p) slot = put_raises (nat_lt slot.serial last_serial) slot p v
installed_raises v (Breaks rule k) slot = refl
installed_raises v Untypable slot = refl

verified_raises : (memory : Bool) (s : Inputs) → length (changes_of_call (install_if memory (initial_vars_of s.job.ask) (judged (image_of s.job.ask)) s.slot)) ≡ raises (next_stage (install_if memory (initial_vars_of s.job.ask) (judged (image_of s.job.ask)) s.slot))
verified_raises true s = installed_raises (initial_vars_of s.job.ask) (judged (image_of s.job.ask)) s.slot
verified_raises false s = refl

clear_raises : (below : Bool) (serial : ℕ) (p : Option Present) → length (changes_of_call (Removes (clear_by below serial p).answer)) ≡ raises (removed (clear_by below serial p).answer)
clear_raises below serial None = refl
clear_raises true serial (Some p) = refl
clear_raises false serial (Some p) = refl

matched_raises : (b : Bool) (word : ℕ) → 0 ≡ raises (matched_by b word)
matched_raises true word = refl
matched_raises false word = refl

listed_raises : (b : Bool) (words : List ℕ) → 0 ≡ raises (if b then ToList (record { items = words }) else ToAnswer (Listed words))
listed_raises true words = refl
listed_raises false words = refl

step_raises : (c : Step) (job : Job) (slot : Slot) (ws : Around) → length (effect_by c job slot ws).changes ≡ raises (effect_by c job slot ws).stage
step_raises (steps.Matches n) job slot ws = matched_raises (is_match (word_at ws.common.words n) job.etags.items) (word_at ws.common.words n)
step_raises (steps.Lists n seen) job slot ws = listed_raises (nat_lt (length (seen.items ++ word_at ws.common.words n ∷ [])) 64) (seen.items ++ word_at ws.common.words n ∷ [])
step_raises (steps.Takes memory readings n) job slot ws = snapshot_raises (readings_if memory readings) job slot n slot.present
step_raises (steps.TakesTurn memory readings turn) job slot ws = after_turn (λ st. 0 ≡ raises st) (λ turn needs. refl) refl (readings_if memory readings) turn (at job slot ws (ToTell turn turns.ToTake))
step_raises (steps.Commits now n t) job slot ws = committed_raises n t now slot.serial ws (outcome t slot)
step_raises (steps.Installs memory) job slot ws = verified_raises memory (at job slot ws ToInstall)
step_raises steps.Removes job slot ws = clear_raises (nat_lt slot.serial last_serial) slot.serial slot.present
step_raises other job slot ws = refl

true_isnt : true ≡ false → ⊥
true_isnt e = cc e

-- an event that isn't a no-op makes as many changes as it leaves its job to publish.
transition_raises : (e : Event) (k : ℕ) (job : Job) (slot : Slot) (ws : Around) (s : Stage) → names e ≡ Some k → is_noop_at e job.origin.slot s ≡ false → length (transition e (at job slot ws s)).changes ≡ raises (transition e (at job slot ws s)).stage
transition_raises e k job slot ws s =
    by_step (λ d st m. names d ≡ Some k → is_noop_at d job.origin.slot st ≡ false → length m.changes ≡ raises m.stage) job slot ws
    (λ j c asked named e. step_raises c job slot ws) (λ d st rest named e. absurd (true_isnt (sym (rest.noop k named) ∙ e))) e s

-- ---- at most once

-- the number of changes that a job at this stage has made.
abbrev FitsChanges : ℕ → Stage → Type 0
FitsChanges n (ToTake count) = n ≡ 0
FitsChanges n (ToCommit count t) = n ≡ 0
FitsChanges n ToInstall = n ≡ 0
FitsChanges n ToRemove = n ≡ 0
FitsChanges n ToMatch = n ≡ 0
FitsChanges n (ToList seen) = n ≡ 0
FitsChanges n other = n ≤ 1

none_is_few : (n : ℕ) → n ≡ 0 → n ≤ 1
none_is_few n f = omega (arith, f)

one_change : (s : Stage) (n : ℕ) → FitsChanges n s → n ≤ 1
one_change (ToTake count) n f = none_is_few n f
one_change (ToCommit count t) n f = none_is_few n f
one_change ToInstall n f = none_is_few n f
one_change ToRemove n f = none_is_few n f
one_change ToMatch n f = none_is_few n f
one_change (ToList seen) n f = none_is_few n f
one_change other n f = f

none_and_none : (n m : ℕ) → n ≡ 0 → m ≡ 0 → n + m ≡ 0
none_and_none n m is more = omega (arith, is, more)

none_and_few : (n m r : ℕ) → n ≡ 0 → m ≡ r → r ≤ 1 → n + m ≤ 1
none_and_few n m r is more few = omega (arith, is, more, few)

zero_is_few : 0 ≤ 1
zero_is_few = omega arith

raises_few : (s : Stage) → raises s ≤ 1
raises_few (ToRaise word content) = omega arith
raises_few other = zero_is_few

first_change : (s : Stage) (n m : ℕ) → n ≡ 0 → m ≡ raises s → FitsChanges (n + m) s
first_change (ToTake count) n m is more = none_and_none n m is more
first_change (ToCommit count t) n m is more = none_and_none n m is more
first_change ToInstall n m is more = none_and_none n m is more
first_change ToRemove n m is more = none_and_none n m is more
first_change ToMatch n m is more = none_and_none n m is more
first_change (ToList seen) n m is more = none_and_none n m is more
first_change other n m is more = none_and_few n m (raises other) is more (raises_few other)

no_change : (s : Stage) (n : ℕ) → FitsChanges n s → FitsChanges (n + 0) s
no_change s n f = subst (λ (m : ℕ). FitsChanges m s) (let is : n ≡ n + 0 = omega arith in is) f

few_still : (n : ℕ) → n ≤ 1 → n + 0 ≤ 1
few_still n f = omega (arith, f)

step_changes : (c : Step) (job : Job) (slot : Slot) (ws : Around) (n : ℕ) → FitsChanges n (stage_by c) → FitsChanges (n + length (effect_by c job slot ws).changes) (effect_by c job slot ws).stage
step_changes steps.Describes job slot ws n f = few_still n f
step_changes (steps.TakesTurn memory readings turn) job slot ws n f = after_turn (λ st. FitsChanges (n + 0) st) (λ turn needs. few_still n f) (few_still n f) (readings_if memory readings) turn (at job slot ws (ToTell turn turns.ToTake))
step_changes (steps.Raises word content) job slot ws n f = few_still n f
step_changes (steps.Answers now content) job slot ws n f = few_still n f
step_changes (steps.Draws now turn found) job slot ws n f = few_still n f
step_changes (steps.Notes now random turn found id) job slot ws n f = few_still n f
step_changes (steps.GivesUp now turn needs) job slot ws n f = few_still n f
step_changes (steps.Loses needs) job slot ws n f = few_still n (one_change needs n f)
step_changes (steps.Refuses refusal) job slot ws n f = few_still n (one_change refusal.stage n f)
step_changes other job slot ws n f = first_change (effect_by other job slot ws).stage n (length (effect_by other job slot ws).changes) f (step_raises other job slot ws)

transition_changes : (e : Event) (job : Job) (slot : Slot) (ws : Around) (s : Stage) (n : ℕ) → FitsChanges n s → FitsChanges (n + length (transition e (at job slot ws s)).changes) (transition e (at job slot ws s)).stage
transition_changes e job slot ws s n =
    by_effect (λ st m. FitsChanges n st → FitsChanges (n + length m.changes) m.stage) job slot ws
    (λ c asked. step_changes c job slot ws n) (λ st f. no_change st n f) e s

gone_changes : (e : Event) (job : Job) (slot : Slot) (ws : Around) (n : ℕ) → n + length (transition e (at job slot ws Gone)).changes ≡ n
gone_changes (Take k memory readings) job slot ws n = omega arith
gone_changes other job slot ws n = omega arith

fits_none : (s : Stage) → FitsChanges 0 s
fits_none (ToTake count) = refl
fits_none (ToCommit count t) = refl
fits_none ToInstall = refl
fits_none ToRemove = refl
fits_none ToMatch = refl
fits_none (ToList seen) = refl
fits_none other = zero_is_few

abbrev more_changes : Event → Seen → ℕ → ℕ → ℕ
more_changes e s k n = n + length (transition e (inputs s k)).changes

number_is : (k : ℕ) (o : Option ℕ) → is_job k o ≡ true → o ≡ Some k
number_is k None e = absurd (cc)
number_is k (Some j) e = ap Some (eqb-true j k e)

own_length : (r : Entry) (s : Seen) (k : ℕ) → names r.event ≡ Some k → length ((and_then r s).changes (slot_of s k)) ≡ length (transition r.event (inputs s k)).changes + length (s.changes (slot_of s k))
own_length r s k named = ap length (own_slot r s k named) ∙ length-append (transition r.event (inputs s k)).changes (s.changes (slot_of s k))

counted_by : (r : Entry) (s : Seen) (k n : ℕ) (b : Bool) → is_named k r.event ≡ b → (if b then n + (length ((and_then r s).changes (slot_of s k)) - length (s.changes (slot_of s k))) else n) ≡ (if b then more_changes r.event s k n else n)
counted_by r s k n true e = omega (arith, own_length r s k (number_is k (names r.event) e))
counted_by r s k n false e = refl

counted : (h : History) (r : Entry) (k : ℕ) → changes_by (Then h r) k ≡ (if is_named k r.event then more_changes r.event (seen h) k (changes_by h k) else changes_by h k)
unfolding seen
counted h r k = counted_by r (seen h) k (changes_by h k) (is_named k r.event) refl

is_told : IsTold changes_by more_changes FitsChanges 0
is_told = record {
  begins = λ stored id policy k. refl;
  then_is = counted;
  still = λ e s k n is. ap (λ (x : Stage). n + length (transition e (at (job s k) (slot_at s (slot_of s k)) (around s (slot_of s k)) x)).changes) is ∙ gone_changes e (job s k) (slot_at s (slot_of s k)) (around s (slot_of s k)) n;
  gone = omega arith;
  first = λ ask serials. fits_none (first_by ask serials);
  turns = λ turn. omega arith;
  keeps = λ e s k n f. transition_changes e (job s k) (slot_at s (slot_of s k)) (around s (slot_of s k)) (stage s k) n f;
}

pub changed_once : (h : History) (k : ℕ) → changes_by h k ≤ 1
changed_once h k = one_change (stage (seen h) k) (changes_by h k) (along changes_by more_changes FitsChanges 0 is_told h k)

-- ---- a change is published

named_noop : (e : Event) (own k : ℕ) → names e ≡ Some k → is_noop_at e own Gone ≡ true
named_noop (Deliver now to bytes) own k e = absurd (cc)
named_noop (Due shard now) own k e = absurd (cc)
named_noop (Signal shard to id reset) own k e = absurd (cc)
named_noop (Tick now) own k e = absurd (cc)
named_noop (Fire slot now) own k e = absurd (cc)
named_noop (ShardTick shard now) own k e = absurd (cc)
named_noop other own k e = refl

came : (r : Entry) (s : Seen) (k : ℕ) → names r.event ≡ Some k → is_noop_at r.event (slot_of s k) (stage s k) ≡ false → HasCome s k
came r s k named noop = ⊎_elim
    (λ (lt : k < length s.tasks). lt)
    (λ (le : length s.tasks ≤ k). let is : is_noop_at r.event (slot_of s k) (stage s k) ≡ true = ap (is_noop_at r.event (slot_of s k)) (gone_before s k le) ∙ named_noop r.event (slot_of s k) k named in absurd (cc (noop, is)))
    (cases_lt k (length s.tasks))

noop_is : (r : Entry) (s : Seen) (k : ℕ) → names r.event ≡ Some k → is_noop s r.event ≡ is_noop_at r.event (slot_of s k) (stage s k)
noop_is r s k named = ap (λ (o : Option ℕ). is_noop_at r.event (own_of_named s o) (stage_named s o)) named

-- an event that isn't a no-op changes its job's slot as often as it leaves a head word to publish.
adds : (r : Entry) (s : Seen) (k : ℕ) → names r.event ≡ Some k → is_noop_at r.event (slot_of s k) (stage s k) ≡ false → length ((and_then r s).changes (slot_of s k)) ≡ raises (stage (and_then r s) k) + length (s.changes (slot_of s k))
adds r s k named noop =
    own_length r s k named ∙ ap (λ (n : ℕ). n + length (s.changes (slot_of s k)))
    (transition_raises r.event k (job s k) (slot_at s (slot_of s k)) (around s (slot_of s k)) (stage s k) named noop ∙ ap raises (sym (named_stage r s k (came r s k named noop) named)))

none_isnt_more : (P : Type 0) (n m : ℕ) → m ≡ 0 + n → n < m → P
none_isnt_more P n m is lt = absurd (omega (arith, is, lt))

to_raise : (s : Stage) (n m : ℕ) → m ≡ raises s + n → n < m → IsToRaise s
to_raise (ToRaise word content) n m is lt = tt
to_raise other n m is lt = none_isnt_more (IsToRaise other) n m is lt

pub changes_are_published : (r : Entry) (s : Seen) (k : ℕ) → names r.event ≡ Some k → length (s.changes (slot_of s k)) < length ((and_then r s).changes (slot_of s k)) → IsToRaise (stage (and_then r s) k)
changes_are_published r s k named lt = ⊎_elim
    (λ (noop : is_noop_at r.event (slot_of s k) (stage s k) ≡ true). let same = no_ops_stay r s (noop_is r s k named ∙ noop) in absurd (omega (arith, lt, ap (λ (x : Seen). length (x.changes (slot_of s k))) same)))
    (λ (acts : is_noop_at r.event (slot_of s k) (stage s k) ≡ false). to_raise (stage (and_then r s) k) (length (s.changes (slot_of s k))) (length ((and_then r s).changes (slot_of s k))) (adds r s k named acts) lt)
    (cases_Bool (is_noop_at r.event (slot_of s k) (stage s k)))

pub only_changes_are_published : (r : Entry) (s : Seen) (k word : ℕ) (content : Content) → names r.event ≡ Some k → stage (and_then r s) k ≡ ToRaise word content → (stage s k ≡ ToRaise word content) ⊎ (length ((and_then r s).changes (slot_of s k)) ≡ length (s.changes (slot_of s k)) + 1)
only_changes_are_published r s k word content named is = ⊎_elim
    (λ (noop : is_noop_at r.event (slot_of s k) (stage s k) ≡ true). inl (sym (ap (λ (x : Seen). stage x k) (no_ops_stay r s (noop_is r s k named ∙ noop))) ∙ is))
    (λ (acts : is_noop_at r.event (slot_of s k) (stage s k) ≡ false). inr (omega (arith, adds r s k named acts, ap raises is)))
    (cases_Bool (is_noop_at r.event (slot_of s k) (stage s k)))
