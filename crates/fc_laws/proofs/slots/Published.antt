-- The head word that a job is to raise is that of the slot's new state.
use Rattle.std.proofs.Common.{◌≡◌, ℕ, ◌+◌, List, [], ◌∷◌, ◌++◌, Bool, true, false, Option, Some, None, length, refl, sym, ap, ◌∙◌, subst, inl, inr, arith, if◌then◌else◌}
use Rattle.std.specs.Prelude.{nat_lt, is_some}
use Rattle.fc_verify.specs.Accepted.{Judgement, Accepts, Breaks, Untypable}
use Rattle.fc_verify.specs.Judged.{judged}
use Rattle.fc_kinds.specs.Meaning.{Program}
use Rattle.fc_ticket.specs.declared.job.InitialVars.{InitialVars}
use Rattle.fc_ticket.specs.declared.job.Job.{Job}
use Rattle.fc_registry.specs.declared.commit.CommitOutcome.{CommitOutcome}
use Rattle.fc_registry.specs.declared.commit.CommitOutcome.TheVariants.{Writes, Keeps, Overtakes, Ends}
use Rattle.fc_registry.specs.Slots.{Slot, last_serial}
use Rattle.fc_ticket.specs.Tickets.{Present, Ticket}
use Rattle.fc_registry.specs.Changes.{after_changes, with_vars}
use Rattle.fc_registry.specs.Calls.{clear_by, commit_of, outcome, put_by, snapshot, readings_if}
use Rattle.fc_ticket.specs.Runs.{receipt_of, initial_vars_of}
use Rattle.fc_core.specs.declared.event.Event.{Event}
use Rattle.fc_core.specs.Stage.{Stage}
use Rattle.fc_core.specs.Stage.{ToMatch, ToTake, ToCommit, ToInstall, ToRemove, ToList, ToRaise, ToAnswer, ToTell}
use Rattle.fc_core.specs.TurnStage as turns
use Rattle.fc_core.specs.declared.stage.Task.{Task}
use Rattle.fc_front.specs.Contents.{Listed, Unavailable}
use Rattle.fc_core.specs.Fits.{FitsStage}
use Rattle.fc_front.specs.Heads.{head_word, is_match, word_at}
use Rattle.fc_core.specs.History.{first_slot, around, Entry, History, Then, Seen, seen, and_then, job, inputs, slot_at, stage, task_at}
use Rattle.fc_laws.specs.HeadLaws.{PublishesAt}
use Rattle.fc_core.specs.Laws.{HasCome, slot_of}
use Rattle.fc_core.specs.Sound.{IsSoundlySeen}
use Rattle.fc_core.specs.Stages.{image_of, made, matched_by, removed, took}
use Rattle.fc_core.specs.Transitions.{Around, Inputs, names, transition, install_call, install_if}
use Rattle.fc_core.specs.Steps.{Installs, Removes, changes_of_call, next_stage}
use Rattle.fc_core.proofs.ByStep.{Step, by_effect, effect_by, stage_by, committed}
use Rattle.fc_core.proofs.ByStep as steps
use Rattle.fc_laws.proofs.turns.Telling.{after_turn}
use Rattle.fc_core.proofs.Fitting.{after_changes-append, writes_found}
use Rattle.fc_laws.proofs.jobs.Others.{own_slot}
use Rattle.fc_laws.proofs.jobs.Steps.{Becomes, Moves, Stays, Comes, becomes}
use Rattle.fc_laws.proofs.slots.Writing.{sound}

-- ---- the raised head word

abbrev at : Job → Slot → Around → Stage → Inputs
at job slot ws stage = record { job = job; slot = slot; around = ws; stage = stage }

same_publishes : (slot : Slot) (s : Stage) → PublishesAt slot s s
same_publishes slot (ToRaise word content) = inl refl
same_publishes slot other = tt

took_publishes : (after : Slot) (old : Stage) (kept : Option (List ℕ)) (job : Job) (serial n : ℕ) (p : Option Present) → PublishesAt after old (took n (snapshot kept job serial p))
took_publishes after old kept job serial n None = tt
took_publishes after old (Some readings) job serial n (Some p) = tt
took_publishes after old None job serial n (Some p) = tt

retaken_publishes : (after : Slot) (old : Stage) (n : ℕ) (b : Bool) → PublishesAt after old (if b then ToTake n else ToAnswer Unavailable)
retaken_publishes after old n true = tt
retaken_publishes after old n false = tt

committed_publishes : (job : Job) (slot : Slot) (n : ℕ) (t : Ticket) (now : ℕ) (ws : Around) (o : CommitOutcome) → outcome t slot ≡ o → FitsStage job slot (ToCommit n t) → PublishesAt (after_changes slot (committed o n t now slot.serial ws).changes) (ToCommit n t) (committed o n t now slot.serial ws).stage
committed_publishes job slot n t now ws Writes is f =
    let found : slot.present ≡ Some t.found = writes_found slot t f.1.given is in
    inr (λ i. head_word (slot.serial + 1) (is_some (with_vars (commit_of t).after (sym found i))))
committed_publishes job slot n t now ws Keeps is f = tt
committed_publishes job slot n t now ws Overtakes is f = retaken_publishes slot (ToCommit n t) n (nat_lt n 8)
committed_publishes job slot n t now ws Ends is f = tt

put_publishes : (slot : Slot) (p : Program) (v : InitialVars) (b : Bool) → PublishesAt (after_changes slot (changes_of_call (Installs p v (put_by b slot p v).answer))) ToInstall (made (receipt_of p 0) (put_by b slot p v).answer)
put_publishes slot p v true = inr refl
put_publishes slot p v false = tt

installed_publishes : (slot : Slot) (v : InitialVars) (j : Judgement) → PublishesAt (after_changes slot (changes_of_call (install_call v j slot))) ToInstall (next_stage (install_call v j slot))
installed_publishes slot v (Accepts p) = put_publishes slot p v (nat_lt slot.serial last_serial)
installed_publishes slot v (Breaks rule k) = tt
installed_publishes slot v Untypable = tt

verified_publishes : (memory : Bool) (x : Inputs) → PublishesAt (after_changes x.slot (changes_of_call (install_if memory (initial_vars_of x.job.ask) (judged (image_of x.job.ask)) x.slot))) ToInstall (next_stage (install_if memory (initial_vars_of x.job.ask) (judged (image_of x.job.ask)) x.slot))
verified_publishes true x = installed_publishes x.slot (initial_vars_of x.job.ask) (judged (image_of x.job.ask))
verified_publishes false x = tt

clear_publishes : (slot : Slot) (b : Bool) (p : Option Present) → PublishesAt (after_changes slot (changes_of_call (Removes (clear_by b slot.serial p).answer))) ToRemove (removed (clear_by b slot.serial p).answer)
clear_publishes slot b None = tt
clear_publishes slot true (Some p) = inr refl
clear_publishes slot false (Some p) = tt

matched_publishes : (slot : Slot) (old : Stage) (b : Bool) (word : ℕ) → PublishesAt slot old (matched_by b word)
matched_publishes slot old true word = tt
matched_publishes slot old false word = tt

listed_publishes : (slot : Slot) (old : Stage) (b : Bool) (words : List ℕ) → PublishesAt slot old (if b then ToList (record { items = words }) else ToAnswer (Listed words))
listed_publishes slot old true words = tt
listed_publishes slot old false words = tt

-- the head word that a transition leaves to raise is that of the slot after the transition's
-- changes.
step_publishes : (c : Step) (job : Job) (slot : Slot) (ws : Around) → FitsStage job slot (stage_by c) → PublishesAt (after_changes slot (effect_by c job slot ws).changes) (stage_by c) (effect_by c job slot ws).stage
step_publishes (steps.Commits now n t) job slot ws f = committed_publishes job slot n t now ws (outcome t slot) refl f
step_publishes (steps.Installs memory) job slot ws f = verified_publishes memory (at job slot ws ToInstall)
step_publishes steps.Removes job slot ws f = clear_publishes slot (nat_lt slot.serial last_serial) slot.present
step_publishes (steps.Takes memory readings n) job slot ws f = took_publishes slot (ToTake n) (readings_if memory readings) job slot.serial n slot.present
step_publishes (steps.TakesTurn memory readings turn) job slot ws f = after_turn (PublishesAt slot (ToTell turn turns.ToTake)) (λ turn needs. tt) tt (readings_if memory readings) turn (at job slot ws (ToTell turn turns.ToTake))
step_publishes (steps.Matches n) job slot ws f = matched_publishes slot ToMatch (is_match (word_at ws.common.words n) job.etags.items) (word_at ws.common.words n)
step_publishes (steps.Lists n seen) job slot ws f = listed_publishes slot (ToList seen) (nat_lt (length (seen.items ++ word_at ws.common.words n ∷ [])) 64) (seen.items ++ word_at ws.common.words n ∷ [])
step_publishes other job slot ws f = tt

transition_publishes : (e : Event) (job : Job) (slot : Slot) (ws : Around) (s : Stage) → FitsStage job slot s → PublishesAt (after_changes slot (transition e (at job slot ws s)).changes) s (transition e (at job slot ws s)).stage
transition_publishes e job slot ws s =
    by_effect (λ st m. FitsStage job slot st → PublishesAt (after_changes slot m.changes) st m.stage) job slot ws
    (λ c asked. step_publishes c job slot ws) (λ st f. same_publishes slot st) e s

-- the slot of the job that an event names, after the event's changes.
pub own_after : (r : Entry) (s : Seen) (k : ℕ) → names r.event ≡ Some k → slot_at (and_then r s) (slot_of s k) ≡ after_changes (slot_at s (slot_of s k)) (transition r.event (inputs s k)).changes
own_after r s k named = ap (after_changes (first_slot s (slot_of s k))) (own_slot r s k named) ∙ after_changes-append (first_slot s (slot_of s k)) (transition r.event (inputs s k)).changes (s.changes (slot_of s k))

publishes_by : (r : Entry) (s : Seen) (k : ℕ) (t : Task) → Becomes (names r.event) r.event s k t → IsSoundlySeen s → HasCome s k → PublishesAt (slot_at (and_then r s) (slot_of s k)) (stage s k) t.stage
publishes_by r s k t (Moves named is) a come =
    subst (λ (x : Task). PublishesAt (slot_at (and_then r s) (slot_of s k)) (stage s k) x.stage) (sym is)
    (subst (λ (x : Slot). PublishesAt x (stage s k) (transition r.event (inputs s k)).stage) (sym (own_after r s k named))
    (transition_publishes r.event (job s k) (slot_at s (slot_of s k)) (around s (slot_of s k)) (stage s k) (a.stages k)))
publishes_by r s k t (Stays other is) a come = subst (λ (x : Task). PublishesAt (slot_at (and_then r s) (slot_of s k)) (stage s k) x.stage) (sym is) (same_publishes (slot_at (and_then r s) (slot_of s k)) (stage s k))
publishes_by r s k t (Comes new j is) a come = absurd (omega (arith, new, come))

pub publishes : (h : History) (r : Entry) (k : ℕ) → HasCome (seen h) k → PublishesAt (slot_at (seen (Then h r)) (slot_of (seen h) k)) (stage (seen h) k) (stage (seen (Then h r)) k)
unfolding seen
publishes h r k come = publishes_by r (seen h) k (task_at (and_then r (seen h)).tasks k) (becomes r (seen h) k) (sound h) come
