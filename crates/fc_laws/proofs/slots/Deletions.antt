-- A slot is empty after a removal makes the answer 2.02 (Deleted).
use Rattle.std.proofs.Common.{◌≡◌, ℕ, List, [], ◌∷◌, ◌++◌, Bool, true, false, Option, Some, None, length, refl, sym, ap, ◌∙◌, subst, ◌⊎◌, inl, inr, arith, if◌then◌else◌}
use Rattle.std.specs.Prelude.{nat_lt}
use Rattle.fc_kinds.specs.Meaning.{Program}
use Rattle.fc_verify.specs.Accepted.{Judgement, Accepts, Breaks, Untypable}
use Rattle.fc_verify.specs.Judged.{judged}
use Rattle.fc_ticket.specs.declared.job.InitialVars.{InitialVars}
use Rattle.fc_ticket.specs.declared.job.Job.{Job}
use Rattle.fc_registry.specs.declared.commit.CommitOutcome.{CommitOutcome}
use Rattle.fc_registry.specs.declared.commit.CommitOutcome.TheVariants.{Writes, Keeps, Overtakes, Ends}
use Rattle.fc_registry.specs.Slots.{Slot, last_serial}
use Rattle.fc_ticket.specs.Tickets.{Present, Ticket}
use Rattle.fc_registry.specs.Changes.{after_changes}
use Rattle.fc_registry.specs.Calls.{clear_by, outcome, put_by, receipt_at, snapshot, readings_if}
use Rattle.fc_ticket.specs.Runs.{receipt_of, initial_vars_of}
use Rattle.fc_core.specs.declared.event.Event.{Event}
use Rattle.fc_core.specs.Stage.{Stage}
use Rattle.fc_core.specs.Stage.{ToTake, ToInstall, ToList, ToAnswer, ToTell}
use Rattle.fc_core.specs.TurnStage as turns
use Rattle.fc_core.specs.declared.stage.Task.{Task}
use Rattle.fc_front.specs.Contents.{Content, Deleted, Listed, Unavailable}
use Rattle.fc_front.specs.Heads.{is_match, word_at}
use Rattle.fc_core.specs.History.{around, Entry, History, Then, Seen, seen, and_then, job, slot_at, stage, task_at}
use Rattle.fc_core.specs.Laws.{HasCome, answer_at, slot_of}
use Rattle.fc_core.specs.Stages.{image_of, made, matched_by, removed, receipt_content, took}
use Rattle.fc_core.specs.Transitions.{Around, Inputs, names, transition, install_call, install_if}
use Rattle.fc_core.specs.Steps.{Removes, changes_of_call, next_stage}
use Rattle.fc_core.proofs.ByStep.{Step, by_effect, effect_by, stage_by, committed}
use Rattle.fc_core.proofs.ByStep as steps
use Rattle.fc_laws.proofs.turns.Telling.{after_turn}
use Rattle.fc_laws.proofs.slots.Published.{own_after}
use Rattle.fc_laws.proofs.jobs.Steps.{Becomes, Moves, Stays, Comes, becomes}

abbrev at : Job → Slot → Around → Stage → Inputs
at job slot ws stage = record { job = job; slot = slot; around = ws; stage = stage }

-- if the answer at this stage is 2.02 (Deleted), the slot is empty.
abbrev IsEmptied : Slot → Stage → Type 0
IsEmptied slot s = answer_at s ≡ Some Deleted → slot.present ≡ None

took_empties : (slot : Slot) (kept : Option (List ℕ)) (job : Job) (serial n : ℕ) (p : Option Present) → IsEmptied slot (took n (snapshot kept job serial p))
took_empties slot kept job serial n None e = absurd (cc e)
took_empties slot (Some readings) job serial n (Some p) e = absurd (cc e)
took_empties slot None job serial n (Some p) e = absurd (cc e)

retaken_empties : (slot : Slot) (n : ℕ) (b : Bool) → IsEmptied slot (if b then ToTake n else ToAnswer Unavailable)
retaken_empties slot n true e = absurd (cc e)
retaken_empties slot n false e = absurd (cc e)

committed_empties : (slot : Slot) (n : ℕ) (t : Ticket) (now serial : ℕ) (ws : Around) (o : CommitOutcome) → IsEmptied slot (committed o n t now serial ws).stage
committed_empties slot n t now serial ws Writes e = absurd (cc e)
committed_empties slot n t now serial ws Keeps e = absurd (cc e)
committed_empties slot n t now serial ws Overtakes e = retaken_empties slot n (nat_lt n 8) e
committed_empties slot n t now serial ws Ends e = absurd (cc e)

put_empties : (after slot : Slot) (p : Program) (v : InitialVars) (b : Bool) → IsEmptied after (made (receipt_of p 0) (put_by b slot p v).answer)
put_empties after slot p v true e = absurd (cc e)
put_empties after slot p v false e = absurd (cc e)

installed_empties : (after slot : Slot) (v : InitialVars) (j : Judgement) → IsEmptied after (next_stage (install_call v j slot))
installed_empties after slot v (Accepts p) e = put_empties after slot p v (nat_lt slot.serial last_serial) e
installed_empties after slot v (Breaks rule k) e = absurd (cc e)
installed_empties after slot v Untypable e = absurd (cc e)

verified_empties : (after : Slot) (memory : Bool) (x : Inputs) → IsEmptied after (next_stage (install_if memory (initial_vars_of x.job.ask) (judged (image_of x.job.ask)) x.slot))
verified_empties after true x e = installed_empties after x.slot (initial_vars_of x.job.ask) (judged (image_of x.job.ask)) e
verified_empties after false x e = absurd (cc e)

clear_empties : (slot : Slot) (b : Bool) (p : Option Present) → slot.present ≡ p → IsEmptied (after_changes slot (changes_of_call (Removes (clear_by b slot.serial p).answer))) (removed (clear_by b slot.serial p).answer)
clear_empties slot b None is e = is
clear_empties slot true (Some p) is e = refl
clear_empties slot false (Some p) is e = absurd (cc e)

told_empties : (slot : Slot) (p : Option Present) → IsEmptied slot (ToAnswer (receipt_content (receipt_at p)))
told_empties slot None e = absurd (cc e)
told_empties slot (Some p) e = absurd (cc e)

matched_empties : (slot : Slot) (b : Bool) (word : ℕ) → IsEmptied slot (matched_by b word)
matched_empties slot true word e = absurd (cc e)
matched_empties slot false word e = absurd (cc e)

listed_empties : (slot : Slot) (b : Bool) (words : List ℕ) → IsEmptied slot (if b then ToList (record { items = words }) else ToAnswer (Listed words))
listed_empties slot true words e = absurd (cc e)
listed_empties slot false words e = absurd (cc e)

none_is_answered : {c : Content} → None ≡ Some c → ⊥
none_is_answered e = cc e

step_empties : (c : Step) (job : Job) (slot : Slot) (ws : Around) → answer_at (effect_by c job slot ws).stage ≡ Some Deleted → (answer_at (stage_by c) ≡ Some Deleted) ⊎ ((after_changes slot (effect_by c job slot ws).changes).present ≡ None)
step_empties (steps.Takes memory readings n) job slot ws e = inr (took_empties slot (readings_if memory readings) job slot.serial n slot.present e)
step_empties (steps.TakesTurn memory readings turn) job slot ws e = absurd (after_turn (λ st. answer_at st ≡ Some Deleted → ⊥) (λ turn needs e. cc e) (λ e. cc e) (readings_if memory readings) turn (at job slot ws (ToTell turn turns.ToTake)) e)
step_empties (steps.Commits now n t) job slot ws e = inr (committed_empties (after_changes slot (committed (outcome t slot) n t now slot.serial ws).changes) n t now slot.serial ws (outcome t slot) e)
step_empties (steps.Installs memory) job slot ws e = inr (verified_empties (after_changes slot (effect_by (steps.Installs memory) job slot ws).changes) memory (at job slot ws ToInstall) e)
step_empties steps.Removes job slot ws e = inr (clear_empties slot (nat_lt slot.serial last_serial) slot.present refl e)
step_empties steps.Describes job slot ws e = inr (told_empties slot slot.present e)
step_empties (steps.Matches n) job slot ws e = inr (matched_empties slot (is_match (word_at ws.common.words n) job.etags.items) (word_at ws.common.words n) e)
step_empties (steps.Lists n seen) job slot ws e = inr (listed_empties slot (nat_lt (length (seen.items ++ word_at ws.common.words n ∷ [])) 64) (seen.items ++ word_at ws.common.words n ∷ []) e)
step_empties (steps.Refuses refusal) job slot ws e = absurd (cc e)
step_empties (steps.Raises word content) job slot ws e = inl e
step_empties other job slot ws e = absurd (none_is_answered e)

transition_empties : (e : Event) (job : Job) (slot : Slot) (ws : Around) (s : Stage) → answer_at (transition e (at job slot ws s)).stage ≡ Some Deleted → (answer_at s ≡ Some Deleted) ⊎ ((after_changes slot (transition e (at job slot ws s)).changes).present ≡ None)
transition_empties e job slot ws s =
    by_effect (λ st m. answer_at m.stage ≡ Some Deleted → (answer_at st ≡ Some Deleted) ⊎ ((after_changes slot m.changes).present ≡ None)) job slot ws
    (λ c asked. step_empties c job slot ws) (λ st e. inl e) e s

empties_by : (r : Entry) (s : Seen) (k : ℕ) (t : Task) → Becomes (names r.event) r.event s k t → HasCome s k → answer_at t.stage ≡ Some Deleted → (answer_at (stage s k) ≡ Some Deleted) ⊎ ((slot_at (and_then r s) (slot_of s k)).present ≡ None)
empties_by r s k t (Moves named is) come e =
    subst (λ (x : Slot). (answer_at (stage s k) ≡ Some Deleted) ⊎ (x.present ≡ None)) (sym (own_after r s k named))
    (transition_empties r.event (job s k) (slot_at s (slot_of s k)) (around s (slot_of s k)) (stage s k) (ap (λ (x : Task). answer_at x.stage) (sym is) ∙ e))
empties_by r s k t (Stays other is) come e = inl (ap (λ (x : Task). answer_at x.stage) (sym is) ∙ e)
empties_by r s k t (Comes new j is) come e = absurd (omega (arith, new, come))

pub deleted_is_empty : (h : History) (r : Entry) (k : ℕ) → HasCome (seen h) k → answer_at (stage (seen (Then h r)) k) ≡ Some Deleted → (answer_at (stage (seen h) k) ≡ Some Deleted) ⊎ ((slot_at (seen (Then h r)) (slot_of (seen h) k)).present ≡ None)
unfolding seen
deleted_is_empty h r k come e = empties_by r (seen h) k (task_at (and_then r (seen h)).tasks k) (becomes r (seen h) k) come e
