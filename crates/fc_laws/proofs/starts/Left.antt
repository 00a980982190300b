-- What a run leaves in a slot can be restored.
use Rattle.std.proofs.Common.{◌≡◌, ℕ, ◌+◌, ◌<◌, ◌≤◌, List, Bool, true, false, Option, Some, None, length, refl, sym, ap, ◌∙◌, subst, ⊎_elim, arith}
use Rattle.std.specs.Prelude.{nat_lt, max, ◌==◌}
use borrow.Author.Tests.{ltb-true}
use Rattle.std.proofs.lemmas.Bool.{cases_eq}
use Rattle.fc_kinds.specs.Meaning.{Program}
use Rattle.fc_kinds.specs.Runnable.{IsRunnable}
use Rattle.fc_verify.specs.Accepted.{Judgement, Judges, Accepts, Breaks, Untypable, IsAccepted}
use Rattle.fc_verify.specs.Judged.{judged}
use Rattle.fc_store.specs.Stored.{StoredProgram, StoredSlot, StoredSlots}
use Rattle.fc_ticket.specs.declared.job.InitialVars.{InitialVars}
use Rattle.fc_ticket.specs.declared.job.Job.{Job}
use Rattle.fc_registry.specs.declared.commit.CommitOutcome.{CommitOutcome}
use Rattle.fc_registry.specs.declared.commit.CommitOutcome.TheVariants as outcomes
use Rattle.fc_registry.specs.Calls.{clear_by, outcome, outcome_by, put_by, wants}
use Rattle.fc_ticket.specs.Runs.{input_of, meaning_at, initial_vars_of}
use Rattle.fc_registry.specs.Changes.{Change, after_changes, with_vars}
use Rattle.fc_registry.specs.Plans.{IsStoredOf, IsStoredProgram}
use Rattle.fc_registry.specs.Restored.{at_least, present_if, restored_present, restored_slot}
use Rattle.fc_ticket.specs.Tickets.{Present, Ticket}
use Rattle.fc_registry.specs.Slots.{Slot, last_serial, vars_in}
use Rattle.fc_registry.specs.Starts.{CanRestore, CanRestoreProgram}
use Rattle.fc_registry.proofs.Installs.{installed_size}
use Rattle.fc_registry.proofs.Restoring.{present_is}
use Rattle.fc_core.specs.Fits.{FitsPresent, FitsStage, IsSafe, IsTicketOf}
use Rattle.fc_core.specs.History.{Entry, History, BeginsWith, Then, Seen, around, first_slot, and_then, job, seen, slot_at, stage}
use Rattle.fc_core.specs.Laws.{slot_of}
use Rattle.fc_front.specs.Receiving.{AskWithin}
use Rattle.fc_core.specs.Sound.{IsSoundlySeen}
use Rattle.fc_core.specs.Stage.{Stage}
use Rattle.fc_core.specs.Stages.{image_of}
use Rattle.fc_core.specs.Steps.{Installs, Removes, changes_of_call}
use Rattle.fc_core.specs.Transitions.{Around, Inputs, install_call, install_if, names, transition}
use Rattle.fc_core.specs.declared.event.Event.{Event}
use Rattle.fc_front.specs.declared.policy.Policy.{Policy}
use Rattle.fc_core.proofs.ByStep.{Step, by_effect, committed, effect_by, stage_by}
use Rattle.fc_core.proofs.ByStep as steps
use Rattle.fc_core.proofs.Fitting.{is_input, writes_found}
use Rattle.fc_laws.proofs.jobs.Others.{no_slot, other_slot}
use Rattle.fc_laws.proofs.slots.Published.{own_after}
use Rattle.fc_laws.proofs.slots.Writing.{sound}

-- the state of a program in a slot at this serial, if the program is safe. The version is above 0
-- and at most the serial, and there are as many variables as the program has.
abbrev IsStateIf : ℕ → Option Present → Type 0
IsStateIf serial None = Unit {0}
IsStateIf serial (Some p) =
    IsSafe p.program
    → (0 < p.version) × (p.version ≤ serial) × (length p.vars ≡ p.program.vars_size)

-- the serial is at most the last one, and a safe program has such a state.
record IsLeft (slot : Slot) : Type 0 where
  serial : slot.serial ≤ last_serial
  program : IsStateIf slot.serial slot.present

-- these changes keep that.
abbrev Keeps : Slot → List Change → Type 0
Keeps slot cs = IsLeft slot → IsLeft (after_changes slot cs)

-- ---- one event

is_below : (w same below : Bool) → outcome_by w same below ≡ outcomes.Writes → below ≡ true
is_below false same below e = absurd (cc)
is_below true false below e = absurd (cc)
is_below true true false e = absurd (cc)
is_below true true true e = refl

-- a commit that writes finds its slot below the last serial.
writes_below : (slot : Slot) (t : Ticket) → outcome t slot ≡ outcomes.Writes
    → slot.serial < last_serial
writes_below slot t e =
    ltb-true slot.serial last_serial
    (is_below (wants t) (slot.serial == t.serial) (nat_lt slot.serial last_serial) e)

written_left : (job : Job) (slot : Slot) (t : Ticket) → AskWithin job.ask → IsTicketOf job slot t
    → slot.present ≡ Some t.found → IsLeft slot
    → IsStateIf (slot.serial + 1) (with_vars (meaning_at t).vars slot.present)
written_left job slot t within own e left =
    let after : Option Present → Type 0 = λ p.
    IsStateIf (slot.serial + 1) (with_vars (meaning_at t).vars p) in
    let here : after (Some t.found) = λ safe.
    let old = subst (IsStateIf slot.serial) e left.program safe in
    let fits : FitsPresent t.found = record { safe = safe; vars = old.2 } in
    let input = is_input job t.found t.request t.readings within own.request fits in
    (old.0, omega (arith, old.1), (safe.runs.run (input_of t) input).vars) in
    subst after (sym e) here

commit_left : (job : Job) (slot : Slot) (n : ℕ) (t : Ticket) (now : ℕ) (ws : Around)
    (o : CommitOutcome) → outcome t slot ≡ o → AskWithin job.ask → IsTicketOf job slot t
    → Keeps slot (committed o n t now slot.serial ws).changes
commit_left job slot n t now ws outcomes.Writes e within own left = record {
  serial = omega (arith, writes_below slot t e);
  program = written_left job slot t within own (writes_found slot t own.given e) left;
}
commit_left job slot n t now ws outcomes.Keeps e within own left = left
commit_left job slot n t now ws outcomes.Overtakes e within own left = left
commit_left job slot n t now ws outcomes.Ends e within own left = left

put_left : (slot : Slot) (b : Bool) (p : Program) (v : InitialVars)
    → nat_lt slot.serial last_serial ≡ b
    → Keeps slot (changes_of_call (Installs p v (put_by b slot p v).answer))
put_left slot true p v e left = record {
  serial = omega (arith, ltb-true slot.serial last_serial e);
  program = λ safe. (omega arith, omega arith, installed_size v p (vars_in slot.present));
}
put_left slot false p v e left = left

installed_left : (slot : Slot) (v : InitialVars) (j : Judgement)
    → Keeps slot (changes_of_call (install_call v j slot))
installed_left slot v (Accepts p) left =
    put_left slot (nat_lt slot.serial last_serial) p v refl left
installed_left slot v (Breaks rule k) left = left
installed_left slot v Untypable left = left

verified_left : (memory : Bool) (slot : Slot) (v : InitialVars) (j : Judgement)
    → Keeps slot (changes_of_call (install_if memory v j slot))
verified_left true slot v j left = installed_left slot v j left
verified_left false slot v j left = left

clear_left : (slot : Slot) (b : Bool) (p : Option Present) → nat_lt slot.serial last_serial ≡ b
    → Keeps slot (changes_of_call (Removes (clear_by b slot.serial p).answer))
clear_left slot b None e left = left
clear_left slot true (Some p) e left = record {
  serial = omega (arith, ltb-true slot.serial last_serial e);
  program = tt;
}
clear_left slot false (Some p) e left = left

step_left : (c : Step) (job : Job) (slot : Slot) (ws : Around) → AskWithin job.ask
    → FitsStage job slot (stage_by c) → Keeps slot (effect_by c job slot ws).changes
step_left steps.Removes job slot ws within f left =
    clear_left slot (nat_lt slot.serial last_serial) slot.present refl left
step_left (steps.Commits now n t) job slot ws within f left =
    commit_left job slot n t now ws (outcome t slot) refl within f.1 left
step_left (steps.Installs memory) job slot ws within f left =
    verified_left memory slot (initial_vars_of job.ask) (judged (image_of job.ask)) left
step_left other job slot ws within f left = left

abbrev at : Job → Slot → Around → Stage → Inputs
at job slot ws stage = record { job = job; slot = slot; around = ws; stage = stage }

transition_left : (e : Event) (job : Job) (slot : Slot) (ws : Around) (s : Stage)
    → AskWithin job.ask → FitsStage job slot s
    → Keeps slot (transition e (at job slot ws s)).changes
transition_left e job slot ws s within =
    by_effect (λ st m. FitsStage job slot st → Keeps slot m.changes) job slot ws
    (λ c asked. step_left c job slot ws within) (λ st f left. left) e s

-- ---- a history

same_left : (r : Entry) (s : Seen) (n : ℕ) → (and_then r s).changes n ≡ s.changes n
    → IsLeft (slot_at s n) → IsLeft (slot_at (and_then r s) n)
same_left r s n is left =
    subst (λ (cs : List Change). IsLeft (after_changes (first_slot s n) cs)) (sym is) left

own_left : (r : Entry) (s : Seen) (k : ℕ) → names r.event ≡ Some k → IsSoundlySeen s
    → IsLeft (slot_at s (slot_of s k)) → IsLeft (slot_at (and_then r s) (slot_of s k))
own_left r s k named a left =
    let slot = slot_at s (slot_of s k) in
    let ws = around s (slot_of s k) in
    subst IsLeft (sym (own_after r s k named))
    (transition_left r.event (job s k) slot ws (stage s k) (a.within k).1 (a.stages k) left)

left_by : (r : Entry) (s : Seen) (n : ℕ) (o : Option ℕ) → names r.event ≡ o → IsSoundlySeen s
    → IsLeft (slot_at s n) → IsLeft (slot_at (and_then r s) n)
left_by r s n None named a left = same_left r s n (no_slot r s n named) left
left_by r s n (Some k) named a left =
    let before : ℕ → Type 0 = λ i. IsLeft (slot_at s i) in
    let after : ℕ → Type 0 = λ i. IsLeft (slot_at (and_then r s) i) in
    ⊎_elim
    (λ (is : n ≡ slot_of s k). subst after (sym is) (own_left r s k named a (subst before is left)))
    (λ (ne : n ≡ slot_of s k → ⊥). same_left r s n (other_slot r s k n named ne) left)
    (cases_eq n (slot_of s k))

restored_state : (k : StoredSlot) (o : Option StoredProgram) → CanRestoreProgram k.serial o
    → IsStateIf k.serial (restored_present o)
restored_state k None can = tt
restored_state k (Some s) can =
    let state : Judgement → Type 0 = λ j. IsStateIf k.serial (present_if j s) in
    subst state (sym can.judged_as) (λ safe. can.state)

-- a restored slot has such a state.
restored_left : (k : StoredSlot) → CanRestore k → IsLeft (restored_slot k)
restored_left k can = record {
  serial = can.serial;
  program = restored_state k k.program can.program;
}

always_left : (h : History) (n : ℕ) → CanRestore ((seen h).stored n) → IsLeft (slot_at (seen h) n)
unfolding seen
always_left (BeginsWith stored id policy) n can = restored_left (stored n) can
always_left (Then h r) n can =
    left_by r (seen h) n (names r.event) refl (sound h) (always_left h n can)

-- ---- the next start

-- if the stored image is judged as accepted, it is, and each run of its program reaches its exit.
abbrev pub IsRightFor : Option StoredProgram → Type 0
IsRightFor k = (s : StoredProgram) (p : Program) → k ≡ Some s → judged s.image ≡ Accepts p
    → IsAccepted s.image p × IsRunnable p

restores_program : (serial : ℕ) (o : Option Present) (k : Option StoredProgram)
    → IsStateIf serial o → IsRightFor k → IsStoredProgram o k → CanRestoreProgram serial k
restores_program serial None None left right is = tt
restores_program serial None (Some s) left right is = absurd is
restores_program serial (Some p) None left right is = absurd is
restores_program serial (Some p) (Some s) left right is =
    let found = right s p.program refl is.0 in
    let state = left (record { runs = found.1; longest = found.0.shapely.cost }) in
    let size = ap (λ (l : List ℕ). length l) is.2 ∙ state.2 in
    record {
      program = p.program;
      judged_as = is.0;
      accepted = found.0;
      runs = found.1;
      state = (omega (arith, is.1, state.0), omega (arith, is.1, state.1), size);
    }

-- the stored state of a slot that a run leaves can be restored.
pub left_can : (h : History) (n : ℕ) (k : StoredSlot) → IsRightFor k.program
    → CanRestore ((seen h).stored n) → IsStoredOf (slot_at (seen h) n) k → CanRestore k
left_can h n k right can is =
    let left = always_left h n can in
    let slot = slot_at (seen h) n in
    let state = subst (λ (i : ℕ). IsStateIf i slot.present) (sym is.0) left.program in
    record {
      serial = omega (arith, is.0, left.serial);
      program = restores_program k.serial slot.present k.program state right is.1;
    }

-- a judgement that is right for an image is right for the stored program with this image.
pub right_so : (image : List ℕ) (s : StoredProgram) (p : Program) → image ≡ s.image
    → Judges image (judged image) → ((q : Program) → judged image ≡ Accepts q → IsRunnable q)
    → judged s.image ≡ Accepts p → IsAccepted s.image p × IsRunnable p
right_so image s p same right runs judges =
    let here : Judges s.image (judged s.image) =
    subst (λ (i : List ℕ). Judges i (judged i)) same right in
    (subst (Judges s.image) judges here, runs p (ap judged same ∙ judges))

-- the slot with which a history over these stored states begins.
begins_at : (stored : StoredSlots) (id n : ℕ) (policy : Policy)
    → slot_at (seen (BeginsWith stored id policy)) n ≡ restored_slot (stored n)
unfolding seen
begins_at stored id n policy = refl

module _ (h : History) (n least id : ℕ) (policy : Policy) (before after : StoredSlots)
    (is : IsStoredOf (slot_at (seen h) n) (before n))
    (raised : after n ≡ at_least least (before n)) where
  pub same_program : (slot_at (seen (BeginsWith after id policy)) n).present
      ≡ (slot_at (seen h) n).present
  same_program =
      ap (λ (s : Slot). s.present) (begins_at after id n policy)
      ∙ (ap (λ (k : StoredSlot). restored_present k.program) raised
      ∙ sym (present_is (slot_at (seen h) n).present (before n).program is.1))

  pub serial_goes_on : (slot_at (seen (BeginsWith after id policy)) n).serial
      ≡ max least (slot_at (seen h) n).serial
  serial_goes_on =
      ap (λ (s : Slot). s.serial) (begins_at after id n policy)
      ∙ (ap (λ (k : StoredSlot). k.serial) raised ∙ ap (max least) is.0)
