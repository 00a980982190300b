-- The events that change a slot.
use Rattle.std.proofs.Common.{◌≡◌, ℕ, ◌<◌, List, [], ◌∷◌, ◌++◌, Bool, true, false, Option, Some, None, refl, sym, ap, ◌∙◌, subst, ⊎_elim}
use Rattle.std.specs.Prelude.{nat_lt}
use borrow.Author.Tests.{ltb-true}
use Rattle.std.proofs.lemmas.Bool.{cases_eq}
use Rattle.fc_kinds.specs.Meaning.{Program}
use Rattle.fc_verify.specs.Accepted.{Judgement, Accepts, Breaks, Untypable}
use Rattle.fc_verify.specs.Judged.{judged}
use Rattle.fc_ticket.specs.declared.job.Job.{Job}
use Rattle.fc_registry.specs.declared.commit.CommitOutcome.{CommitOutcome}
use Rattle.fc_registry.specs.declared.commit.CommitOutcome.TheVariants as outcomes
use Rattle.fc_registry.specs.Slots.{Slot, last_serial}
use Rattle.fc_ticket.specs.Tickets.{Present, Ticket}
use Rattle.fc_registry.specs.Restored.{present_if, restored_present, restored_slot}
use Rattle.fc_store.specs.Stored.{StoredProgram, StoredSlot}
use Rattle.fc_registry.specs.Changes.{Change, Installed, Committed, Removed, after_changes, installed, with_vars}
use Rattle.fc_registry.specs.Calls.{clear_by, commit_of, outcome, put_by}
use Rattle.fc_ticket.specs.Runs.{initial_vars_of}
use Rattle.fc_core.specs.declared.event.Event.{Event}
use Rattle.fc_core.specs.declared.event.Event.TheVariants.{Commit, Install, Remove}
use Rattle.fc_core.specs.Stage.{Stage}
use Rattle.fc_core.specs.Stage.{ToCommit, ToInstall, ToRemove}
use Rattle.fc_core.specs.History.{around, Entry, History, BeginsWith, Then, Seen, seen, and_then, job, inputs, slot_at, stage}
use Rattle.fc_core.specs.Laws.{slot_of}
use Rattle.fc_laws.specs.SlotLaws.{AllOfImages, ChangesBy, IsInstall, IsOfImage, IsRemoving, IsWriting, Clears, Installs, Nothing, Writes}
use Rattle.fc_core.specs.Stages.{image_of}
use Rattle.fc_core.specs.Transitions.{Around, Inputs, names, transition, install_call, install_if}
use Rattle.fc_core.specs.Steps.{changes_of_call}
use Rattle.fc_core.proofs.ByStep.{Step, by_step, event_by, effect_by, stage_by, committed}
use Rattle.fc_core.proofs.ByStep as steps
use Rattle.fc_core.specs.Steps as call
use Rattle.fc_laws.proofs.jobs.Others.{no_slot, other_slot, own_slot}

abbrev at : Job → Slot → Around → Stage → Inputs
at job slot ws stage = record { job = job; slot = slot; around = ws; stage = stage }

-- the changes that the transition of an event makes.
data Makes (e : Event) (job : Job) (slot : Slot) (s : Stage) (cs : List Change) : Type 0 where
  None_made : (is : cs ≡ []) → Makes e job slot s cs
  Puts : (k : ℕ) (p : Program) (event : e ≡ Install k true) (at : s ≡ ToInstall) (accepted : judged (image_of job.ask) ≡ Accepts p) (below : slot.serial < 9223372036854775807) (is : cs ≡ Installed p (initial_vars_of job.ask) ∷ []) → Makes e job slot s cs
  Takes_out : (k : ℕ) (p : Present) (event : e ≡ Remove k) (at : s ≡ ToRemove) (found : slot.present ≡ Some p) (below : slot.serial < 9223372036854775807) (is : cs ≡ Removed ∷ []) → Makes e job slot s cs
  Leaves : (k now n : ℕ) (t : Ticket) (event : e ≡ Commit k now) (at : s ≡ ToCommit n t) (is : cs ≡ Committed (commit_of t) ∷ []) → Makes e job slot s cs

committed_makes : (k now n : ℕ) (t : Ticket) (job : Job) (slot : Slot) (ws : Around) (o : CommitOutcome) → Makes (Commit k now) job slot (ToCommit n t) (committed o n t now slot.serial ws).changes
committed_makes k now n t job slot ws outcomes.Writes = Leaves k now n t refl refl refl
committed_makes k now n t job slot ws outcomes.Keeps = None_made refl
committed_makes k now n t job slot ws outcomes.Overtakes = None_made refl
committed_makes k now n t job slot ws outcomes.Ends = None_made refl

put_makes : (k : ℕ) (p : Program) (job : Job) (slot : Slot) (b : Bool) → judged (image_of job.ask) ≡ Accepts p → nat_lt slot.serial last_serial ≡ b
    → Makes (Install k true) job slot ToInstall (changes_of_call (call.Installs p (initial_vars_of job.ask) (put_by b slot p (initial_vars_of job.ask)).answer))
put_makes k p job slot true is e = Puts k p refl refl is (ltb-true slot.serial last_serial e) refl
put_makes k p job slot false is e = None_made refl

installed_makes : (k : ℕ) (job : Job) (slot : Slot) (j : Judgement) → judged (image_of job.ask) ≡ j → Makes (Install k true) job slot ToInstall (changes_of_call (install_call (initial_vars_of job.ask) j slot))
installed_makes k job slot (Accepts p) is = put_makes k p job slot (nat_lt slot.serial last_serial) is refl
installed_makes k job slot (Breaks rule i) is = None_made refl
installed_makes k job slot Untypable is = None_made refl

verified_makes : (k : ℕ) (memory : Bool) (job : Job) (slot : Slot) (ws : Around) → Makes (Install k memory) job slot ToInstall (changes_of_call (install_if memory (initial_vars_of job.ask) (judged (image_of job.ask)) slot))
verified_makes k true job slot ws = installed_makes k job slot (judged (image_of job.ask)) refl
verified_makes k false job slot ws = None_made refl

clear_makes : (k : ℕ) (job : Job) (slot : Slot) (b : Bool) (o : Option Present) → nat_lt slot.serial last_serial ≡ b → slot.present ≡ o → Makes (Remove k) job slot ToRemove (changes_of_call (call.Removes (clear_by b slot.serial o).answer))
clear_makes k job slot b None e is = None_made refl
clear_makes k job slot true (Some p) e is = Takes_out k p refl refl is (ltb-true slot.serial last_serial e) refl
clear_makes k job slot false (Some p) e is = None_made refl

step_makes : (k : ℕ) (c : Step) (job : Job) (slot : Slot) (ws : Around) → Makes (event_by k c) job slot (stage_by c) (effect_by c job slot ws).changes
step_makes k steps.Removes job slot ws = clear_makes k job slot (nat_lt slot.serial last_serial) slot.present refl refl
step_makes k (steps.Commits now n t) job slot ws = committed_makes k now n t job slot ws (outcome t slot)
step_makes k (steps.Installs memory) job slot ws = verified_makes k memory job slot ws
step_makes k other job slot ws = None_made refl

transition_makes : (e : Event) (job : Job) (slot : Slot) (ws : Around) (s : Stage) → Makes e job slot s (transition e (at job slot ws s)).changes
transition_makes e job slot ws s =
    by_step (λ d st m. Makes d job slot st m.changes) job slot ws
    (λ k c asked. step_makes k c job slot ws) (λ d st rest. None_made refl) e s

own_does : (r : Entry) (s : Seen) (k : ℕ) (cs : List Change) → names r.event ≡ Some k → (and_then r s).changes (slot_of s k) ≡ cs ++ s.changes (slot_of s k) → Makes r.event (job s k) (slot_at s (slot_of s k)) (stage s k) cs → ChangesBy r s (slot_of s k)
own_does r s k cs named grown (None_made is) = Nothing (grown ∙ ap (λ (l : List Change). l ++ s.changes (slot_of s k)) is)
own_does r s k cs named grown (Puts j p event stands accepted below is) =
    let same : j ≡ k = cc (sym (ap names event) ∙ named) in
    Installs (subst (λ (i : ℕ). r.event ≡ Install i true → IsInstall r s (slot_of s k)) (sym same) (λ e. record { number = k; program = p; event = e; at = stands; slot = refl; accepted = accepted; below = below; change = grown ∙ ap (λ (l : List Change). l ++ s.changes (slot_of s k)) is }) event)
own_does r s k cs named grown (Takes_out j p event stands found below is) =
    let same : j ≡ k = cc (sym (ap names event) ∙ named) in
    Clears (subst (λ (i : ℕ). r.event ≡ Remove i → IsRemoving r s (slot_of s k)) (sym same) (λ e. record { number = k; found = p; event = e; at = stands; slot = refl; present = found; below = below; change = grown ∙ ap (λ (l : List Change). l ++ s.changes (slot_of s k)) is }) event)
own_does r s k cs named grown (Leaves j now n t event stands is) =
    let same : j ≡ k = cc (sym (ap names event) ∙ named) in
    Writes (subst (λ (i : ℕ). r.event ≡ Commit i now → IsWriting r s (slot_of s k)) (sym same) (λ e. record { number = k; now = now; count = n; ticket = t; event = e; at = stands; slot = refl; change = grown ∙ ap (λ (l : List Change). l ++ s.changes (slot_of s k)) is }) event)

does_by : (r : Entry) (s : Seen) (n : ℕ) (o : Option ℕ) → names r.event ≡ o → ChangesBy r s n
does_by r s n None named = Nothing (no_slot r s n named)
does_by r s n (Some k) named = ⊎_elim
    (λ (is : n ≡ slot_of s k). subst (ChangesBy r s) (sym is) (own_does r s k (transition r.event (inputs s k)).changes named (own_slot r s k named) (transition_makes r.event (job s k) (slot_at s (slot_of s k)) (around s (slot_of s k)) (stage s k))))
    (λ (ne : n ≡ slot_of s k → ⊥). Nothing (other_slot r s k n named ne))
    (cases_eq n (slot_of s k))

pub does : (r : Entry) (s : Seen) (n : ℕ) → ChangesBy r s n
does r s n = does_by r s n (names r.event) refl

-- ---- refusals

refused_by : (r : Entry) (s : Seen) (k n : ℕ) (memory : Bool) → r.event ≡ Install k memory → ((p : Program) → judged (image_of (job s k).ask) ≡ Accepts p → ⊥) → ChangesBy r s n → (and_then r s).changes n ≡ s.changes n
refused_by r s k n memory is refused (Nothing same) = same
refused_by r s k n memory is refused (Installs w) =
    let e : Install w.number true ≡ Install k memory = sym w.event ∙ is in
    let same : w.number ≡ k = cc e in
    absurd (refused w.program (subst (λ (i : ℕ). judged (image_of (job s i).ask) ≡ Accepts w.program) same w.accepted))
refused_by r s k n memory is refused (Writes w) = let e : Commit w.number w.now ≡ Install k memory = sym w.event ∙ is in absurd (cc e)
refused_by r s k n memory is refused (Clears w) = let e : Remove w.number ≡ Install k memory = sym w.event ∙ is in absurd (cc e)

pub refused_stays : (r : Entry) (s : Seen) (k n : ℕ) (memory : Bool) → r.event ≡ Install k memory → ((p : Program) → judged (image_of (job s k).ask) ≡ Accepts p → ⊥) → (and_then r s).changes n ≡ s.changes n
refused_stays r s k n memory is refused = refused_by r s k n memory is refused (does r s n)

-- ---- every program in a slot is from an image

images_by : (r : Entry) (s : Seen) (n : ℕ) → ChangesBy r s n → AllOfImages (s.changes n) → AllOfImages ((and_then r s).changes n)
images_by r s n (Nothing is) a = subst AllOfImages (sym is) a
images_by r s n (Installs w) a = subst AllOfImages (sym w.change) (record { image = image_of (job s w.number).ask; accepted = w.accepted }, a)
images_by r s n (Writes w) a = subst AllOfImages (sym w.change) a
images_by r s n (Clears w) a = subst AllOfImages (sym w.change) a

pub images : (h : History) (n : ℕ) → AllOfImages ((seen h).changes n)
unfolding seen
images (BeginsWith stored id policy) n = tt
images (Then h r) n = images_by r (seen h) n (does r (seen h) n) (images h n)

-- if the program of a slot before its variables are written is from an image, so is the one
-- afterwards.
present_by : (o : Option Present) (vars : List ℕ) (p : Present) → ((q : Present) → o ≡ Some q → IsOfImage q.program) → with_vars vars o ≡ Some p → IsOfImage p.program
present_by None vars p before e = absurd (cc)
present_by (Some q) vars p before e =
    let is : record q { vars = vars } ≡ p = cc in
    subst (λ (x : Present). IsOfImage x.program) is (before q refl)

-- the program of a restored slot is from the stored image.
restored_image : (k : Option StoredProgram) (p : Present) → restored_present k ≡ Some p → IsOfImage p.program
restored_image None p e = absurd (cc e)
restored_image (Some k) p e = by_judgement (judged k.image) refl e
  where
    by_judgement : (j : Judgement) → judged k.image ≡ j → present_if j k ≡ Some p → IsOfImage p.program
    by_judgement (Accepts q) is e = let same : record { program = q; version = k.version; vars = k.vars } ≡ p = cc in subst (λ (x : Present). IsOfImage x.program) same (record { image = k.image; accepted = is })
    by_judgement (Breaks rule slot) is e = absurd (cc e)
    by_judgement Untypable is e = absurd (cc e)

present_image : (first : StoredSlot) (cs : List Change) (p : Present) → AllOfImages cs → (after_changes (restored_slot first) cs).present ≡ Some p → IsOfImage p.program
present_image first [] p a e = restored_image first.program p e
present_image first (Installed q v ∷ cs) p a e = let is : installed (after_changes (restored_slot first) cs) q v ≡ p = cc in subst (λ (x : Present). IsOfImage x.program) is a.0
present_image first (Committed c ∷ cs) p a e = present_by (after_changes (restored_slot first) cs).present c.after p (λ q is. present_image first cs q a is) e
present_image first (Removed ∷ cs) p a e = absurd (cc e)

pub of_image : (h : History) (n : ℕ) (p : Present) → (slot_at (seen h) n).present ≡ Some p → IsOfImage p.program
of_image h n p e = present_image ((seen h).stored n) ((seen h).changes n) p (images h n) e
