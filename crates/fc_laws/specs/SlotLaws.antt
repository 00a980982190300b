-- Definitions for the laws of slots.
use Rattle.std.specs.Prelude.{◌≡◌, ℕ, ◌<◌, true, List, [], ◌∷◌, Some}
use Rattle.arrayvec.specs.ArrayVec.{ArrayVec}
use Rattle.fc_help.specs.declared.request.Method.TheVariants.{Post}
use Rattle.fc_kinds.specs.Meaning.{Program}
use Rattle.fc_verify.specs.Accepted.{Accepts}
use Rattle.fc_verify.specs.Judged.{judged}
use Rattle.fc_registry.specs.Calls.{commit_of}
use Rattle.fc_ticket.specs.Runs.{meaning_at, initial_vars_of}
use Rattle.fc_registry.specs.Changes.{Change, Installed, Committed, Removed}
use Rattle.fc_registry.specs.Record.{code_class}
use Rattle.fc_ticket.specs.Tickets.{Present, Ticket}
use Rattle.fc_registry.specs.Slots.{vars_in}
use Rattle.fc_ticket.specs.declared.job.Ask.TheVariants.{Install as Asks}
use Rattle.fc_ticket.specs.declared.job.InitialVars.{InitialVars}
use Rattle.fc_core.specs.declared.event.Event.TheVariants.{Commit, Install, Remove}
use Rattle.fc_core.specs.Transitions.{Inputs}
use Rattle.fc_core.specs.Stage.{Stage}
use Rattle.fc_core.specs.Stage.{ToCommit, ToInstall, ToRemove, ToRaise}
use Rattle.fc_core.specs.History.{Entry, History, Seen, seen, and_then, job, slot_at, stage}
use Rattle.fc_core.specs.Laws.{Snapshot, slot_of, snapshots_of}
use Rattle.fc_core.specs.Stages.{image_of}

-- the job is to publish its slot's new head word.
abbrev pub IsToRaise : Stage → Type 0
IsToRaise (ToRaise word content) = Unit {0}
IsToRaise other = ⊥

-- ---- changes of a slot

-- the event is the install of an accepted image by a job of slot n at that stage, with memory for
-- the program. The job determines the variables that the install leaves.
pub record IsInstall (r : Entry) (s : Seen) (n : ℕ) : Type 0 where
  pub number : ℕ
  pub program : Program
  pub event : r.event ≡ Install number true
  pub at : stage s number ≡ ToInstall
  pub slot : slot_of s number ≡ n
  pub accepted : judged (image_of (job s number).ask) ≡ Accepts program
  pub below : (slot_at s n).serial < 9223372036854775807
  pub change : (and_then r s).changes n ≡ Installed program (initial_vars_of (job s number).ask) ∷ s.changes n

-- job k is to install an accepted program, and its slot is below the last serial.
pub record IsToInstall (s : Seen) (k : ℕ) (p : Program) : Type 0 where
  pub at : stage s k ≡ ToInstall
  pub accepted : judged (image_of (job s k).ask) ≡ Accepts p
  pub below : (slot_at s (slot_of s k)).serial < 9223372036854775807

-- inputs of a transition whose job installs this image. The job determines the variables that the
-- install leaves.
abbrev pub inputs_installing : ArrayVec ℕ → InitialVars → Inputs → Inputs
inputs_installing image initial x = record x { job = record x.job { ask = Asks image initial } }

-- the variables of slot n.
abbrev pub vars_at : Seen → ℕ → List ℕ
vars_at s n = vars_in (slot_at s n).present

-- the event is the commit of a run by a job of slot n at that stage.
pub record IsWriting (r : Entry) (s : Seen) (n : ℕ) : Type 0 where
  pub number : ℕ
  pub now : ℕ
  pub count : ℕ
  pub ticket : Ticket
  pub event : r.event ≡ Commit number now
  pub at : stage s number ≡ ToCommit count ticket
  pub slot : slot_of s number ≡ n
  pub change : (and_then r s).changes n ≡ Committed (commit_of ticket) ∷ s.changes n

-- the event is the removal of a program by a job of slot n at that stage.
pub record IsRemoving (r : Entry) (s : Seen) (n : ℕ) : Type 0 where
  pub number : ℕ
  pub found : Present
  pub event : r.event ≡ Remove number
  pub at : stage s number ≡ ToRemove
  pub slot : slot_of s number ≡ n
  pub present : (slot_at s n).present ≡ Some found
  pub below : (slot_at s n).serial < 9223372036854775807
  pub change : (and_then r s).changes n ≡ Removed ∷ s.changes n

-- the effect of an event on slot n: nothing, an install, a commit or a removal.
pub data ChangesBy (r : Entry) (s : Seen) (n : ℕ) : Type 0 where
  Nothing : (is : (and_then r s).changes n ≡ s.changes n) → ChangesBy r s n
  Installs : (is : IsInstall r s n) → ChangesBy r s n
  Writes : (is : IsWriting r s n) → ChangesBy r s n
  Clears : (is : IsRemoving r s n) → ChangesBy r s n

-- some image is accepted as this program.
pub record IsOfImage (p : Program) : Type 0 where
  pub image : List ℕ
  pub accepted : judged image ≡ Accepts p

-- for each program that was installed, some image is accepted as that program.
abbrev pub AllOfImages : List Change → Type 0
AllOfImages [] = Unit {0}
AllOfImages (Installed p initial ∷ cs) = IsOfImage p × AllOfImages cs
AllOfImages (Committed c ∷ cs) = AllOfImages cs
AllOfImages (Removed ∷ cs) = AllOfImages cs

-- ---- commits

-- the newest of these snapshots was taken after exactly these changes of the slot.
abbrev pub IsUnchanged : List Snapshot → List Change → Type 0
IsUnchanged [] cs = ⊥
IsUnchanged (t ∷ ts) cs = cs ≡ t.changes

-- the run of the ticket answers a POST with a code of class 2. The slot hasn't changed since the
-- job's last snapshot, and isn't at its last serial.
pub record IsWritten (h : History) (k : ℕ) (t : Ticket) : Type 0 where
  pub post : t.request.method ≡ Post
  pub class : code_class (meaning_at t).code ≡ 2
  pub unchanged : IsUnchanged (snapshots_of h k) ((seen h).changes (slot_of (seen h) k))
  pub below : (slot_at (seen h) (slot_of (seen h) k)).serial < 9223372036854775807
