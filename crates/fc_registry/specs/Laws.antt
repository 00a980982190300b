-- Definitions for two kinds of laws: of a slot and its changes, and of a lease's job and observer.
use Rattle.std.specs.Prelude.{◌≡◌, ℕ, ◌+◌, ◌<◌, false, if◌then◌else◌, Some, None, List, [], ◌∷◌, ◌++◌, length}
use Rattle.fc_observe.specs.Views.{Interest}
use Rattle.fc_ticket.specs.declared.job.Ask.TheVariants.{Run}
use Rattle.fc_ticket.specs.declared.job.Job.{Job}
use Rattle.fc_ticket.specs.declared.job.InitialVars.{InitialVars}
use Rattle.fc_registry.specs.Record.{HasRingSince}
use Rattle.fc_ticket.specs.Tickets.{Present}
use Rattle.fc_registry.specs.Slots.{Slot, new_slot, vars_in}
use Rattle.fc_registry.specs.Changes.{Change, Installed, Committed, Removed, after_changes, installed, is_noticed}

-- no install and no removal is among the changes.
abbrev pub AllCommits : List Change → Type 0
AllCommits [] = Unit {0}
AllCommits (Committed c ∷ cs) = AllCommits cs
AllCommits (Installed p initial ∷ cs) = ⊥
AllCommits (Removed ∷ cs) = ⊥

-- the variables that the newest commit left, or these variables if there is no commit.
abbrev pub vars_left : List ℕ → List Change → List ℕ
vars_left vars [] = vars
vars_left vars (Committed c ∷ cs) = c.after
vars_left vars (Installed p initial ∷ cs) = vars_left vars cs
vars_left vars (Removed ∷ cs) = vars_left vars cs

-- the variables that the newest install left, or those with which the slot began if there is no
-- install.
abbrev pub vars_since : Slot → List Change → List ℕ
vars_since first [] = vars_in first.present
vars_since first (Installed p initial ∷ cs) = (installed (after_changes first cs) p initial).vars
vars_since first (Committed c ∷ cs) = vars_since first cs
vars_since first (Removed ∷ cs) = vars_since first cs

-- the variables that the newest install left; none if there is no install.
abbrev pub vars_begun : ℕ → List Change → List ℕ
vars_begun serial cs = vars_since (new_slot serial) cs

-- the ring of the slot after these changes counts from the newest install. It begins with the
-- variables that this install left.
abbrev pub RingBegins : ℕ → List Change → Slot → Type 0
RingBegins serial cs slot = (p : Present) → slot.present ≡ Some p → HasRingSince p.version slot.serial (vars_begun serial cs) p slot.ring

-- the serial of the newest change that observers are notified of, or the first serial if there is
-- none.
abbrev pub notify_serial : ℕ → List Change → ℕ
notify_serial serial [] = serial
notify_serial serial (c ∷ cs) = if is_noticed c then serial + length (c ∷ cs) else notify_serial serial cs

-- the program was installed by one of these changes, the newest first, and only commits have
-- followed. The version is the serial of that install. The variables are those that the install or
-- the newest commit left.
pub record FollowsInstall (serial : ℕ) (cs : List Change) (p : Present) : Type 0 where
  pub later : List Change
  pub earlier : List Change
  pub initial : InitialVars
  pub changes : cs ≡ later ++ (Installed p.program initial ∷ earlier)
  pub only_commits : AllCommits later
  pub version : p.version ≡ (after_changes (new_slot serial) earlier).serial + 1
  pub vars : p.vars ≡ vars_left (installed (after_changes (new_slot serial) earlier) p.program initial).vars later

-- the job of a lease answers the observer's request again, from the first block on. The size of the
-- block is the one that the registration requested, if any. A size has an exponent of three bits.
pub record IsTurnFor (j : Job) (o : Interest) : Type 0 where
  pub endpoint : j.origin.endpoint ≡ o.endpoint
  pub token : j.token ≡ o.token
  pub ask : j.ask ≡ Run o.request
  pub whole : o.szx ≡ None → j.block ≡ None
  pub size : (szx : ℕ) → szx < 8 → o.szx ≡ Some szx → j.block ≡ Some (record { number = 0; more = false; szx = szx })
