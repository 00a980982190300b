-- The record of a slot's commits: a chain, whose last eight are in the ring.
use Rattle.std.specs.Prelude.{◌≡◌, ℕ, ◌+◌, ◌-◌, ◌/◌, ◌≤◌, min, List, [], ◌∷◌, length, Option, Some, None}
use Rattle.fc_help.specs.declared.request.Method.TheVariants.{Post}
use Rattle.fc_kinds.specs.Meaning.{Program, input_with, meant}
use Rattle.fc_registry.specs.declared.ring.Entry.{Entry}
use Rattle.fc_registry.specs.Slots.{Slot}
use Rattle.fc_ticket.specs.Tickets.{Present}
use Rattle.fc_registry.specs.Changes.{Change, Installed, Committed, Removed, Commit, after_changes}

-- the class of a code: its upper three bits (RFC 7252, section 3).
abbrev pub code_class : ℕ → ℕ
code_class code = code / 32

-- the commit is a link at this state of its slot. It found the program and the variables of the
-- slot. It left just the variables of the program's meaning for its input, and has the notify flag
-- of that meaning. It answered a POST, with a code of class 2.
pub record IsLink (slot : Slot) (c : Commit) : Type 0 where
  pub found : Present
  pub present : slot.present ≡ Some found
  pub before : c.before ≡ found.vars
  pub after : c.after ≡ (meant found.program (input_with c.request found.vars c.readings)).vars
  pub notice : c.notice ≡ (meant found.program (input_with c.request found.vars c.readings)).notice
  pub post : c.request.method ≡ Post
  pub class : code_class (meant found.program (input_with c.request found.vars c.readings)).code ≡ 2

-- each commit in a list of changes, the newest first, is a link: it begins with the state that the
-- changes before the commit left.
abbrev pub IsChain : Slot → List Change → Type 0
IsChain first [] = Unit {0}
IsChain first (Committed c ∷ cs) = IsLink (after_changes first cs) c × IsChain first cs
IsChain first (Installed p initial ∷ cs) = IsChain first cs
IsChain first (Removed ∷ cs) = IsChain first cs

-- an entry of the ring of a slot with this program. It has this serial, and begins with these
-- variables. It left just the variables of the program's meaning for them. The entry's commit
-- answered a POST, with a code of class 2.
pub record IsEntry (p : Program) (serial : ℕ) (vars : List ℕ) (e : Entry) : Type 0 where
  pub serial_is : e.serial ≡ serial
  pub before : e.before ≡ vars
  pub after : e.after ≡ (meant p (input_with e.request vars e.readings)).vars
  pub post : e.request.method ≡ Post
  pub class : code_class (meant p (input_with e.request vars e.readings)).code ≡ 2

-- the entries have consecutive serials, the oldest first. Each entry begins with the variables that
-- the one before it left.
abbrev pub AreEntries : Program → ℕ → List ℕ → List Entry → Type 0
AreEntries p serial vars [] = Unit {0}
AreEntries p serial vars (e ∷ es) = IsEntry p serial vars e × AreEntries p (serial + 1) e.after es

-- the variables that the last entry left, or these variables without an entry.
abbrev pub left_by : List ℕ → List Entry → List ℕ
left_by vars [] = vars
left_by vars (e ∷ es) = left_by e.after es

-- the ring has the last eight commits since serial `since`, at which the variables were `first`.
pub record HasRingSince (since serial : ℕ) (first : List ℕ) (p : Present) (ring : List Entry) : Type 0 where
  pub version : p.version ≤ since
  pub reached : since ≤ serial
  pub size : length ring ≡ min 8 (serial - since)
  pub found : List ℕ
  pub entries : AreEntries p.program ((serial - length ring) + 1) found ring
  pub vars : p.vars ≡ left_by found ring
  pub begins : length ring ≡ serial - since → found ≡ first

-- the ring has the last eight commits since serial `since`, at which there were as many variables
-- as the program has.
abbrev pub HasRingFrom : ℕ → ℕ → Present → List Entry → Type 0
HasRingFrom since serial p ring = (first : List ℕ) × HasRingSince since serial first p ring × (length first ≡ p.program.vars_size)

-- the ring of a slot with a program counts from the install; that of an empty slot is empty.
abbrev pub HasRingIf : ℕ → Option Present → List Entry → Type 0
HasRingIf serial None ring = ring ≡ []
HasRingIf serial (Some p) ring = HasRingFrom p.version serial p ring

-- the ring of a slot is a chain that counts from the install.
abbrev pub IsRing : Slot → Type 0
IsRing slot = HasRingIf slot.serial slot.present slot.ring

-- the ring of a slot with a program counts from the install, or from a later serial at which the
-- slot was restored.
abbrev pub HasRecordIf : ℕ → Option Present → List Entry → Type 0
HasRecordIf serial None ring = ring ≡ []
HasRecordIf serial (Some p) ring = (since : ℕ) × HasRingFrom since serial p ring

-- the ring of a slot that may have been restored is a chain.
abbrev pub IsRecord : Slot → Type 0
IsRecord slot = HasRecordIf slot.serial slot.present slot.ring
