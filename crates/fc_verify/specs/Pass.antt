-- The least states of a program's slots, computed slot by slot from its entry on. All flows into a
-- slot come from earlier slots, except back jumps. A back jump passes no state on: the loop
-- invariant contains the state on the jump.
use Rattle.std.specs.Prelude.{◌≡◌, ℕ, ◌+◌, ◌<◌, ◌&&◌, not, Bool, nat_lt, if◌then◌else◌, List, [], ◌∷◌, map, Option, Some, None, is_some, slice_set}
use Rattle.fc_isa.specs.declared.insn.Insn.{Insn}
use Rattle.fc_isa.specs.declared.version.ImageVersion.{ImageVersion}
use Rattle.fc_isa.specs.Flow.{Flow, Halts, Goes, Forks, Enters}
use Rattle.fc_isa.specs.Writes.{computes}
use Rattle.fc_image.specs.declared.loops.Loop.{Loop}
use Rattle.fc_image.specs.Loops.{begins, loops_in}
use Rattle.fc_kinds.specs.declared.kind.Kind.{Kind}
use Rattle.fc_kinds.specs.Entry.{entry}
use Rattle.fc_kinds.specs.Lattice.{joined}
use Rattle.fc_kinds.specs.Values.{with_some}
use Rattle.fc_kinds.specs.Transfer.{transfer}
use Rattle.fc_kinds.specs.Ways.{Way, ways_after}
use Rattle.fc_verify.specs.Heads.{settled, gives_number, is_inside}
use Rattle.fc_verify.specs.Typing.{States, state_at}

-- a slot's state, joined with the state of a flow to it.
abbrev pub joined_in : Option (List Kind) → List Kind → Option (List Kind)
joined_in None kinds = Some kinds
joined_in (Some state) kinds = Some (joined state kinds)

abbrev pub meet_at : States → ℕ → List Kind → States
meet_at states slot kinds = slice_set states slot (joined_in (state_at states slot) kinds)

-- the states after a state is joined to that of a slot. Nothing is joined unless the slot is later
-- than the one from which the flow comes.
abbrev pub met_later : ℕ → States → ℕ → List Kind → States
met_later from states slot kinds = if nat_lt from slot then meet_at states slot kinds else states

-- the states, joined with those on the branches from a slot to later ones.
abbrev pub led : ℕ → States → List Way → States
led slot states [] = states
led slot states (w ∷ ws) = led slot (met_later slot states w.target w.kinds) ws

-- the states after a slot gets the state `kinds`, and the states on its branches are joined to
-- later slots. `None` if the instruction is in a loop's body and computes no number.
abbrev pub passed_on : Bool → ℕ → Insn → List Kind → List Kind → States → Option States
passed_on inside slot insn kinds after states =
    if inside && not (gives_number (computes insn) after) then None
    else Some (led slot (slice_set states slot (Some kinds)) (ways_after slot insn kinds after))

-- the same if the instruction's preconditions hold in the slot's state, and otherwise `None`.
abbrev pub met_by : ℕ → Bool → ℕ → Insn → List Kind → States → Option States
met_by vars inside slot insn kinds states = with_some (transfer vars insn kinds) (λ after. passed_on inside slot insn kinds after states)

-- the states after a slot that is found with the state `found`; `beginning` is the loop that begins
-- at the slot, and `inside` says whether the slot is in a body.
abbrev pub passed_by : ℕ → List Insn → Option Loop → Bool → ℕ → Insn → List Kind → States → Option States
passed_by vars code beginning inside slot insn found states = with_some (settled code beginning found) (λ kinds. met_by vars inside slot insn kinds states)

-- the slot is passed, with these states after it.
abbrev pub IsPassed : ℕ → List Insn → Option Loop → Bool → ℕ → Insn → List Kind → States → States → Type 0
IsPassed vars code beginning inside slot insn found states after = passed_by vars code beginning inside slot insn found states ≡ Some after

-- the states after a slot was passed, or `None` if a demand isn't met; a slot without a state is
-- unreachable.
abbrev pub passed_with : ℕ → List Insn → List Loop → ℕ → Insn → Option (List Kind) → States → Option States
passed_with vars code loops slot insn None states = Some states
passed_with vars code loops slot insn (Some found) states = passed_by vars code (begins loops slot) (is_inside loops slot) slot insn found states

abbrev pub passed : ℕ → List Insn → List Loop → ℕ → Insn → States → Option States
passed vars code loops slot insn states = passed_with vars code loops slot insn (state_at states slot) states

-- the states after all of these slots; `slot` is the first of them.
unfoldable pub pass_from : ℕ → List Insn → List Loop → ℕ → List Insn → States → Option States
pass_from vars code loops slot [] states = Some states
pass_from vars code loops slot (insn ∷ rest) states =
    with_some (passed vars code loops slot insn states) (pass_from vars code loops (slot + 1) rest)

-- at first only the entry has a state.
abbrev pub beginning : ImageVersion → List Insn → States
beginning version [] = []
beginning version (insn ∷ code) = Some (entry version) ∷ map (λ i. None) code

-- the pass of a program with these loops.
abbrev pub pass_with : ImageVersion → ℕ → List Insn → List Loop → Option States
pass_with version vars code loops = pass_from vars code loops 0 code (beginning version code)

abbrev pub pass : ImageVersion → ℕ → List Insn → Option States
pass version vars code = pass_with version vars code (loops_in version code)

-- the pass has a result: the demands of each reachable slot are met.
abbrev pub is_typable : ImageVersion → ℕ → List Insn → Bool
is_typable version vars code = is_some (pass version vars code)

-- each successor is in a program of `count` slots.
abbrev pub IsWithin : ℕ → Flow → Type 0
IsWithin count Halts = Unit {0}
IsWithin count (Goes next) = next < count
IsWithin count (Forks taken next) = (taken < count) × (next < count)
IsWithin count (Enters start next) = (start < count) × (next < count)
