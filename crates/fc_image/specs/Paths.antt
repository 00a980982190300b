-- Paths through a program with counted loops, and the number of steps on its longest path.
use Rattle.std.specs.Prelude.{◌≡◌, ℕ, zero, suc, ◌+◌, ◌-◌, ◌*◌, ◌/◌, ◌≤◌, ◌⊎◌, nat_lt, if◌then◌else◌, max, List, [], ◌∷◌, Option, Some, None, slice_index}
use Rattle.fc_isa.specs.declared.insn.Insn.{Insn}
use Rattle.fc_isa.specs.declared.version.ImageVersion.{ImageVersion}
use Rattle.fc_isa.specs.Flow.{Flow, Halts, Goes, Forks, Enters, flow}
use Rattle.fc_image.specs.Flow.{flow_at}
use Rattle.fc_image.specs.declared.loops.Loop.{Loop}
use Rattle.fc_image.specs.Loops.{loops_in, begins, ends}

-- the number of iterations of a loop on a path, each time that the path enters the loop at its head
-- from outside.
abbrev pub turns : Loop → ℕ
turns l = 1 + (l.bound - 1) / l.step

-- a part of a path's continuation: the return place of a call, or a loop with the number of
-- iterations after the current one.
pub data Behind : Type 0 where
  Return : (place : ℕ) → Behind
  Turns : (loop : Loop) (left : ℕ) → Behind

-- the continuation of a path that reaches a slot. If a loop begins at the slot, the path is in the
-- first iteration.
abbrev pub opened_loop : Option Loop → List Behind → List Behind
opened_loop None behind = behind
opened_loop (Some l) behind = Turns l (turns l - 1) ∷ behind

abbrev pub opened_loops : List Loop → ℕ → List Behind → List Behind
opened_loops loops slot behind = opened_loop (begins loops slot) behind

abbrev pub ContinuesAt : List Loop → (ℕ → List Behind → Type 0) → ℕ → List Behind → Type 0
ContinuesAt loops Path slot behind = Path slot (opened_loops loops slot behind)

-- an exit goes back to the return place of the last call; without a call, the exit ends the path.
abbrev pub Returns : List Loop → (ℕ → List Behind → Type 0) → ℕ → List Behind → Type 0
Returns loops Path n [] = n ≡ 0
Returns loops Path n (Return place ∷ behind) = ContinuesAt loops Path place behind
Returns loops Path n (Turns l left ∷ behind) = ⊥

-- a back jump continues with the next iteration, or after the loop if this was the last iteration.
abbrev pub TurnsBack : List Loop → (ℕ → List Behind → Type 0) → ℕ → List Behind → Type 0
TurnsBack loops Path slot (Turns l (suc left) ∷ behind) = (slot ≡ l.last) × Path l.head (Turns l left ∷ behind)
TurnsBack loops Path slot (Turns l zero ∷ behind) = (slot ≡ l.last) × ContinuesAt loops Path (l.last + 1) behind
TurnsBack loops Path slot other = ⊥

abbrev pub GoesBy : List Loop → (ℕ → List Behind → Type 0) → ℕ → List Behind → Option Flow → Type 0
GoesBy loops Path n behind None = ⊥
GoesBy loops Path n behind (Some Halts) = Returns loops Path n behind
GoesBy loops Path n behind (Some (Goes next)) = ContinuesAt loops Path next behind
GoesBy loops Path n behind (Some (Forks taken next)) = ContinuesAt loops Path taken behind ⊎ ContinuesAt loops Path next behind
GoesBy loops Path n behind (Some (Enters start next)) = ContinuesAt loops Path start (Return next ∷ behind)

-- a path with n steps left goes on from a slot by the slot's flow, or at the end of a loop by the
-- back jump.
abbrev pub GoesOn : List Insn → List Loop → (ℕ → List Behind → Type 0) → ℕ → ℕ → List Behind → Option Loop → Type 0
GoesOn code loops Path n slot behind None = GoesBy loops Path n behind (flow_at code slot)
GoesOn code loops Path n slot behind (Some l) = TurnsBack loops Path slot behind

-- a path with this many steps leads from a slot to the program's exit, with this continuation; each
-- instruction is one step.
unfoldable pub IsPath : List Insn → List Loop → ℕ → ℕ → List Behind → Type 0
IsPath code loops zero slot behind = ⊥
IsPath code loops (suc n) slot behind = GoesOn code loops (IsPath code loops n) n slot behind (ends loops slot)

-- the greatest number of steps on any path from slot 0.
pub record IsLongestIn (code : List Insn) (loops : List Loop) (steps : ℕ) : Type 0 where
  pub path : IsPath code loops steps 0 (opened_loops loops 0 [])
  pub greatest : (n : ℕ) → IsPath code loops n 0 (opened_loops loops 0 []) → n ≤ steps

-- the greatest number of steps, with the loops that a version of the format allows.
abbrev pub IsLongest : ImageVersion → List Insn → ℕ → Type 0
IsLongest version code steps = IsLongestIn code (loops_in version code) steps

-- ---- the greatest number of steps as a function, computed from the last slot back

-- the steps from an instruction on, to the end of its body or function.
abbrev pub along : (ℕ → ℕ) → Flow → ℕ
along at Halts = 1
along at (Goes next) = 1 + at next
along at (Forks taken next) = 1 + max (at taken) (at next)
along at (Enters start next) = 1 + (at start + at next)

-- the steps from an instruction to the end of its body or function. A back jump is the end of its
-- body, and one step.
abbrev pub own_cost : (ℕ → ℕ) → Option Loop → Flow → ℕ
own_cost at None f = along at f
own_cost at (Some l) f = 1

-- the cost of a slot. At the head of a loop it is the cost of all iterations and of the rest after
-- the loop.
abbrev pub looped : (ℕ → ℕ) → Option Loop → ℕ → ℕ
looped at None own = own
looped at (Some l) own = turns l * own + at (l.last + 1)

-- the cost at a later slot, found in the costs of the next slot and of the later ones.
abbrev pub cost_at : List ℕ → ℕ → ℕ → ℕ
cost_at after slot t = if nat_lt slot t then slice_index after (t - suc slot) else 0

abbrev pub own_of : List Loop → ℕ → Insn → List ℕ → ℕ
own_of loops slot insn after = own_cost (cost_at after slot) (ends loops slot) (flow slot insn)

abbrev pub cost_of : List Loop → ℕ → Insn → List ℕ → ℕ
cost_of loops slot insn after = looped (cost_at after slot) (begins loops slot) (own_of loops slot insn after)

abbrev pub cost_and : List Loop → ℕ → Insn → List ℕ → List ℕ
cost_and loops slot insn after = cost_of loops slot insn after ∷ after

-- the cost of each slot from this one on.
unfoldable pub costs : List Loop → ℕ → List Insn → List ℕ
costs loops slot [] = []
costs loops slot (insn ∷ code) = cost_and loops slot insn (costs loops (suc slot) code)

unfoldable pub cost_in : List Insn → List Loop → ℕ → ℕ
cost_in code loops slot = slice_index (costs loops 0 code) slot

unfoldable pub longest : ImageVersion → List Insn → ℕ
longest version code = cost_in code (loops_in version code) 0
