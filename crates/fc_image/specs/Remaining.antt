-- An upper bound on the rest of a path.
use Rattle.std.specs.Prelude.{ℕ, ◌+◌, ◌*◌, List, [], ◌∷◌, Option, Some, None}
use Rattle.fc_isa.specs.declared.insn.Insn.{Insn}
use Rattle.fc_isa.specs.Flow.{Flow}
use Rattle.fc_image.specs.Flow.{flow_at}
use Rattle.fc_image.specs.declared.loops.Loop.{Loop}
use Rattle.fc_image.specs.Loops.{ends}
use Rattle.fc_image.specs.Paths.{Behind, Return, Turns, own_cost, cost_in}

-- the steps from a slot to the end of its body or function.
abbrev pub own_by : (ℕ → ℕ) → Option Loop → Option Flow → ℕ
own_by at o None = 0
own_by at o (Some f) = own_cost at o f

abbrev pub own : List Insn → List Loop → ℕ → ℕ
own code loops slot = own_by (cost_in code loops) (ends loops slot) (flow_at code slot)

-- an upper bound on a continuation: for each active loop the iterations after this one, and the
-- rest after the loop.
abbrev pub left : List Insn → List Loop → List Behind → ℕ
left code loops [] = 0
left code loops (Return place ∷ behind) = cost_in code loops place + left code loops behind
left code loops (Turns l k ∷ behind) = k * own code loops l.head + cost_in code loops (l.last + 1) + left code loops behind
