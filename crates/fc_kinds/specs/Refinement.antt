-- The abstract state on each branch of a conditional jump.
use Rattle.std.specs.Prelude.{ℕ, ◌==◌, Bool, true, false, if◌then◌else◌, List, Option, Some, slice_set}
use Rattle.fc_isa.specs.declared.insn.Width.{Width}
use Rattle.fc_isa.specs.declared.insn.Width.TheVariants.{W64}
use Rattle.fc_isa.specs.declared.insn.Operand.{Operand}
use Rattle.fc_isa.specs.declared.insn.Operand.TheVariants.{Imm, Reg}
use Rattle.fc_isa.specs.declared.insn.Relation.{Relation}
use Rattle.fc_isa.specs.declared.insn.Jump.{Jump}
use Rattle.fc_kinds.specs.declared.interval.Interval.{Interval}
use Rattle.fc_kinds.specs.Intervals.{interval, refined, opposite}
use Rattle.fc_kinds.specs.declared.kind.Kind.{Kind}
use Rattle.fc_kinds.specs.declared.kind.Kind.TheVariants.{Num}
use Rattle.fc_kinds.specs.Values.{with_some}
use Rattle.fc_kinds.specs.Kinds.{kind_at}
use Rattle.fc_kinds.specs.Transfer.{num, operand_kind}

-- the state with this interval for an operand that is a register.
abbrev pub put_right : Operand → List Kind → Interval → List Kind
put_right (Imm k) kinds s = kinds
put_right (Reg r) kinds s = slice_set kinds r (num s)

-- the state with these intervals for both operands; an immediate isn't in a register.
abbrev pub put_both : Jump → List Kind → Interval × Interval → List Kind
put_both j kinds pair = put_right j.right (slice_set kinds j.left (num pair.0)) pair.1

-- the operand is the register r: a register is compared with itself.
abbrev pub is_same : Operand → ℕ → Bool
is_same (Imm k) r = false
is_same (Reg q) r = q == r

-- the relation of a branch: the branch not taken has the opposite relation.
abbrev pub relation_of : Bool → Jump → Relation
relation_of true j = j.relation
relation_of false j = opposite j.relation

-- a jump refines if it compares all 64 bits of two different registers, or of a register and an
-- immediate.
abbrev pub refines_at : Width → Bool → Bool
refines_at W64 false = true
refines_at width same = false

abbrev pub refines : Jump → Bool
refines j = refines_at j.width (is_same j.right j.left)

abbrev pub both_numbers : Kind → Kind → (Interval → Interval → Option (List Kind)) → List Kind → Option (List Kind)
both_numbers (Num lo hi) (Num lo' hi') f kinds = f (interval lo hi) (interval lo' hi')
both_numbers a b f kinds = Some kinds

-- the state on a branch; `None` if no numbers in the state take the branch.
unfoldable pub when : Jump → Bool → List Kind → Option (List Kind)
when j taken kinds =
    if refines j
    then both_numbers (kind_at kinds j.left) (operand_kind W64 j.right kinds) (λ a b.
    with_some (refined (relation_of taken j) a b) (λ pair. Some (put_both j kinds pair))) kinds
    else Some kinds
