-- The demand at which the pass stops, if it stops at an instruction; and a slot at which no loop
-- begins.
use Rattle.std.proofs.Common.{◌≡◌, ℕ, Bool, List, Option, Some, None, refl, sym, ap, subst}
use Rattle.fc_isa.specs.declared.insn.Insn.{Insn}
use Rattle.fc_image.specs.declared.loops.Loop.{Loop}
use Rattle.fc_kinds.specs.declared.kind.Kind.{Kind}
use Rattle.fc_kinds.specs.Values.{with_some}
use Rattle.fc_verify.specs.declared.untyped.Demand.{Demand}
use Rattle.fc_verify.specs.Heads.{settled}
use Rattle.fc_verify.specs.Pass.{met_by, passed_by}
use Rattle.fc_verify.specs.Stages.{Fails, Stops, AtInsn}
use Rattle.fc_verify.specs.Typing.{States}

-- if the instruction fails in the slot's state, the pass stops there with the same demand
pub stops_at : (vars : ℕ) (code : List Insn) (beginning : Option Loop) (inside : Bool) (insn : Insn) (found kinds known : List Kind) (demand : Demand)
    → settled code beginning found ≡ Some kinds → known ≡ kinds → Fails vars inside insn kinds demand
    → Stops vars code beginning inside insn found known demand
stops_at vars code beginning inside insn found kinds known demand e k f =
    subst (λ ks. Stops vars code beginning inside insn found ks demand) (sym k) (AtInsn e f)

-- at a slot where no loop begins, the slot's state is the one found
pub settled_none : (code : List Insn) (kinds : List Kind) → settled code None kinds ≡ Some kinds
unfolding settled
settled_none code kinds = refl

pub passed_none : (vars : ℕ) (code : List Insn) (inside : Bool) (slot : ℕ) (insn : Insn) (found : List Kind) (states : States)
    → passed_by vars code None inside slot insn found states ≡ met_by vars inside slot insn found states
passed_none vars code inside slot insn found states =
    ap (λ o. with_some o (λ kinds. met_by vars inside slot insn kinds states)) (settled_none code found)
