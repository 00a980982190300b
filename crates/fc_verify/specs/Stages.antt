-- The results of the steps of a verification, in order.
use Rattle.std.specs.Prelude.{◌≡◌, ℕ, ◌+◌, ◌*◌, ◌<◌, ◌≤◌, ◌&&◌, not, Bool, true, false, List, length, take, Option, None, Some, slice_get}
use Rattle.fc_isa.specs.declared.insn.Insn.{Insn}
use Rattle.fc_isa.specs.declared.version.ImageVersion.{ImageVersion}
use Rattle.fc_isa.specs.declared.rule.Rule.{Rule}
use Rattle.fc_isa.specs.declared.rule.Rule.TheVariants.{LoopState}
use Rattle.fc_isa.specs.declared.rule.Fault.{Fault}
use Rattle.fc_isa.specs.Encoding.{Spells, first_fault}
use Rattle.fc_isa.specs.Rules.{number_of}
use Rattle.fc_image.specs.Head.{Head, head_fault, stated}
use Rattle.fc_image.specs.Written.{IsHead}
use Rattle.fc_isa.specs.Writes.{computes}
use Rattle.fc_image.specs.declared.loops.Loop.{Loop}
use Rattle.fc_image.specs.Loops.{begins, loops_in}
use Rattle.fc_kinds.specs.declared.kind.Kind.{Kind}
use Rattle.fc_kinds.specs.Kinds.{kind_at}
use Rattle.fc_kinds.specs.Transfer.{is_number, transfer}
use Rattle.fc_verify.specs.Accepted.{slots_of}
use Rattle.fc_verify.specs.Heads.{formed, settled, gives_number, is_inside}
use Rattle.fc_verify.specs.Judged.{code_in}
use Rattle.fc_verify.specs.Pass.{beginning, pass_from}
use Rattle.fc_verify.specs.Typing.{States, state_at}
use Rattle.fc_verify.specs.declared.untyped.Demand.{Demand}
use Rattle.fc_verify.specs.declared.untyped.Demand.TheVariants.{Operands, Number, Counter}
use Rattle.fc_verify.specs.declared.untyped.Untyped.{Untyped}

-- the image's header breaks no rule, and is `head`.
pub record IsHeadOf (image : List ℕ) (head : Head) : Type 0 where
  pub fault : head_fault image ≡ None
  pub stated_is : head ≡ stated image
  pub size : length image ≡ 16 + 8 * head.count
  pub limits : IsHead head

-- the image's slots break no rule, and encode this program.
pub record IsCodeOf (image : List ℕ) (code : List Insn) : Type 0 where
  pub fault : first_fault (slots_of image) ≡ None
  pub code_is : code ≡ code_in image
  pub spelled : Spells (slots_of image) code
  pub count : length code ≡ (stated image).count

-- the fault has a rule of typings, 20 to 28, and a slot of the program.
pub record IsTypingFault (code : List Insn) (f : Fault) : Type 0 where
  pub from : 20 ≤ number_of f.rule
  pub upto : number_of f.rule ≤ 28
  pub within : f.slot < length code

-- the demand is that of an instruction in a loop's body whose computed register has an abstract
-- value that isn't a number.
pub record GivesNoNumber (inside : Bool) (insn : Insn) (after : List Kind) (demand : Demand) : Type 0 where
  pub inside_is : inside ≡ true
  pub register : ℕ
  pub computed : computes insn ≡ Some register
  pub other : is_number (kind_at after register) ≡ false
  pub demand_is : demand ≡ Number register (kind_at after register)

-- the demand of a loop's body that isn't met; `None` outside of bodies, and if the computed
-- register is a number.
abbrev pub IsUnnumbered : Bool → Insn → List Kind → Option Demand → Type 0
IsUnnumbered inside insn after None = (inside && not (gives_number (computes insn) after)) ≡ false
IsUnnumbered inside insn after (Some demand) = GivesNoNumber inside insn after demand

-- the demand that an instruction breaks in this state: there is no state after the instruction; or
-- in a loop's body the register that it computes isn't a number.
pub data Fails (vars : ℕ) (inside : Bool) (insn : Insn) (kinds : List Kind) (demand : Demand) : Type 0 where
  Unmet : transfer vars insn kinds ≡ None → demand ≡ Operands → Fails vars inside insn kinds demand
  NoNumber :
      (after : List Kind) → transfer vars insn kinds ≡ Some after → GivesNoNumber inside insn after demand
      → Fails vars inside insn kinds demand

-- the demand at which the pass stops, at a slot found with this state. Either the instruction isn't
-- passed in the slot's state. Or there is no loop invariant, since the counter of the loop that
-- begins at the slot doesn't start below the bound. In that case the instruction's own
-- preconditions don't hold in the loop's iterations, or they hold and the counter's demand isn't
-- met.
pub data Stops (vars : ℕ) (code : List Insn) (beginning : Option Loop) (inside : Bool) (insn : Insn) (found known : List Kind) (demand : Demand) : Type 0 where
  AtInsn :
      settled code beginning found ≡ Some known → Fails vars inside insn known demand
      → Stops vars code beginning inside insn found known demand
  AtHead :
      (l : Loop) → beginning ≡ Some l → settled code beginning found ≡ None → known ≡ formed code l found
      → transfer vars insn known ≡ None → demand ≡ Operands → Stops vars code beginning inside insn found known demand
  AtEntry :
      (l : Loop) (after : List Kind) → beginning ≡ Some l → settled code beginning found ≡ None → known ≡ found
      → transfer vars insn (formed code l found) ≡ Some after → demand ≡ Counter l
      → Stops vars code beginning inside insn found known demand

-- the rules by which a demand that isn't met is reported.
abbrev pub IsRuleOf : Demand → Rule → Type 0
IsRuleOf Operands rule = (20 ≤ number_of rule) × (number_of rule ≤ 27)
IsRuleOf (Number register given) rule = rule ≡ LoopState
IsRuleOf (Counter l) rule = rule ≡ LoopState

-- the pass reaches the slot with some state, and stops there.
pub record IsUntyped (version : ImageVersion) (vars : ℕ) (code : List Insn) (u : Untyped) : Type 0 where
  pub rule : IsRuleOf u.demand u.fault.rule
  pub insn : Insn
  pub insn_is : slice_get code u.fault.slot ≡ Some insn
  pub states : States
  pub passed : pass_from vars code (loops_in version code) 0 (take u.fault.slot code) (beginning version code) ≡ Some states
  pub found : List Kind
  pub found_is : state_at states u.fault.slot ≡ Some found
  pub stops :
      Stops vars code (begins (loops_in version code) u.fault.slot) (is_inside (loops_in version code) u.fault.slot) insn found u.known
      u.demand
