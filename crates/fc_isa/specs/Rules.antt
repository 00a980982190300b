-- The rules' numbers, and the text of a refusal.
use Rattle.std.specs.Prelude.{ℕ, ◌/◌, ◌%◌, ◌++◌, List, codes}
use Rattle.std.specs.Fmt.{decimal}
use Rattle.fc_isa.specs.declared.rule.Rule.{Rule}
use Rattle.fc_isa.specs.declared.rule.Rule.TheVariants.{Format, SlotCount, VarsSize, Budget, Reserved, Opcode, Register, FramePointer, Field, WideLoad, JumpTarget, BackwardJump, Boundary, BackwardCall, FrameDepth, Cost, Helper, UnsetRegister, OperandKind, Access, RequestStore, PointerStore, ExitValue, PointerStep, HelperArgument, LoopState}

abbrev pub number_of : Rule → ℕ
number_of Format = 1
number_of SlotCount = 2
number_of VarsSize = 3
number_of Budget = 4
number_of Reserved = 5
number_of Opcode = 6
number_of Register = 7
number_of FramePointer = 8
number_of Field = 9
number_of WideLoad = 10
number_of JumpTarget = 11
number_of BackwardJump = 12
number_of Boundary = 13
number_of BackwardCall = 14
number_of FrameDepth = 15
number_of Cost = 16
number_of Helper = 17
number_of UnsetRegister = 20
number_of OperandKind = 21
number_of Access = 22
number_of RequestStore = 23
number_of PointerStore = 24
number_of ExitValue = 25
number_of PointerStep = 26
number_of HelperArgument = 27
number_of LoopState = 28

-- the text of a fault: `V`, the rule's number in two digits, ` slot `, and the slot.
abbrev pub fault_text : ℕ → ℕ → List ℕ
fault_text number slot = codes "V" ++ (decimal (number / 10) ++ (decimal (number % 10) ++ (codes " slot " ++ decimal slot)))
