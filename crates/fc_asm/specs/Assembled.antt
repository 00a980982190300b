-- The program of a text's lines, or the fault of lines that have no program.
use Rattle.std.specs.Option.{option_to_list}
use Rattle.std.specs.Prelude.{ℕ, ◌+◌, length, ◌≡◌, IsTrue, List, [], ◌∷◌, ◌++◌, All, Option, Some, None, Ok, Err}
use Rattle.std.specs.List.{flat_map}
use Rattle.fc_isa.specs.declared.insn.Insn.{Insn}
use Rattle.fc_isa.specs.declared.insn.Insn.TheVariants.{LoadWide, WideSecond}
use Rattle.fc_isa.specs.Program.{IsInsn, is_program}
use Rattle.fc_asm.specs.declared.error.Mistake.{Mistake}
use Rattle.fc_asm.specs.declared.error.AsmError.{AsmError}
use Rattle.fc_asm.specs.declared.error.AsmError.TheVariants.{Faulty, NoMemory}
use Rattle.fc_asm.specs.Names.{Text}
use Rattle.fc_asm.specs.Operands.{Reading}
use Rattle.fc_asm.specs.Listing.{listing}
use Rattle.fc_asm.specs.Syntax.{line_meaning}

-- the second slot of an instruction, which only a wide load has.
abbrev pub second_slot : Insn → Option Insn
second_slot (LoadWide dst value) = Some WideSecond
second_slot other = None

abbrev pub as_slots : Insn → List Insn
as_slots i = i ∷ option_to_list (second_slot i)

-- the slots of the instruction that a line means; none for a blank line or a mistake.
abbrev pub slots_in : Reading (Option Insn) → List Insn
slots_in (Ok (Some i)) = as_slots i
slots_in other = []

abbrev pub line_slots : Text → List Insn
line_slots line = slots_in (line_meaning line)

abbrev pub mistake_in : Reading (Option Insn) → Option Mistake
mistake_in (Ok i) = None
mistake_in (Err mistake) = Some mistake

-- no line has a mistake, and the program has the slots of the lines in order.
pub record IsAssembled (lines : List Text) (program : List Insn) : Type 0 where
  pub faultless : All (λ line. mistake_in (line_meaning line) ≡ None) lines
  pub slots : program ≡ flat_map line_slots lines

-- the line with this number, counted from 1, has the mistake, and no line before it has a mistake.
pub record IsFirstMistake (lines : List Text) (mistake : Mistake) (number : ℕ) : Type 0 where
  pub before : List Text
  pub faulty : Text
  pub after : List Text
  pub parted : lines ≡ before ++ faulty ∷ after
  pub faultless : All (λ line. mistake_in (line_meaning line) ≡ None) before
  pub counted : number ≡ length before + 1
  pub here : mistake_in (line_meaning faulty) ≡ Some mistake

abbrev pub IsAsmError : List Text → AsmError → Type 0
IsAsmError lines (Faulty mistake line) = IsFirstMistake lines mistake line
IsAsmError lines NoMemory = Unit {0}

-- the error is the mistake of this line, with this number, or a lack of memory.
abbrev pub IsLineError : Text → ℕ → AsmError → Type 0
IsLineError line number (Faulty mistake at) = (line_meaning line ≡ Err mistake) × (at ≡ number)
IsLineError line number NoMemory = Unit {0}

-- P holds for each program whose disassembly is this text.
abbrev pub ForListed : Text → (List Insn → Type 0) → Type 0
ForListed text P = (program : List Insn) → IsTrue (is_program program) → All IsInsn program → text ≡ listing program → P program
