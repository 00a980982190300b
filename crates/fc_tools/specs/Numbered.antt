-- The disassembly of a program with slot numbers.
use Rattle.std.specs.Prelude.{ℕ, ◌+◌, List, [], ◌∷◌, ◌++◌, codes}
use Rattle.std.specs.Fmt.{decimal}
use Rattle.fc_isa.specs.declared.insn.Insn.{Insn}
use Rattle.fc_isa.specs.declared.insn.Insn.TheVariants.{WideSecond}
use Rattle.fc_asm.specs.Listing.{line_of}

-- an instruction's line after its slot number; the second half of a wide load has no line.
abbrev pub numbered_line : ℕ → Insn → List ℕ
numbered_line slot WideSecond = []
numbered_line slot insn = decimal slot ++ (codes ": " ++ line_of insn)

-- the lines of a program that begins at this slot.
abbrev pub numbered_from : ℕ → List Insn → List ℕ
numbered_from slot [] = []
numbered_from slot (insn ∷ program) = numbered_line slot insn ++ numbered_from (slot + 1) program
