-- The printed form of a mistake.
use Rattle.std.specs.Prelude.{ℕ, ◌++◌, List, codes}
use Rattle.std.specs.Fmt.{decimal}
use Rattle.fc_asm.specs.declared.error.Mistake.{Mistake}
use Rattle.fc_asm.specs.declared.error.Mistake.TheVariants.{UnknownWord, Operand, OutOfRange}
use Rattle.fc_asm.specs.declared.error.AsmError.{AsmError}
use Rattle.fc_asm.specs.declared.error.AsmError.TheVariants.{Faulty, NoMemory}

abbrev pub mistake_text : Mistake → List ℕ
mistake_text UnknownWord = codes "A1"
mistake_text Operand = codes "A2"
mistake_text OutOfRange = codes "A3"

abbrev pub error_text : AsmError → List ℕ
error_text (Faulty mistake line) = mistake_text mistake ++ (codes " line " ++ decimal line)
error_text NoMemory = codes "out of memory"
