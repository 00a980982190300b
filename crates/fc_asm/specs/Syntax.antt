-- The meaning of a source text with one instruction on each line.
use Rattle.std.specs.Prelude.{◌==◌, nat_lt, List, [], ◌∷◌, length, filter, Option, Some, None, Ok, Err}
use Rattle.std.specs.List.{slice_split, before_first, flat_map}
use Rattle.fc_isa.specs.declared.insn.Insn.{Insn}
use Rattle.fc_isa.specs.declared.insn.Insn.TheVariants.{Alu, Unary, SignExtend, LoadWide, Load, StoreImm, Store, JumpAlways, JumpAlwaysLong, JumpIf, CallHelper, CallLocal, Exit}
use Rattle.fc_asm.specs.declared.error.Mistake.TheVariants.{UnknownWord, Operand}
use Rattle.fc_asm.specs.declared.mnemonic.Mnemonic.{Mnemonic}
use Rattle.fc_asm.specs.declared.mnemonic.Mnemonic.TheVariants as mnemonic
use Rattle.fc_asm.specs.Names.{Text, mnemonic_named}
use Rattle.fc_asm.specs.Operands.{Reading, map_ok, if_ok, both_of, target_from, register_from, imm_from, offset_from, wide_from, operand_from, extension_from}

-- the lines of a text, which line feeds separate.
unfoldable pub lines_of : Text → List Text
lines_of text = slice_split (λ b. b == 10) text

-- the part of a line before the first `;`.
abbrev pub before_comment : Text → Text
before_comment line = before_first (λ b. b == 59) line

-- the words of a part of a line, which commas separate. An empty text isn't a word.
abbrev pub split_commas : Text → List Text
split_commas part = filter (λ word. nat_lt 0 (length word)) (slice_split (λ b. b == 44) part)

-- the words of a line without a comment, which spaces and commas separate.
abbrev pub split_words : Text → List Text
split_words code = flat_map split_commas (slice_split (λ b. b == 32) code)

-- the words of a line.
unfoldable pub words_of : Text → List Text
words_of line = split_words (before_comment line)

-- the operands of a line, if there is exactly one; if there are two; if there are three.
abbrev pub one_of : List Text → Reading Text
one_of (a ∷ []) = Ok a
one_of other = Err Operand

abbrev pub two_of : List Text → Reading (Text × Text)
two_of (a ∷ b ∷ []) = Ok (a, b)
two_of other = Err Operand

abbrev pub three_of : List Text → Reading (Text × Text × Text)
three_of (a ∷ b ∷ c ∷ []) = Ok (a, b, c)
three_of other = Err Operand

-- an instruction with one operand, with two, or with three.
abbrev pub of_one : {A : Type 0} → (A → Insn) → (Text → Reading A) → List Text → Reading Insn
of_one make a operands = if_ok (one_of operands) (λ word. map_ok make (a word))

abbrev pub of_two : {A B : Type 0} → (A → B → Insn) → (Text → Reading A) → (Text → Reading B) → List Text → Reading Insn
of_two make a b operands = if_ok (two_of operands) (λ words. map_ok (λ p. make p.0 p.1) (both_of (a words.0) (b words.1)))

abbrev pub of_three : {A B C : Type 0} → (A → B → C → Insn) → (Text → Reading A) → (Text → Reading B) → (Text → Reading C) → List Text → Reading Insn
of_three make a b c operands = if_ok (three_of operands) (λ words. map_ok (λ p. make p.0.0 p.0.1 p.1) (both_of (both_of (a words.0) (b words.1)) (c words.2)))

-- an instruction without operands.
abbrev pub of_none : Insn → List Text → Reading Insn
of_none insn [] = Ok insn
of_none insn other = Err Operand

-- the instruction with a mnemonic and its operands.
abbrev pub insn_from : Mnemonic → List Text → Reading Insn
insn_from (mnemonic.Alu op width) = of_two (λ dst operand. Alu op width dst operand) target_from operand_from
insn_from (mnemonic.Unary op) = of_one (λ dst. Unary op dst) target_from
insn_from (mnemonic.SignExtend width) = of_three (λ dst src extension. SignExtend extension dst src) target_from register_from (extension_from width)
insn_from mnemonic.LoadWide = of_two (λ dst value. LoadWide dst value) target_from wide_from
insn_from (mnemonic.Load loaded) = of_three (λ dst base offset. Load loaded dst base offset) target_from register_from offset_from
insn_from (mnemonic.StoreImm size) = of_three (λ base offset imm. StoreImm size base offset imm) register_from offset_from imm_from
insn_from (mnemonic.Store size) = of_three (λ base offset src. Store size base offset src) register_from offset_from register_from
insn_from mnemonic.JumpAlways = of_one (λ offset. JumpAlways offset) offset_from
insn_from mnemonic.JumpAlwaysLong = of_one (λ offset. JumpAlwaysLong offset) imm_from
insn_from (mnemonic.JumpIf relation width) = of_three (λ left right offset. JumpIf (record { width = width; relation = relation; left = left; right = right; offset = offset })) register_from operand_from offset_from
insn_from mnemonic.CallHelper = of_one (λ number. CallHelper number) imm_from
insn_from mnemonic.CallLocal = of_one (λ offset. CallLocal offset) imm_from
insn_from mnemonic.Exit = of_none Exit

abbrev pub named : Option Mnemonic → List Text → Reading (Option Insn)
named None operands = Err UnknownWord
named (Some mnemonic) operands = map_ok (λ i. Some i) (insn_from mnemonic operands)

-- the instruction in the words of a line; a blank line has none.
abbrev pub meaning : List Text → Reading (Option Insn)
meaning [] = Ok None
meaning (name ∷ operands) = named (mnemonic_named name) operands

unfoldable pub line_meaning : Text → Reading (Option Insn)
line_meaning line = meaning (words_of line)
