-- The meaning of a word as an operand.
use Rattle.std.specs.Prelude.{ℕ, ℤ, pos, negsuc, ◌^◌, ◌==◌, ◌&&◌, Bool, nat_lt, if◌then◌else◌, List, [], ◌∷◌, length, drop, slice_index, Result, Ok, Err, codes}
use Rattle.std.specs.List.{position}
use Rattle.std.specs.Option.{ok_or}
use Rattle.std.specs.Str.{bytes_eq, all_ascii_digits}
use Rattle.std.specs.Str.Parse.{signed_digits_value}
use Rattle.fc_isa.specs.declared.insn.Operand.{Operand}
use Rattle.fc_isa.specs.declared.insn.Operand.TheVariants.{Imm, Reg}
use Rattle.fc_isa.specs.declared.insn.SignExtension.{SignExtension}
use Rattle.fc_isa.specs.declared.insn.SignExtension.TheVariants.{Byte, HalfWord, Word}
use Rattle.fc_isa.specs.declared.insn.Width.{Width}
use Rattle.fc_isa.specs.declared.insn.Width.TheVariants.{W32, W64}
use Rattle.fc_asm.specs.declared.error.Mistake.{Mistake}
use Rattle.fc_asm.specs.declared.error.Mistake.TheVariants.{OutOfRange}
use Rattle.fc_asm.specs.declared.error.Mistake.TheVariants as mistake
use Rattle.fc_asm.specs.Names.{Text}

-- the result of parsing a word.
abbrev pub Reading : Type 0 → Type 0
Reading A = Result A Mistake

abbrev pub map_ok : {A B : Type 0} → (A → B) → Reading A → Reading B
map_ok f (Ok a) = Ok (f a)
map_ok f (Err e) = Err e

abbrev pub if_ok : {A B : Type 0} → Reading A → (A → Reading B) → Reading B
if_ok (Ok a) f = f a
if_ok (Err e) f = Err e

-- the mistake that is reported first; an operand's mistake is never `UnknownWord`.
abbrev pub graver : Mistake → Mistake → Mistake
graver OutOfRange other = other
graver first other = first

-- both values, or the mistake that is reported first.
abbrev pub both_of : {A B : Type 0} → Reading A → Reading B → Reading (A × B)
both_of (Ok a) (Ok b) = Ok (a, b)
both_of (Ok a) (Err f) = Err f
both_of (Err e) (Ok b) = Err e
both_of (Err e) (Err f) = Err (graver e f)

-- the register names, each at its number.
abbrev pub registers : List Text
registers = codes "r0" ∷ codes "r1" ∷ codes "r2" ∷ codes "r3" ∷ codes "r4" ∷ codes "r5" ∷ codes "r6" ∷ codes "r7" ∷ codes "r8" ∷ codes "r9" ∷ codes "r10" ∷ []

unfoldable pub register_from : Text → Reading ℕ
register_from word = ok_or (position (λ name. bytes_eq name word) registers) mistake.Operand

-- the register, if it is writable: R10 isn't.
abbrev pub written : ℕ → Reading ℕ
written r = if nat_lt r 10 then Ok r else Err mistake.Operand

abbrev pub target_from : Text → Reading ℕ
target_from word = if_ok (register_from word) written

-- the text is one or more decimal digits.
abbrev pub is_digits : Text → Bool
is_digits digits = nat_lt 0 (length digits) && all_ascii_digits digits

-- the word is digits, with or without a leading `-`.
abbrev pub writes_number : Text → Bool
writes_number word = is_digits (if slice_index word 0 == 45 then drop 1 word else word)

-- a number is from -2^k to 2^k - 1.
abbrev pub within : ℕ → ℤ → Bool
within k (pos n) = nat_lt n (2 ^ k)
within k (negsuc n) = nat_lt n (2 ^ k)

abbrev pub in_range : ℕ → ℤ → Reading ℤ
in_range k z = if within k z then Ok z else Err OutOfRange

-- a number, if it is from 0 to 2^64 - 1.
abbrev pub natural : ℤ → Reading ℕ
natural (pos n) = if nat_lt n (2 ^ 64) then Ok n else Err OutOfRange
natural (negsuc n) = Err OutOfRange

-- the number that a word represents; the word may have any length.
abbrev pub number_from : Text → Reading ℤ
number_from word = if writes_number word then Ok (signed_digits_value 10 word) else Err mistake.Operand

unfoldable pub imm_from : Text → Reading ℤ
imm_from word = if_ok (number_from word) (in_range 31)

unfoldable pub offset_from : Text → Reading ℤ
offset_from word = if_ok (number_from word) (in_range 15)

unfoldable pub wide_from : Text → Reading ℕ
wide_from word = if_ok (number_from word) natural

-- a register, or else an immediate.
abbrev pub register_or : Reading ℕ → Reading ℤ → Reading Operand
register_or (Ok r) number = Ok (Reg r)
register_or (Err e) number = map_ok Imm number

abbrev pub operand_from : Text → Reading Operand
operand_from word = register_or (register_from word) (imm_from word)

-- 8 and 16 bits are extended to both widths, and 32 bits to 64 only.
abbrev pub word_to : Width → Reading SignExtension
word_to W64 = Ok Word
word_to W32 = Err OutOfRange

abbrev pub extended : Width → ℤ → Reading SignExtension
extended width (pos n) = if n == 8 then Ok (Byte width) else (if n == 16 then Ok (HalfWord width) else (if n == 32 then word_to width else Err OutOfRange))
extended width (negsuc n) = Err OutOfRange

abbrev pub extension_from : Width → Text → Reading SignExtension
extension_from width word = if_ok (imm_from word) (extended width)
