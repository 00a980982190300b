-- The printed form of an operand means that operand, and is a word.
use Rattle.std.proofs.Common.{◌≡◌, ℕ, zero, suc, ◌<◌, ◌≤◌, ◌^◌, true, false, cond, Ok, Err, [], ◌∷◌, ◌++◌, length, drop, get_or, lit<, lit≤, refl, ap, ◌∙◌, arith}
use Rattle.std.specs.Prelude.{ℤ, pos, negsuc, ◌==◌, FitsSigned}
use Rattle.std.specs.Fmt.{decimal, signed_decimal}
use Rattle.std.specs.Char.{is_ascii_digit}
use Rattle.std.specs.List.{list_all}
use Rattle.std.specs.Str.{all_ascii_digits}
use Rattle.std.specs.Str.Parse.{digits_value, signed_digits_value}
use Rattle.std.proofs.lemmas.Bool.{lt-ltb, leb-true, ne_eqb, and_parts, and_from, not_from_false}
use Rattle.std.proofs.lemmas.Fmt.{decimal_digit, decimal_step, decimal_nonempty, digits_decimal, digits_value-decimal}
use Rattle.std.proofs.lemmas.Str.Parse.{without_leading_plus_none}
use mir.Syntax.{Width, w16, w32}
use mir.Val.{hbits}
use lib.Signed.{mag}
use lib.IntN.{neg_ℤ}
use Rattle.fc_isa.specs.declared.insn.Operand.{Operand}
use Rattle.fc_isa.specs.declared.insn.Operand.TheVariants.{Imm, Reg}
use Rattle.fc_isa.specs.Program.{IsOperand}
use Rattle.fc_asm.specs.declared.error.Mistake.TheVariants as mistake
use Rattle.fc_asm.specs.Names.{Text}
use Rattle.fc_asm.specs.Listing.{register, operand_text}
use Rattle.fc_asm.specs.Operands.{Reading, if_ok, registers, register_from, register_or, written, target_from, is_digits, writes_number, in_range, natural, number_from, imm_from, offset_from, wide_from, operand_from, map_ok}
use Rattle.fc_asm.proofs.Numbers.{own, first_no_plus, number_yes, in_range_yes, natural_yes}
use Rattle.fc_asm.proofs.Listed.{is_plain, is_word}

-- ---- registers

name_at : ℕ → Text
name_at r = get_or registers r []

register_text : (r : ℕ) → r < 11 → register r ≡ name_at r
unfolding name_at
register_text zero h = ap (λ d. 114 ∷ d) (decimal_digit 0 (lit< tt))
register_text (suc zero) h = ap (λ d. 114 ∷ d) (decimal_digit 1 (lit< tt))
register_text (suc (suc zero)) h = ap (λ d. 114 ∷ d) (decimal_digit 2 (lit< tt))
register_text (suc (suc (suc zero))) h = ap (λ d. 114 ∷ d) (decimal_digit 3 (lit< tt))
register_text (suc (suc (suc (suc zero)))) h = ap (λ d. 114 ∷ d) (decimal_digit 4 (lit< tt))
register_text (suc (suc (suc (suc (suc zero))))) h = ap (λ d. 114 ∷ d) (decimal_digit 5 (lit< tt))
register_text (suc (suc (suc (suc (suc (suc zero)))))) h = ap (λ d. 114 ∷ d) (decimal_digit 6 (lit< tt))
register_text (suc (suc (suc (suc (suc (suc (suc zero))))))) h = ap (λ d. 114 ∷ d) (decimal_digit 7 (lit< tt))
register_text (suc (suc (suc (suc (suc (suc (suc (suc zero)))))))) h = ap (λ d. 114 ∷ d) (decimal_digit 8 (lit< tt))
register_text (suc (suc (suc (suc (suc (suc (suc (suc (suc zero))))))))) h = ap (λ d. 114 ∷ d) (decimal_digit 9 (lit< tt))
register_text (suc (suc (suc (suc (suc (suc (suc (suc (suc (suc zero)))))))))) h = ap (λ d. 114 ∷ d) (decimal_step 10 (lit≤ tt) (lit< tt) ∙ ap (λ d. d ++ 48 ∷ []) (decimal_digit 1 (lit< tt)))
register_text (suc (suc (suc (suc (suc (suc (suc (suc (suc (suc (suc r))))))))))) h = absurd (omega arith)

registers_at : (r : ℕ) → r < 11 → (register_from (name_at r) ≡ Ok r) × (is_word (name_at r) ≡ true)
unfolding register_from is_word is_plain name_at
registers_at zero h = (refl, refl)
registers_at (suc zero) h = (refl, refl)
registers_at (suc (suc zero)) h = (refl, refl)
registers_at (suc (suc (suc zero))) h = (refl, refl)
registers_at (suc (suc (suc (suc zero)))) h = (refl, refl)
registers_at (suc (suc (suc (suc (suc zero))))) h = (refl, refl)
registers_at (suc (suc (suc (suc (suc (suc zero)))))) h = (refl, refl)
registers_at (suc (suc (suc (suc (suc (suc (suc zero))))))) h = (refl, refl)
registers_at (suc (suc (suc (suc (suc (suc (suc (suc zero)))))))) h = (refl, refl)
registers_at (suc (suc (suc (suc (suc (suc (suc (suc (suc zero))))))))) h = (refl, refl)
registers_at (suc (suc (suc (suc (suc (suc (suc (suc (suc (suc zero)))))))))) h = (refl, refl)
registers_at (suc (suc (suc (suc (suc (suc (suc (suc (suc (suc (suc r))))))))))) h = absurd (omega arith)

pub register_means : (r : ℕ) → r < 11 → (register_from (register r) ≡ Ok r) × (is_word (register r) ≡ true)
register_means r h = let e = register_text r h in let at = registers_at r h in (ap register_from e ∙ at.0, ap is_word e ∙ at.1)

pub target_means : (r : ℕ) → r < 10 → target_from (register r) ≡ Ok r
target_means r h =
    ap (λ x. if_ok x written) (register_means r (omega arith)).0 ∙ ap (λ b. cond b (Ok r) (Err mistake.Operand)) (lt-ltb r 10 h)

-- ---- numbers

decimal_digits : (n : ℕ) → n < 2 ^ 64 → is_digits (decimal n) ≡ true
decimal_digits n h = and_from _ _ (lt-ltb 0 (length (decimal n)) (decimal_nonempty n h)) (digits_decimal own n h)

digit_plain : (c : ℕ) → is_ascii_digit c ≡ true → is_plain c ≡ true
unfolding is_plain
digit_plain c h =
    let low : 48 ≤ c = leb-true 48 c (and_parts _ _ h).0 in
    let high : c ≤ 57 = leb-true c 57 (and_parts _ _ h).1 in
    and_from _ _ (not_from_false _ (ne_eqb c 10 (λ e. omega arith)))
    (and_from _ _ (not_from_false _ (ne_eqb c 32 (λ e. omega arith)))
    (and_from _ _ (not_from_false _ (ne_eqb c 44 (λ e. omega arith))) (not_from_false _ (ne_eqb c 59 (λ e. omega arith)))))

digits_plain : (ds : Text) → all_ascii_digits ds ≡ true → list_all is_plain ds ≡ true
digits_plain [] h = refl
digits_plain (c ∷ cs) h = let t = and_parts _ _ h in and_from _ _ (digit_plain c t.0) (digits_plain cs t.1)

digits_word : (ds : Text) → is_digits ds ≡ true → is_word ds ≡ true
unfolding is_word
digits_word ds h = let t = and_parts _ _ h in and_from _ _ t.0 (digits_plain ds t.1)

pub decimal_word : (n : ℕ) → n < 2 ^ 64 → is_word (decimal n) ≡ true
decimal_word n h = digits_word (decimal n) (decimal_digits n h)

minus_word : (ds : Text) → is_digits ds ≡ true → is_word (45 ∷ ds) ≡ true
unfolding is_word is_plain
minus_word ds h = and_from _ _ (lt-ltb 0 (suc (length ds)) (omega arith)) (digits_plain ds (and_parts _ _ h).1)

pub signed_word : (z : ℤ) → mag z < 2 ^ 63 → is_word (signed_decimal z) ≡ true
signed_word (pos n) h = decimal_word n (omega arith)
signed_word (negsuc n) h = minus_word (decimal (suc n)) (decimal_digits (suc n) (omega arith))

-- digits don't begin with `-`
digits_no_minus : (ds : Text) → is_digits ds ≡ true → (get_or ds 0 0 == 45) ≡ false
digits_no_minus [] h = refl
digits_no_minus (c ∷ cs) h =
    let low : 48 ≤ c = leb-true 48 c (and_parts _ _ (and_parts _ _ (and_parts _ _ h).1).0).0 in
    ne_eqb c 45 (λ e. omega arith)

plain_number : (ds : Text) → is_digits ds ≡ true → writes_number ds ≡ true
plain_number ds h = ap (λ b. is_digits (cond b (drop 1 ds) ds)) (digits_no_minus ds h) ∙ h

plain_value : (ds : Text) → is_digits ds ≡ true → signed_digits_value 10 ds ≡ pos (digits_value 10 ds)
plain_value ds h =
    rw (digits_no_minus ds h) (ap (λ t. pos (digits_value 10 t)) (without_leading_plus_none ds (first_no_plus ds h)))

-- parsing a printed number gives that number
number_means : {A : Type 0} (f : ℤ → Reading A) (z : ℤ) → mag z < 2 ^ 63 → if_ok (number_from (signed_decimal z)) f ≡ f z
number_means f (pos n) h =
    let d = decimal_digits n (omega arith) in
    number_yes (decimal n) f (plain_number (decimal n) d) ∙ ap f (plain_value (decimal n) d ∙ ap pos (digits_value-decimal own n (omega arith)))
number_means f (negsuc n) h =
    number_yes (45 ∷ decimal (suc n)) f (decimal_digits (suc n) (omega arith)) ∙ ap (λ x. f (neg_ℤ (pos x))) (digits_value-decimal own (suc n) (omega arith))

fits_mag : (w : Width) (z : ℤ) → FitsSigned w z → mag z < 2 ^ hbits w
fits_mag w z h = h.sfits

pub imm_means : (z : ℤ) → FitsSigned w32 z → (imm_from (signed_decimal z) ≡ Ok z) × (is_word (signed_decimal z) ≡ true)
unfolding imm_from
imm_means z h =
    let m : mag z < 2 ^ 31 = fits_mag w32 z h in
    (number_means (in_range 31) z (omega arith) ∙ in_range_yes w32 z h, signed_word z (omega arith))

pub offset_means : (z : ℤ) → FitsSigned w16 z → (offset_from (signed_decimal z) ≡ Ok z) × (is_word (signed_decimal z) ≡ true)
unfolding offset_from
offset_means z h =
    let m : mag z < 2 ^ 15 = fits_mag w16 z h in
    (number_means (in_range 15) z (omega arith) ∙ in_range_yes w16 z h, signed_word z (omega arith))

pub wide_means : (n : ℕ) → n < 2 ^ 64 → (wide_from (decimal n) ≡ Ok n) × (is_word (decimal n) ≡ true)
unfolding wide_from
wide_means n h =
    let d = decimal_digits n h in
    (number_yes (decimal n) natural (plain_number (decimal n) d) ∙ ap natural (plain_value (decimal n) d ∙ ap pos (digits_value-decimal own n h)) ∙ natural_yes n h, decimal_word n h)

-- ---- a register or a number

no_register : (c : ℕ) (cs : Text) → (114 == c) ≡ false → register_from (c ∷ cs) ≡ Err mistake.Operand
unfolding register_from
no_register c cs e = rw e refl

digits_no_register : (ds : Text) → is_digits ds ≡ true → register_from ds ≡ Err mistake.Operand
digits_no_register [] h = absurd (cc h)
digits_no_register (c ∷ cs) h =
    let high : c ≤ 57 = leb-true c 57 (and_parts _ _ (and_parts _ _ (and_parts _ _ h).1).0).1 in
    no_register c cs (ne_eqb 114 c (λ e. omega arith))

signed_no_register : (z : ℤ) → mag z < 2 ^ 63 → register_from (signed_decimal z) ≡ Err mistake.Operand
signed_no_register (pos n) h = digits_no_register (decimal n) (decimal_digits n (omega arith))
signed_no_register (negsuc n) h = no_register 45 (decimal (suc n)) refl

pub operand_means : (o : Operand) → IsOperand o → (operand_from (operand_text o) ≡ Ok o) × (is_word (operand_text o) ≡ true)
operand_means (Reg r) h = let m = register_means r h in (ap (λ x. register_or x (imm_from (register r))) m.0, m.1)
operand_means (Imm k) h =
    let m = imm_means k h in
    let small : mag k < 2 ^ 31 = fits_mag w32 k h in
    (ap (λ x. register_or x (imm_from (signed_decimal k))) (signed_no_register k (omega arith)) ∙ ap (map_ok Imm) m.0, m.1)
