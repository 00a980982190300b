-- The number that the digits of a word represent.
use Rattle.std.proofs.Common.{◌≡◌, ◌≢◌, ◌⊎◌, inl, inr, ℕ, zero, suc, ◌<◌, ◌≤◌, ◌^◌, Bool, true, false, cond, ◌&&◌, Result, Ok, Err, List, [], ◌∷◌, drop, get_or, refl, sym, ap, subst, ◌∙◌, arith}
use Rattle.std.specs.Prelude.{ℤ, pos, negsuc, ◌==◌, FitsSigned}
use Rattle.std.specs.Char.{is_ascii_digit}
use Rattle.std.specs.List.{list_all}
use Rattle.std.specs.Str.{all_ascii_digits}
use Rattle.std.specs.Str.Parse.{IsNumeral, digits_value, signed_digits_value, without_leading_plus, without_leading_sign, ParsesSigned, ParsesUnsigned}
use Rattle.std.proofs.lemmas.Bool.{lt-ltb, le-ltb, ltb-true, leb-true, ne_eqb, and_parts, cond-true, cond-false, cases_lt}
use Rattle.std.proofs.lemmas.Str.Parse.{IsNumeralModel, numerals_by_value, tells_all_ascii_digits, without_leading_plus_none}
use mir.Syntax.{Width, w16, w32}
use mir.Val.{hbits}
use lib.IntN.{neg_ℤ}
use Rattle.fc_asm.specs.declared.error.Mistake.TheVariants.{Operand, OutOfRange}
use Rattle.fc_asm.specs.Operands.{Reading, if_ok, is_digits, writes_number, within, in_range, natural, number_from, imm_from, offset_from, wide_from}

-- testing each byte for a digit is testing whether all bytes are digits
pub list_all-digits : (ds : List ℕ) → list_all is_ascii_digit ds ≡ all_ascii_digits ds
list_all-digits [] = refl
list_all-digits (c ∷ cs) = ap (λ b. is_ascii_digit c && b) (list_all-digits cs)

pub own : IsNumeralModel (λ ds. all_ascii_digits ds ≡ true) (digits_value 10)
own = numerals_by_value _ tells_all_ascii_digits

digits_numeral : (ds : List ℕ) → is_digits ds ≡ true → IsNumeral 10 ds
digits_numeral ds h = let p = and_parts _ _ h in (ltb-true _ _ p.0, own.to ds p.1)

pub first_no_plus : (bs : List ℕ) → is_digits bs ≡ true → get_or bs 0 0 ≢ 43
first_no_plus [] h e = absurd (omega arith)
first_no_plus (c ∷ cs) h e =
    let digit = (and_parts _ _ (and_parts _ _ (and_parts _ _ h).1).0).0 in
    absurd (omega (arith, leb-true 48 c digit))

numeral_at : (bs : List ℕ) (minus : Bool) → is_digits (cond minus (drop 1 bs) bs) ≡ true → IsNumeral 10 (cond minus (drop 1 bs) (without_leading_plus bs))
numeral_at bs true h = digits_numeral (drop 1 bs) h
numeral_at bs false h = subst (λ ds. IsNumeral 10 ds) (sym (without_leading_plus_none bs (first_no_plus bs h))) (digits_numeral bs h)

-- without its sign, a word that represents a number is a numeral
pub number_numeral : (bs : List ℕ) → writes_number bs ≡ true → IsNumeral 10 (without_leading_sign bs)
number_numeral bs h = numeral_at bs (get_or bs 0 0 == 45) h

-- ---- ranges

pub within_fits : (w : Width) (z : ℤ) → FitsSigned w z → within (hbits w) z ≡ true
within_fits w (pos n) h = lt-ltb n (2 ^ hbits w) h.sfits
within_fits w (negsuc n) h = lt-ltb n (2 ^ hbits w) h.sfits

fits_within : (w : Width) (z : ℤ) → within (hbits w) z ≡ true → FitsSigned w z
fits_within w (pos n) h = record { sfits = ltb-true n (2 ^ hbits w) h }
fits_within w (negsuc n) h = record { sfits = ltb-true n (2 ^ hbits w) h }

pub number_yes : {A : Type 0} (bs : List ℕ) (f : ℤ → Reading A) → writes_number bs ≡ true → if_ok (number_from bs) f ≡ f (signed_digits_value 10 bs)
number_yes bs f h = ap (λ r. if_ok r f) (cond-true _ (Ok (signed_digits_value 10 bs)) (Err Operand) h)

number_no : {A : Type 0} (bs : List ℕ) (f : ℤ → Reading A) → writes_number bs ≡ false → if_ok (number_from bs) f ≡ Err Operand
number_no bs f h = ap (λ r. if_ok r f) (cond-false _ (Ok (signed_digits_value 10 bs)) (Err Operand) h)

pub in_range_yes : (w : Width) (z : ℤ) → FitsSigned w z → in_range (hbits w) z ≡ Ok z
in_range_yes w z h = cond-true _ (Ok z) (Err OutOfRange) (within_fits w z h)

in_range_at : (w : Width) (z : ℤ) (b : Bool) → within (hbits w) z ≡ b → (FitsSigned w z → ⊥) → in_range (hbits w) z ≡ Err OutOfRange
in_range_at w z true e h = absurd (h (fits_within w z e))
in_range_at w z false e h = cond-false _ (Ok z) (Err OutOfRange) e

-- if `parse` gives a value for a word that represents a number, the value is that number, and is in
-- the range
parsed : {E : Type 0} (w : Width) (bs : List ℕ) (r : Result ℤ E) (v : ℤ) → writes_number bs ≡ true → ParsesSigned w 10 bs r → r ≡ Ok v → if_ok (number_from bs) (in_range (hbits w)) ≡ Ok v
parsed w bs (Ok x) v n h e = number_yes bs (in_range (hbits w)) n ∙ in_range_yes w _ h.0.1 ∙ ap Ok (sym h.1) ∙ cc
parsed w bs (Err x) v n h e = absurd (cc e)

unparsed : {E : Type 0} (w : Width) (bs : List ℕ) (r : Result ℤ E) (x : E) → writes_number bs ≡ true → ParsesSigned w 10 bs r → r ≡ Err x → if_ok (number_from bs) (in_range (hbits w)) ≡ Err OutOfRange
unparsed w bs (Ok y) x n h e = absurd (cc e)
unparsed w bs (Err y) x n h e = number_yes bs (in_range (hbits w)) n ∙ in_range_at w _ _ refl (λ f. h (number_numeral bs n, f))

-- ---- `imm` and `offset`

pub imm_no : (bs : List ℕ) → writes_number bs ≡ false → imm_from bs ≡ Err Operand
unfolding imm_from
imm_no bs h = number_no bs (in_range 31) h

pub imm_parsed : {E : Type 0} (bs : List ℕ) (r : Result ℤ E) (v : ℤ) → writes_number bs ≡ true → ParsesSigned w32 10 bs r → r ≡ Ok v → imm_from bs ≡ Ok v
unfolding imm_from
imm_parsed bs r v = parsed w32 bs r v

pub imm_unparsed : {E : Type 0} (bs : List ℕ) (r : Result ℤ E) (x : E) → writes_number bs ≡ true → ParsesSigned w32 10 bs r → r ≡ Err x → imm_from bs ≡ Err OutOfRange
unfolding imm_from
imm_unparsed bs r x = unparsed w32 bs r x

pub offset_no : (bs : List ℕ) → writes_number bs ≡ false → offset_from bs ≡ Err Operand
unfolding offset_from
offset_no bs h = number_no bs (in_range 15) h

pub offset_parsed : {E : Type 0} (bs : List ℕ) (r : Result ℤ E) (v : ℤ) → writes_number bs ≡ true → ParsesSigned w16 10 bs r → r ≡ Ok v → offset_from bs ≡ Ok v
unfolding offset_from
offset_parsed bs r v = parsed w16 bs r v

pub offset_unparsed : {E : Type 0} (bs : List ℕ) (r : Result ℤ E) (x : E) → writes_number bs ≡ true → ParsesSigned w16 10 bs r → r ≡ Err x → offset_from bs ≡ Err OutOfRange
unfolding offset_from
offset_unparsed bs r x = unparsed w16 bs r x

-- ---- `wide`

pub wide_no : (bs : List ℕ) → writes_number bs ≡ false → wide_from bs ≡ Err Operand
unfolding wide_from
wide_no bs h = number_no bs natural h

-- a `-` before digits negates the number of the digits
minus_yes : (ds : List ℕ) → signed_digits_value 10 (45 ∷ ds) ≡ neg_ℤ (pos (digits_value 10 ds))
minus_yes ds = refl

minus_no : (bs : List ℕ) → ((rest : List ℕ) → bs ≢ 45 ∷ rest) → (get_or bs 0 0 == 45) ≡ false
minus_no [] h = refl
minus_no (c ∷ cs) h = ne_eqb c 45 (λ e. h cs (ap (λ x. x ∷ cs) e))

value_at : (bs : List ℕ) (minus : Bool) → (get_or bs 0 0 == 45) ≡ minus → signed_digits_value 10 bs ≡ cond minus (neg_ℤ (pos (digits_value 10 (drop 1 bs)))) (pos (digits_value 10 (without_leading_plus bs)))
value_at bs true e = rw e refl
value_at bs false e = rw e refl

pub natural_yes : (n : ℕ) → n < 2 ^ 64 → natural (pos n) ≡ Ok n
natural_yes n h = cond-true _ (Ok n) (Err OutOfRange) (lt-ltb n (2 ^ 64) h)

natural_no : (n : ℕ) → (n < 2 ^ 64) ⊎ (2 ^ 64 ≤ n) → (n < 2 ^ 64 → ⊥) → natural (pos n) ≡ Err OutOfRange
natural_no n (inl l) h = absurd (h l)
natural_no n (inr l) h = cond-false _ (Ok n) (Err OutOfRange) (le-ltb n (2 ^ 64) l)

natural_minus : (n : ℕ) → n ≢ 0 → natural (neg_ℤ (pos n)) ≡ Err OutOfRange
natural_minus zero h = absurd (h refl)
natural_minus (suc n) h = refl

wide_plain : (bs : List ℕ) → writes_number bs ≡ true → ((rest : List ℕ) → bs ≢ 45 ∷ rest) → if_ok (number_from bs) natural ≡ natural (pos (digits_value 10 (without_leading_plus bs)))
wide_plain bs n h = number_yes bs natural n ∙ ap natural (value_at bs false (minus_no bs h))

plain_numeral : (bs : List ℕ) → writes_number bs ≡ true → ((rest : List ℕ) → bs ≢ 45 ∷ rest) → IsNumeral 10 (without_leading_plus bs)
plain_numeral bs n h = subst (λ b. IsNumeral 10 (cond b (drop 1 bs) (without_leading_plus bs))) (minus_no bs h) (number_numeral bs n)

plain_parsed : {E : Type 0} (bs : List ℕ) (r : Result ℕ E) (v : ℕ) → writes_number bs ≡ true → ((rest : List ℕ) → bs ≢ 45 ∷ rest) → ParsesUnsigned 64 10 bs r → r ≡ Ok v → if_ok (number_from bs) natural ≡ Ok v
plain_parsed bs (Ok x) v n m h e = wide_plain bs n m ∙ natural_yes _ h.0.1 ∙ ap Ok (sym h.1) ∙ cc
plain_parsed bs (Err x) v n m h e = absurd (cc e)

plain_unparsed : {E : Type 0} (bs : List ℕ) (r : Result ℕ E) (x : E) → writes_number bs ≡ true → ((rest : List ℕ) → bs ≢ 45 ∷ rest) → ParsesUnsigned 64 10 bs r → r ≡ Err x → if_ok (number_from bs) natural ≡ Err OutOfRange
plain_unparsed bs (Ok y) x n m h e = absurd (cc e)
plain_unparsed bs (Err y) x n m h e = wide_plain bs n m ∙ natural_no _ (cases_lt _ (2 ^ 64)) (λ l. h (plain_numeral bs n m, l))

-- after a `-`, a word that represents a number has only digits
minus_digits : (ds : List ℕ) → writes_number (45 ∷ ds) ≡ true → is_digits ds ≡ true
minus_digits ds h = h

minus_value : (ds : List ℕ) → writes_number (45 ∷ ds) ≡ true → if_ok (number_from (45 ∷ ds)) natural ≡ natural (neg_ℤ (pos (digits_value 10 (without_leading_plus ds))))
minus_value ds n = number_yes (45 ∷ ds) natural n ∙ ap (λ x. natural (neg_ℤ (pos (digits_value 10 x)))) (sym (without_leading_plus_none ds (first_no_plus ds n)))

minus_numeral : (ds : List ℕ) → writes_number (45 ∷ ds) ≡ true → IsNumeral 10 (without_leading_plus ds)
minus_numeral ds n = subst (λ x. IsNumeral 10 x) (sym (without_leading_plus_none ds (first_no_plus ds n))) (digits_numeral ds n)

minus_parsed : {E : Type 0} (ds : List ℕ) (r : Result ℕ E) (v : ℕ) → writes_number (45 ∷ ds) ≡ true → ParsesUnsigned 64 10 ds r → r ≡ Ok v → if_ok (number_from (45 ∷ ds)) natural ≡ natural (neg_ℤ (pos v))
minus_parsed ds (Ok x) v n h e = minus_value ds n ∙ ap (λ y. natural (neg_ℤ (pos y))) (sym h.1 ∙ cc)
minus_parsed ds (Err x) v n h e = absurd (cc e)

minus_unparsed : {E : Type 0} (ds : List ℕ) (r : Result ℕ E) (x : E) → writes_number (45 ∷ ds) ≡ true → ParsesUnsigned 64 10 ds r → r ≡ Err x → if_ok (number_from (45 ∷ ds)) natural ≡ Err OutOfRange
minus_unparsed ds (Ok y) x n h e = absurd (cc e)
minus_unparsed ds (Err y) x n h e = minus_value ds n ∙ natural_minus _ (λ z. h (minus_numeral ds n, omega (arith, z)))

pub wide_parsed : {E : Type 0} (bs : List ℕ) (r : Result ℕ E) (v : ℕ) → writes_number bs ≡ true → ((rest : List ℕ) → bs ≢ 45 ∷ rest) → ParsesUnsigned 64 10 bs r → r ≡ Ok v → wide_from bs ≡ Ok v
unfolding wide_from
wide_parsed bs r v = plain_parsed bs r v

pub wide_unparsed : {E : Type 0} (bs : List ℕ) (r : Result ℕ E) (x : E) → writes_number bs ≡ true → ((rest : List ℕ) → bs ≢ 45 ∷ rest) → ParsesUnsigned 64 10 bs r → r ≡ Err x → wide_from bs ≡ Err OutOfRange
unfolding wide_from
wide_unparsed bs r x = plain_unparsed bs r x

pub wide_minus_zero : {E : Type 0} (bs ds : List ℕ) (r : Result ℕ E) → bs ≡ 45 ∷ ds → writes_number bs ≡ true → ParsesUnsigned 64 10 ds r → r ≡ Ok 0 → wide_from bs ≡ Ok 0
unfolding wide_from
wide_minus_zero bs ds r b n h e = ap (λ x. if_ok (number_from x) natural) b ∙ minus_parsed ds r 0 (sym (ap writes_number b) ∙ n) h e

pub wide_minus : {E : Type 0} (bs ds : List ℕ) (r : Result ℕ E) (v : ℕ) → bs ≡ 45 ∷ ds → writes_number bs ≡ true → ParsesUnsigned 64 10 ds r → r ≡ Ok v → v ≢ 0 → wide_from bs ≡ Err OutOfRange
unfolding wide_from
wide_minus bs ds r v b n h e z = ap (λ x. if_ok (number_from x) natural) b ∙ minus_parsed ds r v (sym (ap writes_number b) ∙ n) h e ∙ natural_minus v z

pub wide_minus_unparsed : {E : Type 0} (bs ds : List ℕ) (r : Result ℕ E) (x : E) → bs ≡ 45 ∷ ds → writes_number bs ≡ true → ParsesUnsigned 64 10 ds r → r ≡ Err x → wide_from bs ≡ Err OutOfRange
unfolding wide_from
wide_minus_unparsed bs ds r x b n h e = ap (λ x. if_ok (number_from x) natural) b ∙ minus_unparsed ds r x (sym (ap writes_number b) ∙ n) h e
