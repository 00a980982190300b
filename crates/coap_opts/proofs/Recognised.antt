-- Recognition of options, from the rows of the table.
use Rattle.std.proofs.Common.{◌≡◌, ◌≢◌, ℕ, zero, suc, ◌<◌, ◌≤◌, ◌==◌, ◌&&◌, ◌||◌, not, Bool, true, false, cond, nat_le, nat_lt, List, [], ◌∷◌, length, Option, Some, None, IfSome, refl, sym, ap, ◌∙◌, arith}
use Rattle.std.specs.List.{All, find, list_all, position, position_or_len, slice_get, slice_index_or}
use Rattle.std.proofs.lemmas.Bool.{and_from, and_parts, eq-eqb, eqb-true, leb-true, ltb-false, ltb-true, ne_eqb}
use Rattle.std.proofs.lemmas.Bool.Decides.{nat_tests}
use Rattle.std.proofs.lemmas.List.Folds.{find_at, list_all_at}
use Rattle.std.proofs.lemmas.List.Quantifiers.{position-Some}
use Rattle.std.proofs.lemmas.List.Sums.{position_or_len_is}
use Rattle.std.proofs.lemmas.Option.{slice_get-get_or, slice_get_past}
use Rattle.coap_msg.specs.declared.code.Code.{Code}
use Rattle.coap_opts.specs.declared.served.Row.{Row}
use Rattle.coap_opts.specs.Checks.{IsAllowed}
use Rattle.coap_opts.specs.Recognition.{fits, fits_row, is_defined_for, is_recognised, is_repeat, row_place, row_of}
use Rattle.coap_opts.specs.Served.{rows}

-- ---- an option that fits its row

no_repeat : (before : Option ℕ) (n : ℕ) → not (is_repeat before n) ≡ true → before ≢ Some n
no_repeat None n e = λ is. absurd (cc is)
no_repeat (Some b) n e = λ is. let same : b ≡ n = cc is in absurd (cc (e, eq-eqb b n same))

is_first : (before : Option ℕ) (n : ℕ) → before ≢ Some n → not (is_repeat before n) ≡ true
is_first None n ne = refl
is_first (Some b) n ne = ap not (ne_eqb b n (λ same. ne (ap (λ (x : ℕ). Some x) same)))

first_of_fits : (repeatable : Bool) (before : Option ℕ) (n : ℕ) → (repeatable || not (is_repeat before n)) ≡ true → repeatable ≡ false → before ≢ Some n
first_of_fits true before n e once = absurd (cc once)
first_of_fits false before n e once = no_repeat before n e

fits_if_first : (repeatable : Bool) (before : Option ℕ) (n : ℕ) → (repeatable ≡ false → before ≢ Some n) → (repeatable || not (is_repeat before n)) ≡ true
fits_if_first true before n first = refl
fits_if_first false before n first = is_first before n (first refl)

method_of_fits : (only : Option Code) (code : ℕ) → is_defined_for only code ≡ true → IfSome only (λ method. code ≡ method.byte)
method_of_fits None code e = tt
method_of_fits (Some method) code e = sym (eqb-true method.byte code e)

fits_if_method : (only : Option Code) (code : ℕ) → IfSome only (λ method. code ≡ method.byte) → is_defined_for only code ≡ true
fits_if_method None code w = refl
fits_if_method (Some method) code w = eq-eqb method.byte code (sym w)

at_most : (a b : ℕ) → a ≤ b → nat_le a b ≡ true
at_most a b le = grind (arith, nat_tests, le)

allowed_of : (r : Row) (code count : ℕ) (before : Option ℕ) → fits r code before count ≡ true → IsAllowed r code before count
allowed_of r code count before e =
    let a = and_parts (nat_le r.least count && nat_le count r.greatest) (is_defined_for r.only code && (r.repeatable || not (is_repeat before r.number))) e in
    let b = and_parts (nat_le r.least count) (nat_le count r.greatest) a.0 in
    let d = and_parts (is_defined_for r.only code) (r.repeatable || not (is_repeat before r.number)) a.1 in
    record {
      least = leb-true r.least count b.0;
      greatest = leb-true count r.greatest b.1;
      method = method_of_fits r.only code d.0;
      first = first_of_fits r.repeatable before r.number d.1;
    }

fits_allowed : (r : Row) (code count : ℕ) (before : Option ℕ) → IsAllowed r code before count → fits r code before count ≡ true
fits_allowed r code count before w =
    and_from (nat_le r.least count && nat_le count r.greatest) (is_defined_for r.only code && (r.repeatable || not (is_repeat before r.number)))
    (and_from (nat_le r.least count) (nat_le count r.greatest) (at_most r.least count w.least) (at_most count r.greatest w.greatest))
    (and_from (is_defined_for r.only code) (r.repeatable || not (is_repeat before r.number)) (fits_if_method r.only code w.method)
    (fits_if_first r.repeatable before r.number w.first))

-- ---- the row of a number

-- each number is less than the numbers of the rows below it
abbrev are_increasing : List Row → Bool
are_increasing [] = true
are_increasing (r ∷ list) = list_all (λ s. nat_lt r.number s.number) list && are_increasing list

rows_are_increasing : are_increasing rows ≡ true
unfolding rows
rows_are_increasing = refl

passes_at : (test : Row → Bool) (list : List Row) (k : ℕ) (d : Row) (b : Bool) → list_all test list ≡ true → k < length list → test (slice_index_or list k d) ≡ b → b ≡ true
passes_at test list k d true e lt is = refl
passes_at test list k d false e lt is = absurd (cc (e, list_all_at test list k d lt is))

-- in such a list, each row is the first with its number
found_in : (list : List Row) (k : ℕ) (d : Row) → are_increasing list ≡ true → k < length list
    → find (λ r. r.number == (slice_index_or list k d).number) list ≡ Some (slice_index_or list k d)
found_in [] k d e lt = absurd (omega (arith, lt))
found_in (r ∷ list) zero d e lt = ap (λ (b : Bool). cond b (Some r) (find (λ s. s.number == r.number) list)) (eq-eqb r.number r.number refl)
found_in (r ∷ list) (suc k) d e lt =
    let s = slice_index_or list k d in
    let p = and_parts (list_all (λ s. nat_lt r.number s.number) list) (are_increasing list) e in
    let within : k < length list = omega (arith, lt) in
    let less : r.number < s.number = ltb-true r.number s.number (passes_at (λ s. nat_lt r.number s.number) list k d _ p.0 within refl) in
    ap (λ (b : Bool). cond b (Some r) (find (λ x. x.number == s.number) list)) (ne_eqb r.number s.number (omega (arith, less))) ∙ found_in list k d p.1 within

none_in : (list : List Row) (number : ℕ) → All (λ r. r.number ≢ number) list → find (λ r. r.number == number) list ≡ None
none_in [] number others = refl
none_in (r ∷ list) number others =
    ap (λ (b : Bool). cond b (Some r) (find (λ s. s.number == number) list)) (ne_eqb r.number number (others 0 r (omega arith))) ∙
    none_in list number (λ k d lt. others (suc k) d (omega (arith, lt)))

-- an option of a row is recognised exactly if the row allows it
pub recognised_at : (code count : ℕ) (before : Option ℕ) (k : ℕ) (d : Row) → k < length rows
    → (is_recognised code before (slice_index_or rows k d).number count ≡ true → IsAllowed (slice_index_or rows k d) code before count)
    × (IsAllowed (slice_index_or rows k d) code before count → is_recognised code before (slice_index_or rows k d).number count ≡ true)
unfolding is_recognised row_of
recognised_at code count before k d lt =
    let r = slice_index_or rows k d in
    let is = ap (λ (o : Option Row). fits_row o code before count) (found_in rows k d rows_are_increasing lt) in
    (λ e. allowed_of r code count before (sym is ∙ e), λ w. is ∙ fits_allowed r code count before w)

pub unrecognised : (code count number : ℕ) (before : Option ℕ) → All (λ r. r.number ≢ number) rows → is_recognised code before number count ≡ false
unfolding is_recognised row_of
unrecognised code count number before others = ap (λ (o : Option Row). fits_row o code before count) (none_in rows number others)

-- ---- the place of a row

find_by_place : (test : Row → Bool) (list : List Row) (k : ℕ) (d : Row) → position test list ≡ Some k → find test list ≡ Some (slice_index_or list k d)
find_by_place test list k d e =
    let w = position-Some test list k d e in
    find_at test list ∙ (ap (slice_get list) (position_or_len_is test list k d (omega (arith, w.0)) w.2 (λ lt. w.1)) ∙ slice_get-get_or list k d w.0)

find_none : (test : Row → Bool) (list : List Row) (b : Bool) → nat_lt (position_or_len test list) (length list) ≡ b → cond b (Some (position_or_len test list)) None ≡ None → find test list ≡ None
find_none test list true is e = absurd (cc e)
find_none test list false is e = find_at test list ∙ slice_get_past list (position_or_len test list) (ltb-false (position_or_len test list) (length list) is)

pub recognised_by_place : (code count number place : ℕ) (before : Option ℕ) (d : Row) → row_place number ≡ Some place → is_recognised code before number count ≡ fits (slice_index_or rows place d) code before count
unfolding is_recognised row_of row_place
recognised_by_place code count number place before d e = ap (λ (o : Option Row). fits_row o code before count) (find_by_place (λ r. r.number == number) rows place d e)

pub unplaced : (code count number : ℕ) (before : Option ℕ) → row_place number ≡ None → is_recognised code before number count ≡ false
unfolding is_recognised row_of row_place
unplaced code count number before e = ap (λ (o : Option Row). fits_row o code before count) (find_none (λ r. r.number == number) rows _ refl e)

-- two numbers with one place are equal
pub same_place : (first second place : ℕ) (d : Row) → row_place first ≡ Some place → row_place second ≡ Some place → first ≡ second
unfolding row_place
same_place first second place d e f =
    let x = position-Some (λ (r : Row). r.number == first) rows place d e in
    let y = position-Some (λ (r : Row). r.number == second) rows place d f in
    sym (eqb-true _ first x.1) ∙ eqb-true _ second y.1
