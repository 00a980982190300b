-- The values of recognised options fit their row of the table.
use Rattle.std.proofs.Common.{◌≡◌, ℕ, ◌≤◌, ◌==◌, ◌&&◌, Bool, true, false, if◌then◌else◌, List, [], ◌∷◌, length, Option, Some, None, refl, sym, ◌∙◌, arith}
use Rattle.std.proofs.lemmas.Bool.{leb-true, eqb-true, and_parts}
use Rattle.coap_msg.specs.Wire.{Message}
use Rattle.coap_msg.specs.declared.code.Code.{Code}
use Rattle.coap_msg.specs.declared.code.TheConstants.Code.{GET, PUT}
use Rattle.coap_opts.specs.declared.number.TheConstants as option
use Rattle.coap_opts.specs.declared.served.Row.{Row}
use Rattle.coap_opts.specs.Served.{rows}
use Rattle.coap_opts.specs.Recognition.{allows_at_most, row_of, is_defined_for, fits_row, is_recognised, values_of}
use Rattle.coap_opts.specs.Verdict.{first_of, values}

-- a value of an option with this number that is recognised in a message with this code
record IsValueOf (wanted code : ℕ) (value : List ℕ) : Type 0 where
  before : Option ℕ
  recognised : is_recognised code before wanted (length value) ≡ true

first_by : (wanted number code : ℕ) (before : Option ℕ) (value v : List ℕ) (rest : List (List ℕ)) (test : Bool) →
    ((number == wanted) && is_recognised code before number (length value)) ≡ test → (first_of rest ≡ Some v → IsValueOf wanted code v) →
    first_of (if test then value ∷ rest else rest) ≡ Some v → IsValueOf wanted code v
first_by wanted number code before value v rest true t ih h =
    let p = and_parts _ _ t in
    let same : number ≡ wanted = eqb-true number wanted p.0 in
    let first : value ≡ v = cc h in
    let recognised : is_recognised code before number (length value) ≡ true = p.1 in
    record { before = before; recognised = cc }
first_by wanted number code before value v rest false t ih h = ih h

first_recognised : (wanted code : ℕ) (before : Option ℕ) (options : List (ℕ × List ℕ)) (v : List ℕ) → first_of (values_of wanted code before options) ≡ Some v → IsValueOf wanted code v
first_recognised wanted code before [] v h = absurd (cc h)
first_recognised wanted code before ((number, value) ∷ options) v h =
    first_by wanted number code before value v (values_of wanted code (Some number) options) _ refl (first_recognised wanted code (Some number) options v) h

-- ---- lengths

within : (row : Option Row) (most code : ℕ) (before : Option ℕ) (count : ℕ) → allows_at_most most row ≡ true → fits_row row code before count ≡ true → count ≤ most
within None most code before count e h = absurd (cc h)
within (Some r) most code before count e h = omega (arith, leb-true r.greatest most e, leb-true count r.greatest (and_parts _ _ (and_parts _ _ h).0).1)

pub short_first : (wanted most : ℕ) (m : Message) (v : List ℕ) → allows_at_most most (row_of wanted) ≡ true → first_of (values wanted m) ≡ Some v → length v ≤ most
unfolding is_recognised
short_first wanted most m v e h =
    let first = first_recognised wanted m.code None m.options v h in
    within (row_of wanted) most m.code first.before (length v) e first.recognised

-- ---- methods

-- the row is for messages with this code alone
abbrev is_for : Option Code → ℕ → Bool
is_for None code = false
is_for (Some only) code = only.byte == code

abbrev is_only : Option Row → ℕ → Bool
is_only None code = true
is_only (Some r) code = is_for r.only code

only_by : (row : Option Row) (wanted code : ℕ) (before : Option ℕ) (count : ℕ) → is_only row wanted ≡ true → fits_row row code before count ≡ true → code ≡ wanted
only_by None wanted code before count e h = absurd (cc h)
only_by (Some r) wanted code before count e h = method_by r.only wanted code e (and_parts _ _ (and_parts _ _ h).1).0
  where
    method_by : (only : Option Code) (wanted code : ℕ) → is_for only wanted ≡ true → is_defined_for only code ≡ true → code ≡ wanted
    method_by None wanted code e h = absurd (cc e)
    method_by (Some only) wanted code e h = sym (eqb-true only.byte code h) ∙ eqb-true only.byte wanted e

only_first : (number wanted : ℕ) (m : Message) (v : List ℕ) → is_only (row_of number) wanted ≡ true → first_of (values number m) ≡ Some v → m.code ≡ wanted
unfolding is_recognised
only_first number wanted m v e h =
    let first = first_recognised number m.code None m.options v h in
    only_by (row_of number) wanted m.code first.before (length v) e first.recognised

pub etag_in_get : (m : Message) (v : List ℕ) → first_of (values option.ETAG m) ≡ Some v → m.code ≡ GET.byte
unfolding row_of rows
etag_in_get m v h = only_first option.ETAG GET.byte m v refl h

pub observe_in_get : (m : Message) (v : List ℕ) → first_of (values option.OBSERVE m) ≡ Some v → m.code ≡ GET.byte
unfolding row_of rows
observe_in_get m v h = only_first option.OBSERVE GET.byte m v refl h

pub block2_in_get : (m : Message) (v : List ℕ) → first_of (values option.BLOCK2 m) ≡ Some v → m.code ≡ GET.byte
unfolding row_of rows
block2_in_get m v h = only_first option.BLOCK2 GET.byte m v refl h

pub block1_in_put : (m : Message) (v : List ℕ) → first_of (values option.BLOCK1 m) ≡ Some v → m.code ≡ PUT.byte
unfolding row_of rows
block1_in_put m v h = only_first option.BLOCK1 PUT.byte m v refl h
