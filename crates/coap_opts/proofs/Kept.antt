-- The first value of an option, after a value is stored at a place.
use Rattle.std.proofs.Common.{◌≡◌, ◌≢◌, ℕ, ◌<◌, ◌==◌, Bool, true, false, List, length, Option, Some, None, refl, sym, ap, ◌∙◌}
use Rattle.std.specs.List.{slice_index_or, slice_set}
use Rattle.std.specs.Borrow.{Bor}
use Rattle.std.specs.Option.{is_some}
use Rattle.std.proofs.lemmas.Bool.{eqb-false, eqb-true}
use Rattle.std.proofs.lemmas.List.{get_or-set_other, get_or-set_same}
use Rattle.coap_msg.specs.Reading.{◌>>=◌}
use Rattle.coap_opts.specs.declared.served.Row.{Row}
use Rattle.coap_opts.specs.Recognition.{row_place}
use Rattle.coap_opts.specs.Firsts.{cons_if, first_with, lent}
use Rattle.coap_opts.proofs.Recognised.{same_place}

pub is_none_by : {A : Type 0} (o : Option A) → is_some o ≡ false → o ≡ None
is_none_by None e = refl
is_none_by (Some a) e = absurd (cc e)

-- the value at a place, if there is a place
abbrev at : List (Option (Bor (List ℕ))) → Option ℕ → Option (List ℕ)
at values place = place >>= λ p. lent (slice_index_or values p None)

at_other : (values : List (Option (Bor (List ℕ)))) (place : ℕ) (value : Bor (List ℕ)) (other : Option ℕ) → other ≢ Some place → at values other ≡ at (slice_set values place (Some value)) other
at_other values place value None ne = refl
at_other values place value (Some p) ne = ap lent (sym (get_or-set_other values place p (Some value) None (λ (e : p ≡ place). ne (ap (λ (x : ℕ). Some x) e))))

-- a row, for a default
blank : Row
blank = record { number = 0; least = 0; greatest = 0; repeatable = false; only = None }

pub kept : (values : List (Option (Bor (List ℕ)))) (place number wanted : ℕ) (value : Bor (List ℕ)) (left : List (List ℕ)) (is : Bool) → (number == wanted) ≡ is
    → place < length values → row_place number ≡ Some place → slice_index_or values place None ≡ None
    → first_with (at values (row_place wanted)) (cons_if is value.now left) ≡ first_with (at (slice_set values place (Some value)) (row_place wanted)) left
kept values place number wanted value left true is lt placed none =
    let e : row_place wanted ≡ Some place = ap row_place (sym (eqb-true number wanted is)) ∙ placed in
    ap (λ (o : Option ℕ). first_with (at values o) (cons_if true value.now left)) e ∙ (
    ap (λ (v : Option (Bor (List ℕ))). first_with (lent v) (cons_if true value.now left)) none ∙ (
    ap (λ (v : Option (Bor (List ℕ))). first_with (lent v) left) (sym (get_or-set_same values place (Some value) None lt)) ∙
    ap (λ (o : Option ℕ). first_with (at (slice_set values place (Some value)) o) left) (sym e)
    ))
kept values place number wanted value left false is lt placed none =
    ap (λ (v : Option (List ℕ)). first_with v left) (
    at_other values place value (row_place wanted) (λ e. eqb-false number wanted is (same_place number wanted place blank placed e)))
