-- A list without the elements that pass a test.
use Rattle.std.proofs.Common.{◌≡◌, ◌<◌, ◌≤◌, List, [], ◌∷◌, length, Bool, true, false, cond, Some, refl, sym, subst, arith}
use Rattle.std.specs.Prelude.{filter, find, not, if◌then◌else◌}

-- a filtered list isn't longer than the list
shorter_by : {X : Type 0} (p : X → Bool) (x : X) (xs : List X) (b : Bool) → p x ≡ b → length (filter p xs) ≤ length xs → length (filter p (x ∷ xs)) ≤ length (x ∷ xs)
shorter_by p x xs true e le = subst (λ (b : Bool). length (cond b (x ∷ filter p xs) (filter p xs)) ≤ length (x ∷ xs)) (sym e) (omega (arith, le))
shorter_by p x xs false e le = subst (λ (b : Bool). length (cond b (x ∷ filter p xs) (filter p xs)) ≤ length (x ∷ xs)) (sym e) (omega (arith, le))

pub filter_short : {X : Type 0} (p : X → Bool) (xs : List X) → length (filter p xs) ≤ length xs
filter_short p [] = omega arith
filter_short p (x ∷ xs) = shorter_by p x xs (p x) refl (filter_short p xs)

-- if a search finds an element, the list without the elements that pass the search's test is
-- shorter
fewer_by : {X : Type 0} (p : X → Bool) (x t : X) (xs : List X) (b : Bool) → p x ≡ b → find p (x ∷ xs) ≡ Some t → (find p xs ≡ Some t → length (filter (λ y. not (p y)) xs) < length xs) → length (filter (λ y. not (p y)) (x ∷ xs)) < length (x ∷ xs)
fewer_by p x t xs true e found rest = let le = filter_short (λ y. not (p y)) xs in subst (λ (b : Bool). length (cond (not b) (x ∷ filter (λ y. not (p y)) xs) (filter (λ y. not (p y)) xs)) < length (x ∷ xs)) (sym e) (omega (arith, le))
fewer_by p x t xs false e found rest =
    let lt = rest (subst (λ (b : Bool). (if b then Some x else find p xs) ≡ Some t) e found) in
    subst (λ (b : Bool). length (cond (not b) (x ∷ filter (λ y. not (p y)) xs) (filter (λ y. not (p y)) xs)) < length (x ∷ xs)) (sym e) (omega (arith, lt))

pub others_fewer : {X : Type 0} (p : X → Bool) (t : X) (xs : List X) → find p xs ≡ Some t → length (filter (λ y. not (p y)) xs) < length xs
others_fewer p t [] found = absurd (cc)
others_fewer p t (x ∷ xs) found = fewer_by p x t xs (p x) refl found (others_fewer p t xs)
