-- Searches in a filtered list, and in two joined lists.
use Rattle.std.proofs.Common.{◌≡◌, List, [], ◌∷◌, ◌++◌, Bool, true, false, cond, Some, None, refl, sym, ap, ◌∙◌}
use Rattle.std.specs.Prelude.{filter, find, ◌&&◌}

filtered_by : {X : Type 0} (p q : X → Bool) (x : X) (xs : List X) (b : Bool) → q x ≡ b → find p (filter q xs) ≡ find (λ y. q y && p y) xs → find p (filter q (x ∷ xs)) ≡ find (λ y. q y && p y) (x ∷ xs)
filtered_by p q x xs true e rest = ap (λ (b : Bool). find p (cond b (x ∷ filter q xs) (filter q xs))) e ∙ (ap (λ o. cond (p x) (Some x) o) rest ∙ sym (ap (λ (b : Bool). cond (b && p x) (Some x) (find (λ y. q y && p y) xs)) e))
filtered_by p q x xs false e rest = ap (λ (b : Bool). find p (cond b (x ∷ filter q xs) (filter q xs))) e ∙ (rest ∙ sym (ap (λ (b : Bool). cond (b && p x) (Some x) (find (λ y. q y && p y) xs)) e))

-- a search in a filtered list finds the first element that passes both the filter and the test
pub find-filter : {X : Type 0} (p q : X → Bool) (xs : List X) → find p (filter q xs) ≡ find (λ y. q y && p y) xs
find-filter p q [] = refl
find-filter p q (x ∷ xs) = filtered_by p q x xs (q x) refl (find-filter p q xs)

-- if two tests agree on every element, searches with them find the same element
pub find_agree : {X : Type 0} (p q : X → Bool) → ((x : X) → p x ≡ q x) → (xs : List X) → find p xs ≡ find q xs
find_agree p q e xs = λ i. find (λ x. e x i) xs

-- a search finds nothing if no element passes the test
pub find_nothing : {X : Type 0} (p : X → Bool) → ((x : X) → p x ≡ false) → (xs : List X) → find p xs ≡ None
find_nothing p e [] = refl
find_nothing p e (x ∷ xs) = ap (λ (b : Bool). cond b (Some x) (find p xs)) (e x) ∙ find_nothing p e xs

behind_by : {X : Type 0} (p : X → Bool) (x : X) (xs ys : List X) (b : Bool) → p x ≡ b → cond b (Some x) (find p xs) ≡ None → (find p xs ≡ None → find p (xs ++ ys) ≡ find p ys) → cond b (Some x) (find p (xs ++ ys)) ≡ find p ys
behind_by p x xs ys true e none rest = absurd (cc)
behind_by p x xs ys false e none rest = rest none

-- if a search finds nothing in the first list, it finds the same in both joined as in the second
pub find_behind : {X : Type 0} (p : X → Bool) (xs ys : List X) → find p xs ≡ None → find p (xs ++ ys) ≡ find p ys
find_behind p [] ys none = refl
find_behind p (x ∷ xs) ys none = behind_by p x xs ys (p x) refl none (find_behind p xs ys)

-- if a search finds nothing in the second list, it finds the same in both joined as in the first
pub find_before : {X : Type 0} (p : X → Bool) (xs ys : List X) → find p ys ≡ None → find p (xs ++ ys) ≡ find p xs
find_before p [] ys none = none
find_before p (x ∷ xs) ys none = ap (λ o. cond (p x) (Some x) o) (find_before p xs ys none)
