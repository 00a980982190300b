-- Properties of the elements of lists to which elements are added or written.
use Rattle.std.proofs.Common.{◌≡◌, ℕ, ◌+◌, ◌<◌, ◌≤◌, List, [], ◌∷◌, ◌++◌, length, get_or, set, sym, ◌∙◌, subst, ⊎_elim, arith, length-append, length-set, append_assoc}
use Rattle.std.proofs.lemmas.Bool.{cases_eq, cases_lt}
use Rattle.std.proofs.lemmas.List.{append-nil, get_or_past, get_or_append_left, get_or-set_same, get_or-set_other}
use Rattle.std.proofs.Math.Seq.{get_or-append_seam}

-- each element of the list has the property.
abbrev pub Each : {X : Type 0} → (X → Type 0) → List X → Type 0
Each P [] = Unit {0}
Each P (x ∷ xs) = P x × Each P xs

-- if each element and a pushed one have the property, each element after the push has it.
pub pushed_all : {X : Type 0} (P : X → Type 0) (xs : List X) (x d : X) → ((k : ℕ) → P (get_or xs k d)) → P x → (k : ℕ) → P (get_or (xs ++ x ∷ []) k d)
pushed_all P xs x d all here k =
    let len : length (xs ++ x ∷ []) ≡ length xs + 1 = length-append xs (x ∷ []) in
    ⊎_elim
    (λ (lt : k < length xs). subst P (sym (get_or_append_left xs (x ∷ []) d k lt)) (all k))
    (λ (ge : length xs ≤ k). ⊎_elim
    (λ (e : k ≡ length xs). subst (λ (i : ℕ). P (get_or (xs ++ x ∷ []) i d)) (sym e) (subst P (sym (get_or-append_seam xs x [] d)) here))
    (λ (ne : k ≡ length xs → ⊥). let past : length (xs ++ x ∷ []) ≤ k = omega arith in subst P (get_or_past xs k d ge ∙ sym (get_or_past (xs ++ x ∷ []) k d past)) (all k))
    (cases_eq k (length xs)))
    (cases_lt k (length xs))

-- if each element and each appended one have the property, each element of the longer list has it.
pub appended_all : {X : Type 0} (P : X → Type 0) (xs ys : List X) (d : X) → ((k : ℕ) → P (get_or xs k d)) → Each P ys → (k : ℕ) → P (get_or (xs ++ ys) k d)
appended_all P xs [] d all each k = subst (λ l. P (get_or l k d)) (sym (append-nil xs)) (all k)
appended_all P xs (y ∷ ys) d all each k =
    subst (λ l. P (get_or l k d)) (append_assoc xs (y ∷ []) ys)
    (appended_all P (xs ++ y ∷ []) ys d (pushed_all P xs y d all each.0) each.1 k)

-- if each element and a written one have the property, each element after the write has it.
pub written_all : {X : Type 0} (P : X → Type 0) (xs : List X) (j : ℕ) (x d : X) → ((k : ℕ) → P (get_or xs k d)) → P x → (k : ℕ) → P (get_or (set xs j x) k d)
written_all P xs j x d all here k = ⊎_elim
    (λ (e : k ≡ j). subst (λ (i : ℕ). P (get_or (set xs j x) i d)) (sym e) (⊎_elim
    (λ (lt : j < length xs). subst P (sym (get_or-set_same xs j x d lt)) here)
    (λ (ge : length xs ≤ j). let past : length (set xs j x) ≤ j = omega (arith, length-set xs j x, ge) in subst P (get_or_past xs j d ge ∙ sym (get_or_past (set xs j x) j d past)) (all j))
    (cases_lt j (length xs))))
    (λ (ne : k ≡ j → ⊥). subst P (sym (get_or-set_other xs j k x d ne)) (all k))
    (cases_eq k j)
