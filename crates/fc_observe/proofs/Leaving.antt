-- The observer that the end of a lease removes.
use Rattle.std.proofs.Common.{◌≡◌, ℕ, ◌+◌, List, [], ◌∷◌, ◌++◌, Bool, true, false, cond, Some, refl, ap, ◌∙◌, arith}
use Rattle.std.specs.Prelude.{count_by, find, nat_eq, ◌==◌, ◌&&◌, ◌||◌}
use Rattle.std.specs.Cmp.Lexicographic.{pointwise, bytes_decides}
use Rattle.std.specs.List.{list_any}
use Rattle.std.proofs.lemmas.Bool.{eq-eqb}
use Rattle.std.proofs.lemmas.List.Sums.{sum_by-cons}
use Rattle.fc_observe.specs.declared.entry.Entry.{Entry}
use Rattle.fc_observe.specs.declared.entry.Turn.{Turn}
use Rattle.fc_observe.specs.Calls.{ObserverCall, End, observers}
use Rattle.fc_observe.specs.Entries.{is_entry_of}
use Rattle.fc_observe.specs.Observers.{at_first, entry_out, is_out}
use Rattle.fc_observe.proofs.Counting.{one_of_key, unit}

-- if the first entry that passes q also passes p, and is removed, one entry fewer passes p
less_by : (p q : Entry → Bool) (o x : Entry) (os : List Entry) (b : Bool) → (find q os ≡ Some x → count_by p (at_first q (λ y. []) os) + 1 ≡ count_by p os) → p x ≡ true → cond b (Some o) (find q os) ≡ Some x → count_by p (cond b ([] ++ os) (o ∷ at_first q (λ y. []) os)) + 1 ≡ count_by p (o ∷ os)
less_by p q o x os true rest passes found =
    let same : o ≡ x = cc found in
    let all = sum_by-cons (λ (y : Entry). unit (p y)) o os in
    let this = ap unit (ap p same ∙ passes) in
    omega (arith, all, this)
less_by p q o x os false rest passes found =
    let all = sum_by-cons (λ (y : Entry). unit (p y)) o os in
    let left = sum_by-cons (λ (y : Entry). unit (p y)) o (at_first q (λ y. []) os) in
    let less = rest found in
    omega (arith, all, left, less)

one_less : (p q : Entry → Bool) (x : Entry) (os : List Entry) → p x ≡ true → find q os ≡ Some x → count_by p (at_first q (λ y. []) os) + 1 ≡ count_by p os
one_less p q x [] passes found = absurd (cc found)
one_less p q x (o ∷ os) passes found = less_by p q o x os (q o) (λ rest. one_less p q x os passes rest) passes found

none_by : (p : Entry → Bool) (o : Entry) (os : List Entry) (b : Bool) → p o ≡ b → (count_by p os ≡ 0 → list_any p os ≡ false) → count_by p (o ∷ os) ≡ 0 → (b || list_any p os) ≡ false
none_by p o os true is rest none = let all = sum_by-cons (λ (y : Entry). unit (p y)) o os in let this = ap unit is in absurd (omega (arith, all, this, none))
none_by p o os false is rest none = let all = sum_by-cons (λ (y : Entry). unit (p y)) o os in rest (omega (arith, all, none))

none_passes : (p : Entry → Bool) (os : List Entry) → count_by p os ≡ 0 → list_any p os ≡ false
none_passes p [] none = refl
none_passes p (o ∷ os) none = none_by p o os (p o) refl (none_passes p os) none

-- an entry has its own endpoint and token
own_entry : (o : Entry) → is_entry_of o.endpoint o.token.items o ≡ true
own_entry o =
    let ip : pointwise nat_eq o.endpoint.ip o.endpoint.ip ≡ true = (bytes_decides o.endpoint.ip o.endpoint.ip).1 refl in
    let port : (o.endpoint.port == o.endpoint.port) ≡ true = eq-eqb o.endpoint.port o.endpoint.port refl in
    let token : pointwise nat_eq o.token.items o.token.items ≡ true = (bytes_decides o.token.items o.token.items).1 refl in
    λ i. (ip i && port i) && token i

pub observer_gone : (slot confirm_after : ℕ) (turn : Turn) (o : Entry) (h : List ObserverCall) → entry_out turn (observers slot confirm_after h) ≡ Some o → list_any (is_entry_of o.endpoint o.token.items) (observers slot confirm_after (End turn ∷ h)).held ≡ false
observer_gone slot confirm_after turn o h out =
    let t = observers slot confirm_after h in
    let p = is_entry_of o.endpoint o.token.items in
    let less = one_less p (is_out turn t) o t.held (own_entry o) out in
    let few = one_of_key slot confirm_after h o.endpoint o.token.items in
    none_passes p (observers slot confirm_after (End turn ∷ h)).held (omega (arith, less, few))
