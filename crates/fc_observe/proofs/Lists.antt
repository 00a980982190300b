-- The length of a list from which entries are removed, or in which entries are changed.
use Rattle.std.proofs.Common.{◌≡◌, ◌<◌, ◌≤◌, List, [], ◌∷◌, length, Bool, true, false, cond, arith}
use Rattle.std.specs.Prelude.{not, ◌||◌}
use Rattle.std.specs.List.{list_any}
use Rattle.fc_observe.specs.declared.entry.Entry.{Entry}
use Rattle.fc_observe.specs.Observers.{without_those}

-- a list without some entries isn't longer than the list
no_more_by : (p : Entry → Bool) (os : List Entry) (b : Bool) (o : Entry) → length (without_those p os) ≤ length os → length (cond (not b) (o ∷ without_those p os) (without_those p os)) ≤ length (o ∷ os)
no_more_by p os true o le = omega (arith, le)
no_more_by p os false o le = omega (arith, le)

pub no_more : (p : Entry → Bool) (os : List Entry) → length (without_those p os) ≤ length os
no_more p [] = omega arith
no_more p (o ∷ os) = no_more_by p os (p o) o (no_more p os)

-- if an entry passes the test, the list without those that pass is shorter
fewer_by : (p : Entry → Bool) (os : List Entry) (b : Bool) (o : Entry) → (list_any p os ≡ true → length (without_those p os) < length os) → (b || list_any p os) ≡ true → length (cond (not b) (o ∷ without_those p os) (without_those p os)) < length (o ∷ os)
fewer_by p os true o next found = let le = no_more p os in omega (arith, le)
fewer_by p os false o next found = let lt = next found in omega (arith, lt)

pub fewer_without : (p : Entry → Bool) (os : List Entry) → list_any p os ≡ true → length (without_those p os) < length os
fewer_without p [] found = absurd (cc found)
fewer_without p (o ∷ os) found = fewer_by p os (p o) o (fewer_without p os) found
