-- The observer that gets the lease.
use Rattle.std.proofs.Common.{◌≡◌, ℕ, ◌<◌, List, [], ◌∷◌, ◌++◌, Bool, true, false, cond, refl, ap, ◌∙◌}
use Rattle.std.specs.Prelude.{◌&&◌, ◌||◌}
use Rattle.std.specs.List.{list_any}
use Rattle.std.proofs.lemmas.Bool.{lt-ltb}
use Rattle.fc_observe.specs.declared.entry.Entry.{Entry}
use Rattle.fc_observe.specs.Entries.{is_due, with_turn}
use Rattle.fc_observe.specs.Observers.{ObserverList, at_first, turn_given, turn_given_by}

pub or_false : (a b : Bool) → (a || b) ≡ false → (a ≡ false) × (b ≡ false)
or_false true b e = absurd (cc e)
or_false false b e = (refl, e)

-- if an entry passes the test and no entry before it does, that entry is the one that is replaced
first_passes : (p : Entry → Bool) (g : Entry → List Entry) (before : List Entry) (o : Entry) (after : List Entry) → list_any p before ≡ false → p o ≡ true → at_first p g (before ++ o ∷ after) ≡ before ++ (g o ++ after)
first_passes p g [] o after none is = ap (λ (b : Bool). cond b (g o ++ after) (o ∷ at_first p g after)) is
first_passes p g (x ∷ xs) o after none is =
    let parts = or_false (p x) (list_any p xs) none in
    ap (λ (b : Bool). cond b (g x ++ (xs ++ o ∷ after)) (x ∷ at_first p g (xs ++ o ∷ after))) parts.0
    ∙ ap (λ (l : List Entry). x ∷ l) (first_passes p g xs o after parts.1 is)

or_true : (a : Bool) → (a || true) ≡ true
or_true true = refl
or_true false = refl

pub some_passes : (p : Entry → Bool) (before : List Entry) (o : Entry) (after : List Entry) → p o ≡ true → list_any p (before ++ o ∷ after) ≡ true
some_passes p [] o after is = ap (λ (b : Bool). b || list_any p after) is
some_passes p (x ∷ xs) o after is = ap (λ (b : Bool). p x || b) (some_passes p xs o after is) ∙ or_true (p x)

pub first_gets : (notify_serial : ℕ) (t : ObserverList) (before after : List Entry) (o : Entry) → t.turns < 18446744073709551615 → t.held ≡ before ++ o ∷ after → list_any (is_due t.time notify_serial) before ≡ false → is_due t.time notify_serial o ≡ true → (turn_given notify_serial t).held ≡ before ++ with_turn t.turns t.time o ∷ after
first_gets notify_serial t before after o lt held none is =
    let due : list_any (is_due t.time notify_serial) t.held ≡ true = ap (list_any (is_due t.time notify_serial)) held ∙ some_passes (is_due t.time notify_serial) before o after is in
    ap (λ (b : Bool). (turn_given_by (b && list_any (is_due t.time notify_serial) t.held) notify_serial t).held) (lt-ltb t.turns 18446744073709551615 lt)
    ∙ (ap (λ (b : Bool). (turn_given_by b notify_serial t).held) due
    ∙ (ap (at_first (is_due t.time notify_serial) (λ x. with_turn t.turns t.time x ∷ [])) held
    ∙ first_passes (is_due t.time notify_serial) (λ x. with_turn t.turns t.time x ∷ []) before o after none is))
