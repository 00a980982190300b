-- The first entry that passes a test, and its place.
use Rattle.std.proofs.Common.{◌≡◌, ℕ, ◌+◌, ◌<◌, List, [], ◌∷◌, ◌++◌, length, get_or, set, suc, zero, take, drop, Bool, true, false, cond, Some, None, refl, sym, ap, ◌∙◌, subst, arith}
use Rattle.std.specs.Prelude.{find, is_some, ◌||◌}
use Rattle.std.specs.List.{list_any, position, position_from, remove}
use Rattle.std.proofs.lemmas.Iterator.Adapters.{position_from-zero}
use Rattle.std.proofs.lemmas.List.{set_split}
use Rattle.fc_observe.specs.declared.entry.Entry.{Entry}
use Rattle.fc_observe.specs.declared.entry.Turn.{Turn}
use Rattle.fc_observe.specs.Observers.{ObserverList, at_first, entry_out, gives_turn, is_out, next_turn, next_turn_by, with_held}

-- no entry passes the test: a search finds none, and replacing the first one changes nothing
pub record PassesNone (p : Entry → Bool) (os : List Entry) : Type 0 where
  pub any : list_any p os ≡ false
  pub found : find p os ≡ None
  pub change : (g : Entry → List Entry) → at_first p g os ≡ os

-- the first entry that passes the test is at place `i`
pub record IsFirst (p : Entry → Bool) (os : List Entry) (i : ℕ) : Type 0 where
  pub within : i < length os
  pub any : list_any p os ≡ true
  pub found : (d : Entry) → find p os ≡ Some (get_or os i d)
  pub change : (g : Entry → List Entry) (d : Entry) → at_first p g os ≡ take i os ++ (g (get_or os i d) ++ drop (suc i) os)

none_by : (p : Entry → Bool) (o : Entry) (os : List Entry) (k : ℕ) (b : Bool) → p o ≡ b → (position_from p (k + 1) os ≡ None → PassesNone p os) → cond b (Some k) (position_from p (k + 1) os) ≡ None → PassesNone p (o ∷ os)
none_by p o os k true e rest none = absurd (cc none)
none_by p o os k false e rest none = let r = rest none in record {
  any = ap (λ (b : Bool). b || list_any p os) e ∙ r.any;
  found = ap (λ (b : Bool). cond b (Some o) (find p os)) e ∙ r.found;
  change = λ g. ap (λ (b : Bool). cond b (g o ++ os) (o ∷ at_first p g os)) e ∙ ap (λ (l : List Entry). o ∷ l) (r.change g);
}

none_from : (p : Entry → Bool) (os : List Entry) (k : ℕ) → position_from p k os ≡ None → PassesNone p os
none_from p [] k none = record { any = refl; found = refl; change = λ g. refl }
none_from p (o ∷ os) k none = none_by p o os k (p o) refl (none_from p os (k + 1)) none

pub none_passes : (p : Entry → Bool) (os : List Entry) → position p os ≡ None → PassesNone p os
none_passes p os none = none_from p os 0 (sym (position_from-zero p os) ∙ none)

first_by : (p : Entry → Bool) (o : Entry) (os : List Entry) (k j : ℕ) (b : Bool) → p o ≡ b → (position_from p (k + 1) os ≡ Some j → (i : ℕ) × (j ≡ k + 1 + i) × IsFirst p os i) → cond b (Some k) (position_from p (k + 1) os) ≡ Some j → (i : ℕ) × (j ≡ k + i) × IsFirst p (o ∷ os) i
first_by p o os k j true e rest some = let same : k ≡ j = cc in (
  0,
  omega (arith, same),
  record {
    within = omega arith;
    any = ap (λ (b : Bool). b || list_any p os) e;
    found = λ d. ap (λ (b : Bool). cond b (Some o) (find p os)) e;
    change = λ g d. ap (λ (b : Bool). cond b (g o ++ os) (o ∷ at_first p g os)) e;
  },
)
first_by p o os k j false e rest some = let r = rest some in (
  suc r.0,
  omega (arith, r.1),
  record {
    within = omega (arith, r.2.within);
    any = ap (λ (b : Bool). b || list_any p os) e ∙ r.2.any;
    found = λ d. ap (λ (b : Bool). cond b (Some o) (find p os)) e ∙ r.2.found d;
    change = λ g d. ap (λ (b : Bool). cond b (g o ++ os) (o ∷ at_first p g os)) e ∙ ap (λ (l : List Entry). o ∷ l) (r.2.change g d);
  },
)

first_from : (p : Entry → Bool) (os : List Entry) (k j : ℕ) → position_from p k os ≡ Some j → (i : ℕ) × (j ≡ k + i) × IsFirst p os i
first_from p [] k j some = absurd (cc some)
first_from p (o ∷ os) k j some = first_by p o os k j (p o) refl (first_from p os (k + 1) j) some

pub first_passes : (p : Entry → Bool) (os : List Entry) (j : ℕ) → position p os ≡ Some j → IsFirst p os j
first_passes p os j some =
    let r = first_from p os 0 j (sym (position_from-zero p os) ∙ some) in
    let same : r.0 ≡ j = omega (arith, r.1) in
    subst (λ (i : ℕ). IsFirst p os i) same r.2

-- ---- the code's actions at the place of the first entry that passes

-- a search finds the entry at that place
pub found_there : (p : Entry → Bool) (os : List Entry) (i : ℕ) (x : Entry) → IsFirst p os i → x ≡ get_or os i x → find p os ≡ Some x
found_there p os i x f read = f.found x ∙ ap (λ (o : Entry). Some o) (sym read)

there : (p : Entry → Bool) (g : Entry → List Entry) (os : List Entry) (i : ℕ) (x : Entry) (ys : List Entry) → IsFirst p os i → x ≡ get_or os i x → g x ≡ ys → at_first p g os ≡ take i os ++ (ys ++ drop (suc i) os)
there p g os i x ys f read made = f.change g x ∙ ap (λ (l : List Entry). take i os ++ (l ++ drop (suc i) os)) (ap g (sym read) ∙ made)

-- if the entry at that place is overwritten, exactly the first entry that passes is changed
pub changed_there : (p : Entry → Bool) (g : Entry → List Entry) (os : List Entry) (i : ℕ) (x y : Entry) → IsFirst p os i → x ≡ get_or os i x → g x ≡ y ∷ [] → set os i y ≡ at_first p g os
changed_there p g os i x y f read made = set_split os i y f.within ∙ sym (there p g os i x (y ∷ []) f read made)

-- if the entry at that place is removed, exactly the first entry that passes is removed
pub removed_there : (p : Entry → Bool) (g : Entry → List Entry) (os : List Entry) (i : ℕ) (x : Entry) → IsFirst p os i → x ≡ get_or os i x → g x ≡ [] → remove os i ≡ at_first p g os
removed_there p g os i x f read made = sym (there p g os i x [] f read made)

pub remove-set : (os : List Entry) (i : ℕ) (y : Entry) → remove (set os i y) i ≡ remove os i
remove-set [] i y = refl
remove-set (o ∷ os) zero y = refl
remove-set (o ∷ os) (suc i) y = ap (λ (l : List Entry). o ∷ l) (remove-set os i y)

-- ---- there is a place exactly if an entry passes

some_by : (p : Entry → Bool) (k : ℕ) (os : List Entry) (b : Bool) → is_some (position_from p (k + 1) os) ≡ list_any p os → is_some (cond b (Some k) (position_from p (k + 1) os)) ≡ (b || list_any p os)
some_by p k os true same = refl
some_by p k os false same = same

some_from : (p : Entry → Bool) (os : List Entry) (k : ℕ) → is_some (position_from p k os) ≡ list_any p os
some_from p [] k = refl
some_from p (o ∷ os) k = some_by p k os (p o) (some_from p os (k + 1))

pub is_some-position : (p : Entry → Bool) (os : List Entry) → is_some (position p os) ≡ list_any p os
is_some-position p os = ap (λ o. is_some o) (position_from-zero p os) ∙ some_from p os 0

found_by : (p : Entry → Bool) (o : Entry) (os : List Entry) (b : Bool) → is_some (find p os) ≡ list_any p os → is_some (cond b (Some o) (find p os)) ≡ (b || list_any p os)
found_by p o os true same = refl
found_by p o os false same = same

pub is_some-find : (p : Entry → Bool) (os : List Entry) → is_some (find p os) ≡ list_any p os
is_some-find p [] = refl
is_some-find p (o ∷ os) = found_by p o os (p o) (is_some-find p os)

given_by : (t : ObserverList) (b : Bool) → is_some (next_turn_by b t) ≡ b
given_by t true = refl
given_by t false = refl

pub is_some-next_turn : (notify_serial : ℕ) (t : ObserverList) → is_some (next_turn notify_serial t) ≡ gives_turn notify_serial t
is_some-next_turn notify_serial t = given_by t (gives_turn notify_serial t)

-- ---- the entry with the active lease

module _ (turn : Turn) (v w : ObserverList) (same : v ≡ w) where
  -- a search for the entry with the active lease finds the entry at the place
  pub out_there : (i : ℕ) (x : Entry) → Some i ≡ position (is_out turn w) w.held → x ≡ get_or v.held i x → entry_out turn w ≡ Some x
  out_there i x at read =
      found_there (is_out turn w) w.held i x (first_passes (is_out turn w) w.held i (sym at)) (read ∙ ap (λ (l : ObserverList). get_or l.held i x) same)

  -- if the entry at the place is overwritten, exactly the entry with the active lease is changed
  pub out_changed : (g : ObserverList → Entry → List Entry) (i : ℕ) (x y : Entry) → Some i ≡ position (is_out turn w) w.held → x ≡ get_or v.held i x → g v x ≡ y ∷ [] → with_held (set v.held i y) v ≡ with_held (at_first (is_out turn w) (g w) w.held) w
  out_changed g i x y at read made =
      (λ j. with_held (set (same j).held i y) (same j))
      ∙ ap (λ (h : List Entry). with_held h w)
      (changed_there (is_out turn w) (g w) w.held i x y (first_passes (is_out turn w) w.held i (sym at)) (read ∙ ap (λ (l : ObserverList). get_or l.held i x) same) (ap (λ (l : ObserverList). g l x) (sym same) ∙ made))

  -- if the entry at the place is removed, exactly the entry with the active lease is removed
  pub out_removed : (i : ℕ) (x : Entry) → Some i ≡ position (is_out turn w) w.held → x ≡ get_or v.held i x → with_held (remove v.held i) v ≡ with_held (at_first (is_out turn w) (λ o. []) w.held) w
  out_removed i x at read =
      (λ j. with_held (remove (same j).held i) (same j))
      ∙ ap (λ (h : List Entry). with_held h w)
      (removed_there (is_out turn w) (λ o. []) w.held i x (first_passes (is_out turn w) w.held i (sym at)) (read ∙ ap (λ (l : ObserverList). get_or l.held i x) same) refl)

-- if there is no place, no entry has the active lease
pub none_out : (turn : Turn) (w : ObserverList) → None ≡ position (is_out turn w) w.held → entry_out turn w ≡ None
none_out turn w none = (none_passes (is_out turn w) w.held (sym none)).found

pub none_changed : (turn : Turn) (g : Entry → List Entry) (w : ObserverList) → None ≡ position (is_out turn w) w.held → w ≡ with_held (at_first (is_out turn w) g w.held) w
none_changed turn g w none = ap (λ (h : List Entry). with_held h w) (sym ((none_passes (is_out turn w) w.held (sym none)).change g))
