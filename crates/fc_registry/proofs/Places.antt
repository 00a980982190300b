-- A search through the eight places of a shard.
use Rattle.std.proofs.Common.{◌≡◌, ℕ, suc, ◌+◌, ◌-◌, ◌<◌, ◌≤◌, Bool, true, false, Option, Some, None, ap, refl, sym, ◌∙◌, arith}
use Rattle.std.specs.Prelude.{if◌then◌else◌, ◌&&◌, is_none, is_some}
use Rattle.fc_registry.specs.Watches.{place_from}

pub place_passed : (p : ℕ → Bool) (r : Option ℕ) (k : ℕ) → k < 8 → p k ≡ false → r ≡ place_from p (8 - k) k → r ≡ place_from p (8 - (k + 1)) (k + 1)
place_passed p r k lt fails is =
    let left : 8 - k ≡ suc (8 - (k + 1)) = omega (arith, lt) in
    is ∙ (ap (λ (n : ℕ). place_from p n k) left ∙ ap (λ (b : Bool). if b then Some k else place_from p (8 - (k + 1)) (k + 1)) fails)

pub no_place : (p : ℕ → Bool) (r : Option ℕ) (k : ℕ) → 8 ≤ k → r ≡ place_from p (8 - k) k → r ≡ None
no_place p r k le is =
    let left : 8 - k ≡ 0 = omega (arith, le) in
    is ∙ ap (λ (n : ℕ). place_from p n k) left

pub place_found : (p : ℕ → Bool) (r : Option ℕ) (k : ℕ) → k < 8 → p k ≡ true → r ≡ place_from p (8 - k) k → r ≡ Some k
place_found p r k lt passes is =
    let left : 8 - k ≡ suc (8 - (k + 1)) = omega (arith, lt) in
    is ∙ (ap (λ (n : ℕ). place_from p n k) left ∙ ap (λ (b : Bool). if b then Some k else place_from p (8 - (k + 1)) (k + 1)) passes)

-- ---- two searches together

pub idle_place : {X Y : Type 0} (x : Option X) (y : Option Y) → true ≡ is_none x && is_none y → (is_some x ≡ false) × (is_some y ≡ false)
idle_place None None e = (refl, refl)
idle_place (Some x) y e = absurd (cc e)
idle_place None (Some y) e = absurd (cc e)

pub idle_places : {X Y : Type 0} (x : Option X) (y : Option Y) → x ≡ None → y ≡ None → true ≡ is_none x && is_none y
idle_places x y none other = λ i. is_none (sym none i) && is_none (sym other i)

and_false : (b : Bool) → (b && false) ≡ false
and_false true = refl
and_false false = refl

-- if a place passes one of two tests, one of the two searches from this place on finds a place.
pub busy_place : {X Y : Type 0} (p q : ℕ → Bool) (r s : Option ℕ) (k : ℕ) (x : Option X) (y : Option Y) → k < 8 → p k ≡ is_some x → q k ≡ is_some y → false ≡ is_none x && is_none y → r ≡ place_from p (8 - k) k → s ≡ place_from q (8 - k) k → false ≡ is_none r && is_none s
busy_place p q r s k (Some x) y lt overdue due e first second = ap (λ (o : Option ℕ). is_none o && is_none s) (sym (place_found p r k lt overdue first))
busy_place p q r s k None (Some y) lt overdue due e first second = sym (and_false (is_none r)) ∙ ap (λ (o : Option ℕ). is_none r && is_none o) (sym (place_found q s k lt due second))
busy_place p q r s k None None lt overdue due e first second = absurd (cc e)
