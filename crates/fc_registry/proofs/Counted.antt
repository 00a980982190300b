-- The numbers of observers of a shard's slots.
use Rattle.std.proofs.Common.{◌≡◌, ◌∙◌, ℕ, List, [], ◌∷◌, arith, length, map, refl}
use Rattle.std.specs.Prelude.{slice_index_or}
use Rattle.fc_observe.specs.Observers.{ObserverList, no_observers}

-- the number of observers at a place of these lists.
abbrev pub count_in : List ObserverList → ℕ → ℕ
count_in ws k = length (slice_index_or ws k (no_observers 0 0)).held

eight_counts : (ws : List ObserverList) → length ws ≡ 8
    → count_in ws 0 ∷ count_in ws 1 ∷ count_in ws 2 ∷ count_in ws 3 ∷ count_in ws 4 ∷ count_in ws 5 ∷ count_in ws 6 ∷ count_in ws 7 ∷ [] ≡ map (λ w. length w.held) ws
eight_counts [] e = absurd (omega (arith, e))
eight_counts (a ∷ []) e = absurd (omega (arith, e))
eight_counts (a ∷ b ∷ []) e = absurd (omega (arith, e))
eight_counts (a ∷ b ∷ c ∷ []) e = absurd (omega (arith, e))
eight_counts (a ∷ b ∷ c ∷ d ∷ []) e = absurd (omega (arith, e))
eight_counts (a ∷ b ∷ c ∷ d ∷ f ∷ []) e = absurd (omega (arith, e))
eight_counts (a ∷ b ∷ c ∷ d ∷ f ∷ g ∷ []) e = absurd (omega (arith, e))
eight_counts (a ∷ b ∷ c ∷ d ∷ f ∷ g ∷ h ∷ []) e = absurd (omega (arith, e))
eight_counts (a ∷ b ∷ c ∷ d ∷ f ∷ g ∷ h ∷ i ∷ []) e = refl
eight_counts (a ∷ b ∷ c ∷ d ∷ f ∷ g ∷ h ∷ i ∷ j ∷ ws) e = absurd (omega (arith, e))

-- eight numbers, each of the observers at its place.
pub counted : (ws : List ObserverList) (a b c d f g h i : ℕ) → length ws ≡ 8
    → a ≡ count_in ws 0 → b ≡ count_in ws 1 → c ≡ count_in ws 2 → d ≡ count_in ws 3 → f ≡ count_in ws 4 → g ≡ count_in ws 5 → h ≡ count_in ws 6 → i ≡ count_in ws 7
    → a ∷ b ∷ c ∷ d ∷ f ∷ g ∷ h ∷ i ∷ [] ≡ map (λ w. length w.held) ws
counted ws a b c d f g h i eight p q r s t u v w =
    (λ j. p j ∷ q j ∷ r j ∷ s j ∷ t j ∷ u j ∷ v j ∷ w j ∷ []) ∙ eight_counts ws eight
