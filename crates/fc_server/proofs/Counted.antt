-- The numbers of observers of eight shards.
use Rattle.std.proofs.Common.{◌≡◌, ◌∙◌, ◌/◌, ◌%◌, length, map, ℕ, zero, suc, ◌<◌, List, [], ◌∷◌, arith, ap, refl}
use Rattle.std.specs.Prelude.{slice_index_or}
use Rattle.fc_observe.specs.Observers.{ObserverList, no_observers}
use Rattle.fc_registry.specs.Shards.{shard_at}
use Rattle.fc_registry.specs.Slots.{Shard}
use Rattle.fc_registry.specs.Watches.{observer_counts, watch_at}
use Rattle.fc_server.specs.Gauges.{counts_in, observers_of}

-- what holds of each of eight lists, by its index.
pub of_eight : (P : ℕ → List ℕ → Type 0) (a b c d e f g h : List ℕ) → P 0 a → P 1 b → P 2 c → P 3 d → P 4 e → P 5 f → P 6 g → P 7 h
    → (shard : ℕ) → shard < 8 → P shard (slice_index_or (a ∷ b ∷ c ∷ d ∷ e ∷ f ∷ g ∷ h ∷ []) shard [])
of_eight P a b c d e f g h p0 p1 p2 p3 p4 p5 p6 p7 zero lt = p0
of_eight P a b c d e f g h p0 p1 p2 p3 p4 p5 p6 p7 (suc zero) lt = p1
of_eight P a b c d e f g h p0 p1 p2 p3 p4 p5 p6 p7 (suc (suc zero)) lt = p2
of_eight P a b c d e f g h p0 p1 p2 p3 p4 p5 p6 p7 (suc (suc (suc zero))) lt = p3
of_eight P a b c d e f g h p0 p1 p2 p3 p4 p5 p6 p7 (suc (suc (suc (suc zero)))) lt = p4
of_eight P a b c d e f g h p0 p1 p2 p3 p4 p5 p6 p7 (suc (suc (suc (suc (suc zero))))) lt = p5
of_eight P a b c d e f g h p0 p1 p2 p3 p4 p5 p6 p7 (suc (suc (suc (suc (suc (suc zero)))))) lt = p6
of_eight P a b c d e f g h p0 p1 p2 p3 p4 p5 p6 p7 (suc (suc (suc (suc (suc (suc (suc zero))))))) lt = p7
of_eight P a b c d e f g h p0 p1 p2 p3 p4 p5 p6 p7 (suc (suc (suc (suc (suc (suc (suc (suc n)))))))) lt = absurd (omega (arith, lt))

count_at : (ws : List ObserverList) (k : ℕ) → slice_index_or (map (λ w. length w.held) ws) k 0 ≡ length (slice_index_or ws k (no_observers 0 0)).held
count_at [] k = refl
count_at (w ∷ ws) zero = refl
count_at (w ∷ ws) (suc k) = count_at ws k

-- slot n has as many observers as its shard lists for it.
pub observers_in : (shards : List Shard) (n : ℕ) → observers_of (counts_in shards).shards n ≡ length (watch_at (shard_at shards (n % 8)) (n / 8)).held
observers_in shards n =
    let each : ℕ → List ℕ = λ k. observer_counts (shard_at shards k) in
    let below : n % 8 < 8 = omega arith in
    let shard = of_eight (λ k counts. counts ≡ each k) (each 0) (each 1) (each 2) (each 3) (each 4) (each 5) (each 6) (each 7) refl refl refl refl refl refl refl refl (n % 8) below in
    ap (λ (counts : List ℕ). slice_index_or counts (n / 8) 0) shard ∙ count_at (shard_at shards (n % 8)).watches (n / 8)
