-- The transition of a job of one slot, for all sixty-four slots.
use Rattle.std.proofs.Common.{◌≡◌, ℕ, ◌+◌, ◌*◌, ◌<◌, ◌/◌, ◌%◌, List, length, get_or, set, sym, ap, ◌∙◌, subst, ⊎_elim, arith, length-set}
use Rattle.std.proofs.lemmas.Bool.{cases_eq}
use Rattle.std.proofs.lemmas.List.{get_or-set_same, get_or-set_other}
use Rattle.fc_observe.specs.Calls.{after_calls}
use Rattle.fc_observe.specs.Observers.{ObserverList, no_observers}
use Rattle.fc_registry.specs.Changes.{after_changes}
use Rattle.fc_registry.specs.Shards.{AreShards, no_shard, shard_at, slot_in_shards}
use Rattle.fc_registry.specs.Slots.{Shard, slot_in, new_slot}
use Rattle.fc_registry.specs.Watches.{watch_at}
use Rattle.fc_registry.proofs.Writes.{watches_written}
use Rattle.fc_core.specs.Transitions.{Effect, handed, shard_moved}
use Rattle.fc_server.specs.States.{shards_moved}

module _ (shards : List Shard) (are : AreShards shards) (n : ℕ) (lt : n < 64) (m : Effect) where
  abbrev written : List Shard
  written = shards_moved m n shards

  place : n % 8 < length shards
  place = let count = are.count in omega (arith, count)

  at_place : shard_at written (n % 8) ≡ shard_moved m n (shard_at shards (n % 8))
  at_place = get_or-set_same shards (n % 8) (shard_moved m n (shard_at shards (n % 8))) no_shard place

  elsewhere : (i : ℕ) → (i ≡ n % 8 → ⊥) → shard_at written i ≡ shard_at shards i
  elsewhere i ne = get_or-set_other shards (n % 8) i (shard_moved m n (shard_at shards (n % 8))) no_shard ne

  room : n / 8 < length (shard_at shards (n % 8)).slots
  room = let size = are.size (n % 8) (omega arith) in omega (arith, size)

  -- the observers of the slot after the calls.
  abbrev called : ObserverList
  called = after_calls m.calls (watch_at (shard_at shards (n % 8)) (n / 8))

  watches_here : (shard_at written (n % 8)).watches ≡ set (shard_at shards (n % 8)).watches (n / 8) called
  watches_here = ap (λ (x : Shard). x.watches) at_place ∙ sym (watches_written m.calls (n / 8) (shard_at shards (n % 8)).watches)

  held : n / 8 < length (shard_at shards (n % 8)).watches
  held = let watched = are.watched (n % 8) (omega arith) in omega (arith, watched, lt)

  pub watch_here : watch_at (shard_at written (n % 8)) (n / 8) ≡ after_calls m.calls (watch_at (shard_at shards (n % 8)) (n / 8))
  watch_here = ap (λ (ws : List ObserverList). get_or ws (n / 8) (no_observers 0 0)) watches_here ∙ get_or-set_same (shard_at shards (n % 8)).watches (n / 8) called (no_observers 0 0) held

  -- the observers of the other slots are unchanged.
  pub watch_there : (i k : ℕ) → i < 8 → (8 * k + i ≡ n → ⊥) → watch_at (shard_at written i) k ≡ watch_at (shard_at shards i) k
  watch_there i k low ne = ⊎_elim
      (λ (e : i ≡ n % 8).
      let apart : k ≡ n / 8 → ⊥ = λ q. ne (omega (arith, e, q)) in
      subst (λ (j : ℕ). watch_at (shard_at written j) k ≡ watch_at (shard_at shards j) k) (sym e)
      (ap (λ (ws : List ObserverList). get_or ws k (no_observers 0 0)) watches_here ∙ get_or-set_other (shard_at shards (n % 8)).watches (n / 8) k called (no_observers 0 0) apart))
      (λ (other : i ≡ n % 8 → ⊥). ap (λ (x : Shard). watch_at x k) (elsewhere i other))
      (cases_eq i (n % 8))

  pub are_written : AreShards written
  are_written = record {
    count = length-set shards (n % 8) (shard_moved m n (shard_at shards (n % 8))) ∙ are.count;
    index = λ i low. ⊎_elim
        (λ (e : i ≡ n % 8). subst (λ (j : ℕ). (shard_at written j).index ≡ j) (sym e) (ap (λ (x : Shard). x.index) at_place ∙ are.index (n % 8) (omega arith)))
        (λ (ne : i ≡ n % 8 → ⊥). ap (λ (x : Shard). x.index) (elsewhere i ne) ∙ are.index i low)
        (cases_eq i (n % 8));
    size = λ i low. ⊎_elim
        (λ (e : i ≡ n % 8). subst (λ (j : ℕ). length (shard_at written j).slots ≡ 8) (sym e) (ap (λ (x : Shard). length x.slots) at_place ∙ (length-set (shard_at shards (n % 8)).slots (n / 8) _ ∙ are.size (n % 8) (omega arith))))
        (λ (ne : i ≡ n % 8 → ⊥). ap (λ (x : Shard). length x.slots) (elsewhere i ne) ∙ are.size i low)
        (cases_eq i (n % 8));
    watched = λ i low. ⊎_elim
        (λ (e : i ≡ n % 8). subst (λ (j : ℕ). length (shard_at written j).watches ≡ 8) (sym e) (ap length watches_here ∙ (length-set (shard_at shards (n % 8)).watches (n / 8) called ∙ are.watched (n % 8) (omega arith))))
        (λ (ne : i ≡ n % 8 → ⊥). ap (λ (x : Shard). length x.watches) (elsewhere i ne) ∙ are.watched i low)
        (cases_eq i (n % 8));
  }

  -- the slot that was written has the changes.
  pub slot_here : slot_in_shards written n ≡ after_changes (slot_in_shards shards n) m.changes
  slot_here = ap (λ (x : Shard). slot_in x n) at_place ∙ get_or-set_same (shard_at shards (n % 8)).slots (n / 8) _ (new_slot 0) room

  -- another slot, of the same shard or of another one, is unchanged.
  pub slot_there : (k : ℕ) → (k ≡ n → ⊥) → slot_in_shards written k ≡ slot_in_shards shards k
  slot_there k ne = ⊎_elim
      (λ (e : k % 8 ≡ n % 8).
      let apart : k / 8 ≡ n / 8 → ⊥ = λ q. ne (omega (arith, e, q)) in
      ap (λ (s : ℕ). slot_in (shard_at written s) k) e ∙ (ap (λ (x : Shard). slot_in x k) at_place ∙ (get_or-set_other (shard_at shards (n % 8)).slots (n / 8) (k / 8) _ (new_slot 0) apart ∙ ap (λ (s : ℕ). slot_in (shard_at shards s) k) (sym e))))
      (λ (ne8 : k % 8 ≡ n % 8 → ⊥). ap (λ (x : Shard). slot_in x k) (elsewhere (k % 8) ne8))
      (cases_eq (k % 8) (n % 8))

  -- the time of the slot's shard is advanced if the transition passes one.
  pub now_here : (shard_at written (n % 8)).now ≡ handed m.hands (shard_at shards (n % 8)).now
  now_here = ap (λ (x : Shard). x.now) at_place

  pub now_there : (i : ℕ) → (i ≡ n % 8 → ⊥) → (shard_at written i).now ≡ (shard_at shards i).now
  now_there i ne = ap (λ (x : Shard). x.now) (elsewhere i ne)
