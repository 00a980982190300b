-- In an idle shard no notification has timed out, and no observer has a pending one.
use Rattle.std.proofs.Common.{◌≡◌, ℕ, true, Option, Some, None, refl, ap}
use Rattle.std.specs.Prelude.{is_none}
use Rattle.std.proofs.lemmas.Bool.{and_parts}
use Rattle.fc_observe.specs.declared.observers.Ticked.TheVariants.{Quiet}
use Rattle.fc_registry.specs.Slots.{Shard}
use Rattle.fc_registry.specs.Turns.{due_job}
use Rattle.fc_registry.specs.Watches.{after_due, shard_after_tick, due_place, is_idle, overdue_place, ticked_in}

none_is : (o : Option ℕ) → is_none o ≡ true → o ≡ None
none_is None e = refl
none_is (Some k) e = absurd (cc e)

pub ticks_nothing : (shard : Shard) → is_idle shard ≡ true → (ticked_in (overdue_place shard) shard ≡ Quiet) × (shard_after_tick (overdue_place shard) shard ≡ shard)
ticks_nothing shard idle =
    let none = none_is (overdue_place shard) (and_parts _ _ idle).0 in
    (ap (λ (k : Option ℕ). ticked_in k shard) none, ap (λ (k : Option ℕ). shard_after_tick k shard) none)

pub nobody_is_due : (shard : Shard) → is_idle shard ≡ true → (due_job (due_place shard) shard ≡ None) × (after_due (due_place shard) shard ≡ shard)
nobody_is_due shard idle =
    let none = none_is (due_place shard) (and_parts _ _ idle).1 in
    (ap (λ (k : Option ℕ). due_job k shard) none, ap (λ (k : Option ℕ). after_due k shard) none)
