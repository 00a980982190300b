use Rattle.std.proofs.Common.{◌≡◌, ◌∙◌, ℕ, false, true, refl, subst, sym}
use Rattle.fc_registry.specs.Slots.{Shard}
use Rattle.fc_registry.specs.Watches.{at_time, is_idle}
use Rattle.fc_filed.proofs.laws.overdue_shards_are_not_skipped.Goals as goal

busy : (s t : Shard) (now : ℕ) → is_idle (at_time s now) ≡ false → t ≡ s → is_idle (at_time t now) ≡ true → ⊥
busy s t now not is idle = absurd (cc (sym not ∙ subst (λ (x : Shard). is_idle (at_time x now) ≡ true) is idle))

pub returns : goal.returns
returns c o bytes = (record { shard = _; led = refl; idle = refl }, λ late. busy _ late.shard 5000 refl late.led late.idle)
