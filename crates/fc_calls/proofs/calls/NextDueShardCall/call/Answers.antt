use Rattle.std.proofs.Common.{◌≡◌, ◌∙◌, ℕ, List, Option, None, Some, add-zero, ap, refl, sym}
use Rattle.std.specs.Prelude.{length, sum_by}
use Rattle.fc_registry.specs.Slots.{Shard, Slot}
use Rattle.fc_registry.specs.Watches.{after_due, at_time, due_place}
use Rattle.fc_calls.specs.Kept.{serial_of}
use Rattle.fc_calls.proofs.Confirming.{due_confirms}
use Rattle.fc_calls.proofs.calls.NextDueShardCall.call.Goals as goal

-- the grant of a lease changes no slot.
same_slots : (place : Option ℕ) (shard : Shard) → (after_due place shard).slots ≡ shard.slots
same_slots None shard = refl
same_slots (Some k) shard = refl

given_slots : (shard new : Shard) (now : ℕ) → new ≡ after_due (due_place (at_time shard now)) (at_time shard now) → new.slots ≡ shard.slots
given_slots shard new now after = ap (λ (s : Shard). s.slots) after ∙ same_slots (due_place (at_time shard now)) (at_time shard now)

pub returns-clause-eight : goal.returns-clause-eight
returns-clause-eight c = ap length (given_slots c.args.shard.now c.write_due.new.self c.args.self.now c.write_due.ensures.after) ∙ c.requires.eight

pub returns-clause-risen : goal.returns-clause-risen
returns-clause-risen c =
    ap (λ (slots : List Slot). sum_by serial_of slots) (given_slots c.args.shard.now c.write_due.new.self c.args.self.now c.write_due.ensures.after)
    ∙ sym (add-zero (sum_by serial_of c.args.shard.now.slots))

pub returns-clause-confirms : goal.returns-clause-confirms
returns-clause-confirms c =
    let at = at_time c.args.shard.now c.args.self.now in
    due_confirms (due_place at) at c.write_due.new.self c.write_due.ensures.after
