use Rattle.std.proofs.Common.{◌≡◌, ℕ, ◌∙◌, ap, subst, List}
use Rattle.std.specs.Prelude.{IfErr, Result, Ok, Err, OnErr, OnOk}
use Rattle.std.proofs.lemmas.List.{set-get_or}
use Rattle.fc_registry.specs.Slots.{Slot, new_slot, slot_in}
use Rattle.fc_registry.specs.Views.{as_seen}
use Rattle.fc_registry.specs.Restored.{restored_slot}
use Rattle.fc_registry.specs.Starts.{IsRestoreError}
use Rattle.fc_registry.proofs.Ahead.{slot_sent}
use Rattle.fc_registry.proofs.Rings.{record_either, written_rings}
use Rattle.fc_registry.proofs.Writes.{slot_read, slot_write, now_is, slot_in_place, written}
use Rattle.fc_registry.proofs.shard.Shard.restore.Goals as goal

then_ok : {X E A B : Type 0} (r : Result X E) → OnOk r A → (A → B) → OnOk r B
then_ok (Ok x) a f = f a
then_ok (Err e) a f = a

then_err : {X E A B : Type 0} (r : Result X E) → OnErr r A → (A → B) → OnErr r B
then_err (Ok x) a f = a
then_err (Err e) a f = f a

-- the view of the state that was found is the slot at this place.
found : (c : goal.After-self-1) → as_seen c.index_mut-state.result.now ≡ slot_in_place c.args.self.now c.place.result
found c =
    slot_read c.self.inside.index c.self.inside.now c.self.inside.slots.items c.self.inside.watches.items c.args.self.now c.self.view_is c.self.invariant.0 c.place.result c.index_mut-state.result.now c.place.ensures.limit c.index_mut-state.ensures.value

pub returns-clause-restored : goal.returns-clause-restored
returns-clause-restored c =
    let in_ = c.self.inside in
    let new = restored_slot c.args.stored.now in
    then_ok c.restore.result c.restore.ensures.restored (λ is.
    slot_write in_.index in_.now in_.slots.items in_.watches.items c.args.self.now c.self.view_is c.self.invariant.0 c.place.result in_.now c.args.self.now.now c.restore.new.self new
    (now_is in_.index in_.now in_.slots.items in_.watches.items c.args.self.now c.self.view_is c.self.invariant.0)
    is
    ∙ ap (λ (j : ℕ). written c.args.self.now c.args.self.now.now j new) c.place.ensures.place)

pub returns-clause-unchanged : goal.returns-clause-unchanged
returns-clause-unchanged c =
    let in_ = c.self.inside in
    then_err c.restore.result c.restore.ensures.unchanged (λ same.
    slot_write in_.index in_.now in_.slots.items in_.watches.items c.args.self.now c.self.view_is c.self.invariant.0 c.place.result in_.now c.args.self.now.now c.restore.new.self (slot_in_place c.args.self.now c.place.result)
    (now_is in_.index in_.now in_.slots.items in_.watches.items c.args.self.now c.self.view_is c.self.invariant.0)
    (ap as_seen same ∙ found c)
    ∙ ap (λ (xs : List Slot). record c.args.self.now { slots = xs }) (set-get_or c.args.self.now.slots c.place.result (new_slot 0)))

pub returns-clause-cause : goal.returns-clause-cause
returns-clause-cause c =
    let is : as_seen c.index_mut-state.result.now ≡ slot_in c.args.self.now c.args.slot = found c ∙ ap (λ (j : ℕ). slot_in_place c.args.self.now j) c.place.ensures.place in
    subst (λ (s : Slot). IfErr c.restore.result (IsRestoreError s c.args.stored.now)) is c.restore.ensures.cause

pub invariant_of-self : goal.invariant_of-self
invariant_of-self c =
    let was = c.index_mut-state.result.now in
    let rings = written_rings c.self.inside.slots.items c.place.result was c.restore.new.self (c.self.invariant.0, c.self.invariant.1) c.place.ensures.limit c.index_mut-state.ensures.value
    (record_either c.restore.result was c.restore.new.self c.restore.ensures.record c.restore.ensures.unchanged) in
    let sent = slot_sent c.self.inside.slots.items c.self.inside.watches.items c.place.result c.self.invariant.0 c.self.invariant.2 c.place.ensures.limit c.self.invariant.4
    was c.restore.new.self c.index_mut-state.ensures.value c.restore.ensures.rises in
    (rings.0, rings.1, c.self.invariant.2, c.self.invariant.3, sent, c.self.invariant.5)
