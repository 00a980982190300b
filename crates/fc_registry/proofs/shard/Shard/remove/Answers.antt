use Rattle.std.proofs.Common.{◌≡◌, ℕ, ◌≤◌, ◌∙◌, ap, subst, sym}
use Rattle.fc_registry.specs.Slots.{Slot, slot_in}
use Rattle.fc_registry.specs.Changes.{after_changes}
use Rattle.fc_registry.specs.Calls.{remove_from}
use Rattle.fc_registry.specs.Record.{IsRecord}
use Rattle.fc_registry.specs.Views.{as_seen}
use Rattle.fc_registry.proofs.Ahead.{remove_rises, slot_sent}
use Rattle.fc_registry.proofs.Rings.{written_rings, ring_clear}
use Rattle.fc_registry.proofs.Writes.{slot_read, slot_write, now_is, slot_in_place, written}
use Rattle.fc_registry.proofs.shard.Shard.remove.Goals as goal

-- the view of the state that was found is the slot with this number.
found : (c : goal.After-self-1) → as_seen c.index_mut-state.result.now ≡ slot_in c.args.self.now c.args.slot
found c =
    slot_read c.self.inside.index c.self.inside.now c.self.inside.slots.items c.self.inside.watches.items c.args.self.now c.self.view_is c.self.invariant.0 c.place.result c.index_mut-state.result.now c.place.ensures.limit c.index_mut-state.ensures.value
    ∙ ap (λ (j : ℕ). slot_in_place c.args.self.now j) c.place.ensures.place

pub returns-clause-answer : goal.returns-clause-answer
returns-clause-answer c = c.remove.ensures.answer ∙ ap (λ (s : Slot). (remove_from s).answer) (found c)

pub returns-clause-slots : goal.returns-clause-slots
returns-clause-slots c =
    let in_ = c.self.inside in
    slot_write in_.index in_.now in_.slots.items in_.watches.items c.args.self.now c.self.view_is c.self.invariant.0 c.place.result in_.now c.args.self.now.now c.remove.new.self _
    (now_is in_.index in_.now in_.slots.items in_.watches.items c.args.self.now c.self.view_is c.self.invariant.0)
    (c.remove.ensures.slot ∙ ap (λ (s : Slot). after_changes s (remove_from s).changes) (found c))
    ∙ ap (λ (j : ℕ). written c.args.self.now c.args.self.now.now j (after_changes (slot_in c.args.self.now c.args.slot) (remove_from (slot_in c.args.self.now c.args.slot)).changes)) c.place.ensures.place

pub invariant_of-self : goal.invariant_of-self
invariant_of-self c =
    let was = c.index_mut-state.result.now in
    let rings = written_rings c.self.inside.slots.items c.place.result was c.remove.new.self (c.self.invariant.0, c.self.invariant.1) c.place.ensures.limit c.index_mut-state.ensures.value
    (λ old. subst IsRecord (sym c.remove.ensures.slot) (ring_clear (as_seen was) old)) in
    let sent = slot_sent c.self.inside.slots.items c.self.inside.watches.items c.place.result c.self.invariant.0 c.self.invariant.2 c.place.ensures.limit c.self.invariant.4
    was c.remove.new.self c.index_mut-state.ensures.value (subst (λ (s : Slot). (as_seen was).serial ≤ s.serial) (sym c.remove.ensures.slot) (remove_rises (as_seen was))) in
    (rings.0, rings.1, c.self.invariant.2, c.self.invariant.3, sent, c.self.invariant.5)
