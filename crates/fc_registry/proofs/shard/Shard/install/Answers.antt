use Rattle.std.proofs.Common.{◌≡◌, ℕ, ◌≤◌, ◌∙◌, ap, subst, sym}
use Rattle.fc_registry.specs.Slots.{Slot, slot_in}
use Rattle.fc_registry.specs.Changes.{after_changes}
use Rattle.fc_registry.specs.Calls.{install_in}
use Rattle.fc_registry.specs.Record.{IsRecord}
use Rattle.fc_registry.specs.Views.{as_seen}
use Rattle.fc_registry.proofs.Ahead.{install_rises, slot_sent}
use Rattle.fc_registry.proofs.Rings.{written_rings, ring_put}
use Rattle.fc_registry.proofs.Writes.{slot_read, slot_write, now_is, slot_in_place, written}
use Rattle.fc_registry.proofs.shard.Shard.install.Goals as goal

-- the view of the state that was found is the slot with this number.
found : (c : goal.After-self-1) → as_seen c.index_mut-state.result.now ≡ slot_in c.args.self.now c.args.slot
found c =
    slot_read c.self.inside.index c.self.inside.now c.self.inside.slots.items c.self.inside.watches.items c.args.self.now c.self.view_is c.self.invariant.0 c.place.result c.index_mut-state.result.now c.place.ensures.limit c.index_mut-state.ensures.value
    ∙ ap (λ (j : ℕ). slot_in_place c.args.self.now j) c.place.ensures.place

pub returns-clause-answer : goal.returns-clause-answer
returns-clause-answer c = c.install.ensures.answer ∙ ap (λ (s : Slot). (install_in s c.args.program.value c.args.initial).answer) (found c)

pub returns-clause-slots : goal.returns-clause-slots
returns-clause-slots c =
    let in_ = c.self.inside in
    slot_write in_.index in_.now in_.slots.items in_.watches.items c.args.self.now c.self.view_is c.self.invariant.0 c.place.result in_.now c.args.self.now.now c.install.new.self _
    (now_is in_.index in_.now in_.slots.items in_.watches.items c.args.self.now c.self.view_is c.self.invariant.0)
    (c.install.ensures.slot ∙ ap (λ (s : Slot). after_changes s (install_in s c.args.program.value c.args.initial).changes) (found c))
    ∙ ap (λ (j : ℕ). written c.args.self.now c.args.self.now.now j (after_changes (slot_in c.args.self.now c.args.slot) (install_in (slot_in c.args.self.now c.args.slot) c.args.program.value c.args.initial).changes)) c.place.ensures.place

pub invariant_of-self : goal.invariant_of-self
invariant_of-self c =
    let was = c.index_mut-state.result.now in
    let rings = written_rings c.self.inside.slots.items c.place.result was c.install.new.self (c.self.invariant.0, c.self.invariant.1) c.place.ensures.limit c.index_mut-state.ensures.value
    (λ old. subst IsRecord (sym c.install.ensures.slot) (ring_put (as_seen was) c.args.program.value c.args.initial old)) in
    let sent = slot_sent c.self.inside.slots.items c.self.inside.watches.items c.place.result c.self.invariant.0 c.self.invariant.2 c.place.ensures.limit c.self.invariant.4
    was c.install.new.self c.index_mut-state.ensures.value (subst (λ (s : Slot). (as_seen was).serial ≤ s.serial) (sym c.install.ensures.slot) (install_rises (as_seen was) c.args.program.value c.args.initial)) in
    (rings.0, rings.1, c.self.invariant.2, c.self.invariant.3, sent, c.self.invariant.5)
