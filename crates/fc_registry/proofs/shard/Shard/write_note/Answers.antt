use Rattle.std.proofs.Common.{◌≡◌, ℕ, ◌<◌, ◌∙◌, [], ap, arith, get_or, length-set, map, subst, sym}
use Rattle.fc_observe.specs.Observers.{ObserverList, list_at_time}
use Rattle.fc_observe.proofs.Nobody.{empty_after}
use Rattle.fc_ticket.specs.Notes.{IsNotedIn, note_calls, noted_as, sent_of, ticket_told}
use Rattle.fc_registry.specs.Slots.{Slot, new_slot}
use Rattle.fc_registry.specs.Views.{as_seen}
use Rattle.fc_registry.specs.Watches.{IsSentUpTo}
use Rattle.fc_registry.proofs.Watched.{note_enters, watched_there}
use Rattle.fc_registry.proofs.Ahead.{sent_noted, slot_there, watch_sent}
use Rattle.fc_registry.proofs.shard.Shard.write_note.Goals as goal

pub invariant_of-self : goal.invariant_of-self
invariant_of-self c =
    let in_ = c.self.inside in
    let inv = c.self.invariant in
    let k = c.from-place.result in
    let at = c.from-place.ensures in
    let slot = c.requires.slot in
    let lt : k < 8 = omega (arith, at, slot) in
    let was = c.index_mut-watch.result.now in
    let now = c.max-self-inside.result in
    let n = (get_or (map as_seen in_.slots.items) k (new_slot 0)).serial in
    let serial : c.serial-serial.result ≡ n = c.serial-serial.ensures
    ∙ ap (λ (s : Slot). s.serial) (slot_there in_.slots.items in_.watches.items k inv.0 inv.2 lt inv.4 c.index.result.now c.index.ensures) in
    let noted = noted_as c.note.result c.note.new.emission in
    let is = subst (λ (m : ℕ). IsNotedIn c.args.told.now c.args.turn c.args.id m (list_at_time now was) noted) serial c.note.ensures.noted in
    let sent = watch_sent in_.slots.items in_.watches.items k inv.0 inv.2 lt inv.4 was c.note.new.watch c.index_mut-watch.ensures.value
    (λ old. subst (IsSentUpTo n) (sym c.note.ensures.watch) (sent_noted n c.args.told.now c.args.turn c.args.id c.args.random now
    (list_at_time now was) was noted is old)) in
    let calls = note_calls c.args.turn c.args.id c.args.random now (ticket_told c.args.told.now) (sent_of noted) in
    let enters = note_enters c.args.turn c.args.id c.args.random now (ticket_told c.args.told.now) (sent_of noted) in
    let empty = λ (none : was.held ≡ []). ap (λ (l : ObserverList). l.held) c.note.ensures.watch ∙ empty_after calls was enters none in
    let watched = watched_there in_.watched in_.watches.items k was c.note.new.watch (let eight = inv.2 in omega
    (arith, lt, eight)) c.index_mut-watch.ensures.value empty inv.5 in
    (inv.0, inv.1, length-set in_.watches.items k c.note.new.watch ∙ inv.2, inv.3, sent, watched)
