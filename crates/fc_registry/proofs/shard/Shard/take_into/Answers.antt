use Rattle.std.proofs.Common.{◌≡◌, ◌∙◌, [], ap, arith, get_or, length-set, map, subst, sym}
use Rattle.fc_observe.specs.Observers.{ObserverList}
use Rattle.fc_observe.specs.declared.entry.Turn.{Turn}
use Rattle.fc_observe.proofs.Nobody.{empty_after}
use Rattle.fc_registry.specs.Calls.{turn_calls}
use Rattle.fc_registry.specs.Slots.{new_slot}
use Rattle.fc_registry.specs.Views.{as_seen}
use Rattle.fc_registry.specs.Watches.{IsSentUpTo}
use Rattle.fc_registry.proofs.Ahead.{sent_after, turn_in, watch_sent}
use Rattle.fc_registry.proofs.Watched.{turn_enters, watched_there}
use Rattle.fc_registry.proofs.shard.Shard.take_into.Goals as goal

pub invariant_of-self : goal.invariant_of-self
invariant_of-self c =
    let in_ = c.self.inside in
    let inv = c.self.invariant in
    let k = c.place-place.result in
    let was = c.index_mut-watch.result.now in
    let present = (as_seen c.index-in-Some.result.now).present in
    let n = (get_or (map as_seen in_.slots.items) k (new_slot 0)).serial in
    let sent = watch_sent in_.slots.items in_.watches.items k inv.0 inv.2 c.place-place.ensures.limit inv.4 was c.take_turn.new.watch c.index_mut-watch.ensures.value
    (λ old. subst (IsSentUpTo n) (sym c.take_turn.ensures.watch) (sent_after n _ was (turn_in n
    (record { slot = c.number-slot.result; number = c.in-Some.number }) in_.now present was) old)) in
    let turn : Turn = record { slot = c.number-slot.result; number = c.in-Some.number } in
    let empty = λ (none : was.held ≡ []). ap (λ (l : ObserverList). l.held) c.take_turn.ensures.watch
    ∙ empty_after (turn_calls turn in_.now present was) was (turn_enters turn in_.now present was) none in
    let watched = watched_there in_.watched in_.watches.items k was c.take_turn.new.watch
    (let lt = c.place-place.ensures.limit in let eight = inv.2 in omega (arith, lt, eight)) c.index_mut-watch.ensures.value empty inv.5 in
    (inv.0, inv.1, length-set in_.watches.items k c.take_turn.new.watch ∙ inv.2, inv.3, sent, watched)
