use Rattle.std.proofs.Common.{◌≡◌, ◌∙◌, ◌∷◌, [], ap, arith, get_or, length-set, map, subst, sym}
use Rattle.fc_observe.specs.Calls.{NextDue}
use Rattle.fc_registry.specs.Slots.{new_slot}
use Rattle.fc_registry.specs.Views.{as_seen}
use Rattle.fc_registry.specs.Watches.{IsSentUpTo}
use Rattle.fc_registry.proofs.Ahead.{sent_after, watch_sent}
use Rattle.fc_registry.proofs.Watched.{watched_there}
use Rattle.fc_observe.specs.Observers.{ObserverList}
use Rattle.fc_observe.proofs.Nobody.{stays_empty}
use Rattle.fc_registry.proofs.shard.Shard.write_due.Goals as goal

pub invariant_of-self-3 : goal.invariant_of-self-3
invariant_of-self-3 c =
    let in_ = c.self.inside in
    let inv = c.self.invariant in
    let k = c.in-Some.place in
    let was = c.index_mut-watch.result.now in
    let n = (get_or (map as_seen in_.slots.items) k (new_slot 0)).serial in
    let sent = watch_sent in_.slots.items in_.watches.items k inv.0 inv.2
    (c.in-Some.ensures.within) inv.4 was c.next_turn.new.watch c.index_mut-watch.ensures.value
    (λ old. subst (IsSentUpTo n) (sym c.next_turn.ensures.watch) (sent_after n (NextDue c.max-self-inside.result c.noticed_at-notify_serial.result ∷ []) was
    (tt, tt) old)) in
    let empty = λ (none : was.held ≡ []). ap (λ (l : ObserverList). l.held) c.next_turn.ensures.watch
    ∙ stays_empty (NextDue c.max-self-inside.result c.noticed_at-notify_serial.result) was tt none in
    let watched = watched_there in_.watched in_.watches.items k was c.next_turn.new.watch (let lt = c.in-Some.ensures.within in let eight = inv.2 in omega
    (arith, lt, eight)) c.index_mut-watch.ensures.value empty inv.5 in
    (inv.0, inv.1, length-set in_.watches.items k c.next_turn.new.watch ∙ inv.2, inv.3, sent, watched)
