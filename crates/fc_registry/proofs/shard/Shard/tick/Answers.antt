use Rattle.std.proofs.Common.{◌≡◌, ◌∙◌, ◌∷◌, [], ap, arith, get_or, length-set, map, subst, sym}
use Rattle.fc_observe.specs.Calls.{Tick}
use Rattle.fc_registry.specs.Slots.{new_slot}
use Rattle.fc_registry.specs.Views.{as_seen}
use Rattle.fc_registry.specs.Watches.{IsSentUpTo}
use Rattle.fc_registry.proofs.Ahead.{sent_after, watch_sent}
use Rattle.fc_registry.proofs.Watched.{watched_there}
use Rattle.fc_observe.specs.Observers.{ObserverList}
use Rattle.fc_observe.proofs.Nobody.{stays_empty}
use Rattle.fc_registry.proofs.shard.Shard.tick.Goals as goal

pub invariant_of-self-in-Some : goal.invariant_of-self-in-Some
invariant_of-self-in-Some c =
    let in_ = c.self.inside in
    let inv = c.self.invariant in
    let k = c.in-Some.place in
    let was = c.index_mut.result.now in
    let n = (get_or (map as_seen in_.slots.items) k (new_slot 0)).serial in
    let sent = watch_sent in_.slots.items in_.watches.items k inv.0 inv.2 (c.in-Some.ensures.within) inv.4 was c.tick.new.self c.index_mut.ensures.value
    (λ old. subst (IsSentUpTo n) (sym c.tick.ensures.after) (sent_after n (Tick c.max-self-inside.result ∷ []) was (tt, tt) old)) in
    let empty = λ (none : was.held ≡ []). ap (λ (l : ObserverList). l.held) c.tick.ensures.after ∙ stays_empty (Tick c.max-self-inside.result) was tt none in
    let watched = watched_there in_.watched in_.watches.items k was c.tick.new.self (let lt = c.in-Some.ensures.within in let eight = inv.2 in omega
    (arith, lt, eight)) c.index_mut.ensures.value empty inv.5 in
    (inv.0, inv.1, length-set in_.watches.items k c.tick.new.self ∙ inv.2, inv.3, sent, watched)
