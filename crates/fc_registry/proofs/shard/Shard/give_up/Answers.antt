use Rattle.std.proofs.Common.{◌≡◌, ◌∙◌, ◌∷◌, [], ap, arith, get_or, length-set, map, subst, sym}
use Rattle.fc_observe.specs.Calls.{GiveUp}
use Rattle.fc_registry.specs.Slots.{new_slot}
use Rattle.fc_registry.specs.Views.{as_seen}
use Rattle.fc_registry.specs.Watches.{IsSentUpTo}
use Rattle.fc_registry.proofs.Ahead.{sent_after, watch_sent}
use Rattle.fc_registry.proofs.Watched.{watched_there}
use Rattle.fc_observe.specs.Observers.{ObserverList}
use Rattle.fc_observe.proofs.Nobody.{stays_empty}
use Rattle.fc_registry.proofs.shard.Shard.give_up.Goals as goal

pub invariant_of-self : goal.invariant_of-self
invariant_of-self c =
    let in_ = c.self.inside in
    let inv = c.self.invariant in
    let k = c.from.result in
    let was = c.index_mut.result.now in
    let n = (get_or (map as_seen in_.slots.items) k (new_slot 0)).serial in
    let sent = watch_sent in_.slots.items in_.watches.items k inv.0 inv.2 (let at = c.from.ensures in let slot = c.requires.slot in omega
    (arith, at, slot)) inv.4 was c.give_up.new.self c.index_mut.ensures.value
    (λ old. subst (IsSentUpTo n) (sym c.give_up.ensures) (sent_after n (GiveUp c.args.turn c.max-self-inside.result ∷ []) was (tt, tt) old)) in
    let empty = λ (none : was.held ≡ []). ap (λ (l : ObserverList). l.held) c.give_up.ensures
    ∙ stays_empty (GiveUp c.args.turn c.max-self-inside.result) was tt none in
    let watched = watched_there in_.watched in_.watches.items k was c.give_up.new.self
    (let at = c.from.ensures in let slot = c.requires.slot in let eight = inv.2 in omega
    (arith, at, slot, eight)) c.index_mut.ensures.value empty inv.5 in
    (inv.0, inv.1, length-set in_.watches.items k c.give_up.new.self ∙ inv.2, inv.3, sent, watched)
