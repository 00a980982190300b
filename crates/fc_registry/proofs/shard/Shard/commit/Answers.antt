use Rattle.std.proofs.Common.{◌≡◌, ℕ, ◌/◌, ◌<◌, ◌∙◌, ap, subst, sym, max, refl, arith, get_or, set, length-set}
use Rattle.std.proofs.lemmas.List.{get_or_default}
use Rattle.fc_observe.specs.Calls.{after_calls}
use Rattle.fc_observe.specs.Observers.{ObserverList, no_observers}
use Rattle.fc_ticket.specs.declared.job.Origin.{Origin}
use Rattle.fc_registry.specs.Slots.{Shard, Slot}
use Rattle.fc_registry.specs.Calls.{IsCommit, commit_calls}
use Rattle.fc_registry.specs.Views.{as_seen}
use Rattle.fc_registry.specs.Watches.{IsSentUpTo, watch_at, watches_called}
use Rattle.fc_registry.proofs.Watched.{true_of_not, watched_if}
use Rattle.fc_registry.proofs.Ahead.{both_sent, sent_committed}
use Rattle.fc_registry.proofs.Rings.{written_rings, ring_kept}
use Rattle.fc_registry.proofs.Writes.{slot_read, slot_and_watch_write, now_is, slot_in_place}
use Rattle.fc_registry.proofs.shard.Shard.commit.Goals as goal

pub returns : goal.returns
returns c =
    let in_ = c.self.inside in
    let shard = c.args.self.now in
    let t = c.args.ticket.now in
    let ran = c.args.outcome.now in
    let k = c.place-place.result in
    let answer = c.commit-answer.result in
    let after = as_seen c.commit-answer.new.self in
    let place : k ≡ t.origin.slot / 8 = c.place-place.ensures.place ∙ ap (λ (o : Origin). o.slot / 8) c.origin.ensures in
    let lt : k < 8 = c.place-place.ensures.limit in
    let eight = c.self.invariant.2 in
    let found = slot_read in_.index in_.now in_.slots.items in_.watches.items shard c.self.view_is c.self.invariant.0 k c.index_mut-slot.result.now lt c.index_mut-slot.ensures.value
    ∙ ap (λ (j : ℕ). slot_in_place shard j) place in
    let was = c.index_mut-watch.result.now in
    let held : was ≡ get_or in_.watches.items k (no_observers 0 0) = c.index_mut-watch.ensures.value
    ∙ get_or_default in_.watches.items k was (no_observers 0 0) (omega (arith, lt, eight)) in
    let watch : was ≡ watch_at shard (t.origin.slot / 8) = held ∙ (ap (λ (s : Shard). watch_at s k) c.self.view_is ∙ ap (watch_at shard) place) in
    let at : c.max-self-inside.result ≡ max shard.now c.args.now = c.max-self-inside.ensures
    ∙ ap (λ (m : ℕ). max m c.args.now) (now_is in_.index in_.now in_.slots.items in_.watches.items shard c.self.view_is c.self.invariant.0) in
    let calls = commit_calls answer (max shard.now c.args.now) t in
    record {
      after = after;
      commit = subst (λ (w : ObserverList). IsCommit ran t (slot_in_place shard (t.origin.slot / 8)) w answer after) watch (subst (λ
          (s : Slot). IsCommit ran t s was answer after) found c.commit-answer.ensures.commit);
      shard = slot_and_watch_write in_.index in_.now in_.slots.items in_.watches.items shard c.self.view_is c.self.invariant.0 k c.max-self-inside.result
          (max shard.now c.args.now) c.commit-answer.new.self after calls was c.commit-answer.new.watch
          at refl held (c.commit-answer.ensures.watch ∙ ap (λ (m : ℕ). after_calls (commit_calls answer m t) was) at)
          ∙ ap (λ (j : ℕ). record shard { now = max shard.now c.args.now; slots = set shard.slots j after; watches = watches_called calls j shard.watches }) place;
    }

pub invariant_of-self : goal.invariant_of-self
invariant_of-self c =
    let was = c.index_mut-watch.result.now in
    let rings = written_rings c.self.inside.slots.items c.place-place.result c.index_mut-slot.result.now c.commit-answer.new.self
    (c.self.invariant.0, c.self.invariant.1) c.place-place.ensures.limit c.index_mut-slot.ensures.value
    (ring_kept c.args.outcome.now c.args.ticket.now (as_seen c.index_mut-slot.result.now) was c.commit-answer.result
    (as_seen c.commit-answer.new.self) c.commit-answer.ensures.commit) in
    let now = as_seen c.commit-answer.new.self in
    let sent = both_sent c.self.inside.slots.items c.self.inside.watches.items c.place-place.result c.self.invariant.0 c.self.invariant.2 c.place-place.ensures.limit c.self.invariant.4
    c.index_mut-slot.result.now c.commit-answer.new.self was c.commit-answer.new.watch c.index_mut-slot.ensures.value c.index_mut-watch.ensures.value
    (λ old. subst (IsSentUpTo now.serial) (sym c.commit-answer.ensures.watch) (sent_committed c.args.outcome.now c.args.ticket.now
    (as_seen c.index_mut-slot.result.now) was c.commit-answer.result now c.max-self-inside.result c.commit-answer.ensures.commit old)) in
    let eight = c.self.invariant.2 in
    let lt = c.place-place.ensures.limit in
    let watched = watched_if c.self.inside.watched _ c.self.inside.watches.items c.place-place.result was c.commit-answer.new.watch (omega
    (arith, lt, eight)) c.index_mut-watch.ensures.value (λ seen. c.is_empty.ensures.0 (true_of_not c.is_empty.result seen)) c.self.invariant.5 in (
      rings.0,
      rings.1,
      length-set c.self.inside.watches.items c.place-place.result c.commit-answer.new.watch
          ∙ c.self.invariant.2,
      c.self.invariant.3,
      sent,
      watched,
    )
