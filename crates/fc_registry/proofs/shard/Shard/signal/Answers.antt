use Rattle.std.proofs.Common.{◌≡◌, ℕ, ◌∙◌, ◌++◌, ap, drop, length, map, subst, sym, take}
use Rattle.std.proofs.Math.Seq.{take-append_seam}
use Rattle.std.proofs.lemmas.List.{length-map}
use Rattle.fc_observe.specs.Calls.{observers_after}
use Rattle.fc_registry.specs.Views.{as_seen}
use Rattle.fc_registry.specs.Watches.{AreSentUpTo, AreWatched, signal_call}
use Rattle.fc_registry.proofs.Watched.{watched_everywhere}
use Rattle.fc_registry.proofs.Ahead.{sent_everywhere, signal_in}
use Rattle.fc_registry.proofs.shard.Shard.signal.Goals as goal

pub invariant_of-self : goal.invariant_of-self
invariant_of-self c =
    let in_ = c.self.inside in
    let inv = c.self.invariant in
    let call = signal_call c.args.reset c.args.endpoint c.args.id in
    let f = observers_after call in
    let old = in_.watches.items in
    let new = c.signal_all.new.watches in
    let is = c.signal_all.ensures ∙ ap (map f) c.deref_mut.ensures.value in
    let many : in_.watches.len ≡ length new = sym c.deref_mut.ensures.len ∙ sym (ap length c.signal_all.ensures ∙ length-map c.deref_mut.result.now f) in
    let after : take in_.watches.len (new ++ drop (length new) old) ≡ map f old = ap (λ (n : ℕ). take n (new ++ drop (length new) old)) many
    ∙ (take-append_seam new (drop (length new) old) ∙ is) in
    let sent = sent_everywhere call (map as_seen in_.slots.items) old (λ n. signal_in n c.args.reset c.args.endpoint c.args.id) inv.4 in
    let watched = watched_everywhere in_.watched c.args.reset c.args.endpoint c.args.id old inv.5 in (
      inv.0,
      inv.1,
      ap length after ∙ (length-map old f
          ∙ inv.2),
      inv.3,
      subst (AreSentUpTo (map as_seen in_.slots.items)) (sym after) sent,
      subst (AreWatched in_.watched) (sym after) watched,
    )
