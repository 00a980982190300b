use Rattle.std.proofs.Common.{◌≡◌, length, arith, sym, ◌++◌, ◌∷◌, ◌∙◌, [], ap, subst, map, false}
use Rattle.fc_registry.proofs.Ahead.{none_new, none_sent}
use Rattle.fc_registry.proofs.Rings.{all_new}
use Rattle.std.proofs.lemmas.List.{length-map, length-replicate, map-append, replicate-append-replicate}
use Rattle.fc_registry.specs.Slots.{new_slot}
use Rattle.fc_registry.specs.Views.{as_seen}
use Rattle.fc_registry.specs.Watches.{AreSentUpTo, AreWatched}
use Rattle.fc_registry.proofs.shard.Shard.new.Goals as goal

pub loop-slot-preserved : goal.loop-slot-preserved
loop-slot-preserved c =
    let first = new_slot c.args.first_serial in
    ap (map as_seen) c.in_ok-push.ensures.items ∙ (map-append as_seen c.loop-slot.slots.items _
    ∙ ((λ i. c.loop-slot.invariant i ++ (c.in_ok-empty.ensures i ∷ [])) ∙ replicate-append-replicate c.loop-slot._slot 1 first))

pub invariant_of-result : goal.invariant_of-result
invariant_of-result c =
    let items = c.loop-slot.slots.items in
    let eight : c.loop-slot._slot ≡ 8 = omega (arith, c.loop-slot.auto._slot-end, c.loop-slot-test.false) in (
      sym (length-map items as_seen) ∙ (ap length c.loop-slot.invariant ∙ (length-replicate c.loop-slot._slot (new_slot c.args.first_serial) ∙ eight)),
      all_new items c.loop-slot._slot c.args.first_serial c.loop-slot.invariant,
      ap length c.in_ok-make_watches.ensures,
      c.requires.index,
      subst (AreSentUpTo (map as_seen items)) (sym c.in_ok-make_watches.ensures) (none_sent (map as_seen items) c.args.index c.args.confirm_after),
      subst (AreWatched false) (sym c.in_ok-make_watches.ensures) (none_new c.args.index c.args.confirm_after),
    )
