use Rattle.std.proofs.Common.{◌≡◌, ◌∙◌, true, false, Some, ap, refl, subst, sym}
use Rattle.std.proofs.lemmas.Bool.{false≢true}
use Rattle.fc_store.specs.declared.store.SlotUpdate.{SlotUpdate}
use Rattle.fc_registry.specs.Slots.{Shard, slot_in}
use Rattle.fc_store.specs.Saves.{SavesUpdate}
use Rattle.fc_linear.specs.Operations.{FailsToSave}
use Rattle.fc_filed.specs.Parts.{ShardCalls}
use Rattle.fc_filed.specs.Saves.{IsUpdateIn, ShardSteps, StoreSteps, refused_save, stored_save, update_of}
use Rattle.fc_filed.specs.Threads.{entry_with}
use Rattle.fc_filed.proofs.Leading.{entries_filed}
use Rattle.fc_filed.proofs.Shards.{calls_more}
use Rattle.fc_filed.proofs.shard.FiledShard.change.Goals as goal

refusal_of : (a b : SlotUpdate) → FailsToSave a ≡ FailsToSave b → Some (refused_save a) ≡ Some (refused_save b)
refusal_of a b same = ap (λ (u : SlotUpdate). Some (refused_save u)) (cc same)

pub invariant_of-self : goal.invariant_of-self
invariant_of-self g c =
    let x = c.self.inside.shard in
    let y = c.make_as.new.shard in
    let call = c.args.call in
    let answer = c.make_as.result in
    let room = c.make_as.new.room in
    let n = g.C.Change.slot call in
    let change = g.C.Change.change call in
    let update = update_of (slot_in x n) n change (g.C.Change.image call) in
    let operation = g.C.FiledCall.operation x.index call answer room in
    let e = entry_with (Some (stored_save update)) c.args.who c.args.tracks.now operation in
    let at = ap (λ (s : ShardCalls). s.shard) (sym c.self.view_is) in
    let is_of = subst (λ (s : Shard). g.C.FiledCall.is_of call s) at c.requires.is_of in
    let right = g.met.C.FiledCall.right call x answer room y is_of c.make_as.ensures.does in
    let of : IsUpdateIn x change update = record { owned = g.met.C.FiledChange.of_slot call x is_of; planned = c.in-Saved.ensures.planned (λ p. absurd (cc p)) } in
    let saved = c.in-Saved.ensures.saved refl in
    let steps : ShardSteps g.J.ServerName.persistent e x y = record {
      does = right.does;
      saved = λ p. record {
        change = change;
        of = of;
        image = λ v. saved.1 (g.met.C.FiledChange.verified x.index call answer room v);
        made = (saved.2 answer room y c.make_as.ensures.does).1;
      };
      unsaved = λ p. absurd (false≢true (sym p ∙ c.requires.persistent));
      refused = λ u same. absurd (right.logged u same);
    } in
    calls_more g.J.ServerName.first g.J.ServerName.persistent g.P.Part.key c.self.inside.track c.make_as.new.track e x y c.make_as.ensures.track c.self.invariant steps c.make_as.ensures.kept.index c.make_as.ensures.eight

pub invariant_of-store-in-Saved : goal.invariant_of-store-in-Saved
invariant_of-store-in-Saved g c =
    let x = c.self.inside.shard in
    let call = c.args.call in
    let n = g.C.Change.slot call in
    let update = update_of (slot_in x n) n (g.C.Change.change call) (g.C.Change.image call) in
    let e = entry_with (Some (stored_save update)) c.args.who c.args.tracks.now (g.C.FiledCall.operation x.index call c.make_as.result c.make_as.new.room) in
    let was = c.store.invariant in
    let saved = (c.in-Saved.ensures.saved refl).0 in
    record {
      first = was.first;
      opened = was.opened;
      begins = was.begins;
      led = entries_filed (StoreSteps g.K.Store) c.store.inside.track c.make_as.new.saves e was.first c.store.inside.store c.save_planned.new.store c.make_as.ensures.saves was.led saved;
      ready = saved.ready was.ready;
    }

pub invariant_of-self-in-Refused-1 : goal.invariant_of-self-in-Refused-1
invariant_of-self-in-Refused-1 g c =
    let x = c.self.inside.shard in
    let call = c.args.call in
    let n = g.C.Change.slot call in
    let change = g.C.Change.change call in
    let update = update_of (slot_in x n) n change (g.C.Change.image call) in
    let e = entry_with (Some (refused_save update)) c.args.who c.args.tracks.now (FailsToSave update) in
    let at = ap (λ (s : ShardCalls). s.shard) (sym c.self.view_is) in
    let is_of = subst (λ (s : Shard). g.C.FiledCall.is_of call s) at c.requires.is_of in
    let of : IsUpdateIn x change update = record { owned = g.met.C.FiledChange.of_slot call x is_of; planned = c.in-Refused.ensures.planned (λ p. absurd (cc p)) } in
    let steps : ShardSteps g.J.ServerName.persistent e x x = record {
      does = refl;
      saved = λ p. record { change = change; of = of; refusal = refl; unmade = refl };
      unsaved = λ p. absurd (false≢true (sym p ∙ c.requires.persistent));
      refused = λ u same. refusal_of update u same;
    } in
    calls_more g.J.ServerName.first g.J.ServerName.persistent g.P.Part.key c.self.inside.track c.refuse_as.new.track e x x c.refuse_as.ensures.track c.self.invariant steps refl c.self.invariant.0

pub invariant_of-store-in-Refused-1 : goal.invariant_of-store-in-Refused-1
invariant_of-store-in-Refused-1 g c =
    let x = c.self.inside.shard in
    let call = c.args.call in
    let n = g.C.Change.slot call in
    let update = update_of (slot_in x n) n (g.C.Change.change call) (g.C.Change.image call) in
    let e = entry_with (Some (refused_save update)) c.args.who c.args.tracks.now (FailsToSave update) in
    let was = c.store.invariant in
    let saved = (c.in-Refused.ensures.refused refl).1 in
    record {
      first = was.first;
      opened = was.opened;
      begins = was.begins;
      led = entries_filed (StoreSteps g.K.Store) c.store.inside.track c.refuse_as.new.saves e was.first c.store.inside.store c.save_planned.new.store c.refuse_as.ensures.saves was.led saved;
      ready = saved.ready was.ready;
    }
