use Rattle.std.proofs.Common.{◌≡◌, ◌<◌, length, slice_set, inl, inr, arith, ap, not, subst, ◌∙◌}
use Rattle.std.specs.Prelude.{Bool, if◌then◌else◌}
use Rattle.std.proofs.lemmas.Bool.{not-false, not-true}
use Rattle.sqlite.specs.Held.{state}
use Rattle.sqlite.specs.Effect.{Database}
use Rattle.sqlite_trees.specs.Tree.{Trees}
use Rattle.fc_store.specs.Stored.{stored_in}
use Rattle.fc_store.specs.Updates.{slot_after}
use Rattle.fc_store.proofs.Places.{places_written}
use Rattle.fc_sql.specs.Table.{IsMirrored, slots_in_rows, with_stored_slot}
use Rattle.fc_sql.proofs.Mirror.{kept_same, same_both, with_after}
use Rattle.fc_sql.proofs.sql.SqlStoreStore.save.Goals as goal

pub returns-then-self-2-clause-ready : goal.returns-then-self-2-clause-ready
returns-then-self-2-clause-ready g c m =
    let all = stored_in c.args.self.now.slots.items in
    let mid = subst (λ (b : Bool). IsMirrored b (state g.S.Store c.takes_writes.new.conn) all) c.if-self.false (c.takes_writes.ensures.kept all m) in
    subst (λ (b : Bool). IsMirrored (not c.write.result) (state g.S.Store c.write.new.conn) (if b then with_stored_slot c.args.update.now.slot c.in-Ok.stored all else all)) (not-true c.write.result c.if-self-2.true) (c.write.ensures.kept all mid)

pub returns-then-self-2-clause-crash : goal.returns-then-self-2-clause-crash
returns-then-self-2-clause-crash g c m clean found it =
    let all = c.args.self.now.slots.items in
    let mid = subst (λ (b : Bool). IsMirrored b (state g.S.Store c.takes_writes.new.conn) (stored_in all)) c.if-self.false (c.takes_writes.ensures.kept (stored_in all) m) in
    let after = with_after c.args.update.now c.in-Ok.stored c.index.result.now all c.from-slot.result c.from-slot.ensures (omega (arith, c.requires.slot, c.args.self.now.size, c.from-slot.ensures)) (c.in-Ok.ensures ∙ ap (slot_after c.args.update.now) c.index.ensures) in
    elim (c.write.ensures.crash (stored_in all) mid clean it.0 it.1) [
      | inl before ↦ inl (it.0, c.takes_writes.ensures.crash (c.write.ensures.clean clean) it.0 before, it.2)
      | inr made ↦ inr (λ n few. it.2 n few ∙ made n few ∙ after n few)
    ]

pub returns-else-self-2-clause-ready : goal.returns-else-self-2-clause-ready
returns-else-self-2-clause-ready g c m =
    let all = c.args.self.now.slots.items in
    let mid = subst (λ (b : Bool). IsMirrored b (state g.S.Store c.takes_writes.new.conn) (stored_in all)) c.if-self.false (c.takes_writes.ensures.kept (stored_in all) m) in
    let made = c.in-Ok.ensures ∙ ap (slot_after c.args.update.now) c.index.ensures in
    let low : c.from-slot.result < length all = omega (arith, c.requires.slot, c.args.self.now.size, c.from-slot.ensures) in
    let after = with_after c.args.update.now c.in-Ok.stored c.index.result.now all c.from-slot.result c.from-slot.ensures low made in
    let written = places_written all c.from-slot.result c.in-Ok.stored c.index.result.now c.args.update.now c.from-slot.ensures low made in
    kept_same (not c.write.result) (state g.S.Store c.write.new.conn) _ _ (same_both _ _ _ after written)
    (subst (λ (b : Bool). IsMirrored (not c.write.result) (state g.S.Store c.write.new.conn) (if b then with_stored_slot c.args.update.now.slot c.in-Ok.stored (stored_in all) else stored_in all)) (not-false c.write.result c.if-self-2.false) (c.write.ensures.kept (stored_in all) mid))

pub returns-else-self-2-clause-durable : goal.returns-else-self-2-clause-durable
returns-else-self-2-clause-durable g c m clean said found it n few =
    let is = subst (λ (b : Bool). IsMirrored b (state g.S.Store c.write.new.conn) (stored_in (slice_set c.args.self.now.slots.items c.from-slot.result c.in-Ok.stored))) c.if-self-2.false (returns-else-self-2-clause-ready g c m) clean in
    let settled : it.0 ≡ (state g.S.Store c.write.new.conn).now.trees = g.met.S.Store.settled c.write.new.conn.store it.0 is.0 it.1 ∙ ap (λ (d : Database). d.trees) is.1.committed in
    it.2 n few ∙ ap (λ (db : Trees). slots_in_rows (db 0) n) settled ∙ is.1.same n few

pub returns-else-self-2-clause-crash : goal.returns-else-self-2-clause-crash
returns-else-self-2-clause-crash g c m clean found it =
    let all = c.args.self.now.slots.items in
    let mid = subst (λ (b : Bool). IsMirrored b (state g.S.Store c.takes_writes.new.conn) (stored_in all)) c.if-self.false (c.takes_writes.ensures.kept (stored_in all) m) in
    let after = with_after c.args.update.now c.in-Ok.stored c.index.result.now all c.from-slot.result c.from-slot.ensures (omega (arith, c.requires.slot, c.args.self.now.size, c.from-slot.ensures)) (c.in-Ok.ensures ∙ ap (slot_after c.args.update.now) c.index.ensures) in
    elim (c.write.ensures.crash (stored_in all) mid clean it.0 it.1) [
      | inl before ↦ inl (it.0, c.takes_writes.ensures.crash (c.write.ensures.clean clean) it.0 before, it.2)
      | inr made ↦ inr (λ n few. it.2 n few ∙ made n few ∙ after n few)
    ]
