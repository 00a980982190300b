use Rattle.std.proofs.Common.{◌∷◌, ◌++◌, [], ap, ◌∙◌, subst, sym, take, arith}
use Rattle.std.proofs.lemmas.List.{take_more}
use Rattle.fc_observe.specs.declared.entry.Entry.{Entry}
use Rattle.fc_observe.specs.Quiet.{AreIdleUntil}
use Rattle.fc_observe.proofs.Quiet.{idle_more}
use Rattle.fc_observe.proofs.observers.idle_until.Goals as goal

pub loop-entry-preserved : goal.loop-entry-preserved
loop-entry-preserved c =
    let os = c.args.held.now in
    let k = c.loop-entry.entry-index in
    let o = c.entry-item.result in
    let least = c.min-until.ensures in
    let more = take_more os k o c.loop-entry-test.true ∙ ap (λ (x : Entry). take k os ++ x ∷ []) (sym c.entry-item.is) in
    subst (AreIdleUntil c.min-until.result c.args.notify_serial) (sym more)
    (idle_more c.loop-entry.until c.idle_until.result c.min-until.result c.args.notify_serial (take k os) o (omega (arith, least)) (omega
    (arith, least)) c.loop-entry.invariant c.idle_until.ensures)
