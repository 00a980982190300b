use Rattle.std.proofs.Common.{ap, ◌∙◌, sym, set}
use Rattle.std.proofs.lemmas.List.Edits.{map_over_more}
use Rattle.fc_observe.specs.declared.entry.Entry.{Entry}
use Rattle.fc_observe.specs.Entries.{acknowledged, changed_if, has_last_id}
use Rattle.fc_observe.proofs.observers.acknowledge_each.Goals as goal

pub loop-entry-preserved : goal.loop-entry-preserved
loop-entry-preserved c =
    let f = λ (o : Entry). changed_if (has_last_id c.args.endpoint c.args.id o) acknowledged o in
    ap (λ (y : Entry). set c.loop-entry.held c.loop-entry.entry-index y) (c.acknowledge.ensures ∙ ap f (sym c.entry-item.is)) ∙ map_over_more f c.args.held.now c.loop-entry.held c.loop-entry.entry-index c.entry-item.result c.loop-entry-test.true c.loop-entry.invariant c.entry-item.is
