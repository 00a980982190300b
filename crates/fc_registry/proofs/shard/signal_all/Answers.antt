use Rattle.std.proofs.Common.{ap, ◌∙◌, sym, set}
use Rattle.std.proofs.lemmas.List.Edits.{map_over_more}
use Rattle.fc_observe.specs.Calls.{observers_after}
use Rattle.fc_observe.specs.Observers.{ObserverList}
use Rattle.fc_registry.specs.Watches.{signal_call}
use Rattle.fc_registry.proofs.shard.signal_all.Goals as goal

pub loop-watch-preserved : goal.loop-watch-preserved
loop-watch-preserved c =
    let f = observers_after (signal_call c.args.reset c.args.endpoint c.args.id) in
    ap (λ (y : ObserverList). set c.loop-watch.watches c.loop-watch.watch-index y) (c.signal_one.ensures ∙ ap f (sym c.watch-item.is)) ∙ map_over_more f c.args.watches.now c.loop-watch.watches c.loop-watch.watch-index c.watch-item.result c.loop-watch-test.true c.loop-watch.invariant c.watch-item.is
