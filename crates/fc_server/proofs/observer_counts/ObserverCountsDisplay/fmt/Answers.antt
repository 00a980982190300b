use Rattle.std.proofs.Common.{arith, ◌≡◌, ◌∙◌, rules, ◌++◌, ◌+◌, ap, suc}
use Rattle.std.proofs.Output.{has_written_append, has_written_of_eq}
use Rattle.fc_server.specs.Gauges.{observers_of, slot_text, texts_below}
use Rattle.fc_server.proofs.observer_counts.ObserverCountsDisplay.fmt.Goals as goal

pub loop-slot-preserved : goal.loop-slot-preserved
loop-slot-preserved g c p =
    let shards = c.args.self.now.shards in
    let n = c.loop-slot.slot in
    let next : suc n ≡ n + 1 = omega arith in
    let count = c.of-count.ensures ∙ ap (observers_of shards) c.new.ensures in
    let text = ap (λ count. texts_below shards n ++ slot_text n count) count ∙ ap (texts_below shards) next in
    has_written_of_eq _ _ _ _ _ text (has_written_append _ _ _ _ _ _ (c.loop-slot.invariant p) (search rules))
