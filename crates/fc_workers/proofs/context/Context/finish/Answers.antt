use Rattle.std.proofs.Common.{Bool, ap, ◌∙◌}
use Rattle.fc_front.specs.Receiving.{emission_if}
use Rattle.fc_workers.specs.Views.{worker_view}
use Rattle.fc_workers.proofs.Replies.{sends_nothing, sends_reply}
use Rattle.fc_workers.proofs.context.Context.finish.Goals as goal
use Rattle.fc_workers.proofs.context.Context.finish.Goals.{then-replies, else-replies}

pub returns-clause-finished : goal.returns-clause-finished
returns-clause-finished g c =
    let s = (worker_view g.B.Bench.changes g.B.Bench.ended g.B.Bench.called g.B.Bench.logged
    g.M.TimeSource.is_time g.M.TimeSource.is_random g.G.Gate.passed g.G.Gate.answered g.W.Wire.called) in
    let share = c.args.share.now in
    let reply = c.args.reply.now in
    record {
      log = c.if-replies.share.log;
      sent = elim c.if-replies.branch [
        | then-replies w ↦ sends_reply s c.args.number share reply w.send-out.result w.send-out.new.log w.send-out.ensures (ap (λ (b : Bool). emission_if b reply) w.if-replies.true)
            (w.share-is ∙ w.count_reply.ensures)
        | else-replies w ↦ sends_nothing s c.args.number share (ap (λ (b : Bool). emission_if b reply) w.if-replies.false) w.share-is
      ];
      over = c.ended.ensures;
    }
