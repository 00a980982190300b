use Rattle.std.proofs.Common.{Bool, ap}
use Rattle.fc_front.specs.Receiving.{emission_if}
use Rattle.fc_workers.specs.Views.{worker_view}
use Rattle.fc_workers.proofs.Replies.{goes_out}
use Rattle.fc_workers.proofs.context.Context.work.Goals as goal

pub finish-requires : goal.finish-requires
finish-requires g c is =
    let s = (worker_view g.B.Bench.changes g.B.Bench.ended g.B.Bench.called g.B.Bench.logged
    g.M.TimeSource.is_time g.M.TimeSource.is_random g.G.Gate.passed g.G.Gate.answered g.W.Wire.called) in
    let reply = c.reply-replies.new.scratch.reply in
    goes_out s c.args.number c.args.job.now c.args.share.now c.reply-replies.new.share reply c.reply-replies.ensures.worked
    (ap (λ (b : Bool). emission_if b reply) is)
