use Rattle.std.proofs.Common.{ℕ, Option, subst, sym}
use Rattle.fc_front.specs.Receiving.{emission_if}
use Rattle.fc_workers.specs.Views.{worker_view}
use Rattle.fc_workers.specs.Work.{IsWorkedAs}
use Rattle.fc_workers.proofs.context.Context.work_begun.Goals as goal

pub returns-clause-worked : goal.returns-clause-worked
returns-clause-worked g c before w =
    let s = (worker_view g.B.Bench.changes g.B.Bench.ended g.B.Bench.called g.B.Bench.logged
    g.M.TimeSource.is_time g.M.TimeSource.is_random g.G.Gate.passed g.G.Gate.answered g.W.Wire.called) in
    let share = c.respond-replies.new.share in
    let reply = emission_if c.respond-replies.result c.respond-replies.new.scratch.reply in
    let worked = c.respond-replies.ensures.worked c.args.number before (c.work_on.ensures.worked before w) in
    record {
      reply = reply;
      share = share;
      worked = subst (λ (turn : Option ℕ). IsWorkedAs s turn c.args.number c.args.job.now before share reply) (sym c.requires.asked) worked;
      finished = c.finish.ensures.finished;
    }
