use Rattle.std.proofs.Common.{◌<◌, ◌≤◌, length, arith, subst, sym}
use Rattle.fc_ticket.specs.declared.job.Job.{Job}
use Rattle.fc_workers.specs.Views.{worker_view}
use Rattle.fc_workers.specs.Dispatch.{IsHandedOver, IsWorkedHere, WithNext, logged_at}
use Rattle.fc_workers.specs.Producing.{HasProduced}
use Rattle.fc_workers.proofs.Handled.{fired, handed_over, run_here}
use Rattle.fc_workers.proofs.dispatcher_state.DispatcherState.fire.Goals as goal

pub dispatch-requires : goal.dispatch-requires
dispatch-requires g c =
    let s = (worker_view g.B.Bench.changes g.B.Bench.ended g.B.Bench.called g.B.Bench.logged
    g.M.TimeSource.is_time g.M.TimeSource.is_random g.G.Gate.passed g.G.Gate.answered g.W.Wire.called) in
    record {
      produced = subst (λ (j : Job). HasProduced g.B.Book.ServerName.first_job c.args.self.now.keys j c.fire.new.log) (sym c.fire.ensures.job)
          (fired g.B.Book.ServerName.first_job c.args.self.now.keys s g.B.Bench.files c.args.slot c.args.now c.args.self.now.done.share.log c.fire.new.log c.fire.ensures.logged c.requires.ready);
    }

pub returns-then-count-number-clause-fired : goal.returns-then-count-number-clause-fired
returns-then-count-number-clause-fired g c =
    let s = (worker_view g.B.Bench.changes g.B.Bench.ended g.B.Bench.called g.B.Bench.logged
    g.M.TimeSource.is_time g.M.TimeSource.is_random g.G.Gate.passed g.G.Gate.answered g.W.Wire.called) in
    let before = logged_at c.fire.new.log c.args.self.now.done in
    let after = c.dispatch.new.self.done in
    let more : length before.sent.sent < length after.sent.sent = omega (arith, c.count-number.ensures, c.count.ensures, c.if-count-number.true) in
    record {
      log = c.fire.new.log;
      fires = c.fire.ensures.logged;
      done = (
        c.count-number.ensures,
        subst (λ (j : Job). WithNext (IsHandedOver s c.args.self.now.offload j) before after) c.fire.ensures.job
            (handed_over s c.args.self.now.offload c.fire.new.job before after c.dispatch.ensures.dispatched more),
      );
    }

pub returns-else-count-number-clause-fired : goal.returns-else-count-number-clause-fired
returns-else-count-number-clause-fired g c =
    let s = (worker_view g.B.Bench.changes g.B.Bench.ended g.B.Bench.called g.B.Bench.logged
    g.M.TimeSource.is_time g.M.TimeSource.is_random g.G.Gate.passed g.G.Gate.answered g.W.Wire.called) in
    let before = logged_at c.fire.new.log c.args.self.now.done in
    let after = c.dispatch.new.self.done in
    let none : length after.sent.sent ≤ length before.sent.sent = omega (arith, c.count-number.ensures, c.count.ensures, c.if-count-number.false) in
    record {
      log = c.fire.new.log;
      fires = c.fire.ensures.logged;
      done = subst (λ (j : Job). WithNext (IsWorkedHere s c.args.self.now.offload j) before after) c.fire.ensures.job
          (run_here s c.args.self.now.offload c.fire.new.job before after c.dispatch.ensures.dispatched none);
    }
