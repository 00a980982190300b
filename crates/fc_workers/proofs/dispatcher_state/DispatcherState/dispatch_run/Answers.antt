use Rattle.std.proofs.Common.{◌∙◌, ◌+◌, ℕ, Option, ap, inl, inr, refl, subst, sym}
use Rattle.fc_backend.specs.Answers.{saturated}
use Rattle.fc_workers.specs.Views.{worker_view}
use Rattle.fc_workers.specs.Dispatch.{IsSentOrWorked, MayHaveReadCost, logged_at, unsent}
use Rattle.fc_backend.specs.Statistics.{Share}
use Rattle.fc_workers.specs.declared.dispatcher.Offload.TheVariants.{Expensive}
use Rattle.fc_workers.proofs.Handled.{may_go_by_cost, still_going}
use Rattle.fc_workers.proofs.Filed.{bench_files}
use Rattle.fc_workers.proofs.Producing.{worked_here}
use Rattle.fc_workers.proofs.dispatcher_state.DispatcherState.dispatch_run.Goals as goal

pub work_begun-requires-clause-ready : goal.work_begun-requires-clause-ready
work_begun-requires-clause-ready g c = (c.if-begun.ensures.begun refl unsent).ready

-- the job that was begun is run from the stage that its snapshot led to.
pub returns-then-begun-clause-dispatched : goal.returns-then-begun-clause-dispatched
returns-then-begun-clause-dispatched g c =
    let s = (worker_view g.B.Bench.changes g.B.Bench.ended g.B.Bench.called g.B.Bench.logged
    g.M.TimeSource.is_time g.M.TimeSource.is_random g.G.Gate.passed g.G.Gate.answered g.W.Wire.called) in
    let share = c.args.self.now.done.share in
    inr (record {
      sent = refl;
      log = share.log;
      stays = subst (λ (o : Option ℕ). MayHaveReadCost s o c.args.self.now.job share.log share.log) (sym c.requires.least) (inl refl);
      track = refl;
      worked = c.work_begun.ensures.worked share (c.if-begun.ensures.begun refl unsent);
      ends = c.work_begun.ensures.ended ∙ ap (λ t. saturated (g.B.Bench.ended t + 1)) c.if-begun.ensures.tallies;
    })

-- the job of an expensive program may go: its cost was read, and its track is unchanged.
pub returns-else-begun-clause-dispatched : goal.returns-else-begun-clause-dispatched
returns-else-begun-clause-dispatched g c =
    let s = (worker_view g.B.Bench.changes g.B.Bench.ended g.B.Bench.called g.B.Bench.logged
    g.M.TimeSource.is_time g.M.TimeSource.is_random g.G.Gate.passed g.G.Gate.answered g.W.Wire.called) in
    let offload = c.args.self.now.offload in
    let job = c.args.self.now.job in
    let before = c.args.self.now.done in
    let share = c.begin_if_cheap-begun.new.share in
    let new = c.send_or_work.new.self.done in
    let found = c.if-begun.ensures.expensive refl in
    let may = may_go_by_cost s offload c.args.least job before.share.log share.log c.requires.least found.0 in
    let still = still_going g.B.Book.ServerName.first_job c.args.self.now.keys s g.B.Bench.files (Expensive c.args.least) job before.share.log share.log found.0 c.requires.produced in
    let dispatched = c.send_or_work.ensures.dispatched before.share.log may still.1 in
    subst (λ (p : Share _). IsSentOrWorked s offload job (logged_at before.share.log (record before { share = p })) new) found.1 dispatched

pub returns-then-begun-clause-right : goal.returns-then-begun-clause-right
returns-then-begun-clause-right g c =
    let s = (worker_view g.B.Bench.changes g.B.Bench.ended g.B.Bench.called g.B.Bench.logged
    g.M.TimeSource.is_time g.M.TimeSource.is_random g.G.Gate.passed g.G.Gate.answered g.W.Wire.called) in
    let share = c.args.self.now.done.share in
    worked_here g.B.Book.ServerName.first_job c.args.self.now.keys c.args.self.now.job s
    (bench_files g.B.Bench.changes g.B.Bench.ended g.B.Bench.called g.B.Bench.logged g.M.TimeSource.is_time g.M.TimeSource.is_random g.G.Gate.passed g.G.Gate.answered g.W.Wire.called g.B.Bench.files)
    unsent share c.work_begun.new.share c.requires.produced (c.work_begun.ensures.worked share (c.if-begun.ensures.begun refl unsent))

pub send_or_work-requires : goal.send_or_work-requires
send_or_work-requires g c =
    let s = (worker_view g.B.Bench.changes g.B.Bench.ended g.B.Bench.called g.B.Bench.logged
    g.M.TimeSource.is_time g.M.TimeSource.is_random g.G.Gate.passed g.G.Gate.answered g.W.Wire.called) in
    let found = c.if-begun.ensures.expensive refl in
    record { produced = (still_going g.B.Book.ServerName.first_job c.args.self.now.keys s g.B.Bench.files (Expensive c.args.least) c.args.self.now.job c.args.self.now.done.share.log c.begin_if_cheap-begun.new.share.log found.0 c.requires.produced).0 }
