use Rattle.std.proofs.Common.{arith, refl}
use Rattle.fc_registry.specs.Views.{taken_with}
use Rattle.fc_backend.specs.Answers.{IsSnapshotWith}
use Rattle.fc_workers.specs.Views.{worker_view}
use Rattle.fc_workers.proofs.Steps.{plain_takes, sets_out, took_step, walks_on}
use Rattle.fc_workers.proofs.context.Context.begin_if_cheap.Goals as goal

pub invariant_of-stage-2 : goal.invariant_of-stage-2
invariant_of-stage-2 g c = (c.took.ensures c.take_if_cheap.new.found c.stage.inside.seen c.in-Ok.ensures.size).1

pub returns-clause-begun : goal.returns-clause-begun
returns-clause-begun g c is number =
    let s = (worker_view g.B.Bench.changes g.B.Bench.ended g.B.Bench.called g.B.Bench.logged
    g.M.TimeSource.is_time g.M.TimeSource.is_random g.G.Gate.passed g.G.Gate.answered g.W.Wire.called) in
    let job = c.args.job.now in
    let share = c.args.share.now in
    let found = c.take_if_cheap.new.found in
    let taken = taken_with c.in-Ok.taken found in
    let log = c.take_if_cheap.new.log in
    let snapshot : IsSnapshotWith g.B.Bench.logged job taken share.log log = record {
      readings = c.readings-given.result;
      log = c.readings-given.new.log;
      given = c.readings-given.ensures;
      takes = c.in-Ok.ensures.logged;
      is = c.in-Ok.ensures.taken;
    } in
    walks_on s number job (plain_takes job c.requires.plain) (sets_out s number job share) (took_step s number job 0 taken share share.tallies log (omega arith) snapshot
    (λ shard less. refl) (c.took.ensures found c.stage.inside.seen c.in-Ok.ensures.size).0 (c.count_snapshot.ensures found))
