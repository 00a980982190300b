use Rattle.std.proofs.Common.{◌≡◌, ◌∙◌, ap, subst}
use Rattle.fc_registry.specs.Views.{taken_with}
use Rattle.fc_core.specs.Stage.{Stage, ToTake}
use Rattle.fc_core.specs.declared.stage.Step.TheVariants as steps
use Rattle.fc_backend.specs.Statistics.{Share}
use Rattle.fc_backend.specs.Answers.{IsSnapshotWith}
use Rattle.fc_workers.specs.Views.{worker_view}
use Rattle.fc_workers.specs.Steps.{IsReady}
use Rattle.fc_workers.proofs.Steps.{asked_ends, from_stage, stands_at, took_step}
use Rattle.fc_workers.proofs.context.Context.take.Goals as goal

pub invariant_of-stage : goal.invariant_of-stage
invariant_of-stage g c = (c.took.ensures c.take-taken.new.found c.stage.inside.seen c.take-taken.ensures.size).1

pub returns-clause-step : goal.returns-clause-step
returns-clause-step g c number =
    let s = (worker_view g.B.Bench.changes g.B.Bench.ended g.B.Bench.called g.B.Bench.logged
    g.M.TimeSource.is_time g.M.TimeSource.is_random g.G.Gate.passed g.G.Gate.answered g.W.Wire.called) in
    let room = c.stage.inside in
    let count = c.in-ToTake.count in
    let at : c.args.stage.now ≡ ToTake count =
    stands_at c.args.stage.now room.step (steps.ToTake count) room.found room.seen room.answer c.stage.view_is c.in-ToTake.is in
    let ready = subst (λ (x : Stage). IsReady c.args.job.now x) at c.requires.ready in
    let found = c.take-taken.new.found in
    let taken = taken_with c.take-taken.result found in
    let log = c.take-taken.new.log in
    let snapshot : IsSnapshotWith g.B.Bench.logged c.args.job.now taken c.args.share.now.log log = record {
      readings = c.readings-readings.result;
      log = c.readings-readings.new.log;
      given = c.readings-readings.ensures;
      takes = c.take-taken.ensures.logged;
      is = c.take-taken.ensures.taken;
    } in
    from_stage s number c.args.job.now at (took_step s number c.args.job.now count taken c.args.share.now c.take-taken.new.tallies log ready snapshot
    c.take-taken.ensures.changes (c.took.ensures found room.seen c.take-taken.ensures.size).0 (c.count_snapshot.ensures found))

pub returns-clause-ended : goal.returns-clause-ended
returns-clause-ended g c =
    let taken = taken_with c.take-taken.result c.take-taken.new.found in
    ap (λ (s : Share _). g.B.Bench.ended s.tallies) (c.count_snapshot.ensures c.take-taken.new.found) ∙
    (c.take-taken.ensures.ended ∙ asked_ends c.args.job.now c.readings-readings.result taken (g.B.Bench.ended c.args.share.now.tallies)
    c.requires.asked c.take-taken.ensures.taken)
