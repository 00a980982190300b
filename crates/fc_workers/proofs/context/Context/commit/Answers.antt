use Rattle.std.proofs.Common.{◌≡◌, ◌∙◌, [], ap, refl, subst, sym}
use Rattle.fc_machine.specs.Ran.{Ran}
use Rattle.fc_kinds.specs.Meaning.{Program}
use Rattle.fc_ticket.specs.declared.job.Origin.{Origin}
use Rattle.fc_registry.specs.Calls.{commit_of}
use Rattle.fc_registry.specs.Changes.{Committed as Wrote}
use Rattle.fc_ticket.specs.Tickets.{Ticket}
use Rattle.fc_ticket.specs.Taken.{ticket_with}
use Rattle.fc_core.specs.Room.{stage_of}
use Rattle.fc_core.specs.Stage.{Stage, ToCommit}
use Rattle.fc_core.specs.declared.stage.Step.TheVariants as steps
use Rattle.fc_backend.specs.Answers.{AreTallied, IsSomeCommit}
use Rattle.fc_calls.specs.Logged.{CommitsRun}
use Rattle.fc_workers.specs.Views.{worker_view}
use Rattle.fc_backend.specs.Logs.{FilesRefusal}
use Rattle.fc_workers.specs.Steps.{IsReady, IsStep}
use Rattle.fc_workers.specs.Work.{IsCommitRefused, IsCommitted}
use Rattle.fc_workers.proofs.Steps.{commit_step, from_stage, is_run, stands_at, unsaved_step}
use Rattle.fc_workers.proofs.context.Context.commit.Goals as goal
use Rattle.fc_workers.proofs.context.Context.commit.Goals.{in-ToCommit-1, in-ToTell+in-ToDraw+in-Some-1, in-ToTell+in-ToDraw+in-None-1, in-ToTell+in-ToNote+in-Some-1, in-ToTell+in-ToNote+in-None-1, in-ToTell+in-ToTake-1, in-ToMatch-1}

pub invariant_of-stage : goal.invariant_of-stage
invariant_of-stage g c = (c.committed.ensures c.stage.inside.found c.stage.inside.seen).1

pub returns-in-Some-clause-step : goal.returns-in-Some-clause-step
returns-in-Some-clause-step g c =
    let s = (worker_view g.B.Bench.changes g.B.Bench.ended g.B.Bench.called g.B.Bench.logged
    g.M.TimeSource.is_time g.M.TimeSource.is_random g.G.Gate.passed g.G.Gate.answered g.W.Wire.called) in
    let room = c.stage.inside in
    let t = c.of-ticket.result in
    let count = c.in-ToCommit.count in
    let at : c.args.stage.now ≡ ToCommit count t =
    stands_at c.args.stage.now room.step (steps.ToCommit count c.in-ToCommit.program) room.found room.seen room.answer c.stage.view_is c.in-ToCommit.is
    ∙ ap (λ (x : Ticket). ToCommit count x) (ap (λ (p : Program). ticket_with p room.found) (sym c.deref.ensures) ∙ sym c.of-ticket.ensures) in
    let ready = subst (λ (x : Stage). IsReady c.args.job.now x) at c.requires.ready in
    let answer = c.in-Some.committed in
    let passed = c.between.new.log in
    let asked = c.now-now.new.log in
    let log = c.commit.new.log in
    let own = is_run c.run-outcome.result t _ _ _ _ c.run-outcome.ensures.made c.program.ensures c.request.ensures c.vars.ensures.vars c.readings.ensures in
    let commits = subst (λ (r : Ran). g.B.Bench.logged (CommitsRun c.now-now.result r t answer) asked log) own c.in-Some.ensures.logged in
    let commit = subst (λ (r : Ran). IsSomeCommit r t answer) own c.in-Some.ensures.committed in
    let is : IsCommitted s c.args.number t answer c.args.share.now.log log = record
    { passed = passed; gate = c.between.ensures; now = c.now-now.result; asked = asked; time = c.now-now.ensures; commits = commits; commit = commit } in
    let step = commit_step s c.args.number c.args.job.now count t answer c.args.share.now c.commit.new.tallies log ready is
    c.in-Some.ensures.changes (c.committed.ensures room.found room.seen).0 c.count_commit.ensures in
    let there : (next : Stage) → next ≡ stage_of c.committed.result room.found room.seen c.committed.new.answer → IsStep s c.args.number c.args.job.now c.args.stage.now next c.args.share.now c.count_commit.new.self =
    λ next is. subst (λ (x : Stage). IsStep s c.args.number c.args.job.now c.args.stage.now x c.args.share.now c.count_commit.new.self) (sym is) (from_stage s c.args.number c.args.job.now at step) in
    elim c.match-stage-committed.branch [
      | in-ToCommit-1 w ↦ there _ w.stage-is
      | in-ToTell+in-ToDraw+in-Some-1 w ↦ there _ w.stage-is
      | in-ToTell+in-ToDraw+in-None-1 w ↦ there _ w.stage-is
      | in-ToTell+in-ToNote+in-Some-1 w ↦ there _ w.stage-is
      | in-ToTell+in-ToNote+in-None-1 w ↦ there _ w.stage-is
      | in-ToTell+in-ToTake-1 w ↦ there _ w.stage-is
      | in-ToMatch-1 w ↦ there _ w.stage-is
    ]

pub returns-in-None-clause-step : goal.returns-in-None-clause-step
returns-in-None-clause-step g c =
    let s = (worker_view g.B.Bench.changes g.B.Bench.ended g.B.Bench.called g.B.Bench.logged
    g.M.TimeSource.is_time g.M.TimeSource.is_random g.G.Gate.passed g.G.Gate.answered g.W.Wire.called) in
    let room = c.stage.inside in
    let t = c.of-ticket.result in
    let count = c.in-ToCommit.count in
    let at : c.args.stage.now ≡ ToCommit count t =
    stands_at c.args.stage.now room.step (steps.ToCommit count c.in-ToCommit.program) room.found room.seen room.answer c.stage.view_is c.in-ToCommit.is
    ∙ ap (λ (x : Ticket). ToCommit count x) (ap (λ (p : Program). ticket_with p room.found) (sym c.deref.ensures) ∙ sym c.of-ticket.ensures) in
    let ready = subst (λ (x : Stage). IsReady c.args.job.now x) at c.requires.ready in
    let refused = c.in-None.ensures.refused refl in
    let after = c.commit.new.log in
    let tallies = c.commit.new.tallies in
    let filed = subst (λ (o : Origin). FilesRefusal o.slot (Wrote (commit_of t)) [] c.now-now.new.log after) ready.1 refused.2 in
    let is : IsCommitRefused s c.args.number c.args.job.now t c.args.share.now.log after = record {
      passed = c.between.new.log;
      gate = c.between.ensures;
      now = c.now-now.result;
      asked = c.now-now.new.log;
      time = c.now-now.ensures;
      wants = refused.1;
      refuses = refused.0;
      filed = filed;
    } in
    let rises = subst (λ (o : Origin). AreTallied (g.B.Bench.changes c.args.share.now.tallies) (g.B.Bench.changes tallies) o.slot 0) ready.1 c.in-None.ensures.changes in
    from_stage s c.args.number c.args.job.now at
    (unsaved_step s c.args.number c.args.job.now (ToCommit count t) c.args.share.now tallies after ready is rises c.answer_unsaved.ensures.answer c.answer_unsaved.ensures.counted)
