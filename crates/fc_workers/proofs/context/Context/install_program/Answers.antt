use Rattle.std.proofs.Common.{◌∙◌, ap, inl, inr, refl, subst}
use Rattle.fc_kinds.specs.Meaning.{Program}
use Rattle.fc_ticket.specs.Runs.{initial_vars_of}
use Rattle.fc_registry.specs.Changes.{Installed}
use Rattle.fc_ticket.specs.declared.receipt.Receipt.{Receipt}
use Rattle.fc_core.specs.Fits.{IsSafe}
use Rattle.fc_core.specs.Stages.{image_of, made}
use Rattle.fc_backend.specs.Answers.{IsSomeInstall}
use Rattle.fc_calls.specs.Logged.{InstallsProgram}
use Rattle.fc_backend.specs.Called.{RefusesSave}
use Rattle.fc_workers.specs.Views.{worker_view}
use Rattle.fc_backend.specs.Logs.{FilesRefusal}
use Rattle.fc_workers.proofs.Steps.{install_step, refuse_step, same_tallies}
use Rattle.fc_workers.proofs.context.Context.install_program.Goals as goal

pub returns-in-Some-clause-step : goal.returns-in-Some-clause-step
returns-in-Some-clause-step g c number =
    let answer = c.in-Some.made in
    let next = c.made.ensures ∙ ap (λ (r : Receipt). made r answer) c.of-receipt.ensures in
    let is = subst (λ (p : Program). IsSomeInstall (initial_vars_of c.args.job.now.ask) p answer) c.in-Ok.ensures.ok c.in-Some.ensures.made in
    let installs = subst (λ (p : Program). g.B.Bench.logged (InstallsProgram c.args.job.now p answer) c.args.share.now.log c.install.new.log)
    c.in-Ok.ensures.ok c.in-Some.ensures.logged in
    let safe : IsSafe c.args.program = record { runs = c.requires.runs; longest = c.requires.accepted.shapely.cost } in
    install_step (worker_view g.B.Bench.changes g.B.Bench.ended g.B.Bench.called g.B.Bench.logged
    g.M.TimeSource.is_time g.M.TimeSource.is_random g.G.Gate.passed g.G.Gate.answered g.W.Wire.called) number c.args.job.now
    c.args.program answer c.args.share.now c.install.new.tallies c.install.new.log c.requires.judged safe installs is
    c.in-Some.ensures.changes next

pub returns-in-Ok-clause-step : goal.returns-in-Ok-clause-step
returns-in-Ok-clause-step g c number =
    let job = c.args.job.now in
    let before = c.args.share.now.log in
    let after = c.install.new.log in
    let refused = subst (λ (p : Program). g.B.Bench.called (RefusesSave job.origin.slot (Installed p (initial_vars_of job.ask))) × FilesRefusal job.origin.slot (Installed p (initial_vars_of job.ask)) (image_of job.ask) before after)
    c.in-Ok.ensures.ok (c.in-None.ensures.refused refl) in
    refuse_step (worker_view g.B.Bench.changes g.B.Bench.ended g.B.Bench.called g.B.Bench.logged
    g.M.TimeSource.is_time g.M.TimeSource.is_random g.G.Gate.passed g.G.Gate.answered g.W.Wire.called) number job
    c.args.share.now c.install.new.tallies after (inr (c.args.program, (c.requires.judged, refused.0, refused.1))) c.in-None.ensures.changes c.answer_unsaved.ensures.answer c.answer_unsaved.ensures.counted

pub returns-clause-step : goal.returns-clause-step
returns-clause-step g c number =
    let share = c.args.share.now in
    let refused = c.answer_uninstalled in
    refuse_step (worker_view g.B.Bench.changes g.B.Bench.ended g.B.Bench.called g.B.Bench.logged
    g.M.TimeSource.is_time g.M.TimeSource.is_random g.G.Gate.passed g.G.Gate.answered g.W.Wire.called) number c.args.job.now
    share share.tallies refused.new.share.log (inl (c.requires.accepted.shapely.program.head, refused.ensures.filed)) (same_tallies (g.B.Bench.changes share.tallies) c.args.job.now.origin.slot) refused.ensures.answer refused.ensures.counted
