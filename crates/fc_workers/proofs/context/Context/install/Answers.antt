use Rattle.std.proofs.Common.{List, ℕ, inl, subst}
use Rattle.fc_verify.specs.Refusals.{IsRefusal}
use Rattle.fc_verify.specs.declared.refusal.Refusal.{Refusal}
use Rattle.fc_core.specs.Stages.{image_of}
use Rattle.fc_workers.specs.Views.{worker_view}
use Rattle.fc_workers.proofs.Steps.{refuse_step, reject_step, same_tallies}
use Rattle.fc_workers.proofs.context.Context.install.Goals as goal

pub returns-in-Err-Broken-clause-step : goal.returns-in-Err-Broken-clause-step
returns-in-Err-Broken-clause-step g c number =
    let here = subst (λ (image : List ℕ). IsRefusal image c.in-Err-Broken.field-0) c.image.ensures c.in-Err-Broken.ensures.refused in
    let is = subst (λ (r : Refusal). IsRefusal (image_of c.args.job.now.ask) r) c.in-Err-Broken.field-0-is here in
    reject_step (worker_view g.B.Bench.changes g.B.Bench.ended g.B.Bench.called g.B.Bench.logged
    g.M.TimeSource.is_time g.M.TimeSource.is_random g.G.Gate.passed g.G.Gate.answered g.W.Wire.called) number c.args.job.now
    c.in-Err-Broken.fault c.args.share.now c.answer_rejected_image.new.log is c.answer_rejected_image.ensures.filed c.answer_rejected_image.ensures.answer

pub returns-in-Err-NoMemory-clause-step : goal.returns-in-Err-NoMemory-clause-step
returns-in-Err-NoMemory-clause-step g c number =
    let here = subst (λ (image : List ℕ). IsRefusal image c.in-Err-NoMemory.field-0) c.image.ensures c.in-Err-NoMemory.ensures.refused in
    let is = subst (λ (r : Refusal). IsRefusal (image_of c.args.job.now.ask) r) c.in-Err-NoMemory.field-0-is here in
    refuse_step (worker_view g.B.Bench.changes g.B.Bench.ended g.B.Bench.called g.B.Bench.logged
    g.M.TimeSource.is_time g.M.TimeSource.is_random g.G.Gate.passed g.G.Gate.answered g.W.Wire.called) number c.args.job.now
    c.args.share.now c.args.share.now.tallies c.answer_uninstalled.new.share.log (inl (is, c.answer_uninstalled.ensures.filed)) (same_tallies (g.B.Bench.changes c.args.share.now.tallies) c.args.job.now.origin.slot)
    c.answer_uninstalled.ensures.answer c.answer_uninstalled.ensures.counted
