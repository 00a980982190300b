use Rattle.std.proofs.Common.{None, Some, ap}
use Rattle.fc_record.specs.ProgramRequests.{change_in}
use Rattle.fc_pool.proofs.Recorded.{image_is, recorded_install, recorded_nothing, recorded_removal}
use Rattle.fc_pool.proofs.laws.workers_record_answered_changes.Goals as goal

pub returns-clause-install : goal.returns-clause-install
returns-clause-install g c = λ first job content reply before after image initial answer is.
    let r = recorded_install g.C.Recorder.recorded job reply answer.log.calls after.calls image initial is answer.after_answer.0 in
    (r.change, r.is.slot, image_is g.C.Recorder.recorded job reply answer.log.calls after.calls (Some image) (ap change_in is) r, r.recorded)

pub returns-clause-removal : goal.returns-clause-removal
returns-clause-removal g c = λ first job content reply before after answer is.
    let r = recorded_removal g.C.Recorder.recorded job reply answer.log.calls after.calls is answer.after_answer.0 in
    (r.change, r.is.slot, image_is g.C.Recorder.recorded job reply answer.log.calls after.calls None (ap change_in is) r, r.recorded)

pub returns-clause-other : goal.returns-clause-other
returns-clause-other g c = λ first job content reply before after answer no_install no_removal.
    recorded_nothing g.C.Recorder.recorded job reply answer.log.calls after.calls job.ask no_install no_removal answer.after_answer.0

pub returns-clause-before_commit : goal.returns-clause-before_commit
returns-clause-before_commit g c = λ first number before after between. between.0
