use Rattle.std.proofs.Common.{◌∙◌, ap, subst, sym}
use Rattle.fc_jobs.specs.Ends.{Got}
use Rattle.fc_jobs.specs.declared.protocol.Numbered.{Numbered}
use Rattle.fc_ticket.specs.declared.job.Job.{Job}
use Rattle.fc_backend.specs.Logs.{TrackedLog}
use Rattle.fc_backend.specs.Messages.{TrackedJob}
use Rattle.fc_backend.specs.Statistics.{Share}
use Rattle.fc_workers.specs.Views.{worker_view}
use Rattle.fc_workers.specs.Shares.{HasEnded}
use Rattle.fc_workers.specs.Work.{IsReplied}
use Rattle.fc_workers.proofs.Turns.{sets_out, turns_on}
use Rattle.fc_workers.proofs.worker_seed.worker.Goals as goal
use Rattle.fc_workers.proofs.worker_seed.worker.Goals.{in-None, in-Some+in_default}

pub loop-init : goal.loop-init
loop-init g c = (
  tt,
  tt,
  ap (λ (s : Share _). s.got.channel) c.new-share.ensures ∙ c.requires,
  sets_out g.B.Book.ServerName.first_job (worker_view g.B.Bench.changes g.B.Bench.ended g.B.Bench.called g.B.Bench.logged
      g.M.TimeSource.is_time g.M.TimeSource.is_random g.G.Gate.passed g.G.Gate.answered g.W.Wire.called) c.new-share.result,
)

pub loop-preserved : goal.loop-preserved
loop-preserved g c =
    let s = (worker_view g.B.Bench.changes g.B.Bench.ended g.B.Bench.called g.B.Bench.logged
    g.M.TimeSource.is_time g.M.TimeSource.is_random g.G.Gate.passed g.G.Gate.answered g.W.Wire.called) in
    let first_job = g.B.Book.ServerName.first_job in
    let n : Numbered TrackedJob = record { number = c.in-Some-next.number; message = c.in-Some-next.message } in
    let got = c.in-Some-next.ensures.got in
    let log = c.take_from_message-job.ensures.received in
    let worked = subst (λ (p : Job × (Got TrackedJob × TrackedLog)). IsReplied s n.number p.0 (record c.loop.share { got = p.1.0; log = p.1.1 }) c.work.new.share)
    (λ i. (c.take_from_message-job.ensures.job i, (got i, log i))) c.work.ensures.worked in
    let h = c.loop.invariant.3 in
    let gets = c.work.ensures.got ∙ got in (
      tt,
      tt,
      ap (λ (x : Got TrackedJob). x.channel) gets ∙ c.loop.invariant.2,
      turns_on first_job s n c.new-share.result c.loop.share c.work.new.share h (record { new = c.take_from_message-job.ensures.new; worked = worked; ends = c.work.ensures.ended }) gets,
    )

pub returns : goal.returns
returns g c =
    let s = (worker_view g.B.Bench.changes g.B.Bench.ended g.B.Bench.called g.B.Bench.logged
    g.M.TimeSource.is_time g.M.TimeSource.is_random g.G.Gate.passed g.G.Gate.answered g.W.Wire.called) in
    let first_job = g.B.Book.ServerName.first_job in
    let ended : HasEnded first_job s c.new-share.result c.match-next.share = elim c.match-next.branch [
      | in-None w ↦ subst (λ (x : Share _). HasEnded first_job s c.new-share.result x) (sym w.share-is) c.loop.invariant.3
      | in-Some+in_default w ↦ subst (λ (x : Share _). HasEnded first_job s c.new-share.result x)
          (sym (w.share-is ∙ ap (λ (x : Got TrackedJob). record c.loop.share { got = x }) w.in_default.ensures.got)) c.loop.invariant.3
    ] in
    record { own = c.attest_own.ensures.thread; ended = subst (λ (x : Share _). HasEnded first_job s x c.match-next.share) c.new-share.ensures ended }
