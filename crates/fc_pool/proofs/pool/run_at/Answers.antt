use Rattle.std.proofs.Common.{◌≡◌, ◌-◌, subst}
use Rattle.std.specs.Prelude.{IfOk, ⊤, vec_len}
use Rattle.fc_jobs.specs.Ends.{nothing_got}
use Rattle.fc_workers.specs.Shares.{AreSharesOf}
use Rattle.fc_workers.specs.Workers.{WorkerSeed}
use Rattle.fc_pool.specs.Pooled.{open_view}
use Rattle.fc_record.specs.Recording.{IsRecorded}
use Rattle.fc_backend.specs.Logs.{IsNewLog}
use Rattle.fc_workers.proofs.Filed.{bench_files}
use Rattle.fc_pool.proofs.Pools.{shares_right}
use Rattle.fc_pool.proofs.Seats.{all_before}
use Rattle.fc_pool.proofs.pool.run_at.Goals as goal

pub returns-clause-right : goal.returns-clause-right
returns-clause-right g c =
    let s = open_view g.B.Bench.changes g.B.Bench.ended g.B.Bench.called g.B.Bench.logged g.M.TimeSource.is_time g.M.TimeSource.is_random (IsRecorded g.C.Recorder.recorded) g.W.Wire.called in
    let first_job = g.B.Book.ServerName.first_job in
    shares_right first_job s
    (bench_files g.B.Bench.changes g.B.Bench.ended g.B.Bench.called g.B.Bench.logged g.M.TimeSource.is_time g.M.TimeSource.is_random (λ number before after. after ≡ before) (IsRecorded g.C.Recorder.recorded) g.W.Wire.called g.B.Bench.files)
    c.pop.new.self.items c.in_ok-shares.field-0.items
    (all_before (λ (seat : WorkerSeed _). IsNewLog seat.log) (vec_len c.in_ok-jobs.seats - 1) c.in_ok-jobs.seats.items c.pop.ensures.rest (c.in_ok-jobs.ensures.new_logs c.requires.new_logs))
    (subst (λ r. IfOk r (λ v. AreSharesOf first_job s c.pop.new.self.items v.items)) c.in_ok-shares.was c.drive_workers-given.ensures.shares)

pub returns-clause-order : goal.returns-clause-order
returns-clause-order g c = c.drive_workers-given.ensures.fed.1.1

-- the returned shares are those of workers at all seats except the last, which was popped.
pub returns-clause-fed : goal.returns-clause-fed
returns-clause-fed g c =
    let s = open_view g.B.Bench.changes g.B.Bench.ended g.B.Bench.called g.B.Bench.logged g.M.TimeSource.is_time g.M.TimeSource.is_random (IsRecorded g.C.Recorder.recorded) g.W.Wire.called in
    let channel = c.in_ok-jobs.jobs in
    record {
      channel = channel;
      fed = c.drive_workers-given.ensures.fed.1.0;
      shares_are = record {
        seats = c.pop.new.self.items;
        new = all_before (λ (seat : WorkerSeed _). seat.got ≡ nothing_got channel) (vec_len c.in_ok-jobs.seats - 1) c.in_ok-jobs.seats.items c.pop.ensures.rest c.in_ok-jobs.ensures.seats.got;
        new_logs = all_before (λ (seat : WorkerSeed _). IsNewLog seat.log) (vec_len c.in_ok-jobs.seats - 1) c.in_ok-jobs.seats.items c.pop.ensures.rest (c.in_ok-jobs.ensures.new_logs c.requires.new_logs);
        worked = subst (λ r. IfOk r (λ v. AreSharesOf g.B.Book.ServerName.first_job s c.pop.new.self.items v.items)) c.in_ok-shares.was c.drive_workers-given.ensures.shares;
      };
    }
