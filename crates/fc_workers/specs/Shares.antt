-- The statistics of a worker, related to the jobs that it received.
use Rattle.std.specs.Prelude.{◌≡◌, ℕ, ◌+◌, ◌<◌, List, [], ◌∷◌, ◌++◌, length, map, reverse, slice_index_or}
use Rattle.std.specs.List.{All}
use Rattle.fc_jobs.specs.Ends.{Channel, nothing_got, with_got}
use Rattle.fc_jobs.specs.declared.protocol.Numbered.{Numbered}
use Rattle.fc_filed.specs.Threads.{HasOwnTrack}
use Rattle.fc_backend.specs.Logs.{TrackedLog}
use Rattle.fc_backend.specs.Messages.{IsNewJob, TrackedJob, with_tracks}
use Rattle.fc_backend.specs.Statistics.{Share, new_share}
use Rattle.fc_workers.specs.Workers.{WorkerSeed}
use Rattle.fc_backend.specs.Answers.{HasRisen, saturated}
use Rattle.fc_workers.specs.Views.{WorkerView}
use Rattle.fc_workers.specs.Work.{IsReplied}

-- there is a worker seed for each of these tallies, and its worker has received no job yet. The
-- first worker seed has the last of these logs, and so on.
pub record AreNewSeats {T : Type 0} (channel : Channel TrackedJob) (tallies : List T) (logs : List TrackedLog) (seats : List (WorkerSeed T)) : Type 0 where
  pub got : All (λ (s : WorkerSeed T). s.got ≡ nothing_got channel) seats
  pub tallies_are : map (λ (s : WorkerSeed T). s.tallies) seats ≡ tallies
  pub logs_are : map (λ (s : WorkerSeed T). s.log) seats ≡ reverse logs

module _ {T : Type 0} (first_job : ℕ) (s : WorkerView T) where
  -- the worker received a job with its track, which has only the call that produced the job. It ran
  -- the job under its number, and ended it. The job's reply, if there is one, is sent and counted.
  pub record IsTurn (n : Numbered TrackedJob) (before after : Share T) : Type 0 where
    pub new : IsNewJob first_job n.message
    pub worked : IsReplied s n.number n.message.job (record before { got = with_got before.got n.number n.message; log = with_tracks n.message.tracks before.log }) after
    pub ends : s.ended after.tallies ≡ saturated (s.ended before.tallies + 1)

  -- the worker ran these jobs one after the other. The list has the newest job first.
  unfoldable pub AreTurns : List (Numbered TrackedJob) → Share T → Share T → Type 0
  AreTurns [] before after = after ≡ before
  AreTurns (n ∷ ns) before after = (now : Share T) × (AreTurns ns before now × IsTurn n now after)

  -- the worker received further jobs, ran each of them, and counted as many ended jobs.
  pub record HasEnded (before after : Share T) : Type 0 where
    pub jobs : List (Numbered TrackedJob)
    pub turns : AreTurns jobs before after
    pub got : after.got ≡ record before.got { got = before.got.got ++ reverse jobs }
    pub count : HasRisen (s.ended before.tallies) (length jobs) (s.ended after.tallies)

  -- the statistics of the worker that began with this worker seed. The worker's log continues the
  -- worker seed's log, which has the track of the worker's thread.
  pub record IsShareOf (seat : WorkerSeed T) (share : Share T) : Type 0 where
    pub own : HasOwnTrack first_job seat.log.who seat.log.tracks
    pub ended : HasEnded (new_share seat.got seat.tallies seat.log) share

  -- the statistics for each worker seed, in the order of the worker seeds.
  pub record AreSharesOf (seats : List (WorkerSeed T)) (shares : List (Share T)) : Type 0 where
    pub count : length shares ≡ length seats
    pub each : (i : ℕ) (seat : WorkerSeed T) (share : Share T) → i < length seats → IsShareOf (slice_index_or seats i seat) (slice_index_or shares i share)
