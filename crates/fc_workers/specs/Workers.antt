-- A worker's initial state and statistics, and a dispatcher's record, with logs that have tracks.
use Rattle.fc_workers.specs.declared.dispatcher.Dispatched.{Dispatched as DispatchedWith}
use Rattle.fc_workers.specs.declared.worker_seed.WorkerSeed.{WorkerSeed as SeatWith}
use Rattle.fc_backend.specs.Logs.{TrackedLog}
use Rattle.fc_backend.specs.Messages.{TrackedJob}

abbrev pub WorkerSeed : Type 0 → Type 0
WorkerSeed T = SeatWith T TrackedLog TrackedJob

abbrev pub Dispatched : Type 0 → Type 0
Dispatched T = DispatchedWith T TrackedLog TrackedJob
