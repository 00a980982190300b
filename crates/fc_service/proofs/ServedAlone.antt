-- A server on one thread that has run.
use Rattle.std.proofs.Common.{◌≡◌, ℕ, List, [], ◌∷◌, Option, Some, None}
use Rattle.fc_host.specs.Sockets.{Receive}
use Rattle.fc_host.specs.declared.timer.Timer.{Timer}
use Rattle.fc_record.specs.ProgramRequests.{Requested}
use Rattle.fc_record.specs.Recording.{Recording, recorded_calls}
use Rattle.fc_record.specs.declared.report.Report.{Report}
use Rattle.fc_server.specs.States.{ServerState}
use Rattle.fc_backend.specs.declared.call_log.CallLog.{CallLog}
use Rattle.fc_service.specs.SingleThread.{ReadiesRecorded}
use Rattle.fc_receive.specs.Rounds.{HasReceivedWith, RoundCalls}
use Rattle.fc_service.specs.Services.{HasServedBy}
use Rattle.fc_pool.specs.declared.replies.Replies.{Replies}

-- a server on one thread has run, with timers or without, and with reports or without.
pub served_by : (timers : List Timer) (every : Option ℕ) (Reported : Report → CallLog → CallLog → Type 0) (sensors : List ℕ → Type 0) (e : RoundCalls) (Recorded : Requested → CallLog → CallLog → Type 0)
    (limit : ℕ) (start : ServerState) (before after : Option (List Receive)) (first last : Recording) (replies : Replies) → first.alone.engine ≡ start
    → HasReceivedWith timers every Reported (ReadiesRecorded sensors) (recorded_calls Recorded) e limit before after first last replies
    → HasServedBy timers every Reported sensors e Recorded limit start before after replies
served_by [] None Reported sensors e Recorded limit start before after first last replies begins run = record { first = first; last = last; begins = begins; run = run }
served_by [] (Some every) Reported sensors e Recorded limit start before after first last replies begins run = record { first = first; last = last; begins = begins; run = run }
served_by (t ∷ ts) every Reported sensors e Recorded limit start before after first last replies begins run = record { first = first; last = last; begins = begins; run = run }
