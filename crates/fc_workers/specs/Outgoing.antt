-- The message that is sent for a job: the answer of some front, or the notification for its lease.
use Rattle.std.specs.Prelude.{◌≡◌, ◌⊎◌, ◌+◌, ℕ, Bool, if◌then◌else◌, Option, Some, None}
use Rattle.coap_msg.specs.declared.types.Emission.{Emission}
use Rattle.fc_observe.specs.declared.entry.Turn.{Turn}
use Rattle.fc_ticket.specs.declared.job.Job.{Job}
use Rattle.fc_ticket.specs.declared.note.Noted.{Noted}
use Rattle.fc_ticket.specs.declared.note.Notification.{Notification}
use Rattle.fc_ticket.specs.Taken.{Taken}
use Rattle.fc_ticket.specs.Taken.{Given, Missing, Stale, Refused}
use Rattle.fc_ticket.specs.Notes.{sent_of}
use Rattle.fc_ticket.specs.Tickets.{Ticket}
use Rattle.fc_front.specs.Contents.{Content}
use Rattle.fc_calls.specs.Doings.{SaysFound}
use Rattle.fc_backend.specs.Statistics.{Share}
use Rattle.fc_backend.specs.Answers.{IsSomeAnswer, IsSomeDraw, IsSomeNote, saturated}
use Rattle.fc_backend.specs.Logs.{TrackedLog}
use Rattle.fc_calls.specs.Logged.{AnswersRequest, DrawsId, GivesUpTurn, NotesTurn}
use Rattle.fc_backend.specs.Called.{SendsReply}
use Rattle.fc_workers.specs.Views.{WorkerView}

-- statistics that count one more reply: as sent if it went out, otherwise as failed.
abbrev pub with_reply : {T : Type 0} → Bool → Share T → Share T
with_reply out share = if out then record share { sent = saturated (share.sent + 1) } else record share { failed = saturated (share.failed + 1) }

module _ {T : Type 0} (s : WorkerView T) where
  -- ---- requests

  -- the time was requested, and then some front answered the job at that time. This reply, or
  -- nothing, is to be sent. The next call was the hook after the answer, once, with the job and this
  -- reply.
  pub record GivesAnswer (job : Job) (content : Content) (reply : Option Emission) (before after : TrackedLog) : Type 0 where
    pub now : ℕ
    pub asked : TrackedLog
    pub time : s.time now before asked
    pub log : TrackedLog
    pub answers : s.logged (AnswersRequest now job content reply) asked log
    pub answer : IsSomeAnswer now job content reply
    pub after_answer : s.after_answer job reply log after

  -- ---- leases

  -- the time was requested, and then the lease's observer was notified of this content at that
  -- time, with this message ID. This reply, or nothing, is to be sent.
  pub record IsNoteSent (told : Notification) (turn : Turn) (id : ℕ) (reply : Option Emission) (before after : TrackedLog) : Type 0 where
    pub now : ℕ
    pub asked : TrackedLog
    pub time : s.time now before asked
    pub random : ℕ
    pub random_is : s.random random
    pub noted : Noted
    pub notes : s.logged (NotesTurn turn id now random told noted) asked after
    pub note : IsSomeNote now told turn id noted
    pub reply_is : reply ≡ sent_of noted

  -- the time was requested, and a message ID was drawn at that time. Then the lease's observer was
  -- notified of the snapshot, with this message ID.
  pub record IsNotification (turn : Turn) (found : Option Ticket) (reply : Option Emission) (before after : TrackedLog) : Type 0 where
    pub drawn : ℕ
    pub asked : TrackedLog
    pub time : s.time drawn before asked
    pub id : ℕ
    pub log : TrackedLog
    pub draws : s.logged (DrawsId drawn (Some id)) asked log
    pub draw : IsSomeDraw drawn (Some id)
    pub told : Notification
    pub tells : SaysFound told found
    pub noted : IsNoteSent told turn id reply log after

  -- the time was requested, and then the lease was released at that time. Nothing is sent.
  pub record IsGivenUp (turn : Turn) (reply : Option Emission) (before after : TrackedLog) : Type 0 where
    pub now : ℕ
    pub asked : TrackedLog
    pub time : s.time now before asked
    pub gives_up : s.logged (GivesUpTurn turn now) asked after
    pub nothing : reply ≡ None

  -- no message ID was available, and the lease was released.
  pub record IsStarved (turn : Turn) (reply : Option Emission) (before after : TrackedLog) : Type 0 where
    pub now : ℕ
    pub asked : TrackedLog
    pub time : s.time now before asked
    pub log : TrackedLog
    pub draws : s.logged (DrawsId now None) asked log
    pub draw : IsSomeDraw now None
    pub given_up : IsGivenUp turn reply log after

  -- the lease's observer was notified of the snapshot; or no message ID was available, and the
  -- lease was released.
  abbrev pub IsFoundTold : Turn → Option Ticket → Option Emission → TrackedLog → TrackedLog → Type 0
  IsFoundTold turn found reply before after = IsNotification turn found reply before after ⊎ IsStarved turn reply before after

  -- the calls that follow the snapshot of a lease's job, by the snapshot's result. The observer is
  -- notified of a snapshot or of an empty slot. If memory was refused, the lease is released. If
  -- the snapshot is stale, no call follows.
  abbrev pub IsTurnReply : Turn → Taken → Option Emission → TrackedLog → TrackedLog → Type 0
  IsTurnReply turn (Given t) reply before after = IsFoundTold turn (Some t) reply before after
  IsTurnReply turn Missing reply before after = IsFoundTold turn None reply before after
  IsTurnReply turn Stale reply before after = (reply ≡ None) × (after ≡ before)
  IsTurnReply turn Refused reply before after = IsGivenUp turn reply before after

  -- ---- sending

  -- the reply was sent once, under its job's number, and counted as sent or as failed. If there is
  -- no reply, no call was made, and nothing is counted.
  abbrev pub IsSent : ℕ → Option Emission → Share T → Share T → Type 0
  IsSent number None before after = after ≡ before
  IsSent number (Some reply) before after =
      (out : Bool) × (log : TrackedLog) × s.wire (SendsReply number reply out) before.log log × (after ≡ with_reply out (record before { log = log }))
