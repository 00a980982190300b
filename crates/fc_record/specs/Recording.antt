-- How an answered request to change a program is recorded, and the calls of a single-threaded
-- server that records.
use Rattle.std.specs.Prelude.{◌≡◌, ℕ, List, Option}
use Rattle.std.specs.Borrow.{Bor}
use Rattle.coap_msg.specs.declared.types.Emission.{Emission}
use Rattle.coap_msg.specs.declared.types.Endpoint.{Endpoint}
use Rattle.fc_ticket.specs.declared.job.Ask.{Ask}
use Rattle.fc_ticket.specs.declared.job.Ask.TheVariants.{Install, Remove}
use Rattle.fc_ticket.specs.declared.job.Job.{Job}
use Rattle.fc_front.specs.declared.front.Handled.{Handled}
use Rattle.fc_front.specs.Exchanges.{advanced}
use Rattle.fc_front.specs.Receiving.{delivered, emission_if}
use Rattle.fc_server.specs.SingleThread.{FiresAlone, HandlesAlone, NotifiesAlone, PassesAlone, PassesOverAlone, ResendsAlone, StaysIdleAlone, TellsGaugesAlone}
use Rattle.fc_server.specs.Ingresses.{IngressCalls, is_reply, never}
use Rattle.fc_server.specs.Shown.{IsShown}
use Rattle.fc_server.specs.declared.alone.SingleThread.{SingleThread}
use Rattle.fc_backend.specs.declared.call_log.CallLog.{CallLog}
use Rattle.fc_record.specs.ProgramRequests.{Requested, IsRequestOf}

-- the change that a job asked for was recorded, once, from one state of the caller's log to the
-- next.
pub record RecordsRequest (Recorded : Requested → CallLog → CallLog → Type 0) (job : Job) (sent : Option Emission) (before after : CallLog) : Type 0 where
  pub change : Requested
  pub is : IsRequestOf job sent change
  pub recorded : Recorded change before after

-- if the job asks for a change, that change is recorded; else nothing is.
abbrev pub IsRecordedFor : (Requested → CallLog → CallLog → Type 0) → Ask → Job → Option Emission → CallLog → CallLog → Type 0
IsRecordedFor Recorded (Install body initial) job sent before after = RecordsRequest Recorded job sent before after
IsRecordedFor Recorded Remove job sent before after = RecordsRequest Recorded job sent before after
IsRecordedFor Recorded other job sent before after = after ≡ before

abbrev pub IsRecorded : (Requested → CallLog → CallLog → Type 0) → Job → Option Emission → CallLog → CallLog → Type 0
IsRecorded Recorded job sent before after = IsRecordedFor Recorded job.ask job sent before after

-- a single-threaded server, and the log of its records.
pub record Recording : Type 0 where
  pub alone : SingleThread
  pub log : CallLog

module _ (Recorded : Requested → CallLog → CallLog → Type 0) where
  -- a datagram was received. Then the change that the datagram asked for is recorded, if the
  -- datagram produced such a job.
  abbrev pub HandlesRecorded : ℕ → Endpoint → Bor (List ℕ) → Recording → Recording → Handled → Emission → Type 0
  HandlesRecorded now from bytes old new handled reply =
      HandlesAlone now from bytes old.alone new.alone handled reply
      × IsShown (IsRecorded Recorded) (delivered (advanced old.alone.engine.front now) from bytes.now) (emission_if (is_reply handled) reply) old.log new.log

  -- the other calls record nothing.
  abbrev pub recorded_calls : IngressCalls Recording
  recorded_calls = record {
    handles = HandlesRecorded;
    passes = λ now old new. PassesAlone now old.alone new.alone × (new.log ≡ old.log);
    fires = λ slot now old new outcome. FiresAlone slot now old.alone new.alone outcome × (new.log ≡ old.log);
    is_first_due = λ now due. due ≡ never;
    resends = λ shard now old new ticked. ResendsAlone shard now old.alone new.alone ticked × (new.log ≡ old.log);
    passes_over = λ shard now old new. PassesOverAlone shard now old.alone new.alone × (new.log ≡ old.log);
    notifies = λ shard now old new told. NotifiesAlone shard now old.alone new.alone told × (new.log ≡ old.log);
    stays_idle = λ shard now until. StaysIdleAlone shard now.alone until;
    tells_gauges = λ now state gauges. TellsGaugesAlone now state.alone gauges;
  }
