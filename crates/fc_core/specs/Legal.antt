-- The permitted emissions of each event, and the meaning of each snapshot. No other emission is
-- permitted.
use Rattle.std.specs.Prelude.{◌≡◌, ℕ, ◌+◌, ◌*◌, ◌≤◌, Bool, true, false, List, Option, Some, None, max}
use Rattle.coap_msg.specs.declared.types.Emission.{Emission}
use Rattle.fc_image.specs.Paths.{IsLongest}
use Rattle.fc_kinds.specs.Meaning.{IsRun}
use Rattle.fc_observe.specs.declared.observers.Ticked.{Ticked}
use Rattle.fc_observe.specs.declared.observers.Ticked.TheVariants.{Resend}
use Rattle.fc_observe.specs.Observers.{list_at_time, ticked}
use Rattle.fc_ticket.specs.declared.job.Job.{Job}
use Rattle.fc_ticket.specs.Tickets.{Present, Ticket}
use Rattle.fc_ticket.specs.Runs.{ticket_of, input_of}
use Rattle.fc_core.specs.declared.event.Event.{Event}
use Rattle.fc_core.specs.declared.event.Event.TheVariants.{Take}
use Rattle.fc_core.specs.Stage.{Stage}
use Rattle.fc_core.specs.Stage.{ToTake, ToTell}
use Rattle.fc_core.specs.TurnStage as turns
use Rattle.fc_front.specs.Contents.{Content}
use Rattle.fc_front.specs.Replies.{IsReplyTo}
use Rattle.fc_front.specs.Exchanges.{FrontState, opening_is_live}
use Rattle.fc_front.specs.Receiving.{sent, id_in}
use Rattle.fc_core.specs.Stages.{content_at}
use Rattle.fc_core.specs.Transitions.{Inputs, names, sends}
use Rattle.fc_core.specs.History.{AtFront, Receives, Answers, Draws, Fires, Passes, Rests, AtShard, Ticks, History, BeginsWith, Then, Seen, seen, at_front, at_shard, front_at, received_at, job, overdue_in, stage, inputs, watch}

-- the permitted emission of a job's answer. The answer is sent if the exchange is live and a
-- message ID is available, and otherwise not.
abbrev pub IsAnswered : Bool → Option ℕ → Job → Content → Option Emission → Type 0
IsAnswered true (Some id) j content None = ⊥
IsAnswered true (Some id) j content (Some emission) = IsReplyTo j id content emission
IsAnswered true None j content emitted = emitted ≡ None
IsAnswered false id j content emitted = emitted ≡ None

abbrev pub AnswerEmits : Option Content → Job → FrontState → Option Emission → Type 0
AnswerEmits None j f emitted = emitted ≡ None
AnswerEmits (Some content) j f emitted = IsAnswered (opening_is_live f.now j.origin.opening) (id_in f j.confirmable j.origin.id) j content emitted

-- the retransmission of a tick, if there is one.
abbrev pub resent : Ticked → Option Emission
resent (Resend emission) = Some emission
resent other = None

-- the retransmission of a tick at a place of shard i, at this time; `None` without a place.
abbrev pub resent_at : Option ℕ → Seen → ℕ → ℕ → Option Emission
resent_at None s i at = None
resent_at (Some k) s i at = resent (ticked (list_at_time at (watch s (8 * k + i))))

-- the retransmission of an event at its own shard, if there is one.
abbrev pub resent_in : AtShard → Seen → Option Emission
resent_in (Ticks i now) s = resent_at (overdue_in s i (max (s.shard_time i) now)) s i (max (s.shard_time i) now)
resent_in other s = None

-- the emission of an event without an effect on the front. It is the notification of the job that
-- the event names, or a retransmission of the event's own shard.
abbrev pub sends_in : Option ℕ → Event → Seen → Option Emission
sends_in None e s = resent_in (at_shard e) s
sends_in (Some k) e s = sends e (inputs s k)

-- the permitted emission of an event, by the event's effect on the front.
abbrev pub EmitsBy : AtFront → Event → Seen → Option Emission → Type 0
EmitsBy (Receives now to bytes) e s emitted = emitted ≡ sent (received_at s now to bytes) (front_at s now) to
EmitsBy (Answers k now) e s emitted = AnswerEmits (content_at (stage s k)) (job s k) (front_at s now) emitted
EmitsBy (Draws k now) e s emitted = emitted ≡ None
EmitsBy (Fires slot now) e s emitted = emitted ≡ None
EmitsBy (Passes now) e s emitted = emitted ≡ None
EmitsBy Rests e s emitted = emitted ≡ sends_in (names e) e s

abbrev pub Emits : Seen → Event → Option Emission → Type 0
Emits s e emitted = EmitsBy (at_front e) e s emitted

-- each event of the history has only a permitted emission.
abbrev pub IsLegal : History → Type 0
IsLegal (BeginsWith stored id policy) = Unit {0}
IsLegal (Then h r) = Emits (seen h) r.event r.emitted × IsLegal h

-- the ticket's program has a meaning for the request, and for the variables and readings of the
-- snapshot. The run reaches the exit in at most the steps of the program's longest path, and these
-- are at most its budget.
pub record IsMeant (t : Ticket) : Type 0 where
  pub run : IsRun t.found.program (input_of t)
  pub longest : IsLongest t.found.program.version t.found.program.code t.found.program.cost
  pub cost : t.found.program.cost ≤ t.found.program.budget

-- if the slot has a program at this serial, the program has a meaning for the job's request and
-- these readings.
abbrev pub FoundMeans : Job → List ℕ → ℕ → Option Present → Type 0
FoundMeans j readings serial None = Unit {0}
FoundMeans j readings serial (Some found) = IsMeant (ticket_of j readings serial found)

abbrev pub FindsMeaning : List ℕ → Inputs → Stage → Type 0
FindsMeaning readings s (ToTake count) = FoundMeans s.job readings s.slot.serial s.slot.present
FindsMeaning readings s (ToTell turn turns.ToTake) = FoundMeans s.job readings s.slot.serial s.slot.present
FindsMeaning readings s other = Unit {0}

-- if a snapshot at its stage finds a program, that program has a meaning, whether or not memory for
-- a ticket can be allocated.
abbrev pub TakesMeaning : Seen → Event → Type 0
TakesMeaning s (Take k memory readings) = FindsMeaning readings (inputs s k) (stage s k)
TakesMeaning s other = Unit {0}

abbrev pub AllMean : History → Type 0
AllMean (BeginsWith stored id policy) = Unit {0}
AllMean (Then h r) = TakesMeaning (seen h) r.event × AllMean h
