-- Rounds of a server that receives datagrams.
use Rattle.std.specs.Prelude.{◌≡◌, ◌+◌, ◌-◌, ◌<◌, ℕ, max, min, nat_lt, if◌then◌else◌, List, [], ◌∷◌, ◌++◌, length, map, Bool, false, true, Option, Some, None, is_none}
use Rattle.std.specs.Option.{option_to_list}
use Rattle.coap_msg.specs.declared.types.Emission.{Emission}
use Rattle.fc_backend.specs.declared.call_log.CallLog.{CallLog}
use Rattle.fc_server.specs.Ingresses.{IngressCalls, never}
use Rattle.fc_server.specs.Flushing.{AreIdleUntil, AreFlushed, AreStepsBy, FlushingStep, sent_in_steps}
use Rattle.fc_record.specs.declared.report.Report.{Report}
use Rattle.fc_host.specs.Sockets.{Comes, Incoming, Receive}
use Rattle.fc_host.specs.declared.timer.Timer.{Timer}
use Rattle.fc_receive.specs.Handling.{IsHandledBy}
use Rattle.fc_receive.specs.Firing.{Firing, fired_calls, firing_from, readies_firing}
use Rattle.fc_receive.specs.Reporting.{Reporting, readies_through, reported_calls, reporting_from}
use Rattle.fc_receive.specs.Traffic.{AreHanded, Sending, replies_to}
use Rattle.fc_pool.specs.declared.replies.SentReplies.{SentReplies}
use Rattle.fc_pool.specs.declared.replies.Replies.{Replies}

-- a round: how long its receive waits, the datagram received, if any came in time, and the time.
-- Then the immediate response, the steps that followed, and the emissions passed to the sink. Then
-- the time at the end, if the clock was read again.
pub record Round : Type 0 where
  pub wait : Option ℕ
  pub received : Option Incoming
  pub now : ℕ
  pub sent : Option Emission
  pub steps : List FlushingStep
  pub sendings : List Sending
  pub ended : Option ℕ

-- the receive at the beginning of a round.
abbrev pub receive_of : Round → Receive
receive_of r = record { wait = r.wait; came = r.received }

-- the receives of rounds, their received datagrams, and the emissions passed to the sink, the
-- oldest first; the list of rounds begins with the newest.
abbrev pub round_receives : List Round → List Receive
round_receives [] = []
round_receives (r ∷ rs) = round_receives rs ++ receive_of r ∷ []

abbrev pub received_in : List Round → List Incoming
received_in [] = []
received_in (r ∷ rs) = received_in rs ++ option_to_list r.received

abbrev pub sendings_in : List Round → List Sending
sendings_in [] = []
sendings_in (r ∷ rs) = sendings_in rs ++ r.sendings

-- ---- how long a receive waits, by the times until which the shards are idle

-- how long a receive waits, from now until a time: at least 100 ms, and without limit if the time
-- is 2^64 - 1.
abbrev pub wait_until : ℕ → ℕ → Option ℕ
wait_until now time = if nat_lt time 18446744073709551615 then Some (max (time - now) 100) else None

-- after a round that received a datagram, the next receive waits 100 ms. After an idle round, it
-- waits until the earliest time at which there may be work.
abbrev pub EndsInTime : (ℕ → ℕ → Type 0) → ℕ → Bool → Option ℕ → Type 0
EndsInTime StaysIdle now false wait = wait ≡ Some 100
EndsInTime StaysIdle now true wait = (time : ℕ) × AreIdleUntil StaysIdle time × (wait ≡ wait_until now time)

-- a wait of at most `ms` milliseconds: the given wait, or `ms` if that is less. `None` is a wait
-- without limit.
abbrev pub no_longer_than : ℕ → Option ℕ → Option ℕ
no_longer_than ms None = Some ms
no_longer_than ms (Some wait) = Some (min wait ms)

-- a wait that begins at a time, shortened to end when a timer is due, and to at least 1 ms. If
-- there is no timer, the wait isn't shortened.
abbrev pub until_due : (now due : ℕ) → Option ℕ → Option ℕ
until_due now due wait = if nat_lt due never then no_longer_than (max (due - now) 1) wait else wait

-- a wait is shortened from the time at which its round ended, and the clock is read then. If there
-- is no timer, the clock isn't read, and the wait isn't shortened.
abbrev pub ShortensTo : (due : ℕ) → Option ℕ → (own wait : Option ℕ) → Type 0
ShortensTo due None own wait = (due ≡ never) × (wait ≡ own)
ShortensTo due (Some ended) own wait = (due < never) × (wait ≡ until_due ended due own)

-- how long a receive waits after a round at this time that left a server in this state, and ended
-- at that time. The wait ends when the server's first timer is due.
abbrev pub EndsByTimer : {S : Type 0} → IngressCalls S → S → ℕ → Option ℕ → Bool → Option ℕ → Type 0
EndsByTimer calls left now ended idle wait =
    (due : ℕ) × (own : Option ℕ) × calls.is_first_due left due × EndsInTime (λ shard until. calls.stays_idle shard left until) now idle own × ShortensTo due ended own wait

-- how long the first receive waits, from the start of the server's clock, and how long a receive
-- waits after rounds that left a server in this state.
abbrev pub WaitsAfter : {S : Type 0} → IngressCalls S → List Round → S → Option ℕ → Type 0
WaitsAfter calls [] left wait = (due : ℕ) × calls.is_first_due left due × (wait ≡ until_due 0 due (Some 100))
WaitsAfter calls (r ∷ rs) left wait = EndsByTimer calls left r.now r.ended (is_none r.received) wait

-- ---- the order of a round's calls

-- the calls of a source, of a clock, and of a sink, each from one state of the caller's log to the
-- next.
pub record RoundCalls : Type 1 where
  pub received : Receive → CallLog → CallLog → Type 0
  pub time : ℕ → CallLog → CallLog → Type 0
  pub went : Emission → Bool → CallLog → CallLog → Type 0

abbrev pub round_calls : (Receive → CallLog → CallLog → Type 0) → (ℕ → CallLog → CallLog → Type 0) → (Emission → Bool → CallLog → CallLog → Type 0) → RoundCalls
round_calls received time went = record { received = received; time = time; went = went }

-- the clock was read, and gave this time; or it wasn't read.
abbrev pub IsReadIfAny : (ℕ → CallLog → CallLog → Type 0) → Option ℕ → CallLog → CallLog → Type 0
IsReadIfAny time None before after = after ≡ before
IsReadIfAny time (Some now) before after = time now before after

-- a source was called for a datagram, then the clock was read, and then these emissions were passed
-- to a sink, in order. At the end the clock was read again, or not. The log has no other call.
pub record IsCalledIn (e : RoundCalls) (r : Round) (before after : CallLog) : Type 0 where
  pub asked : CallLog
  pub receives : e.received (receive_of r) before asked
  pub told : CallLog
  pub time : e.time r.now asked told
  pub passed : CallLog
  pub handed : AreHanded e.went r.sendings told passed
  pub ends : IsReadIfAny e.time r.ended passed after

-- the calls of rounds, one after the other, the newest first.
abbrev pub AreCalledIn : RoundCalls → List Round → CallLog → CallLog → Type 0
AreCalledIn e [] before after = after ≡ before
AreCalledIn e (r ∷ rs) before after = (mid : CallLog) × AreCalledIn e rs before mid × IsCalledIn e r mid after

-- ---- a server, by the effects of its calls
module _ {S : Type 0} (Readies : ℕ → S → S → Type 0) (calls : IngressCalls S) where
  -- a received datagram was handled; or none was received, and time passed.
  abbrev pub IsReceivedBy : ℕ → Option Incoming → S → Option Emission → S → Type 0
  IsReceivedBy now (Some incoming) old sent new = IsHandledBy calls.handles now incoming old sent new
  IsReceivedBy now None old sent new = calls.passes now old new × (sent ≡ None)

  -- the server was prepared, and a received datagram was handled. Then notifications that had timed
  -- out were retransmitted, and observers were notified, until no notification was left. Exactly
  -- the emissions of this work were passed to the sink, in order.
  pub record IsRoundBy (r : Round) (old new : S) : Type 0 where
    pub ready : S
    pub readied : Readies r.now old ready
    pub answered : S
    pub carried_out : IsReceivedBy r.now r.received ready r.sent answered
    pub steps : AreStepsBy calls r.now r.steps answered new
    pub flushed : AreFlushed r.steps
    pub sent : map (λ s. s.emission) r.sendings ≡ option_to_list r.sent ++ sent_in_steps r.steps

  -- rounds one after the other, the newest first.
  abbrev pub AreRoundsBy : List Round → S → S → Type 0
  AreRoundsBy [] old new = new ≡ old
  AreRoundsBy (r ∷ rs) old new = (mid : S) × AreRoundsBy rs old mid × WaitsAfter calls rs mid r.wait × IsRoundBy r mid new

  -- the receives of a source were those of these rounds, in order. The calls of each round were
  -- made in order, from this state of the log. The replies are those that the rounds passed on, by
  -- the results of the sink.
  pub record HasRounds (e : RoundCalls) (rounds : List Round) (before after : Option (List Receive)) (old new : S) (log : CallLog) (replied : SentReplies) : Type 0 where
    pub are_rounds : AreRoundsBy rounds old new
    pub came : Comes before after (round_receives rounds)
    pub called : AreCalledIn e rounds log replied.log
    pub counted : replied.replies ≡ replies_to (sendings_in rounds)

  -- the rounds ended when this number of datagrams was received, and there is a limit.
  pub record HasRun (e : RoundCalls) (limit : ℕ) (before after : Option (List Receive)) (old new : S) (replies : Replies) : Type 0 where
    pub rounds : List Round
    pub log : CallLog
    pub replied : SentReplies
    pub has : HasRounds e rounds before after old new log replied
    pub replies_are : replies ≡ replied.replies
    pub limited : 0 < limit
    pub received : length (received_in rounds) ≡ limit

-- ---- with reports, or without

-- a server has run in this way from one state to another, and its counts were reported with this
-- period, in milliseconds.
pub record HasRunReported {S : Type 0} (every : ℕ) (Reported : Report → CallLog → CallLog → Type 0) (Readies : ℕ → S → S → Type 0) (calls : IngressCalls S) (e : RoundCalls) (limit : ℕ) (before after : Option (List Receive)) (first last : S) (replies : Replies) : Type 0 where
  pub log : CallLog
  pub reporting : Reporting S
  pub run : HasRun (readies_through Readies) (reported_calls Reported calls) e limit before after (reporting_from every log first) reporting replies
  pub last_is : last ≡ reporting.ingress

-- with a period of reports, in milliseconds, the counts were reported; without a period nothing was
-- reported.
abbrev pub HasReceivedBy : {S : Type 0} → Option ℕ → (Report → CallLog → CallLog → Type 0) → (ℕ → S → S → Type 0) → IngressCalls S → RoundCalls → ℕ → Option (List Receive) → Option (List Receive) → S → S → Replies → Type 0
HasReceivedBy None Reported Readies c e limit before after first last replies = HasRun Readies c e limit before after first last replies
HasReceivedBy (Some every) Reported Readies c e limit before after first last replies = HasRunReported every Reported Readies c e limit before after first last replies

-- ---- with timers, or without

-- a server has run in this way from one state to another, with these timers.
pub record HasRunTimed {S : Type 0} (timers : List Timer) (every : Option ℕ) (Reported : Report → CallLog → CallLog → Type 0) (Readies : ℕ → S → S → Type 0) (calls : IngressCalls S) (e : RoundCalls) (limit : ℕ) (before after : Option (List Receive)) (first last : S) (replies : Replies) : Type 0 where
  pub firing : Firing S
  pub run : HasReceivedBy every Reported (readies_firing Readies) (fired_calls calls) e limit before after (firing_from timers first) firing replies
  pub last_is : last ≡ firing.ingress

-- with timers, they fired; without timers, the server was called directly.
abbrev pub HasReceivedWith : {S : Type 0} → List Timer → Option ℕ → (Report → CallLog → CallLog → Type 0) → (ℕ → S → S → Type 0) → IngressCalls S → RoundCalls → ℕ → Option (List Receive) → Option (List Receive) → S → S → Replies → Type 0
HasReceivedWith [] every Reported Readies c e limit before after first last replies = HasReceivedBy every Reported Readies c e limit before after first last replies
HasReceivedWith (t ∷ ts) every Reported Readies c e limit before after first last replies = HasRunTimed (t ∷ ts) every Reported Readies c e limit before after first last replies
