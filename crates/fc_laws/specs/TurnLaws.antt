-- Definitions for the laws of leases.
use Rattle.std.specs.Prelude.{◌≡◌, ℕ, ◌+◌, ◌*◌, ◌%◌, ◌<◌, ◌≤◌, ◌&&◌, nat_eq, nat_le, max, Bool, true, if◌then◌else◌, List, Option, None, Some}
use Rattle.std.specs.Cmp.Lexicographic.{pointwise}
use Rattle.std.specs.List.{Contains}
use Rattle.arrayvec.specs.ArrayVec.{ArrayVec}
use Rattle.coap_msg.specs.declared.types.Emission.{Emission}
use Rattle.coap_msg.specs.declared.types.Endpoint.{Endpoint}
use Rattle.coap_msg.specs.Endpoints.{same_endpoint}
use Rattle.coap_msg.specs.declared.types.MessageType.{MessageType}
use Rattle.coap_msg.specs.declared.types.MessageType.TheVariants.{Confirmable, NonConfirmable}
use Rattle.coap_reply.specs.Blocks.{cut_for}
use Rattle.coap_reply.specs.Responses.{Response, ran_response, sent_in}
use Rattle.fc_observe.specs.declared.entry.Entry.{Entry as ObserverEntry}
use Rattle.fc_observe.specs.declared.entry.Phase.TheVariants.{Outstanding, TurnOut}
use Rattle.fc_observe.specs.declared.entry.Turn.{Turn}
use Rattle.fc_observe.specs.Observers.{ObserverList, list_at_time, entry_out, overdue_entry}
use Rattle.fc_observe.specs.Entries.{is_entry_of}
use Rattle.fc_ticket.specs.Runs.{meaning_at}
use Rattle.fc_ticket.specs.Tickets.{Ticket}
use Rattle.fc_core.specs.declared.event.Event.TheVariants.{Commit, Note, ShardTick, Signal}
use Rattle.fc_core.specs.Stage.{ToCommit, ToTell}
use Rattle.fc_core.specs.TurnStage.{ToNote}
use Rattle.fc_core.specs.History.{Entry, Seen, overdue_in, stage, watch}
use Rattle.fc_core.specs.Laws.{slot_of}
use Rattle.fc_laws.specs.ObserveLaws.{is_held}

-- the time of the shard of job k's slot, after the time `now` is passed to the shard.
abbrev pub time_at : Seen → ℕ → ℕ → ℕ
time_at s k now = max (s.shard_time (slot_of s k % 8)) now

-- the response to the run of a ticket. If the run means a 2.05 (Content), the snapshot's serial is
-- the ETag and the sequence number.
abbrev pub response_of : Ticket → Response
response_of t = ran_response (meaning_at t).code (cut_for t.block (meaning_at t).reply) t.serial true

-- the emission is a notification to the observer whose entry has this lease, active at this time.
-- The emission is sent to the entry's endpoint, with the entry's token. The message is confirmable
-- if `confirm_after` ms have passed since the entry was registered or last sent a confirmable
-- notification.
pub record Notifies (turn : Turn) (id at confirm_after : ℕ) (w : ObserverList) (response : Response) (e : Emission) : Type 0 where
  pub entry : ObserverEntry
  pub held : Contains w.held entry
  pub out : entry_out turn (list_at_time at w) ≡ Some entry
  pub is : e ≡ sent_in (record {
    to = entry.endpoint;
    kind = if nat_le (entry.confirmed + confirm_after) at then Confirmable else NonConfirmable;
    id = id;
    token = entry.token.items;
  }) response

-- a message of this type to an observer.
abbrev pub note_as : MessageType → ℕ → ObserverEntry → Response → Emission
note_as kind id entry response = sent_in (record { to = entry.endpoint; kind = kind; id = id; token = entry.token.items }) response

-- the emission is the notification of this lease, to an observer of job k's slot, by the server's
-- policy.
abbrev pub NotifiesOf : Seen → ℕ → ℕ → Turn → ℕ → Response → Emission → Type 0
NotifiesOf s k now turn id response e = Notifies turn id (time_at s k now) s.policy.confirm_after (watch s (slot_of s k)) response e

-- if the entry has this lease, the lease was granted at least 247,000 ms before.
abbrev pub HasLapsed : Turn → ℕ → ObserverEntry → Type 0
HasLapsed turn at o = (since : ℕ) (missing : Bool) → o.phase ≡ TurnOut turn.number since missing → since + 247000 ≤ at

-- the emission is sent to an observer in the list, to the endpoint and with the token of its entry.
pub record IsToHeld (w : ObserverList) (e : Emission) : Type 0 where
  pub entry : ObserverEntry
  pub held : is_held entry.endpoint entry.token.items w ≡ true
  pub kind : MessageType
  pub id : ℕ
  pub response : Response
  pub is : e ≡ sent_in (record { to = entry.endpoint; kind = kind; id = id; token = entry.token.items }) response

-- the emission is the outstanding notification of an observer in the list, unchanged. It was
-- retransmitted less than four times before.
pub record Resends (w : ObserverList) (e : Emission) : Type 0 where
  pub entry : ObserverEntry
  pub held : is_held entry.endpoint entry.token.items w ≡ true
  pub sent_at : ℕ
  pub timeout : ℕ
  pub retransmissions : ℕ
  pub bytes : ArrayVec ℕ
  pub outstanding : entry.phase ≡ Outstanding sent_at timeout retransmissions bytes
  pub few : retransmissions < 4
  pub is : e ≡ record { to = entry.endpoint; bytes = bytes }

-- ---- removals from a list

-- an observer is removed by the commit of its own GET with Observe 1.
pub record Cancels (r : Entry) (s : Seen) (n : ℕ) (to : Endpoint) (token : List ℕ) : Type 0 where
  pub number : ℕ
  pub now : ℕ
  pub count : ℕ
  pub ticket : Ticket
  pub event : r.event ≡ Commit number now
  pub at : stage s number ≡ ToCommit count ticket
  pub slot : slot_of s number ≡ n
  pub asks : ticket.observe ≡ Some 1
  pub client : (same_endpoint ticket.origin.endpoint to && pointwise nat_eq ticket.token.items token) ≡ true

-- an observer is removed by a Reset message that answers the last notification sent to it.
pub record Resets (r : Entry) (s : Seen) (n : ℕ) (to : Endpoint) (token : List ℕ) : Type 0 where
  pub shard : ℕ
  pub id : ℕ
  pub entry : ObserverEntry
  pub event : r.event ≡ Signal shard entry.endpoint id true
  pub slot : n % 8 ≡ shard
  pub held : Contains (watch s n).held entry
  pub own : is_entry_of to token entry ≡ true
  pub last : entry.id ≡ Some id

-- an observer is removed by a tick of its shard, if the notification to it has timed out after four
-- retransmissions.
pub record TimesOut (r : Entry) (s : Seen) (n : ℕ) (to : Endpoint) (token : List ℕ) : Type 0 where
  pub shard : ℕ
  pub now : ℕ
  pub place : ℕ
  pub entry : ObserverEntry
  pub sent_at : ℕ
  pub timeout : ℕ
  pub retransmissions : ℕ
  pub bytes : ArrayVec ℕ
  pub event : r.event ≡ ShardTick shard now
  pub slot : 8 * place + shard ≡ n
  pub first : overdue_in s shard (max (s.shard_time shard) now) ≡ Some place
  pub overdue : overdue_entry (list_at_time (max (s.shard_time shard) now) (watch s n)) ≡ Some entry
  pub own : is_entry_of to token entry ≡ true
  pub outstanding : entry.phase ≡ Outstanding sent_at timeout retransmissions bytes
  pub four : 4 ≤ retransmissions

-- a lease that found the slot empty, or whose run doesn't mean a 2.05 (Content).
abbrev pub IsNoContent : Option Ticket → Type 0
IsNoContent None = Unit {0}
IsNoContent (Some t) = (meaning_at t).code ≡ 69 → ⊥

-- an observer is removed by the notification of its active lease, which isn't a 2.05 (Content).
pub record IsTurnedAway (r : Entry) (s : Seen) (n : ℕ) (to : Endpoint) (token : List ℕ) : Type 0 where
  pub number : ℕ
  pub now : ℕ
  pub random : ℕ
  pub id : ℕ
  pub turn : Turn
  pub found : Option Ticket
  pub entry : ObserverEntry
  pub event : r.event ≡ Note number now random
  pub at : stage s number ≡ ToTell turn (ToNote found id)
  pub slot : slot_of s number ≡ n
  pub out : entry_out turn (list_at_time (time_at s number now) (watch s n)) ≡ Some entry
  pub own : is_entry_of to token entry ≡ true
  pub answer : IsNoContent found

-- the event removes the client with this endpoint and token from the observers of slot n, in one of
-- four ways.
pub data Removes (r : Entry) (s : Seen) (n : ℕ) (to : Endpoint) (token : List ℕ) : Type 0 where
  ByCancellation : (w : Cancels r s n to token) → Removes r s n to token
  ByReset : (w : Resets r s n to token) → Removes r s n to token
  ByTimeout : (w : TimesOut r s n to token) → Removes r s n to token
  ByAnswer : (w : IsTurnedAway r s n to token) → Removes r s n to token
