-- Effects of a refusal, and the three exceptions.
use Rattle.std.specs.Prelude.{◌≡◌, ◌⊎◌, ℕ, ◌%◌, ◌≤◌, Bool, true, false, List, [], max, slice_set, Option, Some, None, Ok, Err}
use Rattle.std.specs.Borrow.{Bor}
use Rattle.coap_msg.specs.declared.types.Bad.TheVariants as bad
use Rattle.coap_msg.specs.declared.types.Emission.{Emission}
use Rattle.coap_msg.specs.declared.types.Endpoint.{Endpoint}
use Rattle.coap_msg.specs.Reading.{reading_of}
use Rattle.coap_msg.specs.Wire.{Message}
use Rattle.coap_opts.specs.Verdict.{IsIgnored, IsSilent, verdict}
use Rattle.coap_block.specs.Transfers.{transfers}
use Rattle.coap_block.specs.UnderWay.{bytes_held}
use Rattle.coap_block.specs.Uploads.{same_key}
use Rattle.fc_kinds.specs.Meaning.{Program}
use Rattle.fc_observe.specs.declared.entry.Entry.{Entry as ObserverEntry}
use Rattle.fc_observe.specs.declared.entry.Turn.{Turn}
use Rattle.fc_observe.specs.Observers.{list_at_time, entry_out, turn_missed}
use Rattle.fc_registry.specs.Calls.{wants}
use Rattle.fc_ticket.specs.Tickets.{Present, Ticket}
use Rattle.fc_verify.specs.Accepted.{Accepts}
use Rattle.fc_verify.specs.Judged.{judged}
use Rattle.fc_front.specs.Contents.{Content}
use Rattle.fc_core.specs.declared.event.Event.{Event}
use Rattle.fc_core.specs.declared.event.Event.TheVariants.{Answer, Commit, Deliver, Fresh, Install, Note, Receipt, Refuse, Remove, Take}
use Rattle.fc_core.specs.Stage.{Stage}
use Rattle.fc_core.specs.Stage.{ToAnswer, ToCommit, ToDescribe, ToInstall, ToRemove, ToTake, ToTell}
use Rattle.fc_core.specs.TurnStage as turns
use Rattle.fc_laws.specs.ExchangeLaws.{ExceedsShare, FindsNoExchange, IsOpening, OpensOne}
use Rattle.fc_core.specs.History.{Entry, Seen, and_then, job, slot_at, stage, watch}
use Rattle.fc_front.specs.Ids.{free_id}
use Rattle.fc_core.specs.Laws.{slot_of}
use Rattle.fc_laws.specs.ReplyLaws.{Refuses, Rejects}
use Rattle.fc_core.specs.Stages.{image_of, is_refusable}
use Rattle.fc_laws.specs.TurnLaws.{time_at}

-- ---- refusals

-- the event delivers a datagram that isn't a request, and that is ignored or rejected by a Reset
-- message. Or it delivers a request without space for an exchange, or above its address's share.
pub data IsTurnedDown (s : Seen) (e : Event) : Type 0 where
  IsNoMessage : (now : ℕ) (to : Endpoint) (bytes : Bor (List ℕ)) (event : e ≡ Deliver now to bytes) (read : reading_of bytes.now ≡ Err bad.Ignore)
      → IsTurnedDown s e
  IsNoRequest : (now : ℕ) (to : Endpoint) (bytes : Bor (List ℕ)) (m : Message) (event : e ≡ Deliver now to bytes) (read : reading_of bytes.now ≡ Ok m)
      (ignored : verdict m ≡ IsIgnored) → IsTurnedDown s e
  IsRejected : (to : Endpoint) (id : ℕ) (rejects : Rejects e to id) → IsTurnedDown s e
  FindsNoRoom : (m : Message) (crowded : FindsNoExchange s e m) → IsTurnedDown s e
  IsAboveShare : (m : Message) (over : ExceedsShare s e m) → IsTurnedDown s e

-- the event's call for job k is refused. The constructors are calls with their causes:
-- - A snapshot gives no ticket: the slot is empty, or memory can't be allocated.
-- - A commit that wants to write doesn't: the slot has changed, or is at its last serial.
-- - An install fails: the image isn't accepted, memory can't be allocated, or the slot is at its
--   last serial.
-- - A removal or a receipt finds the slot empty, or a removal finds the slot at its last serial.
-- - A removal, or the commit of a run that wants to write, can't be saved.
-- - An answer isn't sent.
-- - A lease gets no message ID or no memory, or isn't active any more.
pub data IsRefusedCall (s : Seen) (k : ℕ) (e : Event) (emitted : Option Emission) : Type 0 where
  NothingTaken : (count : ℕ) (memory : Bool) (readings : List ℕ) (event : e ≡ Take k memory readings) (at : stage s k ≡ ToTake count)
      (why : (memory ≡ false) ⊎ ((slot_at s (slot_of s k)).present ≡ None)) → IsRefusedCall s k e emitted
  NotCommitted : (now count : ℕ) (t : Ticket) (event : e ≡ Commit k now) (at : stage s k ≡ ToCommit count t) (wants : wants t ≡ true)
      (why : ((slot_at s (slot_of s k)).serial ≡ t.serial → ⊥) ⊎ (9223372036854775807 ≤ (slot_at s (slot_of s k)).serial)) → IsRefusedCall s k e emitted
  NotAccepted : (memory : Bool) (event : e ≡ Install k memory) (at : stage s k ≡ ToInstall)
      (why : (p : Program) → judged (image_of (job s k).ask) ≡ Accepts p → ⊥) → IsRefusedCall s k e emitted
  NotInstalled : (memory : Bool) (event : e ≡ Install k memory) (at : stage s k ≡ ToInstall)
      (why : (memory ≡ false) ⊎ (9223372036854775807 ≤ (slot_at s (slot_of s k)).serial)) → IsRefusedCall s k e emitted
  NotRemoved : (event : e ≡ Remove k) (at : stage s k ≡ ToRemove) (why : ((slot_at s (slot_of s k)).present ≡ None) ⊎
      (9223372036854775807 ≤ (slot_at s (slot_of s k)).serial)) → IsRefusedCall s k e emitted
  NotSaved : (event : e ≡ Refuse k) (may : is_refusable (stage s k) ≡ true) → IsRefusedCall s k e emitted
  NotDescribed : (event : e ≡ Receipt k) (at : stage s k ≡ ToDescribe) (empty : (slot_at s (slot_of s k)).present ≡ None) → IsRefusedCall s k e emitted
  NotSent : (now : ℕ) (content : Content) (event : e ≡ Answer k now) (at : stage s k ≡ ToAnswer content) (none : emitted ≡ None) → IsRefusedCall s k e emitted
  HasNoId : (now : ℕ) (turn : Turn) (found : Option Ticket) (event : e ≡ Fresh k now) (at : stage s k ≡ ToTell turn (turns.ToDraw found))
      (none : free_id s.ids (max s.time now) ≡ None) → IsRefusedCall s k e emitted
  HasNoTicket : (turn : Turn) (readings : List ℕ) (p : Present) (event : e ≡ Take k false readings) (at : stage s k ≡ ToTell turn turns.ToTake)
      (found : (slot_at s (slot_of s k)).present ≡ Some p) → IsRefusedCall s k e emitted
  IsStaleSnapshot : (turn : Turn) (memory : Bool) (readings : List ℕ) (event : e ≡ Take k memory readings) (at : stage s k ≡ ToTell turn turns.ToTake)
      (stale : entry_out turn (list_at_time (s.shard_time (slot_of s k % 8)) (watch s (slot_of s k))) ≡ None) → IsRefusedCall s k e emitted
  IsStaleNote : (now random id : ℕ) (turn : Turn) (found : Option Ticket) (event : e ≡ Note k now random)
      (at : stage s k ≡ ToTell turn (turns.ToNote found id)) (stale : entry_out turn (list_at_time (time_at s k now) (watch s (slot_of s k))) ≡ None)
      → IsRefusedCall s k e emitted

-- a new request is refused by a code, or silently by a check of its options.
pub data IsRefusedByCheck (s : Seen) (e : Event) : Type 0 where
  ByCode : (m : Message) (answer : ℕ) (refuses : Refuses s e m answer) → IsRefusedByCheck s e
  InSilence : (now : ℕ) (to : Endpoint) (bytes : Bor (List ℕ)) (event : e ≡ Deliver now to bytes) (opens : IsOpening s now to bytes.now)
      (silent : verdict opens.message ≡ IsSilent) → IsRefusedByCheck s e

-- the snapshot of an active lease finds the slot empty.
pub record FindsTurnMissing (s : Seen) (k : ℕ) (e : Event) (turn : Turn) : Type 0 where
  pub memory : Bool
  pub readings : List ℕ
  pub event : e ≡ Take k memory readings
  pub at : stage s k ≡ ToTell turn turns.ToTake
  pub empty : (slot_at s (slot_of s k)).present ≡ None
  pub entry : ObserverEntry
  pub out : entry_out turn (list_at_time (s.shard_time (slot_of s k % 8)) (watch s (slot_of s k))) ≡ Some entry

-- ---- effects

-- no slot and no head word changes.
pub record LeavesSlots (before after : Seen) : Type 0 where
  pub stored : after.stored ≡ before.stored
  pub slots : (n : ℕ) → after.changes n ≡ before.changes n
  pub words : after.words ≡ before.words

-- no exchange is opened or answered, and no payload is added to a transfer.
pub record LeavesFront (before after : Seen) : Type 0 where
  pub exchanges : after.exchanges ≡ before.exchanges
  pub additions : after.additions ≡ before.additions

-- the jobs and their stages are unchanged, and so are the observers of each slot, with all data
-- about each of them.
pub record LeavesJobs (before after : Seen) : Type 0 where
  pub tasks : after.tasks ≡ before.tasks
  pub observers : (n : ℕ) → watch after n ≡ watch before n

-- everything is unchanged, except times and the message IDs that were drawn.
pub record LeavesAll (before after : Seen) : Type 0 where
  pub slots : LeavesSlots before after
  pub jobs : LeavesJobs before after
  pub front : LeavesFront before after

-- everything is unchanged, except times, the message IDs that were drawn, and the stage of job k.
pub record LeavesAllButStage (k : ℕ) (before after : Seen) : Type 0 where
  pub slots : LeavesSlots before after
  pub at : Stage
  pub tasks : after.tasks ≡ slice_set before.tasks k (record { job = job before k; stage = at })
  pub observers : (n : ℕ) → watch after n ≡ record (watch before n) { time = (watch after n).time }
  pub front : LeavesFront before after

-- everything is unchanged, except that the request's exchange is opened, and except times and drawn
-- message IDs.
pub record LeavesAllButExchange (r : Entry) (s : Seen) : Type 0 where
  pub slots : LeavesSlots s (and_then r s)
  pub jobs : LeavesJobs s (and_then r s)
  pub exchange : OpensOne r s
  pub additions : (and_then r s).additions ≡ s.additions

-- everything is unchanged, except times, drawn message IDs, and two changes: the request's exchange
-- is opened, and the transfer of this endpoint and slot is removed.
pub record LeavesAllButTransfer (r : Entry) (s : Seen) (to : Endpoint) (n : ℕ) : Type 0 where
  pub slots : LeavesSlots s (and_then r s)
  pub jobs : LeavesJobs s (and_then r s)
  pub exchange : OpensOne r s
  pub gone : bytes_held (and_then r s).time to n (transfers (and_then r s).additions) ≡ None
  pub others : (from : Endpoint) (m : ℕ) → same_key to n from m ≡ false →
      bytes_held (and_then r s).time from m (transfers (and_then r s).additions) ≡ bytes_held (and_then r s).time from m (transfers s.additions)

-- everything is unchanged, except the stage of job k and the entry of the lease's observer. The
-- entry records that the snapshot found the slot empty.
pub record LeavesAllButTurn (k : ℕ) (turn : Turn) (before after : Seen) : Type 0 where
  pub slots : LeavesSlots before after
  pub at : Stage
  pub tasks : after.tasks ≡ slice_set before.tasks k (record { job = job before k; stage = at })
  pub others : (n : ℕ) → (n ≡ slot_of before k → ⊥) → watch after n ≡ watch before n
  pub missing : watch after (slot_of before k) ≡ turn_missed turn (list_at_time (before.shard_time (slot_of before k % 8)) (watch before (slot_of before k)))
  pub front : LeavesFront before after

-- the sender of the datagram that an event delivers.
abbrev pub sender : Event → Endpoint
sender (Deliver now to bytes) = to
sender other = record { ip = []; port = 0 }
