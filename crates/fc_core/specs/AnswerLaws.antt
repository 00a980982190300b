-- Definitions for the laws of answers and times.
use Rattle.std.specs.Prelude.{◌≡◌, ℕ, ◌+◌, ◌%◌, ◌==◌, ◌&&◌, ◌<◌, ◌≤◌, ◌⊎◌, nat_lt, Bool, true, false, if◌then◌else◌, List, [], ◌∷◌, ◌++◌, Option, Some, None, is_none, length, max}
use Rattle.fc_kinds.specs.Meaning.{Program}
use Rattle.fc_verify.specs.Accepted.{Judgement, Accepts, Breaks, Untypable}
use Rattle.fc_verify.specs.Judged.{judged}
use Rattle.fc_ticket.specs.declared.job.Job.{Job}
use Rattle.fc_ticket.specs.declared.receipt.Receipt.{Receipt as Facts}
use Rattle.fc_ticket.specs.Runs.{meaning_at}
use Rattle.fc_registry.specs.Calls.{wants}
use Rattle.fc_registry.specs.Slots.{Slot}
use Rattle.fc_ticket.specs.Tickets.{Present, Ticket}
use Rattle.fc_core.specs.declared.event.Event.{Event}
use Rattle.fc_core.specs.declared.event.Event.TheVariants.{Deliver, Peek, Take, Commit, Install, Remove, Refuse, Receipt, Answer, Due, Fire, Fresh, Note, GiveUp, Tick, ShardTick}
use Rattle.fc_core.specs.Stage.{Stage}
use Rattle.fc_core.specs.TurnStage as turns
use Rattle.arrayvec.specs.ArrayVec.{ArrayVec}
use Rattle.fc_core.specs.Stage.{ToMatch, ToTake, ToCommit, ToInstall, ToRemove, ToDescribe, ToList, ToAnswer, ToTell}
use Rattle.coap_reply.specs.Blocks.{cut_for}
use Rattle.fc_front.specs.Contents.{Content, RunAnswer, Ran, Missing, Unavailable, Made, Rejected, Untyped, Valid, Deleted, Described, Listed}
use Rattle.fc_front.specs.Heads.{head_word, word_at}
use Rattle.fc_core.specs.History.{Entry, History, BeginsWith, Then, Seen, seen, job, slot_at, stage}
use Rattle.fc_core.specs.Laws.{slot_of, stage_named, snapshots_of}
use Rattle.fc_core.specs.Stages.{image_of, is_refusable}
use Rattle.fc_core.specs.Transitions.{names}

-- ---- the origin of an answer

-- the event makes the answer of job k 5.03. The job is at this stage, in this slot, and has had
-- this many tickets. Memory for a ticket was refused (`NoTicket`). Or memory for an install was
-- refused, or the store refused the save (`NoMemory`). Or the slot changed under the eighth ticket
-- (`Overtaken`). Or the slot is at its last serial and has to change. Or the store refuses to save
-- the job's change (`Unsaved`).
pub data IsUnavailable (e : Event) (k : ℕ) (j : Job) (slot : Slot) (at : Stage) (taken : ℕ) : Type 0 where
  NoTicket : (count : ℕ) (readings : List ℕ) (p : Present) (event : e ≡ Take k false readings) (is : at ≡ ToTake count) (found : slot.present ≡ Some p) → IsUnavailable e k j slot at taken
  NoMemory : (event : e ≡ Install k false) (is : at ≡ ToInstall) → IsUnavailable e k j slot at taken
  Overtaken : (now count : ℕ) (t : Ticket) (event : e ≡ Commit k now) (is : at ≡ ToCommit count t) (wants : wants t ≡ true) (other : slot.serial ≡ t.serial → ⊥) (eighth : taken ≡ 8) → IsUnavailable e k j slot at taken
  LastCommit : (now count : ℕ) (t : Ticket) (event : e ≡ Commit k now) (is : at ≡ ToCommit count t) (wants : wants t ≡ true) (last : 9223372036854775807 ≤ slot.serial) → IsUnavailable e k j slot at taken
  LastInstall : (p : Program) (event : e ≡ Install k true) (is : at ≡ ToInstall) (accepted : judged (image_of j.ask) ≡ Accepts p) (last : 9223372036854775807 ≤ slot.serial) → IsUnavailable e k j slot at taken
  LastRemoval : (p : Present) (event : e ≡ Remove k) (is : at ≡ ToRemove) (found : slot.present ≡ Some p) (last : 9223372036854775807 ≤ slot.serial) → IsUnavailable e k j slot at taken
  Unsaved : (event : e ≡ Refuse k) (may : is_refusable at ≡ true) → IsUnavailable e k j slot at taken

-- the event makes the answer of job k 4.04: the job's snapshot finds the slot empty, or there is no
-- program to describe.
pub data IsMissing (e : Event) (k : ℕ) (slot : Slot) (at : Stage) : Type 0 where
  NothingTaken : (memory : Bool) (readings : List ℕ) (count : ℕ) (event : e ≡ Take k memory readings) (is : at ≡ ToTake count) (empty : slot.present ≡ None) → IsMissing e k slot at
  NothingDescribed : (event : e ≡ Receipt k) (is : at ≡ ToDescribe) (empty : slot.present ≡ None) → IsMissing e k slot at

-- the event installs a program. The receipt is that of the program, with the slot's new serial as
-- its version. The program is created exactly if the slot was empty.
pub record IsMade (e : Event) (k : ℕ) (j : Job) (slot : Slot) (at : Stage) (receipt : Facts) (created : Bool) : Type 0 where
  pub program : Program
  pub event : e ≡ Install k true
  pub is : at ≡ ToInstall
  pub accepted : judged (image_of j.ask) ≡ Accepts program
  pub below : slot.serial < 9223372036854775807
  pub version : receipt.version ≡ slot.serial + 1
  pub cost : receipt.cost ≡ program.cost
  pub budget : receipt.budget ≡ program.budget
  pub vars : receipt.vars ≡ program.vars_size
  pub empty : created ≡ is_none slot.present

-- the event refuses the image of the job, which is judged in this way.
pub record IsRefused (e : Event) (k : ℕ) (j : Job) (at : Stage) (judgement : Judgement) : Type 0 where
  pub event : e ≡ Install k true
  pub is : at ≡ ToInstall
  pub judged_as : judged (image_of j.ask) ≡ judgement

-- the event commits a run. The answer has the run's code, the requested block of the run's reply,
-- and the ticket's serial. A run that wants to write is answered only if the slot is still at the
-- ticket's serial, and below the last one.
pub record IsRan (e : Event) (k : ℕ) (slot : Slot) (at : Stage) (run : RunAnswer) : Type 0 where
  pub now : ℕ
  pub count : ℕ
  pub ticket : Ticket
  pub event : e ≡ Commit k now
  pub is : at ≡ ToCommit count ticket
  pub code : run.code ≡ (meaning_at ticket).code
  pub cut : run.cut ≡ cut_for ticket.block (meaning_at ticket).reply
  pub serial : run.serial ≡ ticket.serial
  pub writes : wants ticket ≡ true → (slot.serial ≡ ticket.serial) × (slot.serial < 9223372036854775807)

-- the event removes the slot's program, or finds the slot empty. A slot with a program is below the
-- last serial.
pub record IsDeleted (e : Event) (k : ℕ) (slot : Slot) (at : Stage) : Type 0 where
  pub event : e ≡ Remove k
  pub is : at ≡ ToRemove
  pub may : (slot.present ≡ None) ⊎ (slot.serial < 9223372036854775807)

-- the event returns the receipt of the slot's program. The receipt's version is that of the
-- install, whatever the slot's serial.
pub record IsDescribed (e : Event) (k : ℕ) (slot : Slot) (at : Stage) (receipt : Facts) : Type 0 where
  pub found : Present
  pub event : e ≡ Receipt k
  pub is : at ≡ ToDescribe
  pub present : slot.present ≡ Some found
  pub version : receipt.version ≡ found.version
  pub cost : receipt.cost ≡ found.program.cost
  pub budget : receipt.budget ≡ found.program.budget
  pub vars : receipt.vars ≡ found.program.vars_size

-- the serial is one of these serials.
pub record HasSerial (serials : List ℕ) (serial : ℕ) : Type 0 where
  pub before : List ℕ
  pub after : List ℕ
  pub is : serials ≡ before ++ serial ∷ after

-- the slot's head word says that the slot has a program at this serial, which is one of the
-- request's ETags.
pub record IsValid (e : Event) (k : ℕ) (j : Job) (words : List ℕ) (at : Stage) (serial : ℕ) : Type 0 where
  pub event : e ≡ Peek k j.origin.slot
  pub is : at ≡ ToMatch
  pub word : word_at words j.origin.slot ≡ head_word serial true
  pub asked : HasSerial j.etags.items serial

-- the event reads the last of the 64 head words. The job has read them in the order of the slots.
pub record IsListed (e : Event) (k : ℕ) (words : List ℕ) (at : Stage) (list : List ℕ) : Type 0 where
  pub seen : ArrayVec ℕ
  pub event : e ≡ Peek k 63
  pub is : at ≡ ToList seen
  pub list_is : list ≡ seen.items ++ word_at words 63 ∷ []
  pub count : length list ≡ 64

-- the reason why an event gives a job this answer, by the kind of the answer.
abbrev pub IsCause : Event → ℕ → Job → Slot → List ℕ → Stage → ℕ → Content → Type 0
IsCause e k j slot words at taken (Ran run) = IsRan e k slot at run
IsCause e k j slot words at taken Missing = IsMissing e k slot at
IsCause e k j slot words at taken Unavailable = IsUnavailable e k j slot at taken
IsCause e k j slot words at taken (Made receipt created) = IsMade e k j slot at receipt created
IsCause e k j slot words at taken (Rejected rule n) = IsRefused e k j at (Breaks rule n)
IsCause e k j slot words at taken Untyped = IsRefused e k j at Untypable
IsCause e k j slot words at taken (Valid serial) = IsValid e k j words at serial
IsCause e k j slot words at taken Deleted = IsDeleted e k slot at
IsCause e k j slot words at taken (Described receipt) = IsDescribed e k slot at receipt
IsCause e k j slot words at taken (Listed list) = IsListed e k words at list

-- the reason why an event after a history gives job k this answer.
abbrev pub Causes : History → Entry → ℕ → Content → Type 0
Causes h r k c = IsCause r.event k (job (seen h) k) (slot_at (seen h) (slot_of (seen h) k)) (seen h).words (stage (seen h) k) (length (snapshots_of h k)) c

-- ---- times

-- the greatest of these numbers, or 0.
abbrev pub greatest : List ℕ → ℕ
greatest [] = 0
greatest (n ∷ ns) = max (greatest ns) n

-- the time of an answer, if the job is at the stage of its answer.
abbrev pub answer_time : Stage → ℕ → List ℕ
answer_time (ToAnswer content) now = now ∷ []
answer_time other now = []

-- the time of a draw, if the job is that of a lease that draws a message ID.
abbrev pub draw_time : Stage → ℕ → List ℕ
draw_time (ToTell turn (turns.ToDraw found)) now = now ∷ []
draw_time other now = []

-- the time that an event passes to the front: the time of a delivery, a timer or a tick. An answer,
-- and the draw of a lease, pass a time at the right stage, whether or not a message ID is
-- available.
abbrev pub times_in : Event → Seen → List ℕ
times_in (Deliver now to bytes) s = now ∷ []
times_in (Fire slot now) s = now ∷ []
times_in (Tick now) s = now ∷ []
times_in (Answer k now) s = answer_time (stage s k) now
times_in (Fresh k now) s = draw_time (stage s k) now
times_in other s = []

-- times that were passed to the front, the newest first.
abbrev pub times_of : History → List ℕ
times_of (BeginsWith stored id policy) = []
times_of (Then h r) = times_in r.event (seen h) ++ times_of h

-- the time of a commit, of a lease's notification, or of its release, at the right stage.
abbrev pub transition_time : Event → Stage → List ℕ
transition_time (Commit k now) (ToCommit count t) = now ∷ []
transition_time (Note k now random) (ToTell turn (turns.ToNote found id)) = now ∷ []
transition_time (GiveUp k now) (ToTell turn needs) = now ∷ []
transition_time other at = []

-- whether an event names a job of a slot of this shard.
abbrev pub is_of_shard : ℕ → Seen → Option ℕ → Bool
is_of_shard i s None = false
is_of_shard i s (Some k) = slot_of s k % 8 == i

-- the time of an event of this shard itself, if the shard is one of the eight.
abbrev pub own_time : Event → ℕ → List ℕ
own_time (Due shard now) i = if (shard == i) && nat_lt i 8 then now ∷ [] else []
own_time (ShardTick shard now) i = if (shard == i) && nat_lt i 8 then now ∷ [] else []
own_time other i = []

-- the times that were passed to a shard, the newest first. The shard's own events pass them, and
-- the commits, notifications and releases of the jobs of its slots.
abbrev pub shard_times_of : ℕ → History → List ℕ
shard_times_of i (BeginsWith stored id policy) = []
shard_times_of i (Then h r) =
    own_time r.event i
    ++ (if is_of_shard i (seen h) (names r.event)
    then transition_time r.event (stage_named (seen h) (names r.event)) ++ shard_times_of i h
    else shard_times_of i h)
