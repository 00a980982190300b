-- The views of a front and a shard that are under a lock with the track of their calls.
use Rattle.std.specs.Prelude.{◌≡◌, ℕ, ◌+◌, ◌<◌, ◌≤◌, Bool, true, false, List, Result, Ok, Err, Some, refl}
use Rattle.fc_ticket.specs.declared.job.Job.{Job}
use Rattle.fc_registry.specs.declared.shard.Taken.{Taken}
use Rattle.fc_registry.specs.declared.shard.Taken.TheVariants.{Given}
use Rattle.fc_ticket.specs.Taken.{SlotSnapshot}
use Rattle.fc_registry.specs.Views.{taken_with}
use Rattle.fc_front.specs.Exchanges.{FrontState}
use Rattle.fc_registry.specs.Slots.{IsOwned, Shard}
use Rattle.fc_registry.specs.Shards.{shard_at}
use Rattle.fc_server.specs.States.{ServerState}
use Rattle.fc_calls.specs.Doings.{PassesIfIdle, TakesInto, FindsCost}
use Rattle.fc_calls.specs.Kept.{HasEightSlots, confirm_times, serials}
use Rattle.fc_calls.specs.Logged.{LoggedCall, AdvancesIdle, TakesForJob, ReadsCost}
use Rattle.fc_store.specs.declared.store.SlotUpdate.{SlotUpdate}
use Rattle.fc_linear.specs.Operations.{FailsToSave, Logged, Operation, ShardPart, ShardDoes, part_of, IsOfServer}
use Rattle.fc_filed.specs.declared.entry.FiledEntry.{FiledEntry}
use Rattle.fc_filed.specs.Entries.{EntriesLead, is_of_job}
use Rattle.fc_filed.specs.Saves.{ShardSteps}

-- a front, and the operations that led to it from the server's first front.
pub record FrontCalls : Type 0 where
  pub front : FrontState
  pub calls : List FiledEntry

-- a shard, and the operations that led to it from the server's first shard of its index.
pub record ShardCalls : Type 0 where
  pub shard : Shard
  pub calls : List FiledEntry

-- a call is no refusal of an update.
pub logged_no_refusal : (call : LoggedCall) (update : SlotUpdate) → Logged call ≡ FailsToSave update → ⊥
logged_no_refusal call update is = absurd (cc is)

-- the operation is one of this shard, and led from one state of the shard to the other. It is for
-- no job, or `of_job` says that it may be for one. It isn't the refusal of an update.
pub record IsOperationOf (of_job : Bool) (operation : Operation) (before after : Shard) : Type 0 where
  pub does : ShardDoes operation before after
  pub part : part_of operation ≡ ShardPart before.index
  pub job : is_of_job operation ≡ true → of_job ≡ true
  pub of_server : before.index < 8 → IsOfServer operation
  pub logged : (update : SlotUpdate) → operation ≡ FailsToSave update → ⊥

-- an advance of an idle shard is an operation of the shard.
pub advance_filed : (now : ℕ) (before after : Shard) → PassesIfIdle now before true after → IsOperationOf false (Logged (AdvancesIdle before.index now)) before after
advance_filed now before after does = record { does = does; part = refl; job = λ is. is; of_server = λ low. low; logged = λ u e. logged_no_refusal (AdvancesIdle before.index now) u e }

-- the entries lead to the shard from the server's first shard of its index, 0 to 7; the key is the
-- index plus one. Each change of a slot is saved if the server's store is persistent.
abbrev pub AreCallsOf : ServerState → Bool → ℕ → List FiledEntry → Shard → Type 0
AreCallsOf first persistent key calls shard =
    HasEightSlots shard × (shard.index < 8) × (key ≡ shard.index + 1)
    × EntriesLead (ShardSteps persistent) calls (shard_at first.shards shard.index) shard

-- a call keeps the shard's index, and the times after which its notifications are confirmable. The
-- shard's serials increase by the number of changes that the call's result reports. If that number
-- is 0, no slot changes.
pub record KeepsShard (changes : ℕ) (before after : Shard) : Type 0 where
  pub index : after.index ≡ before.index
  pub confirms : confirm_times after ≡ confirm_times before
  pub slots : changes ≡ 0 → after.slots ≡ before.slots
  pub risen : serials after ≡ serials before + changes

-- ---- a snapshot unless the slot's program is expensive

-- the snapshot has no program whose cost is this number of steps or more.
abbrev pub IsCheap : ℕ → Taken → Type 0
IsCheap least (Given program) = program.value.cost < least
IsCheap least other = Unit {0}

-- a job takes a snapshot, unless the slot has a program whose cost is this number of steps or more.
-- Then the job takes none, the program's cost is read, and `found` has any contents.
abbrev pub TakesIfCheap : ℕ → Job → List ℕ → Shard → Result Taken ℕ → SlotSnapshot → Shard → Type 0
TakesIfCheap least job readings before (Ok taken) found after = TakesInto job readings before taken found after × IsCheap least taken
TakesIfCheap least job readings before (Err cost) found after = FindsCost job.origin.slot before (Some cost) after × (least ≤ cost)

-- the operation of such a snapshot, or of the read of the cost.
abbrev pub cheap_operation : Job → List ℕ → Result Taken ℕ → SlotSnapshot → Operation
cheap_operation job readings (Ok taken) found = Logged (TakesForJob job readings (taken_with taken found))
cheap_operation job readings (Err cost) found = Logged (ReadsCost job.origin.slot (Some cost))

-- the snapshot is filed, or the read of the cost.
pub cheap_filed : (least : ℕ) (job : Job) (readings : List ℕ) (before : Shard) (taken : Result Taken ℕ) (found : SlotSnapshot) (after : Shard)
    → IsOwned before job.origin.slot → TakesIfCheap least job readings before taken found after
    → IsOperationOf true (cheap_operation job readings taken found) before after
cheap_filed least job readings before (Ok taken) found after owned does = record { does = does.0.0; part = λ i. ShardPart (owned.index i); job = λ is. is; of_server = λ low. tt; logged = λ u e. logged_no_refusal (TakesForJob job readings (taken_with taken found)) u e }
cheap_filed least job readings before (Err cost) found after owned does = record { does = does.0; part = λ i. ShardPart (owned.index i); job = λ is. refl; of_server = λ low. tt; logged = λ u e. logged_no_refusal (ReadsCost job.origin.slot (Some cost)) u e }
