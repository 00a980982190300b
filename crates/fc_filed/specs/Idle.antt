-- Idle shards: the words of a server's book that say until when each shard is idle.
use Rattle.std.specs.Prelude.{◌≡◌, ℕ, ◌+◌, ◌<◌, true, List, ◌∷◌, ◌++◌, slice_index}
use Rattle.fc_registry.specs.Shards.{shard_at}
use Rattle.fc_registry.specs.Slots.{Shard}
use Rattle.fc_registry.specs.Watches.{at_time, is_idle}
use Rattle.fc_server.specs.States.{ServerState}
use Rattle.fc_linear.specs.Operations.{ShardDoes, Logged, Operation}
use Rattle.fc_calls.specs.Logged.{SkipsIdle}
use Rattle.fc_filed.specs.declared.entry.FiledEntry.{FiledEntry}
use Rattle.fc_filed.specs.Entries.{OperationsLead, shard_entries}

-- the operations lead a shard from this state to one that is idle at `now`: no notification has
-- timed out, and no observer has a pending one.
pub record LeadToIdle (first : Shard) (entries : List FiledEntry) (now : ℕ) : Type 0 where
  pub shard : Shard
  pub led : OperationsLead ShardDoes entries first shard
  pub idle : is_idle (at_time shard now) ≡ true

-- the idle word of a shard: the idle words follow eight words of padding.
abbrev pub idle_word : List ℕ → ℕ → ℕ
idle_word words index = slice_index words (8 + index)

-- the shard with this index is idle after its operations in this history, at each time before
-- `until`.
-- An `until` of 0 says nothing.
abbrev pub IsIdleBefore : ServerState → List FiledEntry → ℕ → ℕ → Type 0
IsIdleBefore first log index until = (now : ℕ) → now < until → LeadToIdle (shard_at first.shards index) (shard_entries index log) now

-- a shard that the operation skips is idle at the time of the skip, after the shard's operations
-- earlier in the history. Any other operation skips no shard.
abbrev pub IsIdleIfSkipped : ServerState → List FiledEntry → Operation → Type 0
IsIdleIfSkipped first earlier (Logged (SkipsIdle index now)) = LeadToIdle (shard_at first.shards index) (shard_entries index earlier) now
IsIdleIfSkipped first earlier other = Unit {0}

-- each shard that is skipped in this history is idle at that place of the history.
abbrev pub AreSkipsIdle : ServerState → List FiledEntry → Type 0
AreSkipsIdle first log = (earlier later : List FiledEntry) (e : FiledEntry) → log ≡ earlier ++ e ∷ later → IsIdleIfSkipped first earlier e.operation

-- the idle words are right after this history.
abbrev pub AreIdleWords : ServerState → List FiledEntry → List ℕ → Type 0
AreIdleWords first log words = (index : ℕ) → index < 8 → IsIdleBefore first log index (idle_word words index)
