-- The calls of a shard, with one more call.
use Rattle.std.proofs.Common.{◌≡◌, ℕ, ◌+◌, ◌<◌, Bool, List, [], ◌∷◌, ◌++◌, sym, subst, ap, ◌∙◌}
use Rattle.fc_registry.specs.Shards.{shard_at}
use Rattle.fc_registry.specs.Slots.{Shard}
use Rattle.fc_server.specs.States.{ServerState}
use Rattle.fc_calls.specs.Kept.{HasEightSlots}
use Rattle.fc_linear.specs.Operations.{ShardDoes}
use Rattle.fc_filed.specs.declared.entry.FiledEntry.{FiledEntry}
use Rattle.fc_filed.specs.Entries.{EntriesLead, OperationsLead}
use Rattle.fc_filed.specs.Parts.{AreCallsOf}
use Rattle.fc_filed.specs.Saves.{ShardSteps}
use Rattle.fc_filed.proofs.Leading.{entries_filed, operations_lead}

-- if calls led the shard with this index to x, and one more leads it to y, all of them led it to y.
pub calls_more : (begin : ServerState) (persistent : Bool) (key : ℕ) (es calls : List FiledEntry) (e : FiledEntry) (x y : Shard) → calls ≡ es ++ e ∷ [] → AreCallsOf begin persistent key es x → ShardSteps persistent e x y → y.index ≡ x.index → HasEightSlots y
    → AreCallsOf begin persistent key calls y
calls_more begin persistent key es calls e x y is was does index eight = (
  eight,
  subst (λ (i : ℕ). i < 8) (sym index) was.1,
  was.2 ∙ ap (λ (i : ℕ). i + 1) (sym index),
  subst (λ (i : ℕ). EntriesLead (ShardSteps persistent) calls (shard_at begin.shards i) y) (sym index)
      (entries_filed (ShardSteps persistent) es calls e (shard_at begin.shards x.index) x y is was.3 does),
)

-- the operations of a shard's entries lead it.
pub shard_led : (persistent : Bool) (es : List FiledEntry) (x y : Shard) → EntriesLead (ShardSteps persistent) es x y → OperationsLead ShardDoes es x y
shard_led persistent es x y led = operations_lead (ShardSteps persistent) ShardDoes (λ e s t does. does.does) es x y led
