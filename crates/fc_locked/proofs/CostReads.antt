-- A read of the cost in slot 13 of a server finds the cost of the program that was installed
-- before.
use Rattle.std.proofs.Common.{◌≡◌, ℕ, Bool, true, false, List, [], ◌∷◌, Option, None, Some, lit<, refl, sym, ap, ◌∙◌, subst}
use Rattle.std.specs.Prelude.{nat_lt}
use Rattle.fc_front.specs.declared.policy.Policy.{Policy}
use Rattle.fc_kinds.specs.Meaning.{Program}
use Rattle.fc_ticket.specs.declared.job.Job.{Job}
use Rattle.fc_ticket.specs.declared.job.InitialVars.{InitialVars}
use Rattle.fc_registry.specs.declared.shard.Made.{Made}
use Rattle.fc_registry.specs.declared.shard.Made.TheVariants.{Raised}
use Rattle.fc_ticket.specs.Runs.{initial_vars_of}
use Rattle.fc_registry.specs.Calls.{install_in, put_by}
use Rattle.fc_registry.specs.Changes.{after_changes}
use Rattle.fc_registry.specs.Restored.{restored_slot}
use Rattle.fc_registry.specs.Shards.{shard_at}
use Rattle.fc_registry.specs.Slots.{Shard, Slot, last_serial, slot_in, with_slot}
use Rattle.fc_store.specs.Stored.{StoredSlots}
use Rattle.fc_calls.specs.Doings.{cost_at}
use Rattle.fc_calls.specs.Logged.{InstallsProgram, ReadsCost}
use Rattle.fc_server.specs.declared.server.Begin.{Begin}
use Rattle.fc_server.specs.States.{first_server, server_over}
use Rattle.fc_linear.specs.Operations.{Logged, ShardDoes}
use Rattle.fc_store.specs.Recovery.{Save}
use Rattle.fc_filed.specs.declared.entry.FiledEntry.{FiledEntry}
use Rattle.fc_filed.specs.Entries.{OperationsLead, shard_entries}
use Rattle.fc_locked.specs.declared.closed.ClosedServer.{ClosedServer}
use Rattle.fc_backend.specs.Logs.{TrackedLog}
use Rattle.fc_locked.specs.OneOrder.{HaveOneOrder}

-- the cost in a slot after an install that raised its serial.
put_cost : (below : Bool) (slot : Slot) (p : Program) (initial : InitialVars) (serial : ℕ) (created : Bool) → Raised serial created ≡ (put_by below slot p initial).answer → cost_at (after_changes slot (put_by below slot p initial).changes).present ≡ Some p.cost
put_cost true slot p initial serial created is = refl
put_cost false slot p initial serial created is = absurd (cc is)

-- the state of slot 13 after it was written, in a shard of a server that has just begun.
module _ (stored : StoredSlots) (id : ℕ) (policy : Policy) where
  abbrev shard : Shard
  shard = shard_at (server_over stored id policy).shards 5

  written : (slot : Slot) → slot_in (with_slot shard 13 slot) 13 ≡ slot
  written slot = refl

  pub cost_after : (logs : List TrackedLog) (closed : ClosedServer) (order : HaveOneOrder (server_over stored id policy) logs closed) (who by j k serial : ℕ) (job : Job) (p : Program) (created : Bool) (v : Option Save) (cost : Option ℕ) → job.origin.slot ≡ 13
      → shard_entries 5 order.calls ≡ record { who = who; job = j; operation = Logged (InstallsProgram job p (Raised serial created)); save = v } ∷ record { who = by; job = k; operation = Logged (ReadsCost 13 cost); save = None } ∷ [] → cost ≡ Some p.cost
  cost_after logs closed order who by j k serial job p created v cost at is =
      let es : List FiledEntry = record { who = who; job = j; operation = Logged (InstallsProgram job p (Raised serial created)); save = v } ∷ record { who = by; job = k; operation = Logged (ReadsCost 13 cost); save = None } ∷ [] in
      let end = shard_at closed.shards 5 in
      let led : OperationsLead ShardDoes es shard end = subst (λ (l : List FiledEntry). OperationsLead ShardDoes l shard end) is (order.shards_led 5 (lit< tt)) in
      let initial = initial_vars_of job.ask in
      let made = subst (λ (n : ℕ). (Raised serial created ≡ (install_in (slot_in shard n) p initial).answer) × (led.0 ≡ with_slot shard n (after_changes (slot_in shard n) (install_in (slot_in shard n) p initial).changes))) at led.1 in
      let slot = slot_in shard 13 in
      let after = after_changes slot (install_in slot p initial).changes in
      let found : slot_in led.0 13 ≡ after = ap (λ (s : Shard). slot_in s 13) made.1 ∙ written after in
      led.2.1.0 ∙ (ap (λ (s : Slot). cost_at s.present) found ∙ put_cost (nat_lt slot.serial last_serial) slot p initial serial created made.0)

pub cost_before : (begin : Begin) (logs : List TrackedLog) (closed : ClosedServer) (order : HaveOneOrder (first_server begin) logs closed) (by k : ℕ) (cost : Option ℕ) (later : List FiledEntry)
    → shard_entries 5 order.calls ≡ record { who = by; job = k; operation = Logged (ReadsCost 13 cost); save = None } ∷ later → cost ≡ None
cost_before begin logs closed order by k cost later is =
    let es : List FiledEntry = record { who = by; job = k; operation = Logged (ReadsCost 13 cost); save = None } ∷ later in
    let first = shard_at (first_server begin).shards 5 in
    let end = shard_at closed.shards 5 in
    let led : OperationsLead ShardDoes es first end = subst (λ (l : List FiledEntry). OperationsLead ShardDoes l first end) is (order.shards_led 5 (lit< tt)) in
    led.1.0
