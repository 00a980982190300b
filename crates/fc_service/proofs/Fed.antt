-- Pools and their drivers.
use Rattle.std.proofs.Common.{◌≡◌, ℕ, Bool, List, Option, Result, Ok, Err, OnOk, subst}
use Rattle.std.specs.Prelude.{⊤}
use Rattle.fc_registry.specs.Slots.{Shard}
use Rattle.fc_server.specs.States.{ServerState, first_server}
use Rattle.fc_server.specs.declared.server.Begin.{Begin}
use Rattle.fc_server.specs.Ingresses.{IngressCalls}
use Rattle.fc_filed.specs.declared.entry.FiledEntry.{FiledEntry}
use Rattle.fc_service.specs.Playing.{IsFedByLines, IsPlayedBeside}
use Rattle.fc_pool.specs.Pooled.{PooledIngress, IsFedBeside, offload_where, locked_view, pooled_calls}
use Rattle.fc_pool.specs.declared.replies.Replies.{Replies}
use Rattle.fc_workers.specs.Views.{WorkerView}
use Rattle.fc_locked.specs.SharedStores.{Saving}
use Rattle.fc_locked.specs.declared.closed.ClosedServer.{ClosedServer}
use Rattle.fc_workers.specs.declared.dispatcher.Offload.{Offload}
use Rattle.fc_workers.specs.declared.dispatcher.Offload.TheVariants.{Every}

-- the same for another driver and its result, and less about the saves.
pub fed_as : {T : Type 0} {F G X Y : Type 0} (s : WorkerView T) (Drives : IngressCalls (PooledIngress T) → F → PooledIngress T → PooledIngress T → X → Type 0) (Told : IngressCalls (PooledIngress T) → G → PooledIngress T → PooledIngress T → Y → Type 0)
    (begin : ServerState) (Kept Less : List Shard → List FiledEntry → Type 0) (offload : Offload) (workers : ℕ) (driver : F) (given : X) (other : G) (told : Y) (replies : Replies) (closed : ClosedServer)
    → ((calls : List FiledEntry) → Kept closed.shards calls → Less closed.shards calls)
    → ((first last : PooledIngress T) → Drives (pooled_calls s) driver first last given → Told (pooled_calls s) other first last told)
    → IsFedBeside s Drives begin Kept offload workers driver given replies closed → IsFedBeside s Told begin Less offload workers other told replies closed
fed_as s Drives Told begin Kept Less offload workers driver given other told replies closed keeps lifts w =
    let f = w.fed.fed in
    record {
      own = w.own;
      shares = w.shares;
      fed = record {
        channel = w.fed.channel;
        fed = record { first = f.first; last = f.last; new = f.new; drives = lifts f.first f.last f.drives; own_is = f.own_is };
        shares_are = w.fed.shares_are;
      };
      count = w.count;
      counted = w.counted;
      order = w.order;
      saved = keeps w.order.order.calls w.saved;
    }

-- the same of a server that begins with equal slots.
pub fed_over : {A T : Type 0} {F X : Type 0} (view : A → WorkerView T) (begin : A → ServerState) (Kept : A → List Shard → List FiledEntry → Type 0) (Drives : IngressCalls (PooledIngress T) → F → PooledIngress T → PooledIngress T → X → Type 0)
    (slots same : A) (offload : Offload) (workers : ℕ) (driver : F) (given : X) (replies : Replies) (closed : ClosedServer) → slots ≡ same
    → IsFedBeside (view slots) Drives (begin slots) (Kept slots) offload workers driver given replies closed → IsFedBeside (view same) Drives (begin same) (Kept same) offload workers driver given replies closed
fed_over {A} view begin Kept Drives slots same offload workers driver given replies closed is w = subst (λ (a : A). IsFedBeside (view a) Drives (begin a) (Kept a) offload workers driver given replies closed) is w

-- lines that a driver played with workers, if it played them to the end.
pub played_beside : {F E : Type 0} (Saves : Saving) (begin : Begin) (Kept : List Shard → List FiledEntry → Type 0) (workers : ℕ) (lines : F → Option (List ℕ)) (driver : F) (r : Result (Unit {0}) E) (has_workers : Bool) (replies : Replies) (closed : ClosedServer)
    → IsFedBeside (locked_view (first_server begin) (λ readings before after. ⊤) Saves (λ now before after. ⊤) (λ random. ⊤) (λ call before after. ⊤) (λ change before after. after ≡ before))
    (λ calls f first last given. OnOk given (IsFedByLines calls (lines f) first last)) (first_server begin) Kept (offload_where has_workers Every) workers driver r replies closed
    → OnOk r ((workers_begun : Bool) × (counted : Replies) × IsPlayedBeside Saves begin (offload_where workers_begun Every) workers (lines driver) counted)
played_beside Saves begin Kept workers lines driver (Ok x) has_workers replies closed w =
    (has_workers, replies, (closed, fed_as _ _ _ (first_server begin) Kept (λ shards calls. ⊤) _ workers driver (Ok x) (lines driver) (tt {0}) replies closed (λ calls kept. tt) (λ first last fed. fed) w))
played_beside Saves begin Kept workers lines driver (Err e) has_workers replies closed w = tt
