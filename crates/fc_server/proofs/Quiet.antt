-- The advance of a shard that is idle.
use Rattle.std.proofs.Common.{◌≡◌, ℕ, ◌<◌, Bool, true, false, if◌then◌else◌, Option, Some, None, get_or, List, set, sym, ap, ◌∙◌, subst}
use Rattle.std.specs.Prelude.{MatchBool, is_none, ◌&&◌}
use Rattle.fc_registry.specs.Shards.{shard_at}
use Rattle.fc_registry.specs.Slots.{Shard}
use Rattle.fc_registry.specs.Watches.{shard_after_tick, due_place, at_time, is_idle, overdue_place, ticked_in}
use Rattle.fc_core.specs.Legal.{resent}
use Rattle.fc_server.specs.Serving.{IsReachable, TicksShard}
use Rattle.fc_server.specs.States.{ServerState}
use Rattle.fc_server.specs.Steps.{shard_resent, shard_ticked}
use Rattle.fc_server.proofs.Others.{owner_same}
use Rattle.fc_server.proofs.Served.{resent_on, resent_served}

-- the shards after the one at a place was advanced or left unchanged.
pub advanced_at : (b : Bool) (shards : List Shard) (i now : ℕ) (found after : Shard) → found ≡ get_or shards i found → found ≡ shard_at shards i → after ≡ (if b then at_time found now else found) → set shards i after ≡ (if b then set shards i (at_time (shard_at shards i) now) else shards)
advanced_at true shards i now found after read is e = ap (λ (s : Shard). set shards i s) (e ∙ ap (λ (s : Shard). at_time s now) is)
advanced_at false shards i now found after read is e = owner_same shards i found after e read

no_place : (p q : Option ℕ) → true ≡ is_none p && is_none q → p ≡ None
no_place None q idle = λ _. None
no_place (Some k) q idle = absurd (let n = idle in cc)

module _ (now : ℕ) (shard : Shard) (idle : true ≡ is_idle (at_time shard now)) where
  nowhere : overdue_place (at_time shard now) ≡ None
  nowhere = no_place (overdue_place (at_time shard now)) (due_place (at_time shard now)) idle

  -- a tick of an idle shard advances only the clock.
  idle_ticks : at_time shard now ≡ shard_ticked now shard
  idle_ticks = sym (ap (λ (p : Option ℕ). shard_after_tick p (at_time shard now)) nowhere)

  idle_resends : None ≡ shard_resent now shard
  idle_resends = sym (ap (λ (p : Option ℕ). resent (ticked_in p (at_time shard now))) nowhere)

-- a shard that is advanced if it is idle is ticked, or nothing changes.
pub passed_quietly : (b : Bool) (i now : ℕ) → i < 8 → (old new : ServerState) → b ≡ is_idle (at_time (shard_at old.shards i) now) → new.front ≡ old.front → new.shards ≡ (if b then set old.shards i (at_time (shard_at old.shards i) now) else old.shards) → new.words ≡ old.words → MatchBool b (TicksShard i now old new None) (new ≡ old)
passed_quietly true i now low old new idle front shards words = λ h tasks v.
    resent_on i low old new front words h tasks v now None (shards ∙ ap (λ (s : Shard). set old.shards i s) (idle_ticks now (shard_at old.shards i) idle)) (idle_resends now (shard_at old.shards i) idle)
passed_quietly false i now low old new idle front shards words = λ k. record { front = front k; shards = shards k; words = words k }

pub idle_served : (b : Bool) (i now : ℕ) (old new : ServerState) → IsReachable old → MatchBool b (TicksShard i now old new None) (new ≡ old) → IsReachable new
idle_served true i now old new s ticks = resent_served i now old new None s ticks
idle_served false i now old new s same = subst IsReachable (sym same) s
