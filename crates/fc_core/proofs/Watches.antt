-- The calls of signals and ticks on the observers of a slot.
use Rattle.std.proofs.Common.{◌≡◌, ℕ, ◌+◌, ◌*◌, ◌%◌, List, [], ◌∷◌, ◌++◌, Bool, true, false, Option, Some, None, max, refl, ap, ◌∙◌, sym, if◌then◌else◌}
use Rattle.std.specs.Prelude.{◌==◌}
use Rattle.std.proofs.lemmas.Bool.{eq-eqb, ne_eqb}
use Rattle.coap_msg.specs.declared.types.Emission.{Emission}
use Rattle.coap_msg.specs.declared.types.Endpoint.{Endpoint}
use Rattle.fc_observe.specs.Calls.{ObserverCall, Tick as TickObservers, after_calls, observers, observers_after}
use Rattle.fc_observe.specs.Observers.{after_ack, after_reset, after_tick, list_at_time}
use Rattle.fc_registry.specs.Watches.{signal_call}
use Rattle.fc_core.specs.declared.event.Event.TheVariants.{Signal, ShardTick}
use Rattle.fc_core.specs.History.{Seen, and_then, did, is_place_of, overdue_in, watch}

-- the observers after two lists of calls are those after the older and then the newer one.
pub after_append : (n confirm_after : ℕ) (cs ds : List ObserverCall) → observers n confirm_after (cs ++ ds) ≡ after_calls cs (observers n confirm_after ds)
after_append n confirm_after [] ds = refl
after_append n confirm_after (c ∷ cs) ds = ap (observers_after c) (after_append n confirm_after cs ds)

-- the observers after a call or none are determined by the condition of the call.
pub called : (s : Seen) (n : ℕ) (c : ObserverCall) (b d : Bool) → b ≡ d → observers n s.policy.confirm_after ((if b then c ∷ [] else []) ++ s.calls n) ≡ observers n s.policy.confirm_after ((if d then c ∷ [] else []) ++ s.calls n)
called s n c b d is = ap (λ (x : Bool). observers n s.policy.confirm_after ((if x then c ∷ [] else []) ++ s.calls n)) is

pub reset_here : (s : Seen) (i n id : ℕ) (to : Endpoint) (o : Option Emission) → n % 8 ≡ i → watch (and_then (did (Signal i to id true) o) s) n ≡ after_reset to id (watch s n)
reset_here s i n id to o is = called s n (signal_call true to id) ((n % 8) == i) true (eq-eqb (n % 8) i is)

pub acknowledged_here : (s : Seen) (i n id : ℕ) (to : Endpoint) (o : Option Emission) → n % 8 ≡ i → watch (and_then (did (Signal i to id false) o) s) n ≡ after_ack to id (watch s n)
acknowledged_here s i n id to o is = called s n (signal_call false to id) ((n % 8) == i) true (eq-eqb (n % 8) i is)

pub signalled_elsewhere : (s : Seen) (i n id : ℕ) (to : Endpoint) (o : Option Emission) (reset : Bool) → (n % 8 ≡ i → ⊥) → watch (and_then (did (Signal i to id reset) o) s) n ≡ watch s n
signalled_elsewhere s i n id to o reset ne = called s n (signal_call reset to id) ((n % 8) == i) false (ne_eqb (n % 8) i ne)

-- the observers after a tick are determined by the place with a notification that has timed out.
ticked_by : (s : Seen) (i n now : ℕ) (o p : Option ℕ) → o ≡ p → observers n s.policy.confirm_after ((if is_place_of o i n then TickObservers now ∷ [] else []) ++ s.calls n) ≡ observers n s.policy.confirm_after ((if is_place_of p i n then TickObservers now ∷ [] else []) ++ s.calls n)
ticked_by s i n now o p is = ap (λ (x : Option ℕ). observers n s.policy.confirm_after ((if is_place_of x i n then TickObservers now ∷ [] else []) ++ s.calls n)) is

pub ticked_first : (s : Seen) (i k now : ℕ) (o : Option Emission) → overdue_in s i (max (s.shard_time i) now) ≡ Some k → watch (and_then (did (ShardTick i now) o) s) (8 * k + i) ≡ after_tick (list_at_time (max (s.shard_time i) now) (watch s (8 * k + i)))
ticked_first s i k now o is =
    let n = 8 * k + i in
    let at = max (s.shard_time i) now in
    ticked_by s i n at (overdue_in s i at) (Some k) is ∙ called s n (TickObservers at) (n == n) true (eq-eqb n n refl)

pub ticked_others : (s : Seen) (i k n now : ℕ) (o : Option Emission) → overdue_in s i (max (s.shard_time i) now) ≡ Some k → (n ≡ 8 * k + i → ⊥) → watch (and_then (did (ShardTick i now) o) s) n ≡ watch s n
ticked_others s i k n now o is ne =
    let at = max (s.shard_time i) now in
    ticked_by s i n at (overdue_in s i at) (Some k) is ∙ called s n (TickObservers at) ((8 * k + i) == n) false (ne_eqb (8 * k + i) n (λ q. ne (sym q)))

pub ticked_none : (s : Seen) (i n now : ℕ) (o : Option Emission) → overdue_in s i (max (s.shard_time i) now) ≡ None → watch (and_then (did (ShardTick i now) o) s) n ≡ watch s n
ticked_none s i n now o is = ticked_by s i n (max (s.shard_time i) now) (overdue_in s i (max (s.shard_time i) now)) None is
