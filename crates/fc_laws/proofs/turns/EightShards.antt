-- An event of a shard above 7 changes nothing.
use Rattle.std.proofs.Common.{◌≡◌, ℕ, ◌%◌, ◌≤◌, [], ◌∷◌, ◌++◌, map, Bool, true, false, Option, Some, None, refl, ap, ◌∙◌, max, arith}
use Rattle.std.specs.Prelude.{nat_lt, ◌==◌, ◌&&◌, if◌then◌else◌}
use Rattle.std.specs.Option.{option_to_list}
use Rattle.std.proofs.lemmas.Bool.{eqb-true, le-ltb, ne_eqb}
use Rattle.std.proofs.lemmas.List.{append-nil}
use Rattle.coap_msg.specs.declared.types.Emission.{Emission}
use Rattle.coap_msg.specs.declared.types.Endpoint.{Endpoint}
use Rattle.fc_observe.specs.Calls.{NextDue, Tick as TickObservers}
use Rattle.fc_registry.specs.Watches.{place_from, signal_call}
use Rattle.fc_core.specs.declared.event.Event.{Event}
use Rattle.fc_core.specs.declared.event.Event.TheVariants.{Due, ShardTick, Signal}
use Rattle.fc_core.specs.History.{Entry, Seen, and_then, did, due_in, is_due_at, is_overdue_at, is_place_of, overdue_in, slot_at, turn_at}
use Rattle.fc_core.specs.Legal.{Emits, resent_at}
use Rattle.fc_laws.specs.ShardLaws.{IsAsBefore, IsOfNoShard}
use Rattle.fc_core.specs.Stages.{new_task}
use Rattle.fc_core.specs.Transitions.{handed}

pub none_overdue : (s : Seen) (i at : ℕ) → 8 ≤ i → overdue_in s i at ≡ None
unfolding overdue_in
none_overdue s i at high = ap (λ (b : Bool). if b then place_from (is_overdue_at s i at) 8 0 else None) (le-ltb i 8 high)

none_due : (s : Seen) (i at : ℕ) → 8 ≤ i → due_in s i at ≡ None
unfolding due_in
none_due s i at high = ap (λ (b : Bool). if b then place_from (is_due_at s i at) 8 0 else None) (le-ltb i 8 high)

neither : (a b : Bool) → (a ≡ true → b ≡ false) → (a && b) ≡ false
neither true b one = one refl
neither false b one = refl

-- an event of a shard above 7 passes its time to no shard.
not_handed : (shard i now before : ℕ) → 8 ≤ shard → handed (if (shard == i) && nat_lt i 8 then Some now else None) before ≡ before
not_handed shard i now before high = ap (λ (b : Bool). handed (if b then Some now else None) before) (neither (shard == i) (nat_lt i 8) (λ same. let at = eqb-true shard i same in le-ltb i 8 (omega (arith, at, high))))

module _ (o : Option Emission) (s : Seen) where
  due_before : (shard now : ℕ) → 8 ≤ shard → IsAsBefore s (and_then (did (Due shard now) o) s)
  due_before shard now high =
      let at = max (s.shard_time shard) now in
      let none = none_due s shard at high in
      record {
        time = refl;
        exchanges = refl;
        additions = refl;
        ids = refl;
        tasks = ap (λ (p : Option ℕ). s.tasks ++ (map new_task (option_to_list (turn_at p s shard at)) ++ [])) none ∙ append-nil s.tasks;
        changes = λ n. refl;
        shards = λ i. not_handed shard i now (s.shard_time i) high;
        calls = λ n. ap (λ (p : Option ℕ). (if is_place_of p shard n then NextDue at (slot_at s n).notify_serial ∷ [] else []) ++ s.calls n) none;
        words = refl;
      }

  signal_before : (shard id : ℕ) (to : Endpoint) (reset : Bool) → 8 ≤ shard → IsAsBefore s (and_then (did (Signal shard to id reset) o) s)
  signal_before shard id to reset high = record {
    time = refl;
    exchanges = refl;
    additions = refl;
    ids = refl;
    tasks = append-nil s.tasks;
    changes = λ n. refl;
    shards = λ i. refl;
    calls = λ n. ap (λ (b : Bool). (if b then signal_call reset to id ∷ [] else []) ++ s.calls n) (ne_eqb (n % 8) shard (λ same. absurd (omega (arith, same, high))));
    words = refl;
  }

  tick_before : (shard now : ℕ) → 8 ≤ shard → IsAsBefore s (and_then (did (ShardTick shard now) o) s)
  tick_before shard now high =
      let at = max (s.shard_time shard) now in
      record {
        time = refl;
        exchanges = refl;
        additions = refl;
        ids = refl;
        tasks = append-nil s.tasks;
        changes = λ n. refl;
        shards = λ i. not_handed shard i now (s.shard_time i) high;
        calls = λ n. ap (λ (p : Option ℕ). (if is_place_of p shard n then TickObservers at ∷ [] else []) ++ s.calls n) (none_overdue s shard at high);
        words = refl;
      }

before_by : (e : Event) (o : Option Emission) (s : Seen) → IsOfNoShard e → IsAsBefore s (and_then (did e o) s)
before_by (Due shard now) o s high = due_before o s shard now high
before_by (Signal shard to id reset) o s high = signal_before o s shard id to reset high
before_by (ShardTick shard now) o s high = tick_before o s shard now high
before_by other o s high = absurd high

pub as_before : (r : Entry) (s : Seen) → IsOfNoShard r.event → IsAsBefore s (and_then r s)
as_before r s high = before_by r.event r.emitted s high

silent_by : (e : Event) (o : Option Emission) (s : Seen) → IsOfNoShard e → Emits s e o → o ≡ None
silent_by (Due shard now) o s high sent = sent
silent_by (Signal shard to id reset) o s high sent = sent
silent_by (ShardTick shard now) o s high sent =
    let at = max (s.shard_time shard) now in
    sent ∙ ap (λ (p : Option ℕ). resent_at p s shard at) (none_overdue s shard at high)
silent_by other o s high sent = absurd high

pub is_silent : (r : Entry) (s : Seen) → IsOfNoShard r.event → Emits s r.event r.emitted → r.emitted ≡ None
is_silent r s high sent = silent_by r.event r.emitted s high sent
