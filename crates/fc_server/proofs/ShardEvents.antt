-- The effect of an event on its own shard is that of the history.
use Rattle.std.proofs.Common.{◌≡◌, ℕ, zero, suc, ◌+◌, ◌*◌, ◌<◌, ◌≤◌, ◌/◌, ◌%◌, arith, get_or, List, [], ◌∷◌, ◌++◌, length, map, set, Bool, true, false, Option, Some, None, refl, sym, ap, ◌∙◌, subst, max, if◌then◌else◌, ⊎_elim}
use Rattle.std.specs.Prelude.{is_some, nat_lt, ◌==◌}
use Rattle.std.specs.Option.{option_to_list}
use Rattle.std.proofs.lemmas.Bool.{and_from, and_left, cases_eq, cases_lt, eq-eqb, le-ltb, lt-ltb, ne_eqb}
use Rattle.std.proofs.lemmas.List.{get_or-map, get_or-set_other, get_or-set_same, length-map, length-set}
use Rattle.coap_msg.specs.declared.types.Endpoint.{Endpoint}
use Rattle.fc_observe.specs.Calls.{ObserverCall, NextDue, Tick as TickObservers, observers, observers_after}
use Rattle.fc_observe.specs.Observers.{list_at_time, overdue_entry, next_turn, no_observers, ticked}
use Rattle.fc_registry.specs.Shards.{AreShards, no_shard, shard_at}
use Rattle.fc_registry.specs.Slots.{Shard, Slot, new_slot}
use Rattle.fc_ticket.specs.declared.job.Job.{Job}
use Rattle.fc_registry.specs.Turns.{due_job, turn_given_to}
use Rattle.fc_registry.specs.Watches.{after_due, shard_after_tick, due_place, at_time as shard_handed, has_due as is_due_here, has_overdue as is_overdue_here, overdue_place, noticed_at, place_from, signal_call, signalled, ticked_in, watch_at, watch_called}
use Rattle.fc_core.specs.History.{AtShard, AsksTurn, Signals, Ticks, Calm, Seen, calls_by, due_in, hands_by, is_due_at, is_overdue_at, is_place_of, overdue_in, slot_at, turn_at, turns_by}
use Rattle.fc_core.specs.Legal.{resent, resent_at, resent_in}
use Rattle.fc_core.specs.Stages.{new_task}
use Rattle.fc_core.specs.Transitions.{handed}
use Rattle.fc_core.proofs.Places.{place_below}
use Rattle.fc_server.specs.Agreement.{ShardsAgree}
use Rattle.fc_server.specs.Steps.{resent_by, resent_if, shard_asked, shard_by, shard_changed, shard_resent, shard_ticked, shard_turn, turn_if, turns_at}

-- the summary of the history after the event's effect on its own shard.
abbrev pub shard_seen : AtShard → Seen → Seen
shard_seen y s = record s { shard_time = λ i. handed (hands_by y i) (s.shard_time i); calls = λ n. calls_by y s n ++ s.calls n }

-- if an event passes no time to a shard and calls no observers, the shards still agree.
rest_agrees : (y : AtShard) (s : Seen) (shards : List Shard) → ((i : ℕ) → i < 8 → hands_by y i ≡ None) → ((n : ℕ) → calls_by y s n ≡ []) → ShardsAgree s shards → ShardsAgree (shard_seen y s) shards
rest_agrees y s shards hands calls a = record {
  are = a.are;
  slot = a.slot;
  now = λ i lt. a.now i lt ∙ ap (λ (p : Option ℕ). handed p (s.shard_time i)) (sym (hands i lt));
  watch = λ i k low lt. let n = 8 * k + i in a.watch i k low lt ∙ ap (λ (cs : List ObserverCall). observers n s.policy.confirm_after (cs ++ s.calls n)) (sym (calls n));
}

-- ---- a shard in place of another, with the same slots

module _ (shards : List Shard) (are : AreShards shards) (i : ℕ) (low : i < 8) (x : Shard) where
  abbrev put : List Shard
  put = set shards i x

  at_place : shard_at put i ≡ x
  at_place = let count = are.count in get_or-set_same shards i x no_shard (omega (arith, count, low))

  elsewhere : (j : ℕ) → (j ≡ i → ⊥) → shard_at put j ≡ shard_at shards j
  elsewhere j ne = get_or-set_other shards i j x no_shard ne

  -- a part of each shard that is the same in the new shard is unchanged.
  kept : {A : Type 0} (f : Shard → A) → f x ≡ f (shard_at shards i) → (j : ℕ) → f (shard_at put j) ≡ f (shard_at shards j)
  kept f same j = ⊎_elim
      (λ (e : j ≡ i). subst (λ (m : ℕ). f (shard_at put m) ≡ f (shard_at shards m)) (sym e) (ap f at_place ∙ same))
      (λ (ne : j ≡ i → ⊥). ap f (elsewhere j ne))
      (cases_eq j i)

  are_put : x.index ≡ (shard_at shards i).index → x.slots ≡ (shard_at shards i).slots → length x.watches ≡ 8 → AreShards put
  are_put index slots eight = record {
    count = length-set shards i x ∙ are.count;
    index = λ j lt. kept (λ (y : Shard). y.index) index j ∙ are.index j lt;
    size = λ j lt. kept (λ (y : Shard). length y.slots) (ap length slots) j ∙ are.size j lt;
    watched = λ j lt. kept (λ (y : Shard). length y.watches) (eight ∙ sym (are.watched i low)) j ∙ are.watched j lt;
  }

  -- if the new shard has the event's time and calls, the shards agree with the history after it.
  put_agrees : (s : Seen) (y : AtShard) → ShardsAgree s shards → x.index ≡ (shard_at shards i).index → x.slots ≡ (shard_at shards i).slots → length x.watches ≡ 8 →
      x.now ≡ handed (hands_by y i) (s.shard_time i) → ((j : ℕ) → (j ≡ i → ⊥) → hands_by y j ≡ None) →
      ((k : ℕ) → k < 8 → watch_at x k ≡ observers (8 * k + i) s.policy.confirm_after (calls_by y s (8 * k + i) ++ s.calls (8 * k + i))) → ((j k : ℕ) → j < 8 → k < 8 → (j ≡ i → ⊥) → calls_by y s (8 * k + j) ≡ []) →
      ShardsAgree (shard_seen y s) put
  put_agrees s y a index slots eight now others here there = record {
    are = are_put index slots eight;
    slot = λ n lt. kept (λ (y : Shard). get_or y.slots (n / 8) (new_slot 0)) (ap (λ (ss : List Slot). get_or ss (n / 8) (new_slot 0)) slots) (n % 8) ∙ a.slot n lt;
    now = λ j lt. ⊎_elim
        (λ (q : j ≡ i). subst (λ (m : ℕ). (shard_at put m).now ≡ handed (hands_by y m) (s.shard_time m)) (sym q) (ap (λ (z : Shard). z.now) at_place ∙ now))
        (λ (ne : j ≡ i → ⊥). ap (λ (z : Shard). z.now) (elsewhere j ne) ∙ (a.now j lt ∙ ap (λ (p : Option ℕ). handed p (s.shard_time j)) (sym (others j ne))))
        (cases_eq j i);
    watch = λ j k jl kl. ⊎_elim
        (λ (q : j ≡ i). subst (λ (m : ℕ). watch_at (shard_at put m) k ≡ observers (8 * k + m) s.policy.confirm_after (calls_by y s (8 * k + m) ++ s.calls (8 * k + m))) (sym q) (ap (λ (z : Shard). watch_at z k) at_place ∙ here k kl))
        (λ (ne : j ≡ i → ⊥). ap (λ (z : Shard). watch_at z k) (elsewhere j ne) ∙ (a.watch j k jl kl ∙ ap (λ (cs : List ObserverCall). observers (8 * k + j) s.policy.confirm_after (cs ++ s.calls (8 * k + j))) (sym (there j k jl kl ne))))
        (cases_eq j i);
  }

-- ---- a signal

-- a signal calls the observers of the slots of its shard.
for_shard : (i n : ℕ) (c : ObserverCall) (b : Bool) → ((n % 8) == i) ≡ b → (if (n % 8) == i then c ∷ [] else []) ≡ (if b then c ∷ [] else [])
for_shard i n c b is = ap (λ (d : Bool). if d then c ∷ [] else []) is

-- the observers at a place after a signal.
signalled_here : (c : ObserverCall) (x : Shard) (n confirm_after k : ℕ) (h : List ObserverCall) → length x.watches ≡ 8 → k < 8 → watch_at x k ≡ observers n confirm_after h → watch_at (signalled c x) k ≡ observers n confirm_after (c ∷ h)
signalled_here c x n confirm_after k h eight lt is = get_or-map (observers_after c) x.watches k (no_observers 0 0) (no_observers 0 0) (omega (arith, eight, lt)) ∙ ap (observers_after c) is

signal_agrees : (s : Seen) (i : ℕ) (to : Endpoint) (id : ℕ) (reset : Bool) (shards : List Shard) → ShardsAgree s shards → ShardsAgree (shard_seen (Signals i to id reset) s) (shard_changed (nat_lt i 8) i (signalled (signal_call reset to id)) shards)
signal_agrees s i to id reset shards a =
    let c = signal_call reset to id in
    let y = Signals i to id reset in
    let x = signalled c (shard_at shards i) in
    ⊎_elim
    (λ (low : i < 8). subst (λ (b : Bool). ShardsAgree (shard_seen y s) (shard_changed b i (signalled c) shards)) (sym (lt-ltb i 8 low))
    (put_agrees shards a.are i low x s y a refl refl (length-map (shard_at shards i).watches (observers_after c) ∙ a.are.watched i low)
    (a.now i low) (λ j ne. refl)
    (λ k lt. signalled_here c (shard_at shards i) (8 * k + i) s.policy.confirm_after k (s.calls (8 * k + i)) (a.are.watched i low) lt (a.watch i k low lt) ∙ ap (λ (cs : List ObserverCall). observers (8 * k + i) s.policy.confirm_after (cs ++ s.calls (8 * k + i))) (sym (for_shard i (8 * k + i) c true (eq-eqb ((8 * k + i) % 8) i (omega (arith, low))))))
    (λ j k jl kl ne. for_shard i (8 * k + j) c false (ne_eqb ((8 * k + j) % 8) i (λ q. ne (omega (arith, q, jl)))))))
    (λ (high : 8 ≤ i). subst (λ (b : Bool). ShardsAgree (shard_seen y s) (shard_changed b i (signalled c) shards)) (sym (le-ltb i 8 high))
    (rest_agrees y s shards (λ j lt. refl) (λ n. for_shard i n c false (ne_eqb (n % 8) i (λ q. absurd (omega (arith, q, high))))) a))
    (cases_lt i 8)

-- ---- a tick

-- two searches find the same place if their tests agree.
place_same : (p q : ℕ → Bool) (n k : ℕ) → ((j : ℕ) → j < k + n → p j ≡ q j) → place_from p n k ≡ place_from q n k
place_same p q zero k same = refl
place_same p q (suc n) k same = λ i. if same k (omega arith) i then Some k else place_same p q n (k + 1) (λ j lt. same j (omega (arith, lt))) i

module _ (s : Seen) (i now : ℕ) (low : i < 8) (shards : List Shard) (a : ShardsAgree s shards) where
  abbrev at : ℕ
  at = max (s.shard_time i) now

  abbrev here : Shard
  here = shard_handed (shard_at shards i) now

  at_is : here.now ≡ at
  at_is = ap (λ (m : ℕ). max m now) (a.now i low)

  -- the place of the notification that has timed out is that of the history.
  overdue_is : overdue_place here ≡ overdue_in s i at
  unfolding overdue_in
  overdue_is = place_same (is_overdue_here here) (is_overdue_at s i at) 8 0 (λ k lt. λ j. is_some (overdue_entry (list_at_time (at_is j) (a.watch i k low lt j)))) ∙ ap (λ (b : Bool). if b then place_from (is_overdue_at s i at) 8 0 else None) (sym (lt-ltb i 8 low))

  overdue_below : (k : ℕ) → overdue_place here ≡ Some k → k < 8
  overdue_below k e = place_below (is_overdue_here here) 8 0 k e

  -- the retransmission of the tick is that of the history.
  resent_is : (p : Option ℕ) → ((k : ℕ) → p ≡ Some k → k < 8) → resent (ticked_in p here) ≡ resent_at p s i at
  resent_is None below = refl
  resent_is (Some k) below = λ j. resent (ticked (list_at_time (at_is j) (a.watch i k low (below k refl) j)))

  -- the calls of a tick on the observers at a place.
  abbrev tick_calls : Bool → List ObserverCall
  tick_calls b = if b then TickObservers at ∷ [] else []

  -- the observers at a place after the tick.
  ticked_here : (p : Option ℕ) (k : ℕ) → k < 8 → watch_at (shard_after_tick p here) k ≡ observers (8 * k + i) s.policy.confirm_after (tick_calls (is_place_of p i (8 * k + i)) ++ s.calls (8 * k + i))
  ticked_here None k lt = a.watch i k low lt
  ticked_here (Some j) k lt =
      let eight = a.are.watched i low in
      ⊎_elim
      (λ (q : k ≡ j).
      let found : watch_at (shard_after_tick (Some j) here) k ≡ observers_after (TickObservers here.now) (watch_at here k) = subst (λ (m : ℕ). watch_at (watch_called (TickObservers here.now) m here) k ≡ observers_after (TickObservers here.now) (watch_at here k)) q (get_or-set_same here.watches k (observers_after (TickObservers here.now) (watch_at here k)) (no_observers 0 0) (omega (arith, eight, lt))) in
      found ∙ ((λ m. observers_after (TickObservers (at_is m)) (a.watch i k low lt m)) ∙ ap (λ (b : Bool). observers (8 * k + i) s.policy.confirm_after (tick_calls b ++ s.calls (8 * k + i))) (sym (eq-eqb (8 * j + i) (8 * k + i) (omega (arith, q))))))
      (λ (ne : k ≡ j → ⊥).
      get_or-set_other here.watches j k (observers_after (TickObservers here.now) (watch_at here j)) (no_observers 0 0) ne ∙ (a.watch i k low lt ∙ ap (λ (b : Bool). observers (8 * k + i) s.policy.confirm_after (tick_calls b ++ s.calls (8 * k + i))) (sym (ne_eqb (8 * j + i) (8 * k + i) (λ q. ne (omega (arith, q)))))))
      (cases_eq k j)

  -- a tick calls no observers of another shard.
  elsewhere_none : (p : Option ℕ) (j k : ℕ) → j < 8 → (j ≡ i → ⊥) → tick_calls (is_place_of p i (8 * k + j)) ≡ []
  elsewhere_none None j k jl ne = refl
  elsewhere_none (Some m) j k jl ne = ap tick_calls (ne_eqb (8 * m + i) (8 * k + j) (λ q. ne (omega (arith, q, jl, low))))

  after_index : (p : Option ℕ) → (shard_after_tick p here).index ≡ here.index
  after_index None = refl
  after_index (Some k) = refl

  after_slots : (p : Option ℕ) → (shard_after_tick p here).slots ≡ here.slots
  after_slots None = refl
  after_slots (Some k) = refl

  after_now : (p : Option ℕ) → (shard_after_tick p here).now ≡ here.now
  after_now None = refl
  after_now (Some k) = refl

  after_length : (p : Option ℕ) → length (shard_after_tick p here).watches ≡ 8
  after_length None = a.are.watched i low
  after_length (Some k) = length-set here.watches k (observers_after (TickObservers here.now) (watch_at here k)) ∙ a.are.watched i low

  hands_here : hands_by (Ticks i now) i ≡ Some now
  hands_here = ap (λ (b : Bool). if b then Some now else None) (and_from (i == i) (nat_lt i 8) (eq-eqb i i refl) (lt-ltb i 8 low))

  hands_there : (j : ℕ) → (j ≡ i → ⊥) → hands_by (Ticks i now) j ≡ None
  hands_there j ne = ap (λ (b : Bool). if b then Some now else None) (and_left (i == j) (nat_lt j 8) (ne_eqb i j (λ q. ne (sym q))))

  tick_agrees : (p : Option ℕ) → p ≡ overdue_in s i at → ShardsAgree (shard_seen (Ticks i now) s) (set shards i (shard_after_tick p here))
  tick_agrees p is = put_agrees shards a.are i low (shard_after_tick p here) s (Ticks i now) a (after_index p) (after_slots p) (after_length p)
      (after_now p ∙ (at_is ∙ ap (λ (o : Option ℕ). handed o (s.shard_time i)) (sym hands_here)))
      hands_there
      (λ k lt. ticked_here p k lt ∙ ap (λ (q : Option ℕ). observers (8 * k + i) s.policy.confirm_after (tick_calls (is_place_of q i (8 * k + i)) ++ s.calls (8 * k + i))) is)
      (λ j k jl kl ne. ap (λ (q : Option ℕ). tick_calls (is_place_of q i (8 * k + j))) (sym is) ∙ elsewhere_none p j k jl ne)

-- a shard above 7 has no notification that has timed out.
none_overdue : (s : Seen) (i at : ℕ) → 8 ≤ i → overdue_in s i at ≡ None
unfolding overdue_in
none_overdue s i at high = ap (λ (b : Bool). if b then place_from (is_overdue_at s i at) 8 0 else None) (le-ltb i 8 high)

-- the effect of a tick on the shards, and its emission, are those of the history.
record TicksAt (s : Seen) (i now : ℕ) (shards : List Shard) (b : Bool) : Type 0 where
  sends : resent_if b (shard_resent now (shard_at shards i)) ≡ resent_at (overdue_in s i (max (s.shard_time i) now)) s i (max (s.shard_time i) now)
  agrees : ShardsAgree (shard_seen (Ticks i now) s) (shard_changed b i (shard_ticked now) shards)

ticks_at : (s : Seen) (i now : ℕ) (shards : List Shard) → ShardsAgree s shards → TicksAt s i now shards (nat_lt i 8)
ticks_at s i now shards a = ⊎_elim
    (λ (low : i < 8).
    let place = overdue_is s i now low shards a in
    subst (TicksAt s i now shards) (sym (lt-ltb i 8 low)) (record {
      sends = resent_is s i now low shards a (overdue_place (shard_handed (shard_at shards i) now)) (overdue_below s i now low shards a) ∙ ap (λ (p : Option ℕ). resent_at p s i (max (s.shard_time i) now)) place;
      agrees = tick_agrees s i now low shards a (overdue_place (shard_handed (shard_at shards i) now)) place;
    }))
    (λ (high : 8 ≤ i).
    let none = none_overdue s i (max (s.shard_time i) now) high in
    subst (TicksAt s i now shards) (sym (le-ltb i 8 high)) (record {
      sends = ap (λ (p : Option ℕ). resent_at p s i (max (s.shard_time i) now)) (sym none);
      agrees = rest_agrees (Ticks i now) s shards
          (λ j lt. ap (λ (b : Bool). if b then Some now else None) (and_left (i == j) (nat_lt j 8) (ne_eqb i j (λ q. absurd (omega (arith, q, lt, high))))))
          (λ n. ap (λ (p : Option ℕ). if is_place_of p i n then TickObservers (max (s.shard_time i) now) ∷ [] else []) none)
          a;
    }))
    (cases_lt i 8)

-- ---- a lease

module _ (s : Seen) (i now : ℕ) (low : i < 8) (shards : List Shard) (a : ShardsAgree s shards) where
  abbrev then_at : ℕ
  then_at = max (s.shard_time i) now

  abbrev asked : Shard
  asked = shard_handed (shard_at shards i) now

  then_is : asked.now ≡ then_at
  then_is = ap (λ (m : ℕ). max m now) (a.now i low)

  -- the notify serial at a place is that of the history.
  noticed_is : (k : ℕ) → k < 8 → noticed_at asked k ≡ (slot_at s (8 * k + i)).notify_serial
  noticed_is k lt =
      let shard : (8 * k + i) % 8 ≡ i = omega (arith, low) in
      let place : (8 * k + i) / 8 ≡ k = omega (arith, low) in
      (λ j. (get_or (shard_at shards (sym shard j)).slots (sym place j) (new_slot 0)).notify_serial) ∙ ap (λ (x : Slot). x.notify_serial) (a.slot (8 * k + i) (omega (arith, low, lt)))

  -- the place of the observer with a pending notification is that of the history.
  due_is : due_place asked ≡ due_in s i then_at
  unfolding due_in
  due_is = place_same (is_due_here asked) (is_due_at s i then_at) 8 0 (λ k lt. λ j. is_some (next_turn (noticed_is k lt j) (list_at_time (then_is j) (a.watch i k low lt j)))) ∙ ap (λ (b : Bool). if b then place_from (is_due_at s i then_at) 8 0 else None) (sym (lt-ltb i 8 low))

  due_below : (k : ℕ) → due_place asked ≡ Some k → k < 8
  due_below k e = place_below (is_due_here asked) 8 0 k e

  index_is : asked.index ≡ i
  index_is = a.are.index i low

  -- the job of the lease is that of the history.
  job_is : (p : Option ℕ) → ((k : ℕ) → p ≡ Some k → k < 8) → due_job p asked ≡ turn_at p s i then_at
  job_is None below = refl
  job_is (Some k) below = λ j. turn_given_to (8 * k + index_is j) (then_is j) (noticed_is k (below k refl) j) (a.watch i k low (below k refl) j)

  -- the calls of a lease on the observers at a place.
  abbrev turn_calls : Bool → ℕ → List ObserverCall
  turn_calls b n = if b then NextDue then_at (slot_at s n).notify_serial ∷ [] else []

  -- the observers at a place after the lease was granted.
  given_here : (p : Option ℕ) (k : ℕ) → k < 8 → watch_at (after_due p asked) k ≡ observers (8 * k + i) s.policy.confirm_after (turn_calls (is_place_of p i (8 * k + i)) (8 * k + i) ++ s.calls (8 * k + i))
  given_here None k lt = a.watch i k low lt
  given_here (Some j) k lt =
      let eight = a.are.watched i low in
      ⊎_elim
      (λ (q : k ≡ j).
      let found : watch_at (after_due (Some j) asked) k ≡ observers_after (NextDue asked.now (noticed_at asked k)) (watch_at asked k) = subst (λ (m : ℕ). watch_at (watch_called (NextDue asked.now (noticed_at asked m)) m asked) k ≡ observers_after (NextDue asked.now (noticed_at asked k)) (watch_at asked k)) q (get_or-set_same asked.watches k (observers_after (NextDue asked.now (noticed_at asked k)) (watch_at asked k)) (no_observers 0 0) (omega (arith, eight, lt))) in
      found ∙ ((λ m. observers_after (NextDue (then_is m) (noticed_is k lt m)) (a.watch i k low lt m)) ∙ ap (λ (b : Bool). observers (8 * k + i) s.policy.confirm_after (turn_calls b (8 * k + i) ++ s.calls (8 * k + i))) (sym (eq-eqb (8 * j + i) (8 * k + i) (omega (arith, q))))))
      (λ (ne : k ≡ j → ⊥).
      get_or-set_other asked.watches j k (observers_after (NextDue asked.now (noticed_at asked j)) (watch_at asked j)) (no_observers 0 0) ne ∙ (a.watch i k low lt ∙ ap (λ (b : Bool). observers (8 * k + i) s.policy.confirm_after (turn_calls b (8 * k + i) ++ s.calls (8 * k + i))) (sym (ne_eqb (8 * j + i) (8 * k + i) (λ q. ne (omega (arith, q)))))))
      (cases_eq k j)

  none_elsewhere : (p : Option ℕ) (j k : ℕ) → j < 8 → (j ≡ i → ⊥) → turn_calls (is_place_of p i (8 * k + j)) (8 * k + j) ≡ []
  none_elsewhere None j k jl ne = refl
  none_elsewhere (Some m) j k jl ne = ap (λ (b : Bool). turn_calls b (8 * k + j)) (ne_eqb (8 * m + i) (8 * k + j) (λ q. ne (omega (arith, q, jl, low))))

  due_index : (p : Option ℕ) → (after_due p asked).index ≡ asked.index
  due_index None = refl
  due_index (Some k) = refl

  due_slots : (p : Option ℕ) → (after_due p asked).slots ≡ asked.slots
  due_slots None = refl
  due_slots (Some k) = refl

  due_now : (p : Option ℕ) → (after_due p asked).now ≡ asked.now
  due_now None = refl
  due_now (Some k) = refl

  due_length : (p : Option ℕ) → length (after_due p asked).watches ≡ 8
  due_length None = a.are.watched i low
  due_length (Some k) = length-set asked.watches k (observers_after (NextDue asked.now (noticed_at asked k)) (watch_at asked k)) ∙ a.are.watched i low

  turn_agrees : (p : Option ℕ) → p ≡ due_in s i then_at → ShardsAgree (shard_seen (AsksTurn i now) s) (set shards i (after_due p asked))
  turn_agrees p is = put_agrees shards a.are i low (after_due p asked) s (AsksTurn i now) a (due_index p) (due_slots p) (due_length p)
      (due_now p ∙ (then_is ∙ ap (λ (o : Option ℕ). handed o (s.shard_time i)) (sym (hands_here s i now low shards a))))
      (hands_there s i now low shards a)
      (λ k lt. given_here p k lt ∙ ap (λ (q : Option ℕ). observers (8 * k + i) s.policy.confirm_after (turn_calls (is_place_of q i (8 * k + i)) (8 * k + i) ++ s.calls (8 * k + i))) is)
      (λ j k jl kl ne. ap (λ (q : Option ℕ). turn_calls (is_place_of q i (8 * k + j)) (8 * k + j)) (sym is) ∙ none_elsewhere p j k jl ne)

-- a shard above 7 has no observer with a pending notification.
none_due : (s : Seen) (i at : ℕ) → 8 ≤ i → due_in s i at ≡ None
unfolding due_in
none_due s i at high = ap (λ (b : Bool). if b then place_from (is_due_at s i at) 8 0 else None) (le-ltb i 8 high)

-- the effect of a request for a lease on the shards, and its job, are those of the history.
record TurnAt (s : Seen) (i now : ℕ) (shards : List Shard) (b : Bool) : Type 0 where
  brings : turn_if b (shard_turn now (shard_at shards i)) ≡ turn_at (due_in s i (max (s.shard_time i) now)) s i (max (s.shard_time i) now)
  agrees : ShardsAgree (shard_seen (AsksTurn i now) s) (shard_changed b i (shard_asked now) shards)

asks_at : (s : Seen) (i now : ℕ) (shards : List Shard) → ShardsAgree s shards → TurnAt s i now shards (nat_lt i 8)
asks_at s i now shards a = ⊎_elim
    (λ (low : i < 8).
    let place = due_is s i now low shards a in
    subst (TurnAt s i now shards) (sym (lt-ltb i 8 low)) (record {
      brings = job_is s i now low shards a (due_place (shard_handed (shard_at shards i) now)) (due_below s i now low shards a) ∙ ap (λ (p : Option ℕ). turn_at p s i (max (s.shard_time i) now)) place;
      agrees = turn_agrees s i now low shards a (due_place (shard_handed (shard_at shards i) now)) place;
    }))
    (λ (high : 8 ≤ i).
    let none = none_due s i (max (s.shard_time i) now) high in
    subst (TurnAt s i now shards) (sym (le-ltb i 8 high)) (record {
      brings = ap (λ (p : Option ℕ). turn_at p s i (max (s.shard_time i) now)) (sym none);
      agrees = rest_agrees (AsksTurn i now) s shards
          (λ j lt. ap (λ (b : Bool). if b then Some now else None) (and_left (i == j) (nat_lt j 8) (ne_eqb i j (λ q. absurd (omega (arith, q, lt, high))))))
          (λ n. ap (λ (p : Option ℕ). if is_place_of p i n then NextDue (max (s.shard_time i) now) (slot_at s n).notify_serial ∷ [] else []) none)
          a;
    }))
    (cases_lt i 8)

-- ---- any

pub shard_agrees : (y : AtShard) (s : Seen) (shards : List Shard) → ShardsAgree s shards → ShardsAgree (shard_seen y s) (shard_by y shards)
shard_agrees (AsksTurn i now) s shards a = (asks_at s i now shards a).agrees
shard_agrees (Signals i to id reset) s shards a = signal_agrees s i to id reset shards a
shard_agrees (Ticks i now) s shards a = (ticks_at s i now shards a).agrees
shard_agrees Calm s shards a = rest_agrees Calm s shards (λ i lt. refl) (λ n. refl) a

pub shard_sends : (y : AtShard) (s : Seen) (shards : List Shard) → ShardsAgree s shards → resent_by y shards ≡ resent_in y s
shard_sends (AsksTurn i now) s shards a = refl
shard_sends (Signals i to id reset) s shards a = refl
shard_sends (Ticks i now) s shards a = (ticks_at s i now shards a).sends
shard_sends Calm s shards a = refl

pub shard_brings : (y : AtShard) (s : Seen) (shards : List Shard) → ShardsAgree s shards → turns_at y shards ≡ turns_by y s
shard_brings (AsksTurn i now) s shards a = ap (λ (o : Option Job). map new_task (option_to_list o)) (asks_at s i now shards a).brings
shard_brings other s shards a = refl
