-- Steps that lead from one position to the next, until nothing is left.
use Rattle.std.proofs.Common.{◌≡◌, ℕ, zero, suc, add-one, ◌+◌, ◌-◌, ◌<◌, ◌≤◌, Bool, true, false, List, [], ◌∷◌, ◌++◌, length, append-nil, append_assoc, Option, arith, ap, subst, sym, refl, ◌∙◌, inl, inr}
use Rattle.std.specs.Prelude.{◌||◌, ◌⊎◌, if◌then◌else◌}
use Rattle.std.specs.List.{list_any}
use Rattle.std.specs.Option.{option_to_list}
use Rattle.coap_msg.specs.declared.types.Emission.{Emission}
use Rattle.fc_observe.specs.declared.observers.Ticked.{Ticked}
use Rattle.fc_observe.specs.declared.observers.Ticked.TheVariants.{Quiet}
use Rattle.fc_server.specs.Notified.{Nobody, Notified, Starved}
use Rattle.fc_server.specs.Ingresses.{IngressCalls}
use Rattle.fc_server.specs.Flushing.{AreStepsBy, AreStepsInOrder, AreFlushed, AreStepsTo, Asked, Finding, HasReached, IsPlace, IsStepBy, Moves, NobodyDue, NothingOverdue, Passed, Resent, FlushingStep, found_at, found_below, found_in_step, found_in_steps, is_starved, sent_in_step, sent_in_steps, sought_at, sought_in_step}
use Rattle.fc_server.specs.declared.flush.Flushing.{Flushing}

-- ---- one step

-- the position at a shard that isn't idle, before its notifications are retransmitted.
abbrev pub before_shard : ℕ → Flushing
before_shard k = record { shard = k; notifies = false; busy = true }

at_place : (s : Flushing) (k : ℕ) (b : Bool) → s.shard ≡ k → s.notifies ≡ b → found_at s ≡ found_below k ++ (if b then NothingOverdue k ∷ [] else [])
at_place s k b shard notifies = λ i. found_below (shard i) ++ (if notifies i then NothingOverdue (shard i) ∷ [] else [])

at_next : (s : Flushing) (k : ℕ) → s.shard ≡ k + 1 → s.notifies ≡ false → found_at s ≡ found_below k ++ (NothingOverdue k ∷ NobodyDue k ∷ [])
at_next s k next overdue = at_place s (suc k) false (next ∙ add-one k) overdue ∙ append-nil (found_below (suc k))

is_place : (s : Flushing) → s.shard < 8 → IsPlace s
is_place s is = (omega (arith, is), λ end. absurd (omega (arith, is, end)))

is_next_place : (from to : Flushing) → from.shard < 8 → to.shard ≡ from.shard + 1 → to.notifies ≡ false → IsPlace to
is_next_place from to is next overdue = (omega (arith, is, next), λ end. overdue)

seeks_at : (s : Flushing) (k : ℕ) (b : Bool) → s.shard ≡ k → s.notifies ≡ b → sought_at s ≡ (if b then NobodyDue k else NothingOverdue k)
seeks_at s k b shard notifies = λ i. if notifies i then NobodyDue (shard i) else NothingOverdue (shard i)

-- a step that found nothing leaves the position unchanged.
pub stays : (s : Flushing) (step : FlushingStep) → s.shard < 8 → sought_in_step step ≡ sought_at s → is_starved step ≡ false → found_in_step step ≡ [] → Moves s step s
stays s step is seeks fed none = record {
  within = is;
  seeks = seeks;
  place = is_place s is;
  reaches = inl (fed, ap (λ (l : List Finding). found_at s ++ l) none ∙ append-nil (found_at s));
}

-- if no notification of the shard has timed out, the next position is at the shard's observers.
pub finds_nothing_overdue : (from to : Flushing) → from.shard < 8 → from.notifies ≡ false → to.shard ≡ from.shard → to.notifies ≡ true → Moves from (Resent from.shard Quiet) to
finds_nothing_overdue from to is overdue same due = record {
  within = is;
  seeks = sym (seeks_at from from.shard false refl overdue);
  place = is_place to (omega (arith, is, same));
  reaches = inl (
    refl,
    ap (λ (l : List Finding). l ++ (NothingOverdue from.shard ∷ [])) (at_place from from.shard false refl overdue ∙ append-nil (found_below from.shard))
        ∙ sym (at_place to from.shard true same due),
  );
}

-- if the shard is idle, the next position is at the next shard.
pub passes_over : (from to : Flushing) → from.shard < 8 → from.notifies ≡ false → to.shard ≡ from.shard + 1 → to.notifies ≡ false → Moves from (Passed from.shard) to
passes_over from to is overdue next later = record {
  within = is;
  seeks = sym (seeks_at from from.shard false refl overdue);
  place = is_next_place from to is next later;
  reaches = inl (
    refl,
    ap (λ (l : List Finding). l ++ (NothingOverdue from.shard ∷ NobodyDue from.shard ∷ []))
        (at_place from from.shard false refl overdue ∙ append-nil (found_below from.shard)) ∙ sym (at_next to from.shard next later),
  );
}

-- if no observer of the shard has a pending notification, the next position is at the next shard.
pub finds_nobody : (from to : Flushing) → from.shard < 8 → from.notifies ≡ true → to.shard ≡ from.shard + 1 → to.notifies ≡ false → Moves from (Asked from.shard Nobody) to
finds_nobody from to is due next later =
    let k = from.shard in
    record {
      within = is;
      seeks = sym (seeks_at from k true refl due);
      place = is_next_place from to is next later;
      reaches = inl (
        refl,
        ap (λ (l : List Finding). l ++ (NobodyDue k ∷ [])) (at_place from k true refl due)
            ∙ (append_assoc (found_below k) (NothingOverdue k ∷ []) (NobodyDue k ∷ []) ∙ sym (at_next to k next later)),
      );
    }

-- if a notification was retransmitted, or its observer removed, the position is unchanged.
pub stays_overdue : (s : Flushing) (ticked : Ticked) → s.shard < 8 → s.notifies ≡ false → found_in_step (Resent s.shard ticked) ≡ [] → Moves s (Resent s.shard ticked) s
stays_overdue s ticked is overdue none = stays s (Resent s.shard ticked) is (sym (seeks_at s s.shard false refl overdue)) refl none

-- if an observer was notified, or its lease released, the position is unchanged.
pub stays_due : (s : Flushing) (told : Notified) → s.shard < 8 → s.notifies ≡ true → is_starved (Asked s.shard told) ≡ false → found_in_step (Asked s.shard told) ≡ []
    → Moves s (Asked s.shard told) s
stays_due s told is due fed none = stays s (Asked s.shard told) is (sym (seeks_at s s.shard true refl due)) fed none

-- if no message ID is available, the next position is the end.
pub starves : (from to : Flushing) → from.shard < 8 → from.notifies ≡ true → to.shard ≡ 8 → to.notifies ≡ false → Moves from (Asked from.shard Starved) to
starves from to is due end overdue = record {
  within = is;
  seeks = sym (seeks_at from from.shard true refl due);
  place = (omega (arith, end), λ at. overdue);
  reaches = inr (refl, end);
}

-- ---- the remaining findings

-- the findings below a shard are the first of those below a later shard.
found_first : (n d : ℕ) → (rest : List Finding) × (found_below n ++ rest ≡ found_below (n + d))
found_first n zero = let is : n ≡ n + zero = omega arith in ([], append-nil (found_below n) ∙ ap found_below is)
found_first n (suc d) =
    let w = found_first n d in
    let more = NothingOverdue (n + d) ∷ NobodyDue (n + d) ∷ [] in
    let is : suc (n + d) ≡ n + suc d = omega arith in
    (w.0 ++ more, sym (append_assoc (found_below n) w.0 more) ∙ (ap (λ (l : List Finding). l ++ more) w.1 ∙ ap found_below is))

-- the findings at a shard below 8 come after those below the shard.
left_from : (k : ℕ) → k < 8 → (rest : List Finding) × (found_below k ++ (NothingOverdue k ∷ NobodyDue k ∷ rest) ≡ found_below 8)
left_from k is =
    let w = found_first (suc k) (7 - k) in
    let all : suc k + (7 - k) ≡ 8 = omega (arith, is) in
    (w.0, sym (append_assoc (found_below k) (NothingOverdue k ∷ NobodyDue k ∷ []) w.0) ∙ (w.1 ∙ ap found_below all))

left_at : (k : ℕ) (b : Bool) → k < 8
    → (rest : List Finding) × ((found_below k ++ (if b then NothingOverdue k ∷ [] else [])) ++ ((if b then NobodyDue k else NothingOverdue k) ∷ rest) ≡ found_below 8)
left_at k true is = let w = left_from k is in (w.0, append_assoc (found_below k) (NothingOverdue k ∷ []) (NobodyDue k ∷ w.0) ∙ w.1)
left_at k false is = let w = left_from k is in (NobodyDue k ∷ w.0, append_assoc (found_below k) [] (NothingOverdue k ∷ NobodyDue k ∷ w.0) ∙ w.1)

-- the finding that a position looks for is the first of those that remain.
left : (s : Flushing) (step : FlushingStep) (steps : List FlushingStep) → s.shard < 8 → found_in_steps steps ≡ found_at s → sought_in_step step ≡ sought_at s
    → (rest : List Finding) × (found_in_steps steps ++ (sought_in_step step ∷ rest) ≡ found_below 8)
left s step steps is found seeks =
    let w = left_at s.shard s.notifies is in
    (w.0, ap (λ (l : List Finding). l ++ (sought_in_step step ∷ w.0)) found ∙ (ap (λ (x : Finding). found_at s ++ (x ∷ w.0)) seeks ∙ w.1))

-- ---- steps

reached_by : (from to : Flushing) (steps : List FlushingStep) (step : FlushingStep) → list_any is_starved steps ≡ false → found_in_steps steps ≡ found_at from
    → ((is_starved step ≡ false) × (found_at from ++ found_in_step step ≡ found_at to)) ⊎ ((is_starved step ≡ true) × (to.shard ≡ 8)) → HasReached (step ∷ steps) to
reached_by from to steps step fed found (inl m) =
    inl (ap (λ (b : Bool). b || list_any is_starved steps) m.0 ∙ fed, ap (λ (l : List Finding). l ++ found_in_step step) found ∙ m.1)
reached_by from to steps step fed found (inr m) = inr (ap (λ (b : Bool). b || list_any is_starved steps) m.0, m.1)

reached_more : (from to : Flushing) (steps : List FlushingStep) (step : FlushingStep) → AreStepsInOrder steps → HasReached steps from → Moves from step to
    → AreStepsInOrder (step ∷ steps) × HasReached (step ∷ steps) to
reached_more from to steps step order (inr w) m = absurd (omega (arith, w.1, m.within))
reached_more from to steps step order (inl w) m = ((order, w.0, left from step steps m.within w.1 m.seeks), reached_by from to steps step w.0 w.1 m.reaches)

found_all : (s : Flushing) → IsPlace s → 8 ≤ s.shard → found_at s ≡ found_below 8
found_all s is end = let at : s.shard ≡ 8 = omega (arith, is.0, end) in at_place s 8 false at (is.1 at) ∙ append-nil (found_below 8)

settled_by : (s : Flushing) (steps : List FlushingStep) → found_at s ≡ found_below 8 → AreStepsInOrder steps → HasReached steps s → AreFlushed steps
settled_by s steps all order (inl w) = (order, inl (w.1 ∙ all))
settled_by s steps all order (inr w) = (order, inr (inl w.0))

module _ {S : Type 0} (calls : IngressCalls S) where
  abbrev pub StepsTo : ℕ → List FlushingStep → S → S → Flushing → Type 0
  StepsTo now steps old new at = AreStepsTo calls now steps old new at

  -- without a step, the position is the first one.
  pub no_steps : (now : ℕ) (old : S) (s : Flushing) → s.shard ≡ 0 → s.notifies ≡ false → StepsTo now [] old old s
  no_steps now old s first overdue =
      record { taken = refl; place = is_place s (omega (arith, first)); in_order = tt; reached = inl (refl, sym (at_place s 0 false first overdue)) }

  -- one more step leads from the last position to the next.
  pub one_step : (now : ℕ) (old mid new : S) (from to : Flushing) (steps : List FlushingStep) (step : FlushingStep) → StepsTo now steps old mid from
      → IsStepBy calls now step mid new → Moves from step to → StepsTo now (step ∷ steps) old new to
  one_step now old mid new from to steps step w is m =
      let r = reached_more from to steps step w.in_order w.reached m in
      record { taken = (mid, is, w.taken); place = m.place; in_order = r.0; reached = r.1 }

  -- steps that led to the last position fulfil `AreFlushed`.
  pub settled_at_end : (now : ℕ) (old new : S) (s : Flushing) (steps : List FlushingStep) → StepsTo now steps old new s → 8 ≤ s.shard → AreFlushed steps
  settled_at_end now old new s steps w end = settled_by s steps (found_all s w.place end) w.in_order w.reached

  -- the greatest number of steps fulfils `AreFlushed` too.
  pub settled_at_bound : (now : ℕ) (old new : S) (s : Flushing) (steps : List FlushingStep) → StepsTo now steps old new s → 8192 ≤ length steps → AreFlushed steps
  settled_at_bound now old new s steps w many = (w.in_order, inr (inr many))

  -- at least `taken` steps led to this position, and their emissions have the property P.
  abbrev pub Steps : (List Emission → Type 0) → ℕ → ℕ → S → S → Flushing → Type 0
  Steps P taken now old new place = (steps : List FlushingStep) × AreStepsTo calls now steps old new place × (taken ≤ length steps) × P (sent_in_steps steps)

  abbrev pub Done : (List Emission → Type 0) → ℕ → S → S → Type 0
  Done P now old new = (steps : List FlushingStep) × AreStepsBy calls now steps old new × AreFlushed steps × P (sent_in_steps steps)

  -- one more step leads to the next position, and the emissions have the next property, Q.
  pub next_step : (P Q : List Emission → Type 0) (taken now : ℕ) (old mid new : S) (from to : Flushing) (out : Option Emission) → Steps P taken now old mid from
      → ((step : FlushingStep) × IsStepBy calls now step mid new × (sent_in_step step ≡ out) × Moves from step to)
      → ((emissions : List Emission) → P emissions → Q (emissions ++ option_to_list out)) → Steps Q (taken + 1) now old new to
  next_step P Q taken now old mid new from to out w x more = (
    x.0 ∷ w.0,
    one_step now old mid new from to w.0 x.0 w.1 x.1 x.3,
    omega (arith, w.2),
    subst (λ (o : Option Emission). Q (sent_in_steps w.0 ++ option_to_list o)) (sym x.2) (more (sent_in_steps w.0) w.3),
  )

  pub done_at_end : (P : List Emission → Type 0) (taken now : ℕ) (old new : S) (place : Flushing) → Steps P taken now old new place → 8 ≤ place.shard → Done P now old new
  done_at_end P taken now old new place w end = (w.0, w.1.taken, settled_at_end now old new place w.0 w.1 end, w.3)

  pub done_at_bound : (P : List Emission → Type 0) (taken now : ℕ) (old new : S) (place : Flushing) → Steps P taken now old new place → 8192 ≤ taken → Done P now old new
  done_at_bound P taken now old new place w many = (w.0, w.1.taken, settled_at_bound now old new place w.0 w.1 (omega (arith, w.2, many)), w.3)
