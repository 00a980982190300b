-- Timers of one round, and the wait until the first of them is due.
use Rattle.std.proofs.Common.{◌≡◌, ◌⊎◌, ℕ, Bool, true, false, List, [], ◌∷◌, length, Option, None, ⊎_elim, ap, arith, refl, subst, sym, ◌∙◌}
use Rattle.std.specs.Prelude.{MatchBool, min, nat_lt}
use Rattle.fc_host.specs.Timers.{first_due, put_off}
use Rattle.fc_host.specs.declared.timer.Timer.{Timer}
use Rattle.fc_server.specs.Flushing.{AreTold}
use Rattle.fc_server.specs.Ingresses.{IngressCalls}
use Rattle.fc_server.specs.declared.engine.FireOutcome.{FireOutcome}
use Rattle.fc_receive.specs.Firing.{AreFired, Firing, FiresIfDue, FiresOnce, SkipsBeat, fired_calls, is_offloaded}
use Rattle.fc_receive.specs.Rounds.{EndsInTime, wait_until}
use Rattle.fc_receive.proofs.Waits.{at_most, no_earlier}

module _ {S : Type 0} (calls : IngressCalls S) where
  -- a timer that is due, and has no job at a worker, fires once.
  pub fires_if_free : (now : ℕ) (t u : Timer) (before after : S) → nat_lt now t.due ≡ false → t.offloaded ≡ false → FiresIfDue calls now t u before after
      → (outcome : FireOutcome) × calls.fires t.slot now before after outcome × (u ≡ record (put_off now t) { offloaded = is_offloaded outcome })
  fires_if_free now t u before after late free fires =
      ⊎_elim
      (λ (w : FiresOnce calls now t u before after). (w.outcome, w.fires, w.next))
      (λ (w : SkipsBeat calls now t u before after). absurd (cc (w.offloaded, free)))
      (subst (λ (b : Bool). MatchBool b ((u ≡ t) × (after ≡ before)) (FiresOnce calls now t u before after ⊎ SkipsBeat calls now t u before after)) late fires)

  -- a timer that isn't due stays as it is.
  pub stays_until_due : (now : ℕ) (t u : Timer) (before after : S) → nat_lt now t.due ≡ true → FiresIfDue calls now t u before after → (u ≡ t) × (after ≡ before)
  stays_until_due now t u before after early fires =
      subst (λ (b : Bool). MatchBool b ((u ≡ t) × (after ≡ before)) (FiresOnce calls now t u before after ⊎ SkipsBeat calls now t u before after)) early fires

  -- two timers that fired if they were due.
  pub record AreBothFired (now : ℕ) (t u : Timer) (new : List Timer) (before after : S) : Type 0 where
    pub first : Timer
    pub second : Timer
    pub mid : S
    pub new_is : new ≡ first ∷ second ∷ []
    pub fires : FiresIfDue calls now t first before mid
    pub fires_next : FiresIfDue calls now u second mid after

  pub both_fired : (now : ℕ) (t u : Timer) (new : List Timer) (before after : S) → AreFired calls now (t ∷ u ∷ []) new before after → AreBothFired now t u new before after
  both_fired now t u [] before after fired = elim fired [ ]
  both_fired now t u (a ∷ []) before after fired = elim fired.2 [ ]
  both_fired now t u (a ∷ b ∷ []) before after fired = record {
    first = a;
    second = b;
    mid = fired.0;
    new_is = refl;
    fires = fired.1;
    fires_next = subst (λ (s : S). FiresIfDue calls now u b fired.0 s) (sym fired.2.2) fired.2.1;
  }
  both_fired now t u (a ∷ b ∷ c ∷ us) before after fired = elim fired.2.2 [ ]

  -- of two timers one is due.
  pub fires_first : (now : ℕ) (t u : Timer) (new : List Timer) (before after : S) → nat_lt now t.due ≡ false → nat_lt now u.due ≡ true → t.offloaded ≡ false → AreFired calls now (t ∷ u ∷ []) new before after
      → (outcome : FireOutcome) × calls.fires t.slot now before after outcome × (new ≡ record (put_off now t) { offloaded = is_offloaded outcome } ∷ u ∷ [])
  fires_first now t u new before after late early free fired =
      let w = both_fired now t u new before after fired in
      let one = fires_if_free now t w.first before w.mid late free w.fires in
      let two = stays_until_due now u w.second w.mid after early w.fires_next in
      (one.0, subst (λ (s : S). calls.fires t.slot now before s one.0) (sym two.1) one.1, w.new_is ∙ cc (one.2, two.0))

  pub fires_second : (now : ℕ) (t u : Timer) (new : List Timer) (before after : S) → nat_lt now t.due ≡ true → nat_lt now u.due ≡ false → u.offloaded ≡ false → AreFired calls now (t ∷ u ∷ []) new before after
      → (outcome : FireOutcome) × calls.fires u.slot now before after outcome × (new ≡ t ∷ record (put_off now u) { offloaded = is_offloaded outcome } ∷ [])
  fires_second now t u new before after early late free fired =
      let w = both_fired now t u new before after fired in
      let one = stays_until_due now t w.first before w.mid early w.fires in
      let two = fires_if_free now u w.second w.mid after late free w.fires_next in
      (two.0, subst (λ (s : S). calls.fires u.slot now s after two.0) one.1 two.1, w.new_is ∙ cc (one.0, two.2))

  -- ---- the wait until the first of two timers is due

  -- the first of two timers of a server without timers of its own.
  pub first_of_two : (due : ℕ) (f : Firing S) (t u : Timer) → t.due ≡ 5000 → u.due ≡ 7000 → f.timers ≡ t ∷ u ∷ [] → ((own : ℕ) → calls.is_first_due f.ingress own → own ≡ 18446744073709551615)
      → (fired_calls calls).is_first_due f due → due ≡ 5000
  first_of_two due f t u first second timers owns w =
      let own = owns w.0 w.1 in
      let of_two : first_due f.timers ≡ min (min 18446744073709551615 t.due) u.due = ap first_due timers in
      omega (arith, w.2, own, of_two, first, second)

  pub first_of_own : (due : ℕ) (f : Firing S) (t : Timer) → t.due ≡ 5000 → f.timers ≡ t ∷ [] → ((own : ℕ) → calls.is_first_due f.ingress own → own ≡ 4600)
      → (fired_calls calls).is_first_due f due → due ≡ 4600
  first_of_own due f t is timers owns w =
      let own = owns w.0 w.1 in
      let of_one : first_due f.timers ≡ min 18446744073709551615 t.due = ap first_due timers in
      omega (arith, w.2, own, of_one, is)

-- shards without work have no earliest time.
told_alike : (Stays Told : ℕ → ℕ → Type 0) → ((shard until : ℕ) → Stays shard until → Told shard until) → (times : List ℕ) → AreTold Stays times → AreTold Told times
told_alike Stays Told each [] are = are
told_alike Stays Told each (until ∷ before) are = (each (length before) until are.0, told_alike Stays Told each before are.1)

pub no_work : (Stays : ℕ → ℕ → Type 0) (now : ℕ) (own : Option ℕ) → ((shard until : ℕ) → Stays shard until → until ≡ 18446744073709551615) → EndsInTime Stays now true own → own ≡ None
no_work Stays now own each (time, (times, are, count, is), waits) =
    let told : ℕ → ℕ = λ shard. 18446744073709551615 in
    let alike = told_alike Stays (λ shard until. until ≡ told shard) each times are in
    let ge = no_earlier told times 18446744073709551615 alike (λ shard lt. omega arith) (omega arith) in
    let le = at_most told times in
    let never : time ≡ 18446744073709551615 = omega (arith, is, ge, le) in
    waits ∙ ap (wait_until now) never
