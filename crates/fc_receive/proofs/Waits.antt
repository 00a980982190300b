-- How long a receive waits.
use Rattle.std.proofs.Common.{◌≡◌, ℕ, ◌-◌, ◌<◌, ◌≤◌, Bool, true, false, List, [], ◌∷◌, length, Some, None, ⊎_elim, arith, ap, refl, ◌∙◌}
use Rattle.std.specs.Prelude.{if◌then◌else◌, max, not}
use Rattle.std.proofs.lemmas.Bool.{cases_lt, lt-ltb}
use Rattle.fc_receive.specs.Rounds.{wait_until}
use Rattle.fc_server.specs.Flushing.{AreTold, earliest}

-- a receive waits until a time below 2^64 - 1, and for at least 100 ms.
pub wait_to : (now time : ℕ) → time < 18446744073709551615 → wait_until now time ≡ Some (max (time - now) 100)
wait_to now time lt = ap (λ (b : Bool). if b then Some (max (time - now) 100) else None) (lt-ltb time 18446744073709551615 lt)

module _ (told : ℕ → ℕ) where
  abbrev Told : List ℕ → Type 0
  Told times = AreTold (λ shard until. until ≡ told shard) times

  -- the earliest time is no later than that of any shard.
  pub no_later : (times : List ℕ) (shard : ℕ) → Told times → shard < length times → earliest times ≤ told shard
  no_later [] shard are lt = absurd (omega (arith, lt))
  no_later (until ∷ before) shard (is, are) lt =
      ⊎_elim
      (λ (earlier : shard < length before). let le = no_later before shard are earlier in omega (arith, le))
      (λ (from : length before ≤ shard).
      let same : length before ≡ shard = omega (arith, lt, from) in
      let here : until ≡ told shard = is ∙ ap told same in
      omega (arith, here))
      (cases_lt shard (length before))

  -- a time no later than each shard's is no later than the earliest.
  pub no_earlier : (times : List ℕ) (least : ℕ) → Told times → ((shard : ℕ) → shard < length times → least ≤ told shard) → least ≤ 18446744073709551615 → least ≤ earliest times
  no_earlier [] least are each fits = fits
  no_earlier (until ∷ before) least (is, are) each fits =
      let le = no_earlier before least are (λ shard lt. each shard (omega (arith, lt))) fits in
      let here : least ≤ told (length before) = each (length before) (omega arith) in
      omega (arith, le, here, is)

  -- the earliest time is at most 2^64 - 1.
  pub at_most : (times : List ℕ) → earliest times ≤ 18446744073709551615
  at_most [] = omega arith
  at_most (until ∷ before) = let le = at_most before in omega (arith, le)

-- a round was idle exactly if it handled nothing.
pub handled_something : (idle some : Bool) → some ≡ not idle → some ≡ true → idle ≡ false
handled_something true some is found = absurd (cc (is, found))
handled_something false some is found = refl

pub handled_nothing : (idle some : Bool) → some ≡ not idle → some ≡ false → idle ≡ true
handled_nothing true some is missing = refl
handled_nothing false some is missing = absurd (cc (is, missing))
