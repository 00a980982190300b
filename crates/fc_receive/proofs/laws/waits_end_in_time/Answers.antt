use Rattle.std.proofs.Common.{◌≡◌, ℕ, ◌+◌, ◌-◌, ◌<◌, ◌≤◌, Option, Some, None, ap, arith, ◌∙◌, true}
use Rattle.std.specs.Prelude.{max}
use Rattle.fc_receive.specs.Rounds.{EndsInTime, wait_until}
use Rattle.fc_receive.proofs.Waits.{at_most, no_earlier, no_later, wait_to}
use Rattle.fc_receive.proofs.laws.waits_end_in_time.Goals as goal

abbrev Ends : (ℕ → ℕ) → ℕ → Option ℕ → Type 0
Ends told now wait = EndsInTime (λ shard until. until ≡ told shard) now true wait

soon : (told : ℕ → ℕ) (now shard : ℕ) (wait : Option ℕ) → shard < 8 → told shard ≤ now + 100 → now + 100 < 18446744073709551615 → Ends told now wait → wait ≡ Some 100
soon told now shard wait lt early fits (time, (times, are, count, is), waits) =
    let le = no_later told times shard are (omega (arith, lt, count)) in
    let some : time < 18446744073709551615 = omega (arith, is, le, early, fits) in
    let short : max (time - now) 100 ≡ 100 = omega (arith, is, le, early) in
    waits ∙ (wait_to now time some ∙ ap (λ (n : ℕ). Some n) short)

in_time : (told : ℕ → ℕ) (now shard later : ℕ) (wait : Option ℕ) → shard < 8 → told shard ≡ now + later → 100 ≤ later → now + later < 18446744073709551615
    → ((other : ℕ) → other < 8 → now + later ≤ told other) → Ends told now wait → wait ≡ Some later
in_time told now shard more wait lt first long fits each (time, (times, are, count, is), waits) =
    let le = no_later told times shard are (omega (arith, lt, count)) in
    let ge = no_earlier told times (now + more) are (λ other below. each other (omega (arith, below, count))) (omega (arith, fits)) in
    let same : time ≡ now + more = omega (arith, is, le, ge, first) in
    let some : time < 18446744073709551615 = omega (arith, same, fits) in
    let rest : max (time - now) 100 ≡ more = omega (arith, same, long) in
    waits ∙ (wait_to now time some ∙ ap (λ (n : ℕ). Some n) rest)

endless : (told : ℕ → ℕ) (now : ℕ) (wait : Option ℕ) → ((shard : ℕ) → shard < 8 → told shard ≡ 18446744073709551615) → Ends told now wait → wait ≡ None
endless told now wait each (time, (times, are, count, is), waits) =
    let ge = no_earlier told times 18446744073709551615 are (λ shard lt. let at : told shard ≡ 18446744073709551615 = each shard (omega (arith, lt, count)) in omega (arith, at)) (omega arith) in
    let le = at_most told times in
    let never : time ≡ 18446744073709551615 = omega (arith, is, ge, le) in
    waits ∙ ap (wait_until now) never

pub returns-clause-received : goal.returns-clause-received
returns-clause-received c = λ told now wait is. is

pub returns-clause-soon : goal.returns-clause-soon
returns-clause-soon c = soon

pub returns-clause-later : goal.returns-clause-later
returns-clause-later c = in_time

pub returns-clause-endless : goal.returns-clause-endless
returns-clause-endless c = endless
