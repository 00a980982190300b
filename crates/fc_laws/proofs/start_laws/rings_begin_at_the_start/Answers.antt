use Rattle.std.proofs.Common.{ℕ, Bool, refl, arith, if◌then◌else◌}
use Rattle.fc_laws.proofs.start_laws.rings_begin_at_the_start.Goals as goal

pub returns-clause-ring : goal.returns-clause-ring
returns-clause-ring c = λ program c d. refl

pub returns-clause-since : goal.returns-clause-since
returns-clause-since c = λ program cs p ring continues version.
    let size = continues.0.size in
    omega (arith, size, version)

pub returns-clause-installed : goal.returns-clause-installed
returns-clause-installed c = λ program cs p ring continues version.
    let size = continues.0.size in
    omega (arith, size, version)

-- the notify serial after two commits, by the notify flag of each.
abbrev notified_by : Bool → Bool → ℕ
notified_by first second = if second then 22 else (if first then 21 else 20)

pub returns-clause-quiet : goal.returns-clause-quiet
returns-clause-quiet c = λ program c d first second. λ i. notified_by (first i) (second i)

pub returns-clause-notified : goal.returns-clause-notified
returns-clause-notified c = λ program c d first second. λ i. notified_by (first i) (second i)
