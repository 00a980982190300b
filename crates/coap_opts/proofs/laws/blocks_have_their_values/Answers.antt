use Rattle.std.proofs.Common.{◌≡◌, ℕ, ◌+◌, ◌*◌, ◌<◌, ◌/◌, ◌%◌, ◌==◌, ◌^◌, Bool, true, false, if◌then◌else◌, refl, ap, ◌∙◌, arith}
use Rattle.coap_opts.specs.Values.{Place, block_value, place_at}
use Rattle.coap_opts.proofs.Spellings.{uint_again}
use Rattle.coap_opts.proofs.laws.blocks_have_their_values.Goals as goal

read_at : (number szx : ℕ) (more : Bool) → szx < 8 → place_at (16 * number + ((if more then 8 else 0) + szx)) ≡ record { number = number; more = more; szx = szx }
read_at number szx true low =
    let n : (16 * number + (8 + szx)) / 16 ≡ number = omega (arith, low) in
    let e : (16 * number + (8 + szx)) / 8 % 2 ≡ 1 = omega (arith, low) in
    let s : (16 * number + (8 + szx)) % 8 ≡ szx = omega (arith, low) in
    λ i. record { number = n i; more = (e i == 1); szx = s i }
read_at number szx false low =
    let n : (16 * number + (0 + szx)) / 16 ≡ number = omega (arith, low) in
    let e : (16 * number + (0 + szx)) / 8 % 2 ≡ 0 = omega (arith, low) in
    let s : (16 * number + (0 + szx)) % 8 ≡ szx = omega (arith, low) in
    λ i. record { number = n i; more = (e i == 1); szx = s i }

small : (b : Place) (more : Bool) → b.more ≡ more → b.number < 2 ^ 20 → b.szx < 8 → block_value b < 2 ^ 64
small b true is low few = let at : block_value b ≡ 16 * b.number + (8 + b.szx) = ap (λ (m : Bool). 16 * b.number + ((if m then 8 else 0) + b.szx)) is in omega (arith, at, low, few)
small b false is low few = let at : block_value b ≡ 16 * b.number + (0 + b.szx) = ap (λ (m : Bool). 16 * b.number + ((if m then 8 else 0) + b.szx)) is in omega (arith, at, low, few)

pub returns-clause-again : goal.returns-clause-again
returns-clause-again c b low few = ap place_at (uint_again (block_value b) (small b b.more refl low few)) ∙ read_at b.number b.szx b.more few
