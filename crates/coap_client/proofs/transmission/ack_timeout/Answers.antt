use Rattle.std.proofs.Common.{◌≡◌, ℕ, zero, suc, ◌+◌, ◌*◌, ◌<◌, ◌^◌, ◌%◌, refl, arith}
use Rattle.coap_client.proofs.transmission.ack_timeout.Goals as goal

doubled : (n : ℕ) → n < 5 → 2 * 2 ^ n % 18446744073709551616 ≡ 2 ^ (n + 1)
doubled zero h = refl
doubled (suc zero) h = refl
doubled (suc (suc zero)) h = refl
doubled (suc (suc (suc zero))) h = refl
doubled (suc (suc (suc (suc zero)))) h = refl
doubled (suc (suc (suc (suc (suc n))))) h = absurd (omega (arith, h))

pub returns : goal.returns
returns c = doubled c.args.sendings c.requires
