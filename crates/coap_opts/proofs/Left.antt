-- The collected options once no option of the message is left.
use Rattle.std.proofs.Common.{◌≡◌, ℕ, ◌≤◌, List, [], length, Option, Some, None, IfSome, sym}
use Rattle.coap_msg.specs.Wire.{Message}
use Rattle.coap_opts.specs.declared.collector.Collected.{Collected}
use Rattle.coap_opts.specs.Collected.{IsUncollected}
use Rattle.coap_opts.specs.Firsts.{AreShort, first_at, first_with}
use Rattle.coap_opts.proofs.Known.{short_first}

short_if : (most : ℕ) (found value : Option (List ℕ)) → first_with value [] ≡ found → ((v : List ℕ) → found ≡ Some v → length v ≤ most) → IfSome value (λ v. length v ≤ most)
short_if most found None e h = tt
short_if most found (Some v) e h = h v (sym e)

pub left_short : (m : Message) (g : Collected) (before : Option ℕ) → IsUncollected m g before [] → AreShort g.firsts
left_short m g before l number most allows = short_if most _ (first_at g.firsts number) (l.firsts number) (λ v e. short_first number most m v allows e)
