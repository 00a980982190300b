use Rattle.std.proofs.Common.{◌∙◌, sym, subst}
use Rattle.std.specs.FinMap.{keys}
use Rattle.circular_buffer.specs.Buffer.{Buffer}
use Rattle.coap_dedup.specs.declared.exchange.Opened.{Opened}
use Rattle.coap_dedup.specs.declared.key.Key.{Key}
use Rattle.coap_dedup.specs.Requests.{HasGap, IsGap, by_key}
use Rattle.coap_dedup.proofs.Keys.{key_antisymmetric}
use Rattle.coap_dedup.proofs.requests.Requests.known_gap.Goals as goal

pub returns-in-Equal : goal.returns-in-Equal
returns-in-Equal c =
    let gap : IsGap (keys (by_key c.self.inside.ring.items)) c.in_ok-gap.gap.key c.in_ok-gap.gap.index = subst (HasGap c.self.inside.ring.items) c.in_ok-gap.was c.self.invariant.1 in
    subst (λ (b : Buffer Opened). IsGap (keys (by_key b.items)) c.args.key.now c.in_ok-gap.gap.index) c.self.view_is
    (subst (λ (k : Key). IsGap (keys (by_key c.self.inside.ring.items)) k c.in_ok-gap.gap.index) (key_antisymmetric c.in_ok-gap.gap.key c.args.key.now (sym c.order.ensures.order ∙ c.in-Equal.is)) gap)
