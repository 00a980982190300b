use Rattle.std.proofs.Common.{◌∙◌, ap, length, sym}
use Rattle.coap_dedup.specs.Calls.{expired}
use Rattle.coap_dedup.specs.Exchanges.{Table}
use Rattle.coap_dedup.proofs.Arrival.{live_seen}
use Rattle.coap_dedup.proofs.exchanges.Exchanges.held_at.Goals as goal

pub returns : goal.returns
returns c =
    let seen = live_seen c.self.inside.answers c.args.now c.self.inside.requests.items in
    c.live_at.ensures ∙ sym seen ∙ ap (λ (t : Table). length (expired t c.args.now).held) c.self.view_is
