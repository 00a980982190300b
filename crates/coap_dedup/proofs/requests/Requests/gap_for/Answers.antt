use Rattle.coap_dedup.proofs.Index.{some_found}
use Rattle.coap_dedup.proofs.requests.Requests.gap_for.Goals as goal

pub returns-in-Ok : goal.returns-in-Ok
returns-in-Ok c = absurd (some_found c.args.self.now.items c.args.key.now c.in-Ok.index (search c.in-Ok.ensures.found) c.requires)
