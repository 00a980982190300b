use Rattle.coap_dedup.proofs.Shares.{start_found, start_gap}
use Rattle.coap_dedup.proofs.requests.Requests.start_of.Goals as goal

pub returns-in-Ok-clause-start : goal.returns-in-Ok-clause-start
returns-in-Ok-clause-start c = start_found c.args.ip c.in-Ok.index c.first_of.result c.args.self.now.items c.first_of.ensures.key c.in-Ok.ensures.found

pub returns-in-Ok-2-clause-start : goal.returns-in-Ok-2-clause-start
returns-in-Ok-2-clause-start c = start_gap c.args.ip c.in-Ok.index c.first_of.result c.args.self.now.items c.first_of.ensures.key c.in-Ok.ensures.absent
