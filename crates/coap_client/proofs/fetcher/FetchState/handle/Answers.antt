use Rattle.std.proofs.Common.{◌∙◌, sym, subst}
use Rattle.coap_client.specs.Requests.{IsPartOf}
use Rattle.coap_client.proofs.NextParts.{next_is_part}
use Rattle.coap_client.proofs.fetcher.FetchState.handle.Goals as goal

pub returns-in_ok-go_on-in-Ask-clause-own : goal.returns-in_ok-go_on-in-Ask-clause-own
returns-in_ok-go_on-in-Ask-clause-own c =
    subst (IsPartOf c.args.client_request.now) (sym c.in_ok-go_on-in-Ask.ensures.part)
    (next_is_part c.args.client_request.now c.count.new.self.part c.in-Ask.part c.deref.result.now c.args.message.now (subst (IsPartOf c.args.client_request.now) (sym c.in_ok-count.ensures.others.part) c.requires) (sym c.next_of.ensures ∙ c.in-Ask.is))
