use Rattle.std.proofs.Common.{◌∙◌, refl, subst, sym}
use Rattle.fc_fetch.specs.Pinging.{IsServerOf}
use Rattle.fc_fetch.proofs.ping.endpoint_of.Goals as goal

pub returns-in-Ok-clause-none : goal.returns-in-Ok-clause-none
returns-in-Ok-clause-none c = record {
  text = c.in-Some.text;
  text_is = c.in-Some.is;
  address = c.in-Ok.address;
  address_is = c.in-Ok.ensures.address;
  resource = sym c.has_resource.ensures ∙ c.if-has_resource.true;
}

pub returns-in-Ok-2-clause-endpoint : goal.returns-in-Ok-2-clause-endpoint
returns-in-Ok-2-clause-endpoint c =
    subst (λ target. IsServerOf target c.args.pinging.now.port c.in-Ok.address.server) (sym c.in-Some.is)
    (record { address = c.in-Ok.address; address_is = c.in-Ok.ensures.address; no_resource = sym c.has_resource.ensures ∙ c.if-has_resource.false; server_is = refl })

pub returns-in-Err-clause-none : goal.returns-in-Err-clause-none
returns-in-Err-clause-none c = (c.in-Some.text, c.in-Some.is, c.in-Err.ensures.none)
