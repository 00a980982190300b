use Rattle.std.proofs.Common.{sym, ◌∙◌}
use Rattle.coap_uri.proofs.Addressing.{hostless}
use Rattle.coap_uri.proofs.address.address_of.Goals as goal

pub returns-in_default-host_of-clause-none : goal.returns-in_default-host_of-clause-none
returns-in_default-host_of-clause-none c = (
  sym c.has_other_parts.ensures ∙ c.if-has_other_parts.false,
  hostless c.args.uri.now c.in-Some.name.now c.host_of.result (sym c.in-Some.ensures) c.in_default-host_of.not-Some c.host_of.ensures,
)
