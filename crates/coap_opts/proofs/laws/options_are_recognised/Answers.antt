use Rattle.std.proofs.Common.{refl}
use Rattle.coap_opts.specs.Served.{rows}
use Rattle.coap_opts.proofs.Recognised.{recognised_at, unrecognised}
use Rattle.coap_opts.proofs.laws.options_are_recognised.Goals as goal

pub returns-clause-table : goal.returns-clause-table
unfolding rows
returns-clause-table c = refl

pub returns-clause-known : goal.returns-clause-known
returns-clause-known c = recognised_at

pub returns-clause-others : goal.returns-clause-others
returns-clause-others c = unrecognised
