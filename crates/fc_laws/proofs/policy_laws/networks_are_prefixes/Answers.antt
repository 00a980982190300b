use Rattle.std.proofs.Common.{◌/◌, refl, arith}
use Rattle.std.proofs.lemmas.Bool.{eq-eqb}
use Rattle.coap_dedup.specs.Keys.{address_number}
use Rattle.fc_laws.proofs.policy_laws.networks_are_prefixes.Goals as goal

pub returns-clause-last : goal.returns-clause-last
returns-clause-last c = refl

pub returns-clause-next : goal.returns-clause-next
returns-clause-next c = refl

pub returns-clause-wider : goal.returns-clause-wider
returns-clause-wider c = refl

pub returns-clause-first : goal.returns-clause-first
returns-clause-first c = refl

pub returns-clause-more : goal.returns-clause-more
returns-clause-more c = refl

pub returns-clause-one : goal.returns-clause-one
returns-clause-one c = refl

pub returns-clause-any : goal.returns-clause-any
returns-clause-any c = λ ip lt. eq-eqb (address_number ip / 4294967296) 0 (omega (arith, lt))
