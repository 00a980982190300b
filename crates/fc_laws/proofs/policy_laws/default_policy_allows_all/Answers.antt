use Rattle.std.proofs.Common.{◌/◌, Bool, false, ◌||◌, ap, refl, arith}
use Rattle.std.proofs.lemmas.Bool.{eq-eqb}
use Rattle.coap_dedup.specs.Keys.{address_number}
use Rattle.fc_front.specs.Policies.{any_address, is_in}
use Rattle.fc_laws.proofs.front.Shares.{none_above}
use Rattle.fc_laws.proofs.policy_laws.default_policy_allows_all.Goals as goal

pub returns-clause-managers : goal.returns-clause-managers
returns-clause-managers c = λ to lt. ap (λ (b : Bool). b || (is_in to.ip any_address || (is_in to.ip any_address || (is_in to.ip any_address || false)))) (eq-eqb (address_number to.ip / 4294967296) 0 (omega (arith, lt)))

pub returns-clause-places : goal.returns-clause-places
returns-clause-places c = refl

pub returns-clause-shares : goal.returns-clause-shares
returns-clause-shares c = none_above

pub returns-clause-confirm_after : goal.returns-clause-confirm_after
returns-clause-confirm_after c = refl
