use Rattle.std.proofs.Common.{arith, ◌∙◌}
use Rattle.fc_pool.proofs.laws.gauges_of_a_pool_are_of_its_front_and_shards.Goals as goal

pub returns-clause-front : goal.returns-clause-front
returns-clause-front g c = λ state gauges are. are.front

pub returns-clause-first : goal.returns-clause-first
returns-clause-first g c = λ now state gauges are. are.observers 0 (omega arith)

pub returns-clause-last : goal.returns-clause-last
returns-clause-last g c = λ now state gauges are. are.observers 7 (omega arith)

pub returns-clause-sent : goal.returns-clause-sent
returns-clause-sent g c = λ now state gauges are three. are.offloaded ∙ three
