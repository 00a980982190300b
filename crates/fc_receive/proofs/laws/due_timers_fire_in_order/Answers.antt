use Rattle.std.proofs.Common.{◌∙◌, ap}
use Rattle.std.specs.Prelude.{nat_lt}
use Rattle.fc_receive.proofs.Beats.{both_fired, fires_first, fires_if_free, fires_second}
use Rattle.fc_receive.proofs.laws.due_timers_fire_in_order.Goals as goal

pub returns-clause-both : goal.returns-clause-both
returns-clause-both g c = λ t u new before after due next free none fired.
    let calls = g.N.Ingress.calls in
    let w = both_fired calls 5300 t u new before after fired in
    let one = fires_if_free calls 5300 t w.first before w.mid (ap (nat_lt 5300) due) free w.fires in
    let two = fires_if_free calls 5300 u w.second w.mid after (ap (nat_lt 5300) next) none w.fires_next in
    (w.mid, one.0, two.0, one.1, two.1, w.new_is ∙ cc (one.2, two.2))

pub returns-clause-first : goal.returns-clause-first
returns-clause-first g c = λ t u new before after due next free fired.
    fires_first g.N.Ingress.calls 5300 t u new before after (ap (nat_lt 5300) due) (ap (nat_lt 5300) next) free fired

pub returns-clause-second : goal.returns-clause-second
returns-clause-second g c = λ t u new before after due next free fired.
    fires_second g.N.Ingress.calls 5300 t u new before after (ap (nat_lt 5300) due) (ap (nat_lt 5300) next) free fired
