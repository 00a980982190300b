use Rattle.std.proofs.Common.{arith}
use Rattle.fc_receive.proofs.Beats.{first_of_own, first_of_two}
use Rattle.fc_receive.proofs.laws.waits_end_when_a_timer_is_due.Goals as goal

pub returns-clause-first : goal.returns-clause-first
returns-clause-first g c = λ due f w k d lt. let le = c.no_timer_is_due_before_the_first.ensures.all f.timers k d lt in omega (arith, w.2, le)

pub returns-clause-earliest : goal.returns-clause-earliest
returns-clause-earliest g c = first_of_two g.N.Ingress.calls

pub returns-clause-own : goal.returns-clause-own
returns-clause-own g c = first_of_own g.N.Ingress.calls
