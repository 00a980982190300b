use Rattle.std.proofs.Common.{◌∙◌, ap, subst}
use Rattle.fc_locked.specs.Counts.{Tallies}
use Rattle.fc_locked.specs.LegalOrder.{HaveLegalOrder}
use Rattle.fc_locked.specs.OneOrder.{logs_of}
use Rattle.fc_receive.specs.Firing.{Firing}
use Rattle.fc_pool.specs.Pooled.{PooledIngress}
use Rattle.fc_service.proofs.laws.the_order_has_the_dispatchers_calls.Goals as goal

pub returns-clause-reported : goal.returns-clause-reported
returns-clause-reported g c = λ first every workers limit persistent start stored before after replies w.
    subst (λ (d : PooledIngress Tallies). HaveLegalOrder start (logs_of w.shares d.done.share) w.closed) w.run.last_is w.order

pub returns-clause-timed : goal.returns-clause-timed
returns-clause-timed g c = λ first t ts workers limit persistent start stored before after replies w.
    subst (λ (d : PooledIngress Tallies). HaveLegalOrder start (logs_of w.shares d.done.share) w.closed) w.run.last_is w.order

pub returns-clause-both : goal.returns-clause-both
returns-clause-both g c = λ first t ts every workers limit persistent start stored before after replies w.
    subst (λ (d : PooledIngress Tallies). HaveLegalOrder start (logs_of w.shares d.done.share) w.closed)
    (w.run.last_is ∙ ap (λ (f : Firing (PooledIngress Tallies)). f.ingress) w.run.run.last_is) w.order
