use Rattle.std.proofs.Common.{◌≡◌, ◌∙◌, ℕ, ap, length}
use Rattle.fc_backend.specs.Called.{CountsObservers}
use Rattle.fc_pool.specs.Pooled.{PooledIngress}
use Rattle.fc_server.proofs.Counted.{of_eight}
use Rattle.fc_pool.proofs.pool.PooledIngressIngress.gauges.Goals as goal

same_sent : {T : Type 0} (count : ℕ) (inside seen : PooledIngress T) → inside ≡ seen → count ≡ length inside.done.sent.sent → count ≡ length seen.done.sent.sent
same_sent {T} count inside seen is told = told ∙ ap (λ (d : PooledIngress T). length d.done.sent.sent) is

pub returns : goal.returns
returns g c = record {
  front = c.gauges.ensures;
  observers = of_eight (λ shard counts. g.B.Bench.called (CountsObservers shard counts))
      c.observer_counts.result c.observer_counts-2.result c.observer_counts-3.result c.observer_counts-4.result
      c.observer_counts-5.result c.observer_counts-6.result c.observer_counts-7.result c.observer_counts-8.result
      c.observer_counts.ensures c.observer_counts-2.ensures c.observer_counts-3.ensures c.observer_counts-4.ensures
      c.observer_counts-5.ensures c.observer_counts-6.ensures c.observer_counts-7.ensures c.observer_counts-8.ensures;
  offloaded = same_sent _ _ _ c.self.view_is c.offloaded.ensures;
}
