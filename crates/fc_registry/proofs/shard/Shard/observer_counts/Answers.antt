use Rattle.std.proofs.Common.{◌≡◌, ◌∙◌, ℕ, List, ap}
use Rattle.fc_observe.specs.Observers.{ObserverList}
use Rattle.fc_registry.specs.Watches.{observer_counts}
use Rattle.fc_registry.proofs.Counted.{count_in, counted}
use Rattle.fc_registry.proofs.shard.Shard.observer_counts.Goals as goal

pub returns : goal.returns
returns c =
    let ws = c.self.inside.watches.items in
    let at : (seen : List ObserverList) (k n : ℕ) → seen ≡ ws → n ≡ count_in seen k → n ≡ count_in ws k = λ seen k n is e. e ∙ ap (λ (l : List ObserverList). count_in l k) is in
    counted ws c.count_at.result c.count_at-2.result c.count_at-3.result c.count_at-4.result c.count_at-5.result c.count_at-6.result c.count_at-7.result c.count_at-8.result
    c.self.invariant.2
    (at _ 0 _ c.deref.ensures.value c.count_at.ensures) (at _ 1 _ c.deref-2.ensures.value c.count_at-2.ensures)
    (at _ 2 _ c.deref-3.ensures.value c.count_at-3.ensures) (at _ 3 _ c.deref-4.ensures.value c.count_at-4.ensures)
    (at _ 4 _ c.deref-5.ensures.value c.count_at-5.ensures) (at _ 5 _ c.deref-6.ensures.value c.count_at-6.ensures)
    (at _ 6 _ c.deref-7.ensures.value c.count_at-7.ensures) (at _ 7 _ c.deref-8.ensures.value c.count_at-8.ensures)
    ∙ ap observer_counts c.self.view_is
