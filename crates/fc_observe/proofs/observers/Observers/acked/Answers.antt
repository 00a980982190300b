use Rattle.std.proofs.Common.{◌≡◌, List, false, sym, ap, ◌∙◌}
use Rattle.std.specs.List.{list_any}
use Rattle.fc_observe.specs.declared.entry.Entry.{Entry}
use Rattle.fc_observe.specs.Entries.{acknowledged, has_last_id}
use Rattle.fc_observe.specs.Observers.{ObserverList, with_held}
use Rattle.fc_observe.proofs.Quiet.{none_each}
use Rattle.fc_observe.proofs.observers.Observers.acked.Goals as goal

pub returns-else-is_last_sent : goal.returns-else-is_last_sent
returns-else-is_last_sent c =
    let w = c.args.self.now in
    let p = has_last_id c.args.endpoint c.args.id in
    let none : list_any p w.held ≡ false =
    ap (λ (l : ObserverList). list_any p l.held) (sym c.self.view_is) ∙ (ap (list_any p) (sym c.deref.ensures.value) ∙ (sym c.is_last_sent.ensures
    ∙ c.if-is_last_sent.false)) in
    ap (λ (h : List Entry). with_held h w) (sym (none_each p acknowledged w.held none))
