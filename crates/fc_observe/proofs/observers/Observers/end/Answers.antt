use Rattle.std.proofs.Common.{[], List, ap, ◌∙◌}
use Rattle.fc_observe.specs.declared.entry.Entry.{Entry}
use Rattle.fc_observe.specs.Observers.{ObserverList, with_held}
use Rattle.fc_observe.proofs.Places.{none_changed, out_removed}
use Rattle.fc_observe.proofs.observers.Observers.end.Goals as goal

pub returns-in-Some : goal.returns-in-Some
returns-in-Some c =
    let s = c.self.inside in
    let v : ObserverList = record { slot = s.slot; confirm_after = s.confirm_after; time = s.time; turns = s.turns; held = s.held.items } in
    ap (λ (h : List Entry). with_held h v) c.remove-removed.ensures.items
    ∙ out_removed c.args.turn v _ c.self.view_is c.in-Some.place c.remove-removed.result c.in-Some.ensures.place c.remove-removed.ensures.value

pub returns-in_default : goal.returns-in_default
returns-in_default c = none_changed c.args.turn (λ (o : Entry). []) _ c.in_default.ensures.place
