use Rattle.std.proofs.Common.{Option, Some, sym, ap, ◌∙◌}
use Rattle.std.specs.Option.{option_map}
use Rattle.fc_observe.specs.declared.entry.Entry.{Entry}
use Rattle.fc_observe.specs.Entries.{must_confirm}
use Rattle.fc_observe.specs.Observers.{ObserverList, must_confirm_by}
use Rattle.fc_observe.specs.Views.{Interest, interest, interest_of}
use Rattle.fc_observe.proofs.Places.{none_out, out_there}
use Rattle.fc_observe.proofs.observers.Observers.observer_out.Goals as goal

pub returns-in_err-place-clause-observer : goal.returns-in_err-place-clause-observer
returns-in_err-place-clause-observer c =
    ap (λ o. option_map interest o) c.from_residual.ensures
    ∙ sym (ap (λ o. option_map interest_of o) (none_out c.args.turn c.args.self.now c.in_err-place.ensures.place))

pub returns-clause-observer : goal.returns-clause-observer
returns-clause-observer c =
    let found = out_there c.args.turn _ _ c.self.view_is c.in_ok-place.place c.index.result.now c.in_ok-place.ensures.place c.index.ensures in
    ap (λ (x : Interest). Some x) c.observer.ensures.interest ∙ sym (ap (λ o. option_map interest_of o) found)

pub returns-clause-confirmable : goal.returns-clause-confirmable
returns-clause-confirmable c =
    let found = out_there c.args.turn _ _ c.self.view_is c.in_ok-place.place c.index.result.now c.in_ok-place.ensures.place c.index.ensures in
    c.observer.ensures.confirmable ∙ (ap (λ (l : ObserverList). must_confirm l.confirm_after l.time c.index.result.now) c.self.view_is
    ∙ sym (ap (λ (o : Option Entry). must_confirm_by o c.args.self.now.confirm_after c.args.self.now.time) found))
