use Rattle.std.proofs.Common.{Option, sym, ap, ◌∙◌}
use Rattle.fc_observe.specs.declared.entry.Entry.{Entry}
use Rattle.fc_observe.specs.Entries.{must_confirm}
use Rattle.fc_observe.specs.Observers.{ObserverList, must_confirm_by}
use Rattle.fc_observe.proofs.Places.{none_out, out_there}
use Rattle.fc_observe.proofs.observers.Observers.must_confirm.Goals as goal

pub returns-in-Some : goal.returns-in-Some
returns-in-Some c =
    let found = out_there c.args.turn _ _ c.self.view_is c.in-Some.place c.index.result.now c.in-Some.ensures.place c.index.ensures in
    c.must_confirm.ensures ∙ (ap (λ (l : ObserverList). must_confirm l.confirm_after l.time c.index.result.now) c.self.view_is
    ∙ sym (ap (λ (o : Option Entry). must_confirm_by o c.args.self.now.confirm_after c.args.self.now.time) found))

pub returns-in-None : goal.returns-in-None
returns-in-None c = sym (ap (λ (o : Option Entry). must_confirm_by o c.args.self.now.confirm_after c.args.self.now.time) (none_out c.args.turn c.args.self.now c.in-None.ensures.place))
