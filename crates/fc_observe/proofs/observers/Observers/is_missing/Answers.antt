use Rattle.std.proofs.Common.{Option, sym, ap, ◌∙◌}
use Rattle.fc_observe.specs.declared.entry.Entry.{Entry}
use Rattle.fc_observe.specs.Observers.{is_missing_by}
use Rattle.fc_observe.proofs.Places.{none_out, out_there}
use Rattle.fc_observe.proofs.observers.Observers.is_missing.Goals as goal

pub returns-in-Some : goal.returns-in-Some
returns-in-Some c =
    let found = out_there c.args.turn _ _ c.self.view_is c.in-Some.place c.index.result.now c.in-Some.ensures.place c.index.ensures in
    c.has_missed.ensures ∙ sym (ap (λ (o : Option Entry). is_missing_by o) found)

pub returns-in-None : goal.returns-in-None
returns-in-None c = sym (ap (λ (o : Option Entry). is_missing_by o) (none_out c.args.turn c.args.self.now c.in-None.ensures.place))
