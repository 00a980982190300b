use Rattle.std.proofs.Common.{[], ◌∷◌, sym, ap, ◌∙◌}
use Rattle.fc_observe.specs.declared.entry.Entry.{Entry}
use Rattle.fc_observe.specs.Entries.{notified}
use Rattle.fc_observe.specs.Observers.{ObserverList, turn_notified}
use Rattle.fc_observe.proofs.Places.{none_changed, out_changed}
use Rattle.fc_observe.proofs.observers.Observers.sent.Goals as goal

pub returns-in-Some : goal.returns-in-Some
returns-in-Some c =
    let change = λ (l : ObserverList) (o : Entry). notified l.confirm_after l.time c.args.id c.args.serial c.args.random c.args.bytes.now o ∷ [] in
    let made = ap (λ (o : Entry). o ∷ []) (sym c.notify.ensures) in
    out_changed c.args.turn _ _ c.self.view_is change c.in-Some.place c.index_mut.result.now c.notify.new.self c.in-Some.ensures.place
    c.index_mut.ensures.value made
    ∙ ap (turn_notified c.args.turn c.args.id c.args.serial c.args.random c.args.bytes.now) c.advance.ensures

pub returns-in_default : goal.returns-in_default
returns-in_default c =
    let change = λ (o : Entry). notified c.advance.new.self.confirm_after c.advance.new.self.time c.args.id c.args.serial c.args.random c.args.bytes.now o ∷ [] in
    none_changed c.args.turn change _ c.in_default.ensures.place
    ∙ ap (turn_notified c.args.turn c.args.id c.args.serial c.args.random c.args.bytes.now) c.advance.ensures
