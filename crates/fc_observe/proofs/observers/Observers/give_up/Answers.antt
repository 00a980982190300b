use Rattle.std.proofs.Common.{[], ◌∷◌, sym, ap, ◌∙◌}
use Rattle.fc_observe.specs.declared.entry.Entry.{Entry}
use Rattle.fc_observe.specs.Entries.{given_up}
use Rattle.fc_observe.specs.Observers.{ObserverList, turn_given_up}
use Rattle.fc_observe.proofs.Places.{none_changed, out_changed}
use Rattle.fc_observe.proofs.observers.Observers.give_up.Goals as goal

pub returns-in-Some : goal.returns-in-Some
returns-in-Some c =
    let change = λ (l : ObserverList) (o : Entry). given_up l.time o ∷ [] in
    let made = ap (λ (o : Entry). o ∷ []) (sym c.give_up.ensures) in
    out_changed c.args.turn _ _ c.self.view_is change c.in-Some.place c.index_mut.result.now c.give_up.new.self c.in-Some.ensures.place
    c.index_mut.ensures.value made
    ∙ ap (turn_given_up c.args.turn) c.advance.ensures

pub returns-in_default : goal.returns-in_default
returns-in_default c =
    let change = λ (o : Entry). given_up c.advance.new.self.time o ∷ [] in
    none_changed c.args.turn change _ c.in_default.ensures.place
    ∙ ap (turn_given_up c.args.turn) c.advance.ensures
