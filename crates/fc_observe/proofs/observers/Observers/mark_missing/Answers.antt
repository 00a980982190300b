use Rattle.std.proofs.Common.{[], ◌∷◌, sym, ap}
use Rattle.fc_observe.specs.declared.entry.Entry.{Entry}
use Rattle.fc_observe.specs.Entries.{missed}
use Rattle.fc_observe.specs.Observers.{ObserverList}
use Rattle.fc_observe.proofs.Places.{none_changed, out_changed}
use Rattle.fc_observe.proofs.observers.Observers.mark_missing.Goals as goal

pub returns-in-Some : goal.returns-in-Some
returns-in-Some c =
    let change = λ (l : ObserverList) (o : Entry). missed o ∷ [] in
    let made = ap (λ (o : Entry). o ∷ []) (sym c.mark_missing.ensures) in
    out_changed c.args.turn _ _ c.self.view_is change c.in-Some.place c.index_mut.result.now c.mark_missing.new.self c.in-Some.ensures.place
    c.index_mut.ensures.value made

pub returns-in_default : goal.returns-in_default
returns-in_default c =
    let change = λ (o : Entry). missed o ∷ [] in
    none_changed c.args.turn change _ c.in_default.ensures.place
