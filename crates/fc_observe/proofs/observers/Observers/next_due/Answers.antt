use Rattle.std.proofs.Common.{◌≡◌, ◌+◌, [], ◌∷◌, List, Bool, true, false, Some, None, sym, ap, ◌∙◌, arith}
use Rattle.std.specs.List.{position}
use Rattle.fc_observe.specs.declared.entry.Entry.{Entry}
use Rattle.std.specs.Prelude.{◌&&◌, nat_lt}
use Rattle.std.specs.List.{list_any}
use Rattle.std.proofs.lemmas.Bool.{and_right, lt-ltb}
use Rattle.fc_observe.specs.Entries.{is_due, with_turn}
use Rattle.fc_observe.specs.Observers.{ObserverList, gives_turn, next_turn, next_turn_by, turn_given, turn_given_by}
use Rattle.fc_observe.proofs.Places.{changed_there, first_passes, none_passes}
use Rattle.fc_observe.proofs.observers.Observers.next_due.Goals as goal

pub returns-in_err-place-clause-turn : goal.returns-in_err-place-clause-turn
returns-in_err-place-clause-turn c =
    let s = c.self.inside in
    let p = is_due s.time c.args.notify_serial in
    let at : position p s.held.items ≡ None = sym (ap (λ (l : List Entry). position p l) c.deref.ensures.value)
    ∙ (sym c.first_due.ensures.place ∙ c.in_err-place.was) in
    let none = none_passes p s.held.items at in
    let l : ObserverList = record { slot = s.slot; confirm_after = s.confirm_after; time = s.time; turns = s.turns; held = s.held.items } in
    let idle : gives_turn c.args.notify_serial l ≡ false = and_right (nat_lt s.turns 18446744073709551615) (list_any p s.held.items) none.any in
    c.from_residual.ensures ∙ (ap (λ (b : Bool). next_turn_by b l) (sym idle) ∙ ap (λ l. next_turn c.args.notify_serial l) (c.self.view_is ∙ c.advance.ensures))

pub returns-in_err-place-clause-after : goal.returns-in_err-place-clause-after
returns-in_err-place-clause-after c =
    let s = c.self.inside in
    let p = is_due s.time c.args.notify_serial in
    let at : position p s.held.items ≡ None = sym (ap (λ (l : List Entry). position p l) c.deref.ensures.value)
    ∙ (sym c.first_due.ensures.place ∙ c.in_err-place.was) in
    let none = none_passes p s.held.items at in
    let l : ObserverList = record { slot = s.slot; confirm_after = s.confirm_after; time = s.time; turns = s.turns; held = s.held.items } in
    let idle : gives_turn c.args.notify_serial l ≡ false = and_right (nat_lt s.turns 18446744073709551615) (list_any p s.held.items) none.any in
    sym c.self.view_is ∙ (ap (λ (b : Bool). turn_given_by b c.args.notify_serial l) (sym idle) ∙ ap (λ l. turn_given c.args.notify_serial l) (c.self.view_is
    ∙ c.advance.ensures))

pub returns-clause-turn : goal.returns-clause-turn
returns-clause-turn c =
    let s = c.self.inside in
    let p = is_due s.time c.args.notify_serial in
    let at : position p s.held.items ≡ Some c.in_ok-place.place = sym (ap (λ (l : List Entry). position p l) c.deref.ensures.value)
    ∙ (sym c.first_due.ensures.place ∙ c.in_ok-place.was) in
    let first = first_passes p s.held.items c.in_ok-place.place at in
    let l : ObserverList = record { slot = s.slot; confirm_after = s.confirm_after; time = s.time; turns = s.turns; held = s.held.items } in
    let few : nat_lt s.turns 18446744073709551615 ≡ true = lt-ltb s.turns 18446744073709551615 (omega arith) in
    let gives : gives_turn c.args.notify_serial l ≡ true = λ i. few i && first.any i in
    ap (λ (b : Bool). next_turn_by b l) (sym gives) ∙ ap (λ l. next_turn c.args.notify_serial l) (c.self.view_is ∙ c.advance.ensures)

pub returns-clause-after : goal.returns-clause-after
returns-clause-after c =
    let s = c.self.inside in
    let p = is_due s.time c.args.notify_serial in
    let at : position p s.held.items ≡ Some c.in_ok-place.place = sym (ap (λ (l : List Entry). position p l) c.deref.ensures.value)
    ∙ (sym c.first_due.ensures.place ∙ c.in_ok-place.was) in
    let first = first_passes p s.held.items c.in_ok-place.place at in
    let l : ObserverList = record { slot = s.slot; confirm_after = s.confirm_after; time = s.time; turns = s.turns; held = s.held.items } in
    let few : nat_lt s.turns 18446744073709551615 ≡ true = lt-ltb s.turns 18446744073709551615 (omega arith) in
    let gives : gives_turn c.args.notify_serial l ≡ true = λ i. few i && first.any i in
    let list = λ (h : List Entry). let n : ObserverList = record { slot = s.slot; confirm_after = s.confirm_after; time = s.time; turns = s.turns + 1; held = h } in n in
    let made = ap (λ (o : Entry). o ∷ []) (sym c.take_turn.ensures) in
    ap list (changed_there p
    (λ o. with_turn s.turns s.time o ∷ []) s.held.items c.in_ok-place.place c.index_mut.result.now c.take_turn.new.self first c.index_mut.ensures.value made)
    ∙ (ap (λ (b : Bool). turn_given_by b c.args.notify_serial l) (sym gives) ∙ ap (λ l. turn_given c.args.notify_serial l) (c.self.view_is ∙ c.advance.ensures))
