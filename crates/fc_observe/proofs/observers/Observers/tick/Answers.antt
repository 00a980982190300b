use Rattle.std.proofs.Common.{◌≡◌, [], ◌∷◌, List, Option, Some, None, sym, ap, ◌∙◌}
use Rattle.std.specs.List.{position}
use Rattle.fc_observe.specs.declared.entry.Entry.{Entry}
use Rattle.std.specs.Prelude.{is_some}
use Rattle.coap_msg.specs.declared.types.Emission.{Emission}
use Rattle.fc_observe.specs.Entries.{changed_if, is_overdue, retransmission, retransmitted, timed_out, timed_out_by}
use Rattle.fc_observe.specs.Observers.{ObserverList, after_tick, ticked, ticked_at, ticked_by}
use Rattle.fc_observe.proofs.Places.{changed_there, first_passes, found_there, none_passes, remove-set, removed_there}
use Rattle.fc_observe.proofs.observers.Observers.tick.Goals as goal

pub returns-in_default-clause-answer : goal.returns-in_default-clause-answer
returns-in_default-clause-answer c =
    let s = c.self.inside in
    let p = is_overdue s.time in
    let at : position p s.held.items ≡ None = sym (ap (λ (l : List Entry). position p l) c.deref.ensures.value)
    ∙ (sym c.first_overdue.ensures.place ∙ c.in_default.is) in
    let none = none_passes p s.held.items at in
    sym (ap (λ o. ticked_at o) none.found) ∙ ap (λ l. ticked l) (c.self.view_is ∙ c.advance.ensures)

pub returns-in_default-clause-after : goal.returns-in_default-clause-after
returns-in_default-clause-after c =
    let s = c.self.inside in
    let p = is_overdue s.time in
    let at : position p s.held.items ≡ None = sym (ap (λ (l : List Entry). position p l) c.deref.ensures.value)
    ∙ (sym c.first_overdue.ensures.place ∙ c.in_default.is) in
    let none = none_passes p s.held.items at in
    let list = λ (h : List Entry). let l : ObserverList = record { slot = s.slot; confirm_after = s.confirm_after; time = s.time; turns = s.turns; held = h } in l in
    sym c.self.view_is ∙ (ap list (sym (none.change (λ o. timed_out s.time o))) ∙ ap (λ l. after_tick l) (c.self.view_is ∙ c.advance.ensures))

pub returns-in-Some-retransmit-clause-answer : goal.returns-in-Some-retransmit-clause-answer
returns-in-Some-retransmit-clause-answer c =
    let s = c.self.inside in
    let p = is_overdue s.time in
    let at : position p s.held.items ≡ Some c.in-Some.place = sym (ap (λ (l : List Entry). position p l) c.deref.ensures.value)
    ∙ (sym c.first_overdue.ensures.place ∙ c.in-Some.is) in
    let first = first_passes p s.held.items c.in-Some.place at in
    let x = c.index_mut.result.now in
    let found = found_there p s.held.items c.in-Some.place x first c.index_mut.ensures.value in
    let sent : retransmission x ≡ Some c.in-Some-retransmit.emission = sym c.retransmit.ensures.sent ∙ c.in-Some-retransmit.is in
    sym (ap (λ o. ticked_at o) found ∙ ap (λ e. ticked_by e) sent) ∙ ap (λ l. ticked l) (c.self.view_is ∙ c.advance.ensures)

pub returns-in-Some-retransmit-clause-after : goal.returns-in-Some-retransmit-clause-after
returns-in-Some-retransmit-clause-after c =
    let s = c.self.inside in
    let p = is_overdue s.time in
    let at : position p s.held.items ≡ Some c.in-Some.place = sym (ap (λ (l : List Entry). position p l) c.deref.ensures.value)
    ∙ (sym c.first_overdue.ensures.place ∙ c.in-Some.is) in
    let first = first_passes p s.held.items c.in-Some.place at in
    let x = c.index_mut.result.now in
    let sent : retransmission x ≡ Some c.in-Some-retransmit.emission = sym c.retransmit.ensures.sent ∙ c.in-Some-retransmit.is in
    let after : retransmitted s.time x ≡ c.retransmit.new.self = sym (c.retransmit.ensures.after
    ∙ ap (λ (e : Option Emission). changed_if (is_some e) (λ o. retransmitted s.time o) x) sent) in
    let made : timed_out s.time x ≡ c.retransmit.new.self ∷ [] = ap (λ (e : Option Emission). timed_out_by e s.time x) sent
    ∙ ap (λ (o : Entry). o ∷ []) after in
    let list = λ (h : List Entry). let l : ObserverList = record { slot = s.slot; confirm_after = s.confirm_after; time = s.time; turns = s.turns; held = h } in l in
    ap list (changed_there p (λ o. timed_out s.time o) s.held.items c.in-Some.place x c.retransmit.new.self first c.index_mut.ensures.value made)
    ∙ ap (λ l. after_tick l) (c.self.view_is ∙ c.advance.ensures)

pub returns-in-None-clause-answer : goal.returns-in-None-clause-answer
returns-in-None-clause-answer c =
    let s = c.self.inside in
    let p = is_overdue s.time in
    let at : position p s.held.items ≡ Some c.in-Some.place = sym (ap (λ (l : List Entry). position p l) c.deref.ensures.value)
    ∙ (sym c.first_overdue.ensures.place ∙ c.in-Some.is) in
    let first = first_passes p s.held.items c.in-Some.place at in
    let x = c.index_mut.result.now in
    let found = found_there p s.held.items c.in-Some.place x first c.index_mut.ensures.value in
    let over : retransmission x ≡ None = sym c.retransmit.ensures.sent ∙ c.in-None.is in
    sym (ap (λ o. ticked_at o) found ∙ ap (λ e. ticked_by e) over) ∙ ap (λ l. ticked l) (c.self.view_is ∙ c.advance.ensures)

pub returns-in-None-clause-after : goal.returns-in-None-clause-after
returns-in-None-clause-after c =
    let s = c.self.inside in
    let p = is_overdue s.time in
    let at : position p s.held.items ≡ Some c.in-Some.place = sym (ap (λ (l : List Entry). position p l) c.deref.ensures.value)
    ∙ (sym c.first_overdue.ensures.place ∙ c.in-Some.is) in
    let first = first_passes p s.held.items c.in-Some.place at in
    let x = c.index_mut.result.now in
    let over : retransmission x ≡ None = sym c.retransmit.ensures.sent ∙ c.in-None.is in
    let made : timed_out s.time x ≡ [] = ap (λ (e : Option Emission). timed_out_by e s.time x) over in
    let gone = removed_there p (λ o. timed_out s.time o) s.held.items c.in-Some.place x first c.index_mut.ensures.value made in
    let list = λ (h : List Entry). let l : ObserverList = record { slot = s.slot; confirm_after = s.confirm_after; time = s.time; turns = s.turns; held = h } in l in
    ap list (c.remove-removed.ensures.items ∙ (remove-set s.held.items c.in-Some.place c.retransmit.new.self ∙ gone))
    ∙ ap (λ l. after_tick l) (c.self.view_is ∙ c.advance.ensures)
