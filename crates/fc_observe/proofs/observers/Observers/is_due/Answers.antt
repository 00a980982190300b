use Rattle.std.proofs.Common.{◌≡◌, Bool, true, Option, sym, ap, ◌∙◌, arith}
use Rattle.std.specs.List.{position}
use Rattle.std.specs.Prelude.{◌&&◌, is_some, max, nat_lt}
use Rattle.std.specs.List.{list_any}
use Rattle.std.proofs.lemmas.Bool.{lt-ltb}
use Rattle.fc_observe.specs.Entries.{is_due}
use Rattle.fc_observe.specs.declared.entry.Turn.{Turn}
use Rattle.fc_observe.specs.Observers.{ObserverList, list_at_time, next_turn}
use Rattle.fc_observe.proofs.Places.{is_some-position, is_some-next_turn}
use Rattle.fc_observe.proofs.Quiet.{none_due}
use Rattle.fc_observe.proofs.observers.Observers.is_due.Goals as goal

pub returns-then-self : goal.returns-then-self
returns-then-self c =
    let due = is_due (max c.self.inside.time c.args.now) c.args.notify_serial in
    let some : c.is_some.result ≡ is_some (position due c.self.inside.held.items) = cc in
    let few : nat_lt c.self.inside.turns 18446744073709551615 ≡ true = lt-ltb c.self.inside.turns 18446744073709551615 (omega arith) in
    let l : ObserverList = record { slot = c.self.inside.slot; confirm_after = c.self.inside.confirm_after; time = c.self.inside.time; turns = c.self.inside.turns; held = c.self.inside.held.items } in
    (some ∙ is_some-position due c.self.inside.held.items)
    ∙ (ap (λ (b : Bool). b && list_any due c.self.inside.held.items) (sym few)
    ∙ (sym (is_some-next_turn c.args.notify_serial (list_at_time c.args.now l))
    ∙ ap (λ l. is_some (next_turn c.args.notify_serial (list_at_time c.args.now l))) c.self.view_is))

pub returns-then-is_at_rest : goal.returns-then-is_at_rest
returns-then-is_at_rest c =
    sym (ap (λ (o : Option Turn). is_some o) (none_due c.args.now c.args.notify_serial c.args.self.now (c.is_at_rest.ensures c.if-is_at_rest.true)))
