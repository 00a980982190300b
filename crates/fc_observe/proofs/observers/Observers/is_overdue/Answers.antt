use Rattle.std.proofs.Common.{◌≡◌, true, Option, sym, ap, ◌∙◌}
use Rattle.std.specs.List.{position}
use Rattle.std.specs.Prelude.{is_some, max, not}
use Rattle.fc_observe.specs.declared.entry.Entry.{Entry}
use Rattle.fc_observe.specs.Entries.{is_overdue}
use Rattle.fc_observe.specs.Observers.{list_at_time, overdue_entry}
use Rattle.fc_observe.proofs.Places.{is_some-position, is_some-find}
use Rattle.fc_observe.proofs.Quiet.{none_overdue}
use Rattle.fc_observe.proofs.observers.Observers.is_overdue.Goals as goal

pub returns-then-not-is_at_rest : goal.returns-then-not-is_at_rest
returns-then-not-is_at_rest c =
    let overdue = is_overdue (max c.self.inside.time c.args.now) in
    let some : c.is_some.result ≡ is_some (position overdue c.self.inside.held.items) = cc in
    (some ∙ is_some-position overdue c.self.inside.held.items) ∙ (sym (is_some-find overdue c.self.inside.held.items)
    ∙ ap (λ l. is_some (overdue_entry (list_at_time c.args.now l))) c.self.view_is)

pub returns-else-not-is_at_rest : goal.returns-else-not-is_at_rest
returns-else-not-is_at_rest c =
    let rests : c.is_at_rest.result ≡ true = search c.if-not-is_at_rest.false in
    ap (λ b. not b) rests
    ∙ sym (ap (λ (o : Option Entry). is_some o) (none_overdue c.args.now c.self.inside.idle_for c.args.self.now (c.is_at_rest.ensures rests)))
