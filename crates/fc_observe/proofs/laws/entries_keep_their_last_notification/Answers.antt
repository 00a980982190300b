use Rattle.std.proofs.Common.{◌+◌, Option, ap}
use Rattle.std.proofs.lemmas.Bool.{le-leb, leb-true}
use Rattle.fc_observe.specs.declared.entry.Entry.{Entry}
use Rattle.fc_observe.specs.Observers.{must_confirm_by}
use Rattle.fc_observe.proofs.Hearing.{confirm_after_is}
use Rattle.fc_observe.proofs.Notified.{last_kept}
use Rattle.fc_observe.proofs.laws.entries_keep_their_last_notification.Goals as goal

pub returns-clause-kept : goal.returns-clause-kept
returns-clause-kept c = last_kept

pub returns-clause-confirmable : goal.returns-clause-confirmable
returns-clause-confirmable c = λ confirm_after now o. (leb-true (o.confirmed + confirm_after) now, le-leb (o.confirmed + confirm_after) now)

pub returns-clause-turn : goal.returns-clause-turn
returns-clause-turn c = λ turn t o out. ap (λ (x : Option Entry). must_confirm_by x t.confirm_after t.time) out

pub returns-clause-same : goal.returns-clause-same
returns-clause-same c = confirm_after_is
