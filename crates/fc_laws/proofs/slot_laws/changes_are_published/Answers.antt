use Rattle.fc_laws.proofs.slots.Changing.{changed_once, changes_are_published, only_changes_are_published}
use Rattle.fc_laws.proofs.slot_laws.changes_are_published.Goals as goal

pub returns-clause-once : goal.returns-clause-once
returns-clause-once c = changed_once

pub returns-clause-published : goal.returns-clause-published
returns-clause-published c = changes_are_published

pub returns-clause-only : goal.returns-clause-only
returns-clause-only c = only_changes_are_published
