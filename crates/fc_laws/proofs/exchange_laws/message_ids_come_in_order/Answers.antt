use Rattle.fc_laws.proofs.front.DrawnIds.{ids_apart, ids_free, ids_in_order}
use Rattle.fc_laws.proofs.exchange_laws.message_ids_come_in_order.Goals as goal

pub returns-clause-order : goal.returns-clause-order
returns-clause-order c = ids_in_order

pub returns-clause-apart : goal.returns-clause-apart
returns-clause-apart c = ids_apart

pub returns-clause-free : goal.returns-clause-free
returns-clause-free c = ids_free
