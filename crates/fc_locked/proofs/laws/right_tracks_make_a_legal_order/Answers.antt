use Rattle.fc_locked.proofs.LegalOrder.{order_is_legal, order_is_right}
use Rattle.fc_locked.proofs.laws.right_tracks_make_a_legal_order.Goals as goal

pub returns-clause-history : goal.returns-clause-history
returns-clause-history c = order_is_legal

pub returns-clause-right : goal.returns-clause-right
returns-clause-right c = order_is_right
