use Rattle.std.specs.Prelude.{◌+◌, length}
use Rattle.fc_filed.proofs.Recovered.{finds_history}
use Rattle.fc_backend.specs.Messages.{first_brought}
use Rattle.fc_locked.proofs.laws.starts_find_the_saved_order.Goals as goal

pub returns : goal.returns
returns g c = λ first stored logs closed order before earlier later persistent serves begins is.
    finds_history g.S.Store (10 + length logs) (first_brought (10 + length logs)) first _ stored earlier later before closed.shards order.legal.order.calls persistent serves order.legal.right order.legal.order.keyed begins order.saved is
