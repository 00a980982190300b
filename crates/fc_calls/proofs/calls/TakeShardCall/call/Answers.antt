use Rattle.fc_calls.proofs.Confirming.{calls_confirm}
use Rattle.fc_calls.proofs.calls.TakeShardCall.call.Goals as goal

pub returns-clause-confirms : goal.returns-clause-confirms
returns-clause-confirms c = calls_confirm _ _ _ _ c.take_into.ensures.after
