use Rattle.fc_calls.proofs.Confirming.{signal_confirms}
use Rattle.fc_calls.proofs.calls.SignalShardCall.call.Goals as goal

pub returns-clause-confirms : goal.returns-clause-confirms
returns-clause-confirms c = signal_confirms _ _ _ c.signal.ensures
