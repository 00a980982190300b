use Rattle.std.proofs.Common.{subst}
use Rattle.fc_calls.specs.Logged.{HandsSignal}
use Rattle.fc_workers.specs.Dispatch.{AreSignalled}
use Rattle.fc_backend.specs.Logs.{TrackedLog}
use Rattle.fc_workers.proofs.laws.signals_reach_eight_shards.Goals as goal

pub returns : goal.returns
unfolding AreSignalled
returns g c offload from id reset old new w =
    let w7 = w.0 in
    let w6 = w7.1 in
    let w5 = w6.1 in
    let w4 = w5.1 in
    let w3 = w4.1 in
    let w2 = w3.1 in
    let w1 = w2.1 in
    let w0 = w1.1 in (
      w1.0,
      w2.0,
      w3.0,
      w4.0,
      w5.0,
      w6.0,
      w7.0,
      subst (λ (log : TrackedLog). g.B.Bench.logged (HandsSignal 0 from id reset) log w1.0) w0.1 w0.2,
      w1.2,
      w2.2,
      w3.2,
      w4.2,
      w5.2,
      w6.2,
      w7.2,
    )
