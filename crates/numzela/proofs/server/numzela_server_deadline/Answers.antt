use Rattle.std.proofs.Common.{refl, subst}
use Rattle.fc_server.specs.SingleThread.{StaysIdleAlone}
use Rattle.fc_server.specs.Flushing.{AreIdleUntil}
use Rattle.numzela.specs.declared.server.Serving.{Serving}
use Rattle.numzela.proofs.server.numzela_server_deadline.Goals as goal

-- the handle holds the same server as before the call
pub returns-clause-ok : goal.returns-clause-ok
returns-clause-ok c = λ _. (
  refl,
  record {
    before = c.in-Some.serving.value;
    held = search;
    holds = search;
    idle = subst (λ (s : Serving). AreIdleUntil (λ shard until. StaysIdleAlone shard s.alone until) c.idle_until.result) c.deref.ensures c.idle_until.ensures;
  },
)
