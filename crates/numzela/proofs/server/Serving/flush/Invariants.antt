use Rattle.std.proofs.Common.{◌≡◌, []}
use Rattle.fc_server.proofs.FlushingSteps.{Steps}
use Rattle.fc_server.specs.SingleThread.{alone_calls}
use Rattle.numzela.proofs.server.Serving.flush.Given as goal

-- at least `taken` steps were taken; the steps sent nothing, and nothing was written
abbrev pub invariant-steps : goal.invariant-steps
invariant-steps l =
    (Steps alone_calls (λ es. es ≡ []) l.taken l.now l.fn.self.alone l.self.alone l.flushing) × (l.out ≡ l.fn.out)
