use Rattle.std.proofs.Common.{◌≡◌, List, length, ◌∷◌, ◌++◌, []}
use Rattle.fc_core.specs.History.{History}
use Rattle.fc_core.specs.declared.stage.Task.{Task}
use Rattle.fc_server.specs.Serving.{Serves, peeked_below}
use Rattle.fc_server.proofs.engine.discover.Given as goal

-- after any history, the job has read the head words of the slots below this one. The job of the
-- task is unchanged.
abbrev pub invariant-loop-slot : goal.invariant-loop-slot
invariant-loop-slot l =
    ((h : History) (rest : List Task) → Serves h l.fn.server (rest ++ l.fn.task ∷ []) → Serves (peeked_below (length rest) l.slot h) l.server (rest ++ l.task ∷ []))
    × (l.task.job ≡ l.fn.task.job)
