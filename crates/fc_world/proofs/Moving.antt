-- A server's call for an event changes task `k` as the event changes job `k`.
use Rattle.std.proofs.Common.{◌≡◌, ℕ, ◌<◌, List, Option, Some, length, get_or, set, refl, ◌∙◌}
use Rattle.std.proofs.lemmas.List.{get_or_default}
use Rattle.coap_msg.specs.declared.types.Emission.{Emission}
use Rattle.fc_core.specs.declared.event.Event.{Event}
use Rattle.fc_core.specs.declared.stage.Task.{Task}
use Rattle.fc_core.specs.History.{no_task, task_at}
use Rattle.fc_core.specs.Transitions.{names}
use Rattle.fc_server.specs.Serving.{with_tasks}
use Rattle.fc_server.specs.States.{ServerState, Works}
use Rattle.fc_server.specs.Steps.{Done}
use Rattle.fc_server.proofs.Others.{works_done}

-- if a list has more than `k` tasks, the task at place `k` is the task of job `k`.
task_is : (tasks : List Task) (k : ℕ) (was : Task) → k < length tasks → was ≡ get_or tasks k was → was ≡ task_at tasks k
task_is tasks k was lt is = is ∙ get_or_default tasks k was no_task lt

-- a server's call for an event of job `k` is the event's effect, with `later` in place of task `k`.
pub works_moves : (out : Option Emission) (e : Event) (k : ℕ) → names e ≡ Some k → (old new : ServerState) (tasks : List Task) (was later : Task) → k < length tasks → was ≡ get_or tasks k was → Works e old was new later out → Done e (with_tasks old tasks) out (with_tasks new (set tasks k later))
works_moves out e k named old new tasks was later lt is d = works_done e k named old new tasks (set tasks k later) was later out (task_is tasks k was lt is) refl d
