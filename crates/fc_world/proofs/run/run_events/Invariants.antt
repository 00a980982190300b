use Rattle.std.specs.Prelude.{[]}
use Rattle.fc_core.specs.History.{History}
use Rattle.fc_server.specs.Serving.{Serves}
use Rattle.fc_world.proofs.Running.{RunsTo}
use Rattle.fc_world.specs.Parts.{parts}
use Rattle.fc_world.proofs.run.run_events.Given as goal

abbrev pub invariant-loop-event : goal.invariant-loop-event
invariant-loop-event l = (h : History) → Serves h l.fn.first.server [] → RunsTo h l.events l.event-index l.emissions.items (parts l.state)
