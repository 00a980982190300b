use Rattle.std.proofs.Common.{List, sym, subst}
use Rattle.fc_registry.specs.Slots.{Shard}
use Rattle.fc_world.proofs.Running.{has_run, runs_on, starts}
use Rattle.fc_world.specs.Parts.{parts}
use Rattle.fc_world.specs.Runs.{EndsWith}
use Rattle.fc_world.proofs.run.run_events.Goals as goal

pub loop-event-init : goal.loop-event-init
loop-event-init c h serves = starts h c.args.events.now c.new-emissions.result.items c.args.first.server c.args.first.tasks.items c.new-emissions.ensures.items serves c.requires.none

pub step-requires : goal.step-requires
step-requires c = record { seen = _; agrees = (c.loop-event.invariant c.requires.begun.0 c.requires.begun.1).agrees }

pub loop-event-preserved : goal.loop-event-preserved
loop-event-preserved c h serves =
    runs_on h c.args.events.now c.loop-event.event-index _ c.loop-event.emissions.items _ _ (parts c.loop-event.state) _ c.loop-event-test.true (c.loop-event.invariant h serves) c.in_ok-push.ensures.items
    (c.in_ok-emitted.ensures _ (c.loop-event.invariant h serves).agrees)

pub returns : goal.returns
returns c h serves =
    subst (EndsWith h c.args.events.now c.loop-event.emissions.items) (sym c.into_shards.ensures)
    (has_run (c.loop-event.invariant h serves) c.loop-event.auto.event-index-end c.loop-event-test.false)
