use Rattle.fc_replay.proofs.Events.{replayed}
use Rattle.fc_replay.proofs.replay.replay_lines.Goals as goal

pub returns : goal.returns
returns g c = replayed c.args.begin.now c.args.list.now c.in_ok-lines.lines.items c.deref.result.now c.in_ok-events.events.items c.as_slice.result.now c.in_ok-world.world.emissions.items c.as_slice-2.result.now c.in_ok-world.world.shards.items c.as_slice-3.result.now _ _ _ c.in_ok-lines.ensures c.deref.ensures.value c.in_ok-events.ensures c.as_slice.ensures.value c.in_ok-world.ensures.count c.in_ok-world.ensures.legal c.in_ok-world.ensures.slots c.as_slice-2.ensures.value c.as_slice-3.ensures.value c.in_ok-print_emissions.ensures c.in_ok-print_slots.ensures
