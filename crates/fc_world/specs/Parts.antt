-- The parts of a world's state.
use Rattle.fc_server.specs.Agreement.{Parts}
use Rattle.fc_world.specs.declared.state.WorldState.{WorldState}

abbrev pub parts : WorldState → Parts
parts w = record { front = w.server.front; shards = w.server.shards; words = w.server.words; tasks = w.tasks.items }
