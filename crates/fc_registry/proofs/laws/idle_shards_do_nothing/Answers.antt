use Rattle.fc_registry.proofs.Quiet.{nobody_is_due, ticks_nothing}
use Rattle.fc_registry.proofs.laws.idle_shards_do_nothing.Goals as goal

pub returns : goal.returns
returns c = record { tick = ticks_nothing; due = nobody_is_due }
