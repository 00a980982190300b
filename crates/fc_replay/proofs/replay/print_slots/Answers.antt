use Rattle.fc_replay.proofs.Events.{tells_more}
use Rattle.fc_replay.proofs.replay.print_slots.Goals as goal

pub loop-number-preserved : goal.loop-number-preserved
loop-number-preserved g c = tells_more c.loop-number.number c.new-slot.result c.shard.result c.args.shards.now c.index-shards-shard.result c.slot_line.result _ _ _ c.requires c.new-slot.ensures c.shard.ensures.shard c.shard.ensures.limit c.index-shards-shard.is c.loop-number.invariant c.slot_line.ensures c.in_ok-print_slot.ensures
