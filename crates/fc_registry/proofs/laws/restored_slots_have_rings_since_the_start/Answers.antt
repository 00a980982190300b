use Rattle.fc_registry.proofs.Rings.{rings_continue}
use Rattle.fc_registry.proofs.laws.restored_slots_have_rings_since_the_start.Goals as goal

pub returns : goal.returns
returns c = rings_continue
