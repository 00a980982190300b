use Rattle.fc_registry.proofs.Rings.{rings_begin, rings_follow, zeros_begin}
use Rattle.fc_registry.proofs.laws.new_slots_have_full_rings.Goals as goal

pub returns-clause-ring : goal.returns-clause-ring
returns-clause-ring c = rings_follow

pub returns-clause-begins : goal.returns-clause-begins
returns-clause-begins c = rings_begin

pub returns-clause-zeros : goal.returns-clause-zeros
returns-clause-zeros c = zeros_begin
