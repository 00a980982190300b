use Rattle.fc_isa.specs.Encoding.{decoded_program}
use Rattle.fc_isa.proofs.Slot.{are_bytes}
use Rattle.fc_isa.proofs.First.{none_faultless}
use Rattle.fc_isa.proofs.Slots.{faultless_spell, length-insns_below}
use Rattle.std.proofs.Common.{length, ◌/◌}
use Rattle.fc_isa.proofs.laws.faultless_bytes_spell.Goals as goal

pub returns-clause-spells : goal.returns-clause-spells
returns-clause-spells c = λ h. faultless_spell c.args.bytes.now (are_bytes c.args.bytes.now c.type_inv.bytes) (none_faultless c.args.bytes.now h)

pub returns-clause-count : goal.returns-clause-count
unfolding decoded_program
returns-clause-count c = length-insns_below c.args.bytes.now (length c.args.bytes.now / 8)
