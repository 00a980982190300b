use Rattle.std.proofs.Common.{sym}
use Rattle.fc_isa.specs.Encoding.{encoded}
use Rattle.fc_isa.proofs.Slots.{written_spells, written_count, spelled_once}
use Rattle.fc_isa.proofs.laws.written_programs_are_read.Goals as goal

pub returns-clause-spells : goal.returns-clause-spells
returns-clause-spells c = written_spells c.args.program.now

pub returns-clause-read : goal.returns-clause-read
returns-clause-read c = λ a w. sym (spelled_once (encoded c.args.program.now) c.args.program.now (written_spells c.args.program.now a w))

pub returns-clause-count : goal.returns-clause-count
returns-clause-count c = written_count c.args.program.now
