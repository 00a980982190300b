use Rattle.fc_ticket.proofs.Registering.{keeps_no_size, keeps_size}
use Rattle.fc_ticket.proofs.laws.registrations_store_the_block_size.Goals as goal

pub returns-clause-whole : goal.returns-clause-whole
returns-clause-whole c = keeps_no_size

pub returns-clause-size : goal.returns-clause-size
returns-clause-size c = keeps_size
