use Rattle.fc_ticket.proofs.JobTickets.{ticket_is}
use Rattle.fc_ticket.proofs.laws.tickets_have_the_data_of_their_jobs.Goals as goal

pub returns : goal.returns
returns c = ticket_is
