use Rattle.fc_registry.proofs.Tickets.{of_its_job}
use Rattle.fc_registry.proofs.laws.tickets_are_of_their_jobs.Goals as goal

pub returns : goal.returns
returns c = of_its_job
