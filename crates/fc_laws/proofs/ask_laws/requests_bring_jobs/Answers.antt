use Rattle.fc_laws.proofs.front.Asking.{jobs_come}
use Rattle.fc_laws.proofs.ask_laws.requests_bring_jobs.Goals as goal

pub returns : goal.returns
returns c = jobs_come
