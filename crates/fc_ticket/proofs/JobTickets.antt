-- The ticket of a job has the job's data.
use Rattle.std.proofs.Common.{ℕ, List, refl, ap}
use Rattle.fc_ticket.specs.declared.job.Job.{Job}
use Rattle.fc_ticket.specs.Laws.{IsTicketOfJob}
use Rattle.fc_ticket.specs.Runs.{request_of, ticket_of}
use Rattle.fc_ticket.specs.Tickets.{Present}

pub ticket_is : (job : Job) (readings : List ℕ) (serial : ℕ) (p : Present) → IsTicketOfJob job (ticket_of job readings serial p)
ticket_is job readings serial p = record {
  origin = refl;
  turn = refl;
  token = refl;
  block = refl;
  observe = refl;
  request = λ request asks. ap request_of asks;
}
