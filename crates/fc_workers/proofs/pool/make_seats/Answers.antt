use Rattle.fc_workers.proofs.Seats.{new_seats}
use Rattle.fc_workers.proofs.pool.make_seats.Goals as goal

pub returns-clause-new_logs : goal.returns-clause-new_logs
returns-clause-new_logs g c = λ new. new_seats c.in_ok-seats.seats.items c.args.logs.items c.in_ok-seats.ensures.logs_are new
