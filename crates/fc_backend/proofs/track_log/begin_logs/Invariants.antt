use Rattle.std.proofs.Common.{◌≡◌, ◌+◌, length}
use Rattle.std.specs.Prelude.{vec_len}
use Rattle.std.specs.List.{All}
use Rattle.fc_backend.specs.Logs.{IsNewLog}
use Rattle.fc_backend.proofs.track_log.begin_logs.Given as goal

abbrev pub invariant-loop-thread : goal.invariant-loop-thread
invariant-loop-thread g l = (l.first ≡ record l.fn.first { next = g.J.ServerName.first_job + length l.yielded }) × (vec_len l.logs ≡ length l.yielded) × All IsNewLog l.logs.items
