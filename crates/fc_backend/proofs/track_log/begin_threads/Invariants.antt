use Rattle.std.proofs.Common.{◌≡◌, ◌+◌}
use Rattle.std.specs.Prelude.{vec_len}
use Rattle.fc_backend.proofs.track_log.begin_threads.Given as goal

abbrev pub invariant-loop-thread : goal.invariant-loop-thread
invariant-loop-thread g l = (l.first ≡ record l.fn.first { next = 10 + l.thread }) × (vec_len l.began ≡ l.thread)
