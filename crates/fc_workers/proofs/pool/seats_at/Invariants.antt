use Rattle.std.proofs.Common.{◌≡◌, ◌+◌, ◌++◌, length}
use Rattle.std.specs.Prelude.{map, reverse, vec_len}
use Rattle.std.specs.List.{All}
use Rattle.fc_jobs.specs.Ends.{nothing_got}
use Rattle.fc_workers.proofs.pool.seats_at.Given as goal

abbrev pub invariant-loop-own : goal.invariant-loop-own
invariant-loop-own g l = All (λ x. x ≡ nothing_got l.fn.jobs) l.gots.items × (vec_len l.gots + length l.yielded ≡ vec_len l.initial.gots) × (vec_len l.logs + length l.yielded ≡ vec_len l.initial.logs) × All (λ s. s.got ≡ nothing_got l.fn.jobs) l.seats.items × (map (λ s. s.tallies) l.seats.items ≡ l.yielded) × (map (λ s. s.log) l.seats.items ++ reverse l.logs.items ≡ reverse l.initial.logs.items)
