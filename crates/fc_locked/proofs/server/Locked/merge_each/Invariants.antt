use Rattle.std.proofs.Common.{◌≡◌, ◌+◌, ◌++◌}
use Rattle.std.specs.Prelude.{vec_len}
use Rattle.std.specs.List.{All}
use Rattle.fc_locked.proofs.Merged.{HasOwn, shared_tracks}
use Rattle.fc_locked.proofs.server.Locked.merge_each.Given as goal

abbrev pub invariant-loop-worker : goal.invariant-loop-worker
invariant-loop-worker g l = (l.unassigned.parts + vec_len l.workers ≡ l.initial.unassigned.parts + vec_len l.initial.workers)
    × (shared_tracks l.workers.items ++ l.tracks.own ≡ shared_tracks l.initial.workers.items ++ l.initial.tracks.own)
    × (All (HasOwn g.B.Books.first_job) l.workers.items → All (HasOwn g.B.Books.first_job) l.initial.workers.items)

abbrev pub decreases-loop-worker : goal.decreases-loop-worker
decreases-loop-worker g l = vec_len l.workers
