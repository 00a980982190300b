use Rattle.std.proofs.Common.{◌≡◌, ◌-◌, List, ap, subst, sym}
use Rattle.std.specs.List.{All}
use Rattle.std.specs.Prelude.{vec_len}
use Rattle.std.proofs.lemmas.List.Elements.{All-take}
use Rattle.fc_jobs.specs.Ends.{Got, nothing_got}
use Rattle.fc_backend.specs.Messages.{TrackedJob}
use Rattle.fc_workers.specs.Workers.{WorkerSeed}
use Rattle.fctrace.proofs.threads.run_threads.Goals as goal

-- each seat that is left has received no job yet.
pub run_seated-requires-clause-seats : goal.run_seated-requires-clause-seats
run_seated-requires-clause-seats g c =
    let jobs = c.in_ok-jobs.jobs in
    let seats = c.in_ok-jobs.seats in
    let left = subst (λ (l : List (WorkerSeed _)). All (λ (s : WorkerSeed _). s.got ≡ nothing_got jobs) l) (sym c.pop.ensures.rest)
    (All-take (λ (s : WorkerSeed _). s.got ≡ nothing_got jobs) (vec_len seats - 1) seats.items c.in_ok-jobs.ensures.seats.got) in
    λ lifetimes bounds k d lt. ap (λ (x : Got TrackedJob). x.channel) (left k d lt)
