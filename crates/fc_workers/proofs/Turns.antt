-- A worker's jobs, one after the other.
use Rattle.std.proofs.Common.{◌≡◌, ℕ, List, [], ◌∷◌, ◌++◌, arith, refl, sym, ap, ◌∙◌}
use Rattle.std.specs.Prelude.{reverse}
use Rattle.std.proofs.lemmas.List.{append-nil, append_assoc}
use Rattle.std.proofs.lemmas.Grind.{reverse_onto}
use Rattle.fc_jobs.specs.Ends.{Got, with_got}
use Rattle.fc_jobs.specs.declared.protocol.Numbered.{Numbered}
use Rattle.fc_backend.specs.Messages.{TrackedJob}
use Rattle.fc_backend.specs.Statistics.{Share}
use Rattle.fc_workers.specs.Views.{WorkerView}
use Rattle.fc_workers.specs.Shares.{AreTurns, HasEnded, IsTurn}

no_turns : {T : Type 0} (first_job : ℕ) (worker_view : WorkerView T) (s : Share T) → AreTurns first_job worker_view [] s s
unfolding AreTurns
no_turns first_job worker_view s = refl

more_turns : {T : Type 0} (first_job : ℕ) (worker_view : WorkerView T) (ns : List (Numbered TrackedJob)) (n : Numbered TrackedJob) (before now after : Share T) → AreTurns first_job worker_view ns before now
    → IsTurn first_job worker_view n now after → AreTurns first_job worker_view (n ∷ ns) before after
unfolding AreTurns
more_turns first_job worker_view ns n before now after turns turn = (now, (turns, turn))

-- with unchanged statistics, a worker has received and ended no further job.
pub sets_out : {T : Type 0} (first_job : ℕ) (worker_view : WorkerView T) (s : Share T) → HasEnded first_job worker_view s s
sets_out first_job worker_view s = record {
  jobs = [];
  turns = no_turns first_job worker_view s;
  got = ap (λ (l : List (Numbered TrackedJob)). record s.got { got = l }) (sym (append-nil s.got.got));
  count = omega arith;
}

-- if a worker received and ended further jobs, and then ran one more, it received and ended all of
-- these.
pub turns_on : {T : Type 0} (first_job : ℕ) (worker_view : WorkerView T) (n : Numbered TrackedJob) (before now after : Share T) → HasEnded first_job worker_view before now → IsTurn first_job worker_view n now after
    → after.got ≡ with_got now.got n.number n.message → HasEnded first_job worker_view before after
turns_on first_job worker_view n before now after h turn got = record {
  jobs = n ∷ h.jobs;
  turns = more_turns first_job worker_view h.jobs n before now after h.turns turn;
  got = got ∙ (ap (λ (g : Got TrackedJob). with_got g n.number n.message) h.got ∙ ap (λ (l : List (Numbered TrackedJob)). record before.got { got = l })
      (append_assoc before.got.got (reverse h.jobs) (n ∷ []) ∙ ap (λ (l : List (Numbered TrackedJob)). before.got.got ++ l) (sym (reverse_onto h.jobs n []))));
  count = omega (arith, h.count, turn.ends);
}
