use Rattle.std.proofs.Common.{◌≡◌, ◌⊎◌, ◌∙◌, ℕ, ◌≤◌, Bool, true, false, Option, Some, None, arith, ap, inl, inr, refl, subst, sym}
use Rattle.std.specs.Prelude.{◌&&◌, if◌then◌else◌, is_none}
use Rattle.fc_front.specs.Timers.{timer_job}
use Rattle.fc_help.specs.Request.{Request}
use Rattle.fc_help.specs.declared.request.Method.TheVariants.{Get}
use Rattle.fc_registry.specs.Calls.{is_post}
use Rattle.fc_ticket.specs.declared.job.Ask.{Ask}
use Rattle.fc_ticket.specs.declared.job.Ask.TheVariants.{Describe, Install, Remove, Run}
use Rattle.fc_ticket.specs.declared.job.Job.{Job}
use Rattle.fc_backend.specs.Called.{FindsSaving}
use Rattle.fc_workers.specs.Views.{WorkerView, worker_view}
use Rattle.fc_workers.specs.Dispatch.{HasLeastCost, HasReadCost, IsHeldUp, MayGo, ReadsSlot, may_change_slot, requests_change, unsent}
use Rattle.fc_backend.specs.Logs.{TrackedLog}
use Rattle.fc_workers.specs.Steps.{AsksRun}
use Rattle.fc_workers.specs.Work.{IsReplied}
use Rattle.fc_workers.specs.declared.dispatcher.Offload.TheVariants.{ChangesAndExpensive}
use Rattle.fc_workers.proofs.laws.changes_go_to_workers.Goals as goal

-- a request's job may change its slot if its action may.
change_of : (job : Job) (ask : Ask) → job.turn ≡ None → job.ask ≡ ask → requests_change ask ≡ true → may_change_slot job ≡ true
change_of job ask turn is change = ap (λ (t : Option ℕ). is_none t && requests_change job.ask) turn ∙ (ap requests_change is ∙ change)

no_change : (turn : Option ℕ) (b : Bool) → b ≡ false → (is_none turn && b) ≡ false
no_change None b is = is
no_change (Some number) b is = refl

-- a GET changes no slot.
get_of : (job : Job) (request : Request) → job.ask ≡ Run request → request.method ≡ Get → may_change_slot job ≡ false
get_of job request is get = no_change job.turn (requests_change job.ask) (ap requests_change is ∙ ap is_post get)

-- the least cost of a job for which it is known whether it may change its slot.
abbrev HasCost : {T : Type 0} → WorkerView T → Job → TrackedLog → TrackedLog → Bool → Type 0
HasCost s job before after b = HasLeastCost s (if b then None else Some 6000) job before after

goes : {T : Type 0} (s : WorkerView T) (job : Job) (log : TrackedLog) → may_change_slot job ≡ true → MayGo s (ChangesAndExpensive 6000) job log log
goes s job log may = inr (subst (HasCost s job log log) (sym may) refl)

-- a job that changes no slot goes by its cost, or since a save holds it up.
goes_by : {T : Type 0} (s : WorkerView T) (job : Job) (before after : TrackedLog) → may_change_slot job ≡ false
    → MayGo s (ChangesAndExpensive 6000) job before after
    → IsHeldUp s job before after ⊎ (cost : ℕ) × (6000 ≤ cost) × HasReadCost s job (Some cost) before after
goes_by s job before after unchanging (inl held) = inl held
goes_by s job before after unchanging (inr may) = inr (subst (HasCost s job before after) unchanging may)

-- a job that describes a program goes only since a save holds it up.
describes : {T : Type 0} (s : WorkerView T) (job : Job) (before after : TrackedLog) → job.ask ≡ Describe
    → IsHeldUp s job before after ⊎ (cost : ℕ) × (6000 ≤ cost) × HasReadCost s job (Some cost) before after
    → s.bench (FindsSaving job.origin.slot) × (after ≡ before)
describes s job before after is (inl held) = (held.1, held.2)
describes s job before after is (inr read) = absurd (subst AsksRun is read.2.asks)

-- a job for which nothing was read.
unread : {T : Type 0} (s : WorkerView T) (before after : TrackedLog)
    → MayGo s (ChangesAndExpensive 6000) (timer_job 5) before after → after ≡ before
unread s before after (inl held) = held.2
unread s before after (inr is) = is

pub returns-clause-post : goal.returns-clause-post
returns-clause-post g c = λ log. inr refl

pub returns-clause-install : goal.returns-clause-install
returns-clause-install g c = λ job image initial log turn is.
    let s = worker_view g.B.Bench.changes g.B.Bench.ended g.B.Bench.called g.B.Bench.logged g.M.TimeSource.is_time g.M.TimeSource.is_random g.G.Gate.passed g.G.Gate.answered g.W.Wire.called in
    goes s job log (change_of job (Install image initial) turn is refl)

pub returns-clause-removal : goal.returns-clause-removal
returns-clause-removal g c = λ job log turn is.
    let s = worker_view g.B.Bench.changes g.B.Bench.ended g.B.Bench.called g.B.Bench.logged g.M.TimeSource.is_time g.M.TimeSource.is_random g.G.Gate.passed g.G.Gate.answered g.W.Wire.called in
    goes s job log (change_of job Remove turn is refl)

pub returns-clause-unread : goal.returns-clause-unread
returns-clause-unread g c =
    let s = worker_view g.B.Bench.changes g.B.Bench.ended g.B.Bench.called g.B.Bench.logged g.M.TimeSource.is_time g.M.TimeSource.is_random g.G.Gate.passed g.G.Gate.answered g.W.Wire.called in
    unread s

pub returns-clause-here : goal.returns-clause-here
returns-clause-here g c = λ before after is.
    let s = worker_view g.B.Bench.changes g.B.Bench.ended g.B.Bench.called g.B.Bench.logged g.M.TimeSource.is_time g.M.TimeSource.is_random g.G.Gate.passed g.G.Gate.answered g.W.Wire.called in
    subst (λ (log : TrackedLog). IsReplied s unsent (timer_job 5) (record before.share { log = log }) after.share) is.stays is.worked

pub returns-clause-expensive : goal.returns-clause-expensive
returns-clause-expensive g c = λ job request before after is get read.
    let s = worker_view g.B.Bench.changes g.B.Bench.ended g.B.Bench.called g.B.Bench.logged g.M.TimeSource.is_time g.M.TimeSource.is_random g.G.Gate.passed g.G.Gate.answered g.W.Wire.called in
    inr (subst (HasCost s job before after) (sym (get_of job request is get)) (6000, omega arith, read))

pub returns-clause-held : goal.returns-clause-held
returns-clause-held g c = λ job request log is found. inl (subst ReadsSlot (sym is) tt, found, refl)

pub returns-clause-cheap : goal.returns-clause-cheap
returns-clause-cheap g c = λ job request before after is get may.
    let s = worker_view g.B.Bench.changes g.B.Bench.ended g.B.Bench.called g.B.Bench.logged g.M.TimeSource.is_time g.M.TimeSource.is_random g.G.Gate.passed g.G.Gate.answered g.W.Wire.called in
    goes_by s job before after (get_of job request is get) may

pub returns-clause-lease : goal.returns-clause-lease
returns-clause-lease g c = λ job number before after turn may.
    let s = worker_view g.B.Bench.changes g.B.Bench.ended g.B.Bench.called g.B.Bench.logged g.M.TimeSource.is_time g.M.TimeSource.is_random g.G.Gate.passed g.G.Gate.answered g.W.Wire.called in
    goes_by s job before after (ap (λ (t : Option ℕ). is_none t && requests_change job.ask) turn) may

pub returns-clause-described : goal.returns-clause-described
returns-clause-described g c = λ job before after is may.
    let s = worker_view g.B.Bench.changes g.B.Bench.ended g.B.Bench.called g.B.Bench.logged g.M.TimeSource.is_time g.M.TimeSource.is_random g.G.Gate.passed g.G.Gate.answered g.W.Wire.called in
    let unchanging = no_change job.turn (requests_change job.ask) (ap requests_change is) in
    describes s job before after is (goes_by s job before after unchanging may)

pub returns-clause-others : goal.returns-clause-others
returns-clause-others g c = λ job before after may. may
