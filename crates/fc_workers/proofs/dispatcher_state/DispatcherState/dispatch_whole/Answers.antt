use Rattle.std.proofs.Common.{◌∙◌, ◌+◌, ℕ, Bool, ap, inr, subst, sym}
use Rattle.std.specs.Prelude.{MatchBool}
use Rattle.fc_ticket.specs.declared.job.Job.{Job}
use Rattle.fc_backend.specs.Answers.{saturated}
use Rattle.fc_workers.specs.Views.{worker_view}
use Rattle.fc_workers.specs.Dispatch.{IsSentOrWorked, MayGo, MayHaveReadCost, least_cost, logged_at, unsent}
use Rattle.fc_workers.specs.Producing.{HasProduced}
use Rattle.fc_workers.specs.Work.{IsReplied}
use Rattle.fc_backend.specs.Statistics.{Share}
use Rattle.fc_workers.specs.Workers.{Dispatched}
use Rattle.fc_workers.specs.declared.dispatcher.Offload.{Offload}
use Rattle.fc_workers.proofs.Handled.{still_produced_if}
use Rattle.fc_workers.proofs.dispatcher_state.DispatcherState.dispatch_whole.Goals as goal

pub send_or_work-requires : goal.send_or_work-requires
send_or_work-requires g c =
    let s = worker_view g.B.Bench.changes g.B.Bench.ended g.B.Bench.called g.B.Bench.logged g.M.TimeSource.is_time g.M.TimeSource.is_random g.G.Gate.passed g.G.Gate.answered g.W.Wire.called in
    let self = c.args.self.now in
    let still = still_produced_if g.B.Book.ServerName.first_job self.keys s g.B.Bench.files c.may_go.result self.offload self.job self.done.share.log c.may_go.new.self.done.share.log c.may_go.ensures.may c.requires.produced in
    record {
      produced = subst (λ (j : Job). HasProduced g.B.Book.ServerName.first_job c.may_go.new.self.keys j c.may_go.new.self.done.share.log) (sym c.may_go.ensures.job)
          (subst (λ (k : ℕ). HasProduced g.B.Book.ServerName.first_job k self.job c.may_go.new.self.done.share.log) (sym c.may_go.ensures.keys) still.0);
    }

pub work-requires : goal.work-requires
work-requires g c =
    let s = worker_view g.B.Bench.changes g.B.Bench.ended g.B.Bench.called g.B.Bench.logged g.M.TimeSource.is_time g.M.TimeSource.is_random g.G.Gate.passed g.G.Gate.answered g.W.Wire.called in
    let self = c.args.self.now in
    let still = still_produced_if g.B.Book.ServerName.first_job self.keys s g.B.Bench.files c.may_go.result self.offload self.job self.done.share.log c.may_go.new.self.done.share.log c.may_go.ensures.may c.requires.produced in
    record {
      produced = subst (λ (j : Job). HasProduced g.B.Book.ServerName.first_job c.may_go.new.self.keys j c.may_go.new.self.done.share.log) (sym c.may_go.ensures.job)
          (subst (λ (k : ℕ). HasProduced g.B.Book.ServerName.first_job k self.job c.may_go.new.self.done.share.log) (sym c.may_go.ensures.keys) still.0);
    }

-- the job may go: it was sent, or run here after all.
pub returns-then-may_go-clause-dispatched : goal.returns-then-may_go-clause-dispatched
returns-then-may_go-clause-dispatched g c =
    let s = worker_view g.B.Bench.changes g.B.Bench.ended g.B.Bench.called g.B.Bench.logged g.M.TimeSource.is_time g.M.TimeSource.is_random g.G.Gate.passed g.G.Gate.answered g.W.Wire.called in
    let self = c.args.self.now in
    let gone = c.may_go.new.self in
    let new = c.send_or_work.new.self.done in
    let before = self.done.share.log in
    let after = gone.done.share.log in
    let still = still_produced_if g.B.Book.ServerName.first_job self.keys s g.B.Bench.files c.may_go.result self.offload self.job before after c.may_go.ensures.may c.requires.produced in
    let may : MayGo s self.offload self.job before after = subst (λ (b : Bool). MatchBool b (MayGo s self.offload self.job before after) (MayHaveReadCost s (least_cost self.offload self.job) self.job before after)) c.if-may_go.true c.may_go.ensures.may in
    let may_so : MayGo s gone.offload gone.job before after = subst (λ (o : Offload). MayGo s o gone.job before after) (sym c.may_go.ensures.offload) (subst (λ (j : Job). MayGo s self.offload j before after) (sym c.may_go.ensures.job) may) in
    let dispatched = c.send_or_work.ensures.dispatched before may_so still.1 in
    subst (λ (d : Dispatched _). IsSentOrWorked s self.offload self.job (logged_at before d) new) c.may_go.ensures.called
    (subst (λ (o : Offload). IsSentOrWorked s o self.job (logged_at before gone.done) new) c.may_go.ensures.offload
    (subst (λ (j : Job). IsSentOrWorked s gone.offload j (logged_at before gone.done) new) c.may_go.ensures.job dispatched))

-- the job stays here: the cost in its slot may have been read.
pub returns-else-may_go-clause-dispatched : goal.returns-else-may_go-clause-dispatched
returns-else-may_go-clause-dispatched g c =
    let s = worker_view g.B.Bench.changes g.B.Bench.ended g.B.Bench.called g.B.Bench.logged g.M.TimeSource.is_time g.M.TimeSource.is_random g.G.Gate.passed g.G.Gate.answered g.W.Wire.called in
    let self = c.args.self.now in
    let stayed = c.may_go.new.self in
    let new = c.work.new.self.done in
    let before = self.done.share.log in
    let after = stayed.done.share.log in
    let still = still_produced_if g.B.Book.ServerName.first_job self.keys s g.B.Bench.files c.may_go.result self.offload self.job before after c.may_go.ensures.may c.requires.produced in
    let share = ap (λ (d : Dispatched _). d.share) c.may_go.ensures.called in
    inr (record {
      sent = c.work.ensures.sent ∙ ap (λ (d : Dispatched _). d.sent) c.may_go.ensures.called;
      log = after;
      stays = subst (λ (b : Bool). MatchBool b (MayGo s self.offload self.job before after) (MayHaveReadCost s (least_cost self.offload self.job) self.job before after)) c.if-may_go.false c.may_go.ensures.may;
      track = still.1;
      worked = subst (λ (p : Share _). IsReplied s unsent self.job p new.share) share (subst (λ (j : Job). IsReplied s unsent j stayed.done.share new.share) c.may_go.ensures.job c.work.ensures.worked);
      ends = c.work.ensures.ends ∙ ap (λ (p : Share _). saturated (g.B.Bench.ended p.tallies + 1)) share;
    })
