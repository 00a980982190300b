use Rattle.std.proofs.Common.{Bool, true, false, subst, sym}
use Rattle.std.specs.Prelude.{MatchBool}
use Rattle.fc_workers.specs.Views.{worker_view}
use Rattle.fc_backend.specs.Logs.{TrackedLog}
use Rattle.fc_workers.specs.Producing.{MayProduce}
use Rattle.fc_workers.proofs.Handled.{may_pass, may_skip}
use Rattle.fc_workers.proofs.dispatcher_state.DispatcherState.advance_or_skip.Goals as goal

either : {P Q R : Type 0} (b : Bool) → MatchBool b P Q → (P → R) → (Q → R) → R
either true x first second = first x
either false x first second = second x

pub returns-then-skip_if_idle-clause-ready : goal.returns-then-skip_if_idle-clause-ready
returns-then-skip_if_idle-clause-ready g c =
    let first_job = g.B.Book.ServerName.first_job in
    let keys = c.args.self.now.keys in
    let before = c.args.self.now.done.share.log in
    let after = c.skip_if_idle.new.log in
    let s = worker_view g.B.Bench.changes g.B.Bench.ended g.B.Bench.called g.B.Bench.logged g.M.TimeSource.is_time g.M.TimeSource.is_random g.G.Gate.passed g.G.Gate.answered g.W.Wire.called in
    either c.skip_if_idle.result c.skip_if_idle.ensures
    (λ is. may_skip first_job keys s g.B.Bench.files c.args.shard c.args.now before after is c.requires.ready)
    (λ is. subst (λ (l : TrackedLog). MayProduce first_job keys l) (sym is) c.requires.ready)

pub returns-else-skip_if_idle-clause-ready : goal.returns-else-skip_if_idle-clause-ready
returns-else-skip_if_idle-clause-ready g c =
    let first_job = g.B.Book.ServerName.first_job in
    let keys = c.args.self.now.keys in
    let before = c.args.self.now.done.share.log in
    let between = c.skip_if_idle.new.log in
    let after = c.advance_if_idle.new.log in
    let s = worker_view g.B.Bench.changes g.B.Bench.ended g.B.Bench.called g.B.Bench.logged g.M.TimeSource.is_time g.M.TimeSource.is_random g.G.Gate.passed g.G.Gate.answered g.W.Wire.called in
    let ready : MayProduce first_job keys between = either c.skip_if_idle.result c.skip_if_idle.ensures
    (λ is. may_skip first_job keys s g.B.Bench.files c.args.shard c.args.now before between is c.requires.ready)
    (λ is. subst (λ (l : TrackedLog). MayProduce first_job keys l) (sym is) c.requires.ready) in
    either c.advance_if_idle.result c.advance_if_idle.ensures.logged
    (λ is. may_pass first_job keys s g.B.Bench.files c.args.shard c.args.now between after is ready)
    (λ is. subst (λ (l : TrackedLog). MayProduce first_job keys l) (sym is.1) ready)
