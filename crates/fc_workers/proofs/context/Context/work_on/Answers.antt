use Rattle.std.proofs.Common.{◌≡◌, ◌∙◌, ◌<◌, ℕ, ap, if◌then◌else◌, refl, subst, sym}
use Rattle.std.specs.Prelude.{nat_lt}
use Rattle.fc_core.specs.Room.{stage_of}
use Rattle.fc_core.specs.Stage.{Stage, ToAnswer, ToDescribe, ToInstall, ToList, ToMatch, ToRaise, ToRemove}
use Rattle.fc_front.specs.Contents.{Listed}
use Rattle.fc_core.specs.Stages.{after_list, word_raised}
use Rattle.fc_core.specs.declared.stage.Step.{Step}
use Rattle.fc_core.specs.declared.stage.Step.TheVariants as steps
use Rattle.fc_workers.specs.Views.{worker_view}
use Rattle.fc_workers.specs.Steps.{IsReady, IsToAnswer, Walked, calls_left}
use Rattle.fc_workers.proofs.Steps.{arrives, describe_step, lists_on, match_step, raise_step, stands_at, walks_on}
use Rattle.fc_workers.proofs.context.Context.work_on.Goals as goal

pub calls-init : goal.calls-init
calls-init g c = (c.requires.ready, λ before w. w, refl)

pub calls-preserved-in-ToTake-1 : goal.calls-preserved-in-ToTake-1
calls-preserved-in-ToTake-1 g c =
    let s = (worker_view g.B.Bench.changes g.B.Bench.ended g.B.Bench.called g.B.Bench.logged
    g.M.TimeSource.is_time g.M.TimeSource.is_random g.G.Gate.passed g.G.Gate.answered g.W.Wire.called) in (
      (c.take.ensures.step c.args.number).follows.ready,
      λ before w. walks_on s c.args.number c.args.job.now refl (c.calls.invariant.1 before w) (c.take.ensures.step c.args.number),
      c.take.ensures.ended ∙ c.calls.invariant.2,
    )

pub calls-smaller-in-ToTake-1 : goal.calls-smaller-in-ToTake-1
calls-smaller-in-ToTake-1 g c = (c.take.ensures.step c.args.number).follows.fewer

pub calls-preserved-in-ToCommit-1 : goal.calls-preserved-in-ToCommit-1
calls-preserved-in-ToCommit-1 g c =
    let s = (worker_view g.B.Bench.changes g.B.Bench.ended g.B.Bench.called g.B.Bench.logged
    g.M.TimeSource.is_time g.M.TimeSource.is_random g.G.Gate.passed g.G.Gate.answered g.W.Wire.called) in (
      c.commit.ensures.step.follows.ready,
      λ before w. walks_on s c.args.number c.args.job.now refl (c.calls.invariant.1 before w) c.commit.ensures.step,
      c.commit.ensures.ended ∙ c.calls.invariant.2,
    )

pub calls-preserved-in-ToMatch-1 : goal.calls-preserved-in-ToMatch-1
calls-preserved-in-ToMatch-1 g c =
    let s = (worker_view g.B.Bench.changes g.B.Bench.ended g.B.Bench.called g.B.Bench.logged
    g.M.TimeSource.is_time g.M.TimeSource.is_random g.G.Gate.passed g.G.Gate.answered g.W.Wire.called) in
    let room = c.stage.inside in
    let at : c.calls.scratch.stage ≡ ToMatch =
    stands_at c.calls.scratch.stage room.step steps.ToMatch room.found room.seen room.answer c.stage.view_is c.in-ToMatch.is in
    let step = match_step s c.args.number c.args.job.now c.peek-word.result c.calls.share c.peek-word.new.log c.peek-word.ensures.logged c.matched.ensures in (
      step.follows.ready,
      λ before w. walks_on s c.args.number c.args.job.now at (c.calls.invariant.1 before w) step,
      c.calls.invariant.2,
    )

pub calls-preserved-in-ToInstall-1 : goal.calls-preserved-in-ToInstall-1
calls-preserved-in-ToInstall-1 g c =
    let s = (worker_view g.B.Bench.changes g.B.Bench.ended g.B.Bench.called g.B.Bench.logged
    g.M.TimeSource.is_time g.M.TimeSource.is_random g.G.Gate.passed g.G.Gate.answered g.W.Wire.called) in
    let room = c.stage.inside in
    let at : c.calls.scratch.stage ≡ ToInstall =
    stands_at c.calls.scratch.stage room.step steps.ToInstall room.found room.seen room.answer c.stage.view_is c.in-ToInstall.is in (
      (c.install.ensures.step c.args.number).follows.ready,
      λ before w. walks_on s c.args.number c.args.job.now at (c.calls.invariant.1 before w) (c.install.ensures.step c.args.number),
      c.install.ensures.ended ∙ c.calls.invariant.2,
    )

pub calls-smaller-in-ToInstall-1 : goal.calls-smaller-in-ToInstall-1
calls-smaller-in-ToInstall-1 g c =
    let room = c.stage.inside in
    let at : c.calls.scratch.stage ≡ ToInstall =
    stands_at c.calls.scratch.stage room.step steps.ToInstall room.found room.seen room.answer c.stage.view_is c.in-ToInstall.is in
    subst (λ (x : Stage). calls_left c.install.new.stage < calls_left x) (sym at) (c.install.ensures.step c.args.number).follows.fewer

pub calls-preserved-in-ToRemove-1 : goal.calls-preserved-in-ToRemove-1
calls-preserved-in-ToRemove-1 g c =
    let s = (worker_view g.B.Bench.changes g.B.Bench.ended g.B.Bench.called g.B.Bench.logged
    g.M.TimeSource.is_time g.M.TimeSource.is_random g.G.Gate.passed g.G.Gate.answered g.W.Wire.called) in
    let room = c.stage.inside in
    let at : c.calls.scratch.stage ≡ ToRemove =
    stands_at c.calls.scratch.stage room.step steps.ToRemove room.found room.seen room.answer c.stage.view_is c.in-ToRemove.is in (
      (c.remove.ensures.step c.args.number).follows.ready,
      λ before w. walks_on s c.args.number c.args.job.now at (c.calls.invariant.1 before w) (c.remove.ensures.step c.args.number),
      c.remove.ensures.ended ∙ c.calls.invariant.2,
    )

pub calls-smaller-in-ToRemove-1 : goal.calls-smaller-in-ToRemove-1
calls-smaller-in-ToRemove-1 g c =
    let room = c.stage.inside in
    let at : c.calls.scratch.stage ≡ ToRemove =
    stands_at c.calls.scratch.stage room.step steps.ToRemove room.found room.seen room.answer c.stage.view_is c.in-ToRemove.is in
    subst (λ (x : Stage). calls_left c.remove.new.stage < calls_left x) (sym at) (c.remove.ensures.step c.args.number).follows.fewer

pub calls-preserved-in-ToDescribe-1 : goal.calls-preserved-in-ToDescribe-1
calls-preserved-in-ToDescribe-1 g c =
    let s = (worker_view g.B.Bench.changes g.B.Bench.ended g.B.Bench.called g.B.Bench.logged
    g.M.TimeSource.is_time g.M.TimeSource.is_random g.G.Gate.passed g.G.Gate.answered g.W.Wire.called) in
    let room = c.stage.inside in
    let at : c.calls.scratch.stage ≡ ToDescribe =
    stands_at c.calls.scratch.stage room.step steps.ToDescribe room.found room.seen room.answer c.stage.view_is c.in-ToDescribe.is in
    let step = describe_step s c.args.number c.args.job.now c.receipt-receipt.result c.calls.share c.receipt-receipt.new.log c.receipt-receipt.ensures.logged
    c.receipt-receipt.ensures.receipt c.set_receipt.ensures in (
      step.follows.ready,
      λ before w. walks_on s c.args.number c.args.job.now at (c.calls.invariant.1 before w) step,
      c.calls.invariant.2,
    )

pub calls-preserved-in-ToList-1 : goal.calls-preserved-in-ToList-1
calls-preserved-in-ToList-1 g c =
    let s = (worker_view g.B.Bench.changes g.B.Bench.ended g.B.Bench.called g.B.Bench.logged
    g.M.TimeSource.is_time g.M.TimeSource.is_random g.G.Gate.passed g.G.Gate.answered g.W.Wire.called) in
    let room = c.stage.inside in
    let at : c.calls.scratch.stage ≡ ToList room.seen =
    stands_at c.calls.scratch.stage room.step steps.ToList room.found room.seen room.answer c.stage.view_is c.in-ToList.is in
    let words = c.list.new.words in
    let next : c.listed.new.self ≡ ToAnswer (Listed words.items) =
    c.listed.ensures ∙ (ap (λ (x : Step). after_list (stage_of x room.found words room.answer)) c.in-ToList.is
    ∙ ap (λ (n : ℕ). if nat_lt n 64 then ToList (record { items = words.items }) else ToAnswer (Listed words.items)) c.list.ensures.listed.all) in (
      subst (λ (x : Stage). IsReady c.args.job.now x) (sym next) tt,
      λ before w. subst (λ (x : Stage). Walked s c.args.number c.args.job.now x before (record c.calls.share { log = c.list.new.log })) (sym next)
          (lists_on s c.args.number c.args.job.now room.seen words.items c.list.new.log at c.list.ensures.listed (c.calls.invariant.1 before w)),
      c.calls.invariant.2,
    )

pub calls-preserved : goal.calls-preserved
calls-preserved g c =
    let s = (worker_view g.B.Bench.changes g.B.Bench.ended g.B.Bench.called g.B.Bench.logged
    g.M.TimeSource.is_time g.M.TimeSource.is_random g.G.Gate.passed g.G.Gate.answered g.W.Wire.called) in
    let room = c.stage.inside in
    let at : c.calls.scratch.stage ≡ ToRaise c.in-ToRaise.word room.answer =
    stands_at c.calls.scratch.stage room.step (steps.ToRaise c.in-ToRaise.word) room.found room.seen room.answer c.stage.view_is c.in-ToRaise.is in
    let own = subst (λ (x : Stage). IsReady c.args.job.now x) at c.calls.invariant.0 in
    let step = raise_step s c.args.number c.args.job.now c.in-ToRaise.word room.answer c.calls.share c.raise.new.log c.raise.ensures.logged own in
    let next = sym (c.raised.ensures ∙ ap word_raised at) in (
      subst (λ (x : Stage). IsReady c.args.job.now x) next own,
      λ before w. subst (λ (x : Stage). Walked s c.args.number c.args.job.now x before (record c.calls.share { log = c.raise.new.log })) next
          (walks_on s c.args.number c.args.job.now at (c.calls.invariant.1 before w) step),
      c.calls.invariant.2,
    )

pub returns-in-ToAnswer-clause-answers : goal.returns-in-ToAnswer-clause-answers
returns-in-ToAnswer-clause-answers g c =
    let room = c.stage.inside in
    let at : c.calls.scratch.stage ≡ ToAnswer room.answer =
    stands_at c.calls.scratch.stage room.step steps.ToAnswer room.found room.seen room.answer c.stage.view_is c.in-ToAnswer.is in
    let own = subst (λ (x : Stage). IsReady c.args.job.now x) at c.calls.invariant.0 in
    subst (λ (x : Stage). IsToAnswer c.args.job.now x) (sym at) own

pub returns-in-ToAnswer-clause-worked : goal.returns-in-ToAnswer-clause-worked
returns-in-ToAnswer-clause-worked g c before w =
    let s = (worker_view g.B.Bench.changes g.B.Bench.ended g.B.Bench.called g.B.Bench.logged
    g.M.TimeSource.is_time g.M.TimeSource.is_random g.G.Gate.passed g.G.Gate.answered g.W.Wire.called) in
    let room = c.stage.inside in
    let at : c.calls.scratch.stage ≡ ToAnswer room.answer =
    stands_at c.calls.scratch.stage room.step steps.ToAnswer room.found room.seen room.answer c.stage.view_is c.in-ToAnswer.is in
    (room.answer, at, arrives s c.args.number c.args.job.now c.calls.scratch.stage room.answer before c.calls.share at (c.calls.invariant.1 before w))
