use Rattle.std.proofs.Common.{None, false, true, refl, subst, ◌∙◌, arith}
use Rattle.coap_observer.specs.Notes.{Watches}
use Rattle.coap_observer.specs.ObserverCalls.{AwaitsNotification, IsPassedOverWatching, noted_in}
use Rattle.coap_client.specs.Transmissions.{MakesCalls}
use Rattle.coap_client.proofs.Failing.{raised}
use Rattle.fc_fetch.specs.Observing.{IsAwaitFault}
use Rattle.fc_fetch.proofs.Failures.{no_note}
use Rattle.fc_fetch.proofs.Timing.{awaited_to_the_end, awaits_nothing, note_awaited, one_more_day}
use Rattle.fc_fetch.proofs.waits.await_note.Goals as goal

pub loop-init : goal.loop-init
loop-init g c = (refl, awaits_nothing c.args.observer.now.token c.args.ends (g.P.Peer.called c.args.peer.now))

pub loop-preserved : goal.loop-preserved
loop-preserved g c =
    let token = c.args.observer.now.token in
    let before = g.P.Peer.called c.args.peer.now in
    let between = g.P.Peer.called c.loop.peer in
    let after = g.P.Peer.called c.next.new.peer in (
      subst (Watches g.P.Peer.went g.P.Peer.came g.P.Peer.is_time token c.next.new.buffer c.loop.watch c.next.new.self) c.in-None-2.is c.in_ok-noted.ensures.watched ∙ c.loop.invariant.0,
      one_more_day g.P.Peer.is_time token c.args.ends c.loop.watch c.loop.counter before between after (g.P.Peer.called c.begin_wait.new.self) c.if-ends.false c.loop.invariant.1
          (subst (λ o. MakesCalls between after (AwaitsNotification token (IsPassedOverWatching g.P.Peer.is_time token c.loop.watch) (noted_in c.next.new.buffer o))) c.in-None-2.is
          c.in_ok-noted.ensures.called) c.in_ok-begin_wait-in-None-2.ensures.called,
    )

pub returns-in-Some-clause-called : goal.returns-in-Some-clause-called
returns-in-Some-clause-called g c =
    let token = c.args.observer.now.token in
    let between = g.P.Peer.called c.loop.peer in
    let after = g.P.Peer.called c.next.new.peer in
    note_awaited g.P.Peer.is_time token c.args.ends false c.loop.watch c.loop.counter (noted_in c.next.new.buffer c.in_ok-noted.field-0) (g.P.Peer.called c.args.peer.now) between after
    c.loop.invariant.1 c.in_ok-noted.ensures.called (λ none. absurd (cc none))

pub returns-in-None-clause-called : goal.returns-in-None-clause-called
returns-in-None-clause-called g c =
    let token = c.args.observer.now.token in
    let between = g.P.Peer.called c.loop.peer in
    let after = g.P.Peer.called c.next.new.peer in
    note_awaited g.P.Peer.is_time token c.args.ends true c.loop.watch c.loop.counter None (g.P.Peer.called c.args.peer.now) between after c.loop.invariant.1
    (subst (λ o. MakesCalls between after (AwaitsNotification token (IsPassedOverWatching g.P.Peer.is_time token c.loop.watch) (noted_in c.next.new.buffer o))) c.in-None.is
    c.in_ok-noted.ensures.called) (λ _. (c.if-ends.true, refl))

pub returns-clause-called : goal.returns-clause-called
returns-clause-called g c =
    awaited_to_the_end c.args.observer.now.token c.args.ends c.loop.counter (g.P.Peer.called c.args.peer.now) (g.P.Peer.called c.loop.peer)
    (let end = c.loop-test.false in omega (arith, end)) c.loop.invariant.1

pub returns-in_err-noted-clause-fault : goal.returns-in_err-noted-clause-fault
returns-in_err-noted-clause-fault g c =
    let o = c.args.observer.now in
    let before = g.P.Peer.called c.args.peer.now in
    let between = g.P.Peer.called c.loop.peer in
    let after = g.P.Peer.called c.next.new.peer in
    raised c.from_residual.result c.in_err-noted.field-0.0 (IsAwaitFault g.P.Peer.came g.P.Peer.is_time g.P.Peer.is_error (MakesCalls before after) o c.args.ends c.args.watch.now) c.from_residual.ensures.1
    (subst (λ w. IsAwaitFault g.P.Peer.came g.P.Peer.is_time g.P.Peer.is_error (MakesCalls before after) o c.args.ends w c.in_err-noted.field-0.0) c.loop.invariant.0
    (no_note g.P.Peer.came g.P.Peer.is_time g.P.Peer.is_error before between after o c.args.ends c.loop.counter c.loop.watch c.in_err-noted.field-0.0 c.loop.invariant.1 c.in_err-noted.ensures.fault))
