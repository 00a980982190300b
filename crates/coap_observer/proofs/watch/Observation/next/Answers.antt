use Rattle.std.proofs.Common.{◌≡◌, ◌≤◌, length, take, Some, None, refl, sym, subst, ◌∙◌, arith}
use Rattle.coap_observer.specs.declared.notice.NotificationClass.TheVariants as notice
use Rattle.coap_client.specs.declared.fetcher.FetchFault.TheVariants as fault
use Rattle.coap_observer.specs.declared.observing.DatedMessage.{DatedMessage}
use Rattle.coap_observer.specs.ObserverFaults.{IsNewState, IsNotificationFault}
use Rattle.coap_observer.specs.Notes.{HasOwnResponse}
use Rattle.coap_observer.specs.ObserverCalls.{AwaitsNotification, IsNoNotification, IsPassedOverWatching, dated_in}
use Rattle.coap_client.specs.Transmissions.{MakesCalls}
use Rattle.coap_observer.proofs.ObserverFailing.{ends_on, unfit_came}
use Rattle.coap_client.proofs.Failing.{raised}
use Rattle.coap_observer.proofs.ObserverCalls.{awaits_next, enough_passed, is_older, none_passed, older_passed}
use Rattle.coap_client.proofs.Transmitting.{some_of}
use Rattle.coap_observer.proofs.watch.Observation.next.Goals as goal

pub loop-init : goal.loop-init
loop-init g c = (refl, none_passed (IsPassedOverWatching g.P.Peer.is_time c.args.token.now c.args.self.now) (g.P.Peer.called c.args.peer.now))

pub loop-preserved : goal.loop-preserved
loop-preserved g c =
    let token = c.args.token.now in
    let came = c.in-Some.came in
    let between = g.P.Peer.called c.loop.peer in
    let after = g.P.Peer.called c.handle.new.peer in
    let bytes = take came.count c.handle.new.buffer in
    let told = some_of _ came (λ (x : DatedMessage). g.P.Peer.is_time x.time) c.in-Some.is c.in_ok-came.ensures.time in
    let own = some_of _ came (λ (x : DatedMessage). (x.count ≤ length c.handle.new.buffer) × HasOwnResponse g.P.Peer.went g.P.Peer.came token (take x.count c.handle.new.buffer)) c.in-Some.is c.in_ok-came.ensures.handled in (
      c.loop.invariant.0,
      older_passed g.P.Peer.is_time token c.args.self.now c.loop.counter bytes came.time (g.P.Peer.called c.args.peer.now) between after
          (is_older g.P.Peer.went g.P.Peer.came g.P.Peer.is_time token bytes c.args.self.now c.loop.self c.in-Ok.message came.time c.max-at.result c.notice_of.result own.1
          (sym c.read.ensures.function ∙ c.in-Ok.is) told c.loop.invariant.0 c.max-at.ensures c.notice_of.ensures c.in-Older.is)
          c.loop.invariant.1
          (subst (λ o. MakesCalls between after (AwaitsNotification token (IsNoNotification token) (dated_in c.handle.new.buffer o))) c.in-Some.is c.in_ok-came.ensures.called),
    )

pub returns-in_default-clause-called : goal.returns-in_default-clause-called
returns-in_default-clause-called g c =
    let token = c.args.token.now in
    let between = g.P.Peer.called c.loop.peer in
    let after = g.P.Peer.called c.handle.new.peer in
    awaits_next g.P.Peer.is_time token c.args.self.now c.loop.counter None (g.P.Peer.called c.args.peer.now) between after c.loop.invariant.1
    (subst (λ o. MakesCalls between after (AwaitsNotification token (IsNoNotification token) (dated_in c.handle.new.buffer o))) c.in_default.is c.in_ok-came.ensures.called)

pub returns-in-State-clause-called : goal.returns-in-State-clause-called
returns-in-State-clause-called g c =
    let token = c.args.token.now in
    let came = c.in-Some.came in
    let between = g.P.Peer.called c.loop.peer in
    let after = g.P.Peer.called c.handle.new.peer in
    awaits_next g.P.Peer.is_time token c.args.self.now c.loop.counter (Some (take came.count c.handle.new.buffer, came.time)) (g.P.Peer.called c.args.peer.now) between after c.loop.invariant.1
    (subst (λ o. MakesCalls between after (AwaitsNotification token (IsNoNotification token) (dated_in c.handle.new.buffer o))) c.in-Some.is c.in_ok-came.ensures.called)

pub returns-in-Last-clause-called : goal.returns-in-Last-clause-called
returns-in-Last-clause-called g c =
    let token = c.args.token.now in
    let came = c.in-Some.came in
    let between = g.P.Peer.called c.loop.peer in
    let after = g.P.Peer.called c.handle.new.peer in
    awaits_next g.P.Peer.is_time token c.args.self.now c.loop.counter (Some (take came.count c.handle.new.buffer, came.time)) (g.P.Peer.called c.args.peer.now) between after c.loop.invariant.1
    (subst (λ o. MakesCalls between after (AwaitsNotification token (IsNoNotification token) (dated_in c.handle.new.buffer o))) c.in-Some.is c.in_ok-came.ensures.called)

pub returns-clause-called : goal.returns-clause-called
returns-clause-called g c =
    enough_passed (IsPassedOverWatching g.P.Peer.is_time c.args.token.now c.args.self.now) c.loop.counter (g.P.Peer.called c.args.peer.now) (g.P.Peer.called c.loop.peer)
    (let end = c.loop-test.false in omega (arith, end)) c.loop.invariant.1

pub returns-in-Malformed-clause-fault : goal.returns-in-Malformed-clause-fault
returns-in-Malformed-clause-fault g c =
    let token = c.args.token.now in
    let came = c.in-Some.came in
    let between = g.P.Peer.called c.loop.peer in
    let after = g.P.Peer.called c.handle.new.peer in
    let bytes = take came.count c.handle.new.buffer in
    let told = some_of _ came (λ (x : DatedMessage). g.P.Peer.is_time x.time) c.in-Some.is c.in_ok-came.ensures.time in
    let own = some_of _ came (λ (x : DatedMessage). (x.count ≤ length c.handle.new.buffer) × HasOwnResponse g.P.Peer.went g.P.Peer.came token (take x.count c.handle.new.buffer)) c.in-Some.is c.in_ok-came.ensures.handled in (
      ends_on g.P.Peer.went g.P.Peer.came g.P.Peer.is_time token bytes c.args.self.now c.loop.self c.in-Ok.message came.time c.max-at.result c.notice_of.result (λ n. n ≡ notice.Malformed)
          (g.P.Peer.called c.args.peer.now) after own.1 (sym c.read.ensures.function ∙ c.in-Ok.is) told c.loop.invariant.0 c.max-at.ensures c.notice_of.ensures c.in-Malformed.is
          (awaits_next g.P.Peer.is_time token c.args.self.now c.loop.counter (Some (bytes, came.time)) (g.P.Peer.called c.args.peer.now) between after c.loop.invariant.1
          (subst (λ o. MakesCalls between after (AwaitsNotification token (IsNoNotification token) (dated_in c.handle.new.buffer o))) c.in-Some.is c.in_ok-came.ensures.called)),
      λ id. unfit_came g.P.Peer.went g.P.Peer.came token bytes c.loop.self c.in-Ok.message c.max-at.result c.notice_of.result id own.1 (sym c.read.ensures.function ∙ c.in-Ok.is) c.notice_of.ensures c.in-Malformed.is,
    )

pub returns-in_err-keep-in-State-clause-fault : goal.returns-in_err-keep-in-State-clause-fault
returns-in_err-keep-in-State-clause-fault g c =
    let token = c.args.token.now in
    let came = c.in-Some.came in
    let before = g.P.Peer.called c.args.peer.now in
    let between = g.P.Peer.called c.loop.peer in
    let after = g.P.Peer.called c.handle.new.peer in
    let bytes = take came.count c.handle.new.buffer in
    let told = some_of _ came (λ (x : DatedMessage). g.P.Peer.is_time x.time) c.in-Some.is c.in_ok-came.ensures.time in
    let own = some_of _ came (λ (x : DatedMessage). (x.count ≤ length c.handle.new.buffer) × HasOwnResponse g.P.Peer.went g.P.Peer.came token (take x.count c.handle.new.buffer)) c.in-Some.is c.in_ok-came.ensures.handled in
    raised c.from_residual-in_err-keep-in-State.result (fault.Memory c.in_err-keep-in-State.field-0.0)
    (IsNotificationFault g.P.Peer.came g.P.Peer.is_error (MakesCalls before after) g.P.Peer.is_time token c.args.self.now) c.from_residual-in_err-keep-in-State.ensures.1
    (ends_on g.P.Peer.went g.P.Peer.came g.P.Peer.is_time token bytes c.args.self.now c.loop.self c.in-Ok.message came.time c.max-at.result c.notice_of.result IsNewState
    before after own.1 (sym c.read.ensures.function ∙ c.in-Ok.is) told c.loop.invariant.0 c.max-at.ensures c.notice_of.ensures (subst IsNewState (sym c.in-State.is) tt)
    (awaits_next g.P.Peer.is_time token c.args.self.now c.loop.counter (Some (bytes, came.time)) before between after c.loop.invariant.1
    (subst (λ o. MakesCalls between after (AwaitsNotification token (IsNoNotification token) (dated_in c.handle.new.buffer o))) c.in-Some.is c.in_ok-came.ensures.called)))
