use Rattle.std.proofs.Common.{take, refl, sym, subst, ◌∙◌, ◌/◌}
use Rattle.std.proofs.lemmas.Bool.{eq-eqb, ne_eqb}
use Rattle.coap_client.proofs.Failing.{raised}
use Rattle.coap_client.specs.Fetching.{Ended, Lost, Outdated, after_reply}
use Rattle.coap_observer.specs.Representations.{IsFollowingFault, IsNotedAs, IsStateBy, state_of}
use Rattle.coap_observer.proofs.Joinings.{older_outcome, response_outcome, unfit_block}
use Rattle.coap_observer.proofs.watch.Observation.handle_block.Goals as goal

pub returns-in_err-noted-clause-fault : goal.returns-in_err-noted-clause-fault
returns-in_err-noted-clause-fault g c =
    raised c.from_residual-in_err-noted.result c.in_err-noted.field-0.0 (IsFollowingFault g.P.Peer.came g.P.Peer.is_error c.args.observer.now.token) c.from_residual-in_err-noted.ensures.1
    (unfit_block g.P.Peer.went g.P.Peer.came g.P.Peer.is_error c.args.observer.now _ _ _ (take c.args.count c.args.buffer.now) c.args.self.now c.in-Ok.message c.in_ok-time.time
    c.in_err-noted.field-0.0 c.requires.arrived (sym c.read.ensures.function ∙ c.in-Ok.is) (c.is_notification.ensures.0 c.if-is_notification.true) c.in_err-noted.ensures.fault)

pub returns-in-None-clause-handled : goal.returns-in-None-clause-handled
returns-in-None-clause-handled g c =
    let o = c.args.observer.now in
    let noted = subst (IsNotedAs (record { count = c.args.count; time = c.in_ok-time.time }) c.in-Ok.message c.args.self.now c.note.new.self) c.in-None.is c.in_ok-noted.ensures.noted in (
      noted.0,
      (
        c.requires.block,
        older_outcome g.P.Peer.went g.P.Peer.came g.P.Peer.is_time o c.args.self.now c.args.id c.args.joining.now (take c.args.count c.args.buffer.now) c.in-Ok.message c.in_ok-time.time
            (g.P.Peer.called c.args.peer.now) (g.P.Peer.called c.now.new.self) c.requires.arrived (sym c.read.ensures.function ∙ c.in-Ok.is)
            (c.is_notification.ensures.0 c.if-is_notification.true) c.in_ok-time.ensures.time noted.1 c.in_ok-time.ensures.called,
      ),
    )

pub returns-in-GoesOn-clause-handled : goal.returns-in-GoesOn-clause-handled
returns-in-GoesOn-clause-handled g c = (
  refl,
  (
    c.in_ok-handle.ensures.own,
    response_outcome g.P.Peer.went g.P.Peer.came g.P.Peer.is_time c.args.observer.now c.args.self.now c.args.id c.args.joining.now (take c.args.count c.args.buffer.now) c.in-Ok.message
        (g.P.Peer.called c.args.peer.now) (state_of c.handle.new.self) c.requires.arrived (sym c.read.ensures.function ∙ c.in-Ok.is)
        (λ own. cc (c.is_notification.ensures.1 own, c.if-is_notification.false))
        (subst (IsStateBy (after_reply 0 c.in-Ok.message (state_of c.args.joining.now)) c.handle.new.self) c.in-GoesOn.is c.in_ok-handle.ensures.step),
  ),
)

pub returns-in-Ended-clause-handled : goal.returns-in-Ended-clause-handled
returns-in-Ended-clause-handled g c = (
  refl,
  (
    eq-eqb (c.in-Ended.code.byte / 32) 2 (sym c.class.ensures.class ∙ c.if-class-eq-SUCCESS.true),
    response_outcome g.P.Peer.went g.P.Peer.came g.P.Peer.is_time c.args.observer.now c.args.self.now c.args.id c.args.joining.now (take c.args.count c.args.buffer.now) c.in-Ok.message
        (g.P.Peer.called c.args.peer.now) (Ended c.in-Ended.code.byte c.handle.new.self.body.items) c.requires.arrived (sym c.read.ensures.function ∙ c.in-Ok.is)
        (λ own. cc (c.is_notification.ensures.1 own, c.if-is_notification.false))
        (subst (IsStateBy (after_reply 0 c.in-Ok.message (state_of c.args.joining.now)) c.handle.new.self) c.in-Ended.is c.in_ok-handle.ensures.step),
  ),
)

pub returns-in-Ended-2-clause-handled : goal.returns-in-Ended-2-clause-handled
returns-in-Ended-2-clause-handled g c = (
  refl,
  (
    ne_eqb (c.in-Ended.code.byte / 32) 2 (λ is. c.if-class-eq-SUCCESS.false (c.class.ensures.class ∙ is)),
    (
      c.handle.new.self.body.items,
      response_outcome g.P.Peer.went g.P.Peer.came g.P.Peer.is_time c.args.observer.now c.args.self.now c.args.id c.args.joining.now (take c.args.count c.args.buffer.now) c.in-Ok.message
          (g.P.Peer.called c.args.peer.now) (Ended c.in-Ended.code.byte c.handle.new.self.body.items) c.requires.arrived (sym c.read.ensures.function ∙ c.in-Ok.is)
          (λ own. cc (c.is_notification.ensures.1 own, c.if-is_notification.false))
          (subst (IsStateBy (after_reply 0 c.in-Ok.message (state_of c.args.joining.now)) c.handle.new.self) c.in-Ended.is c.in_ok-handle.ensures.step),
    ),
  ),
)

pub returns-in-Outdated-clause-handled : goal.returns-in-Outdated-clause-handled
returns-in-Outdated-clause-handled g c = (
  refl,
  response_outcome g.P.Peer.went g.P.Peer.came g.P.Peer.is_time c.args.observer.now c.args.self.now c.args.id c.args.joining.now (take c.args.count c.args.buffer.now) c.in-Ok.message
      (g.P.Peer.called c.args.peer.now) Outdated c.requires.arrived (sym c.read.ensures.function ∙ c.in-Ok.is)
      (λ own. cc (c.is_notification.ensures.1 own, c.if-is_notification.false))
      (subst (IsStateBy (after_reply 0 c.in-Ok.message (state_of c.args.joining.now)) c.handle.new.self) c.in-Outdated.is c.in_ok-handle.ensures.step),
)

pub returns-in-Malformed-clause-handled : goal.returns-in-Malformed-clause-handled
returns-in-Malformed-clause-handled g c = (
  refl,
  response_outcome g.P.Peer.went g.P.Peer.came g.P.Peer.is_time c.args.observer.now c.args.self.now c.args.id c.args.joining.now (take c.args.count c.args.buffer.now) c.in-Ok.message
      (g.P.Peer.called c.args.peer.now) Lost c.requires.arrived (sym c.read.ensures.function ∙ c.in-Ok.is)
      (λ own. cc (c.is_notification.ensures.1 own, c.if-is_notification.false))
      (subst (IsStateBy (after_reply 0 c.in-Ok.message (state_of c.args.joining.now)) c.handle.new.self) c.in-Malformed.is c.in_ok-handle.ensures.step),
)
