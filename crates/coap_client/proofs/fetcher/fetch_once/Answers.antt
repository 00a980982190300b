use Rattle.std.proofs.Common.{refl, ◌∙◌, ap, subst, arith, inr}
use Rattle.coap_client.specs.declared.fetcher.FetchFault.TheVariants as fault
use Rattle.coap_client.specs.Faults.{IsFetchOutcomeFault, IsRejection, IsSilence}
use Rattle.coap_client.specs.Handled.{TellsSent}
use Rattle.coap_client.specs.Transmissions.{IsTransmissionWith, MakesCalls}
use Rattle.coap_client.proofs.Failing.{raised}
use Rattle.coap_client.proofs.Stopping.{fetch_outcome_fault, ends_on_request, has_replies, too_many}
use Rattle.coap_client.specs.Fetching.{IsNow}
use Rattle.coap_client.proofs.Courses.{counts_on, exchanged, leads_on, leads_to, one_more}
use Rattle.coap_client.proofs.fetcher.fetch_once.Goals as goal

pub returns-in-Ended-clause-fetch_outcome : goal.returns-in-Ended-clause-fetch_outcome
returns-in-Ended-clause-fetch_outcome g c =
    let r = c.request-request.ensures in
    let one = exchanged g.P.Peer.went g.P.Peer.came (g.P.Peer.called c.loop-answered.peer) (g.P.Peer.called c.ask.new.peer) c.args.client_request.now c.loop-answered.fetch_state.part
    c.loop-answered.fetch_state.id c.loop-answered.fetch_state.earlier.items c.request-request.result _ _ c.in-Some.is c.in_ok-message.ensures.asked c.loop-answered.invariant.0 r.2 r.1 r.3 (ap (λ d. d.items) r.0 ∙ c.in_ok-write.ensures) in
    leads_to _ _ _ _ _ _ _ _ _ _ (leads_on _ _ _ _ _ _ _ _ c.loop-answered.fetch_state c.handle.new.self _ _ _ c.loop-answered.invariant.1.0 one c.in_ok-step.ensures.step
    (subst (IsNow _ c.handle.new.self) c.in-Ended.is c.in_ok-step.ensures.step.now))

pub returns-in-Malformed-clause-fetch_outcome : goal.returns-in-Malformed-clause-fetch_outcome
returns-in-Malformed-clause-fetch_outcome g c =
    let r = c.request-request.ensures in
    let one = exchanged g.P.Peer.went g.P.Peer.came (g.P.Peer.called c.loop-answered.peer) (g.P.Peer.called c.ask.new.peer) c.args.client_request.now c.loop-answered.fetch_state.part
    c.loop-answered.fetch_state.id c.loop-answered.fetch_state.earlier.items c.request-request.result _ _ c.in-Some.is c.in_ok-message.ensures.asked c.loop-answered.invariant.0 r.2 r.1 r.3 (ap (λ d. d.items) r.0 ∙ c.in_ok-write.ensures) in
    leads_to _ _ _ _ _ _ _ _ _ _ (leads_on _ _ _ _ _ _ _ _ c.loop-answered.fetch_state c.handle.new.self _ _ _ c.loop-answered.invariant.1.0 one c.in_ok-step.ensures.step
    (subst (IsNow _ c.handle.new.self) c.in-Malformed.is c.in_ok-step.ensures.step.now))

pub returns-in-Outdated-clause-fetch_outcome : goal.returns-in-Outdated-clause-fetch_outcome
returns-in-Outdated-clause-fetch_outcome g c =
    let r = c.request-request.ensures in
    let one = exchanged g.P.Peer.went g.P.Peer.came (g.P.Peer.called c.loop-answered.peer) (g.P.Peer.called c.ask.new.peer) c.args.client_request.now c.loop-answered.fetch_state.part
    c.loop-answered.fetch_state.id c.loop-answered.fetch_state.earlier.items c.request-request.result _ _ c.in-Some.is c.in_ok-message.ensures.asked c.loop-answered.invariant.0 r.2 r.1 r.3 (ap (λ d. d.items) r.0 ∙ c.in_ok-write.ensures) in
    leads_on _ _ _ _ _ _ _ _ c.loop-answered.fetch_state c.handle.new.self _ _ _ c.loop-answered.invariant.1.0 one c.in_ok-step.ensures.step
    (subst (IsNow _ c.handle.new.self) c.in-Outdated.is c.in_ok-step.ensures.step.now)

pub loop-answered-preserved : goal.loop-answered-preserved
loop-answered-preserved g c =
    let r = c.request-request.ensures in
    let one = exchanged g.P.Peer.went g.P.Peer.came (g.P.Peer.called c.loop-answered.peer) (g.P.Peer.called c.ask.new.peer) c.args.client_request.now c.loop-answered.fetch_state.part
    c.loop-answered.fetch_state.id c.loop-answered.fetch_state.earlier.items c.request-request.result _ _ c.in-Some.is c.in_ok-message.ensures.asked c.loop-answered.invariant.0 r.2 r.1 r.3 (ap (λ d. d.items) r.0 ∙ c.in_ok-write.ensures) in (
      c.in_ok-step.ensures.own,
      counts_on _ _ _ _ _ _ _ _ c.loop-answered.fetch_state c.handle.new.self _ _ _ c.loop-answered.answered c.loop-answered.invariant.1 one c.in_ok-step.ensures.step
          (subst (IsNow _ c.handle.new.self) c.in-GoesOn.is c.in_ok-step.ensures.step.now),
    )

pub returns-in_err-write-clause-fault : goal.returns-in_err-write-clause-fault
returns-in_err-write-clause-fault g c =
    let before = g.P.Peer.called c.args.peer.now in
    raised c.from_residual.result (fault.Memory c.in_err-write.field-0.0)
    (IsFetchOutcomeFault g.P.Peer.went g.P.Peer.came g.P.Peer.is_error (MakesCalls before (g.P.Peer.called c.loop-answered.peer)) c.args.client_request.now c.args.first_id c.args.earlier.items)
    c.from_residual.ensures.1 (has_replies _ _ _ _ _ _ _ _ _ _ c.loop-answered.invariant.1.0)

pub returns-in_err-message-clause-fault : goal.returns-in_err-message-clause-fault
returns-in_err-message-clause-fault g c =
    let r = c.request-request.ensures in
    let request = c.request-request.result in
    let before = g.P.Peer.called c.args.peer.now in
    let between = g.P.Peer.called c.loop-answered.peer in
    let after = g.P.Peer.called c.ask.new.peer in
    raised c.from_residual-in_err-message.result c.in_err-message.field-0.0
    (IsFetchOutcomeFault g.P.Peer.went g.P.Peer.came g.P.Peer.is_error (MakesCalls before after) c.args.client_request.now c.args.first_id c.args.earlier.items)
    c.from_residual-in_err-message.ensures.1
    (fetch_outcome_fault _ _ _ before after _ _ _ (MakesCalls between after (IsRejection request.confirmable (TellsSent request) request.datagram.now.items)) c.in_err-message.field-0.0
    (λ one. ends_on_request _ _ IsRejection before between after _ _ _ c.loop-answered.fetch_state.id c.loop-answered.fetch_state.earlier.items c.loop-answered.fetch_state.part c.loop-answered.fetch_state.body.items
    c.loop-answered.fetch_state.etag.items request c.loop-answered.invariant.1.0 r.2 r.1 r.3 (ap (λ d. d.items) r.0 ∙ c.in_ok-write.ensures) one) c.in_err-message.ensures.fault)

pub returns-in_default-clause-fault : goal.returns-in_default-clause-fault
returns-in_default-clause-fault g c =
    let r = c.request-request.ensures in
    let request = c.request-request.result in
    let before = g.P.Peer.called c.args.peer.now in
    let between = g.P.Peer.called c.loop-answered.peer in
    let after = g.P.Peer.called c.ask.new.peer in
    ends_on_request _ _ IsSilence before between after _ _ _ c.loop-answered.fetch_state.id c.loop-answered.fetch_state.earlier.items c.loop-answered.fetch_state.part c.loop-answered.fetch_state.body.items
    c.loop-answered.fetch_state.etag.items request c.loop-answered.invariant.1.0 r.2 r.1 r.3 (ap (λ d. d.items) r.0 ∙ c.in_ok-write.ensures)
    (subst (IsTransmissionWith g.P.Peer.went g.P.Peer.came (MakesCalls between after) request) c.in_default.is c.in_ok-message.ensures.asked)

pub returns-in_err-step-clause-fault : goal.returns-in_err-step-clause-fault
returns-in_err-step-clause-fault g c =
    let r = c.request-request.ensures in
    let before = g.P.Peer.called c.args.peer.now in
    let after = g.P.Peer.called c.ask.new.peer in
    let one = exchanged g.P.Peer.went g.P.Peer.came (g.P.Peer.called c.loop-answered.peer) (g.P.Peer.called c.ask.new.peer) c.args.client_request.now c.loop-answered.fetch_state.part
    c.loop-answered.fetch_state.id c.loop-answered.fetch_state.earlier.items c.request-request.result _ _ c.in-Some.is c.in_ok-message.ensures.asked c.loop-answered.invariant.0 r.2 r.1 r.3 (ap (λ d. d.items) r.0 ∙ c.in_ok-write.ensures) in
    raised c.from_residual-in_err-step.result (fault.Memory c.in_err-step.field-0.0)
    (IsFetchOutcomeFault g.P.Peer.went g.P.Peer.came g.P.Peer.is_error (MakesCalls before after) c.args.client_request.now c.args.first_id c.args.earlier.items)
    c.from_residual-in_err-step.ensures.1
    (has_replies _ _ _ _ _ _ _ _ _ _ (one_more _ _ _ _ _ _ _ _ _ _ _ _ _ _ _ _ _ c.loop-answered.invariant.1.0 one refl refl refl))

pub returns-clause-fault : goal.returns-clause-fault
returns-clause-fault g c =
    inr (too_many _ _ _ _ _ _ _ _ _ _ c.loop-answered.invariant.1.0
    (let end = c.loop-answered-test.false in let bound = c.loop-answered.auto.answered-end in let many = c.loop-answered.invariant.1.1 in omega (arith, end, bound, many)))
