use Rattle.std.proofs.Common.{refl, subst, sym}
use Rattle.coap_client.proofs.Failing.{raised}
use Rattle.fc_fetch.specs.Observing.{IsClientRequestStop, IsObserveStop, IsObservedAt, IsObservedIn}
use Rattle.coap_uri.specs.Resources.{IsResourceOf}
use Rattle.fc_fetch.specs.Rendering.{written_to}
use Rattle.fc_fetch.proofs.Asked.{err_of, nothing_named, observed_client_request, observed_nothing, ok_of}
use Rattle.fc_fetch.proofs.observer.observe_to_end.Goals as goal

pub returns-in-Some-clause-ended : goal.returns-in-Some-clause-ended
returns-in-Some-clause-ended g c =
    let address = c.in_ok-address.address in
    let client_request = c.in-Some.client_request in
    ok_of c.observe_client_request.result
    (IsObservedAt g.C.Connector.connected g.C.Connector.drawn g.C.Server.Peer.went g.C.Server.Peer.came g.C.Server.Peer.is_time g.C.Server.Peer.called c.args.observing.now client_request address.server
    (written_to g.W.Write.contents g.E.Write.contents c.args.console.now)
    (written_to g.W.Write.contents g.E.Write.contents c.observe_client_request.new.console))
    (IsObservedIn g.C.Connector.connected g.C.Connector.drawn g.C.Server.Peer.went g.C.Server.Peer.came g.C.Server.Peer.is_time g.C.Server.Peer.called c.args.observing.now
    (written_to g.W.Write.contents g.E.Write.contents c.args.console.now)
    (written_to g.W.Write.contents g.E.Write.contents c.observe_client_request.new.console))
    (λ end h. record {
      address = address;
      address_is = c.in_ok-address.ensures.address;
      client_request = client_request;
      target_is = subst (IsResourceOf address) (sym c.in-Some.ensures.client_request.2) c.in_ok-target.ensures.resource;
      observed = h;
    }) c.observe_client_request.ensures.ended

pub returns-in-Some-clause-stop : goal.returns-in-Some-clause-stop
returns-in-Some-clause-stop g c =
    let address = c.in_ok-address.address in
    let client_request = c.in-Some.client_request in
    err_of c.observe_client_request.result
    (IsClientRequestStop g.C.Connector.connected g.C.Connector.drawn g.C.Server.Peer.went g.C.Server.Peer.came g.C.Server.Peer.tried g.C.Server.Peer.is_time g.C.Server.Peer.is_error g.C.Server.Peer.called c.args.observing.now client_request address.server)
    (IsObserveStop g.C.Connector.connected g.C.Connector.drawn g.C.Server.Peer.went g.C.Server.Peer.came g.C.Server.Peer.tried g.C.Server.Peer.is_time g.C.Server.Peer.is_error g.C.Server.Peer.called c.args.observing.now)
    (λ s h. observed_client_request g.C.Connector.connected g.C.Connector.drawn g.C.Server.Peer.went g.C.Server.Peer.came g.C.Server.Peer.tried g.C.Server.Peer.is_time g.C.Server.Peer.is_error g.C.Server.Peer.called c.args.observing.now address client_request s c.in_ok-address.ensures.address
    (subst (IsResourceOf address) (sym c.in-Some.ensures.client_request.2) c.in_ok-target.ensures.resource) h) c.observe_client_request.ensures.stop

pub returns-in_err-address-clause-stop : goal.returns-in_err-address-clause-stop
returns-in_err-address-clause-stop g c =
    raised c.from_residual.result c.in_err-address.field-0.0
    (IsObserveStop g.C.Connector.connected g.C.Connector.drawn g.C.Server.Peer.went g.C.Server.Peer.came g.C.Server.Peer.tried g.C.Server.Peer.is_time g.C.Server.Peer.is_error g.C.Server.Peer.called c.args.observing.now)
    c.from_residual.ensures.1 (observed_nothing g.C.Connector.connected g.C.Connector.drawn g.C.Server.Peer.went g.C.Server.Peer.came g.C.Server.Peer.tried g.C.Server.Peer.is_time g.C.Server.Peer.is_error g.C.Server.Peer.called c.args.observing.now c.in_err-address.field-0.0 c.in_err-address.ensures.stop)

pub returns-in_err-target-clause-stop : goal.returns-in_err-target-clause-stop
returns-in_err-target-clause-stop g c =
    raised c.from_residual-in_err-target.result c.in_err-target.field-0.0
    (IsObserveStop g.C.Connector.connected g.C.Connector.drawn g.C.Server.Peer.went g.C.Server.Peer.came g.C.Server.Peer.tried g.C.Server.Peer.is_time g.C.Server.Peer.is_error g.C.Server.Peer.called c.args.observing.now)
    c.from_residual-in_err-target.ensures.1
    (observed_nothing g.C.Connector.connected g.C.Connector.drawn g.C.Server.Peer.went g.C.Server.Peer.came g.C.Server.Peer.tried g.C.Server.Peer.is_time g.C.Server.Peer.is_error g.C.Server.Peer.called c.args.observing.now c.in_err-target.field-0.0
    (nothing_named c.args.observing.now.target.now c.args.observing.now.port c.in_ok-address.address c.in_err-target.field-0.0 c.in_ok-address.ensures.address c.in_err-target.ensures.stop))

pub returns-clause-stop : goal.returns-clause-stop
returns-clause-stop g c = record {
  resource = record { address = c.in_ok-address.address; address_is = c.in_ok-address.ensures.address; target = c.in_ok-target.target; target_is = c.in_ok-target.ensures.resource };
  unfit = c.in-None.ensures.none.0 refl;
}
