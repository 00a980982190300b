use Rattle.std.proofs.Common.{refl}
use Rattle.coap_client.proofs.Failing.{raised}
use Rattle.fc_fetch.specs.Observing.{IsClientRequestStop}
use Rattle.fc_fetch.proofs.Asked.{observed_nobody, observed_without_words}
use Rattle.fc_fetch.proofs.observer.observe_client_request.Goals as goal

pub returns-in-Ok-clause-ended : goal.returns-in-Ok-clause-ended
returns-in-Ok-clause-ended g c = record {
  observer = record { client_request = c.args.client_request; token = c.draw.new.bytes; id = c.in_ok-first_id.field-0 };
  client_request_is = refl;
  token_is = c.in_default.ensures;
  id_is = c.in_ok-first_id.ensures.id;
  opened = c.in_ok-server.server;
  opened_is = c.in_ok-server.ensures.server;
  ended = c.print_to_end.new.peer;
  shown = c.in-Ok.ensures.shown;
  left = c.in-Ok.ensures.left;
}

pub returns-clause-stop : goal.returns-clause-stop
returns-clause-stop g c = record {
  observer = record { client_request = c.args.client_request; token = c.draw.new.bytes; id = c.in_ok-first_id.field-0 };
  client_request_is = refl;
  token_is = c.in_default.ensures;
  id_is = c.in_ok-first_id.ensures.id;
  opened = c.in_ok-server.server;
  opened_is = c.in_ok-server.ensures.server;
  ended = c.print_to_end.new.peer;
  fails = c.in-Err-print_to_end.ensures.fault;
  leaves = c.in-Err-print_to_end.ensures.leaves;
}

pub returns-in_err-first_id-clause-stop : goal.returns-in_err-first_id-clause-stop
returns-in_err-first_id-clause-stop g c =
    raised c.from_residual.result c.in_err-first_id.field-0.0
    (IsClientRequestStop g.C.Connector.connected g.C.Connector.drawn g.C.Server.Peer.went g.C.Server.Peer.came g.C.Server.Peer.tried g.C.Server.Peer.is_time g.C.Server.Peer.is_error g.C.Server.Peer.called c.args.observing.now c.args.client_request.now
    c.args.address) c.from_residual.ensures.1
    (observed_without_words g.C.Connector.connected g.C.Connector.drawn g.C.Server.Peer.went g.C.Server.Peer.came g.C.Server.Peer.tried g.C.Server.Peer.is_time g.C.Server.Peer.is_error g.C.Server.Peer.called c.args.observing.now
    c.args.client_request.now c.args.address c.in_err-first_id.field-0.0 c.in_err-first_id.ensures.stop)

pub returns-in_err-server-clause-stop : goal.returns-in_err-server-clause-stop
returns-in_err-server-clause-stop g c =
    raised c.from_residual-in_err-server.result c.in_err-server.field-0.0
    (IsClientRequestStop g.C.Connector.connected g.C.Connector.drawn g.C.Server.Peer.went g.C.Server.Peer.came g.C.Server.Peer.tried g.C.Server.Peer.is_time g.C.Server.Peer.is_error g.C.Server.Peer.called c.args.observing.now c.args.client_request.now
    c.args.address) c.from_residual-in_err-server.ensures.1
    (observed_nobody g.C.Connector.connected g.C.Connector.drawn g.C.Server.Peer.went g.C.Server.Peer.came g.C.Server.Peer.tried g.C.Server.Peer.is_time g.C.Server.Peer.is_error g.C.Server.Peer.called c.args.observing.now
    c.args.client_request.now c.args.address c.in_err-server.field-0.0 c.in_err-server.ensures.stop)
