use Rattle.std.proofs.Common.{inr}
use Rattle.coap_client.proofs.Failing.{raised}
use Rattle.fc_fetch.proofs.Asked.{connecting_ping, random_ping}
use Rattle.fc_fetch.specs.Pinging.{IsPingStop}
use Rattle.fc_fetch.proofs.ping.ping_once.Goals as goal

pub returns-in_err-id-clause-stop : goal.returns-in_err-id-clause-stop
returns-in_err-id-clause-stop g c =
    raised c.from_residual-in_err-id.result c.in_err-id.field-0.0
    (IsPingStop g.C.Connector.connected g.C.Connector.drawn g.C.Server.Peer.is_error g.C.Server.Peer.called c.args.pinging.now) c.from_residual-in_err-id.ensures.1
    (random_ping _ _ _ _ _ c.in_ok-endpoint.endpoint c.in_err-id.field-0.0 c.in_ok-endpoint.ensures.endpoint c.in_err-id.ensures.stop)

pub returns-in_err-server-clause-stop : goal.returns-in_err-server-clause-stop
returns-in_err-server-clause-stop g c =
    raised c.from_residual-in_err-server.result c.in_err-server.field-0.0
    (IsPingStop g.C.Connector.connected g.C.Connector.drawn g.C.Server.Peer.is_error g.C.Server.Peer.called c.args.pinging.now) c.from_residual-in_err-server.ensures.1
    (connecting_ping _ _ _ _ _ c.in_ok-endpoint.endpoint c.in_ok-id.id c.in_err-server.field-0.0 c.in_ok-endpoint.ensures.endpoint c.in_ok-id.ensures.id c.in_err-server.ensures.stop)

pub returns-in-Ok-clause-pinged : goal.returns-in-Ok-clause-pinged
returns-in-Ok-clause-pinged g c = record {
  server = c.in_ok-endpoint.endpoint;
  server_is = c.in_ok-endpoint.ensures.endpoint;
  id = c.in_ok-id.id;
  id_is = c.in_ok-id.ensures.id;
  opened = c.in_ok-server.server;
  opened_is = c.in_ok-server.ensures.server;
  ended = c.ping.new.peer;
  pong = c.in-Ok.ensures.pong;
  called_is = c.in-Ok.ensures.called;
}

pub returns-clause-stop : goal.returns-clause-stop
returns-clause-stop g c = record {
  server = c.in_ok-endpoint.endpoint;
  server_is = c.in_ok-endpoint.ensures.endpoint;
  id = c.in_ok-id.id;
  id_is = c.in_ok-id.ensures.id;
  fails = inr (record {
    opened = c.in_ok-server.server;
    opened_is = c.in_ok-server.ensures.server;
    ended = c.ping.new.peer;
    fails = c.in-Err.ensures.fault;
  });
}
