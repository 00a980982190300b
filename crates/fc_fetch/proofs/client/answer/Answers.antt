use Rattle.std.proofs.Common.{◌≡◌, ℕ, List, IfSome, inr, sym, subst}
use Rattle.coap_client.proofs.Failing.{raised}
use Rattle.coap_client.specs.Transmissions.{MakesCalls}
use Rattle.coap_client.specs.declared.fetcher.Fetched.{Fetched}
use Rattle.fc_fetch.proofs.Asked.{no_input, no_server, no_words, nothing_named, of_none, of_some, target_stop}
use Rattle.fc_fetch.specs.Fetching.{HasNoRoom, IsFetchStop, IsFetchedBy}
use Rattle.fc_fetch.proofs.client.answer.Goals as goal

pub returns-in_err-target-clause-stop : goal.returns-in_err-target-clause-stop
returns-in_err-target-clause-stop g c =
    raised c.from_residual-in_err-target.result c.in_err-target.field-0.0
    (IsFetchStop g.C.Connector.connected g.C.Connector.drawn g.C.Server.Peer.went g.C.Server.Peer.came g.C.Server.Peer.is_error g.C.Server.Peer.called c.args.asking.now
    (g.I.Read.remaining c.args.input.now)) c.from_residual-in_err-target.ensures.1
    (target_stop g.C.Connector.connected g.C.Connector.drawn g.C.Server.Peer.went g.C.Server.Peer.came g.C.Server.Peer.is_error g.C.Server.Peer.called c.args.asking.now
    (g.I.Read.remaining c.args.input.now) c.in_err-target.field-0.0
    (nothing_named c.args.asking.now.target.now c.args.asking.now.port c.in_ok-address.address c.in_err-target.field-0.0 c.in_ok-address.ensures.address c.in_err-target.ensures.stop))

pub returns-in_err-payload-clause-stop : goal.returns-in_err-payload-clause-stop
returns-in_err-payload-clause-stop g c =
    raised c.from_residual-in_err-payload.result c.in_err-payload.field-0.0
    (IsFetchStop g.C.Connector.connected g.C.Connector.drawn g.C.Server.Peer.went g.C.Server.Peer.came g.C.Server.Peer.is_error g.C.Server.Peer.called c.args.asking.now
    (g.I.Read.remaining c.args.input.now)) c.from_residual-in_err-payload.ensures.1
    (no_input _ _ _ _ _ _ _ _ c.in_err-payload.field-0.0
    (record { address = c.in_ok-address.address; address_is = c.in_ok-address.ensures.address; target = c.in_ok-target.target; target_is = c.in_ok-target.ensures.resource })
    c.in_err-payload.ensures.stop)

pub returns-in_err-id-clause-stop : goal.returns-in_err-id-clause-stop
returns-in_err-id-clause-stop g c =
    raised c.from_residual-in_err-id.result c.in_err-id.field-0.0
    (IsFetchStop g.C.Connector.connected g.C.Connector.drawn g.C.Server.Peer.went g.C.Server.Peer.came g.C.Server.Peer.is_error g.C.Server.Peer.called c.args.asking.now
    (g.I.Read.remaining c.args.input.now)) c.from_residual-in_err-id.ensures.1
    (no_words _ _ _ _ _ _ _ _ c.in_err-id.field-0.0
    (record { address = c.in_ok-address.address; address_is = c.in_ok-address.ensures.address; target = c.in_ok-target.target; target_is = c.in_ok-target.ensures.resource })
    c.in_err-id.ensures.stop)

pub returns-in_err-server-clause-stop : goal.returns-in_err-server-clause-stop
returns-in_err-server-clause-stop g c =
    raised c.from_residual-in_err-server.result c.in_err-server.field-0.0
    (IsFetchStop g.C.Connector.connected g.C.Connector.drawn g.C.Server.Peer.went g.C.Server.Peer.came g.C.Server.Peer.is_error g.C.Server.Peer.called c.args.asking.now
    (g.I.Read.remaining c.args.input.now)) c.from_residual-in_err-server.ensures.1
    (no_server _ _ _ _ _ _ _ _ c.in_err-server.field-0.0 c.in_ok-payload.payload.items c.in_ok-id.id
    (record { address = c.in_ok-address.address; address_is = c.in_ok-address.ensures.address; target = c.in_ok-target.target; target_is = c.in_ok-target.ensures.resource })
    c.in_ok-payload.ensures.body c.in_ok-id.ensures.id c.in_err-server.ensures.stop)

pub returns-in-Ok-Some-clause-answer : goal.returns-in-Ok-Some-clause-answer
returns-in-Ok-Some-clause-answer g c = record {
  address = c.in_ok-address.address;
  address_is = c.in_ok-address.ensures.address;
  target = c.in_ok-target.target;
  target_is = c.in_ok-target.ensures.resource;
  body = c.deref.result.now;
  body_is = subst (λ (body : List ℕ). IfSome (g.I.Read.remaining c.args.input.now) (λ bytes. body ≡ bytes)) (sym c.deref.ensures.value) c.in_ok-payload.ensures.body;
  id = c.in_ok-id.id;
  id_is = c.in_ok-id.ensures.id;
  opened = c.in_ok-server.server;
  opened_is = c.in_ok-server.ensures.server;
  ended = c.fetch_from.new.peer;
  fetched = of_some c.in-Ok-Some.field-0 c.in-Ok-Some.fetched
      (λ (f : Fetched). IsFetchedBy g.C.Server.Peer.went g.C.Server.Peer.came (g.C.Server.Peer.called c.in_ok-server.server) (g.C.Server.Peer.called c.fetch_from.new.peer) c.args.asking.now
      c.in_ok-target.target c.deref.result.now c.in_ok-id.id f.code.byte f.body.items) c.in-Ok-Some.field-0-is c.in-Ok-Some.ensures.asked;
}

pub returns-in-Ok-None-clause-stop : goal.returns-in-Ok-None-clause-stop
returns-in-Ok-None-clause-stop g c = record {
  resource = record { address = c.in_ok-address.address; address_is = c.in_ok-address.ensures.address; target = c.in_ok-target.target; target_is = c.in_ok-target.ensures.resource };
  body = c.deref.result.now;
  body_is = subst (λ (body : List ℕ). IfSome (g.I.Read.remaining c.args.input.now) (λ bytes. body ≡ bytes)) (sym c.deref.ensures.value) c.in_ok-payload.ensures.body;
  opened = c.in_ok-server.server;
  opened_is = c.in_ok-server.ensures.server;
  ended = c.fetch_from.new.peer;
  room = of_none c.in-Ok-None.field-0
      (HasNoRoom (MakesCalls (g.C.Server.Peer.called c.in_ok-server.server) (g.C.Server.Peer.called c.fetch_from.new.peer)) c.args.asking.now.method c.in_ok-target.target c.deref.result.now) c.in-Ok-None.field-0-is
      c.in-Ok-None.ensures.none;
}

pub returns-clause-stop : goal.returns-clause-stop
returns-clause-stop g c = record {
  resource = record { address = c.in_ok-address.address; address_is = c.in_ok-address.ensures.address; target = c.in_ok-target.target; target_is = c.in_ok-target.ensures.resource };
  body = c.deref.result.now;
  body_is = subst (λ (body : List ℕ). IfSome (g.I.Read.remaining c.args.input.now) (λ bytes. body ≡ bytes)) (sym c.deref.ensures.value) c.in_ok-payload.ensures.body;
  id = c.in_ok-id.id;
  id_is = c.in_ok-id.ensures.id;
  fails = inr (record { opened = c.in_ok-server.server; opened_is = c.in_ok-server.ensures.server; ended = c.fetch_from.new.peer; fails = c.in-Err.ensures.fault });
}
