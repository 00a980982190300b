use Rattle.coap_client.specs.Transmissions.{MakesCalls}
use Rattle.coap_client.proofs.Failing.{raised}
use Rattle.fc_fetch.specs.Fetching.{IsFaultOf}
use Rattle.fc_fetch.proofs.Asked.{asks}
use Rattle.fc_fetch.proofs.client.fetch_from.Goals as goal

pub returns-in_err-fetch-clause-fault : goal.returns-in_err-fetch-clause-fault
returns-in_err-fetch-clause-fault g c =
    let client_request = c.with_format-asked.result in
    raised c.from_residual.result c.in_err-fetch.field-0.0
    (IsFaultOf g.P.Peer.went g.P.Peer.came g.P.Peer.is_error (MakesCalls (g.P.Peer.called c.args.peer.now) (g.P.Peer.called c.fetch.new.peer)) c.args.asking.now c.args.fields.target
    c.args.fields.payload.now c.args.id) c.from_residual.ensures.1
    (record {
      client_request = client_request;
      asks = asks c.args.asking.now c.args.fields.target c.args.fields.payload c.in-Some.asked client_request c.in-Some.ensures.client_request c.with_format-asked.ensures.format c.with_format-asked.ensures.others;
      stops = c.in_err-fetch.ensures.fault;
    })

pub returns-clause-asked : goal.returns-clause-asked
returns-clause-asked g c =
    let client_request = c.with_format-asked.result in
    record {
      client_request = client_request;
      asks = asks c.args.asking.now c.args.fields.target c.args.fields.payload c.in-Some.asked client_request c.in-Some.ensures.client_request c.with_format-asked.ensures.format c.with_format-asked.ensures.others;
      fetched = c.in_ok-fetch.ensures.fetched;
      whole = c.in_ok-fetch.ensures.whole;
    }
