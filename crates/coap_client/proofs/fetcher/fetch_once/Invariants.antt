use Rattle.coap_client.specs.Requests.{IsPartOf}
use Rattle.coap_client.specs.Fetching.{Out}
use Rattle.coap_client.proofs.Courses.{HasCounted}
use Rattle.coap_client.proofs.fetcher.fetch_once.Given as goal

abbrev pub invariant-loop-answered : goal.invariant-loop-answered
invariant-loop-answered g l = IsPartOf l.client_request l.fetch_state.part
    × HasCounted g.P.Peer.went g.P.Peer.came (g.P.Peer.called l.fn.peer) (g.P.Peer.called l.peer) l.client_request l.first_id l.fn.earlier.items l.fetch_state.id l.fetch_state.earlier.items
    (Out l.fetch_state.part l.fetch_state.body.items l.fetch_state.etag.items) l.answered
