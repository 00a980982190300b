use Rattle.std.proofs.Common.{rules, ◌≡◌, inl, inr, subst}
use Rattle.coap_client.specs.declared.fetcher.FetchFault.TheVariants as fault
use Rattle.coap_client.specs.Faults.{IsFetchFault}
use Rattle.coap_client.specs.Transmissions.{MakesCalls}
use Rattle.coap_client.proofs.Failing.{raised}
use Rattle.coap_client.proofs.Stopping.{again_fault, stops_again}
use Rattle.coap_opts.specs.declared.request.Method.TheVariants.{Get}
use Rattle.coap_client.specs.Fetching.{IsFetchOutcome, IsFetching, Outdated}
use Rattle.coap_client.proofs.Courses.{leads_again, leads_to}
use Rattle.coap_client.proofs.SentBodies.{went_whole}
use Rattle.coap_client.proofs.fetcher.fetch.Goals as goal

pub returns-in-Ended-clause-whole : goal.returns-in-Ended-clause-whole
returns-in-Ended-clause-whole g c =
    went_whole g.P.Peer.went g.P.Peer.came _ _ _ _ _ _
    (subst (IsFetchOutcome g.P.Peer.went g.P.Peer.came (g.P.Peer.called c.args.peer.now) (g.P.Peer.called c.fetch_once.new.peer) c.args.client_request.now c.args.first_id c.new.result.items)
    c.in-Ended.is c.in_ok-fetched.ensures.fetch_outcome)

pub returns-in-Ended-2-clause-whole : goal.returns-in-Ended-2-clause-whole
returns-in-Ended-2-clause-whole g c =
    went_whole g.P.Peer.went g.P.Peer.came _ _ _ _ _ _
    (subst (IsFetchOutcome g.P.Peer.went g.P.Peer.came (g.P.Peer.called c.fetch_once.new.peer) (g.P.Peer.called c.fetch_once-in-Outdated.new.peer) c.args.client_request.now c.in-Outdated.id
    c.in-Outdated.earlier.items) c.in-Ended-2.is c.in_ok-fetched-in-Outdated.ensures.fetch_outcome)

pub returns-in-Ended-2-clause-fetched : goal.returns-in-Ended-2-clause-fetched
returns-in-Ended-2-clause-fetched g c =
    let before = g.P.Peer.called c.args.peer.now in
    let between = g.P.Peer.called c.fetch_once.new.peer in
    let after = g.P.Peer.called c.fetch_once-in-Outdated.new.peer in
    let method : c.args.client_request.now.method ≡ Get = search rules in
    inr (leads_again g.P.Peer.went g.P.Peer.came before between after c.args.client_request.now c.args.first_id c.in-Outdated.id c.in-Outdated.earlier.items _ method
    (subst (λ known. IsFetching g.P.Peer.went g.P.Peer.came before between c.args.client_request.now c.args.first_id known c.in-Outdated.id c.in-Outdated.earlier.items Outdated) c.new.ensures.items
    (subst (IsFetchOutcome g.P.Peer.went g.P.Peer.came before between c.args.client_request.now c.args.first_id c.new.result.items) c.in-Outdated.is c.in_ok-fetched.ensures.fetch_outcome))
    (subst (IsFetchOutcome g.P.Peer.went g.P.Peer.came between after c.args.client_request.now c.in-Outdated.id c.in-Outdated.earlier.items) c.in-Ended-2.is c.in_ok-fetched-in-Outdated.ensures.fetch_outcome))

pub returns-in_err-fetched-in-Outdated-clause-fault : goal.returns-in_err-fetched-in-Outdated-clause-fault
returns-in_err-fetched-in-Outdated-clause-fault g c =
    let before = g.P.Peer.called c.args.peer.now in
    let between = g.P.Peer.called c.fetch_once.new.peer in
    let after = g.P.Peer.called c.fetch_once-in-Outdated.new.peer in
    let e = c.args.client_request.now in
    let method : e.method ≡ Get = search rules in
    let outdated = subst (λ known. IsFetching g.P.Peer.went g.P.Peer.came before between e c.args.first_id known c.in-Outdated.id c.in-Outdated.earlier.items Outdated) c.new.ensures.items
    (subst (IsFetchOutcome g.P.Peer.went g.P.Peer.came before between e c.args.first_id c.new.result.items) c.in-Outdated.is c.in_ok-fetched.ensures.fetch_outcome) in
    raised c.from_residual-in_err-fetched-in-Outdated.result c.in_err-fetched-in-Outdated.field-0.0
    (IsFetchFault g.P.Peer.went g.P.Peer.came g.P.Peer.is_error (MakesCalls before after) e c.args.first_id) c.from_residual-in_err-fetched-in-Outdated.ensures.1
    (again_fault g.P.Peer.went g.P.Peer.came g.P.Peer.is_error before between after e c.args.first_id c.in-Outdated.id c.in-Outdated.earlier.items c.in_err-fetched-in-Outdated.field-0.0 method outdated
    c.in_err-fetched-in-Outdated.ensures.fault)

pub returns-in-Malformed-2-clause-fault : goal.returns-in-Malformed-2-clause-fault
returns-in-Malformed-2-clause-fault g c =
    let before = g.P.Peer.called c.args.peer.now in
    let between = g.P.Peer.called c.fetch_once.new.peer in
    let after = g.P.Peer.called c.fetch_once-in-Outdated.new.peer in
    let e = c.args.client_request.now in
    let method : e.method ≡ Get = search rules in
    let outdated = subst (λ known. IsFetching g.P.Peer.went g.P.Peer.came before between e c.args.first_id known c.in-Outdated.id c.in-Outdated.earlier.items Outdated) c.new.ensures.items
    (subst (IsFetchOutcome g.P.Peer.went g.P.Peer.came before between e c.args.first_id c.new.result.items) c.in-Outdated.is c.in_ok-fetched.ensures.fetch_outcome) in
    inr (stops_again g.P.Peer.went g.P.Peer.came before between after e c.args.first_id c.in-Outdated.id c.in-Outdated.earlier.items fault.Malformed method outdated
    (inl (subst (IsFetchOutcome g.P.Peer.went g.P.Peer.came between after e c.in-Outdated.id c.in-Outdated.earlier.items) c.in-Malformed-2.is c.in_ok-fetched-in-Outdated.ensures.fetch_outcome)))

pub returns-in-Outdated-clause-fault : goal.returns-in-Outdated-clause-fault
returns-in-Outdated-clause-fault g c =
    let before = g.P.Peer.called c.args.peer.now in
    let between = g.P.Peer.called c.fetch_once.new.peer in
    let after = g.P.Peer.called c.fetch_once-in-Outdated.new.peer in
    let e = c.args.client_request.now in
    let method : e.method ≡ Get = search rules in
    let outdated = subst (λ known. IsFetching g.P.Peer.went g.P.Peer.came before between e c.args.first_id known c.in-Outdated.id c.in-Outdated.earlier.items Outdated) c.new.ensures.items
    (subst (IsFetchOutcome g.P.Peer.went g.P.Peer.came before between e c.args.first_id c.new.result.items) c.in-Outdated.is c.in_ok-fetched.ensures.fetch_outcome) in
    inr (stops_again g.P.Peer.went g.P.Peer.came before between after e c.args.first_id c.in-Outdated.id c.in-Outdated.earlier.items fault.Changed method outdated
    (leads_to g.P.Peer.went g.P.Peer.came between after e c.in-Outdated.id c.in-Outdated.earlier.items c.in-Outdated-3.field-0 c.in-Outdated-3.field-1.items Outdated
    (subst (IsFetchOutcome g.P.Peer.went g.P.Peer.came between after e c.in-Outdated.id c.in-Outdated.earlier.items) c.in-Outdated-3.is c.in_ok-fetched-in-Outdated.ensures.fetch_outcome)))
