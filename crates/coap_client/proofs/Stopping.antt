-- The errors of a fetch, after the replies so far.
use Rattle.std.proofs.Common.{◌≡◌, ◌≤◌, ℕ, inl, inr, Bool, List, [], length, refl, subst, ◌∙◌}
use Rattle.coap_msg.specs.Wire.{Message, message_bytes}
use Rattle.coap_opts.specs.declared.request.Method.TheVariants.{Get}
use Rattle.coap_client.specs.declared.client_request.ClientRequest.{ClientRequest}
use Rattle.coap_client.specs.declared.fetcher.FetchFault.{FetchFault}
use Rattle.coap_client.specs.declared.fetcher.FetchFault.TheVariants as fault
use Rattle.coap_client.specs.declared.part.Part.{Part}
use Rattle.coap_client.specs.declared.transmission.ReplyClass.{ReplyClass}
use Rattle.coap_client.specs.declared.transmission.SentRequest.{SentRequest}
use Rattle.coap_client.specs.Faults.{EndsOnRequest, HasReplies, IsFetchOutcomeFault, IsFetchFault, IsOfPeer, IsRejection, StopsAgain, StopsBy, most_requests}
use Rattle.coap_client.specs.Fetching.{State, Lost, Out, Outdated, ArePartRequests, IsFetching, RepliesLeadTo}
use Rattle.coap_client.specs.Handled.{Tells, TellsSent}
use Rattle.coap_client.specs.PeerCalls.{PeerCall, PeerError}
use Rattle.coap_client.specs.Requests.{part_request}
use Rattle.coap_client.specs.Transmissions.{AreBehind, MakesCalls}
use Rattle.coap_client.proofs.Transmitting.{Calls, both, does_both}

abbrev Bytes : Type 1
Bytes = List ℕ → Type 0

abbrev Ending : Type 1
Ending = Bool → (List ℕ → ReplyClass → Type 0) → List ℕ → List PeerCall → Type 0

pub has_replies : (went came : Bytes) (before now : Calls) (e : ClientRequest) (first : ℕ) (known : List ℕ) (id : ℕ) (earlier : List ℕ) (state : State)
    → IsFetching went came before now e first known id earlier state → HasReplies went came e first known (λ replies. MakesCalls before now (ArePartRequests e first known replies))
has_replies went came before now e first known id earlier state u = record { replies = u.replies; are = u.are; called = u.called }

pub too_many : (went came : Bytes) (before now : Calls) (e : ClientRequest) (first : ℕ) (known : List ℕ) (id : ℕ) (earlier : List ℕ) (state : State)
    (u : IsFetching went came before now e first known id earlier state) → most_requests ≤ length u.replies
    → HasReplies went came e first known (λ replies. (most_requests ≤ length replies) × MakesCalls before now (ArePartRequests e first known replies))
too_many went came before now e first known id earlier state u many = record { replies = u.replies; are = u.are; called = (many, u.called) }

-- if the outstanding request ends as `Ends` says, so does the fetch after the replies so far.
pub ends_on_request : (went came : Bytes) (Ends : Ending) (before between after : Calls) (e : ClientRequest) (first : ℕ) (known : List ℕ) (id : ℕ) (earlier : List ℕ) (part : Part)
    (body etag : List ℕ) (r : SentRequest) → IsFetching went came before between e first known id earlier (Out part body etag) → r.confirmable ≡ e.confirmable → r.id ≡ id
    → r.earlier.now ≡ earlier → r.datagram.now.items ≡ message_bytes (part_request e part id) → MakesCalls between after (Ends r.confirmable (TellsSent r) r.datagram.now.items)
    → HasReplies went came e first known (λ replies. MakesCalls before after (EndsOnRequest e first known Ends replies))
ends_on_request went came Ends before between after e first known id earlier part body etag r u c i k d one = record {
  replies = u.replies;
  are = u.are;
  called = does_both before between after (ArePartRequests e first known u.replies) (Ends r.confirmable (TellsSent r) r.datagram.now.items) (EndsOnRequest e first known Ends u.replies)
      u.called one
      (λ older last a b. record {
        older = older;
        before = a;
        part = part;
        body = body;
        etag = etag;
        out = u.leads;
        id = id;
        id_is = u.id_is;
        last = last;
        ends = subst (λ x. Ends e.confirmable (Tells e.confirmable id x) (message_bytes (part_request e part id)) last) (k ∙ u.earlier_is)
            (subst (λ x. Ends e.confirmable (Tells e.confirmable x r.earlier.now) (message_bytes (part_request e part id)) last) i
            (subst (λ x. Ends x (Tells x r.id r.earlier.now) (message_bytes (part_request e part id)) last) c
            (subst (λ x. Ends r.confirmable (TellsSent r) x last) d b)));
        is = refl;
      });
}

pub fetch_outcome_fault : (went came : Bytes) (is_error : PeerError → Type 0) (before after : Calls) (e : ClientRequest) (first : ℕ) (known : List ℕ) (Rejects : Type 0) (f : FetchFault)
    → (Rejects → HasReplies went came e first known (λ replies. MakesCalls before after (EndsOnRequest e first known IsRejection replies))) → IsOfPeer is_error Rejects f
    → IsFetchOutcomeFault went came is_error (MakesCalls before after) e first known f
fetch_outcome_fault went came is_error before after e first known Rejects fault.Silence turns h = absurd h
fetch_outcome_fault went came is_error before after e first known Rejects fault.Rejected turns h = turns h
fetch_outcome_fault went came is_error before after e first known Rejects fault.Malformed turns h = absurd h
fetch_outcome_fault went came is_error before after e first known Rejects fault.Changed turns h = absurd h
fetch_outcome_fault went came is_error before after e first known Rejects fault.Part turns h = absurd h
fetch_outcome_fault went came is_error before after e first known Rejects (fault.Socket error) turns h = h
fetch_outcome_fault went came is_error before after e first known Rejects (fault.Memory error) turns h = absurd h

-- if `Called` implies `Other`, replies that arrived with `Called` arrived with `Other`.
replies_in : (went came : Bytes) (e : ClientRequest) (first : ℕ) (known : List ℕ) (Called Other : List Message → Type 0) → ((replies : List Message) → Called replies → Other replies)
    → HasReplies went came e first known Called → HasReplies went came e first known Other
replies_in went came e first known Called Other turns h = record { replies = h.replies; are = h.are; called = turns h.replies h.called }

lead_in : (went came : Bytes) (e : ClientRequest) (first : ℕ) (known : List ℕ) (Called Other : List Message → Type 0) (state : State) → ((replies : List Message) → Called replies → Other replies)
    → RepliesLeadTo went came e first known Called state → RepliesLeadTo went came e first known Other state
lead_in went came e first known Called Other state turns h = record { replies = h.replies; are = h.are; leads = h.leads; called = turns h.replies h.called }

stops_in : (went came : Bytes) (Makes Other : Calls → Type 0) → ((P : Calls) → Makes P → Other P) → (e : ClientRequest) (first : ℕ) (known : List ℕ) (f : FetchFault)
    → StopsBy went came Makes e first known f → StopsBy went came Other e first known f
stops_in went came Makes Other turns e first known fault.Silence h = replies_in went came e first known _ _ (λ replies x. turns _ x) h
stops_in went came Makes Other turns e first known fault.Rejected h = replies_in went came e first known _ _ (λ replies x. turns _ x) h
stops_in went came Makes Other turns e first known fault.Malformed (inl h) = inl (lead_in went came e first known _ _ Lost (λ replies x. turns _ x) h)
stops_in went came Makes Other turns e first known fault.Malformed (inr h) = inr (replies_in went came e first known _ _ (λ replies x. (x.0, turns _ x.1)) h)
stops_in went came Makes Other turns e first known fault.Changed h = lead_in went came e first known _ _ Outdated (λ replies x. turns _ x) h
stops_in went came Makes Other turns e first known fault.Part h = absurd h
stops_in went came Makes Other turns e first known (fault.Socket error) h = absurd h
stops_in went came Makes Other turns e first known (fault.Memory error) h = replies_in went came e first known _ _ (λ replies x. turns _ x) h

-- an error of the first attempt is an error of the fetch.
pub fetch_fault : (went came : Bytes) (is_error : PeerError → Type 0) (Makes : Calls → Type 0) (e : ClientRequest) (first : ℕ) (f : FetchFault)
    → IsFetchOutcomeFault went came is_error Makes e first [] f → IsFetchFault went came is_error Makes e first f
fetch_fault went came is_error Makes e first fault.Silence h = inl h
fetch_fault went came is_error Makes e first fault.Rejected h = inl h
fetch_fault went came is_error Makes e first fault.Malformed h = inl h
fetch_fault went came is_error Makes e first fault.Changed h = absurd h
fetch_fault went came is_error Makes e first fault.Part h = inl h
fetch_fault went came is_error Makes e first (fault.Socket error) h = h
fetch_fault went came is_error Makes e first (fault.Memory error) h = inl h

-- if the response to a GET changed, and the second attempt stops with an error, the fetch stops
-- with that error.
pub stops_again : (went came : Bytes) (before between after : Calls) (e : ClientRequest) (first next : ℕ) (known : List ℕ) (f : FetchFault) → e.method ≡ Get
    → IsFetching went came before between e first [] next known Outdated → StopsBy went came (MakesCalls between after) e next known f
    → StopsAgain went came (MakesCalls before after) e first f
stops_again went came before between after e first next known f method u h = record {
  outdated = u.replies;
  are = u.are;
  leads = u.leads;
  method = method;
  next = next;
  next_is = u.id_is;
  stops = subst (λ x. StopsBy went came (λ Calls. MakesCalls before after (AreBehind (ArePartRequests e first [] u.replies) Calls)) e next x f) u.earlier_is
      (stops_in went came (MakesCalls between after) (λ Calls. MakesCalls before after (AreBehind (ArePartRequests e first [] u.replies) Calls))
      (λ P one. both before between after (ArePartRequests e first [] u.replies) P u.called one) e next known f h);
}

pub again_fault : (went came : Bytes) (is_error : PeerError → Type 0) (before between after : Calls) (e : ClientRequest) (first next : ℕ) (known : List ℕ) (f : FetchFault) → e.method ≡ Get
    → IsFetching went came before between e first [] next known Outdated → IsFetchOutcomeFault went came is_error (MakesCalls between after) e next known f
    → IsFetchFault went came is_error (MakesCalls before after) e first f
again_fault went came is_error before between after e first next known fault.Silence method u h = inr (stops_again went came before between after e first next known fault.Silence method u h)
again_fault went came is_error before between after e first next known fault.Rejected method u h = inr (stops_again went came before between after e first next known fault.Rejected method u h)
again_fault went came is_error before between after e first next known fault.Malformed method u h = inr (stops_again went came before between after e first next known fault.Malformed method u h)
again_fault went came is_error before between after e first next known fault.Changed method u h = absurd h
again_fault went came is_error before between after e first next known fault.Part method u h = inr (stops_again went came before between after e first next known fault.Part method u h)
again_fault went came is_error before between after e first next known (fault.Socket error) method u h = h
again_fault went came is_error before between after e first next known (fault.Memory error) method u h =
    inr (stops_again went came before between after e first next known (fault.Memory error) method u h)
