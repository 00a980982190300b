-- A fetch, reply by reply.
use Rattle.std.proofs.Common.{◌≡◌, ℕ, ◌+◌, ◌%◌, ◌<◌, ◌≤◌, List, [], ◌∷◌, length, Option, Some, Ok, refl, sym, ◌∙◌, ap, subst, arith}
use Rattle.coap_msg.specs.Wire.{Message, message_bytes}
use Rattle.coap_msg.specs.Reading.{reading_of}
use Rattle.coap_opts.specs.declared.request.Method.TheVariants.{Get}
use Rattle.coap_client.specs.declared.client_request.ClientRequest.{ClientRequest}
use Rattle.coap_client.specs.declared.fetcher.FetchState.{FetchState}
use Rattle.coap_client.specs.declared.fetcher.Step.{Step}
use Rattle.coap_client.specs.declared.transmission.SentRequest.{SentRequest}
use Rattle.coap_client.specs.declared.part.Part.{Part}
use Rattle.coap_client.specs.Parts.{first_part}
use Rattle.coap_client.specs.PeerCalls.{PeerCall}
use Rattle.coap_client.specs.Requests.{IsPartOf, part_request}
use Rattle.coap_client.specs.Handled.{IsTakenResponse, Tells, TellsSent}
use Rattle.coap_client.specs.Transmissions.{IsTransmissionWith, IsAnsweredTransmission, IsTransmission, MakesCalls}
use Rattle.coap_client.specs.Fetching.{State, Out, Outdated, AnswersInState, AreReplies, ArePartRequests, IsAnswerToPart, IsStepOf, IsFetching, RepliesLeadTo, RepliesLeadToAgain, after_reply, state_after, taken_ids, with_taken_id}
use Rattle.coap_client.proofs.Transmitting.{both, does_both, does_nothing}

-- the request of a part was transmitted, and the message is the response to it.
pub record IsExchanged (went came : List ℕ → Type 0) (between after : List PeerCall → Type 0) (e : ClientRequest) (id : ℕ) (earlier : List ℕ) (part : Part) (m : Message) : Type 0 where
  pub answers : IsAnswerToPart went came e id earlier part m
  pub own : IsPartOf e part
  pub bytes : List ℕ
  pub read_is : reading_of bytes ≡ Ok m
  pub called : MakesCalls between after (IsTransmission e.confirmable (Tells e.confirmable id earlier) (message_bytes (part_request e part id)) (Some bytes))

-- the response to a sent request, if that request is the one for a part, is one to the request for
-- the part.
answers_part : (went came : List ℕ → Type 0) (e : ClientRequest) (part : Part) (id : ℕ) (earlier : List ℕ) (r : SentRequest) (bytes : List ℕ) (m : Message) →
    IsTakenResponse went came r.confirmable r.id r.earlier.now r.datagram.now.items bytes m →
    r.confirmable ≡ e.confirmable → r.id ≡ id → r.earlier.now ≡ earlier → r.datagram.now.items ≡ message_bytes (part_request e part id) →
    IsAnswerToPart went came e id earlier part m
answers_part went came e part id earlier r bytes m a c i k d = record {
  bytes = bytes;
  is = subst (λ x. IsTakenResponse went came e.confirmable id earlier x bytes m) d
      (subst (λ x. IsTakenResponse went came e.confirmable id x r.datagram.now.items bytes m) k
      (subst (λ x. IsTakenResponse went came e.confirmable x r.earlier.now r.datagram.now.items bytes m) i
      (subst (λ x. IsTakenResponse went came x r.id r.earlier.now r.datagram.now.items bytes m) c a)));
}

-- if a request was transmitted, and it is the one for a part, the request for the part was
-- transmitted.
transmits_part : (between after : List PeerCall → Type 0) (e : ClientRequest) (part : Part) (id : ℕ) (earlier : List ℕ) (r : SentRequest) (answer : List ℕ) →
    MakesCalls between after (IsTransmission r.confirmable (TellsSent r) r.datagram.now.items (Some answer)) →
    r.confirmable ≡ e.confirmable → r.id ≡ id → r.earlier.now ≡ earlier → r.datagram.now.items ≡ message_bytes (part_request e part id) →
    MakesCalls between after (IsTransmission e.confirmable (Tells e.confirmable id earlier) (message_bytes (part_request e part id)) (Some answer))
transmits_part between after e part id earlier r answer called c i k d =
    subst (λ x. MakesCalls between after (IsTransmission e.confirmable (Tells e.confirmable id earlier) x (Some answer))) d
    (subst (λ x. MakesCalls between after (IsTransmission e.confirmable (Tells e.confirmable id x) r.datagram.now.items (Some answer))) k
    (subst (λ x. MakesCalls between after (IsTransmission e.confirmable (Tells e.confirmable x r.earlier.now) r.datagram.now.items (Some answer))) i
    (subst (λ x. MakesCalls between after (IsTransmission x (Tells x r.id r.earlier.now) r.datagram.now.items (Some answer))) c called)))

pub exchanged : (went came : List ℕ → Type 0) (between after : List PeerCall → Type 0) (e : ClientRequest) (part : Part) (id : ℕ) (earlier : List ℕ) (r : SentRequest) (m : Message) (o : Option Message) →
    o ≡ Some m → IsTransmissionWith went came (MakesCalls between after) r o → IsPartOf e part →
    r.confirmable ≡ e.confirmable → r.id ≡ id → r.earlier.now ≡ earlier → r.datagram.now.items ≡ message_bytes (part_request e part id) →
    IsExchanged went came between after e id earlier part m
exchanged went came between after e part id earlier r m o some asked own c i k d =
    let a : IsAnsweredTransmission went came (MakesCalls between after) r m = subst (IsTransmissionWith went came (MakesCalls between after) r) some asked in
    record {
      answers = answers_part went came e part id earlier r a.bytes m a.is c i k d;
      own = own;
      bytes = a.bytes;
      read_is = a.is.asked.read_is;
      called = transmits_part between after e part id earlier r a.bytes a.called c i k d;
    }

pub begins : (went came : List ℕ → Type 0) (now : List PeerCall → Type 0) (e : ClientRequest) (first : ℕ) (known : List ℕ) (part : Part) (body etag : List ℕ) →
    first < 65536 → part ≡ first_part e.method (length e.payload.now) → body ≡ [] → etag ≡ [] →
    IsFetching went came now now e first known first known (Out part body etag)
begins went came now e first known part body etag below p b t = record {
  replies = [];
  are = tt;
  leads = cc (p, b, t);
  id_is = omega (arith, below);
  earlier_is = refl;
  called = does_nothing now (ArePartRequests e first known []) refl;
}

-- if the requests for the earlier replies were made, and the next one was exchanged for `m`, the
-- requests for all of them were made.
requested : (went came : List ℕ → Type 0) (before between after : List PeerCall → Type 0) (e : ClientRequest) (first : ℕ) (known : List ℕ) (id : ℕ) (earlier : List ℕ) (part : Part) (body etag : List ℕ)
    (m : Message) (ms : List Message) → state_after e ms ≡ Out part body etag → id ≡ (first + length ms) % 65536 → earlier ≡ taken_ids known ms →
    MakesCalls before between (ArePartRequests e first known ms) → IsExchanged went came between after e id earlier part m → MakesCalls before after (ArePartRequests e first known (m ∷ ms))
requested went came before between after e first known id earlier part body etag m ms leads i k one x =
    let id' = (first + length ms) % 65536 in
    let ids = taken_ids known ms in
    let Exchange : ℕ → List ℕ → List PeerCall → Type 0 = λ n ns. IsTransmission e.confirmable (Tells e.confirmable n ns) (message_bytes (part_request e part n)) (Some x.bytes) in
    does_both before between after (ArePartRequests e first known ms) (Exchange id' ids) (ArePartRequests e first known (m ∷ ms)) one
    (subst (λ ns. MakesCalls between after (Exchange id' ns)) k (subst (λ n. MakesCalls between after (Exchange n earlier)) i x.called))
    (λ older last a b. record {
      older = older;
      before = a;
      part = part;
      body = body;
      etag = etag;
      out = leads;
      own = x.own;
      answer = x.bytes;
      read_is = x.read_is;
      last = last;
      transmission = b;
      is = refl;
    })

pub one_more : (went came : List ℕ → Type 0) (before between after : List PeerCall → Type 0) (e : ClientRequest) (first : ℕ) (known : List ℕ) (id : ℕ) (earlier : List ℕ) (part : Part) (body etag : List ℕ)
    (m : Message) (id' : ℕ) (earlier' : List ℕ) (next : State) →
    IsFetching went came before between e first known id earlier (Out part body etag) → IsExchanged went came between after e id earlier part m →
    after_reply (length e.payload.now) m (Out part body etag) ≡ next → id' ≡ (id + 1) % 65536 → earlier' ≡ with_taken_id m earlier →
    IsFetching went came before after e first known id' earlier' next
one_more went came before between after e first known id earlier part body etag m id' earlier' next u a n i k = record {
  replies = m ∷ u.replies;
  are = (
    u.are,
    subst (λ s. AnswersInState went came e ((first + length u.replies) % 65536) (taken_ids known u.replies) s m) (sym u.leads)
        (subst (λ x. IsAnswerToPart went came e ((first + length u.replies) % 65536) x part m) u.earlier_is
        (subst (λ x. IsAnswerToPart went came e x earlier part m) u.id_is a.answers)),
  );
  leads = ap (after_reply (length e.payload.now) m) u.leads ∙ n;
  id_is = omega (arith, i, u.id_is);
  earlier_is = k ∙ ap (with_taken_id m) u.earlier_is;
  called = requested went came before between after e first known id earlier part body etag m u.replies u.leads u.id_is u.earlier_is u.called a;
}

pub leads_to : (went came : List ℕ → Type 0) (before after : List PeerCall → Type 0) (e : ClientRequest) (first : ℕ) (known : List ℕ) (id : ℕ) (earlier : List ℕ) (state : State) →
    IsFetching went came before after e first known id earlier state → RepliesLeadTo went came e first known (λ replies. MakesCalls before after (ArePartRequests e first known replies)) state
leads_to went came before after e first known id earlier state u = record { replies = u.replies; are = u.are; leads = u.leads; called = u.called }

-- if the outstanding request of a fetch was exchanged for a response, the fetch is in the state
-- after that response.
pub leads_on : (went came : List ℕ → Type 0) (before between after : List PeerCall → Type 0) (e : ClientRequest) (first : ℕ) (known : List ℕ) (old new : FetchState) (m : Message) (step : Step) (state : State) →
    IsFetching went came before between e first known old.id old.earlier.items (Out old.part old.body.items old.etag.items) →
    IsExchanged went came between after e old.id old.earlier.items old.part m → IsStepOf (length e.payload.now) m old new step →
    after_reply (length e.payload.now) m (Out old.part old.body.items old.etag.items) ≡ state →
    IsFetching went came before after e first known new.id new.earlier.items state
leads_on went came before between after e first known old new m step state u a s is =
    one_more went came before between after e first known old.id old.earlier.items old.part old.body.items old.etag.items m new.id new.earlier.items state u a is s.id s.earlier

-- a fetch is in a state, as in `IsFetching`, after at least `n` replies.
abbrev pub HasCounted : (List ℕ → Type 0) → (List ℕ → Type 0) → (List PeerCall → Type 0) → (List PeerCall → Type 0) → ClientRequest → ℕ → List ℕ → ℕ → List ℕ → State → ℕ → Type 0
HasCounted went came before now e first known id earlier state n = (u : IsFetching went came before now e first known id earlier state) × (n ≤ length u.replies)

longer : (went came : List ℕ → Type 0) (before between after : List PeerCall → Type 0) (e : ClientRequest) (first : ℕ) (known : List ℕ) (old new : FetchState) (m : Message) (step : Step) (state : State) →
    (u : IsFetching went came before between e first known old.id old.earlier.items (Out old.part old.body.items old.etag.items)) →
    (a : IsExchanged went came between after e old.id old.earlier.items old.part m) → (s : IsStepOf (length e.payload.now) m old new step) →
    (is : after_reply (length e.payload.now) m (Out old.part old.body.items old.etag.items) ≡ state) →
    (leads_on went came before between after e first known old new m step state u a s is).replies ≡ m ∷ u.replies
unfolding leads_on one_more
longer went came before between after e first known old new m step state u a s is = refl

pub counts_on : (went came : List ℕ → Type 0) (before between after : List PeerCall → Type 0) (e : ClientRequest) (first : ℕ) (known : List ℕ) (old new : FetchState) (m : Message) (step : Step) (state : State) (n : ℕ) →
    HasCounted went came before between e first known old.id old.earlier.items (Out old.part old.body.items old.etag.items) n →
    IsExchanged went came between after e old.id old.earlier.items old.part m → IsStepOf (length e.payload.now) m old new step →
    after_reply (length e.payload.now) m (Out old.part old.body.items old.etag.items) ≡ state →
    HasCounted went came before after e first known new.id new.earlier.items state (n + 1)
counts_on went came before between after e first known old new m step state n h a s is =
    let many = h.1 in
    let one = ap length (longer went came before between after e first known old new m step state h.0 a s is) in
    (leads_on went came before between after e first known old new m step state h.0 a s is, omega (arith, many, one))

pub begins_counted : (went came : List ℕ → Type 0) (now : List PeerCall → Type 0) (e : ClientRequest) (first : ℕ) (known : List ℕ) (part : Part) (body etag : List ℕ) →
    first < 65536 → part ≡ first_part e.method (length e.payload.now) → body ≡ [] → etag ≡ [] →
    HasCounted went came now now e first known first known (Out part body etag) 0
begins_counted went came now e first known part body etag below p b t = (begins went came now e first known part body etag below p b t, omega arith)

-- if a first attempt ended in `Outdated`, and the replies of a second result in a state, the fetch
-- results in that state.
pub leads_again : (went came : List ℕ → Type 0) (before between after : List PeerCall → Type 0) (e : ClientRequest) (first next : ℕ) (known : List ℕ) (state : State) → e.method ≡ Get →
    IsFetching went came before between e first [] next known Outdated →
    RepliesLeadTo went came e next known (λ replies. MakesCalls between after (ArePartRequests e next known replies)) state → RepliesLeadToAgain went came before after e first state
leads_again went came before between after e first next known state method u l =
    let ids = taken_ids [] u.replies in
    record {
      outdated = u.replies;
      are = u.are;
      leads = u.leads;
      method = method;
      next = next;
      next_is = u.id_is;
      again = record {
        replies = l.replies;
        are = subst (λ x. AreReplies went came e next x l.replies) u.earlier_is l.are;
        leads = l.leads;
        called = both before between after (ArePartRequests e first [] u.replies) (ArePartRequests e next ids l.replies) u.called
            (subst (λ x. MakesCalls between after (ArePartRequests e next x l.replies)) u.earlier_is l.called);
      };
    }
