-- The parts of a request's body that are sent before a fetch ends.
use Rattle.std.proofs.Common.{◌≡◌, ℕ, ◌%◌, ◌+◌, ◌*◌, ◌≤◌, ◌==◌, nat_lt, nat_le, bytes_eq, true, List, [], ◌∷◌, ◌++◌, length, take, Option, Some, None, refl, sym, ap, subst, ◌∙◌, arith}
use Rattle.std.proofs.lemmas.Bool.{ltb-false}
use Rattle.std.proofs.lemmas.List.{append-nil, take_all}
use Rattle.std.proofs.Math.Seq.{take-add}
use Rattle.coap_msg.specs.Wire.{Message, message_bytes}
use Rattle.coap_opts.specs.Values.{block_size, place_in}
use Rattle.coap_opts.specs.declared.request.Method.{Method}
use Rattle.coap_opts.specs.declared.request.Method.TheVariants.{Get, Post, Put, Delete}
use Rattle.coap_client.specs.declared.client_request.ClientRequest.{ClientRequest}
use Rattle.coap_client.specs.declared.part.Part.{Part}
use Rattle.coap_client.specs.declared.part.Part.TheVariants.{Whole, Body, Answer}
use Rattle.coap_client.specs.declared.reply.Next.{Next}
use Rattle.coap_client.specs.declared.reply.Next.TheVariants as next
use Rattle.std.specs.List.{All}
use Rattle.std.proofs.lemmas.List.Elements.{All-nil, All-cons}
use Rattle.coap_client.specs.Requests.{part_request}
use Rattle.coap_client.specs.Fetching.{State, Out, Ended, Outdated, Lost, AnswersInState, AreReplies, RepliesLeadTo, after_reply, moved_on, state_after, taken_ids}
use Rattle.coap_client.specs.Joined.{SendsWhole, payloads}
use Rattle.coap_client.specs.Parts.{block_of, first_part, has_more, part_payload}
use Rattle.coap_client.specs.Replies.{block1_of, block2_of, by_more, by_option, by_part, etag_of, is_continue, is_final, fits_place, is_success, is_understood, next_block, next_by_code, next_number, next_of_answer, next_of_body, next_of_whole, next_size}
use Rattle.coap_client.proofs.NextParts.{begins_alike, either, next_smaller}

-- the bytes of the body that the outstanding request sends for the first time. A request for a
-- further block of the response sends none.
abbrev pub body_of_request : ClientRequest → State → List ℕ
body_of_request e (Out (Answer n szx) body etag) = []
body_of_request e (Out part body etag) = part_payload e.method e.payload.now part
body_of_request e other = []

-- the bytes of the body in the requests for these replies, joined in order.
abbrev pub body_sent : ClientRequest → List Message → List ℕ
body_sent e [] = []
body_sent e (m ∷ ms) = body_sent e ms ++ body_of_request e (state_after e ms)

-- the bytes `sent` fit the state: no bytes, the blocks before the outstanding one, or the whole
-- body.
abbrev pub HasSent : ClientRequest → List ℕ → State → Type 0
HasSent e sent (Out Whole body etag) = sent ≡ []
HasSent e sent (Out (Body n szx) body etag) = sent ≡ take (block_size szx * n) e.payload.now
HasSent e sent (Out (Answer n szx) body etag) = sent ≡ e.payload.now
HasSent e sent (Ended code body) = is_success code ≡ true → sent ≡ e.payload.now
HasSent e sent other = Unit {0}

-- the next step is possible after a success, if these bytes were sent.
abbrev pub GoesTo : ClientRequest → List ℕ → Next → Type 0
GoesTo e sent (next.Ask Whole) = ⊥
GoesTo e sent (next.Ask (Body n szx)) = sent ≡ take (block_size szx * n) e.payload.now
GoesTo e sent (next.Ask (Answer n szx)) = sent ≡ e.payload.now
GoesTo e sent next.Last = sent ≡ e.payload.now
GoesTo e sent next.Refused = ⊥
GoesTo e sent other = Unit {0}

option_goes : (e : ClientRequest) (sent : List ℕ) (n szx count : ℕ) (value : Option (List ℕ)) → sent ≡ e.payload.now → GoesTo e sent (by_option n szx count value)
option_goes e sent n szx count None all = either (GoesTo e sent) (n == 0) next.Last next.Malformed (λ _. all) (λ _. tt)
option_goes e sent n szx count (Some value) all =
    let b = place_in value in
    either (GoesTo e sent) (nat_le (length value) 3) _ next.Malformed
    (λ _. either (GoesTo e sent) (fits_place n szx b) (by_more b count) next.Malformed
    (λ _. either (GoesTo e sent) b.more _ _
    (λ _. either (GoesTo e sent) (count == block_size b.szx) (next_block b) next.Malformed
    (λ _. either (GoesTo e sent) (nat_lt (b.number + 1) 1048576) (next.Ask (Answer (b.number + 1) b.szx)) next.Malformed (λ _. all) (λ _. tt))
    (λ _. tt))
    (λ _. either (GoesTo e sent) (nat_le count (block_size b.szx)) next.Last next.Malformed (λ _. all) (λ _. tt)))
    (λ _. tt))
    (λ _. tt)

whole_goes : (e : ClientRequest) (sent : List ℕ) (n : ℕ) (m : Message) → sent ≡ e.payload.now → GoesTo e sent (next_of_whole n m)
whole_goes e sent n m all =
    either (GoesTo e sent) (is_final n m) (next_of_answer 0 6 m) next.Malformed (λ _. option_goes e sent 0 6 (length m.payload) (block2_of m) all) (λ _. tt)

body_goes : (e : ClientRequest) (sent : List ℕ) (n szx : ℕ) (size : Option ℕ) → ((smaller : ℕ) → size ≡ Some smaller → smaller ≤ szx) →
    sent ≡ take (block_size szx * (n + 1)) e.payload.now → GoesTo e sent (next_of_body n szx size)
body_goes e sent n szx None small so = tt
body_goes e sent n szx (Some smaller) small so =
    either (GoesTo e sent) (nat_lt (next_number n szx smaller) 1048576) (next.Ask (Body (next_number n szx smaller) smaller)) next.Malformed
    (λ _. so ∙ ap (λ k. take k e.payload.now) (sym (begins_alike n szx smaller (small smaller refl)))) (λ _. tt)

-- the blocks before block n and block n, joined, are the first n + 1 blocks.
one_block_more : (payload : List ℕ) (n szx : ℕ) → take (block_size szx * n) payload ++ block_of payload n szx ≡ take (block_size szx * (n + 1)) payload
one_block_more payload n szx =
    let size = block_size szx in
    let k : size * n + size ≡ size * (n + 1) = omega arith in
    sym (take-add (size * n) size payload) ∙ ap (λ k. take k payload) k

part_goes : (e : ClientRequest) (part : Part) (sent body etag : List ℕ) (m : Message) → HasSent e sent (Out part body etag) →
    GoesTo e (sent ++ body_of_request e (Out part body etag)) (by_part (length e.payload.now) part etag m)
part_goes e Whole sent body etag m so = whole_goes e _ 0 m (ap (λ s. s ++ e.payload.now) so)
part_goes e (Body n szx) sent body etag m so =
    let now = ap (λ s. s ++ block_of e.payload.now n szx) so ∙ one_block_more e.payload.now n szx in
    either (GoesTo e _) (has_more (length e.payload.now) n szx) (next_of_body n szx (next_size n szx (is_continue m) (block1_of m))) (next_of_whole n m)
    (λ _. body_goes e _ n szx _ (next_smaller n szx (is_continue m) (block1_of m)) now)
    (λ last. whole_goes e _ n m (now ∙ take_all _ _ (ltb-false _ _ last)))
part_goes e (Answer n szx) sent body etag m so =
    let now = append-nil sent ∙ so in
    either (GoesTo e _) (bytes_eq (etag_of m) etag) _ next.Stale
    (λ _. either (GoesTo e _) (is_continue m) next.Malformed (next_of_answer n szx m) (λ _. tt) (λ _. option_goes e _ n szx (length m.payload) (block2_of m) now))
    (λ _. tt)

moved_has : (e : ClientRequest) (sent body etag : List ℕ) (m : Message) (n : Next) → GoesTo e sent n → HasSent e sent (moved_on n body etag m)
moved_has e sent body etag m (next.Ask Whole) g = absurd g
moved_has e sent body etag m (next.Ask (Body n szx)) g = g
moved_has e sent body etag m (next.Ask (Answer n szx)) g = g
moved_has e sent body etag m next.Last g = λ _. g
moved_has e sent body etag m next.Refused g = absurd g
moved_has e sent body etag m next.Stale g = tt
moved_has e sent body etag m next.Malformed g = tt

reply_has : (e : ClientRequest) (sent : List ℕ) (m : Message) (s : State) → HasSent e sent s → HasSent e (sent ++ body_of_request e s) (after_reply (length e.payload.now) m s)
reply_has e sent m (Out part body etag) so =
    let after = sent ++ body_of_request e (Out part body etag) in
    let P : Next → Type 0 = λ n. HasSent e after (moved_on n body etag m) in
    either P (is_understood m) (next_by_code (length e.payload.now) part etag m) next.Malformed
    (λ _. either P (is_success m.code) (by_part (length e.payload.now) part etag m) next.Refused
    (λ _. moved_has e after body etag m _ (part_goes e part sent body etag m so))
    (λ failed success. absurd (cc (failed, success))))
    (λ _. tt)
reply_has e sent m (Ended code body) so = λ success. append-nil sent ∙ so success
reply_has e sent m Outdated so = tt
reply_has e sent m Lost so = tt

first_has : (e : ClientRequest) (method : Method) (count : ℕ) → HasSent e [] (Out (first_part method count) [] [])
first_has e Get count = refl
first_has e Post count = refl
first_has e Delete count = refl
first_has e Put count = either (λ p. HasSent e [] (Out p [] [])) (nat_lt 1024 count) (Body 0 6) Whole (λ _. refl) (λ _. refl)

pub has_sent : (e : ClientRequest) (ms : List Message) → HasSent e (body_sent e ms) (state_after e ms)
has_sent e [] = first_has e e.method (length e.payload.now)
has_sent e (m ∷ ms) = reply_has e (body_sent e ms) m (state_after e ms) (has_sent e ms)

pub whole_sent : (e : ClientRequest) (ms : List Message) (code : ℕ) (answer : List ℕ) → state_after e ms ≡ Ended code answer → is_success code ≡ true → body_sent e ms ≡ e.payload.now
whole_sent e ms code answer ends success = subst (HasSent e (body_sent e ms)) ends (has_sent e ms) success

-- the requests `rs`, with the outstanding one if it sends the body or a block of it.
abbrev pub with_request : ClientRequest → ℕ → State → List Message → List Message
with_request e id (Out (Answer n szx) body etag) rs = rs
with_request e id (Out part body etag) rs = part_request e part id ∷ rs
with_request e id other rs = rs

abbrev pub requests_of : ClientRequest → ℕ → List Message → List Message
requests_of e first [] = []
requests_of e first (m ∷ ms) = with_request e ((first + length ms) % 65536) (state_after e ms) (requests_of e first ms)

one_joins : (e : ClientRequest) (id : ℕ) (s : State) (rs : List Message) → payloads (with_request e id s rs) ≡ payloads rs ++ body_of_request e s
one_joins e id (Out Whole body etag) rs = refl
one_joins e id (Out (Body n szx) body etag) rs = refl
one_joins e id (Out (Answer n szx) body etag) rs = sym (append-nil (payloads rs))
one_joins e id (Ended code body) rs = sym (append-nil (payloads rs))
one_joins e id Outdated rs = sym (append-nil (payloads rs))
one_joins e id Lost rs = sym (append-nil (payloads rs))

requests_join : (e : ClientRequest) (first : ℕ) (ms : List Message) → payloads (requests_of e first ms) ≡ body_sent e ms
requests_join e first [] = refl
requests_join e first (m ∷ ms) =
    one_joins e _ (state_after e ms) (requests_of e first ms) ∙ ap (λ x. x ++ body_of_request e (state_after e ms)) (requests_join e first ms)

one_went : (went came : List ℕ → Type 0) (e : ClientRequest) (id : ℕ) (earlier : List ℕ) (s : State) (m : Message) (rs : List Message) →
    AnswersInState went came e id earlier s m → All (λ r. went (message_bytes r)) rs → All (λ r. went (message_bytes r)) (with_request e id s rs)
one_went went came e id earlier (Out Whole body etag) m rs a all = All-cons (λ r. went (message_bytes r)) _ rs a.is.asked.asked all
one_went went came e id earlier (Out (Body n szx) body etag) m rs a all = All-cons (λ r. went (message_bytes r)) _ rs a.is.asked.asked all
one_went went came e id earlier (Out (Answer n szx) body etag) m rs a all = all
one_went went came e id earlier (Ended code body) m rs a all = all
one_went went came e id earlier Outdated m rs a all = all
one_went went came e id earlier Lost m rs a all = all

requests_went : (went came : List ℕ → Type 0) (e : ClientRequest) (first : ℕ) (known : List ℕ) (ms : List Message) → AreReplies went came e first known ms →
    All (λ r. went (message_bytes r)) (requests_of e first ms)
requests_went went came e first known [] are = All-nil (λ r. went (message_bytes r))
requests_went went came e first known (m ∷ ms) are =
    one_went went came e ((first + length ms) % 65536) (taken_ids known ms) (state_after e ms) m (requests_of e first ms) are.1 (requests_went went came e first known ms are.0)

-- if a fetch ended by a success, the requests sent have the whole body.
pub went_whole : (went came : List ℕ → Type 0) (e : ClientRequest) (first : ℕ) (known : List ℕ) (Called : List Message → Type 0) (code : ℕ) (answer : List ℕ) →
    RepliesLeadTo went came e first known Called (Ended code answer) → SendsWhole went e code
went_whole went came e first known Called code answer l success = record {
  requests = requests_of e first l.replies;
  each = requests_went went came e first known l.replies l.are;
  joined = requests_join e first l.replies ∙ whole_sent e l.replies code answer l.leads success;
}
