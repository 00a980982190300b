-- The blocks of the response that are joined before a fetch ends.
use Rattle.std.proofs.Common.{◌≡◌, ℕ, ◌+◌, ◌*◌, ◌==◌, nat_lt, nat_le, bytes_eq, true, List, [], ◌∷◌, ◌++◌, length, Option, Some, None, refl, sym, ap, subst, ◌∙◌, arith, length-append}
use Rattle.std.specs.List.{All}
use Rattle.std.proofs.lemmas.Bool.{eqb-true}
use Rattle.std.proofs.lemmas.List.Elements.{All-nil, All-cons}
use Rattle.std.proofs.lemmas.Slice.Eq.{bytes_eq-Decides}
use Rattle.coap_msg.specs.Wire.{Message}
use Rattle.coap_opts.specs.Values.{block_size, place_in}
use Rattle.coap_opts.specs.declared.request.Method.{Method}
use Rattle.coap_opts.specs.declared.request.Method.TheVariants.{Get, Post, Put, Delete}
use Rattle.coap_client.specs.declared.client_request.ClientRequest.{ClientRequest}
use Rattle.coap_client.specs.declared.part.Part.{Part}
use Rattle.coap_client.specs.declared.part.Part.TheVariants.{Whole, Body, Answer}
use Rattle.coap_client.specs.declared.reply.Next.{Next}
use Rattle.coap_client.specs.declared.reply.Next.TheVariants as next
use Rattle.coap_client.specs.Fetching.{State, Out, Ended, Outdated, Lost, after_reply, moved_on, state_after}
use Rattle.coap_client.specs.Joined.{AreBlocksInOrder, BeginsAt, IsLastBlock, IsOneAnswer, payloads}
use Rattle.coap_client.specs.Parts.{first_part, has_more}
use Rattle.coap_client.specs.Replies.{block1_of, block2_of, by_more, by_option, by_part, etag_of, is_continue, is_final, fits_place, is_success, is_understood, next_by_code, next_block, next_number, next_of_answer, next_of_body, next_of_whole, next_size}
use Rattle.coap_client.proofs.NextParts.{either, place_is}

-- the response so far has the bytes `body` from the latest of these replies, with the ETag `etag`.
pub record IsJoined (body etag : List ℕ) (ms : List Message) : Type 0 where
  pub blocks : List Message
  pub before : List Message
  pub last : ms ≡ blocks ++ before
  pub joined : body ≡ payloads blocks
  pub in_order : AreBlocksInOrder blocks
  pub version : All (λ m. etag_of m ≡ etag) blocks

-- in this state, the response so far is joined from the latest replies, or has no bytes.
abbrev pub HasJoined : List Message → State → Type 0
HasJoined ms (Out (Answer n szx) body etag) = IsJoined body etag ms × (block_size szx * n ≡ length body)
HasJoined ms (Out other body etag) = body ≡ []
HasJoined ms other = Unit {0}

-- the next step is possible after a reply of `count` bytes, whose Block2 has the value `value`, if
-- the response so far has `offset` bytes.
abbrev pub JoinsAt : ℕ → ℕ → Option (List ℕ) → Next → Type 0
JoinsAt offset count value (next.Ask (Answer n szx)) = BeginsAt offset value × (block_size szx * n ≡ offset + count)
JoinsAt offset count value next.Last = BeginsAt offset value × IsLastBlock value
JoinsAt offset count value (next.Ask other) = offset ≡ 0
JoinsAt offset count value next.Refused = ⊥
JoinsAt offset count value other = Unit {0}

pub option_joins : (n szx count offset : ℕ) (value : Option (List ℕ)) → block_size szx * n ≡ offset → JoinsAt offset count value (by_option n szx count value)
option_joins n szx count offset None at =
    either (JoinsAt offset count None) (n == 0) next.Last next.Malformed
    (λ zero. let none : n ≡ 0 = eqb-true _ _ zero in (sym at ∙ (ap (λ k. block_size szx * k) none ∙ omega arith), tt)) (λ _. tt)
option_joins n szx count offset (Some value) at =
    let b = place_in value in
    let P = JoinsAt offset count (Some value) in
    either P (nat_le (length value) 3) _ next.Malformed
    (λ _. either P (fits_place n szx b) (by_more b count) next.Malformed
    (λ is. let begins = (place_is n szx b is).begins ∙ at in
    either P b.more _ _
    (λ _. either P (count == block_size b.szx) (next_block b) next.Malformed
    (λ whole. either P (nat_lt (b.number + 1) 1048576) (next.Ask (Answer (b.number + 1) b.szx)) next.Malformed
    (λ _. (begins, let size : count ≡ block_size b.szx = eqb-true _ _ whole in omega (arith, begins, size))) (λ _. tt))
    (λ _. tt))
    (λ last. either P (nat_le count (block_size b.szx)) next.Last next.Malformed (λ _. (begins, last)) (λ _. tt)))
    (λ _. tt))
    (λ _. tt)

whole_joins : (n : ℕ) (m : Message) → JoinsAt 0 (length m.payload) (block2_of m) (next_of_whole n m)
whole_joins n m =
    either (JoinsAt 0 (length m.payload) (block2_of m)) (is_final n m) (next_of_answer 0 6 m) next.Malformed (λ _. option_joins 0 6 (length m.payload) 0 (block2_of m) (omega arith)) (λ _. tt)

body_joins : (n szx count : ℕ) (value : Option (List ℕ)) (size : Option ℕ) → JoinsAt 0 count value (next_of_body n szx size)
body_joins n szx count value None = tt
body_joins n szx count value (Some smaller) =
    either (JoinsAt 0 count value) (nat_lt (next_number n szx smaller) 1048576) (next.Ask (Body (next_number n szx smaller) smaller)) next.Malformed (λ _. refl) (λ _. tt)

one : (m : Message) (ms : List Message) → BeginsAt 0 (block2_of m) → IsJoined m.payload (etag_of m) (m ∷ ms)
one m ms begins = record {
  blocks = m ∷ [];
  before = ms;
  last = refl;
  joined = refl;
  in_order = (tt, begins);
  version = All-cons (λ x. etag_of x ≡ etag_of m) m [] refl (All-nil (λ x. etag_of x ≡ etag_of m));
}

more : (m : Message) (ms : List Message) (body etag : List ℕ) → IsJoined body etag ms → BeginsAt (length body) (block2_of m) → etag_of m ≡ etag →
    IsJoined (body ++ m.payload) (etag_of m) (m ∷ ms)
more m ms body etag j begins same = record {
  blocks = m ∷ j.blocks;
  before = j.before;
  last = ap (λ x. m ∷ x) j.last;
  joined = ap (λ x. x ++ m.payload) j.joined;
  in_order = (j.in_order, subst (λ x. BeginsAt (length x) (block2_of m)) j.joined begins);
  version = All-cons (λ x. etag_of x ≡ etag_of m) m j.blocks refl (subst (λ t. All (λ x. etag_of x ≡ t) j.blocks) (sym same) j.version);
}

-- if a reply is the last block, and begins at the end of the blocks before it with the same ETag,
-- the response is whole.
answer_of : (m : Message) (ms : List Message) (answer body etag : List ℕ) (j : IsJoined body etag ms) → answer ≡ body ++ m.payload → BeginsAt (length body) (block2_of m) → IsLastBlock (block2_of m) → etag_of m ≡ etag →
    IsOneAnswer answer m ms
answer_of m ms answer body etag j is begins last same = record {
  older = j.blocks;
  before = j.before;
  last = j.last;
  joined = is ∙ ap (λ x. x ++ m.payload) j.joined;
  whole = last;
  in_order = (j.in_order, subst (λ x. BeginsAt (length x) (block2_of m)) j.joined begins);
  version = subst (λ t. All (λ x. etag_of x ≡ t) j.blocks) (sym same) j.version;
}

answer_alone : (m : Message) (ms : List Message) (answer : List ℕ) → answer ≡ m.payload → BeginsAt 0 (block2_of m) → IsLastBlock (block2_of m) → IsOneAnswer answer m ms
answer_alone m ms answer is begins last = record {
  older = [];
  before = ms;
  last = refl;
  joined = is;
  whole = last;
  in_order = (tt, begins);
  version = All-nil (λ x. etag_of x ≡ etag_of m);
}

-- after the reply `m`, the response so far is joined; if the fetch ends by a success, the whole
-- response is.
abbrev pub Joins : Message → List Message → State → Type 0
Joins m ms (Ended code body) = is_success code ≡ true → IsOneAnswer body m ms
Joins m ms other = HasJoined (m ∷ ms) other

-- if a reply begins a response, the response so far is that reply's payload.
pub begun : (m : Message) (ms : List Message) (body etag : List ℕ) (n : Next) → body ≡ [] → JoinsAt 0 (length m.payload) (block2_of m) n → Joins m ms (moved_on n body etag m)
begun m ms body etag (next.Ask Whole) none j = none
begun m ms body etag (next.Ask (Body n szx)) none j = none
begun m ms body etag (next.Ask (Answer n szx)) none j =
    let is : body ++ m.payload ≡ m.payload = ap (λ x. x ++ m.payload) none in
    (subst (λ x. IsJoined x (etag_of m) (m ∷ ms)) (sym is) (one m ms j.0), let count = ap length is in omega (arith, j.1, count))
begun m ms body etag next.Last none j = λ _. answer_alone m ms (body ++ m.payload) (ap (λ x. x ++ m.payload) none) j.0 j.1
begun m ms body etag next.Refused none j = absurd j
begun m ms body etag next.Stale none j = tt
begun m ms body etag next.Malformed none j = tt

-- if a reply is a further block with the same ETag, the response so far is joined with its payload.
grown : (m : Message) (ms : List Message) (body etag : List ℕ) (n : Next) → IsJoined body etag ms → etag_of m ≡ etag → JoinsAt (length body) (length m.payload) (block2_of m) n →
    Joins m ms (moved_on n body etag m)
grown m ms body etag (next.Ask Whole) so same j = empty body j
  where
    empty : (xs : List ℕ) → length xs ≡ 0 → xs ≡ []
    empty [] e = refl
    empty (x ∷ xs) e = absurd (cc e)
grown m ms body etag (next.Ask (Body n szx)) so same j = empty body j
  where
    empty : (xs : List ℕ) → length xs ≡ 0 → xs ≡ []
    empty [] e = refl
    empty (x ∷ xs) e = absurd (cc e)
grown m ms body etag (next.Ask (Answer n szx)) so same j = (more m ms body etag so j.0 same, omega (arith, j.1, length-append body m.payload))
grown m ms body etag next.Last so same j = λ _. answer_of m ms (body ++ m.payload) body etag so refl j.0 j.1 same
grown m ms body etag next.Refused so same j = absurd j
grown m ms body etag next.Stale so same j = tt
grown m ms body etag next.Malformed so same j = tt

part_joins : (count : ℕ) (part : Part) (body etag : List ℕ) (m : Message) (ms : List Message) → HasJoined ms (Out part body etag) →
    Joins m ms (moved_on (by_part count part etag m) body etag m)
part_joins count Whole body etag m ms so = begun m ms body etag _ so (whole_joins 0 m)
part_joins count (Body n szx) body etag m ms so =
    begun m ms body etag _ so (either (JoinsAt 0 (length m.payload) (block2_of m)) (has_more count n szx) (next_of_body n szx (next_size n szx (is_continue m) (block1_of m))) (next_of_whole n m)
    (λ _. body_joins n szx (length m.payload) (block2_of m) _) (λ _. whole_joins n m))
part_joins count (Answer n szx) body etag m ms so =
    either (λ x. Joins m ms (moved_on x body etag m)) (bytes_eq (etag_of m) etag) _ next.Stale
    (λ equal. grown m ms body etag _ so.0 ((bytes_eq-Decides (etag_of m) etag).0 equal)
    (either (JoinsAt (length body) (length m.payload) (block2_of m)) (is_continue m) next.Malformed (next_of_answer n szx m) (λ _. tt) (λ _. option_joins n szx (length m.payload) (length body) (block2_of m) so.1)))
    (λ _. tt)

pub reply_joins : (count : ℕ) (part : Part) (body etag : List ℕ) (m : Message) (ms : List Message) → HasJoined ms (Out part body etag) →
    Joins m ms (after_reply count m (Out part body etag))
reply_joins count part body etag m ms so =
    let P : Next → Type 0 = λ n. Joins m ms (moved_on n body etag m) in
    either P (is_understood m) (next_by_code count part etag m) next.Malformed
    (λ _. either P (is_success m.code) (by_part count part etag m) next.Refused
    (λ _. part_joins count part body etag m ms so)
    (λ failed success. absurd (cc (failed, success))))
    (λ _. tt)

pub weaker : (m : Message) (ms : List Message) (s : State) → Joins m ms s → HasJoined (m ∷ ms) s
weaker m ms (Out part body etag) j = j
weaker m ms (Ended code body) j = tt
weaker m ms Outdated j = tt
weaker m ms Lost j = tt

pub step_joins : (count : ℕ) (m : Message) (ms : List Message) (s : State) → HasJoined ms s → HasJoined (m ∷ ms) (after_reply count m s)
step_joins count m ms (Out part body etag) so = weaker m ms (after_reply count m (Out part body etag)) (reply_joins count part body etag m ms so)
step_joins count m ms (Ended code body) so = tt
step_joins count m ms Outdated so = tt
step_joins count m ms Lost so = tt

first_joins : (method : Method) (count : ℕ) → HasJoined [] (Out (first_part method count) [] [])
first_joins Get count = refl
first_joins Post count = refl
first_joins Delete count = refl
first_joins Put count = either (λ p. HasJoined [] (Out p [] [])) (nat_lt 1024 count) (Body 0 6) Whole (λ _. refl) (λ _. refl)

pub has_joined : (e : ClientRequest) (ms : List Message) → HasJoined ms (state_after e ms)
has_joined e [] = first_joins e.method (length e.payload.now)
has_joined e (m ∷ ms) = step_joins (length e.payload.now) m ms (state_after e ms) (has_joined e ms)

pub one_answer : (e : ClientRequest) (m : Message) (ms : List Message) (part : Part) (body etag answer : List ℕ) (code : ℕ) → state_after e ms ≡ Out part body etag →
    after_reply (length e.payload.now) m (state_after e ms) ≡ Ended code answer → is_success code ≡ true → IsOneAnswer answer m ms
one_answer e m ms part body etag answer code out ends success =
    let so = subst (HasJoined ms) out (has_joined e ms) in
    let is = sym (ap (after_reply (length e.payload.now) m) out) ∙ ends in
    subst (Joins m ms) is (reply_joins (length e.payload.now) part body etag m ms so) success
