-- The parts of a request's body that a fetch sent, and the parts of the response that it joined.
use Rattle.std.specs.Prelude.{◌≡◌, ℕ, ◌*◌, ◌≤◌, true, false, List, [], ◌∷◌, ◌++◌, length, Option, Some, None}
use Rattle.std.specs.List.{All}
use Rattle.coap_msg.specs.Wire.{Message, message_bytes}
use Rattle.coap_msg.specs.declared.code.TheConstants.Code as registered
use Rattle.coap_opts.specs.Values.{block_size, place_in}
use Rattle.coap_client.specs.declared.client_request.ClientRequest.{ClientRequest}
use Rattle.coap_client.specs.Replies.{block1_of, block2_of, etag_of, is_success}

-- the payloads of these messages, joined in order of arrival; the list has the newest message
-- first.
abbrev pub payloads : List Message → List ℕ
payloads [] = []
payloads (m ∷ ms) = payloads ms ++ m.payload

-- the block that Block2 names begins at this offset in bytes (RFC 7959, section 2.2). Without
-- Block2 the offset is 0.
abbrev pub BeginsAt : ℕ → Option (List ℕ) → Type 0
BeginsAt offset None = offset ≡ 0
BeginsAt offset (Some value) = block_size (place_in value).szx * (place_in value).number ≡ offset

-- each of these blocks begins at the end of the blocks before it.
abbrev pub AreBlocksInOrder : List Message → Type 0
AreBlocksInOrder [] = Unit {0}
AreBlocksInOrder (m ∷ ms) = AreBlocksInOrder ms × BeginsAt (length (payloads ms)) (block2_of m)

-- by its Block2, or without Block2, no block follows this one.
abbrev pub IsLastBlock : Option (List ℕ) → Type 0
IsLastBlock None = Unit {0}
IsLastBlock (Some value) = (place_in value).more ≡ false

-- the response consists of the payloads of the reply `m` and of the latest replies before it,
-- joined. No block follows the last one, and each block begins at the end of the blocks before it.
-- Either all of these replies have the same ETag, or none has one (RFC 7959, section 2.4).
pub record IsOneAnswer (answer : List ℕ) (m : Message) (replies : List Message) : Type 0 where
  pub older : List Message
  pub before : List Message
  pub last : replies ≡ older ++ before
  pub joined : answer ≡ payloads (m ∷ older)
  pub whole : IsLastBlock (block2_of m)
  pub in_order : AreBlocksInOrder (m ∷ older)
  pub version : All (λ x. etag_of x ≡ etag_of m) older

-- the payloads of requests that were sent, joined in order, are the whole body.
pub record WentWhole (went : List ℕ → Type 0) (body : List ℕ) : Type 0 where
  pub requests : List Message
  pub each : All (λ r. went (message_bytes r)) requests
  pub joined : payloads requests ≡ body

-- if the fetch ended with a success, requests that were sent have the whole body as their payloads.
abbrev pub SendsWhole : (List ℕ → Type 0) → ClientRequest → ℕ → Type 0
SendsWhole went e code = is_success code ≡ true → WentWhole went e.payload.now

-- the message is a success, and says that the server took block n, which others follow. It says so
-- by a Block1 with the number n and no greater size, or by 2.31 without Block1 (RFC 7959, sections
-- 2.3 and 2.9.1).
abbrev pub NamesTaken : ℕ → ℕ → Message → Option (List ℕ) → Type 0
NamesTaken n szx m None = m.code ≡ registered.CONTINUE.byte
NamesTaken n szx m (Some value) = ((place_in value).number ≡ n) × ((place_in value).szx ≤ szx)

pub record SaysTaken (n szx : ℕ) (m : Message) : Type 0 where
  pub success : is_success m.code ≡ true
  pub names : NamesTaken n szx m (block1_of m)
