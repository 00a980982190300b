-- The messages that answer a request, and the next step of a fetch after a response.
use Rattle.std.specs.Prelude.{◌≡◌, ℕ, ◌+◌, ◌-◌, ◌*◌, ◌/◌, ◌^◌, ◌%◌, ◌==◌, ◌&&◌, ◌||◌, not, Bool, true, false, nat_eq, nat_lt, nat_le, if◌then◌else◌, bytes_eq, List, [], ◌∷◌, length, Option, Some, None}
use Rattle.std.specs.List.{list_all, list_any}
use Rattle.coap_msg.specs.Wire.{Message}
use Rattle.coap_msg.specs.Values.{values_in}
use Rattle.coap_msg.specs.declared.code.TheConstants.Code as registered
use Rattle.coap_msg.specs.declared.types.MessageType.{MessageType}
use Rattle.coap_msg.specs.declared.types.MessageType.TheVariants.{Acknowledgement, Confirmable, NonConfirmable, Reset}
use Rattle.coap_opts.specs.Values.{Place, block_size, place_in}
use Rattle.coap_opts.specs.declared.number.TheConstants as option
use Rattle.coap_client.specs.declared.part.Part.{Part}
use Rattle.coap_client.specs.declared.part.Part.TheVariants.{Whole, Body, Answer}
use Rattle.coap_client.specs.declared.reply.Next.{Next}
use Rattle.coap_client.specs.declared.reply.Next.TheVariants.{Ask, Last, Refused, Stale, Malformed}
use Rattle.coap_client.specs.Parts.{has_more, largest_szx}

-- a response code: class 2, 4 or 5 (RFC 7252, section 5.9).
abbrev pub is_response : ℕ → Bool
is_response code = (code / 32 == 2) || ((code / 32 == 4) || (code / 32 == 5))

-- the message is the piggybacked response to the request with this message ID, which had no token
-- (RFC 7252, section 5.2.1).
pub record IsReply (id : ℕ) (m : Message) : Type 0 where
  pub kind : m.kind ≡ Acknowledgement
  pub id_is : m.id ≡ id
  pub token : m.token ≡ []
  pub response : is_response m.code ≡ true

-- the message is an empty acknowledgement of the request with this message ID. A separate response
-- may follow (RFC 7252, section 5.2.2).
pub record IsEmptyAcknowledgement (id : ℕ) (m : Message) : Type 0 where
  pub kind : m.kind ≡ Acknowledgement
  pub id_is : m.id ≡ id
  pub empty : m.code ≡ 0

-- a message of this type begins an exchange: it is confirmable or non-confirmable.
abbrev pub begins_exchange : MessageType → Bool
begins_exchange Confirmable = true
begins_exchange NonConfirmable = true
begins_exchange other = false

-- the message is a separate response to a request without a token (RFC 7252, sections 5.2.2 and
-- 5.2.3).
pub record IsSeparate (m : Message) : Type 0 where
  pub kind : begins_exchange m.kind ≡ true
  pub token : m.token ≡ []
  pub response : is_response m.code ≡ true

-- a message with one of these message IDs was received before.
abbrev pub is_taken : List ℕ → ℕ → Bool
is_taken earlier id = list_any (λ y. nat_eq y id) earlier

-- the message rejects the request with this message ID (RFC 7252, section 4.2).
pub record IsReset (id : ℕ) (m : Message) : Type 0 where
  pub kind : m.kind ≡ Reset
  pub id_is : m.id ≡ id
  pub empty : m.code ≡ 0

-- the option with this number is elective, so it may be unknown, or it is Block1 or Block2. These
-- are the critical options that the client knows in responses (RFC 7252, sections 5.4.1 and 5.4.6).
abbrev pub is_known_option : ℕ → Bool
is_known_option number = (number % 2 == 0) || ((number == option.BLOCK1) || (number == option.BLOCK2))

-- there is at most one option of this number.
abbrev pub is_single : ℕ → Message → Bool
is_single number m = nat_le (length (values_in number m.options)) 1

-- no critical option is unknown or repeated (RFC 7252, sections 5.4.1 and 5.4.5).
abbrev pub is_understood : Message → Bool
is_understood m = list_all (λ o. is_known_option o.0) m.options && (is_single option.BLOCK1 m && is_single option.BLOCK2 m)

-- the code is of the success class, 2 (RFC 7252, section 5.9.1).
abbrev pub is_success : ℕ → Bool
is_success code = code / 32 == 2

-- the message has code 2.31 (Continue): the server took the block, and expects more blocks of the
-- body (RFC 7959, section 2.9.1).
abbrev pub is_continue : Message → Bool
is_continue m = m.code == registered.CONTINUE.byte

abbrev pub first_or_none : List (List ℕ) → Option (List ℕ)
first_or_none [] = None
first_or_none (v ∷ vs) = Some v

-- the values of Block1 and Block2 (RFC 7959, section 2.1).
abbrev pub block1_of : Message → Option (List ℕ)
block1_of m = first_or_none (values_in option.BLOCK1 m.options)

abbrev pub block2_of : Message → Option (List ℕ)
block2_of m = first_or_none (values_in option.BLOCK2 m.options)

abbrev pub or_empty : Option (List ℕ) → List ℕ
or_empty None = []
or_empty (Some v) = v

-- the value of the ETag option, or no bytes if the message has none.
abbrev pub etag_of : Message → List ℕ
etag_of m = or_empty (first_or_none (values_in option.ETAG m.options))

-- the next step after a block of the response that others follow.
abbrev pub next_block : Place → Next
next_block b = if nat_lt (b.number + 1) 1048576 then Ask (Answer (b.number + 1) b.szx) else Malformed

-- the next step after a block of `count` bytes of the response. If other blocks follow, this block
-- has exactly the block size; if not, it has at most that size.
abbrev pub by_more : Place → ℕ → Next
by_more b count = if b.more
    then (if count == block_size b.szx then next_block b else Malformed)
    else (if nat_le count (block_size b.szx) then Last else Malformed)

-- the block of the response begins where the requested block n begins, and isn't larger than that
-- (RFC 7959, sections 2.3 and 2.4).
abbrev pub fits_place : ℕ → ℕ → Place → Bool
fits_place n szx b = nat_le b.szx szx && (block_size b.szx * b.number == block_size szx * n)

abbrev pub by_block : ℕ → ℕ → ℕ → Place → Next
by_block n szx count b = if fits_place n szx b then by_more b count else Malformed

-- the next step by the value of Block2. A response without Block2 is whole.
abbrev pub by_option : ℕ → ℕ → ℕ → Option (List ℕ) → Next
by_option n szx count None = if n == 0 then Last else Malformed
by_option n szx count (Some value) = if nat_le (length value) 3 then by_block n szx count (place_in value) else Malformed

-- the next step after the response to a request for block n of this size.
abbrev pub next_of_answer : ℕ → ℕ → Message → Next
next_of_answer n szx m = by_option n szx (length m.payload) (block2_of m)

-- the size exponent for the rest of the body, if a success says that the server took block n. It
-- says so by a Block1 with that number and no greater size, or by 2.31 without Block1 (RFC 7959,
-- sections 2.3 and 2.9.1). A success other than 2.31 is from a server that carries out each block
-- by itself, or waits for the other blocks.
abbrev pub size_by_block : ℕ → ℕ → Place → Option ℕ
size_by_block n szx b = if (b.number == n) && nat_le b.szx szx then Some b.szx else None

abbrev pub next_size : ℕ → ℕ → Bool → Option (List ℕ) → Option ℕ
next_size n szx continued None = if continued then Some szx else None
next_size n szx continued (Some value) = if nat_le (length value) 3 then size_by_block n szx (place_in value) else None

-- the number of the block after block n, counted in blocks of the size exponent `smaller`.
abbrev pub next_number : ℕ → ℕ → ℕ → ℕ
next_number n szx smaller = (n + 1) * 2 ^ (szx - smaller)

abbrev pub next_of_body : ℕ → ℕ → Option ℕ → Next
next_of_body n szx None = Malformed
next_of_body n szx (Some smaller) =
    if nat_lt (next_number n szx smaller) 1048576 then Ask (Body (next_number n szx smaller) smaller) else Malformed

-- a success is the response to the whole request (`is_final`) if its code isn't 2.31 and its Block1
-- is that of the last block n. Block1, if there is one, names block n and says that no block
-- follows (RFC 7959, section 2.3).
abbrev pub names_last : ℕ → Place → Bool
names_last n b = (b.number == n) && not b.more

abbrev pub says_last : ℕ → Option (List ℕ) → Bool
says_last n None = true
says_last n (Some value) = nat_le (length value) 3 && names_last n (place_in value)

abbrev pub is_final : ℕ → Message → Bool
is_final n m = not (is_continue m) && says_last n (block1_of m)

abbrev pub next_of_whole : ℕ → Message → Next
next_of_whole n m = if is_final n m then next_of_answer 0 largest_szx m else Malformed

-- the next step after a further block of the response. If the block's ETag isn't that of the blocks
-- before it, the response has changed, and the step is `Stale` (RFC 7959, section 2.4).
abbrev pub next_of_further : ℕ → ℕ → List ℕ → Message → Next
next_of_further n szx etag m =
    if bytes_eq (etag_of m) etag then (if is_continue m then Malformed else next_of_answer n szx m) else Stale

abbrev pub by_part : ℕ → Part → List ℕ → Message → Next
by_part count Whole etag m = next_of_whole 0 m
by_part count (Answer n szx) etag m = next_of_further n szx etag m
by_part count (Body n szx) etag m =
    if has_more count n szx then next_of_body n szx (next_size n szx (is_continue m) (block1_of m)) else next_of_whole n m

abbrev pub next_by_code : ℕ → Part → List ℕ → Message → Next
next_by_code count part etag m = if is_success m.code then by_part count part etag m else Refused

-- the next step after a response to the request of `part`. The request's body has `count` bytes,
-- and the response's blocks so far have the ETag `etag`.
abbrev pub next_of : ℕ → Part → List ℕ → Message → Next
next_of count part etag m = if is_understood m then next_by_code count part etag m else Malformed
