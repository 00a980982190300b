-- The contents of a client's requests. A request has the whole body, or a block of a body that is
-- too large for one request (RFC 7959, section 2.5). Or it has a block option that requests a
-- further block of the response (RFC 7959, section 2.4).
use Rattle.std.specs.Prelude.{ℕ, ◌+◌, ◌*◌, ◌≤◌, ◌^◌, nat_lt, Bool, true, false, min, if◌then◌else◌, List, [], ◌∷◌, ◌++◌, length, take, drop, map, sum_by, Option, Some, None}
use Rattle.coap_msg.specs.declared.types.MessageType.{MessageType}
use Rattle.coap_msg.specs.declared.types.MessageType.TheVariants.{Confirmable, NonConfirmable}
use Rattle.coap_opts.specs.Values.{block_bytes, block_size, uint_bytes}
use Rattle.coap_opts.specs.declared.number.TheConstants as option
use Rattle.coap_opts.specs.declared.request.Method.{Method}
use Rattle.coap_opts.specs.declared.request.Method.TheVariants.{Get, Put}
use Rattle.coap_client.specs.declared.part.Part.{Part}
use Rattle.coap_client.specs.declared.part.Part.TheVariants.{Whole, Body, Answer}
use Rattle.arrayvec.specs.ArrayVec.{ArrayVec}

-- the length of the largest block in bytes, 2^10. Block options have the exponent less 4, SZX 6.
abbrev pub largest_block : ℕ
largest_block = 1024

abbrev pub largest_szx : ℕ
largest_szx = 6

-- the greatest number of bytes of a body in one request: a PUT sends blocks of at most 1,024 bytes,
-- and the other methods send the whole body.
abbrev pub most_at_once : Method → ℕ → ℕ
most_at_once Put count = min count largest_block
most_at_once other count = count

-- the room in bytes that is reserved for an option: its value, and at most five bytes before it.
abbrev pub option_room : List ℕ → ℕ
option_room value = length value + 5

-- each request fits a datagram of 1,280 bytes, of which 18 are reserved for the header, the payload
-- marker and a block option. The payload has at most 2^30 bytes.
pub record FitsDatagrams (method : Method) (segments query : List (List ℕ)) (payload : List ℕ) : Type 0 where
  pub room : sum_by option_room segments + (sum_by option_room query + most_at_once method (length payload)) ≤ 1262
  pub blocks : length payload ≤ 2 ^ 30

abbrev pub request_kind : Bool → MessageType
request_kind true = Confirmable
request_kind false = NonConfirmable

-- the content of the first request: block 0 of the body, if the method is PUT and the body is
-- longer than a block; and else the whole body.
abbrev pub first_part : Method → ℕ → Part
first_part Put count = if nat_lt largest_block count then Body 0 largest_szx else Whole
first_part other count = Whole

-- whether a block follows block n of this size, in a body of `count` bytes.
abbrev pub has_more : ℕ → ℕ → ℕ → Bool
has_more count n szx = nat_lt (block_size szx * (n + 1)) count

-- the value of a block option.
abbrev pub block_option : ℕ → Bool → ℕ → List ℕ
block_option n more szx = block_bytes (record { number = n; more = more; szx = szx })

-- options with this number, one for each value.
abbrev pub numbered : ℕ → List (List ℕ) → List (ℕ × List ℕ)
numbered number values = map (λ v. (number, v)) values

-- the Content-Format option, if a format is given (RFC 7252, section 5.10.3).
abbrev pub format_option : Option ℕ → List (ℕ × List ℕ)
format_option None = []
format_option (Some format) = (option.CONTENT_FORMAT, uint_bytes format) ∷ []

-- whether a request has the body, or a block of it; a request for a further block of the response
-- has the body only if it is a GET.
abbrev pub brings_body : Method → Part → Bool
brings_body Get part = true
brings_body method (Answer n szx) = false
brings_body method part = true

-- the Content-Format is in the requests that have the body.
abbrev pub format_options : Method → Part → Option ℕ → List (ℕ × List ℕ)
format_options method part format = if brings_body method part then format_option format else []

-- the options of a resource: its path and its query (RFC 7252, section 5.10.1).
abbrev pub resource_options : List (List ℕ) → List (List ℕ) → List (ℕ × List ℕ)
resource_options segments query = numbered option.URI_PATH segments ++ numbered option.URI_QUERY query

-- the options of a request: the path, the Content-Format and the query, in the order of the option
-- numbers (RFC 7252, section 3.1).
abbrev pub request_options : List (List ℕ) → List (ℕ × List ℕ) → List (List ℕ) → List (ℕ × List ℕ)
request_options segments format query = numbered option.URI_PATH segments ++ (format ++ numbered option.URI_QUERY query)

abbrev pub part_options : Part → ℕ → List (ℕ × List ℕ)
part_options Whole count = []
part_options (Body n szx) count = (option.BLOCK1, block_option n (has_more count n szx) szx) ∷ []
part_options (Answer n szx) count = (option.BLOCK2, block_option n false szx) ∷ []

-- the option with its number and its value's bytes, if there is one.
abbrev pub option_in : Option (ℕ × ArrayVec ℕ) → List (ℕ × List ℕ)
option_in None = []
option_in (Some (number, value)) = (number, value.items) ∷ []

-- the payload of a request for a further block of the response. A GET has its body in each request,
-- since the server makes the response again for each. The other methods have sent the body before.
abbrev pub answer_payload : Method → List ℕ → List ℕ
answer_payload Get payload = payload
answer_payload other payload = []

-- block n of a body.
abbrev pub block_of : List ℕ → ℕ → ℕ → List ℕ
block_of payload n szx = take (block_size szx) (drop (block_size szx * n) payload)

abbrev pub part_payload : Method → List ℕ → Part → List ℕ
part_payload method payload Whole = payload
part_payload method payload (Body n szx) = block_of payload n szx
part_payload method payload (Answer n szx) = answer_payload method payload
