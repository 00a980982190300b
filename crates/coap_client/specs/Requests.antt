-- The requests of a client, and the client's acknowledgement of a response.
use Rattle.std.specs.Prelude.{◌≡◌, ℕ, ◌*◌, ◌<◌, ◌≤◌, ◌^◌, List, [], ◌++◌, length}
use Rattle.coap_msg.specs.Wire.{Message}
use Rattle.std.specs.Int.{to_be_bytes, w16}
use Rattle.coap_msg.specs.declared.types.MessageType.TheVariants.{Acknowledgement, Confirmable}
use Rattle.coap_opts.specs.declared.request.Method.TheVariants.{Get, Put}
use Rattle.coap_opts.specs.Fields.{method_code}
use Rattle.coap_opts.specs.Values.{block_size}
use Rattle.coap_client.specs.declared.client_request.ClientRequest.{ClientRequest}
use Rattle.coap_client.specs.declared.part.Part.{Part}
use Rattle.coap_client.specs.declared.part.Part.TheVariants.{Whole, Body, Answer}
use Rattle.coap_client.specs.Paths.{slices_in}
use Rattle.coap_client.specs.Parts.{format_options, largest_szx, most_at_once, part_options, part_payload, request_kind, request_options}

-- the number of a block has 20 bits, and a block has at most 1,024 bytes (RFC 7959, section 2.2).
pub record IsBlock (n szx : ℕ) : Type 0 where
  pub number : n < 2 ^ 20
  pub size : szx ≤ largest_szx

-- block n with size exponent `szx` is one of the request's body; only a PUT sends blocks.
pub record IsBodyBlock (e : ClientRequest) (n szx : ℕ) : Type 0 where
  pub block : IsBlock n szx
  pub method : e.method ≡ Put
  pub within : block_size szx * n < length e.payload.now

-- the part is one that a request of the client request can have.
abbrev pub IsPartOf : ClientRequest → Part → Type 0
IsPartOf e Whole = most_at_once e.method (length e.payload.now) ≡ length e.payload.now
IsPartOf e (Body n szx) = IsBodyBlock e n szx
IsPartOf e (Answer n szx) = IsBlock n szx

-- the part is a further block of the response.
abbrev pub IsFurther : Part → Type 0
IsFurther (Answer n szx) = IsBlock n szx
IsFurther other = ⊥

-- the request of a part, with this message ID and no token.
abbrev pub part_request : ClientRequest → Part → ℕ → Message
part_request e part id = record {
  kind = request_kind e.confirmable;
  code = method_code e.method;
  id = id;
  token = [];
  options =
      request_options (slices_in e.target.path.segments.items) (format_options e.method part e.content_format) (slices_in e.target.query.items)
      ++ part_options part (length e.payload.now);
  payload = part_payload e.method e.payload.now part;
}

-- ---- an observer's request for a further block (RFC 7959, section 2.6)

-- the token of the request: the request's message ID as two bytes, most significant first.
abbrev pub block_token : ℕ → List ℕ
block_token id = to_be_bytes w16 id

-- the GET of block n with size exponent `szx`, without Observe.
abbrev pub block_request : ClientRequest → ℕ → ℕ → ℕ → Message
block_request e n szx id = record {
  kind = Confirmable;
  code = method_code Get;
  id = id;
  token = block_token id;
  options = request_options (slices_in e.target.path.segments.items) [] (slices_in e.target.query.items) ++ part_options (Answer n szx) 0;
  payload = [];
}

-- the acknowledgement of a message, which has only its message ID (RFC 7252, section 4.2).
abbrev pub acknowledgement : ℕ → Message
acknowledgement id = record { kind = Acknowledgement; code = 0; id = id; token = []; options = []; payload = [] }
