-- Requests to change a program, and the text that records such a request.
use Rattle.std.specs.Prelude.{◌≡◌, ◌⊎◌, ℕ, ◌++◌, List, [], ◌∷◌, Option, Some, None, Result, Ok, Err, IsUtf8, codes, slice_index}
use Rattle.std.specs.Fmt.{decimal}
use Rattle.hex.specs.Hex.{encode_lower}
use Rattle.sha2.specs.Sha256.{sha256}
use Rattle.coap_msg.specs.declared.types.Emission.{Emission}
use Rattle.coap_msg.specs.declared.types.Endpoint.{Endpoint}
use Rattle.coap_msg.specs.declared.types.Bad.{Bad}
use Rattle.coap_msg.specs.Codes.{code_text}
use Rattle.coap_msg.specs.Reading.{reading_of}
use Rattle.coap_msg.specs.Wire.{Message}
use Rattle.fc_ticket.specs.declared.job.Ask.{Ask}
use Rattle.fc_ticket.specs.declared.job.Ask.TheVariants.{Install, Remove}
use Rattle.fc_ticket.specs.declared.job.Job.{Job}

-- a response: its code, and its diagnostic payload or the receipt (RFC 7252, section 5.5.2).
pub record Coded : Type 0 where
  pub code : ℕ
  pub note : List ℕ

-- a request to change a slot's program: its sender, the image to install, and the response. A
-- removal has no image, and the response may be missing.
pub record Requested : Type 0 where
  pub peer : Endpoint
  pub slot : ℕ
  pub image : Option (List ℕ)
  pub response : Option Coded

-- ---- the jobs that ask for a change

-- the change that a job requests: to install this image, to remove the program (`Some None`), or no
-- change (`None`).
abbrev pub change_in : Ask → Option (Option (List ℕ))
change_in (Install body initial) = Some (Some body.items)
change_in Remove = Some None
change_in other = None

-- the note is the payload if that is UTF-8, and otherwise empty.
abbrev pub IsNote : List ℕ → List ℕ → Type 0
IsNote payload note = (IsUtf8 payload × (note ≡ payload)) ⊎ ((IsUtf8 payload → ⊥) × (note ≡ []))

-- the response in a datagram: the code and the payload of its message. A datagram that is no
-- message has no response; a server sends no such datagram.
abbrev pub IsResponseIn : Result Message Bad → Option Coded → Type 0
IsResponseIn (Ok message) response =
    (note : List ℕ) × IsNote message.payload note × (response ≡ Some (record { code = message.code; note = note }))
IsResponseIn (Err bad) response = response ≡ None

abbrev pub IsResponseBy : Option Emission → Option Coded → Type 0
IsResponseBy (Some emission) response = IsResponseIn (reading_of emission.bytes.items) response
IsResponseBy None response = response ≡ None

-- the request to change a program that a job makes, with this reply as its response.
pub record IsRequestOf (job : Job) (sent : Option Emission) (request : Requested) : Type 0 where
  pub peer : request.peer ≡ job.origin.endpoint
  pub slot : request.slot ≡ job.origin.slot
  pub order : change_in job.ask ≡ Some request.image
  pub response : IsResponseBy sent request.response

-- ---- the text

-- the method by its name (RFC 7252, section 5.8).
abbrev pub method_text : Option (List ℕ) → List ℕ
method_text (Some image) = codes "PUT"
method_text None = codes "DELETE"

-- an endpoint, as `192.0.2.7:40001`.
abbrev pub peer_text : Endpoint → List ℕ
peer_text peer =
    decimal (slice_index peer.ip 0) ++ (codes "." ++ (decimal (slice_index peer.ip 1) ++ (codes "." ++ (decimal (slice_index peer.ip 2) ++ (codes "."
    ++ (decimal (slice_index peer.ip 3) ++ (codes ":" ++ decimal peer.port)))))))

-- a space and the text, or nothing if the text is empty.
abbrev pub after_space : List ℕ → List ℕ
after_space [] = []
after_space (c ∷ text) = codes " " ++ (c ∷ text)

-- the response, as ` code=2.01 version=1 cost=2 budget=2 vars=0`, as ` code=4.00 V16 slot 0`,
-- as ` code=2.02` or as ` unanswered`.
abbrev pub response_text : Option Coded → List ℕ
response_text (Some response) = codes " code=" ++ (code_text response.code ++ after_space response.note)
response_text None = codes " unanswered"

-- the SHA-256 digest of the image, in hex digits (FIPS 180-4).
abbrev pub digest_text : Option (List ℕ) → List ℕ
digest_text (Some image) = codes " sha256=" ++ encode_lower (sha256 image)
digest_text None = []

-- the line of a request, as
-- `change PUT /p/3 peer=192.0.2.7:40001 code=2.01 version=1 cost=2 budget=2 vars=0 sha256=..` or
-- `change DELETE /p/3 peer=192.0.2.7:40001 code=2.02`.
abbrev pub request_text : Requested → List ℕ
request_text r =
    codes "change " ++ (method_text r.image ++ (codes " /p/" ++ (decimal r.slot ++ (codes " peer=" ++ (peer_text r.peer ++ (response_text r.response ++ digest_text r.image))))))
