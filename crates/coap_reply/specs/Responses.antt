-- Responses, and their encoding as messages (RFC 7252, section 5.2).
use Rattle.std.specs.Prelude.{ℕ, ◌==◌, ◌%◌, Bool, true, false, if◌then◌else◌, List, [], ◌∷◌, ◌++◌, Option, Some, None}
use Rattle.std.specs.Int.{w64, to_be_bytes}
use Rattle.coap_msg.specs.declared.types.Endpoint.{Endpoint}
use Rattle.coap_msg.specs.declared.types.Emission.{Emission}
use Rattle.coap_msg.specs.declared.types.MessageType.{MessageType}
use Rattle.coap_msg.specs.declared.types.MessageType.TheVariants.{NonConfirmable, Acknowledgement, Reset}
use Rattle.coap_msg.specs.Codes.{code}
use Rattle.coap_msg.specs.Wire.{message_bytes}
use Rattle.coap_opts.specs.declared.number.TheConstants as option
use Rattle.coap_opts.specs.Values.{Place, uint_bytes}
use Rattle.coap_block.specs.Cuts.{Part, part_bytes}
use Rattle.coap_reply.specs.Blocks.{block1, block2}

-- a response: its code, its options in the order of their numbers, and its payload.
pub record Response : Type 0 where
  pub code : ℕ
  pub options : List (ℕ × List ℕ)
  pub payload : List ℕ

-- a response with a payload and without options.
abbrev pub text : ℕ → List ℕ → Response
text answer payload = record { code = answer; options = []; payload = payload }

-- a response without options and payload.
abbrev pub bare : ℕ → Response
bare answer = text answer []

-- the response to a block that is answered immediately: a code, and the block's Block1 option if a
-- place is given.
abbrev pub settled_by : ℕ → Option Place → Response
settled_by answer place = record { code = answer; options = block1 place; payload = [] }

-- the ETag of a revision counter: its eight bytes, the most significant first (RFC 7252, section
-- 5.10.6).
abbrev pub etag : ℕ → List (ℕ × List ℕ)
etag serial = (option.ETAG, to_be_bytes w64 serial) ∷ []

-- the sequence number of a notification is the lowest 24 bits of the revision counter; other
-- responses have none (RFC 7641, section 4.4).
abbrev pub observe_option : Bool → ℕ → List (ℕ × List ℕ)
observe_option true serial = (option.OBSERVE, uint_bytes (serial % 16777216)) ∷ []
observe_option false serial = []

-- a 2.05 (Content): these options, and the requested block with its Block2 option; 4.00 if there is
-- no such block.
abbrev pub content : List (ℕ × List ℕ) → Option Part → Response
content options None = bare (code 4 0)
content options (Some part) = record { code = code 2 5; options = options ++ block2 part.place; payload = part.bytes }

-- the response to a run, by the run's code. A 2.05 (Content) has the revision counter that the run
-- found as its ETag. If the client observes the slot, the 2.05 also has the sequence number. A 2.04
-- (Changed) carries the bytes alone, and an error carries nothing.
abbrev pub ran_response : ℕ → Option Part → ℕ → Bool → Response
ran_response answer cut serial observed =
    if answer == code 2 5 then content (etag serial ++ observe_option observed serial) cut else (if answer == code 2 4 then text answer (part_bytes cut) else bare answer)

-- the header fields of a response: its receiver, its type, its message ID and the request's token.
pub record Envelope : Type 0 where
  pub to : Endpoint
  pub kind : MessageType
  pub id : ℕ
  pub token : List ℕ

-- the response to a confirmable request is piggybacked in its acknowledgement; any other response
-- goes in a non-confirmable message.
abbrev pub reply_kind : Bool → MessageType
reply_kind true = Acknowledgement
reply_kind false = NonConfirmable

-- the emission of a response, with the header fields and the receiver of its envelope.
unfoldable pub sent_in : Envelope → Response → Emission
sent_in e r = record {
  to = e.to;
  bytes = record { items = message_bytes (record { kind = e.kind; code = r.code; id = e.id; token = e.token; options = r.options; payload = r.payload }) };
}

-- a Reset message (RFC 7252, section 4.2).
abbrev pub reset_of : Endpoint → ℕ → Emission
reset_of to id = sent_in (record { to = to; kind = Reset; id = id; token = [] }) (bare 0)
