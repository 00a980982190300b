use Rattle.std.proofs.Common.{◌≡◌, refl, ap, sym, ◌∙◌}
use Rattle.coap_msg.specs.Reading.{reading_of}
use Rattle.coap_msg.specs.Wire.{message_bytes}
use Rattle.coap_reply.specs.Responses.{Envelope, Response, sent_in}
use Rattle.coap_reply.proofs.laws.replies_are_read_as_their_responses.Goals as goal

to_its_peer : (e : Envelope) (r : Response) → (sent_in e r).to ≡ e.to
unfolding sent_in
to_its_peer e r = refl

by_its_bytes : (e : Envelope) (r : Response) → (sent_in e r).bytes.items
    ≡ message_bytes (record { kind = e.kind; code = r.code; id = e.id; token = e.token; options = r.options; payload = r.payload })
unfolding sent_in
by_its_bytes e r = refl

pub returns-clause-to : goal.returns-clause-to
returns-clause-to c = to_its_peer

pub returns-clause-message : goal.returns-clause-message
returns-clause-message c e r m limits is = ap reading_of (by_its_bytes e r ∙ ap message_bytes (sym is)) ∙ c.written_is_read.ensures m limits
