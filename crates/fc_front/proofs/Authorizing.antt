-- The handling of a request that its endpoint isn't allowed to send.
use Rattle.std.proofs.Common.{◌≡◌, Bool, true, false, sym, ap, ◌∙◌}
use Rattle.coap_msg.specs.Wire.{Message}
use Rattle.coap_msg.specs.declared.code.Code.{Code}
use Rattle.coap_msg.specs.declared.types.Endpoint.{Endpoint}
use Rattle.coap_opts.specs.declared.request.Asking.{Asking}
use Rattle.coap_opts.specs.declared.request.Asking.TheVariants.{Serve, Refuse, Silent}
use Rattle.coap_opts.specs.declared.request.Request.{Request}
use Rattle.coap_opts.specs.Verdict.{asked_by}
use Rattle.fc_front.specs.Askings.{new_request, authorized}
use Rattle.fc_front.specs.Exchanges.{FrontState}
use Rattle.fc_front.specs.Policies.{is_allowed}
use Rattle.fc_front.specs.Receiving.{Refused, received_if}

-- if a request is refused after the check of its endpoint, the front refuses it by the same code.
pub is_refused : (f : FrontState) (to : Endpoint) (m : Message) (asking : Asking (Unit {0})) (request : Request) (answer : Code) (allowed : Bool)
    → is_allowed f.managers to request.action ≡ allowed → authorized allowed asking ≡ Refuse answer → new_request f to m asking request ≡ Refused m answer.byte
is_refused f to m (Serve done) request answer true allowed is = absurd (cc is)
is_refused f to m (Serve done) request answer false allowed is = ap (λ (b : Bool). received_if b f to m (asked_by request)) allowed ∙ (let same = sym is in cc same)
is_refused f to m (Refuse other) request answer true allowed is = (let same : other ≡ answer = cc is in ap (λ (c : Code). Refused m c.byte) same)
is_refused f to m (Refuse other) request answer false allowed is = (let same : other ≡ answer = cc is in ap (λ (c : Code). Refused m c.byte) same)
is_refused f to m Silent request answer true allowed is = absurd (cc is)
is_refused f to m Silent request answer false allowed is = absurd (cc is)
