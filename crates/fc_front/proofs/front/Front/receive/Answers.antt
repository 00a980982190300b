use Rattle.std.proofs.Common.{◌≡◌, ℕ, ◌≤◌, List, length, sym, subst, arith}
use Rattle.coap_msg.specs.Wire.{Message}
use Rattle.coap_opts.specs.Classified.{IsErrorCode, asking_verdict, written_over}
use Rattle.coap_opts.specs.Verdict.{asked_by}
use Rattle.coap_opts.specs.Fields.{IsAskedWithin}
use Rattle.coap_opts.specs.Verdict.{Asked, Verdict, IsAsked, IsRefused}
use Rattle.coap_opts.specs.declared.request.Asking.{Asking}
use Rattle.coap_opts.specs.declared.request.Asking.TheVariants.{Serve, Refuse, Silent}
use Rattle.coap_opts.specs.declared.request.Request.{Request}
use Rattle.fc_front.specs.Askings.{IsAsking}
use Rattle.fc_front.proofs.front.Front.receive.Goals as goal

-- a request is as its verdict says: served within the limits, or refused by the code of a response.
within : (m : Message) (verdict : Verdict) → ((r : Asked) → verdict ≡ IsAsked r → IsAskedWithin m r)
    → ((answer : ℕ) → verdict ≡ IsRefused answer → IsErrorCode answer)
    → (a : Asking (Unit {0})) (request : Request) → asking_verdict (written_over request) a ≡ verdict → IsAsking a request
within m verdict accepted refused (Serve done) request h =
    let w = accepted (asked_by request) (sym h) in
    record { resource = w.resource; query = w.query; payload = subst (λ (p : List ℕ). length p ≤ 1024) (sym w.payload_is) w.short }
within m verdict accepted refused (Refuse answer) request h = let e = refused answer.byte (sym h) in omega (arith, e.at_least)
within m verdict accepted refused Silent request h = tt

pub request-requires : goal.request-requires
request-requires c =
    let m = c.args.message.now in
    within m _ (c.requests_are_within.ensures.accepted m) (c.requests_are_within.ensures.refused m) c.in-Request.asking c.classify_over.new.request c.in-Request.ensures
