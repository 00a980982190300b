-- The part of an answer that is sent if no block is requested, and the response of an error.
use Rattle.std.proofs.Common.{◌≡◌, ℕ, ◌<◌, ◌≤◌, List, ◌++◌, length, take, Bool, true, false, Option, Some, None, refl, ap, ◌∙◌, subst, if◌then◌else◌}
use Rattle.std.specs.Prelude.{◌==◌}
use Rattle.std.proofs.lemmas.Bool.{eqb-true, le-ltb, lt-ltb}
use Rattle.fc_help.specs.Helpers.{room_of}
use Rattle.fc_help.specs.declared.request.Method.{Method}
use Rattle.fc_help.specs.declared.request.Method.TheVariants.{Post}
use Rattle.fc_kinds.specs.Meaning.{Input, IsRun, Program, meant}
use Rattle.fc_registry.specs.Record.{code_class}
use Rattle.coap_block.specs.Cuts.{Part, part_bytes, cut_at}
use Rattle.coap_reply.specs.Blocks.{cut_for}
use Rattle.coap_reply.specs.Responses.{Response, bare, content, etag, observe_option, ran_response, text}

pub whole : (body : List ℕ) → length body ≤ 1024 → cut_for None body ≡ Some (record { bytes = body; place = None })
whole body le = ap (λ (b : Bool). (if b then cut_at body 0 6 else Some (record { bytes = body; place = None }))) (le-ltb 1024 (length body) le)

pub longer : (body : List ℕ) → 1024 < length body → cut_for None body ≡ Some (record { bytes = take 1024 body; place = Some (record { number = 0; more = true; szx = 6 }) })
longer body lt = ap (λ (b : Bool). (if b then cut_at body 0 6 else Some (record { bytes = body; place = None }))) (lt-ltb 1024 (length body) lt) ∙ ap (λ (b : Bool). Some (record { bytes = take 1024 body; place = Some (record { number = 0; more = b; szx = 6 }) })) (lt-ltb 1024 (length body) lt)

pub post : (p : Program) (input : Input) → IsRun p input → input.request.method ≡ Post → cut_for None (meant p input).reply ≡ Some (record { bytes = (meant p input).reply; place = None })
post p input r is = whole (meant p input).reply (subst (λ (m : Method). length (meant p input).reply ≤ room_of m) is r.reply)

-- a code that isn't of class 2 is neither 2.05 nor 2.04, so it is answered without its reply.
by_tests : (answer : ℕ) (found : Response) (cut : Option Part) (tested changed : Bool) → (answer == 69) ≡ tested → (answer == 68) ≡ changed → (code_class answer ≡ 2 → ⊥) → (if tested then found else if changed then text answer (part_bytes cut) else bare answer) ≡ bare answer
by_tests answer found cut true changed is other differs = absurd (differs (ap code_class (eqb-true answer 69 is)))
by_tests answer found cut false true other is differs = absurd (differs (ap code_class (eqb-true answer 68 is)))
by_tests answer found cut false false other others differs = refl

pub errors_are_bare : (answer : ℕ) (cut : Option Part) (serial : ℕ) (observed : Bool) → (code_class answer ≡ 2 → ⊥) → ran_response answer cut serial observed ≡ bare answer
errors_are_bare answer cut serial observed differs = by_tests answer (content (etag serial ++ observe_option observed serial) cut) cut (answer == 69) (answer == 68) refl refl differs
