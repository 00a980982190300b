-- The codes of methods, and worked examples of requests.
use Rattle.std.proofs.Common.{◌≡◌, ℕ, ◌==◌, Bool, true, false, if◌then◌else◌, List, [], ◌∷◌, Option, Some, None, codes, refl, ap, ◌∙◌}
use Rattle.std.proofs.lemmas.Bool.{eqb-true}
use Rattle.coap_msg.specs.Wire.{Message}
use Rattle.coap_msg.specs.declared.types.MessageType.TheVariants.{Confirmable}
use Rattle.coap_opts.specs.declared.request.Method.{Method}
use Rattle.coap_opts.specs.declared.request.Method.TheVariants.{Get, Post, Put, Delete}
use Rattle.coap_opts.specs.declared.request.Action.{Action}
use Rattle.coap_opts.specs.declared.request.Action.TheVariants as actions
use Rattle.coap_opts.specs.Fields.{method_code}
use Rattle.coap_opts.specs.Path.{method_of}
use Rattle.coap_opts.specs.Recognition.{is_recognised, row_of}
use Rattle.coap_opts.specs.Served.{rows}
use Rattle.coap_opts.specs.Values.{Place}
use Rattle.coap_opts.specs.Verdict.{IsAsked, IsRefused, asked, block_in, etags, asked_with, number_in, observe_at, query, refusal_code, verdict}

code_by : (code : ℕ) (method : Method) (get post put delete : Bool) → (code == 1) ≡ get → (code == 2) ≡ post → (code == 3) ≡ put → (code == 4) ≡ delete →
    (if get then Some Get else (if post then Some Post else (if put then Some Put else (if delete then Some Delete else None)))) ≡ Some method → code ≡ method_code method
code_by code method true post put delete a b c d e = let same : Get ≡ method = cc e in eqb-true code 1 a ∙ ap method_code same
code_by code method false true put delete a b c d e = let same : Post ≡ method = cc e in eqb-true code 2 b ∙ ap method_code same
code_by code method false false true delete a b c d e = let same : Put ≡ method = cc e in eqb-true code 3 c ∙ ap method_code same
code_by code method false false false true a b c d e = let same : Delete ≡ method = cc e in eqb-true code 4 d ∙ ap method_code same
code_by code method false false false false a b c d e = absurd (cc e)

pub code_is : (code : ℕ) (method : Method) → method_of code ≡ Some method → code ≡ method_code method
code_is code method e = code_by code method (code == 1) (code == 2) (code == 3) (code == 4) refl refl refl refl e

-- ---- whole messages

-- a confirmable message with this code, these options and this payload
abbrev message : ℕ → List (ℕ × List ℕ) → List ℕ → Message
message code options payload = record { kind = Confirmable; code = code; id = 258; token = 9 ∷ []; options = options; payload = payload }

-- the options of a GET: two ETags, one of them of eight bytes, Observe 0, the path /r/37,
-- Content-Format 50, a query of two parameters, and Block2
abbrev get_options : List (ℕ × List ℕ)
get_options =
    (4, 0 ∷ 0 ∷ 0 ∷ 0 ∷ 0 ∷ 0 ∷ 1 ∷ 5 ∷ []) ∷ (4, 7 ∷ []) ∷ (6, [])
    ∷ (11, codes "r") ∷ (11, codes "37") ∷ (12, 50 ∷ []) ∷ (15, codes "a=1") ∷ (15, codes "b") ∷ (23, 37 ∷ []) ∷ []

-- the message is accepted as a request for this action, whose query, Content-Format, ETags, Observe,
-- Block1 and Block2 are these
abbrev IsAskedFor : Message → Action → List ℕ → Option ℕ → List ℕ → Option ℕ → Option Place → Option Place → Type 0
IsAskedFor m action words format tags watch first second =
    (verdict m ≡ IsAsked (asked_with action m)) × (query m ≡ words) × (number_in 12 m ≡ format) × (etags m ≡ tags) × (observe_at action (number_in 6 m) ≡ watch) × (block_in 27 m ≡ first) × (block_in 23 m ≡ second)

row_get : IsAskedFor (message 1 get_options (8 ∷ [])) (actions.Get 37) (codes "a=1&b") (Some 50) (261 ∷ []) (Some 0) None (Some (record { number = 2; more = false; szx = 5 }))
unfolding verdict asked refusal_code is_recognised row_of rows
row_get = (refl, refl, refl, refl, refl, refl, refl)

-- a GET of /p/9, and of /.well-known/core
row_describe : IsAskedFor (message 1 ((11, codes "p") ∷ (11, codes "9") ∷ []) []) (actions.Describe 9) [] None [] None None None
unfolding verdict asked refusal_code is_recognised row_of rows
row_describe = (refl, refl, refl, refl, refl, refl, refl)

row_discover : IsAskedFor (message 1 ((11, codes ".well-known") ∷ (11, codes "core") ∷ []) []) actions.Discover [] None [] None None None
unfolding verdict asked refusal_code is_recognised row_of rows
row_discover = (refl, refl, refl, refl, refl, refl, refl)

-- a POST of /r/0
row_post : IsAskedFor (message 2 ((11, codes "r") ∷ (11, codes "0") ∷ (12, []) ∷ (15, codes "x") ∷ []) (1 ∷ 2 ∷ [])) (actions.Post 0) (codes "x") (Some 0) [] None None None
unfolding verdict asked refusal_code is_recognised row_of rows
row_post = (refl, refl, refl, refl, refl, refl, refl)

-- a PUT of /p/63 with its Block1; more blocks follow
row_put : IsAskedFor (message 3 ((11, codes "p") ∷ (11, codes "63") ∷ (27, 1 ∷ 8 ∷ []) ∷ []) []) (actions.Install 63) [] None [] None (Some (record { number = 16; more = true; szx = 0 })) None
unfolding verdict asked refusal_code is_recognised row_of rows
row_put = (refl, refl, refl, refl, refl, refl, refl)

-- a DELETE of /p/5; a DELETE of /.well-known/core gets 4.05
row_delete : IsAskedFor (message 4 ((11, codes "p") ∷ (11, codes "5") ∷ []) []) (actions.Remove 5) [] None [] None None None
unfolding verdict asked refusal_code is_recognised row_of rows
row_delete = (refl, refl, refl, refl, refl, refl, refl)

row_unserved : verdict (message 4 ((11, codes ".well-known") ∷ (11, codes "core") ∷ []) []) ≡ IsRefused 133
unfolding verdict asked refusal_code is_recognised row_of rows
row_unserved = refl
