-- The requests of an observer fit a datagram.
use Rattle.std.proofs.Common.{◌≡◌, ℕ, ◌+◌, ◌<◌, ◌≤◌, List, [], ◌∷◌, length, sum_by, arith, sym, subst, length-append}
use Rattle.std.proofs.lemmas.List.{append-nil}
use Rattle.coap_msg.specs.Wire.{IsMessage, AreOptions, option_bytes, options_bytes}
use Rattle.coap_msg.proofs.Sizes.{option_size, message_fits}
use Rattle.coap_msg.specs.declared.types.MessageType.{MessageType}
use Rattle.coap_opts.specs.declared.number.TheConstants.{OBSERVE, URI_PATH, URI_QUERY}
use Rattle.coap_opts.specs.Values.{uint_bytes}
use Rattle.coap_client.specs.declared.client_request.ClientRequest.{ClientRequest}
use Rattle.coap_observer.specs.declared.notice.ObserveOption.{ObserveOption}
use Rattle.coap_observer.specs.declared.notice.ObserveOption.TheVariants.{Register, Deregister}
use Rattle.coap_observer.specs.Notices.{observe_value}
use Rattle.coap_client.specs.Parts.{numbered, option_room, resource_options}
use Rattle.coap_client.specs.Paths.{slices_in}
use Rattle.coap_client.proofs.Sizes.{values_are, values_size}

value_short : (interest : ObserveOption) → length (uint_bytes (observe_value interest)) ≤ 1
unfolding uint_bytes
value_short Register = omega arith
value_short Deregister = omega arith

query_size : (query : List (List ℕ)) (before : ℕ) → length (options_bytes before (numbered URI_QUERY query)) ≤ sum_by option_room query
query_size query before =
    subst (λ options. length (options_bytes before options) ≤ sum_by option_room query) (append-nil (numbered URI_QUERY query))
    (let sized = values_size URI_QUERY 0 before query [] (λ b. omega arith) in omega (arith, sized))

query_are : (query : List (List ℕ)) (before : ℕ) → before ≤ 15 → sum_by option_room query ≤ 1262 → AreOptions before (numbered URI_QUERY query)
query_are query before at short =
    subst (AreOptions before) (append-nil (numbered URI_QUERY query))
    (values_are URI_QUERY before query [] (omega (arith, at)) (omega arith) short (λ b _. tt))

-- a GET with Observe, a client request's resource and a token of at most four bytes fits a
-- datagram.
pub observe_fits : (e : ClientRequest) (interest : ObserveOption) (id code : ℕ) (token : List ℕ) (kind : MessageType) (options : List (ℕ × List ℕ)) → id < 65536 → length token ≤ 4 → code ≡ 1 →
    options ≡ (OBSERVE, uint_bytes (observe_value interest)) ∷ resource_options (slices_in e.target.path.segments.items) (slices_in e.target.query.items) →
    IsMessage (record { kind = kind; code = code; id = id; token = token; options = options; payload = [] })
observe_fits e interest id code token kind options below few c o =
    let segments = slices_in e.target.path.segments.items in
    let query = slices_in e.target.query.items in
    let value = uint_bytes (observe_value interest) in
    let resource = resource_options segments query in
    let short : length value ≤ 1 = value_short interest in
    let path_room : sum_by option_room segments ≤ 1262 = omega (arith, e.fits.room) in
    let query_room : sum_by option_room query ≤ 1262 = omega (arith, e.fits.room) in
    let are : AreOptions 0 ((OBSERVE, value) ∷ resource) = (
      record { rises = omega arith; is_number = omega arith; is_short = omega (arith, short) },
      values_are URI_PATH 6 segments (numbered URI_QUERY query) (omega arith) (omega arith) path_room (λ b at. query_are query b (omega (arith, at)) query_room),
    ) in
    let rest : length (options_bytes 6 resource) ≤ sum_by option_room segments + sum_by option_room query =
    values_size URI_PATH (sum_by option_room query) 6 segments (numbered URI_QUERY query) (query_size query) in
    let all : length (options_bytes 0 ((OBSERVE, value) ∷ resource)) ≤ 6 + (sum_by option_room segments + sum_by option_room query) =
    omega (arith, length-append (option_bytes 6 value) (options_bytes 6 resource), option_size 6 value, short, rest) in
    message_fits (record { kind = kind; code = code; id = id; token = token; options = options; payload = [] })
    (omega (arith, c)) (omega (arith, c)) below (omega (arith, few))
    (subst (AreOptions 0) (sym o) are)
    (subst (λ x. length token + length (options_bytes 0 x) + 0 + 5 ≤ 1280) (sym o) (omega (arith, all, few, e.fits.room)))
