-- The requests of a client request fit a datagram.
use Rattle.std.proofs.Common.{◌≡◌, ℕ, zero, suc, ◌+◌, ◌-◌, ◌*◌, ◌/◌, ◌%◌, ◌<◌, ◌≤◌, nat_lt, Bool, true, false, if◌then◌else◌, Option, Some, None, IfSome, List, [], ◌∷◌, ◌++◌, length, take, drop, sum_by, arith, sym, ◌∙◌, ap, subst, length-append, min}
use Rattle.std.specs.Int.{byte_at, bytes_high_first}
use Rattle.std.proofs.lemmas.Bool.{lt-ltb}
use Rattle.arrayvec.specs.ArrayVec.{ArrayVec}
use Rattle.std.proofs.lemmas.List.{append_assoc, length-take, length-drop, take_all, take_min}
use Rattle.std.proofs.Math.Pow.{pow_mono}
use Rattle.std.proofs.lemmas.List.Sums.{sum_by-cons}
use Rattle.coap_msg.specs.Wire.{IsMessage, AreOptions, extension, option_bytes, options_bytes}
use Rattle.coap_msg.proofs.Sizes.{option_size, message_fits}
use Rattle.coap_msg.specs.declared.types.MessageType.{MessageType}
use Rattle.coap_opts.proofs.Spellings.{uint_short}
use Rattle.coap_opts.specs.declared.number.TheConstants.{URI_PATH, URI_QUERY}
use Rattle.coap_opts.specs.Values.{block_size, uint_bytes, without_zeros}
use Rattle.coap_opts.specs.declared.request.Method.{Method}
use Rattle.coap_opts.specs.declared.request.Method.TheVariants.{Get, Post, Put, Delete}
use Rattle.coap_client.specs.declared.client_request.ClientRequest.{ClientRequest}
use Rattle.coap_client.specs.declared.part.Part.{Part}
use Rattle.coap_client.specs.declared.part.Part.TheVariants.{Whole, Body, Answer}
use Rattle.coap_client.specs.Paths.{slices_in}
use Rattle.coap_opts.specs.Fields.{method_code}
use Rattle.coap_client.specs.Parts.{answer_payload, block_of, block_option, has_more, most_at_once, option_in, part_options, part_payload, numbered, option_room, request_options}
use Rattle.coap_client.specs.Requests.{IsBlock, IsPartOf}

-- if the options after these take at most `more` bytes, all together take at most `more` and the
-- room of these values.
pub values_size : (number more before : ℕ) (values : List (List ℕ)) (rest : List (ℕ × List ℕ)) → ((b : ℕ) → length (options_bytes b rest) ≤ more) →
    length (options_bytes before (numbered number values ++ rest)) ≤ sum_by option_room values + more
values_size number more before [] rest h = omega (arith, h before)
values_size number more before (s ∷ values) rest h =
    let value = extension (number - before) ++ (extension (length s) ++ s) in
    omega (arith, option_size (number - before) s, values_size number more number values rest h, length-append value (options_bytes number (numbered number values ++ rest)), sum_by-cons option_room s values)

-- the extended length of an option has at most two bytes.
extension_by : (n : ℕ) (is_small is_middle : Bool) (a : ℕ) (b c : ℕ) → length (if is_small then [] else (if is_middle then a ∷ [] else b ∷ c ∷ [])) ≤ 2
extension_by n true middle a b c = omega arith
extension_by n false true a b c = omega arith
extension_by n false false a b c = omega arith

extension_short : (n : ℕ) → length (extension n) ≤ 2
extension_short n = extension_by n (nat_lt n 13) (nat_lt n 269) (n - 13) ((n - 269) / 256) ((n - 269) % 256)

unextended : (n : ℕ) (more : List ℕ) → n < 13 → (if nat_lt n 13 then [] else more) ≡ []
unextended n more small = ap (λ (b : Bool). if b then [] else more) (lt-ltb n 13 small)

short_size : (delta most : ℕ) (value : List ℕ) → most < 13 → length value ≤ most → length (option_bytes delta value) ≤ most + 3
short_size delta most value small short =
    let none : length (extension (length value)) ≡ 0 = ap length (unextended (length value) _ (omega (arith, small, short))) in
    omega (arith, none, short, extension_short delta, length-append (extension delta) (extension (length value) ++ value), length-append (extension (length value)) value)

-- the value of a Content-Format has at most two bytes, and that of a block option at most three.
skipped : (b most : ℕ) (bytes : List ℕ) → b ≡ 0 → length (without_zeros bytes) ≤ most → length (without_zeros (b ∷ bytes)) ≤ most
skipped zero most bytes none h = h
skipped (suc b) most bytes none h = absurd (omega (arith, none))

shorter : (bytes : List ℕ) → length (without_zeros bytes) ≤ length bytes
shorter [] = omega arith
shorter (zero ∷ bytes) = omega (arith, shorter bytes)
shorter (suc b ∷ bytes) = omega arith

last_three : (n : ℕ) → n < 16777216 → length (without_zeros (bytes_high_first 3 n)) ≤ 3
last_three n small = shorter (bytes_high_first 3 n)

last_two : (n : ℕ) → n < 65536 → length (without_zeros (bytes_high_first 3 n)) ≤ 2
last_two n small = skipped (byte_at 2 n) 2 (bytes_high_first 2 n) (omega (arith, small)) (shorter (bytes_high_first 2 n))

front : (n most : ℕ) → n < 16777216 → length (without_zeros (bytes_high_first 3 n)) ≤ most → length (uint_bytes n) ≤ most
unfolding uint_bytes
front n most small h =
    skipped (byte_at 7 n) most (bytes_high_first 7 n) (omega (arith, small))
    (skipped (byte_at 6 n) most (bytes_high_first 6 n) (omega (arith, small))
    (skipped (byte_at 5 n) most (bytes_high_first 5 n) (omega (arith, small))
    (skipped (byte_at 4 n) most (bytes_high_first 4 n) (omega (arith, small))
    (skipped (byte_at 3 n) most (bytes_high_first 3 n) (omega (arith, small)) h))))

pub two_bytes : (n : ℕ) → n < 65536 → length (uint_bytes n) ≤ 2
two_bytes n small = front n 2 (omega (arith, small)) (last_two n small)

three_bytes : (n : ℕ) → n < 16777216 → length (uint_bytes n) ≤ 3
three_bytes n small = front n 3 small (last_three n small)

block_short : (n szx : ℕ) (more : Bool) → IsBlock n szx → length (block_option n more szx) ≤ 3
block_short n szx true block = three_bytes (16 * n + (8 + szx)) (omega (arith, block.number, block.size))
block_short n szx false block = three_bytes (16 * n + (0 + szx)) (omega (arith, block.number, block.size))

-- the option between the path and the query, if there is one, is a Content-Format of at most two
-- bytes.
abbrev pub IsFormat : Option (ℕ × ArrayVec ℕ) → Type 0
IsFormat o = IfSome o (λ x. (x.0 ≡ 12) × (length x.1.items ≤ 2))

format_size : (o : Option (ℕ × ArrayVec ℕ)) (query : List (List ℕ)) (rest : List (ℕ × List ℕ)) (b : ℕ) → IsFormat o → ((b : ℕ) → length (options_bytes b rest) ≤ 6)
    → length (options_bytes b (option_in o ++ (numbered URI_QUERY query ++ rest))) ≤ sum_by option_room query + 11
format_size None query rest b is h = omega (arith, values_size URI_QUERY 6 b query rest h)
format_size (Some (number, value)) query rest b is h =
    omega (
      arith,
      short_size (number - b) 2 value.items (omega arith) is.1,
      values_size URI_QUERY 6 number query rest h,
      length-append (option_bytes (number - b) value.items) (options_bytes number (numbered URI_QUERY query ++ rest)),
    )

request_parts : (segments : List (List ℕ)) (format : List (ℕ × List ℕ)) (query : List (List ℕ)) (rest : List (ℕ × List ℕ))
    → request_options segments format query ++ rest ≡ numbered URI_PATH segments ++ (format ++ (numbered URI_QUERY query ++ rest))
request_parts segments format query rest =
    append_assoc (numbered URI_PATH segments) (format ++ numbered URI_QUERY query) rest
    ∙ ap (λ (x : List (ℕ × List ℕ)). numbered URI_PATH segments ++ x) (append_assoc format (numbered URI_QUERY query) rest)

pub request_size : (segments : List (List ℕ)) (o : Option (ℕ × ArrayVec ℕ)) (query : List (List ℕ)) (rest : List (ℕ × List ℕ)) → IsFormat o → ((b : ℕ) → length (options_bytes b rest) ≤ 6)
    → length (options_bytes 0 (request_options segments (option_in o) query ++ rest)) ≤ sum_by option_room segments + (sum_by option_room query + 11)
request_size segments o query rest is h =
    subst (λ (x : List (ℕ × List ℕ)). length (options_bytes 0 x) ≤ sum_by option_room segments + (sum_by option_room query + 11)) (sym (request_parts segments (option_in o) query rest))
    (values_size URI_PATH (sum_by option_room query + 11) 0 segments (option_in o ++ (numbered URI_QUERY query ++ rest)) (λ b. format_size o query rest b is h))

pub values_are : (number before : ℕ) (values : List (List ℕ)) (rest : List (ℕ × List ℕ)) → before ≤ number → number < 65536 → sum_by option_room values ≤ 1262 →
    ((b : ℕ) → b ≤ number → AreOptions b rest) → AreOptions before (numbered number values ++ rest)
values_are number before [] rest at below short h = h before at
values_are number before (s ∷ values) rest at below short h =
    let split = sum_by-cons option_room s values in
    (record { rises = at; is_number = below; is_short = omega (arith, short, split) }, values_are number number values rest (omega arith) below (omega (arith, short, split)) h)

format_are : (o : Option (ℕ × ArrayVec ℕ)) (query : List (List ℕ)) (rest : List (ℕ × List ℕ)) (b : ℕ) → IsFormat o → b ≤ 11 → sum_by option_room query ≤ 1262
    → ((b : ℕ) → b ≤ 15 → AreOptions b rest) → AreOptions b (option_in o ++ (numbered URI_QUERY query ++ rest))
format_are None query rest b is at short h = values_are URI_QUERY b query rest (omega (arith, at)) (omega arith) short h
format_are (Some (number, value)) query rest b is at short h = (
  record { rises = omega (arith, at, is.0); is_number = omega (arith, is.0); is_short = omega (arith, is.1) },
  values_are URI_QUERY number query rest (omega (arith, is.0)) (omega arith) short h,
)

pub request_are : (segments : List (List ℕ)) (o : Option (ℕ × ArrayVec ℕ)) (query : List (List ℕ)) (rest : List (ℕ × List ℕ)) → IsFormat o → sum_by option_room segments ≤ 1262
    → sum_by option_room query ≤ 1262 → ((b : ℕ) → b ≤ 15 → AreOptions b rest) → AreOptions 0 (request_options segments (option_in o) query ++ rest)
request_are segments o query rest is short also h =
    subst (AreOptions 0) (sym (request_parts segments (option_in o) query rest))
    (values_are URI_PATH 0 segments (option_in o ++ (numbered URI_QUERY query ++ rest)) (omega arith) (omega arith) short (λ b at. format_are o query rest b is at also h))

one_size : (b number : ℕ) (value : List ℕ) → length value ≤ 3 → length (options_bytes b ((number, value) ∷ [])) ≤ 6
one_size b number value short = omega (arith, short_size (number - b) 3 value (omega arith) short, length-append (option_bytes (number - b) value) [])

pub part_size : (e : ClientRequest) (part : Part) (count b : ℕ) → IsPartOf e part → length (options_bytes b (part_options part count)) ≤ 6
part_size e Whole count b own = omega arith
part_size e (Body n szx) count b own = one_size b 27 _ (block_short n szx (has_more count n szx) own.block)
part_size e (Answer n szx) count b own = one_size b 23 _ (block_short n szx false own)

one_are : (b number : ℕ) (value : List ℕ) → b ≤ 15 → 15 ≤ number → number < 65536 → length value ≤ 8 → AreOptions b ((number, value) ∷ [])
one_are b number value at above below short = (record { rises = omega (arith, at, above); is_number = below; is_short = omega (arith, short) }, tt)

pub part_are : (part : Part) (count b : ℕ) → b ≤ 15 → AreOptions b (part_options part count)
part_are Whole count b at = tt
part_are (Body n szx) count b at = one_are b 27 _ at (omega arith) (omega arith) (uint_short _)
part_are (Answer n szx) count b at = one_are b 23 _ at (omega arith) (omega arith) (uint_short _)

code_bounds : (method : Method) → (0 < method_code method) × (method_code method < 256)
code_bounds Get = (omega arith, omega arith)
code_bounds Post = (omega arith, omega arith)
code_bounds Put = (omega arith, omega arith)
code_bounds Delete = (omega arith, omega arith)

answer_size : (method : Method) (payload : List ℕ) → length (answer_payload method payload) ≤ most_at_once method (length payload)
answer_size Get payload = omega arith
answer_size Post payload = omega arith
answer_size Put payload = omega arith
answer_size Delete payload = omega arith

-- a block with size exponent 6 or less has at most 1,024 bytes.
pub size_below : (szx : ℕ) → szx ≤ 6 → block_size szx ≤ 1024
size_below szx small = let most : szx + 4 ≤ 10 = omega (arith, small) in pow_mono most

-- a request's payload isn't longer than the maximum for one request.
payload_size : (e : ClientRequest) (part : Part) → IsPartOf e part → length (part_payload e.method e.payload.now part) ≤ most_at_once e.method (length e.payload.now)
payload_size e Whole own = omega (arith, own)
payload_size e (Body n szx) own =
    let at = block_size szx * n in
    rw own.method (omega (arith, length-take (block_size szx) (drop at e.payload.now), length-drop at e.payload.now, size_below szx own.block.size))
payload_size e (Answer n szx) own = answer_size e.method e.payload.now

-- the request of a part fits a datagram.
pub request_fits : (e : ClientRequest) (part : Part) (id code : ℕ) (kind : MessageType) (o : Option (ℕ × ArrayVec ℕ)) (options : List (ℕ × List ℕ)) (payload : List ℕ) → id < 65536 → IsPartOf e part
    → code ≡ method_code e.method → IsFormat o
    → options ≡ request_options (slices_in e.target.path.segments.items) (option_in o) (slices_in e.target.query.items) ++ part_options part (length e.payload.now)
    → payload ≡ part_payload e.method e.payload.now part → IsMessage (record { kind = kind; code = code; id = id; token = []; options = options; payload = payload })
request_fits e part id code kind format options payload below own c is o p =
    let bounds = code_bounds e.method in
    let segments = slices_in e.target.path.segments.items in
    let query = slices_in e.target.query.items in
    let rest = part_options part (length e.payload.now) in
    message_fits (record { kind = kind; code = code; id = id; token = []; options = options; payload = payload })
    (omega (arith, c, bounds)) (omega (arith, c, bounds)) below (omega arith)
    (subst (AreOptions 0) (sym o) (request_are segments format query rest is (omega (arith, e.fits.room)) (omega (arith, e.fits.room)) (part_are part (length e.payload.now))))
    (subst (λ x. 0 + length (options_bytes 0 x) + length payload + 5 ≤ 1280) (sym o)
    (subst (λ x. 0 + length (options_bytes 0 (request_options segments (option_in format) query ++ rest)) + length x + 5 ≤ 1280) (sym p)
    (omega (arith, request_size segments format query rest is (λ b. part_size e part (length e.payload.now) b own), payload_size e part own, e.fits.room))))

-- the request of a further block, with a token of two bytes, fits a datagram.
pub block_fits : (e : ClientRequest) (n szx id code : ℕ) (token : List ℕ) (kind : MessageType) (options : List (ℕ × List ℕ)) → id < 65536 → IsBlock n szx → code ≡ 1 → length token ≡ 2
    → options ≡ request_options (slices_in e.target.path.segments.items) [] (slices_in e.target.query.items) ++ part_options (Answer n szx) 0
    → IsMessage (record { kind = kind; code = code; id = id; token = token; options = options; payload = [] })
block_fits e n szx id code token kind options below own c two o =
    let segments = slices_in e.target.path.segments.items in
    let query = slices_in e.target.query.items in
    let rest = part_options (Answer n szx) 0 in
    message_fits (record { kind = kind; code = code; id = id; token = token; options = options; payload = [] })
    (omega (arith, c)) (omega (arith, c)) below (omega (arith, two))
    (subst (AreOptions 0) (sym o) (request_are segments None query rest tt (omega (arith, e.fits.room)) (omega (arith, e.fits.room)) (part_are (Answer n szx) 0)))
    (subst (λ x. length token + length (options_bytes 0 x) + 0 + 5 ≤ 1280) (sym o)
    (omega (arith, two, request_size segments None query rest tt (λ b. part_size e (Answer n szx) 0 b own), e.fits.room)))

rest_is : (k : ℕ) (payload : List ℕ) → take (length payload - k) (drop k payload) ≡ drop k payload
rest_is k payload = take_all _ _ (omega (arith, length-drop k payload))

-- the bytes that the code cuts from a body are block n of the body.
pub block_is : (payload : List ℕ) (n szx size number most count : ℕ) → size ≡ block_size szx → number ≡ n → most ≡ block_size szx →
    count ≡ min (length (take (length payload - size * number) (drop (size * number) payload))) most →
    take count (take (length payload - size * number) (drop (size * number) payload)) ≡ block_of payload n szx
block_is payload n szx size number most count s m l e =
    let k = size * number in
    let rest = take (length payload - k) (drop k payload) in
    let f : count ≡ min most (length rest) = omega (arith, e) in
    ap (λ c. take c rest) f ∙ (take_min most rest ∙ (ap (take most) (rest_is k payload) ∙ cc (s, m, l)))
