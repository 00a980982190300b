-- The places of a request's parts and of the readings in memory.
use Rattle.std.proofs.Common.{◌≡◌, ℕ, ◌+◌, ◌-◌, ◌*◌, ◌<◌, ◌≤◌, List, ◌++◌, length, take, Some, None, refl, ap, ◌∙◌, arith}
use Rattle.std.specs.Prelude.{replicate, slice_index}
use Rattle.std.specs.Int.{w16, to_le_bytes}
use Rattle.std.proofs.lemmas.List.{get_or-append-add, get_or-append_right, get_or-replicate, get_or-take, get_or_append_left, length-replicate}
use Rattle.std.proofs.lemmas.Nat.{from_le_bytes-to_le_bytes_2}
use Rattle.fc_help.specs.declared.request.Method.TheVariants.{Get, Post}
use Rattle.fc_help.specs.Region.{format_number, method_number, padded, readings_region, region_head, region_of, said}
use Rattle.fc_help.specs.Layout.{FitsRegion}
use Rattle.fc_help.specs.Request.{Request}
use Rattle.fc_help.proofs.Laid.{padded_size}

-- two bytes, the least significant first, represent a number below 65,536
two_bytes : (n : ℕ) → n < 65536 → slice_index (to_le_bytes w16 n) 0 + 256 * slice_index (to_le_bytes w16 n) 1 ≡ n
two_bytes n low = omega (arith, from_le_bytes-to_le_bytes_2 n low)

-- ---- the first 16 bytes

method_at : (r : Request) → slice_index (region_of r) 0 ≡ method_number r.method
unfolding region_of
method_at r = refl

pub get_is : (r : Request) → r.method ≡ Get → slice_index (region_of r) 0 ≡ 1
get_is r is = method_at r ∙ ap method_number is

pub post_is : (r : Request) → r.method ≡ Post → slice_index (region_of r) 0 ≡ 2
post_is r is = method_at r ∙ ap method_number is

pub slot_is : (r : Request) → slice_index (region_of r) 1 ≡ r.slot
unfolding region_of
slot_is r = refl

pub payload_length_is : (r : Request) → FitsRegion r → slice_index (region_of r) 2 + 256 * slice_index (region_of r) 3 ≡ length r.payload
unfolding region_of
payload_length_is r fits = let few = fits.payload in two_bytes (length r.payload) (omega (arith, few))

format_at : (r : Request) (n : ℕ) → format_number r.content_format ≡ n → n < 65536 → slice_index (region_of r) 4 + 256 * slice_index (region_of r) 5 ≡ n
unfolding region_of
format_at r n is low =
    ap (λ (m : ℕ). slice_index (to_le_bytes w16 m) 0 + 256 * slice_index (to_le_bytes w16 m) 1) is ∙ two_bytes n low

said_at : (r : Request) → slice_index (region_of r) 6 ≡ said r.content_format
unfolding region_of
said_at r = refl

pub format_is : (r : Request) (format : ℕ) → r.content_format ≡ Some format → format < 65536
    → (slice_index (region_of r) 4 + 256 * slice_index (region_of r) 5 ≡ format) × (slice_index (region_of r) 6 ≡ 1)
format_is r format is low = (format_at r format (ap format_number is) low, said_at r ∙ ap said is)

pub no_format_is : (r : Request) → r.content_format ≡ None
    → (slice_index (region_of r) 4 ≡ 0) × (slice_index (region_of r) 5 ≡ 0) × (slice_index (region_of r) 6 ≡ 0)
no_format_is r is =
    let both = format_at r 0 (ap format_number is) (omega arith) in
    (omega (arith, both), omega (arith, both), said_at r ∙ ap said is)

pub query_length_is : (r : Request) → slice_index (region_of r) 7 ≡ length r.query
unfolding region_of
query_length_is r = refl

-- if eight zeros follow eight bytes, bytes 8 to 15 are zero
zeros_behind : (before after : List ℕ) (k : ℕ) → length before ≡ 8 → 8 ≤ k → k < 16 → slice_index (before ++ (replicate 8 0 ++ after)) k ≡ 0
zeros_behind before after k eight low high =
    get_or-append_right before (replicate 8 0 ++ after) 8 k 0 eight low
    ∙ (get_or_append_left (replicate 8 0) after 0 (k - 8) (omega (arith, length-replicate {A = ℕ} 8 0, low, high))
    ∙ get_or-replicate 8 (k - 8) 0 0 (omega (arith, low, high)))

pub reserved_is : (r : Request) (k : ℕ) → 8 ≤ k → k < 16 → slice_index (region_of r) k ≡ 0
unfolding region_of
reserved_is r k low high = zeros_behind (take 8 (region_head r)) (padded 64 r.query ++ padded 1024 r.payload) k refl low high

-- ---- the query and the payload

within : (size : ℕ) (bytes : List ℕ) (k : ℕ) → k < length bytes → slice_index (padded size bytes) k ≡ slice_index bytes k
within size bytes k lt = get_or_append_left bytes (replicate (size - length bytes) 0) 0 k lt

behind : (size : ℕ) (bytes : List ℕ) (k : ℕ) → length bytes ≤ k → k < size → slice_index (padded size bytes) k ≡ 0
behind size bytes k low high =
    get_or-append_right bytes (replicate (size - length bytes) 0) (length bytes) k 0 refl low
    ∙ get_or-replicate (size - length bytes) (k - length bytes) 0 0 (omega (arith, low, high))

query_at : (r : Request) (k : ℕ) → FitsRegion r → k < 64 → slice_index (region_of r) (16 + k) ≡ slice_index (padded 64 r.query) k
unfolding region_of
query_at r k fits few =
    let size = padded_size 64 r.query fits.query in
    get_or-append-add (region_head r) (padded 64 r.query ++ padded 1024 r.payload) k 0
    ∙ get_or_append_left (padded 64 r.query) (padded 1024 r.payload) 0 k (omega (arith, size, few))

payload_at : (r : Request) (k : ℕ) → FitsRegion r → slice_index (region_of r) (80 + k) ≡ slice_index (padded 1024 r.payload) k
unfolding region_of
payload_at r k fits =
    let size = padded_size 64 r.query fits.query in
    let place : 80 + k ≡ 16 + (64 + k) = omega arith in
    let next : 64 + k ≡ length (padded 64 r.query) + k = omega (arith, size) in
    ap (λ (i : ℕ). slice_index (region_head r ++ (padded 64 r.query ++ padded 1024 r.payload)) i) place
    ∙ (get_or-append-add (region_head r) (padded 64 r.query ++ padded 1024 r.payload) (64 + k) 0
    ∙ (ap (λ (i : ℕ). slice_index (padded 64 r.query ++ padded 1024 r.payload) i) next
    ∙ get_or-append-add (padded 64 r.query) (padded 1024 r.payload) k 0))

pub query_is : (r : Request) (k : ℕ) → FitsRegion r → k < length r.query → slice_index (region_of r) (16 + k) ≡ slice_index r.query k
query_is r k fits lt = let few = fits.query in query_at r k fits (omega (arith, lt, few)) ∙ within 64 r.query k lt

pub query_ends : (r : Request) (k : ℕ) → FitsRegion r → length r.query ≤ k → k < 64 → slice_index (region_of r) (16 + k) ≡ 0
query_ends r k fits low high = query_at r k fits high ∙ behind 64 r.query k low high

pub payload_is : (r : Request) (k : ℕ) → FitsRegion r → k < length r.payload → slice_index (region_of r) (80 + k) ≡ slice_index r.payload k
payload_is r k fits lt = payload_at r k fits ∙ within 1024 r.payload k lt

pub payload_ends : (r : Request) (k : ℕ) → FitsRegion r → length r.payload ≤ k → k < 1024 → slice_index (region_of r) (80 + k) ≡ 0
payload_ends r k fits low high = payload_at r k fits ∙ behind 1024 r.payload k low high

-- ---- the readings

pub given_is : (bytes : List ℕ) (k : ℕ) → k < length bytes → k < 64 → slice_index (readings_region bytes) k ≡ slice_index bytes k
unfolding readings_region
given_is bytes k lt few = get_or-take 64 (bytes ++ replicate 64 0) k 0 few ∙ get_or_append_left bytes (replicate 64 0) 0 k lt

pub zeros_are : (bytes : List ℕ) (k : ℕ) → length bytes ≤ k → k < 64 → slice_index (readings_region bytes) k ≡ 0
unfolding readings_region
zeros_are bytes k low few =
    get_or-take 64 (bytes ++ replicate 64 0) k 0 few
    ∙ (get_or-append_right bytes (replicate 64 0) (length bytes) k 0 refl low
    ∙ get_or-replicate 64 (k - length bytes) 0 0 (omega (arith, low, few)))
