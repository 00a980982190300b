-- Each refusal has its cause.
use Rattle.std.proofs.Common.{◌≡◌, inr, ℕ, ◌+◌, ◌*◌, ◌<◌, ◌≤◌, List, ◌++◌, length, Bool, true, false, Option, Some, None, refl, ap, ◌∙◌, if◌then◌else◌}
use Rattle.std.specs.Prelude.{◌≢◌, find, not, nat_lt, ◌==◌, ◌&&◌}
use Rattle.std.proofs.lemmas.Bool.{and_left, eq-eqb, ne_eqb, le-ltb, lt-ltb}
use Rattle.coap_block.specs.declared.transfer.Transfer.{Transfer}
use Rattle.coap_opts.specs.Values.{Place, block_size}
use Rattle.coap_block.specs.Uploads.{Add, Continues, IsWhole, IsIncomplete, IsBadLength, IsTooLarge, IsFull, before_by, before_of, block_added, body_among, body_behind, body_with, checked_by, has_length, is_transfer_of, live, unless_more}
use Rattle.coap_block.specs.Transfers.{Addition, transfers}
use Rattle.coap_block.specs.UnderWay.{BeginsBehind, HasLength, IsUnderWay, RisesTo, others_at}
use Rattle.coap_block.proofs.Bodies.{BeginsBy, begins_to, found_bytes, long_from, long_to}
use Rattle.coap_block.proofs.UnderWay.{held_from, held_to}

-- a result other than a whole body is the same whether or not more blocks follow
stays : (more : Bool) (x : Add) → ((body : List ℕ) → x ≡ IsWhole body → ⊥) → unless_more more x ≡ x
stays true (IsWhole body) never = absurd (never body refl)
stays true Continues never = refl
stays true IsIncomplete never = refl
stays true IsBadLength never = refl
stays true IsTooLarge never = refl
stays true IsFull never = refl
stays false x never = refl

-- if the result before the M bit is checked isn't a whole body, it is the result for the block
refused : (h : List Addition) (a : Addition) (b : Place) (x : Add) → ((body : List ℕ) → x ≡ IsWhole body → ⊥) → body_among (live a.at (transfers h)) a.endpoint a.slot b a.payload ≡ x → block_added (transfers h) a.at a.endpoint a.slot b a.payload ≡ x
refused h a b x never e = ap (unless_more b.more) e ∙ stays b.more x never

-- the transfer in progress with the addition's endpoint and slot, if there is one
abbrev own : List Addition → Addition → Option Transfer
own h a = find (is_transfer_of a.endpoint a.slot) (live a.at (transfers h))

pub too_many : (h : List Addition) (a : Addition) (b : Place) → b.number ≡ 0 → 16 ≤ others_at a h → block_added (transfers h) a.at a.endpoint a.slot b a.payload ≡ IsFull
too_many h a b first many =
    let z = eq-eqb b.number 0 first in
    let r = le-ltb (others_at a h) 16 many in
    refused h a b IsFull (λ body e. cc e) (λ i. (if z i && not (r i) then IsFull else body_behind (before_of b.number (own h a)) b a.payload))

-- ---- a block that begins at the end of the payloads before it

begun : (h : List Addition) (a : Addition) (b : Place) (before : List ℕ) → RisesTo a.at h → BeginsBehind h a b before → BeginsBy (others_at a h) b (own h a) before
begun h a b before r w = begins_to (IsUnderWay a.at a.endpoint a.slot h) (others_at a h) b (own h a) before (λ body. held_to h a.at a.endpoint a.slot body r) w

length_is_no : (more : Bool) (size bytes : ℕ) (x : Bool) → has_length more size bytes ≡ x → (HasLength more size bytes → ⊥) → has_length more size bytes ≡ false
length_is_no more size bytes true e never = absurd (never (long_from more size bytes e))
length_is_no more size bytes false e never = e

pub wrong_length : (h : List Addition) (a : Addition) (b : Place) (before : List ℕ) → RisesTo a.at h → BeginsBehind h a b before → (HasLength b.more (block_size b.szx) (length a.payload) → ⊥) → block_added (transfers h) a.at a.endpoint a.slot b a.payload ≡ IsBadLength
wrong_length h a b before r w never =
    let x = begun h a b before r w in
    let l = length_is_no b.more (block_size b.szx) (length a.payload) (has_length b.more (block_size b.szx) (length a.payload)) refl never in
    refused h a b IsBadLength (λ body e. cc e) ((λ i. (if x.room i then IsFull else body_behind (x.is i) b a.payload)) ∙ (λ i. checked_by (x.starts i) (l i) (body_with before a.payload)))

pub too_large : (h : List Addition) (a : Addition) (b : Place) (before : List ℕ) → RisesTo a.at h → BeginsBehind h a b before → HasLength b.more (block_size b.szx) (length a.payload) → 8208 < length before + length a.payload → block_added (transfers h) a.at a.endpoint a.slot b a.payload ≡ IsTooLarge
too_large h a b before r w long over =
    let x = begun h a b before r w in
    let l = long_to b.more (block_size b.szx) (length a.payload) long in
    let o = lt-ltb 8208 (length before + length a.payload) over in
    refused h a b IsTooLarge (λ body e. cc e) ((λ i. (if x.room i then IsFull else body_behind (x.is i) b a.payload)) ∙ (λ i. checked_by (x.starts i) (l i) (if o i then IsTooLarge else IsWhole (before ++ a.payload))))

-- ---- a block that doesn't begin at the end of the payloads before it

found_at : (u : Option Transfer) (b : Place) (bytes : List ℕ) → ((body : List ℕ) → found_bytes u ≡ Some body → (b.number * block_size b.szx == length body) ≡ false) → body_behind (before_by false u) b bytes ≡ IsIncomplete
found_at None b bytes never = refl
found_at (Some t) b bytes never =
    let s = never t.body.items refl in
    λ i. checked_by (s i) (has_length b.more (block_size b.szx) (length bytes)) (body_with t.body.items bytes)

pub out_of_place : (h : List Addition) (a : Addition) (b : Place) → RisesTo a.at h → b.number ≢ 0 → ((before : List ℕ) → BeginsBehind h a b before → ⊥) → block_added (transfers h) a.at a.endpoint a.slot b a.payload ≡ IsIncomplete
out_of_place h a b r later never =
    let z = ne_eqb b.number 0 later in
    let nowhere : (body : List ℕ) → found_bytes (own h a) ≡ Some body → (b.number * block_size b.szx == length body) ≡ false = λ body e. ne_eqb (b.number * block_size b.szx) (length body) (λ is. never body (inr (later, held_from h a.at a.endpoint a.slot body r e, is))) in
    refused h a b IsIncomplete (λ body e. cc e) ((λ i. (if and_left (b.number == 0) (not (nat_lt (others_at a h) 16)) z i then IsFull else body_behind (before_by (z i) (own h a)) b a.payload)) ∙ found_at (own h a) b a.payload nowhere)
