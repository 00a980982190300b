-- The next part of a fetch is one that a request of the same client request can have.
use Rattle.std.proofs.Common.{◌≡◌, ℕ, ◌+◌, ◌-◌, ◌*◌, ◌<◌, ◌≤◌, ◌^◌, ◌%◌, ◌==◌, ◌&&◌, nat_lt, nat_le, bytes_eq, Bool, true, false, if◌then◌else◌, List, length, Option, Some, None, refl, sym, ap, subst, ◌∙◌, arith}
use Rattle.std.proofs.lemmas.Bool.{and_parts, eqb-true, leb-true, lt-ltb, ltb-true}
use Rattle.std.proofs.lemmas.Nat.{mul-le, pow-add}
use Rattle.std.proofs.Math.Pow.{pow_mono}
use Rattle.coap_msg.specs.Wire.{Message}
use Rattle.coap_opts.specs.Values.{Place, block_size, place_in}
use Rattle.coap_client.specs.declared.client_request.ClientRequest.{ClientRequest}
use Rattle.coap_client.specs.declared.part.Part.{Part}
use Rattle.coap_client.specs.declared.part.Part.TheVariants.{Whole, Body, Answer}
use Rattle.coap_client.specs.declared.reply.Next.{Next}
use Rattle.coap_client.specs.declared.reply.Next.TheVariants.{Ask, Last, Refused, Stale, Malformed}
use Rattle.coap_client.specs.Parts.{has_more}
use Rattle.coap_client.specs.Replies.{block1_of, block2_of, by_more, by_option, by_part, etag_of, is_continue, is_final, fits_place, is_success, is_understood, next_block, next_by_code, next_number, next_of, next_of_answer, next_of_body, next_of_further, next_of_whole, next_size, size_by_block}
use Rattle.coap_client.specs.Requests.{IsBlock, IsBodyBlock, IsFurther, IsPartOf}

-- if both branches have a property, each under its condition, so has the whole.
pub either : {X : Type 0} (P : X → Type 0) (b : Bool) (x y : X) → (b ≡ true → P x) → (b ≡ false → P y) → P (if b then x else y)
either P true x y f g = f refl
either P false x y f g = g refl

-- a block of the response isn't larger than the requested block n, and both begin at the same byte.
pub record IsPlace (n szx : ℕ) (b : Place) : Type 0 where
  pub smaller : b.szx ≤ szx
  pub begins : block_size b.szx * b.number ≡ block_size szx * n

pub place_is : (n szx : ℕ) (b : Place) → fits_place n szx b ≡ true → IsPlace n szx b
place_is n szx b is =
    let both = and_parts _ _ is in
    record { smaller = leb-true _ _ both.0; begins = eqb-true _ _ both.1 }

-- the block after block n begins at the same byte, whether it has the smaller or the larger size.
pub begins_alike : (n szx smaller : ℕ) → smaller ≤ szx → block_size smaller * next_number n szx smaller ≡ block_size szx * (n + 1)
begins_alike n szx smaller small =
    let split : szx + 4 ≡ (smaller + 4) + (szx - smaller) = omega (arith, small) in
    let power : 2 ^ (szx + 4) ≡ 2 ^ (smaller + 4) * 2 ^ (szx - smaller) = ap (λ k. 2 ^ k) split ∙ pow-add 2 (smaller + 4) (szx - smaller) in
    let regroup : 2 ^ (smaller + 4) * ((n + 1) * 2 ^ (szx - smaller)) ≡ (2 ^ (smaller + 4) * 2 ^ (szx - smaller)) * (n + 1) = omega arith in
    regroup ∙ ap (λ k. k * (n + 1)) (sym power)

-- the number of the next block fits 32 bits.
pub no_wrap : (n szx smaller : ℕ) → IsBlock n szx → next_number n szx smaller % 4294967296 ≡ next_number n szx smaller
no_wrap n szx smaller block =
    let most : szx - smaller ≤ 6 = omega (arith, block.size) in
    let power : 2 ^ (szx - smaller) ≤ 2 ^ 6 = pow_mono most in
    let some : n + 1 ≤ 1048576 = omega (arith, block.number) in
    let product : (n + 1) * 2 ^ (szx - smaller) ≤ 1048576 * 64 = mul-le (n + 1) (2 ^ (szx - smaller)) 1048576 64 some power in
    let fits : (n + 1) * 2 ^ (szx - smaller) < 4294967296 = omega (arith, product) in
    omega (arith, fits)

pub next_body_is : (n szx smaller r : ℕ) → IsBlock n szx → r ≡ next_number n szx smaller % 4294967296 → r < 1048576 → Ask (Body r smaller) ≡ next_of_body n szx (Some smaller)
next_body_is n szx smaller r block e below =
    let whole : r ≡ next_number n szx smaller = e ∙ no_wrap n szx smaller block in
    let under : next_number n szx smaller < 1048576 = omega (arith, whole, below) in
    ap (λ k. Ask (Body k smaller)) whole ∙ sym (ap (λ (b : Bool). if b then Ask (Body (next_number n szx smaller) smaller) else Malformed) (lt-ltb _ _ under))

-- if a Block1 gives a size for the next block, that size isn't greater than the one before.
pub size_smaller : (n szx : ℕ) (b : Place) → (smaller : ℕ) → size_by_block n szx b ≡ Some smaller → smaller ≤ szx
size_smaller n szx b smaller =
    either (λ o. o ≡ Some smaller → smaller ≤ szx) ((b.number == n) && nat_le b.szx szx) (Some b.szx) None
    (λ is e. let same : b.szx ≡ smaller = cc e in let le : b.szx ≤ szx = leb-true b.szx szx (and_parts (b.number == n) (nat_le b.szx szx) is).1 in omega (arith, le, same))
    (λ _ e. absurd (cc e))

pub next_smaller : (n szx : ℕ) (continued : Bool) (value : Option (List ℕ)) → (smaller : ℕ) → next_size n szx continued value ≡ Some smaller → smaller ≤ szx
next_smaller n szx continued None smaller =
    either (λ o. o ≡ Some smaller → smaller ≤ szx) continued (Some szx) None (λ _ e. let same : szx ≡ smaller = cc e in omega (arith, same)) (λ _ e. absurd (cc e))
next_smaller n szx continued (Some value) smaller =
    either (λ o. o ≡ Some smaller → smaller ≤ szx) (nat_le (length value) 3) (size_by_block n szx (place_in value)) None (λ _. size_smaller n szx (place_in value) smaller) (λ _ e. absurd (cc e))

-- if the next step is a request, it is for a further block of the response.
abbrev pub IsFurtherAsk : Next → Type 0
IsFurtherAsk (Ask part) = IsFurther part
IsFurtherAsk other = Unit {0}

block_next : (b : Place) → b.szx ≤ 6 → IsFurtherAsk (next_block b)
block_next b small =
    either IsFurtherAsk (nat_lt (b.number + 1) 1048576) (Ask (Answer (b.number + 1) b.szx)) Malformed (λ below. record { number = ltb-true _ _ below; size = small }) (λ _. tt)

more_next : (b : Place) (count : ℕ) → b.szx ≤ 6 → IsFurtherAsk (by_more b count)
more_next b count small =
    either IsFurtherAsk b.more _ _
    (λ _. either IsFurtherAsk (count == block_size b.szx) (next_block b) Malformed (λ _. block_next b small) (λ _. tt))
    (λ _. either IsFurtherAsk (nat_le count (block_size b.szx)) Last Malformed (λ _. tt) (λ _. tt))

pub further_next : (n szx count : ℕ) (value : Option (List ℕ)) → szx ≤ 6 → IsFurtherAsk (by_option n szx count value)
further_next n szx count None small = either IsFurtherAsk (n == 0) Last Malformed (λ _. tt) (λ _. tt)
further_next n szx count (Some value) small =
    either IsFurtherAsk (nat_le (length value) 3) _ Malformed
    (λ _. either IsFurtherAsk (fits_place n szx (place_in value)) (by_more (place_in value) count) Malformed
    (λ is. let place = place_is n szx (place_in value) is in more_next (place_in value) count (omega (arith, place.smaller, small))) (λ _. tt))
    (λ _. tt)

-- after the response to a request for a further block, a next request is for a further block too.
pub block_further : (n szx : ℕ) (etag : List ℕ) (m : Message) → szx ≤ 6 → IsFurtherAsk (next_of_further n szx etag m)
block_further n szx etag m small =
    either IsFurtherAsk (bytes_eq (etag_of m) etag) _ Stale
    (λ _. either IsFurtherAsk (is_continue m) Malformed (next_of_answer n szx m) (λ _. tt) (λ _. further_next n szx (length m.payload) (block2_of m) small)) (λ _. tt)

pub is_further : (n : Next) (next : Next) (part : Part) → n ≡ next → IsFurtherAsk next → n ≡ Ask part → IsFurther part
is_further n next part same h is = subst IsFurtherAsk (sym same ∙ is) h

abbrev pub IsAskOf : ClientRequest → Next → Type 0
IsAskOf e (Ask part) = IsPartOf e part
IsAskOf e other = Unit {0}

further_of : (e : ClientRequest) (n : Next) → IsFurtherAsk n → IsAskOf e n
further_of e (Ask Whole) h = absurd h
further_of e (Ask (Body n szx)) h = absurd h
further_of e (Ask (Answer n szx)) h = h
further_of e Last h = tt
further_of e Refused h = tt
further_of e Stale h = tt
further_of e Malformed h = tt

option_next : (e : ClientRequest) (n szx count : ℕ) (value : Option (List ℕ)) → szx ≤ 6 → IsAskOf e (by_option n szx count value)
option_next e n szx count value small = further_of e (by_option n szx count value) (further_next n szx count value small)

whole_next : (e : ClientRequest) (n : ℕ) (m : Message) → IsAskOf e (next_of_whole n m)
whole_next e n m = either (IsAskOf e) (is_final n m) (next_of_answer 0 6 m) Malformed (λ _. option_next e 0 6 (length m.payload) (block2_of m) (omega arith)) (λ _. tt)

body_next : (e : ClientRequest) (n szx : ℕ) (next : Option ℕ) → IsBodyBlock e n szx → has_more (length e.payload.now) n szx ≡ true → ((smaller : ℕ) → next ≡ Some smaller → smaller ≤ szx) →
    IsAskOf e (next_of_body n szx next)
body_next e n szx None own more small = tt
body_next e n szx (Some smaller) own more small =
    let le = small smaller refl in
    let behind = ltb-true _ _ more in
    either (IsAskOf e) (nat_lt (next_number n szx smaller) 1048576) (Ask (Body (next_number n szx smaller) smaller)) Malformed
    (λ below. record {
      block = record { number = ltb-true _ _ below; size = omega (arith, le, own.block.size) };
      method = own.method;
      within = omega (arith, begins_alike n szx smaller le, behind);
    })
    (λ _. tt)

part_next : (e : ClientRequest) (part : Part) (etag : List ℕ) (m : Message) → IsPartOf e part → IsAskOf e (by_part (length e.payload.now) part etag m)
part_next e Whole etag m own = whole_next e 0 m
part_next e (Body n szx) etag m own =
    either (IsAskOf e) (has_more (length e.payload.now) n szx) (next_of_body n szx (next_size n szx (is_continue m) (block1_of m))) (next_of_whole n m)
    (λ more. body_next e n szx _ own more (next_smaller n szx (is_continue m) (block1_of m))) (λ _. whole_next e n m)
part_next e (Answer n szx) etag m own =
    either (IsAskOf e) (bytes_eq (etag_of m) etag) _ Stale
    (λ _. either (IsAskOf e) (is_continue m) Malformed (next_of_answer n szx m) (λ _. tt) (λ _. option_next e n szx (length m.payload) (block2_of m) own.size)) (λ _. tt)

-- if a part belongs to the client request, so does the next part after the response.
pub next_is_part : (e : ClientRequest) (part next : Part) (etag : List ℕ) (m : Message) → IsPartOf e part → next_of (length e.payload.now) part etag m ≡ Ask next → IsPartOf e next
next_is_part e part next etag m own is =
    subst (IsAskOf e) is (either (IsAskOf e) (is_understood m) (next_by_code (length e.payload.now) part etag m) Malformed
    (λ _. either (IsAskOf e) (is_success m.code) (by_part (length e.payload.now) part etag m) Refused (λ _. part_next e part etag m own) (λ _. tt)) (λ _. tt))
