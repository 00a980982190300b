-- A block completes a body, or continues it, if it fits after the payloads before it.
use Rattle.std.proofs.Common.{◌≡◌, inl, inr, ℕ, ◌+◌, ◌*◌, ◌<◌, ◌≤◌, List, [], ◌++◌, length, Bool, true, false, Option, Some, None, refl, sym, ap, ◌∙◌, subst, arith, length-append, if◌then◌else◌}
use Rattle.std.specs.Prelude.{find, not, nat_lt, ◌==◌, ◌&&◌}
use Rattle.std.specs.Option.{option_map}
use Rattle.std.proofs.lemmas.Bool.{and_left, and_right, eqb-true, eqb-false, eq-eqb, ne_eqb, ltb-true, ltb-false, lt-ltb, le-ltb, not-false, not-true, not_from_true, not_from_false}
use Rattle.std.proofs.Math.Nat.{zero-mul}
use Rattle.coap_msg.specs.declared.types.Endpoint.{Endpoint}
use Rattle.coap_block.specs.declared.transfer.Transfer.{Transfer}
use Rattle.coap_opts.specs.Values.{Place, block_size}
use Rattle.coap_block.specs.Uploads.{Add, Continues, IsWhole, add_of, before_by, before_of, body_among, body_behind, body_with, checked_by, has_length, is_full, is_transfer_of, live, others, unless_more, IsTooLarge, IsFull}
use Rattle.coap_block.specs.UnderWay.{Begins, Fits, HasLength}

-- the bytes of a transfer that a search found, if it found one
abbrev pub found_bytes : Option Transfer → Option (List ℕ)
found_bytes u = option_map (λ t. t.body.items) u

-- ---- the checks that a whole body has passed

pub unfull : (full : Bool) (x : Add) (body : List ℕ) → (if full then IsFull else x) ≡ IsWhole body → (full ≡ false) × (x ≡ IsWhole body)
unfull true x body e = absurd (cc)
unfull false x body e = (refl, e)

checks : (starts long : Bool) (x : Add) (body : List ℕ) → checked_by starts long x ≡ IsWhole body → (starts ≡ true) × (long ≡ true) × (x ≡ IsWhole body)
checks true true x body e = (refl, refl, e)
checks true false x body e = absurd (cc)
checks false long x body e = absurd (cc)

extends : (over : Bool) (sum body : List ℕ) → (if over then IsTooLarge else IsWhole sum) ≡ IsWhole body → (over ≡ false) × (sum ≡ body)
extends true sum body e = absurd (cc)
extends false sum body e = (refl, cc)

-- ---- the length of a payload

pub long_from : (more : Bool) (size bytes : ℕ) → has_length more size bytes ≡ true → HasLength more size bytes
long_from true size bytes e = eqb-true bytes size e
long_from false size bytes e = ltb-false size bytes (not-true (nat_lt size bytes) e)

pub long_to : (more : Bool) (size bytes : ℕ) → HasLength more size bytes → has_length more size bytes ≡ true
long_to true size bytes h = eq-eqb bytes size h
long_to false size bytes h = not_from_false (nat_lt size bytes) (le-ltb size bytes h)

-- ---- a body appended to the payloads before it

record IsBehind (before : List ℕ) (b : Place) (bytes body : List ℕ) : Type 0 where
  starts : (b.number * block_size b.szx == length before) ≡ true
  long : HasLength b.more (block_size b.szx) (length bytes)
  joined : body ≡ before ++ bytes
  within : length body ≤ 8208

behind_from : (before : List ℕ) (b : Place) (bytes body : List ℕ) → body_behind (Some before) b bytes ≡ IsWhole body → IsBehind before b bytes body
behind_from before b bytes body e =
    let w = checks (b.number * block_size b.szx == length before) (has_length b.more (block_size b.szx) (length bytes)) (body_with before bytes) body e in
    let x = extends (nat_lt 8208 (length before + length bytes)) (before ++ bytes) body w.2 in
    let le = ltb-false 8208 (length before + length bytes) x.0 in
    record { starts = w.0; long = long_from b.more (block_size b.szx) (length bytes) w.1; joined = sym x.1; within = subst (λ (l : List ℕ). length l ≤ 8208) x.1 (omega (arith, le, length-append before bytes)) }

behind_to : (before : List ℕ) (b : Place) (bytes body : List ℕ) → IsBehind before b bytes body → body_behind (Some before) b bytes ≡ IsWhole body
behind_to before b bytes body h =
    let l = long_to b.more (block_size b.szx) (length bytes) h.long in
    let le = subst (λ (l : List ℕ). length l ≤ 8208) h.joined h.within in
    let w : nat_lt 8208 (length before + length bytes) ≡ false = le-ltb 8208 (length before + length bytes) (omega (arith, le, length-append before bytes)) in
    (λ i. checked_by (h.starts i) (l i) (if w i then IsTooLarge else IsWhole (before ++ bytes))) ∙ ap IsWhole (sym h.joined)

-- ---- the payloads before a block

record HasBefore (first : Bool) (u : Option Transfer) (b : Place) (bytes body : List ℕ) : Type 0 where
  before : List ℕ
  is : before_by first u ≡ Some before
  behind : IsBehind before b bytes body

before_from : (o : Option (List ℕ)) (first : Bool) (u : Option Transfer) (b : Place) (bytes body : List ℕ) → before_by first u ≡ o → body_behind o b bytes ≡ IsWhole body → HasBefore first u b bytes body
before_from None first u b bytes body is e = absurd (cc)
before_from (Some before) first u b bytes body is e = record { before = before; is = is; behind = behind_from before b bytes body e }

under_from : (u : Option Transfer) (before : List ℕ) → before_by false u ≡ Some before → found_bytes u ≡ Some before
under_from None before e = absurd (cc)
under_from (Some t) before e = e

under_to : (u : Option Transfer) (before : List ℕ) → found_bytes u ≡ Some before → before_by false u ≡ Some before
under_to None before e = absurd (cc)
under_to (Some t) before e = e

room_from : (number rest : ℕ) → (number == 0) ≡ true → is_full number rest ≡ false → rest < 16
room_from number rest z e = ltb-true rest 16 (not-false (nat_lt rest 16) ((λ i. sym z i && not (nat_lt rest 16)) ∙ e))

pub some_inner : (x y : List ℕ) → Some x ≡ Some y → x ≡ y
some_inner x y e = cc

begins_from : (U : List ℕ → Type 0) (rest : ℕ) (b : Place) (u : Option Transfer) (before : List ℕ) (first : Bool) → (b.number == 0) ≡ first → ((w : List ℕ) → found_bytes u ≡ Some w → U w) → is_full b.number rest ≡ false → before_by first u ≡ Some before → (b.number * block_size b.szx == length before) ≡ true → Begins U rest b before
begins_from U rest b u before true z under room is starts = inl (eqb-true b.number 0 z, room_from b.number rest z room, sym (some_inner [] before is))
begins_from U rest b u before false z under room is starts = inr (eqb-false b.number 0 z, under before (under_from u before is), eqb-true (b.number * block_size b.szx) (length before) starts)

-- if a block results in a whole body, the block fits
pub fits_from : (U : List ℕ → Type 0) (held : List Transfer) (to : Endpoint) (n : ℕ) (b : Place) (bytes body : List ℕ) → ((w : List ℕ) → found_bytes (find (is_transfer_of to n) held) ≡ Some w → U w) → body_among held to n b bytes ≡ IsWhole body → Fits U (length (others to n held)) b bytes body
fits_from U held to n b bytes body under e =
    let u = find (is_transfer_of to n) held in
    let f = unfull (is_full b.number (length (others to n held))) (body_behind (before_of b.number u) b bytes) body e in
    let w = before_from (before_of b.number u) (b.number == 0) u b bytes body refl f.1 in
    record { before = w.before; begins = begins_from U (length (others to n held)) b u w.before (b.number == 0) refl under f.0 w.is w.behind.starts; long = w.behind.long; joined = w.behind.joined; within = w.behind.within }

-- ---- a fitting block gives a whole body

-- the block begins at the end of `before`, and there is room for its transfer
pub record BeginsBy (rest : ℕ) (b : Place) (u : Option Transfer) (before : List ℕ) : Type 0 where
  pub room : is_full b.number rest ≡ false
  pub is : before_of b.number u ≡ Some before
  pub starts : (b.number * block_size b.szx == length before) ≡ true

pub begins_to : (U : List ℕ → Type 0) (rest : ℕ) (b : Place) (u : Option Transfer) (before : List ℕ) → ((w : List ℕ) → U w → found_bytes u ≡ Some w) → Begins U rest b before → BeginsBy rest b u before
begins_to U rest b u before under (inl w) =
    let z = eq-eqb b.number 0 w.0 in
    let r : not (nat_lt rest 16) ≡ false = not_from_true (nat_lt rest 16) (lt-ltb rest 16 w.1) in
    let s : b.number * block_size b.szx ≡ length before = ap (λ (k : ℕ). k * block_size b.szx) w.0 ∙ (zero-mul (block_size b.szx) ∙ ap (λ (l : List ℕ). length l) (sym w.2)) in
    record { room = and_right (b.number == 0) (not (nat_lt rest 16)) r; is = ap (λ (first : Bool). before_by first u) z ∙ ap Some (sym w.2); starts = eq-eqb (b.number * block_size b.szx) (length before) s }
begins_to U rest b u before under (inr w) =
    let z = ne_eqb b.number 0 w.0 in
    record { room = and_left (b.number == 0) (not (nat_lt rest 16)) z; is = ap (λ (first : Bool). before_by first u) z ∙ under_to u before (under before w.1); starts = eq-eqb (b.number * block_size b.szx) (length before) w.2 }

-- if a block fits, it results in a whole body (before the M bit is checked)
pub fits_to : (U : List ℕ → Type 0) (held : List Transfer) (to : Endpoint) (n : ℕ) (b : Place) (bytes body : List ℕ) → ((w : List ℕ) → U w → found_bytes (find (is_transfer_of to n) held) ≡ Some w) → Fits U (length (others to n held)) b bytes body → body_among held to n b bytes ≡ IsWhole body
fits_to U held to n b bytes body under fits =
    let u = find (is_transfer_of to n) held in
    let w = begins_to U (length (others to n held)) b u fits.before under fits.begins in
    (λ i. (if w.room i then IsFull else body_behind (w.is i) b bytes)) ∙ behind_to fits.before b bytes body (record { starts = w.starts; long = fits.long; joined = fits.joined; within = fits.within })

-- ---- the result after the M bit is checked

pub whole_from : (more : Bool) (x : Add) (body : List ℕ) → unless_more more x ≡ IsWhole body → (more ≡ false) × (x ≡ IsWhole body)
whole_from true (IsWhole w) body e = absurd (cc)
whole_from true x body e = absurd (cc)
whole_from false x body e = (refl, e)

pub goes_on_from : (more : Bool) (x : Add) → (x ≡ Continues → ⊥) → unless_more more x ≡ Continues → (more ≡ true) × ((body : List ℕ) × (x ≡ IsWhole body))
goes_on_from true (IsWhole w) n e = (refl, (w, refl))
goes_on_from true Continues n e = absurd (n refl)
goes_on_from true x n e = absurd (cc)
goes_on_from false x n e = absurd (n e)

never_checked : (starts long over : Bool) (sum : List ℕ) → checked_by starts long (if over then IsTooLarge else IsWhole sum) ≡ Continues → ⊥
never_checked true true true sum e = cc
never_checked true true false sum e = cc
never_checked true false over sum e = cc
never_checked false long over sum e = cc

never_behind : (full : Bool) (o : Option (List ℕ)) (b : Place) (bytes : List ℕ) → (if full then IsFull else body_behind o b bytes) ≡ Continues → ⊥
never_behind true o b bytes e = cc
never_behind false None b bytes e = cc
never_behind false (Some before) b bytes e = never_checked (b.number * block_size b.szx == length before) (has_length b.more (block_size b.szx) (length bytes)) (nat_lt 8208 (length before + length bytes)) (before ++ bytes) e

-- the result before the M bit is checked is never `Continues`
pub never_continues : (held : List Transfer) (to : Endpoint) (n : ℕ) (b : Place) (bytes : List ℕ) → body_among held to n b bytes ≡ Continues → ⊥
never_continues held to n b bytes e = never_behind (is_full b.number (length (others to n held))) (before_of b.number (find (is_transfer_of to n) held)) b bytes e

-- ---- a whole body has at most 8,208 bytes

pub most_bytes : (held : List Transfer) (now : ℕ) (to : Endpoint) (n : ℕ) (block : Option Place) (bytes body : List ℕ) → add_of held now to n block bytes ≡ IsWhole body → length body ≤ 8208
most_bytes held now to n None bytes body e =
    let x = extends (nat_lt 8208 (length {A = ℕ} [] + length bytes)) bytes body e in
    let le = ltb-false 8208 (length {A = ℕ} [] + length bytes) x.0 in
    subst (λ (l : List ℕ). length l ≤ 8208) x.1 (omega (arith, le))
most_bytes held now to n (Some b) bytes body e =
    let w = whole_from b.more (body_among (live now held) to n b bytes) body e in
    (fits_from (λ before. Unit {0}) (live now held) to n b bytes body (λ before is. tt) w.1).within

pub bound_reached : (bytes : List ℕ) → length bytes ≤ 8208 → body_with [] bytes ≡ IsWhole bytes
bound_reached bytes le = let w : nat_lt 8208 (length {A = ℕ} [] + length bytes) ≡ false = le-ltb 8208 (length {A = ℕ} [] + length bytes) (omega (arith, le)) in ap (λ (over : Bool). (if over then IsTooLarge else IsWhole bytes)) w
