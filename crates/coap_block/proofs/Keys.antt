-- The effect of a block on the transfer of its own endpoint and slot, and on those of others.
use Rattle.std.proofs.Common.{◌≡◌, ℕ, ◌+◌, ◌≤◌, List, ◌++◌, Bool, true, false, None, refl, sym, ◌∙◌, arith}
use Rattle.std.specs.Prelude.{find, not, nat_eq, ◌==◌, ◌&&◌}
use Rattle.std.specs.Cmp.Lexicographic.{pointwise, bytes_decides}
use Rattle.std.proofs.lemmas.Bool.{and_parts, and_right, eqb-true, eq-eqb, ltb-true, lt-ltb, false_from_ne_true}
use Rattle.coap_msg.specs.declared.types.Endpoint.{Endpoint}
use Rattle.coap_msg.specs.Endpoints.{same_endpoint}
use Rattle.coap_block.specs.declared.transfer.Transfer.{Transfer}
use Rattle.coap_opts.specs.Values.{Place}
use Rattle.coap_block.specs.Uploads.{Add, IsWhole, after_block, body_among, is_transfer_of, is_under_way, kept_transfer, live, others, same_key}
use Rattle.coap_block.proofs.Finds.{find-filter, find_agree, find_before, find_behind, find_nothing}

-- ---- keys of transfers

pub equal_parts : (from to : Endpoint) (m n : ℕ) → same_key from m to n ≡ true → (from.ip ≡ to.ip) × (from.port ≡ to.port) × (m ≡ n)
equal_parts from to m n e =
    let w = and_parts (same_endpoint from to) (m == n) e in
    let v = and_parts (pointwise nat_eq from.ip to.ip) (from.port == to.port) w.0 in
    ((bytes_decides from.ip to.ip).0 v.0, eqb-true from.port to.port v.1, eqb-true m n w.1)

-- if two keys are equal, a transfer has the one exactly if it has the other
pub own_key : (from to : Endpoint) (m n : ℕ) → same_key from m to n ≡ true → (t : Transfer) → is_transfer_of from m t ≡ is_transfer_of to n t
own_key from to m n e t = let w = equal_parts from to m n e in λ i. (pointwise nat_eq t.endpoint.ip (w.0 i) && (t.endpoint.port == w.1 i)) && (t.slot == w.2 i)

-- if a transfer has two keys, the keys are equal
shared_key : (from to : Endpoint) (m n : ℕ) (t : Transfer) → is_transfer_of from m t ≡ true → is_transfer_of to n t ≡ true → same_key from m to n ≡ true
shared_key from to m n t e f = let w = equal_parts t.endpoint from t.slot m e in sym (λ i. (pointwise nat_eq (w.0 i) to.ip && (w.1 i == to.port)) && (w.2 i == n)) ∙ f

other_key : (from to : Endpoint) (m n : ℕ) → same_key from m to n ≡ false → (t : Transfer) → is_transfer_of to n t ≡ true → is_transfer_of from m t ≡ false
other_key from to m n e t f = false_from_ne_true (is_transfer_of from m t) (λ g. absurd (cc (e, shared_key from to m n t g f)))

same_bytes : (xs : List ℕ) → pointwise nat_eq xs xs ≡ true
same_bytes xs = (bytes_decides xs xs).1 refl

pub key_itself : (to : Endpoint) (n : ℕ) → same_key to n to n ≡ true
key_itself to n = λ i. (same_bytes to.ip i && eq-eqb to.port to.port refl i) && eq-eqb n n refl i

-- ---- the effect of a block

-- the transfer is in progress at `now`, and has this key
abbrev pub is_found : ℕ → Endpoint → ℕ → Transfer → Bool
is_found now to n t = is_under_way now t && is_transfer_of to n t

-- a search among the transfers that a block doesn't change is a search among all, for one that was
-- in progress and has another key than the block
left_found : (now at : ℕ) (from to : Endpoint) (m n : ℕ) (held : List Transfer) → find (is_found now to n) (others from m (live at held)) ≡ find (λ t. is_under_way at t && (not (is_transfer_of from m t) && is_found now to n t)) held
left_found now at from to m n held = find-filter (is_found now to n) (λ t. not (is_transfer_of from m t)) (live at held) ∙ find-filter (λ t. not (is_transfer_of from m t) && is_found now to n t) (is_under_way at) held

still_live : (now at : ℕ) (t : Transfer) → at ≤ now → is_under_way now t ≡ true → is_under_way at t ≡ true
still_live now at t le e = let lt = ltb-true now (t.at + 247000) e in lt-ltb at (t.at + 247000) (omega (arith, lt, le))

-- if `l` implies `a`, and `p` excludes `o`, the tests `a` and not `o` add nothing to `l` and `p`
stays_by : (a o l p : Bool) → (l ≡ true → a ≡ true) → (p ≡ true → o ≡ false) → (a && (not o && (l && p))) ≡ (l && p)
stays_by a o false p f g = and_right a (not o && false) (and_right (not o) false refl)
stays_by a o true false f g = and_right a (not o && false) (and_right (not o) false refl)
stays_by a o true true f g = λ i. f refl i && (not (g refl i) && true)

gone_by : (a o l : Bool) → (a && (not o && (l && o))) ≡ false
gone_by a true l = and_right a false refl
gone_by a false l = and_right a (l && false) (and_right l false refl)

-- no transfer with another key than the block's is stored for the block
kept_other : (now at : ℕ) (from to : Endpoint) (m n : ℕ) (more : Bool) (x : Add) → same_key from m to n ≡ false → find (is_found now to n) (kept_transfer more at from m x) ≡ None
kept_other now at from to m n true (IsWhole body) e = find_nothing (λ (t : Transfer). is_under_way now t && same_key from m to n) (λ t. and_right (is_under_way now t) (same_key from m to n) e) (kept_transfer true at from m (IsWhole body))
kept_other now at from to m n more x e = refl

-- a block doesn't change a transfer with another key; only time ends that transfer
pub after_other : (held : List Transfer) (at now : ℕ) (from to : Endpoint) (m n : ℕ) (b : Place) (bytes : List ℕ) → at ≤ now → same_key from m to n ≡ false → find (is_transfer_of to n) (live now (after_block held at from m b bytes)) ≡ find (is_transfer_of to n) (live now held)
after_other held at now from to m n b bytes le e =
    let k = kept_transfer b.more at from m (body_among (live at held) from m b bytes) in
    let stays = find_agree (λ t. is_under_way at t && (not (is_transfer_of from m t) && is_found now to n t)) (is_found now to n) (λ t. stays_by (is_under_way at t) (is_transfer_of from m t) (is_under_way now t) (is_transfer_of to n t) (still_live now at t le) (other_key from to m n e t)) held in
    find-filter (is_transfer_of to n) (is_under_way now) (others from m (live at held) ++ k)
    ∙ (find_before (is_found now to n) (others from m (live at held)) k (kept_other now at from to m n b.more (body_among (live at held) from m b bytes) e)
    ∙ (left_found now at from to m n held ∙ (stays ∙ sym (find-filter (is_transfer_of to n) (is_under_way now) held))))

-- the only transfer with a block's key after the block is the one stored for the block, if any
pub after_own : (held : List Transfer) (at now : ℕ) (from to : Endpoint) (m n : ℕ) (b : Place) (bytes : List ℕ) → same_key from m to n ≡ true → find (is_transfer_of to n) (live now (after_block held at from m b bytes)) ≡ find (is_found now to n) (kept_transfer b.more at from m (body_among (live at held) from m b bytes))
after_own held at now from to m n b bytes e =
    let k = kept_transfer b.more at from m (body_among (live at held) from m b bytes) in
    let gone = find_nothing (λ t. is_under_way at t && (not (is_transfer_of from m t) && is_found now to n t)) (λ t. (λ i. is_under_way at t && (not (is_transfer_of from m t) && (is_under_way now t && sym (own_key from to m n e t) i))) ∙ gone_by (is_under_way at t) (is_transfer_of from m t) (is_under_way now t)) held in
    find-filter (is_transfer_of to n) (is_under_way now) (others from m (live at held) ++ k) ∙ find_behind (is_found now to n) (others from m (live at held)) k (left_found now at from to m n held ∙ gone)
