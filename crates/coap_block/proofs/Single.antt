-- At most one transfer is stored for an endpoint and slot.
use Rattle.std.proofs.Common.{◌≡◌, ℕ, ◌+◌, ◌≤◌, List, [], ◌∷◌, ◌++◌, length, Bool, true, false, cond, Option, Some, None, refl, sym, ap, ◌∙◌, subst, arith}
use Rattle.std.specs.Prelude.{filter, not}
use Rattle.coap_msg.specs.declared.types.Endpoint.{Endpoint}
use Rattle.coap_block.specs.declared.transfer.Transfer.{Transfer}
use Rattle.coap_opts.specs.Values.{Place}
use Rattle.coap_block.specs.Uploads.{Add, IsWhole, after_add, body_among, is_transfer_of, is_under_way, kept_transfer, live, others, same_key}
use Rattle.coap_block.specs.Transfers.{Addition, transfers}
use Rattle.coap_block.proofs.Keys.{own_key}

-- the number of transfers that pass the test
abbrev pub count : (Transfer → Bool) → List Transfer → ℕ
count p held = length (filter p held)

joined_by : (b : Bool) (t : Transfer) (all left right : List Transfer) → length all ≡ length left + length right → length (cond b (t ∷ all) all) ≡ length (cond b (t ∷ left) left) + length right
joined_by true t all left right e = omega (arith, e)
joined_by false t all left right e = e

count_joined : (p : Transfer → Bool) (xs ys : List Transfer) → count p (xs ++ ys) ≡ count p xs + count p ys
count_joined p [] ys = omega arith
count_joined p (x ∷ xs) ys = joined_by (p x) x (filter p (xs ++ ys)) (filter p xs) (filter p ys) (count_joined p xs ys)

-- a filtered list has at most as many transfers that pass the test as the list
left_by : (keeps is : Bool) (t : Transfer) (few all : List Transfer) (p : Transfer → Bool) → p t ≡ is → count p few ≤ length all → count p (cond keeps (t ∷ few) few) ≤ length (cond is (t ∷ all) all)
left_by true is t few all p e le = subst (λ (b : Bool). length (cond b (t ∷ filter p few) (filter p few)) ≤ length (cond is (t ∷ all) all)) (sym e) (longer is)
  where
    longer : (is : Bool) → length (cond is (t ∷ filter p few) (filter p few)) ≤ length (cond is (t ∷ all) all)
    longer true = omega (arith, le)
    longer false = le
left_by false true t few all p e le = omega (arith, le)
left_by false false t few all p e le = le

pub count_left : (p q : Transfer → Bool) (ts : List Transfer) → count p (filter q ts) ≤ count p ts
count_left p q [] = omega arith
count_left p q (t ∷ ts) = left_by (q t) (p t) t (filter q ts) (filter p ts) p refl (count_left p q ts)

-- if the transfers that have a key are removed, no transfer with that key is left
gone_by : (p q : Transfer → Bool) (t : Transfer) (few : List Transfer) (b : Bool) → q t ≡ b → p t ≡ q t → count p few ≡ 0 → count p (cond (not b) (t ∷ few) few) ≡ 0
gone_by p q t few true e same none = none
gone_by p q t few false e same none = ap (λ (b : Bool). length (cond b (t ∷ filter p few) (filter p few))) (same ∙ e) ∙ none

count_gone : (p q : Transfer → Bool) (ts : List Transfer) → ((t : Transfer) → p t ≡ q t) → count p (filter (λ t. not (q t)) ts) ≡ 0
count_gone p q [] same = refl
count_gone p q (t ∷ ts) same = gone_by p q t (filter (λ t. not (q t)) ts) (q t) refl (same t) (count_gone p q ts same)

-- at most one transfer is stored for a block, and none with another key than the block's
kept_count : (p : Transfer → Bool) (more : Bool) (at : ℕ) (from : Endpoint) (m : ℕ) (x : Add) → length (kept_transfer more at from m x) ≤ 1
kept_count p true at from m (IsWhole body) = omega arith
kept_count p more at from m x = omega arith

short : (p : Transfer → Bool) (ts : List Transfer) → length ts ≤ 1 → count p ts ≤ 1
short p [] le = omega arith
short p (t ∷ []) le = one (p t)
  where
    one : (b : Bool) → length (cond b (t ∷ []) []) ≤ 1
    one true = omega arith
    one false = omega arith
short p (t ∷ (u ∷ ts)) le = absurd (omega (arith, le))

kept_none : (more : Bool) (at : ℕ) (from to : Endpoint) (m n : ℕ) (x : Add) → same_key from m to n ≡ false → count (is_transfer_of to n) (kept_transfer more at from m x) ≡ 0
kept_none true at from to m n (IsWhole body) e =
    let t : Transfer = record { endpoint = from; slot = m; at = at; body = record { items = body } } in
    ap (λ (b : Bool). length (cond b (t ∷ []) [])) e
kept_none more at from to m n x e = refl

-- ---- the transfers with one key after an addition

one_after : (held : List Transfer) (at : ℕ) (from to : Endpoint) (m n : ℕ) (more : Bool) (x : Add) (same : Bool) → same_key from m to n ≡ same → count (is_transfer_of to n) held ≤ 1 → count (is_transfer_of to n) (others from m (live at held) ++ kept_transfer more at from m x) ≤ 1
one_after held at from to m n more x true e le =
    let rest = count_gone (is_transfer_of to n) (is_transfer_of from m) (live at held) (λ t. sym (own_key from to m n e t)) in
    let kept = short (is_transfer_of to n) (kept_transfer more at from m x) (kept_count (is_transfer_of to n) more at from m x) in
    let all = count_joined (is_transfer_of to n) (others from m (live at held)) (kept_transfer more at from m x) in
    omega (arith, rest, kept, all)
one_after held at from to m n more x false e le =
    let rest = count_left (is_transfer_of to n) (λ t. not (is_transfer_of from m t)) (live at held) in
    let alive = count_left (is_transfer_of to n) (is_under_way at) held in
    let kept = kept_none more at from to m n x e in
    let all = count_joined (is_transfer_of to n) (others from m (live at held)) (kept_transfer more at from m x) in
    omega (arith, rest, alive, kept, all, le)

pub one_added : (held : List Transfer) (at : ℕ) (from to : Endpoint) (m n : ℕ) (block : Option Place) (bytes : List ℕ) → count (is_transfer_of to n) held ≤ 1 → count (is_transfer_of to n) (after_add held at from m block bytes) ≤ 1
one_added held at from to m n None bytes le = le
one_added held at from to m n (Some b) bytes le = one_after held at from to m n b.more (body_among (live at held) from m b bytes) (same_key from m to n) refl le

pub one_held : (h : List Addition) (to : Endpoint) (n : ℕ) → length (filter (is_transfer_of to n) (transfers h)) ≤ 1
one_held [] to n = omega arith
one_held (a ∷ h) to n = one_added (transfers h) a.at a.endpoint to a.slot n a.block a.payload (one_held h to n)
