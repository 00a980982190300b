-- The place of a block's transfer.
use Rattle.std.proofs.Common.{◌≡◌, ℕ, zero, suc, ◌+◌, ◌<◌, ◌≤◌, List, [], ◌∷◌, ◌++◌, length, get_or, set, Bool, true, false, cond, Some, None, refl, sym, ap, ◌∙◌, subst, arith, length-append, append-nil}
use Rattle.std.specs.Prelude.{filter, find, if◌then◌else◌, not, nat_lt, slice_get, ◌==◌, ◌&&◌}
use Rattle.std.specs.List.{position, position_or_len, remove}
use Rattle.std.proofs.lemmas.Bool.{and_right, eqb-true, eq-eqb, false_from_ne_true, ltb-true, ltb-false, lt-ltb, le-ltb}
use Rattle.std.proofs.lemmas.List.{get_or-set_same}
use Rattle.std.proofs.lemmas.Option.{get_or_from_slice_get}
use Rattle.coap_msg.specs.declared.types.Endpoint.{Endpoint}
use Rattle.coap_opts.specs.Values.{Place}
use Rattle.coap_block.specs.declared.transfer.Transfer.{Transfer}
use Rattle.coap_block.specs.declared.uploads.UploadRefusal.{UploadRefusal}
use Rattle.coap_block.specs.declared.uploads.UploadRefusal.TheVariants as refused
use Rattle.coap_block.specs.Uploads.{Add, IsFull, IsWhole, after_block, before_by, before_of, body_among, body_behind, is_transfer_of, kept_transfer, live, others, same_key, unless_more}
use Rattle.coap_block.specs.Views.{refusal_seen}
use Rattle.coap_block.specs.Places.{HasNoTransfer, HasOneKey, IsOwnTransfer}
use Rattle.coap_block.proofs.Keys.{equal_parts, key_itself}
use Rattle.coap_block.proofs.Others.{others_fewer}

-- ---- the first element that passes a test, if at most one does

pub record IsOnly {X : Type 0} (p : X → Bool) (xs : List X) (i : ℕ) : Type 0 where
  pub it : X
  pub within : i < length xs
  pub at : slice_get xs i ≡ Some it
  pub passes : p it ≡ true
  pub found : find p xs ≡ Some it
  pub rest : remove xs i ≡ filter (λ x. not (p x)) xs

none_by : {X : Type 0} (x : X) (own rest xs : List X) (b : Bool) → length (cond b (x ∷ own) own) ≤ 0 → (length own ≤ 0 → rest ≡ xs) → cond (not b) (x ∷ rest) rest ≡ x ∷ xs
none_by x own rest xs true none same = absurd (omega (arith, none))
none_by x own rest xs false none same = ap (λ (l : List _). x ∷ l) (same none)

-- if no element passes, the elements that don't pass are all
none_pass : {X : Type 0} (p : X → Bool) (xs : List X) → length (filter p xs) ≤ 0 → filter (λ x. not (p x)) xs ≡ xs
none_pass p [] none = refl
none_pass p (x ∷ xs) none = none_by x (filter p xs) (filter (λ x. not (p x)) xs) xs (p x) none (none_pass p xs)

only_more : {X : Type 0} (p : X → Bool) (x : X) (xs : List X) (i : ℕ) → p x ≡ false → IsOnly p xs i → IsOnly p (x ∷ xs) (suc i)
only_more p x xs i e r = record {
  it = r.it;
  within = omega (arith, r.within);
  at = r.at;
  passes = r.passes;
  found = ap (λ (b : Bool). cond b (Some x) (find p xs)) e ∙ r.found;
  rest = ap (λ (l : List _). x ∷ l) r.rest ∙ sym (ap (λ (b : Bool). cond (not b) (x ∷ filter (λ x. not (p x)) xs) (filter (λ x. not (p x)) xs)) e);
}

only_by : {X : Type 0} (p : X → Bool) (x : X) (xs : List X) (b : Bool) → p x ≡ b → length (cond b (x ∷ filter p xs) (filter p xs)) ≤ 1 → cond (not b) (1 + position_or_len p xs) 0 < suc (length xs) → (length (filter p xs) ≤ 1 → position_or_len p xs < length xs → IsOnly p xs (position_or_len p xs)) → IsOnly p (x ∷ xs) (cond (not b) (1 + position_or_len p xs) 0)
only_by p x xs true e one lt rest = record {
  it = x;
  within = omega arith;
  at = refl;
  passes = e;
  found = ap (λ (b : Bool). cond b (Some x) (find p xs)) e;
  rest = sym (none_pass p xs (omega (arith, one))) ∙ sym (ap (λ (b : Bool). cond (not b) (x ∷ filter (λ x. not (p x)) xs) (filter (λ x. not (p x)) xs)) e);
}
only_by p x xs false e one lt rest =
    let next : suc (position_or_len p xs) ≡ 1 + position_or_len p xs = omega arith in
    subst (IsOnly p (x ∷ xs)) next (only_more p x xs (position_or_len p xs) e (rest one (omega (arith, lt))))

only_first : {X : Type 0} (p : X → Bool) (xs : List X) → length (filter p xs) ≤ 1 → position_or_len p xs < length xs → IsOnly p xs (position_or_len p xs)
only_first p [] one lt = absurd (omega (arith, lt))
only_first p (x ∷ xs) one lt = only_by p x xs (p x) refl one lt (only_first p xs)

at_by : (at count i : ℕ) (b : Bool) → nat_lt at count ≡ b → cond b (Some at) None ≡ Some i → (at < count) × (at ≡ i)
at_by at count i true e some = (ltb-true at count e, cc)
at_by at count i false e some = absurd (cc)

pub only_at : {X : Type 0} (p : X → Bool) (xs : List X) (i : ℕ) → length (filter p xs) ≤ 1 → position p xs ≡ Some i → IsOnly p xs i
only_at p xs i one some =
    let w = at_by (position_or_len p xs) (length xs) i (nat_lt (position_or_len p xs) (length xs)) refl some in
    subst (IsOnly p xs) w.1 (only_first p xs one w.0)

-- ---- the same, if no element passes

none_from : {X : Type 0} (p : X → Bool) (xs : List X) → length xs ≤ position_or_len p xs → length (filter p xs) ≤ 0
none_from p [] le = omega arith
none_from p (x ∷ xs) le = by (p x) le (none_from p xs)
  where
    by : (b : Bool) → suc (length xs) ≤ cond (not b) (1 + position_or_len p xs) 0 → (length xs ≤ position_or_len p xs → length (filter p xs) ≤ 0) → length (cond b (x ∷ filter p xs) (filter p xs)) ≤ 0
    by true le rest = absurd (omega (arith, le))
    by false le rest = rest (omega (arith, le))

past_by : (at count : ℕ) (b : Bool) → nat_lt at count ≡ b → cond b (Some at) None ≡ None → count ≤ at
past_by at count true e none = absurd (cc)
past_by at count false e none = ltb-false at count e

none_found : {X : Type 0} (p : X → Bool) (xs : List X) → length (filter p xs) ≤ 0 → find p xs ≡ None
none_found p [] none = refl
none_found p (x ∷ xs) none = by (p x) none (none_found p xs)
  where
    by : (b : Bool) → length (cond b (x ∷ filter p xs) (filter p xs)) ≤ 0 → (length (filter p xs) ≤ 0 → find p xs ≡ None) → cond b (Some x) (find p xs) ≡ None
    by true none rest = absurd (omega (arith, none))
    by false none rest = rest none

pub none_at : {X : Type 0} (p : X → Bool) (xs : List X) → position p xs ≡ None → (find p xs ≡ None) × (xs ≡ filter (λ x. not (p x)) xs)
none_at p xs none =
    let past = past_by (position_or_len p xs) (length xs) (nat_lt (position_or_len p xs) (length xs)) refl none in
    let nil = none_from p xs past in
    (none_found p xs nil, sym (none_pass p xs nil))

-- ---- the place of a block's transfer

-- the transfer in progress is the block's own
pub own_found : (held : List Transfer) (to : Endpoint) (n : ℕ) (b : Place) (place : ℕ) → length held ≤ 16 → HasOneKey held → position (is_transfer_of to n) held ≡ Some place → IsOwnTransfer held held to n b place
own_found held to n b place few one some =
    let only = only_at (is_transfer_of to n) held place (one to n) some in
    let fewer = others_fewer (is_transfer_of to n) only.it held only.found in
    let room : nat_lt (length (others to n held)) 16 ≡ true = lt-ltb (length (others to n held)) 16 (omega (arith, fewer, few)) in
    record {
      own = only.it;
      within = only.within;
      at = only.at;
      key = only.passes;
      rest = only.rest;
      room = and_right (b.number == 0) (not (nat_lt (length (others to n held)) 16)) (ap not room);
      before = ap (before_of b.number) (sym only.found);
    }

-- a block after the first one, without a transfer
pub none_begun : (held : List Transfer) (to : Endpoint) (n : ℕ) (b : Place) → 0 < b.number → position (is_transfer_of to n) held ≡ None → HasNoTransfer held held to n b refused.Incomplete
none_begun held to n b later none =
    let w = none_at (is_transfer_of to n) held none in
    let first : (b.number == 0) ≡ false = false_from_ne_true (b.number == 0) (λ e. let z = eqb-true b.number 0 e in absurd (omega (arith, z))) in
    record { rest = w.1; refused = λ bytes. sym (λ i. if first i && not (nat_lt (length (others to n held)) 16) then IsFull else body_behind (before_by (first i) (w.0 i)) b bytes) }

-- the first block, without a transfer and without room for one
pub none_fits : (held : List Transfer) (to : Endpoint) (n : ℕ) (b : Place) → b.number ≤ 0 → 16 ≤ length held → position (is_transfer_of to n) held ≡ None → HasNoTransfer held held to n b refused.Full
none_fits held to n b first many none =
    let w = none_at (is_transfer_of to n) held none in
    let count : length held ≡ length (others to n held) = ap length w.1 in
    let full : nat_lt (length (others to n held)) 16 ≡ false = le-ltb (length (others to n held)) 16 (omega (arith, many, count)) in
    let zeroth : (b.number == 0) ≡ true = eq-eqb b.number 0 (omega (arith, first)) in
    record { rest = w.1; refused = λ bytes. sym (λ i. if zeroth i && not (full i) then IsFull else body_behind (before_of b.number (find (is_transfer_of to n) held)) b bytes) }

last_got : {X : Type 0} (xs : List X) (x : X) → slice_get (xs ++ x ∷ []) (length xs) ≡ Some x
last_got [] x = refl
last_got (y ∷ xs) x = last_got xs x

last_removed : {X : Type 0} (xs : List X) (x : X) → remove (xs ++ x ∷ []) (length xs) ≡ xs
last_removed [] x = refl
last_removed (y ∷ xs) x = ap (λ (l : List _). y ∷ l) (last_removed xs x)

-- the first block begins a transfer
pub own_begun : (held : List Transfer) (to : Endpoint) (n : ℕ) (b : Place) (own : Transfer) → b.number ≤ 0 → length held < 16 → position (is_transfer_of to n) held ≡ None → own.endpoint ≡ to → own.slot ≡ n → IsOwnTransfer held (held ++ own ∷ []) to n b (length held)
own_begun held to n b own first few none from slot =
    let w = none_at (is_transfer_of to n) held none in
    let count : length held ≡ length (others to n held) = ap length w.1 in
    let room : nat_lt (length (others to n held)) 16 ≡ true = lt-ltb (length (others to n held)) 16 (omega (arith, few, count)) in
    let zeroth : (b.number == 0) ≡ true = eq-eqb b.number 0 (omega (arith, first)) in
    record {
      own = own;
      within = let l = length-append held (own ∷ []) in omega (arith, l);
      at = last_got held own;
      key = (λ i. same_key (from i) (slot i) to n) ∙ key_itself to n;
      rest = last_removed held own ∙ w.1;
      room = and_right (b.number == 0) (not (nat_lt (length (others to n held)) 16)) (ap not room);
      before = (λ i. before_by (zeroth i) (Some own)) ∙ sym (λ i. before_by (zeroth i) (find (is_transfer_of to n) held));
    }

-- ---- a block joined to its transfer

-- the body with a block is the body of its own transfer with the block
pub joined_own : (old held after : List Transfer) (to : Endpoint) (n : ℕ) (b : Place) (place now : ℕ) (bytes : List ℕ) (x : Add) (t : Transfer) → held ≡ live now old → IsOwnTransfer held after to n b place → t ≡ get_or after place t
    → x ≡ body_behind (before_of b.number (Some t)) b bytes → body_among (live now old) to n b bytes ≡ x
joined_own old held after to n b place now bytes x t alive o read made =
    let own : t ≡ o.own = read ∙ get_or_from_slice_get after place o.own t o.at in
    ap (λ (l : List Transfer). body_among l to n b bytes) (sym alive)
    ∙ ((λ i. if o.room i then IsFull else body_behind (sym o.before i) b bytes)
    ∙ (ap (λ (u : Transfer). body_behind (before_of b.number (Some u)) b bytes) (sym own) ∙ sym made))

set_removed : {X : Type 0} (xs : List X) (i : ℕ) (y : X) → remove (set xs i y) i ≡ remove xs i
set_removed [] i y = refl
set_removed (x ∷ xs) zero y = refl
set_removed (x ∷ xs) (suc i) y = ap (λ (l : List _). x ∷ l) (set_removed xs i y)

rest_own : (old held after : List Transfer) (to : Endpoint) (n : ℕ) (b : Place) (place now : ℕ) (u : Transfer) → held ≡ live now old → IsOwnTransfer held after to n b place → remove (set after place u) place ≡ others to n (live now old)
rest_own old held after to n b place now u alive o = set_removed after place u ∙ (o.rest ∙ ap (others to n) alive)

-- if the block ends its transfer, the other transfers are left
pub ended_own : (old held after : List Transfer) (to : Endpoint) (n : ℕ) (b : Place) (place now : ℕ) (bytes : List ℕ) (x : Add) (u : Transfer) → held ≡ live now old → IsOwnTransfer held after to n b place
    → body_among (live now old) to n b bytes ≡ x → kept_transfer b.more now to n x ≡ [] → remove (set after place u) place ≡ after_block old now to n b bytes
ended_own old held after to n b place now bytes x u alive o among none =
    rest_own old held after to n b place now u alive o
    ∙ (sym (append-nil (others to n (live now old)))
    ∙ ((λ i. others to n (live now old) ++ sym none i) ∙ (λ i. others to n (live now old) ++ kept_transfer b.more now to n (sym among i))))

-- if the block continues its transfer, that is the last one
pub continued_own : (old held after : List Transfer) (to : Endpoint) (n : ℕ) (b : Place) (place now : ℕ) (bytes : List ℕ) (t u : Transfer) → held ≡ live now old → IsOwnTransfer held after to n b place → t ≡ get_or after place t
    → body_among (live now old) to n b bytes ≡ IsWhole u.body.items → b.more ≡ true → u.endpoint ≡ t.endpoint → u.slot ≡ t.slot → u.at ≡ now
    → remove (set after place u) place ++ get_or (set after place u) place u ∷ [] ≡ after_block old now to n b bytes
continued_own old held after to n b place now bytes t u alive o read among more from slot at =
    let own : t ≡ o.own = read ∙ get_or_from_slice_get after place o.own t o.at in
    let w = equal_parts o.own.endpoint to o.own.slot n o.key in
    let e : u.endpoint ≡ o.own.endpoint = from ∙ ap (λ (t : Transfer). t.endpoint) own in
    let s : u.slot ≡ n = slot ∙ (ap (λ (t : Transfer). t.slot) own ∙ w.2) in
    let ip = ap (λ (e : Endpoint). e.ip) e ∙ w.0 in
    let port = ap (λ (e : Endpoint). e.port) e ∙ w.1 in
    let kept : u ∷ [] ≡ kept_transfer true now to n (IsWhole u.body.items) =
    (λ i. record { endpoint = record { ip = ip i; port = port i }; slot = s i; at = at i; body = u.body } ∷ []) in
    (λ i. rest_own old held after to n b place now u alive o i ++ get_or-set_same after place u u o.within i ∷ [])
    ∙ ((λ i. others to n (live now old) ++ kept i) ∙ (λ i. others to n (live now old) ++ kept_transfer (sym more i) now to n (sym among i)))

-- a refusal isn't a whole body: it stays, and no transfer is stored for it
stays : (more : Bool) (x : Add) → ((body : List ℕ) → x ≡ IsWhole body → ⊥) → unless_more more x ≡ x
stays true (IsWhole body) other = absurd (other body refl)
stays more x other = refl

keeps_none : (more : Bool) (now : ℕ) (to : Endpoint) (n : ℕ) (x : Add) → ((body : List ℕ) → x ≡ IsWhole body → ⊥) → kept_transfer more now to n x ≡ []
keeps_none true now to n (IsWhole body) other = absurd (other body refl)
keeps_none more now to n x other = refl

no_body : (r : UploadRefusal) (body : List ℕ) → refusal_seen r ≡ IsWhole body → ⊥
no_body refused.Incomplete body e = cc
no_body refused.BadLength body e = cc
no_body refused.TooLarge body e = cc
no_body refused.Full body e = cc

pub refused_stays : (more : Bool) (r : UploadRefusal) → unless_more more (refusal_seen r) ≡ refusal_seen r
refused_stays more r = stays more (refusal_seen r) (no_body r)

pub refused_keeps : (more : Bool) (now : ℕ) (to : Endpoint) (n : ℕ) (r : UploadRefusal) → kept_transfer more now to n (refusal_seen r) ≡ []
refused_keeps more now to n r = keeps_none more now to n (refusal_seen r) (no_body r)
