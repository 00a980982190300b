-- The stored bytes of an endpoint and slot are those of its transfer.
use Rattle.std.proofs.Common.{◌≡◌, ℕ, ◌+◌, ◌<◌, ◌≤◌, List, [], ◌∷◌, ◌++◌, length, Bool, true, false, cond, Option, Some, None, refl, sym, ap, ◌∙◌, arith, length-append}
use Rattle.std.specs.Prelude.{◌↔◌, find, nat_lt, not, ◌&&◌}
use Rattle.std.proofs.lemmas.Bool.{ltb-true, lt-ltb}
use Rattle.coap_msg.specs.declared.types.Endpoint.{Endpoint}
use Rattle.coap_block.specs.declared.transfer.Transfer.{Transfer}
use Rattle.coap_opts.specs.Values.{Place}
use Rattle.coap_block.specs.Uploads.{Add, Continues, IsWhole, after_add, before_of, block_added, body_among, body_behind, is_full, is_transfer_of, is_under_way, kept_transfer, live, others, same_key, unless_more}
use Rattle.coap_block.specs.Transfers.{Addition, transfers}
use Rattle.coap_block.specs.UnderWay.{FitsBehind, IsUnderWay, RisesTo, StillUnderWay, block_if, bytes_held}
use Rattle.coap_block.proofs.Finds.{find_agree}
use Rattle.coap_block.proofs.Others.{filter_short}
use Rattle.coap_block.proofs.Rooms.{has_room}
use Rattle.coap_block.proofs.Keys.{after_other, after_own, is_found, own_key}
use Rattle.coap_block.proofs.Bodies.{fits_from, fits_to, found_bytes, goes_on_from, never_continues, some_inner, unfull, whole_from}

-- ---- the transfer stored for a block

one_from : (recent key : Bool) (t : Transfer) (body : List ℕ) → found_bytes (cond (recent && key) (Some t) None) ≡ Some body → (recent ≡ true) × (t.body.items ≡ body)
one_from true true t body e = (refl, some_inner t.body.items body e)
one_from true false t body e = absurd (cc)
one_from false key t body e = absurd (cc)

-- the transfer stored for a block has the body up to that block, and more blocks follow
kept_from : (now at : ℕ) (from to : Endpoint) (m n : ℕ) (body : List ℕ) (more : Bool) (x : Add) → found_bytes (find (is_found now to n) (kept_transfer more at from m x)) ≡ Some body → (now < at + 247000) × (more ≡ true) × (x ≡ IsWhole body)
kept_from now at from to m n body true (IsWhole w) e =
    let t : Transfer = record { endpoint = from; slot = m; at = at; body = record { items = w } } in
    let v = one_from (nat_lt now (at + 247000)) (same_key from m to n) t body e in
    (ltb-true now (at + 247000) v.0, refl, ap IsWhole v.1)
kept_from now at from to m n body more x e = absurd (cc)

kept_to : (now at : ℕ) (from to : Endpoint) (m n : ℕ) (body : List ℕ) → now < at + 247000 → same_key from m to n ≡ true → found_bytes (find (is_found now to n) (kept_transfer true at from m (IsWhole body))) ≡ Some body
kept_to now at from to m n body lt key = λ i. found_bytes (cond (lt-ltb now (at + 247000) lt i && key i) (Some (record { endpoint = from; slot = m; at = at; body = record { items = body } })) None)

-- ---- the stored bytes after one addition

-- if two keys are equal, searches for the transfers with them find the same bytes
same_found : (from to : Endpoint) (m n : ℕ) → same_key from m to n ≡ true → (held : List Transfer) → found_bytes (find (is_transfer_of from m) held) ≡ found_bytes (find (is_transfer_of to n) held)
same_found from to m n key held = ap found_bytes (find_agree (is_transfer_of from m) (is_transfer_of to n) (own_key from to m n key) held)

step_from : (held : List Transfer) (now at : ℕ) (from to : Endpoint) (m n : ℕ) (payload body : List ℕ) (Before Left : List ℕ → Type 0) → at ≤ now → ((w : List ℕ) → bytes_held at to n held ≡ Some w → Before w) → ((w : List ℕ) → bytes_held now to n held ≡ Some w → Left w) → (same : Bool) (block : Option Place) → same_key from m to n ≡ same → bytes_held now to n (after_add held at from m block payload) ≡ Some body → StillUnderWay now at payload (length (others from m (live at held))) Before Left (block_if same block) body
step_from held now at from to m n payload body Before Left le before left false None key e = left body e
step_from held now at from to m n payload body Before Left le before left false (Some b) key e = left body (sym (ap found_bytes (after_other held at now from to m n b payload le key)) ∙ e)
step_from held now at from to m n payload body Before Left le before left true None key e = left body e
step_from held now at from to m n payload body Before Left le before left true (Some b) key e =
    let w = kept_from now at from to m n body b.more (body_among (live at held) from m b payload) (sym (ap found_bytes (after_own held at now from to m n b payload key)) ∙ e) in
    record { recent = w.0; more = w.1; fits = fits_from Before (live at held) from m b payload body (λ v f. before v (sym (same_found from to m n key (live at held)) ∙ f)) w.2 }

step_to : (held : List Transfer) (now at : ℕ) (from to : Endpoint) (m n : ℕ) (payload body : List ℕ) (Before Left : List ℕ → Type 0) → at ≤ now → ((w : List ℕ) → Before w → bytes_held at to n held ≡ Some w) → ((w : List ℕ) → Left w → bytes_held now to n held ≡ Some w) → (same : Bool) (block : Option Place) → same_key from m to n ≡ same → StillUnderWay now at payload (length (others from m (live at held))) Before Left (block_if same block) body → bytes_held now to n (after_add held at from m block payload) ≡ Some body
step_to held now at from to m n payload body Before Left le before left false None key u = left body u
step_to held now at from to m n payload body Before Left le before left false (Some b) key u = ap found_bytes (after_other held at now from to m n b payload le key) ∙ left body u
step_to held now at from to m n payload body Before Left le before left true None key u = left body u
step_to held now at from to m n payload body Before Left le before left true (Some b) key u =
    let w = fits_to Before (live at held) from m b payload body (λ v f. same_found from to m n key (live at held) ∙ before v f) u.fits in
    ap found_bytes (after_own held at now from to m n b payload key) ∙ ((λ i. found_bytes (find (is_found now to n) (kept_transfer (u.more i) at from m (w i)))) ∙ kept_to now at from to m n body u.recent key)

-- ---- the stored bytes after all additions

rises_on : (before now : ℕ) (h : List Addition) → before ≤ now → RisesTo before h → RisesTo now h
rises_on before now [] le r = tt
rises_on before now (a ∷ h) le r = let le' = r.0 in (omega (arith, le, le'), r.1)

pub held_from : (h : List Addition) (now : ℕ) (to : Endpoint) (n : ℕ) (body : List ℕ) → RisesTo now h → bytes_held now to n (transfers h) ≡ Some body → IsUnderWay now to n h body
held_from [] now to n body r e = absurd (cc)
held_from (a ∷ h) now to n body r e = step_from (transfers h) now a.at a.endpoint to a.slot n a.payload body (IsUnderWay a.at to n h) (IsUnderWay now to n h) r.0 (λ w. held_from h a.at to n w r.1) (λ w. held_from h now to n w (rises_on a.at now h r.0 r.1)) (same_key a.endpoint a.slot to n) a.block refl e

pub held_to : (h : List Addition) (now : ℕ) (to : Endpoint) (n : ℕ) (body : List ℕ) → RisesTo now h → IsUnderWay now to n h body → bytes_held now to n (transfers h) ≡ Some body
held_to [] now to n body r u = absurd u
held_to (a ∷ h) now to n body r u = step_to (transfers h) now a.at a.endpoint to a.slot n a.payload body (IsUnderWay a.at to n h) (IsUnderWay now to n h) r.0 (λ w. held_to h a.at to n w r.1) (λ w. held_to h now to n w (rises_on a.at now h r.0 r.1)) (same_key a.endpoint a.slot to n) a.block refl u

-- ---- the result for a block

pub added_whole : (h : List Addition) (a : Addition) (b : Place) (body : List ℕ) → RisesTo a.at h → (block_added (transfers h) a.at a.endpoint a.slot b a.payload ≡ IsWhole body) ↔ ((b.more ≡ false) × FitsBehind h a b body)
added_whole h a b body r = (
  λ e. let w = whole_from b.more (body_among (live a.at (transfers h)) a.endpoint a.slot b a.payload) body e in
      (w.0, fits_from (IsUnderWay a.at a.endpoint a.slot h) (live a.at (transfers h)) a.endpoint a.slot b a.payload body (λ v. held_from h a.at a.endpoint a.slot v r) w.1),
  λ w. let e = fits_to (IsUnderWay a.at a.endpoint a.slot h) (live a.at (transfers h)) a.endpoint a.slot b a.payload body (λ v. held_to h a.at a.endpoint a.slot v r) w.1 in λ i. unless_more (w.0 i) (e i),
)

pub added_continues : (h : List Addition) (a : Addition) (b : Place) → RisesTo a.at h → (block_added (transfers h) a.at a.endpoint a.slot b a.payload ≡ Continues) ↔ ((b.more ≡ true) × ((body : List ℕ) × FitsBehind h a b body))
added_continues h a b r = (
  λ e. let w = goes_on_from b.more (body_among (live a.at (transfers h)) a.endpoint a.slot b a.payload) (never_continues (live a.at (transfers h)) a.endpoint a.slot b a.payload) e in
      (w.0, (w.1.0, fits_from (IsUnderWay a.at a.endpoint a.slot h) (live a.at (transfers h)) a.endpoint a.slot b a.payload w.1.0 (λ v. held_from h a.at a.endpoint a.slot v r) w.1.1)),
  λ w. let e = fits_to (IsUnderWay a.at a.endpoint a.slot h) (live a.at (transfers h)) a.endpoint a.slot b a.payload w.1.0 (λ v. held_to h a.at a.endpoint a.slot v r) w.1.1 in λ i. unless_more (w.0 i) (e i),
)

-- ---- at most 16 transfers are stored

few_by : (rest : List Transfer) (at : ℕ) (from : Endpoint) (m : ℕ) (more : Bool) (x : Add) → length rest ≤ 16 → ((body : List ℕ) → x ≡ IsWhole body → length rest < 16) → length (rest ++ kept_transfer more at from m x) ≤ 16
few_by rest at from m true (IsWhole w) le room = let lt = room w refl in omega (arith, lt, length-append rest (kept_transfer true at from m (IsWhole w)))
few_by rest at from m more x le room = omega (arith, le, length-append rest (kept_transfer more at from m x))

few_add : (held : List Transfer) (at : ℕ) (from : Endpoint) (m : ℕ) (block : Option Place) (bytes : List ℕ) → length held ≤ 16 → length (after_add held at from m block bytes) ≤ 16
few_add held at from m None bytes le = le
few_add held at from m (Some b) bytes le =
    let alive : length (live at held) ≤ 16 = omega (arith, le, filter_short (is_under_way at) held) in
    let rest : length (others from m (live at held)) ≤ 16 = omega (arith, alive, filter_short (λ t. not (is_transfer_of from m t)) (live at held)) in
    few_by (others from m (live at held)) at from m b.more (body_among (live at held) from m b bytes) rest (λ body e.
    let w = unfull (is_full b.number (length (others from m (live at held)))) (body_behind (before_of b.number (find (is_transfer_of from m) (live at held))) b bytes) body e in
    has_room (live at held) from m b bytes body alive w.0 w.1)

pub few_transfers : (h : List Addition) → length (transfers h) ≤ 16
few_transfers [] = omega arith
few_transfers (a ∷ h) = few_add (transfers h) a.at a.endpoint a.slot a.block a.payload (few_transfers h)
