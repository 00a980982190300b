-- The blocks of one size of a body, joined, are the body's bytes.
use Rattle.std.proofs.Common.{◌≡◌, ℕ, zero, suc, ◌+◌, ◌*◌, ◌≤◌, List, [], ◌++◌, length, take, drop, Bool, true, false, None, Some, refl, sym, ap, ◌∙◌, subst, ⊎_elim, arith, length-drop, if◌then◌else◌}
use Rattle.std.specs.Prelude.{nat_lt, not}
use Rattle.std.proofs.lemmas.Bool.{and_parts, and_cases, ltb-true, ltb-false, not-true, not-false}
use Rattle.std.proofs.lemmas.List.{length-take}
use Rattle.std.proofs.Math.Nat.{zero-mul, suc-mul}
use Rattle.std.proofs.Math.ListN.{drop_of_length-le}
use Rattle.std.proofs.Math.Seq.{take-add, take-nil}
use Rattle.coap_opts.specs.Values.{block_size}
use Rattle.coap_block.specs.Cuts.{Part, block_at, cut_at, is_past, part_bytes}
use Rattle.coap_block.specs.Pieces.{EndsBy, IsBlockOf, joined_cuts}

-- ---- the first blocks, joined

nothing_left : (body : List ℕ) (k szx : ℕ) → is_past body k szx ≡ true → drop (k * block_size szx) body ≡ []
nothing_left body k szx e =
    let w = and_parts (nat_lt 0 k) (not (nat_lt (k * block_size szx) (length body))) e in
    drop_of_length-le body (ltb-false (k * block_size szx) (length body) (not-true (nat_lt (k * block_size szx) (length body)) w.1))

cut_bytes : (body : List ℕ) (k szx : ℕ) (past : Bool) → is_past body k szx ≡ past → part_bytes (if past then None else Some (block_at body k szx)) ≡ take (block_size szx) (drop (k * block_size szx) body)
cut_bytes body k szx true e = sym (ap (take (block_size szx)) (nothing_left body k szx e) ∙ take-nil (block_size szx))
cut_bytes body k szx false e = refl

pub cuts_joined : (body : List ℕ) (szx k : ℕ) → joined_cuts body szx k ≡ take (k * block_size szx) body
cuts_joined body szx zero = sym (ap (λ (n : ℕ). take n body) (zero-mul (block_size szx)))
cuts_joined body szx (suc k) =
    (λ i. cuts_joined body szx k i ++ cut_bytes body k szx (is_past body k szx) refl i)
    ∙ (sym (take-add (k * block_size szx) (block_size szx) body) ∙ sym (ap (λ (n : ℕ). take n body) (suc-mul k (block_size szx))))

-- ---- each block

starts_within : (body : List ℕ) (k szx : ℕ) → is_past body k szx ≡ false → k * block_size szx ≤ length body
starts_within body k szx e = ⊎_elim
    (λ (z : nat_lt 0 k ≡ false). let le = ltb-false 0 k z in let none : k ≡ 0 = omega arith in subst (λ (n : ℕ). n ≤ length body) (sym (ap (λ (n : ℕ). n * block_size szx) none ∙ zero-mul (block_size szx))) (omega arith))
    (λ (s : not (nat_lt (k * block_size szx) (length body)) ≡ false). let lt = ltb-true (k * block_size szx) (length body) (not-false (nat_lt (k * block_size szx) (length body)) s) in omega (arith, lt))
    (and_cases (nat_lt 0 k) (not (nat_lt (k * block_size szx) (length body))) e)

ends_by : (body : List ℕ) (size start : ℕ) (more : Bool) → start ≤ length body → nat_lt (start + size) (length body) ≡ more → EndsBy more size start (length (take size (drop start body))) (length body)
ends_by body size start true le e =
    let lt = ltb-true (start + size) (length body) e in
    let t = length-take size (drop start body) in
    let d = length-drop start body in
    (omega (arith, lt, t, d), omega (arith, lt, t, d))
ends_by body size start false le e =
    let ge = ltb-false (start + size) (length body) e in
    let t = length-take size (drop start body) in
    let d = length-drop start body in
    (omega (arith, ge, t, d, le), omega (arith, ge, t, d, le))

part_is : (past : Bool) (made part : Part) → (if past then None else Some made) ≡ Some part → (past ≡ false) × (made ≡ part)
part_is true made part e = absurd (cc)
part_is false made part e = (refl, cc)

pub each_cut : (body : List ℕ) (szx k : ℕ) (part : Part) → cut_at body k szx ≡ Some part → IsBlockOf body k szx part
each_cut body szx k part e =
    let w = part_is (is_past body k szx) (block_at body k szx) part e in
    let more = nat_lt (k * block_size szx + block_size szx) (length body) in
    subst (IsBlockOf body k szx) w.1 (record { more = more; place = refl; ends = ends_by body (block_size szx) (k * block_size szx) more (starts_within body k szx w.0) refl })
