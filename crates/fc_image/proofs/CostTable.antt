-- The table of costs, filled from the last slot back.
use Rattle.std.proofs.Common.{◌≡◌, ℕ, zero, suc, ◌+◌, ◌-◌, ◌*◌, ◌<◌, ◌≤◌, nat_lt, Bool, true, false, if◌then◌else◌, min, set, get_or-set_same, get_or-set_other, replicate, Option, List, [], ◌∷◌, length, drop, Some, None, get_or, inl, inr, refl, sym, ap, ◌∙◌, subst, arith, ℤ, pos, negsuc}
use Rattle.std.specs.Prelude.{slice_get, slice_index}
use Rattle.std.proofs.lemmas.Bool.{cases_eq, cases_lt}
use Rattle.std.proofs.lemmas.List.{get_or-drop}
use Rattle.fc_isa.specs.declared.insn.Insn.{Insn}
use Rattle.fc_isa.specs.Flow.{Flow, Halts, Goes, Forks, Enters, flow}
use Rattle.fc_image.specs.Functions.{at_offset}
use Rattle.fc_image.specs.declared.loops.Loop.{Loop}
use Rattle.fc_image.specs.Loops.{begins, ends}
use Rattle.fc_image.specs.Paths.{turns, along, own_cost, looped, cost_at, cost_of, costs}
use Rattle.fc_image.proofs.Costs.{cost_here, less_one}

pub drop_at : (code : List Insn) (slot : ℕ) (insn : Insn) → slice_get code slot ≡ Some insn → drop slot code ≡ insn ∷ drop (suc slot) code
drop_at [] slot insn e = absurd (cc e)
drop_at (i ∷ code) zero insn e = ap (λ x. x ∷ code) (cc e)
drop_at (i ∷ code) (suc slot) insn e = drop_at code slot insn e

pub first_of : (xs ys : List ℕ) (slot : ℕ) (c : ℕ) → drop slot xs ≡ c ∷ ys → get_or xs slot 0 ≡ c
first_of [] ys zero c e = absurd (cc e)
first_of [] ys (suc k) c e = absurd (cc e)
first_of (x ∷ xs) ys zero c e = cc e
first_of (x ∷ xs) ys (suc k) c e = first_of xs ys k c e

pub length-costs : (loops : List Loop) (first : ℕ) (code : List Insn) → length (costs loops first code) ≡ length code
unfolding costs
length-costs loops first [] = refl
length-costs loops first (insn ∷ code) = ap suc (length-costs loops (suc first) code)

-- ---- the table, each cost up to a limit

abbrev pub AreCapped : ℕ → List ℕ → List ℕ → Type 0
AreCapped cap table whole = (k : ℕ) → get_or table k 0 ≡ min cap (get_or whole k 0)

pub at_capped : (cap : ℕ) (xs ys : List ℕ) (o : ℤ) → AreCapped cap xs ys → at_offset xs o ≡ min cap (at_offset ys o)
at_capped cap xs ys (pos n) h = h n
at_capped cap xs ys (negsuc n) h = omega arith

later_capped : (cap slot : ℕ) (xs ys : List ℕ) (t : ℕ) → AreCapped cap xs ys → cost_at xs slot t ≡ min cap (cost_at ys slot t)
later_capped cap slot xs ys t h = go (nat_lt slot t)
  where
    go : (b : Bool) → (if b then slice_index xs (t - suc slot) else 0) ≡ min cap (if b then slice_index ys (t - suc slot) else 0)
    go true = h (t - suc slot)
    go false = omega arith

along_capped : (cap : ℕ) (at to : ℕ → ℕ) (f : Flow) → ((t : ℕ) → at t ≡ min cap (to t)) → min cap (along at f) ≡ min cap (along to f)
along_capped cap at to Halts h = refl
along_capped cap at to (Goes next) h = let e = h next in omega (arith, e)
along_capped cap at to (Forks taken next) h = let e = h taken in let f = h next in omega (arith, e, f)
along_capped cap at to (Enters start next) h = let e = h start in let f = h next in omega (arith, e, f)

own_capped : (cap : ℕ) (at to : ℕ → ℕ) (o : Option Loop) (f : Flow) → ((t : ℕ) → at t ≡ min cap (to t)) → min cap (own_cost at o f) ≡ min cap (own_cost to o f)
own_capped cap at to None f h = along_capped cap at to f h
own_capped cap at to (Some l) f h = refl

turns_capped : (cap k a b x y : ℕ) → 1 ≤ k → min cap a ≡ min cap b → x ≡ min cap y → min cap (k * a + x) ≡ min cap (k * b + y)
turns_capped cap k a b x y some e f = elim (cases_lt a cap) [
  | inl lt ↦ let same : a ≡ b = omega (arith, e, lt) in let m : k * a ≡ k * b = ap (λ n. k * n) same in omega (arith, m, f)
  | inr ge ↦ let p = less_one k a some in let q = less_one k b some in omega (arith, e, ge, p, q)
]

looped_capped : (cap : ℕ) (at to : ℕ → ℕ) (o : Option Loop) (a b : ℕ) → ((t : ℕ) → at t ≡ min cap (to t)) → min cap a ≡ min cap b → min cap (looped at o a) ≡ min cap (looped to o b)
looped_capped cap at to None a b h e = e
looped_capped cap at to (Some l) a b h e = turns_capped cap (turns l) a b (at (l.last + 1)) (to (l.last + 1)) (omega arith) e (h (l.last + 1))

pub cost_capped : (cap : ℕ) (loops : List Loop) (slot : ℕ) (insn : Insn) (xs ys : List ℕ) → AreCapped cap xs ys → min cap (cost_of loops slot insn xs) ≡ min cap (cost_of loops slot insn ys)
cost_capped cap loops slot insn xs ys h =
    let at = later_capped cap slot xs ys in
    looped_capped cap (cost_at xs slot) (cost_at ys slot) (begins loops slot) (own_cost (cost_at xs slot) (ends loops slot) (flow slot insn)) (own_cost (cost_at ys slot) (ends loops slot) (flow slot insn)) (λ t. at t h)
    (own_capped cap (cost_at xs slot) (cost_at ys slot) (ends loops slot) (flow slot insn) (λ t. at t h))

-- after one more slot is set, the table has the capped costs from that slot on
pub one_more : (cap : ℕ) (table whole : List ℕ) (slot value : ℕ) → slot < length table → ((k : ℕ) → suc slot ≤ k → get_or table k 0 ≡ min cap (get_or whole k 0))
    → value ≡ min cap (get_or whole slot 0) → (k : ℕ) → slot ≤ k → get_or (set table slot value) k 0 ≡ min cap (get_or whole k 0)
one_more cap table whole slot value lt known is k ge =
    elim (cases_eq k slot) [
      | inl same ↦ subst (λ j. get_or (set table slot value) j 0 ≡ min cap (get_or whole j 0)) (sym same) (get_or-set_same table slot value 0 lt ∙ is)
      | inr other ↦ get_or-set_other table slot k value 0 other ∙ known k (omega arith)
    ]

pub top_kept : (top : ℕ) (table : List ℕ) (slot value : ℕ) → slot < length table → ((k : ℕ) → get_or table k 0 ≤ top) → value ≤ top → (k : ℕ) → get_or (set table slot value) k 0 ≤ top
top_kept top table slot value lt h le k =
    elim (cases_eq k slot) [
      | inl same ↦ subst (λ j. get_or (set table slot value) j 0 ≤ top) (sym same) (rw (get_or-set_same table slot value 0 lt) le)
      | inr other ↦ rw (get_or-set_other table slot k value 0 other) (h k)
    ]

pub rest_capped : (cap : ℕ) (table whole : List ℕ) (slot : ℕ) → ((k : ℕ) → suc slot ≤ k → get_or table k 0 ≡ min cap (get_or whole k 0)) → AreCapped cap (drop (suc slot) table) (drop (suc slot) whole)
rest_capped cap table whole slot known k =
    get_or-drop (suc slot) table k 0 ∙ known (suc slot + k) (omega arith) ∙ ap (min cap) (sym (get_or-drop (suc slot) whole k 0))

pub cost_more : (code : List Insn) (loops : List Loop) (table : List ℕ) (slot value : ℕ) (insn : Insn) → slice_get code slot ≡ Some insn → slot < length table
    → ((k : ℕ) → suc slot ≤ k → get_or table k 0 ≡ min 65537 (get_or (costs loops 0 code) k 0)) → value ≡ min 65537 (cost_of loops slot insn (drop (suc slot) table))
    → (k : ℕ) → slot ≤ k → get_or (set table slot value) k 0 ≡ min 65537 (get_or (costs loops 0 code) k 0)
cost_more code loops table slot value insn stands lt known is =
    let z : 0 + slot ≡ slot = omega arith in
    let whole = costs loops 0 code in
    one_more 65537 table whole slot value lt known
    (is ∙ cost_capped 65537 loops slot insn (drop (suc slot) table) (drop (suc slot) whole) (rest_capped 65537 table whole slot known)
    ∙ ap (λ n. min 65537 (cost_of loops n insn (drop (suc slot) whole))) (sym z) ∙ ap (min 65537) (sym (cost_here loops 0 code slot insn stands)))

pub zero_at : (n k : ℕ) → get_or {A = ℕ} (replicate n 0) k 0 ≡ zero
zero_at zero k = refl
zero_at (suc n) zero = refl
zero_at (suc n) (suc k) = zero_at n k

pub past_end : (xs : List ℕ) (k : ℕ) → length xs ≤ k → get_or xs k 0 ≡ zero
past_end [] k h = refl
past_end (x ∷ xs) zero h = absurd (omega arith)
past_end (x ∷ xs) (suc k) h = past_end xs k (omega arith)
