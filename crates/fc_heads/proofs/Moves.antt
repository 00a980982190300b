-- Each step keeps the rule of the words and all views.
use Rattle.std.proofs.Common.{◌≡◌, ◌≢◌, ◌⊎◌, ℕ, zero, suc, ◌<◌, ◌≤◌, max, List, [], ◌∷◌, ◌++◌, length, set, get_or, refl, sym, ap, ◌∙◌, subst, ⊎_elim, inl, inr, arith}
use Rattle.std.specs.Prelude.{slice_index}
use Rattle.std.proofs.lemmas.Grind.{common_steps}
use Rattle.std.proofs.lemmas.List.{length-set, get_or-replicate, length-replicate}
use mathlib.Core.Option.{some, some-ne-none, some-injective}
use native.Mathlib.Decide.{ℕ_discrete}
use lib.ListN.{get_elem?}
use Rattle.atomic_table.proofs.Lists.{at_set, at_snoc, set_again}
use Rattle.fc_heads.specs.declared.view.View.{View}
use Rattle.fc_heads.specs.Heads.{zeros, fresh, note, met, higher, peeked, raised_to, greatest_raised, AreGreatest, IsWhole}

-- if one view's published word becomes the greater of it and m, so does the greatest published word
-- of the slot.
pub top_set : (slot m : ℕ) (views : List View) (seat : ℕ) (v w : View) → get_elem? views seat ≡ some v → slice_index w.raised slot ≡ max (slice_index v.raised slot) m → greatest_raised slot (set views seat w) ≡ max (greatest_raised slot views) m
top_set slot m [] seat v w at e = absurd (some-ne-none v (sym at))
top_set slot m (x ∷ xs) zero v w at e =
    let same : slice_index x.raised slot ≡ slice_index v.raised slot = ap (λ (y : View). slice_index y.raised slot) (some-injective x v at) in
    omega arith
top_set slot m (x ∷ xs) (suc seat) v w at e =
    let rest = top_set slot m xs seat v w at e in
    omega arith

pub top_same : (slot : ℕ) (views : List View) (seat : ℕ) (v w : View) → get_elem? views seat ≡ some v → slice_index w.raised slot ≡ slice_index v.raised slot → greatest_raised slot (set views seat w) ≡ greatest_raised slot views
top_same slot views seat v w at e = let h = top_set slot 0 views seat v w at (omega arith) in omega arith

pub top_snoc : (slot : ℕ) (views : List View) (w : View) → slice_index w.raised slot ≡ 0 → greatest_raised slot (views ++ w ∷ []) ≡ greatest_raised slot views
top_snoc slot [] w e = omega arith
top_snoc slot (x ∷ xs) w e = let rest = top_snoc slot xs w e in omega arith

pub zeros_at : (slot : ℕ) → slot < 64 → slice_index zeros slot ≡ 0
zeros_at slot lt = get_or-replicate 64 slot 0 0 lt

pub higher_at : (xs ys : List ℕ) (i : ℕ) → get_or (higher xs ys) i 0 ≡ max (get_or xs i 0) (get_or ys i 0)
higher_at [] ys i = omega arith
higher_at (x ∷ xs) [] i = omega arith
higher_at (x ∷ xs) (y ∷ ys) zero = refl
higher_at (x ∷ xs) (y ∷ ys) (suc i) = higher_at xs ys i

-- the view has seen no word that is greater than these words.
abbrev Below : List ℕ → View → Type 0
Below words v = (slot : ℕ) → slot < 64 → slice_index v.seen slot ≤ slice_index words slot

below_set : (old words : List ℕ) (views : List View) (by : ℕ) (w : View) → ((slot : ℕ) → slot < 64 → slice_index old slot ≤ slice_index words slot)
    → ((j : ℕ) (u : View) → get_elem? views j ≡ some u → Below old u) → Below words w → (j : ℕ) (u : View) → get_elem? (set views by w) j ≡ some u → Below words u
below_set old words views by w up others mine j u e =
    ⊎_elim
    (λ (x : (j ≡ by) × (w ≡ u)). subst (Below words) x.1 mine)
    (λ (x : (j ≢ by) × (get_elem? views j ≡ some u)). λ slot lt. let a = others j u x.1 slot lt in let b = up slot lt in omega arith)
    (at_set views by j w u e)

-- an element of a list, after one was set: it is the one that was set, or is unchanged.
index_set : (xs : List ℕ) (i x j : ℕ) → i < length xs → ((j ≡ i) × (slice_index (set xs i x) j ≡ x)) ⊎ ((j ≢ i) × (slice_index (set xs i x) j ≡ slice_index xs j))
index_set xs i x j lt = elim (ℕ_discrete j i) [ yes e ↦ inl (e, grind (arith, common_steps)) | no n ↦ inr (n, grind (arith, common_steps)) ]

pub begins : (words : List ℕ) → words ≡ zeros → AreGreatest words (fresh ∷ [])
begins words is = record {
  size = ap (λ (ws : List ℕ). length ws) is ∙ length-replicate {A = ℕ} 64 0;
  tops = λ slot lt. let a = zeros_at slot lt in let b : slice_index words slot ≡ slice_index zeros slot = ap (λ (ws : List ℕ). slice_index ws slot) is in omega arith;
  seen = one;
}
  where
    one : (seat : ℕ) (v : View) → get_elem? (fresh ∷ []) seat ≡ some v → Below words v
    one zero v e slot lt = let a : slice_index v.seen slot ≡ slice_index zeros slot = ap (λ (u : View). slice_index u.seen slot) (sym (some-injective _ _ e)) in let b = zeros_at slot lt in omega arith
    one (suc by) v e slot lt = absurd (some-ne-none v (sym e))

-- a load keeps the rule: the word doesn't change, and the handle has seen it.
pub peeks : (words : List ℕ) (views : List View) (id i : ℕ) (v : View) → AreGreatest words views → get_elem? views id ≡ some v → i < 64 → length v.seen ≡ 64
    → AreGreatest (set words i (slice_index words i)) (set views id (peeked v i (slice_index words i)))
peeks words views id i v h at lt whole =
    let n : ℕ = slice_index words i in
    let new : List ℕ = set words i n in
    let w : View = peeked v i n in
    let same : (slot : ℕ) → slice_index new slot ≡ slice_index words slot = λ slot. ⊎_elim (λ (x : (slot ≡ i) × (slice_index new slot ≡ n)). x.1 ∙ ap (λ (k : ℕ). slice_index words k) (sym x.0)) (λ (x : (slot ≢ i) × (slice_index new slot ≡ slice_index words slot)). x.1) (index_set words i n slot (let s = h.size in omega arith)) in
    record {
      size = length-set words i n ∙ h.size;
      tops = λ slot l. same slot ∙ (h.tops slot l ∙ sym (top_same slot views id v w at refl));
      seen = below_set words new views id w (λ slot l. let e = same slot in omega arith) h.seen
          (λ slot l. let old = h.seen id v at slot l in let e = same slot in ⊎_elim (λ (x : (slot ≡ i) × (slice_index (set v.seen i n) slot ≡ n)). let y = ap (λ (k : ℕ). slice_index words k) x.0 in let z = x.1 in omega arith) (λ (x : (slot ≢ i) × (slice_index (set v.seen i n) slot ≡ slice_index v.seen slot)). let z = x.1 in omega arith) (index_set v.seen i n slot (omega arith)));
    }

-- a publication keeps the rule: the word is replaced by the greater of the word and k.
pub raises : (words : List ℕ) (views : List View) (id i k : ℕ) (v : View) → AreGreatest words views → get_elem? views id ≡ some v → i < 64 → length v.seen ≡ 64 → length v.raised ≡ 64
    → AreGreatest (set words i (max (slice_index words i) k)) (set views id (raised_to v i k (slice_index words i)))
raises words views id i k v h at lt whole whole' =
    let n : ℕ = slice_index words i in
    let m : ℕ = max n k in
    let new : List ℕ = set words i m in
    let w : View = raised_to v i k n in
    let r : ℕ = slice_index v.raised i in
    let up : (slot : ℕ) → slot < 64 → slice_index words slot ≤ slice_index new slot = λ slot l. ⊎_elim (λ (x : (slot ≡ i) × (slice_index new slot ≡ m)). let y = ap (λ (k : ℕ). slice_index words k) x.0 in let z = x.1 in omega arith) (λ (x : (slot ≢ i) × (slice_index new slot ≡ slice_index words slot)). let z = x.1 in omega arith) (index_set words i m slot (let s = h.size in omega arith)) in
    record {
      size = length-set words i m ∙ h.size;
      tops = λ slot l. tops slot l (index_set words i m slot (let s = h.size in omega arith)) (index_set v.raised i (max r k) slot (omega arith));
      seen = below_set words new views id w up h.seen
          (λ slot l. let old = h.seen id v at slot l in let e = up slot l in ⊎_elim (λ (x : (slot ≡ i) × (slice_index (set v.seen i m) slot ≡ m)). at_i slot l x) (λ (x : (slot ≢ i) × (slice_index (set v.seen i m) slot ≡ slice_index v.seen slot)). let z = x.1 in omega arith) (index_set v.seen i m slot (omega arith)));
    }
  where
    at_i : (slot : ℕ) → slot < 64 → (slot ≡ i) × (slice_index (set v.seen i (max (slice_index words i) k)) slot ≡ max (slice_index words i) k) → slice_index (set v.seen i (max (slice_index words i) k)) slot ≤ slice_index (set words i (max (slice_index words i) k)) slot
    at_i slot l x = ⊎_elim (λ (y : (slot ≡ i) × (slice_index (set words i (max (slice_index words i) k)) slot ≡ max (slice_index words i) k)). let a = x.1 in let b = y.1 in omega arith) (λ (y : (slot ≢ i) × (slice_index (set words i (max (slice_index words i) k)) slot ≡ slice_index words slot)). absurd (y.0 x.0)) (index_set words i (max (slice_index words i) k) slot (let s = h.size in omega arith))

    tops : (slot : ℕ) → slot < 64
        → ((slot ≡ i) × (slice_index (set words i (max (slice_index words i) k)) slot ≡ max (slice_index words i) k)) ⊎ ((slot ≢ i) × (slice_index (set words i (max (slice_index words i) k)) slot ≡ slice_index words slot))
        → ((slot ≡ i) × (slice_index (set v.raised i (max (slice_index v.raised i) k)) slot ≡ max (slice_index v.raised i) k)) ⊎ ((slot ≢ i) × (slice_index (set v.raised i (max (slice_index v.raised i) k)) slot ≡ slice_index v.raised slot))
        → slice_index (set words i (max (slice_index words i) k)) slot ≡ greatest_raised slot (set views id (raised_to v i k (slice_index words i)))
    tops slot l (inl x) (inl y) =
        let t = top_set slot k views id v (raised_to v i k (slice_index words i)) at (y.1 ∙ ap (λ (j : ℕ). max (slice_index v.raised j) k) (sym x.0)) in
        let u = h.tops slot l in
        let a = x.1 in
        let b = ap (λ (j : ℕ). slice_index words j) x.0 in
        omega arith
    tops slot l (inr x) (inr y) =
        let t = top_same slot views id v (raised_to v i k (slice_index words i)) at y.1 in
        let u = h.tops slot l in
        let a = x.1 in
        omega arith
    tops slot l (inl x) (inr y) = absurd (y.0 x.0)
    tops slot l (inr x) (inl y) = absurd (x.0 y.0)

-- a new view keeps the rule, if it has published nothing and has seen no more than this one.
pub forks : (words : List ℕ) (views : List View) (id : ℕ) (v w : View) → AreGreatest words views → get_elem? views id ≡ some v → ((slot : ℕ) → slot < 64 → slice_index w.raised slot ≡ 0) → ((slot : ℕ) → slot < 64 → slice_index w.seen slot ≤ slice_index v.seen slot)
    → AreGreatest words (set views id v ++ w ∷ [])
forks words views id v w h at none less = subst (λ (vs : List View). AreGreatest words (vs ++ w ∷ [])) (sym (set_again views id v at)) record {
  size = h.size;
  tops = λ slot l. h.tops slot l ∙ sym (top_snoc slot views w (none slot l));
  seen = λ j u e. ⊎_elim (λ was. h.seen j u was) (λ (same : w ≡ u). subst (Below words) same (λ slot l. let a = less slot l in let b = h.seen id v at slot l in omega arith)) (at_snoc views w u j e);
}

-- a fresh view keeps the rule.
pub arrives : (words : List ℕ) (views : List View) → AreGreatest words views → AreGreatest words (views ++ fresh ∷ [])
arrives words views h = record {
  size = h.size;
  tops = λ slot l. h.tops slot l ∙ sym (top_snoc slot views fresh (zeros_at slot l));
  seen = λ j u e. ⊎_elim (λ was. h.seen j u was) (λ (same : fresh ≡ u). subst (Below words) same (λ slot l. let z = zeros_at slot l in omega arith)) (at_snoc views fresh u j e);
}

-- a merge keeps the rule: a view adds the knowledge of a note, and the note is replaced by a fresh
-- view.
pub merges : (words : List ℕ) (views : List View) (id other : ℕ) (v w : View) → AreGreatest words views → get_elem? views id ≡ some v → other ≢ id → get_elem? (set views id (met v w)) other ≡ some w → ((slot : ℕ) → slot < 64 → slice_index w.raised slot ≡ 0)
    → AreGreatest words (set (set views id (met v w)) other fresh)
merges words views id other v w h at apart there none =
    let first : List View = set views id (met v w) in
    let theirs : Below words w = ⊎_elim (λ (t : (other ≡ id) × (met v w ≡ w)). absurd (apart t.0)) (λ (t : (other ≢ id) × (get_elem? views other ≡ some w)). h.seen other w t.1) (at_set views id other (met v w) w there) in
    record {
      size = h.size;
      tops = λ slot l. h.tops slot l ∙ (sym (top_same slot views id v (met v w) at refl) ∙ sym (top_same slot first other w fresh there (zeros_at slot l ∙ sym (none slot l))));
      seen = below_set words words first other fresh (λ slot l. omega arith)
          (below_set words words views id (met v w) (λ slot l. omega arith) h.seen (λ slot l. let a = h.seen id v at slot l in let b = theirs slot l in let c = higher_at v.seen w.seen slot in omega arith))
          (λ slot l. let a = zeros_at slot l in omega arith);
    }

pub length-higher : (xs ys : List ℕ) → length xs ≡ length ys → length (higher xs ys) ≡ length xs
length-higher [] [] e = refl
length-higher [] (y ∷ ys) e = absurd (omega arith)
length-higher (x ∷ xs) [] e = refl
length-higher (x ∷ xs) (y ∷ ys) e = ap suc (length-higher xs ys (omega arith))

-- a merge keeps the rule, if the note and the view are given by equations.
pub merges_as : (words : List ℕ) (views : List View) (id other : ℕ) (v w : View) (u : View) → w ≡ note u → AreGreatest words views → get_elem? views id ≡ some v → other ≢ id → get_elem? (set views id (met v w)) other ≡ some w
    → AreGreatest words (set (set views id (met v w)) other fresh)
merges_as words views id other v w u is h at apart there = merges words views id other v w h at apart there (λ slot l. ap (λ (x : View). slice_index x.raised slot) is ∙ zeros_at slot l)

-- a view of 64 words has 64 words after its handle exchanged knowledge with another one.
pub met_is_whole : (v w : View) → IsWhole v → IsWhole w → IsWhole (met v w)
met_is_whole v w old other = (length-higher v.seen w.seen (omega arith) ∙ old.0, old.1)
