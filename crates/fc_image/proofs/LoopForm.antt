-- The instructions of a program in which a counted loop is allowed.
use Rattle.std.proofs.Common.{◌≡◌, ◌≢◌, ℕ, zero, suc, ◌+◌, ◌-◌, ◌==◌, ◌||◌, ◌&&◌, ◌<◌, ◌≤◌, not, nat_lt, nat_le, Bool, true, false, if◌then◌else◌, ℤ, pos, Option, Some, None, List, [], ◌∷◌, refl, sym, ap, ◌∙◌, subst, inl, inr, arith}
use Rattle.std.specs.Prelude.{slice_get, unwrap_or}
use Rattle.std.proofs.lemmas.Bool.Decides.{nat_tests}
use Rattle.std.proofs.lemmas.Bool.{cases_eq, cases_lt}
use Rattle.fc_isa.specs.declared.insn.Width.{Width}
use Rattle.fc_isa.specs.declared.insn.Width.TheVariants.{W64}
use Rattle.fc_isa.specs.declared.insn.AluOp.TheVariants.{Add}
use Rattle.fc_isa.specs.declared.insn.Relation.{Relation}
use Rattle.fc_isa.specs.declared.insn.Relation.TheVariants.{Lt}
use Rattle.fc_isa.specs.declared.insn.Operand.{Operand}
use Rattle.fc_isa.specs.declared.insn.Operand.TheVariants.{Imm}
use Rattle.fc_isa.specs.declared.insn.Jump.{Jump}
use Rattle.fc_isa.specs.declared.insn.Insn.{Insn}
use Rattle.fc_isa.specs.declared.insn.Insn.TheVariants.{Alu, JumpIf}
use Rattle.fc_isa.specs.declared.rule.Rule.TheVariants.{BackwardJump}
use Rattle.fc_isa.specs.Flow.{target, landing}
use Rattle.fc_image.specs.declared.loops.Loop.{Loop}
use Rattle.fc_image.specs.Loops.{bound_of, step_of, loop_by, loop_at, is_in, crosses, spoils, disturbs, some_slot, is_undisturbed, loop_if, and_loop, loops_from, loops_of, begins, ends}
use Rattle.fc_image.specs.ShapeRules.{leads_back, breaks_back, IsShapedBy}

-- ---- a back jump

pub bound_is : (width : Width) (relation : Relation) (operand : Operand) (n : ℕ) → bound_of width relation operand ≡ Some n → (width ≡ W64) × (relation ≡ Lt) × (operand ≡ Imm (pos n)) × (1 ≤ n) × (n ≤ 1024)
bound_is W64 Lt (Imm (pos m)) n e = go (nat_le 1 m && nat_le m 1024) refl e
  where
    go : (b : Bool) → (nat_le 1 m && nat_le m 1024) ≡ b → (if b then Some m else None) ≡ Some n → (W64 ≡ W64) × (Lt ≡ Lt) × (Imm (pos m) ≡ Imm (pos n)) × (1 ≤ n) × (n ≤ 1024)
    go true f g = let same : m ≡ n = cc g in (refl, refl, ap (λ k. Imm (pos k)) same, grind (arith, nat_tests, f, same), grind (arith, nat_tests, f, same))
    go false f g = absurd (cc g)
bound_is width relation operand n e = absurd (cc e)

pub step_is : (o : Option Insn) (r c : ℕ) → step_of o r ≡ Some c → (o ≡ Some (Alu Add W64 r (Imm (pos c)))) × (1 ≤ c)
step_is (Some (Alu Add W64 dst (Imm (pos k)))) r c e = go ((dst == r) && nat_le 1 k) refl e
  where
    go : (b : Bool) → ((dst == r) && nat_le 1 k) ≡ b → (if b then Some k else None) ≡ Some c → (Some (Alu Add W64 dst (Imm (pos k))) ≡ Some (Alu Add W64 r (Imm (pos c)))) × (1 ≤ c)
    go true f g =
        let same : k ≡ c = cc g in
        let at : dst ≡ r = grind (arith, nat_tests, f) in
        (ap (λ d. Some (Alu Add W64 d (Imm (pos k)))) at ∙ ap (λ m. Some (Alu Add W64 r (Imm (pos m)))) same, grind (arith, nat_tests, f, same))
    go false f g = absurd (cc g)
step_is o r c e = absurd (cc e)

pub record IsLoopBy (slot : ℕ) (j : Jump) (b s : Option ℕ) (l : Loop) : Type 0 where
  pub bound : b ≡ Some l.bound
  pub step : s ≡ Some l.step
  pub last : slot ≡ l.last
  pub lands : landing slot j.offset ≡ l.head
  pub left : j.left ≡ l.counter
  pub order : l.head < l.last

pub loop_by_is : (slot : ℕ) (j : Jump) (b s : Option ℕ) (l : Loop) → loop_by slot j b s ≡ Some l → IsLoopBy slot j b s l
loop_by_is slot j (Some n) (Some c) l e = go (nat_lt (landing slot j.offset) slot) refl e
  where
    made : Loop
    made = record { head = landing slot j.offset; last = slot; counter = j.left; bound = n; step = c }

    go : (t : Bool) → nat_lt (landing slot j.offset) slot ≡ t → (if t then Some made else None) ≡ Some l → IsLoopBy slot j (Some n) (Some c) l
    go true f g =
        let same : made ≡ l = cc g in
        let lt : landing slot j.offset < slot = grind (arith, nat_tests, f) in
        subst (IsLoopBy slot j (Some n) (Some c)) same (record { bound = refl; step = refl; last = refl; lands = refl; left = refl; order = lt })
    go false f g = absurd (cc g)
loop_by_is slot j (Some n) None l e = absurd (cc e)
loop_by_is slot j None s l e = absurd (cc e)

-- a loop's back jump and the addition before it are in the program
pub record IsJump (allowed : Bool) (code : List Insn) (l : Loop) : Type 0 where
  pub jump : Jump
  pub stands : slice_get code l.last ≡ Some (JumpIf jump)
  pub lands : landing l.last jump.offset ≡ l.head
  pub order : l.head < l.last
  pub width : jump.width ≡ W64
  pub relation : jump.relation ≡ Lt
  pub left : jump.left ≡ l.counter
  pub right : jump.right ≡ Imm (pos l.bound)
  pub some : 1 ≤ l.bound
  pub few : l.bound ≤ 1024
  pub adds : slice_get code (l.last - 1) ≡ Some (Alu Add W64 l.counter (Imm (pos l.step)))
  pub step : 1 ≤ l.step
  pub is : loop_if allowed code l.last (JumpIf jump) ≡ Some l

-- a loop's last slot is that of its back jump
pub loop_last : (code : List Insn) (slot : ℕ) (j : Jump) (l : Loop) → loop_at code slot (JumpIf j) ≡ Some l → slot ≡ l.last
loop_last code slot j l e = (loop_by_is slot j (bound_of j.width j.relation j.right) (step_of (slice_get code (slot - 1)) j.left) l e).last

jump_of : (allowed : Bool) (code : List Insn) (slot : ℕ) (j : Jump) (l : Loop) → slice_get code slot ≡ Some (JumpIf j) → loop_at code slot (JumpIf j) ≡ Some l → loop_if allowed code slot (JumpIf j) ≡ Some l → IsJump allowed code l
jump_of allowed code slot j l stands e is =
    let r = loop_by_is slot j (bound_of j.width j.relation j.right) (step_of (slice_get code (slot - 1)) j.left) l e in
    let b = bound_is j.width j.relation j.right l.bound r.bound in
    let s = step_is (slice_get code (slot - 1)) j.left l.step r.step in
    record {
      jump = j;
      stands = subst (λ k. slice_get code k ≡ Some (JumpIf j)) r.last stands;
      lands = subst (λ k. landing k j.offset ≡ l.head) r.last r.lands;
      order = r.order;
      width = b.0;
      relation = b.1;
      left = r.left;
      right = b.2;
      some = b.3;
      few = b.4;
      adds = subst (λ k. slice_get code (k - 1) ≡ Some (Alu Add W64 l.counter (Imm (pos l.step)))) r.last (s.0 ∙ ap (λ c. Some (Alu Add W64 c (Imm (pos l.step)))) r.left);
      step = s.1;
      is = subst (λ k. loop_if allowed code k (JumpIf j) ≡ Some l) r.last is;
    }

pub if_at : (allowed : Bool) (code : List Insn) (slot : ℕ) (insn : Insn) (l : Loop) → loop_if allowed code slot insn ≡ Some l → loop_at code slot insn ≡ Some l
if_at false code slot insn l e = absurd (cc e)
if_at true code slot insn l e = e

loop_jump : (allowed : Bool) (code : List Insn) (slot : ℕ) (insn : Insn) (l : Loop) → slice_get code slot ≡ Some insn → loop_at code slot insn ≡ Some l → loop_if allowed code slot insn ≡ Some l → IsJump allowed code l
loop_jump allowed code slot (JumpIf j) l stands e is = jump_of allowed code slot j l stands e is
loop_jump allowed code slot insn l stands e is = absurd (cc e)

-- ---- the list of loops

abbrev pub AreFrom : List Insn → ℕ → List Insn → Type 0
AreFrom code slot rest = (k : ℕ) (insn : Insn) → slice_get rest k ≡ Some insn → slice_get code (slot + k) ≡ Some insn

from_here : (code : List Insn) (slot : ℕ) (insn : Insn) (rest : List Insn) → AreFrom code slot (insn ∷ rest) → slice_get code slot ≡ Some insn
from_here code slot insn rest h = let z : slot + 0 ≡ slot = omega arith in subst (λ k. slice_get code k ≡ Some insn) z (h 0 insn refl)

from_next : (code : List Insn) (slot : ℕ) (insn : Insn) (rest : List Insn) → AreFrom code slot (insn ∷ rest) → AreFrom code (suc slot) rest
from_next code slot insn rest h k i e = let m : slot + suc k ≡ suc slot + k = omega arith in subst (λ j. slice_get code j ≡ Some i) m (h (suc k) i e)

from_first : (code : List Insn) → AreFrom code 0 code
from_first code k insn e = let z : k ≡ 0 + k = omega arith in subst (λ j. slice_get code j ≡ Some insn) z e

-- each loop of the list has its back jump in the program
in_list : (allowed : Bool) (code : List Insn) (slot : ℕ) (rest : List Insn) (i : ℕ) (l : Loop) → AreFrom code slot rest → slice_get (loops_from allowed code slot rest) i ≡ Some l → IsJump allowed code l
in_list allowed code slot [] i l at e = absurd (cc e)
in_list allowed code slot (insn ∷ rest) i l at e = go (loop_if allowed code slot insn) refl i e (λ j f. in_list allowed code (suc slot) rest j l (from_next code slot insn rest at) f)
  where
    go : (o : Option Loop) → loop_if allowed code slot insn ≡ o → (i : ℕ) → slice_get (and_loop o (loops_from allowed code (suc slot) rest)) i ≡ Some l → ((j : ℕ) → slice_get (loops_from allowed code (suc slot) rest) j ≡ Some l → IsJump allowed code l) → IsJump allowed code l
    go None f i g ih = ih i g
    go (Some m) f zero g ih = let is = f ∙ g in loop_jump allowed code slot insn l (from_here code slot insn rest at) (if_at allowed code slot insn l is) is
    go (Some m) f (suc i) g ih = ih i g

pub has_jump : (allowed : Bool) (code : List Insn) (i : ℕ) (l : Loop) → slice_get (loops_of allowed code) i ≡ Some l → IsJump allowed code l
unfolding loops_of
has_jump allowed code i l e = in_list allowed code 0 code i l (from_first code) e

-- each back jump has its loop in the list, if loops are allowed
among : (allowed : Bool) (code : List Insn) (slot : ℕ) (rest : List Insn) (k : ℕ) (insn : Insn) (l : Loop) → slice_get rest k ≡ Some insn → loop_if allowed code (slot + k) insn ≡ Some l → (i : ℕ) × (slice_get (loops_from allowed code slot rest) i ≡ Some l)
among allowed code slot [] k insn l e f = absurd (cc e)
among allowed code slot (x ∷ rest) zero insn l e f =
    let same : x ≡ insn = cc e in
    let z : slot + 0 ≡ slot = omega arith in
    let is : loop_if allowed code slot x ≡ Some l = subst (λ n. loop_if allowed code n x ≡ Some l) z (subst (λ i. loop_if allowed code (slot + 0) i ≡ Some l) (sym same) f) in
    (0, ap (λ o. slice_get (and_loop o (loops_from allowed code (suc slot) rest)) 0) is)
among allowed code slot (x ∷ rest) (suc k) insn l e f =
    let m : slot + suc k ≡ suc slot + k = omega arith in
    let r = among allowed code (suc slot) rest k insn l e (subst (λ n. loop_if allowed code n insn ≡ Some l) m f) in
    further (loop_if allowed code slot x) r.0 r.1
  where
    further : (o : Option Loop) (i : ℕ) → slice_get (loops_from allowed code (suc slot) rest) i ≡ Some l → (i : ℕ) × (slice_get (and_loop o (loops_from allowed code (suc slot) rest)) i ≡ Some l)
    further None i g = (i, g)
    further (Some m) i g = (suc i, g)

pub is_among : (allowed : Bool) (code : List Insn) (slot : ℕ) (insn : Insn) (l : Loop) → slice_get code slot ≡ Some insn → loop_if allowed code slot insn ≡ Some l → (i : ℕ) × (slice_get (loops_of allowed code) i ≡ Some l)
unfolding loops_of
is_among allowed code slot insn l e f = let z : slot ≡ 0 + slot = omega arith in among allowed code 0 code slot insn l e (subst (λ n. loop_if allowed code n insn ≡ Some l) z f)

-- ---- consequences of the rule of back jumps for each slot

-- an offset that lands at another slot than the jump's own has that slot as its target
pub lands_at : (slot : ℕ) (offset : ℤ) (t : ℕ) → landing slot offset ≡ t → t ≢ slot → target slot offset ≡ Some t
lands_at slot offset t e n = go (target slot offset) refl
  where
    go : (o : Option ℕ) → target slot offset ≡ o → target slot offset ≡ Some t
    go None f = absurd (n (let is : slot ≡ t = ap (λ o. unwrap_or o slot) (sym f) ∙ e in sym is))
    go (Some s) f = f ∙ ap Some (ap (λ o. unwrap_or o slot) (sym f) ∙ e)

none_of : (test : ℕ → Insn → Bool) (slot : ℕ) (rest : List Insn) → some_slot test slot rest ≡ false → (k : ℕ) (insn : Insn) → slice_get rest k ≡ Some insn → test (slot + k) insn ≡ false
none_of test slot [] e k insn g = absurd (cc g)
none_of test slot (x ∷ rest) e zero insn g =
    let same : x ≡ insn = cc g in
    let z : slot ≡ slot + 0 = omega arith in
    subst (λ n. test n insn ≡ false) z (subst (λ y. test slot y ≡ false) same (first (test slot x) e))
  where
    first : (b : Bool) → (b || some_slot test (suc slot) rest) ≡ false → b ≡ false
    first true h = absurd (cc h)
    first false h = refl
none_of test slot (x ∷ rest) e (suc k) insn g = let m : suc slot + k ≡ slot + suc k = omega arith in subst (λ n. test n insn ≡ false) m (none_of test (suc slot) rest (second (test slot x) e) k insn g)
  where
    second : (b : Bool) → (b || some_slot test (suc slot) rest) ≡ false → some_slot test (suc slot) rest ≡ false
    second true h = absurd (cc h)
    second false h = h

undisturbed : (allowed : Bool) (code : List Insn) (l : Loop) → IsShapedBy allowed code → IsJump allowed code l → some_slot (disturbs l) 0 code ≡ false
undisturbed allowed code l s j =
    let e : breaks_back allowed code l.last (JumpIf j.jump) ≡ false = s.each BackwardJump l.last (JumpIf j.jump) j.stands in
    let o = j.order in
    let at : target l.last j.jump.offset ≡ Some l.head = lands_at l.last j.jump.offset l.head j.lands (λ same. absurd (omega (arith, same, o))) in
    let back : leads_back l.last (JumpIf j.jump) ≡ true = rw at (grind (arith, nat_tests, o)) in
    twice (some_slot (disturbs l) 0 code) (leads_back l.last (JumpIf j.jump)) back (subst (λ x. (not (is_undisturbed code x) && leads_back l.last (JumpIf j.jump)) ≡ false) j.is e)
  where
    twice : (b c : Bool) → c ≡ true → (not (not b) && c) ≡ false → b ≡ false
    twice true true p h = absurd (cc h)
    twice true false p h = absurd (cc p)
    twice false c p h = refl

-- in a program that passes the checks, no instruction disturbs a loop
pub calm : (allowed : Bool) (code : List Insn) (l : Loop) → IsShapedBy allowed code → IsJump allowed code l → (k : ℕ) (insn : Insn) → slice_get code k ≡ Some insn → disturbs l k insn ≡ false
calm allowed code l s j k insn g = let z : 0 + k ≡ k = omega arith in subst (λ n. disturbs l n insn ≡ false) z (none_of (disturbs l) 0 code (undisturbed allowed code l s j) k insn g)

pub record IsAside (l : Loop) (slot t : ℕ) : Type 0 where
  pub side : is_in l slot ≡ is_in l t
  pub other : (t == l.last) ≡ false

pub aside : (l : Loop) (slot t : ℕ) → crosses l slot (Some t) ≡ false → IsAside l slot t
aside l slot t e = go (is_in l slot) (is_in l t) refl refl e
  where
    go : (a b : Bool) → is_in l slot ≡ a → is_in l t ≡ b → ((if a then not b else b) || (t == l.last)) ≡ false → IsAside l slot t
    go true true p q h = record { side = p ∙ sym q; other = h }
    go true false p q h = absurd (cc h)
    go false true p q h = absurd (cc h)
    go false false p q h = record { side = p ∙ sym q; other = h }

-- ---- nested or apart

pub same_last : (allowed : Bool) (code : List Insn) (l m : Loop) → IsJump allowed code l → IsJump allowed code m → l.last ≡ m.last → l ≡ m
same_last allowed code l m p q e =
    let s : slice_get code l.last ≡ Some (JumpIf q.jump) = subst (λ n. slice_get code n ≡ Some (JumpIf q.jump)) (sym e) q.stands in
    let j : p.jump ≡ q.jump = cc (p.stands, s) in
    let a : loop_if allowed code l.last (JumpIf q.jump) ≡ Some m = subst (λ n. loop_if allowed code n (JumpIf q.jump) ≡ Some m) (sym e) q.is in
    let b : loop_if allowed code l.last (JumpIf q.jump) ≡ Some l = subst (λ x. loop_if allowed code l.last (JumpIf x) ≡ Some l) j p.is in
    cc (a, b)

right_false : (a b : Bool) → (a || b) ≡ false → b ≡ false
right_false true b h = absurd (cc h)
right_false false b h = h

other_jump : (allowed : Bool) (code : List Insn) (l m : Loop) → IsShapedBy allowed code → IsJump allowed code l → IsJump allowed code m → IsAside l m.last m.head
other_jump allowed code l m s p q =
    let o = q.order in
    let at = lands_at m.last q.jump.offset m.head q.lands (λ same. absurd (omega (arith, same, o))) in
    let d = calm allowed code l s p m.last (JumpIf q.jump) q.stands in
    let c : crosses l m.last (target m.last q.jump.offset) ≡ false = right_false (spoils l m.last (JumpIf q.jump)) (crosses l m.last (target m.last q.jump.offset)) d in
    aside l m.last m.head (subst (λ x. crosses l m.last x ≡ false) at c)

pub nested : (allowed : Bool) (code : List Insn) (i k : ℕ) (l m : Loop) → IsShapedBy allowed code → slice_get (loops_of allowed code) i ≡ Some l → slice_get (loops_of allowed code) k ≡ Some m → l.head < m.head → m.head ≤ l.last → m.last < l.last
nested allowed code i k l m s g h lt le =
    let p = has_jump allowed code i l g in
    let q = has_jump allowed code k m h in
    let a = other_jump allowed code l m s p q in
    let inside : is_in l m.head ≡ true = grind (arith, nat_tests, lt, le) in
    let upto : is_in l m.last ≡ true = a.side ∙ inside in
    let within : m.last ≤ l.last = grind (arith, nat_tests, upto) in
    elim (cases_eq l.last m.last) [
      | inl same ↦ let one = ap (λ x. x.head) (same_last allowed code l m p q same) in absurd (omega (arith, one, lt))
      | inr d ↦ omega (arith, within, d)
    ]

-- of two loops that begin at one slot, neither ends before the other
not_before : (allowed : Bool) (code : List Insn) (l m : Loop) → IsShapedBy allowed code → IsJump allowed code l → IsJump allowed code m → l.head ≡ m.head → l.last < m.last → ⊥
not_before allowed code l m s p q e lt =
    let a = other_jump allowed code l m s p q in
    let o = p.order in
    let inside : is_in l m.head ≡ true = grind (arith, nat_tests, e, o) in
    let upto : is_in l m.last ≡ true = a.side ∙ inside in
    let within : m.last ≤ l.last = grind (arith, nat_tests, upto) in
    absurd (omega (arith, within, lt))

same_head : (allowed : Bool) (code : List Insn) (l m : Loop) → IsShapedBy allowed code → IsJump allowed code l → IsJump allowed code m → l.head ≡ m.head → l ≡ m
same_head allowed code l m s p q e =
    elim (cases_eq l.last m.last) [
      | inl same ↦ same_last allowed code l m p q same
      | inr d ↦ elim (cases_lt l.last m.last) [
        | inl lt ↦ absurd (not_before allowed code l m s p q e lt)
        | inr ge ↦ absurd (not_before allowed code m l s q p (sym e) (omega (arith, d, ge)))
      ]
    ]

-- ---- the loop that begins at a slot, or ends there

begins_some : (loops : List Loop) (i : ℕ) (l : Loop) → slice_get loops i ≡ Some l → (k : ℕ) × (m : Loop) × (slice_get loops k ≡ Some m) × (m.head ≡ l.head) × (begins loops l.head ≡ Some m)
begins_some [] i l e = absurd (cc e)
begins_some (x ∷ loops) i l e = go (λ i g. begins_some loops i l g) (x.head == l.head) refl i e
  where
    Found : List Loop → Option Loop → Type 0
    Found loops o = (k : ℕ) × (m : Loop) × (slice_get loops k ≡ Some m) × (m.head ≡ l.head) × (o ≡ Some m)

    go : ((i : ℕ) → slice_get loops i ≡ Some l → Found loops (begins loops l.head)) → (b : Bool) → (x.head == l.head) ≡ b → (i : ℕ) → slice_get (x ∷ loops) i ≡ Some l → Found (x ∷ loops) (if b then Some x else begins loops l.head)
    go ih true f i g = let at : x.head ≡ l.head = grind (arith, nat_tests, f) in (0, x, refl, at, refl)
    go ih false f zero g = let same : x ≡ l = cc g in let at = ap (λ y. y.head) same in absurd (grind (arith, nat_tests, f, at))
    go ih false f (suc i) g = let r = ih i g in (suc r.0, r.1, r.2, r.3, r.4)

ends_some : (loops : List Loop) (i : ℕ) (l : Loop) → slice_get loops i ≡ Some l → (k : ℕ) × (m : Loop) × (slice_get loops k ≡ Some m) × (m.last ≡ l.last) × (ends loops l.last ≡ Some m)
ends_some [] i l e = absurd (cc e)
ends_some (x ∷ loops) i l e = go (λ i g. ends_some loops i l g) (x.last == l.last) refl i e
  where
    Found : List Loop → Option Loop → Type 0
    Found loops o = (k : ℕ) × (m : Loop) × (slice_get loops k ≡ Some m) × (m.last ≡ l.last) × (o ≡ Some m)

    go : ((i : ℕ) → slice_get loops i ≡ Some l → Found loops (ends loops l.last)) → (b : Bool) → (x.last == l.last) ≡ b → (i : ℕ) → slice_get (x ∷ loops) i ≡ Some l → Found (x ∷ loops) (if b then Some x else ends loops l.last)
    go ih true f i g = let at : x.last ≡ l.last = grind (arith, nat_tests, f) in (0, x, refl, at, refl)
    go ih false f zero g = let same : x ≡ l = cc g in let at = ap (λ y. y.last) same in absurd (grind (arith, nat_tests, f, at))
    go ih false f (suc i) g = let r = ih i g in (suc r.0, r.1, r.2, r.3, r.4)

pub begins_first : (allowed : Bool) (code : List Insn) (i : ℕ) (l : Loop) → IsShapedBy allowed code → slice_get (loops_of allowed code) i ≡ Some l → begins (loops_of allowed code) l.head ≡ Some l
begins_first allowed code i l s e =
    let r = begins_some (loops_of allowed code) i l e in
    r.4 ∙ ap Some (same_head allowed code r.1 l s (has_jump allowed code r.0 r.1 r.2) (has_jump allowed code i l e) r.3)

pub ends_last : (allowed : Bool) (code : List Insn) (i : ℕ) (l : Loop) → slice_get (loops_of allowed code) i ≡ Some l → ends (loops_of allowed code) l.last ≡ Some l
ends_last allowed code i l e =
    let r = ends_some (loops_of allowed code) i l e in
    r.4 ∙ ap Some (same_last allowed code r.1 l (has_jump allowed code r.0 r.1 r.2) (has_jump allowed code i l e) r.3)
