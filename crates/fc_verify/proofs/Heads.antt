-- The state at a head, and the parts of it that a body keeps.
use Rattle.std.proofs.Common.{◌≡◌, ◌≢◌, ◌⊎◌, ℕ, zero, suc, ◌+◌, ◌-◌, ◌==◌, ◌&&◌, ◌||◌, ◌<◌, ◌≤◌, nat_lt, nat_le, max, min, Bool, true, false, if◌then◌else◌, ℤ, pos, Option, Some, None, List, length, refl, sym, ap, ◌∙◌, subst, inl, inr, arith, get_or-set_same, get_or-set_other}
use Rattle.std.specs.Prelude.{slice_get, slice_set}
use Rattle.std.proofs.lemmas.List.{get_or_past}
use Rattle.std.proofs.lemmas.Bool.Decides.{nat_tests}
use Rattle.std.proofs.lemmas.Bool.{cases_eq, cases_lt}
use Rattle.fc_isa.specs.declared.insn.Width.TheVariants.{W64}
use Rattle.fc_isa.specs.declared.insn.Relation.TheVariants.{Lt}
use Rattle.fc_isa.specs.declared.insn.Operand.TheVariants.{Imm}
use Rattle.fc_isa.specs.declared.insn.Jump.{Jump}
use Rattle.fc_isa.specs.declared.insn.Insn.{Insn}
use Rattle.fc_isa.specs.declared.insn.Insn.TheVariants.{Alu, Unary, SignExtend, LoadWide, WideSecond, Load, StoreImm, Store, JumpAlways, JumpAlwaysLong, JumpIf, CallHelper, CallLocal, Exit}
use Rattle.fc_isa.specs.Program.{IsInsn}
use Rattle.fc_help.specs.declared.helper.Helper.{Helper}
use Rattle.fc_help.specs.Helpers.{helper_of, signature_of}
use Rattle.fc_kinds.specs.Intervals.{interval, all, both, exchanged, refined}
use Rattle.fc_kinds.specs.declared.kind.Kind.{Kind}
use Rattle.fc_kinds.specs.declared.kind.Kind.TheVariants.{Unset, Num, Stack, Req, Vars, Dev}
use Rattle.fc_kinds.specs.Values.{with_some}
use Rattle.fc_kinds.specs.Kinds.{kind_at, KindWithin, Within}
use Rattle.fc_kinds.specs.Containing.{IsKind, AreKinds}
use Rattle.fc_kinds.specs.Transfer.{num, is_number, put_kind, where_met, after_call, are_arguments, helped_kinds, transfer}
use Rattle.fc_kinds.specs.Refinement.{both_numbers, when}
use Rattle.fc_kinds.proofs.KindLaws.{kind_within_same, within_trans}
use Rattle.fc_image.specs.declared.loops.Loop.{Loop}
use Rattle.fc_image.specs.Loops.{is_written, has_call}
use Rattle.fc_isa.specs.Writes.{computes, is_call, is_that, writes}
use Rattle.fc_verify.specs.Heads.{IsAnyNumber, IsHeadState, any_number, formed_kind, formed, enters, settled, gives_number}
use Rattle.fc_verify.proofs.Rules.{IsUnder, Settles, SettlesIn, IsSound}
use Rattle.fc_image.proofs.LoopLaws.{in_body}
use Rattle.fc_kinds.proofs.WayLaws.{met_is}

-- ---- the loop invariant, register by register

formed_at : (code : List Insn) (l : Loop) (ks : List Kind) (r : ℕ) → r < 11 → kind_at (formed code l ks) r ≡ formed_kind code l r (kind_at ks r)
formed_at code l ks zero lt = refl
formed_at code l ks (suc zero) lt = refl
formed_at code l ks (suc (suc zero)) lt = refl
formed_at code l ks (suc (suc (suc zero))) lt = refl
formed_at code l ks (suc (suc (suc (suc zero)))) lt = refl
formed_at code l ks (suc (suc (suc (suc (suc zero))))) lt = refl
formed_at code l ks (suc (suc (suc (suc (suc (suc zero)))))) lt = refl
formed_at code l ks (suc (suc (suc (suc (suc (suc (suc zero))))))) lt = refl
formed_at code l ks (suc (suc (suc (suc (suc (suc (suc (suc zero)))))))) lt = refl
formed_at code l ks (suc (suc (suc (suc (suc (suc (suc (suc (suc zero))))))))) lt = refl
formed_at code l ks (suc (suc (suc (suc (suc (suc (suc (suc (suc (suc zero)))))))))) lt = refl
formed_at code l ks (suc (suc (suc (suc (suc (suc (suc (suc (suc (suc (suc r))))))))))) lt = absurd (omega (arith, lt))

-- a property of each register's abstract value in the loop invariant, and of `Unset`, is one of all
-- entries of the state
pub formed_all : (P : ℕ → Kind → Type 0) (code : List Insn) (l : Loop) (ks : List Kind) → ((r : ℕ) → P r (formed_kind code l r (kind_at ks r))) → ((r : ℕ) → 11 ≤ r → P r Unset) → (r : ℕ) → P r (kind_at (formed code l ks) r)
formed_all P code l ks p u r = elim (cases_lt r 11) [
  | inl lt ↦ subst (P r) (sym (formed_at code l ks r lt)) (p r)
  | inr ge ↦ let n : length (formed code l ks) ≡ 11 = refl in subst (P r) (sym (get_or_past (formed code l ks) r Unset (omega (arith, ge, n)))) (u r ge)
]

not_cleared : (x : Bool) (r : ℕ) → (x && (nat_le 1 r && nat_le r 5)) ≡ false → x ≡ true → 1 ≤ r → r ≤ 5 → ⊥
not_cleared true r e h a b = absurd (grind (arith, nat_tests, e, a, b))
not_cleared false r e h a b = absurd (cc h)

is_cleared : (x : Bool) (r : ℕ) → (x && (nat_le 1 r && nat_le r 5)) ≡ true → (x ≡ true) × (1 ≤ r) × (r ≤ 5)
is_cleared true r e = (refl, grind (arith, nat_tests, e), grind (arith, nat_tests, e))
is_cleared false r e = absurd (cc e)

abbrev NotCleared : List Insn → Loop → ℕ → Type 0
NotCleared code l r = has_call code l ≡ true → 1 ≤ r → r ≤ 5 → ⊥

pub formed_case : (P : Kind → Type 0) (code : List Insn) (l : Loop) (r : ℕ) (k : Kind) → (r ≡ l.counter → P (Num 0 (l.bound - 1))) → (r ≢ l.counter → has_call code l ≡ true → 1 ≤ r → r ≤ 5 → P Unset)
    → (r ≢ l.counter → NotCleared code l r → is_written code l r ≡ true → P (any_number k)) → (r ≢ l.counter → NotCleared code l r → is_written code l r ≡ false → P k) → P (formed_kind code l r k)
formed_case P code l r k c u w p = go (r == l.counter) (has_call code l && (nat_le 1 r && nat_le r 5)) (is_written code l r) refl refl refl
  where
    go : (x y z : Bool) → (r == l.counter) ≡ x → (has_call code l && (nat_le 1 r && nat_le r 5)) ≡ y → is_written code l r ≡ z → P (if x then Num 0 (l.bound - 1) else (if y then Unset else (if z then any_number k else k)))
    go true y z e f g = c (grind (arith, nat_tests, e))
    go false true z e f g = let h = is_cleared (has_call code l) r f in u (λ same. absurd (grind (arith, nat_tests, e, same))) h.0 h.1 h.2
    go false false true e f g = w (λ same. absurd (grind (arith, nat_tests, e, same))) (not_cleared (has_call code l) r f) g
    go false false false e f g = p (λ same. absurd (grind (arith, nat_tests, e, same))) (not_cleared (has_call code l) r f) g

-- ---- any number

any_is : (k : Kind) → IsAnyNumber (any_number k)
any_is Unset = inr refl
any_is (Num lo hi) = inl refl
any_is (Stack m lo hi) = inr refl
any_is (Req lo hi) = inr refl
any_is (Vars lo hi) = inr refl
any_is (Dev lo hi) = inr refl

any_kind : (k : Kind) → IsKind (any_number k)
any_kind Unset = tt
any_kind (Num lo hi) = (omega arith, omega arith)
any_kind (Stack m lo hi) = tt
any_kind (Req lo hi) = tt
any_kind (Vars lo hi) = tt
any_kind (Dev lo hi) = tt

any_wider : (k : Kind) → IsKind k → KindWithin k (any_number k)
any_wider Unset h = tt
any_wider (Num lo hi) h = (omega arith, omega (arith, h))
any_wider (Stack m lo hi) h = tt
any_wider (Req lo hi) h = tt
any_wider (Vars lo hi) h = tt
any_wider (Dev lo hi) h = tt

number_any : (k : Kind) → is_number k ≡ true → IsKind k → (w : Kind) → IsAnyNumber w → KindWithin k w
number_any k n h w (inr e) = subst (KindWithin k) (sym e) tt
number_any Unset n h w (inl e) = absurd (cc n)
number_any (Num lo hi) n h w (inl e) = subst (KindWithin (Num lo hi)) (sym e) (omega arith, omega (arith, h))
number_any (Stack m lo hi) n h w (inl e) = absurd (cc n)
number_any (Req lo hi) n h w (inl e) = absurd (cc n)
number_any (Vars lo hi) n h w (inl e) = absurd (cc n)
number_any (Dev lo hi) n h w (inl e) = absurd (cc n)

any_least : (k w : Kind) → KindWithin k w → IsAnyNumber w → KindWithin (any_number k) w
any_least k w h (inr e) = subst (KindWithin (any_number k)) (sym e) tt
any_least k w h (inl e) = subst (KindWithin (any_number k)) (sym e) (go k (subst (KindWithin k) e h))
  where
    go : (k : Kind) → KindWithin k (Num 0 18446744073709551615) → KindWithin (any_number k) (Num 0 18446744073709551615)
    go (Num lo hi) h = (omega arith, omega arith)
    go _ h = absurd h

-- ---- the laws of heads

below_bound : (l : Loop) (k : Kind) → enters l k ≡ true → KindWithin k (Num 0 (l.bound - 1))
below_bound l (Num lo hi) e = (omega arith, grind (arith, nat_tests, e))
below_bound l Unset e = absurd (cc e)
below_bound l (Stack m lo hi) e = absurd (cc e)
below_bound l (Req lo hi) e = absurd (cc e)
below_bound l (Vars lo hi) e = absurd (cc e)
below_bound l (Dev lo hi) e = absurd (cc e)

bound_enters : (l : Loop) (k : Kind) → 1 ≤ l.bound → KindWithin k (Num 0 (l.bound - 1)) → enters l k ≡ true
bound_enters l (Num lo hi) some w = grind (arith, nat_tests, some, w)
bound_enters l _ some w = absurd w

pub formed_kinds : (code : List Insn) (l : Loop) (ks : List Kind) → IsSound l → AreKinds ks → AreKinds (formed code l ks)
formed_kinds code l ks s a =
    let few = s.few in
    record {
      count = refl;
      each = formed_all (λ r x. IsKind x) code l ks (λ r. formed_case IsKind code l r (kind_at ks r) (λ e. (omega arith, omega (arith, few))) (λ d h p q. tt) (λ d n w. any_kind (kind_at ks r)) (λ d n w. a.each r)) (λ r ge. tt);
    }

pub settles : (code : List Insn) (l : Loop) (ks hs : List Kind) → IsSound l → AreKinds ks → settled code (Some l) ks ≡ Some hs → Settles code l ks hs
unfolding settled
settles code l ks hs s a e =
    let m = met_is (enters l (kind_at ks l.counter)) (formed code l ks) hs e in
    let len = a.count in
    let few = s.few in
    subst (Settles code l ks) m.1 (record {
      kinds = formed_kinds code l ks s a;
      within = record {
        each = formed_all (λ r x. KindWithin (kind_at ks r) x) code l ks
            (λ r. formed_case (KindWithin (kind_at ks r)) code l r (kind_at ks r) (λ e. subst (λ i. KindWithin (kind_at ks i) (Num 0 (l.bound - 1))) (sym e) (below_bound l (kind_at ks l.counter) m.0)) (λ d h p q. tt)
            (λ d n w. any_wider (kind_at ks r) (a.each r)) (λ d n w. kind_within_same (kind_at ks r)))
            (λ r ge. tt);
      };
      head = record {
        counter = formed_all (λ r x. r ≡ l.counter → x ≡ Num 0 (l.bound - 1)) code l ks
            (λ r. formed_case (λ x. r ≡ l.counter → x ≡ Num 0 (l.bound - 1)) code l r (kind_at ks r) (λ e f. refl) (λ d h p q f. absurd (d f)) (λ d n w f. absurd (d f)) (λ d n w f. absurd (d f)))
            (λ r ge f. let c = s.counter in absurd (omega (arith, ge, f, c))) l.counter refl;
        written = formed_all (λ r x. r ≢ l.counter → is_written code l r ≡ true → IsAnyNumber x) code l ks
            (λ r. formed_case (λ x. r ≢ l.counter → is_written code l r ≡ true → IsAnyNumber x) code l r (kind_at ks r) (λ e d w. absurd (d e)) (λ d h p q f w. inr refl) (λ d n w f v. any_is (kind_at ks r)) (λ d n w f v. absurd (cc (w, v))))
            (λ r ge d w. inr refl);
        cleared = λ h r d p q. formed_all (λ r x. r ≢ l.counter → 1 ≤ r → r ≤ 5 → x ≡ Unset) code l ks
            (λ r. formed_case (λ x. r ≢ l.counter → 1 ≤ r → r ≤ 5 → x ≡ Unset) code l r (kind_at ks r) (λ e d p q. absurd (d e)) (λ d c p q f g i. refl) (λ d n w f p q. absurd (n h p q)) (λ d n w f p q. absurd (n h p q)))
            (λ r ge d p q. refl) r d p q;
      };
    })

past_unset : (ks : List Kind) (r : ℕ) → length ks ≡ 11 → 11 ≤ r → kind_at ks r ≡ Unset
past_unset ks r len ge = get_or_past ks r Unset (omega (arith, len, ge))

pub least : (code : List Insn) (l : Loop) (ks wider : List Kind) → IsSound l → AreKinds ks → Within ks wider → IsHeadState code l wider → SettlesIn code l ks wider
unfolding settled
least code l ks wider s a w h =
    let len = a.count in
    let in_bound : enters l (kind_at ks l.counter) ≡ true = bound_enters l (kind_at ks l.counter) s.some (subst (KindWithin (kind_at ks l.counter)) h.counter (w.each l.counter)) in
    record {
      kinds = formed code l ks;
      is = ap (λ t. where_met t (formed code l ks)) in_bound;
      within = record {
        each = formed_all (λ r x. KindWithin x (kind_at wider r)) code l ks
            (λ r. formed_case (λ x. KindWithin x (kind_at wider r)) code l r (kind_at ks r)
            (λ e. subst (λ i. KindWithin (Num 0 (l.bound - 1)) (kind_at wider i)) (sym e) (subst (KindWithin (Num 0 (l.bound - 1))) (sym h.counter) (kind_within_same (Num 0 (l.bound - 1)))))
            (λ d c p q. subst (KindWithin Unset) (sym (h.cleared c r d p q)) tt)
            (λ d n v. any_least (kind_at ks r) (kind_at wider r) (w.each r) (h.written r d v))
            (λ d n v. w.each r))
            (λ r ge. subst (λ x. KindWithin x (kind_at wider r)) (past_unset ks r len ge) (w.each r));
      };
    }

pub inner_under : (code : List Insn) (l m : Loop) (head ks hs : List Kind) → IsSound m → IsHeadState code l head → AreKinds ks → IsUnder l head ks → settled code (Some m) ks ≡ Some hs
    → ((r : ℕ) → is_written code m r ≡ true → is_written code l r ≡ true) → (has_call code m ≡ true → has_call code l ≡ true) → is_written code m m.counter ≡ true → IsUnder l head hs
unfolding settled
inner_under code l m head ks hs s h a u e writes_in calls_in counts =
    let t = met_is (enters m (kind_at ks m.counter)) (formed code m ks) hs e in
    let len = a.count in
    let few = s.few in
    subst (IsUnder l head) t.1 (record {
      each = formed_all (λ r x. r ≢ l.counter → KindWithin x (kind_at head r)) code m ks
          (λ r. formed_case (λ x. r ≢ l.counter → KindWithin x (kind_at head r)) code m r (kind_at ks r)
          (λ e d. number_any (Num 0 (m.bound - 1)) refl (omega arith, omega (arith, few)) (kind_at head r) (h.written r d (writes_in r (subst (λ i. is_written code m i ≡ true) (sym e) counts))))
          (λ x c p q d. subst (KindWithin Unset) (sym (h.cleared (calls_in c) r d p q)) tt)
          (λ x n v d. any_least (kind_at ks r) (kind_at head r) (u.each r d) (h.written r d (writes_in r v)))
          (λ x n v d. u.each r d))
          (λ r ge d. subst (λ x. KindWithin x (kind_at head r)) (past_unset ks r len ge) (u.each r d));
    })

-- ---- the registers that an instruction writes

abbrev Writes : Insn → ℕ → List Kind → List Kind → Type 0
Writes insn r ks after =
    ((writes insn r ≡ false) × (kind_at after r ≡ kind_at ks r))
    ⊎ ((writes insn r ≡ true) × ((is_number (kind_at after r) ≡ true) ⊎ ((is_call insn ≡ true) × (1 ≤ r) × (r ≤ 5) × (kind_at after r ≡ Unset))))

put_writes : (ks after : List Kind) (dst r : ℕ) (o : Option Kind) → put_kind ks dst o ≡ Some after → is_number (kind_at after dst) ≡ true
    → (((dst == r) || false) ≡ false) × (kind_at after r ≡ kind_at ks r) ⊎ (((dst == r) || false) ≡ true) × (is_number (kind_at after r) ≡ true)
put_writes ks after dst r None e n = absurd (cc e)
put_writes ks after dst r (Some k) e n = elim (cases_eq r dst) [
  | inl same ↦ let t : ((dst == r) || false) ≡ true = grind (arith, nat_tests, same) in inr (t, subst (λ i. is_number (kind_at after i) ≡ true) (sym same) n)
  | inr d ↦
      let t : ((dst == r) || false) ≡ false = grind (arith, nat_tests, d) in
      let is : slice_set ks dst k ≡ after = cc e in
      inl (t, ap (λ x. kind_at x r) (sym is) ∙ get_or-set_other ks dst r k Unset d)
]

computed : (insn : Insn) (ks after : List Kind) (dst r : ℕ) (o : Option Kind) → computes insn ≡ Some dst → is_call insn ≡ false → put_kind ks dst o ≡ Some after → is_number (kind_at after dst) ≡ true → Writes insn r ks after
computed insn ks after dst r o c call e n =
    let w : writes insn r ≡ ((dst == r) || false) = ap (λ x. is_that x r || (is_call insn && nat_le r 5)) c ∙ ap (λ b. (dst == r) || (b && nat_le r 5)) call in
    elim (put_writes ks after dst r o e n) [
      | inl h ↦ inl (w ∙ h.0, h.1)
      | inr h ↦ inr (w ∙ h.0, inl h.1)
    ]

kept : (insn : Insn) (t : Bool) (ks after : List Kind) (r : ℕ) → writes insn r ≡ false → where_met t ks ≡ Some after → Writes insn r ks after
kept insn t ks after r w e = inl (w, ap (λ x. kind_at x r) (sym (met_is t ks after e).1))

called : (insn : Insn) (k : Kind) (ks after : List Kind) (r : ℕ) → length ks ≡ 11 → ((i : ℕ) → writes insn i ≡ nat_le i 5) → is_call insn ≡ true → is_number k ≡ true → after_call k ks ≡ after → Writes insn r ks after
called insn k ks after r len w c n e = subst (Writes insn r ks) e (go r)
  where
    go : (r : ℕ) → Writes insn r ks (after_call k ks)
    go zero = inr (w 0, inl n)
    go (suc zero) = inr (w 1, inr (c, omega arith, omega arith, refl))
    go (suc (suc zero)) = inr (w 2, inr (c, omega arith, omega arith, refl))
    go (suc (suc (suc zero))) = inr (w 3, inr (c, omega arith, omega arith, refl))
    go (suc (suc (suc (suc zero)))) = inr (w 4, inr (c, omega arith, omega arith, refl))
    go (suc (suc (suc (suc (suc zero))))) = inr (w 5, inr (c, omega arith, omega arith, refl))
    go (suc (suc (suc (suc (suc (suc zero)))))) = inl (w 6, refl)
    go (suc (suc (suc (suc (suc (suc (suc zero))))))) = inl (w 7, refl)
    go (suc (suc (suc (suc (suc (suc (suc (suc zero)))))))) = inl (w 8, refl)
    go (suc (suc (suc (suc (suc (suc (suc (suc (suc zero))))))))) = inl (w 9, refl)
    go (suc (suc (suc (suc (suc (suc (suc (suc (suc (suc zero)))))))))) = inl (w 10, refl)
    go (suc (suc (suc (suc (suc (suc (suc (suc (suc (suc (suc r))))))))))) =
        let above : nat_le (suc (suc (suc (suc (suc (suc (suc (suc (suc (suc (suc r))))))))))) 5 ≡ false = grind (arith, nat_tests) in
        inl (w (suc (suc (suc (suc (suc (suc (suc (suc (suc (suc (suc r))))))))))) ∙ above, sym (past_unset ks (suc (suc (suc (suc (suc (suc (suc (suc (suc (suc (suc r))))))))))) len (omega arith)))

helped : (vars : ℕ) (number : ℤ) (o : Option Helper) (ks after : List Kind) (r : ℕ) → length ks ≡ 11 → with_some o (helped_kinds vars ks) ≡ Some after → Writes (CallHelper number) r ks after
helped vars number None ks after r len e = absurd (cc e)
helped vars number (Some h) ks after r len e =
    let m = met_is (are_arguments vars (signature_of h).arguments ks) (after_call (Num 0 (signature_of h).most) ks) after e in
    called (CallHelper number) (Num 0 (signature_of h).most) ks after r len (λ i. refl) refl refl m.1

written : (vars : ℕ) (insn : Insn) (ks after : List Kind) (r : ℕ) → length ks ≡ 11 → transfer vars insn ks ≡ Some after → gives_number (computes insn) after ≡ true → Writes insn r ks after
unfolding transfer
written vars (Alu op width dst operand) ks after r len e n = computed (Alu op width dst operand) ks after dst r _ refl refl e n
written vars (Unary op dst) ks after r len e n = computed (Unary op dst) ks after dst r _ refl refl e n
written vars (SignExtend extension dst src) ks after r len e n = computed (SignExtend extension dst src) ks after dst r _ refl refl e n
written vars (LoadWide dst value) ks after r len e n = computed (LoadWide dst value) ks after dst r (Some (Num value value)) refl refl e n
written vars WideSecond ks after r len e n = absurd (cc e)
written vars (Load loaded dst base offset) ks after r len e n = computed (Load loaded dst base offset) ks after dst r _ refl refl e n
written vars (StoreImm size base offset imm) ks after r len e n = kept (StoreImm size base offset imm) _ ks after r refl e
written vars (Store size base offset src) ks after r len e n = kept (Store size base offset src) _ ks after r refl e
written vars (JumpAlways offset) ks after r len e n = kept (JumpAlways offset) true ks after r refl e
written vars (JumpAlwaysLong offset) ks after r len e n = kept (JumpAlwaysLong offset) true ks after r refl e
written vars (JumpIf j) ks after r len e n = kept (JumpIf j) _ ks after r refl e
written vars (CallHelper number) ks after r len e n = helped vars number (helper_of number) ks after r len e
written vars (CallLocal offset) ks after r len e n = called (CallLocal offset) (num (all 64)) ks after r len (λ i. refl) refl refl (cc e)
written vars Exit ks after r len e n = kept Exit _ ks after r refl e

-- an instruction of a body keeps the state under the head's
pub body_keeps : (vars : ℕ) (code : List Insn) (l : Loop) (slot : ℕ) (insn : Insn) (head ks after : List Kind) → l.head ≤ slot → slot ≤ l.last → slice_get code slot ≡ Some insn → IsInsn insn → IsHeadState code l head → AreKinds ks → AreKinds after → IsUnder l head ks
    → transfer vars insn ks ≡ Some after → gives_number (computes insn) after ≡ true → IsUnder l head after
unfolding is_written has_call
body_keeps vars code l slot insn head ks after from upto stands i h a b u e n = record { each = λ r d. go r d (written vars insn ks after r a.count e n) }
  where
    go : (r : ℕ) → r ≢ l.counter → Writes insn r ks after → KindWithin (kind_at after r) (kind_at head r)
    go r d (inl w) = subst (λ x. KindWithin x (kind_at head r)) (sym w.1) (u.each r d)
    go r d (inr (w, inl x)) = number_any (kind_at after r) x (b.each r) (kind_at head r) (h.written r d (in_body (λ j. writes j r) code l slot insn from upto stands w))
    go r d (inr (w, inr c)) = subst (KindWithin (kind_at after r)) (sym (h.cleared (in_body is_call code l slot insn from upto stands c.0) r d c.1 c.2)) tt

-- ---- the back jump

counted : (ks k : List Kind) (c n lo hi : ℕ) → c < length ks → with_some (refined Lt (interval lo hi) (interval n n)) (λ pair. Some (slice_set ks c (num pair.0))) ≡ Some k → KindWithin (kind_at k c) (Num 0 (n - 1))
unfolding refined
counted ks k c n lo hi lt e = go (nat_lt lo n) e
  where
    go : (b : Bool) → with_some (exchanged (both b (interval (max n (lo + 1)) n) (interval lo (min hi (n - 1))))) (λ pair. Some (slice_set ks c (num pair.0))) ≡ Some k → KindWithin (kind_at k c) (Num 0 (n - 1))
    go false g = absurd (cc g)
    go true g =
        let is : slice_set ks c (Num lo (min hi (n - 1))) ≡ k = cc g in
        subst (λ x. KindWithin (kind_at x c) (Num 0 (n - 1))) is (subst (λ x. KindWithin x (Num 0 (n - 1))) (sym (get_or-set_same ks c (Num lo (min hi (n - 1))) Unset lt)) (omega arith, omega arith))

counter_back : (j : Jump) (ks k : List Kind) (c n : ℕ) → c < length ks → is_number (kind_at ks c) ≡ true → j.width ≡ W64 → j.relation ≡ Lt → j.left ≡ c → j.right ≡ Imm (pos n) → when j true ks ≡ Some k → KindWithin (kind_at k c) (Num 0 (n - 1))
unfolding when
counter_back j ks k c n lt t w r p q e = go (kind_at ks c) t (rw (w, r, p, q) at e)
  where
    go : (x : Kind) → is_number x ≡ true → both_numbers x (Num n n) (λ a b. with_some (refined Lt a b) (λ pair. Some (slice_set ks c (num pair.0)))) ks ≡ Some k → KindWithin (kind_at k c) (Num 0 (n - 1))
    go (Num lo hi) t g = counted ks k c n lo hi lt g
    go Unset t g = absurd (cc t)
    go (Stack m lo hi) t g = absurd (cc t)
    go (Req lo hi) t g = absurd (cc t)
    go (Vars lo hi) t g = absurd (cc t)
    go (Dev lo hi) t g = absurd (cc t)

pub back : (code : List Insn) (l : Loop) (j : Jump) (head ks k : List Kind) → IsSound l → IsHeadState code l head → AreKinds ks → IsUnder l head ks → is_number (kind_at ks l.counter) ≡ true
    → j.width ≡ W64 → j.relation ≡ Lt → j.left ≡ l.counter → j.right ≡ Imm (pos l.bound) → when j true ks ≡ Some k → Within k ks → Within k head
back code l j head ks k s h a u t w r p q e narrow = record {
  each = λ i. elim (cases_eq i l.counter) [
    | inl same ↦
        let len = a.count in
        let c = s.counter in
        let b = counter_back j ks k l.counter l.bound (omega (arith, len, c)) t w r p q e in
        subst (λ x. KindWithin (kind_at k x) (kind_at head x)) (sym same) (subst (KindWithin (kind_at k l.counter)) (sym h.counter) b)
    | inr d ↦ within_trans (kind_at k i) (kind_at ks i) (kind_at head i) (narrow.each i) (u.each i d)
  ];
}
