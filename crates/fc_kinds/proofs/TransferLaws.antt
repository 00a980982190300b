-- If an instruction's preconditions hold in a wider state, they hold in a narrower one, and the
-- state after the instruction is narrower.
use Rattle.std.proofs.Common.{◌≡◌, ℕ, zero, suc, ◌+◌, ◌<◌, Bool, true, false, Option, Some, None, List, [], ◌∷◌, length, refl, sym, ap, subst, arith, length-set, inl, inr, get_or-set_same, get_or-set_other}
use Rattle.std.specs.Prelude.{slice_set}
use Rattle.std.proofs.lemmas.Bool.{cases_eq, and_parts, and_from}
use Rattle.std.proofs.lemmas.Int.{ints}
use Rattle.fc_isa.specs.declared.insn.Width.{Width}
use Rattle.fc_isa.specs.declared.insn.Width.TheVariants.{W32, W64}
use Rattle.fc_isa.specs.declared.insn.Operand.{Operand}
use Rattle.fc_isa.specs.declared.insn.Operand.TheVariants.{Imm, Reg}
use Rattle.fc_isa.specs.declared.insn.LoadType.TheVariants.{Unsigned, SignedByte, SignedHalfWord, SignedWord}
use Rattle.fc_isa.specs.declared.insn.Size.TheVariants.{Byte, HalfWord, Word, DoubleWord}
use Rattle.fc_isa.specs.declared.insn.Insn.{Insn}
use Rattle.fc_isa.specs.declared.insn.Insn.TheVariants.{Alu, Unary, SignExtend, LoadWide, WideSecond, Load, StoreImm, Store, JumpAlways, JumpAlwaysLong, JumpIf, CallHelper, CallLocal, Exit}
use Rattle.fc_isa.specs.Program.{IsOperand, IsInsn}
use Rattle.fc_kinds.specs.declared.kind.Kind.{Kind}
use Rattle.fc_kinds.specs.declared.kind.Kind.TheVariants.{Unset, Num, Stack, Req, Vars, Dev}
use Rattle.fc_kinds.specs.Kinds.{kind_at, KindWithin, Within}
use Rattle.fc_kinds.specs.Transfer.{num, is_number, operand_kind, alu_kind, may_read, bytes_loaded, loaded_interval, size_of, put_kind, where_met, after_call, returned, are_bytes, are_arguments, helped_kinds, raised, enter, transfer}
use Rattle.fc_kinds.specs.Values.{with_some}
use Rattle.fc_kinds.specs.Intervals.{all}
use Rattle.fc_help.specs.declared.helper.Helper.{Helper}
use Rattle.fc_help.specs.declared.helper.Arguments.{Arguments}
use Rattle.fc_help.specs.declared.helper.Arguments.TheVariants.{NoArgument, OneNumber, TwoNumbers, Bytes}
use Rattle.fc_help.specs.Helpers.{helper_of, signature_of}
use Rattle.fc_help.proofs.Known.{most_low}
use Rattle.fc_kinds.proofs.KindLaws.{kind_within_same, within_put}
use Rattle.fc_kinds.specs.Containing.{IsKind, AreKinds}
use Rattle.fc_kinds.proofs.Monotone.{KindFollows, alu_follows, unary_follows, extended_follows, may_read_follows, may_write_follows, fewer_follow, is_number_follows, where_follows, operand_within}

pub kinds_put : (ks : List Kind) (r : ℕ) (k : Kind) → r < 11 → IsKind k → AreKinds ks → AreKinds (slice_set ks r k)
kinds_put ks r k lt i h = record {
  count = simp length-set h.count;
  each = λ j. elim (cases_eq j r) [
    | inl e ↦ subst (λ x. IsKind (kind_at (slice_set ks r k) x)) (sym e) (subst IsKind (sym (get_or-set_same ks r k Unset (omega (arith, lt, h.count)))) i)
    | inr n ↦ subst IsKind (sym (get_or-set_other ks r j k Unset n)) (h.each j)
  ];
}

-- the narrower state after an instruction exists, and is within the wider one
pub record Meets (narrow wide : Option (List Kind)) (after' : List Kind) : Type 0 where
  pub after : List Kind
  pub is : narrow ≡ Some after
  pub within : Within after after'
  pub kinds : AreKinds after

put_meets : (ks ks' after' : List Kind) (dst : ℕ) (o o' : Option Kind) → dst < 10 → AreKinds ks → Within ks ks' → KindFollows o o' → put_kind ks' dst o' ≡ Some after' → Meets (put_kind ks dst o) (put_kind ks' dst o') after'
put_meets ks ks' after' dst o None lt a w f e = absurd (cc e)
put_meets ks ks' after' dst None (Some k') lt a w f e = absurd f
put_meets ks ks' after' dst (Some k) (Some k') lt a w f e =
    let is : slice_set ks' dst k' ≡ after' = cc e in
    record {
      after = slice_set ks dst k;
      is = refl;
      within = subst (Within (slice_set ks dst k)) is (within_put ks ks' dst k k' (omega (arith, lt, a.count)) f.0 w);
      kinds = kinds_put ks dst k (omega (arith, lt)) f.1 a;
    }

where_meets : (ks ks' after' : List Kind) (t t' : Bool) → AreKinds ks → Within ks ks' → (t' ≡ true → t ≡ true) → where_met t' ks' ≡ Some after' → Meets (where_met t ks) (where_met t' ks') after'
where_meets ks ks' after' t false a w f e = absurd (cc e)
where_meets ks ks' after' true true a w f e = record { after = ks; is = refl; within = subst (Within ks) (cc e) w; kinds = a }
where_meets ks ks' after' false true a w f e = absurd (cc (f refl))

pub operand_is : (width : Width) (o : Operand) (ks : List Kind) → IsOperand o → AreKinds ks → IsKind (operand_kind width o ks)
operand_is W32 (Imm k) ks i a = (omega arith, omega (arith, ints, i))
operand_is W64 (Imm k) ks i a = (omega arith, omega (arith, ints, i))
operand_is width (Reg r) ks i a = a.each r

loaded_is : (l : _) → IsKind (num (loaded_interval l))
loaded_is (Unsigned Byte) = omega arith
loaded_is (Unsigned HalfWord) = omega arith
loaded_is (Unsigned Word) = omega arith
loaded_is (Unsigned DoubleWord) = omega arith
loaded_is SignedByte = omega arith
loaded_is SignedHalfWord = omega arith
loaded_is SignedWord = omega arith

pub number_operand : (width : Width) (o : Operand) (ks ks' : List Kind) → Within ks ks' → is_number (operand_kind width o ks') ≡ true → is_number (operand_kind width o ks) ≡ true
number_operand width o ks ks' w e = is_number_follows (operand_kind width o ks) (operand_kind width o ks') (operand_within width o ks ks' w) e

-- ---- lists written out, register by register

abbrev pub AreWithin : List Kind → List Kind → Type 0
AreWithin [] ls = Unit {0}
AreWithin (k ∷ ks) [] = ⊥
AreWithin (k ∷ ks) (l ∷ ls) = KindWithin k l × AreWithin ks ls

pub lists_within : (ks ls : List Kind) → length ks ≡ length ls → AreWithin ks ls → Within ks ls
lists_within ks ls n w = record { each = go ks ls n w }
  where
    go : (ks ls : List Kind) → length ks ≡ length ls → AreWithin ks ls → (r : ℕ) → KindWithin (kind_at ks r) (kind_at ls r)
    go [] [] n w r = tt
    go [] (l ∷ ls) n w r = absurd (omega (arith, n))
    go (k ∷ ks) [] n w r = absurd w
    go (k ∷ ks) (l ∷ ls) n w zero = w.0
    go (k ∷ ks) (l ∷ ls) n w (suc r) = go ks ls (omega (arith, n)) w.1 r

abbrev pub AllKinds : List Kind → Type 0
AllKinds [] = Unit {0}
AllKinds (k ∷ ks) = IsKind k × AllKinds ks

pub all_kinds : (ks : List Kind) → AllKinds ks → (r : ℕ) → IsKind (kind_at ks r)
all_kinds [] h r = tt
all_kinds (k ∷ ks) h zero = h.0
all_kinds (k ∷ ks) h (suc r) = all_kinds ks h.1 r

call_within : (a a' : Kind) (ks ks' : List Kind) → KindWithin a a' → Within ks ks' → Within (after_call a ks) (after_call a' ks')
call_within a a' ks ks' v w = lists_within (after_call a ks) (after_call a' ks') refl (v, (tt, (tt, (tt, (tt, (tt, (w.each 6, (w.each 7, (w.each 8, (w.each 9, (w.each 10, tt)))))))))))

call_kinds : (k : Kind) (ks : List Kind) → IsKind k → AreKinds ks → AreKinds (after_call k ks)
call_kinds k ks i a = record { count = refl; each = all_kinds (after_call k ks) (i, (tt, (tt, (tt, (tt, (tt, (a.each 6, (a.each 7, (a.each 8, (a.each 9, (a.each 10, tt))))))))))) }

raised_within : (k k' : Kind) → KindWithin k k' → KindWithin (raised k) (raised k')
raised_within k Unset w = tt
raised_within (Num lo hi) (Num lo' hi') w = w
raised_within (Stack l lo hi) (Stack l' lo' hi') w = (ap (λ n. n + 1) w.0, w.1, w.2)
raised_within (Req lo hi) (Req lo' hi') w = w
raised_within (Vars lo hi) (Vars lo' hi') w = w
raised_within (Dev lo hi) (Dev lo' hi') w = w
raised_within _ _ w = absurd (assumption w)

raised_is : (k : Kind) → IsKind k → IsKind (raised k)
raised_is Unset i = tt
raised_is (Num lo hi) i = i
raised_is (Stack l lo hi) i = i
raised_is (Req lo hi) i = i
raised_is (Vars lo hi) i = i
raised_is (Dev lo hi) i = i

-- the state at a callee's start is monotone in the caller's state
pub enter_within : (ks ks' : List Kind) → Within ks ks' → Within (enter ks) (enter ks')
enter_within ks ks' w =
    let h = λ (r : ℕ). raised_within (kind_at ks r) (kind_at ks' r) (w.each r) in
    lists_within (enter ks) (enter ks') refl (tt, (h 1, (h 2, (h 3, (h 4, (h 5, (tt, (tt, (tt, (tt, ((refl, omega (arith, ints), omega (arith, ints)), tt)))))))))))

pub enter_kinds : (ks : List Kind) → AreKinds ks → AreKinds (enter ks)
enter_kinds ks a =
    let h = λ (r : ℕ). raised_is (kind_at ks r) (a.each r) in
    record { count = refl; each = all_kinds (enter ks) (tt, (h 1, (h 2, (h 3, (h 4, (h 5, (tt, (tt, (tt, (tt, (grind (arith, ints), tt))))))))))) }

-- ---- helpers

count_follows : (vars : ℕ) (p p' c c' : Kind) → KindWithin p p' → KindWithin c c' → are_bytes vars p' c' ≡ true → are_bytes vars p c ≡ true
count_follows vars p p' (Num lo hi) (Num lo' hi') v w e = fewer_follow vars hi hi' p p' v w.1 e
count_follows vars p p' c Unset v w e = absurd (cc e)
count_follows vars p p' c (Stack l lo hi) v w e = absurd (cc e)
count_follows vars p p' c (Req lo hi) v w e = absurd (cc e)
count_follows vars p p' c (Vars lo hi) v w e = absurd (cc e)
count_follows vars p p' c (Dev lo hi) v w e = absurd (cc e)
count_follows vars p p' _ (Num lo' hi') v w e = absurd w

arguments_follow : (vars : ℕ) (arguments : Arguments) (ks ks' : List Kind) → Within ks ks' → are_arguments vars arguments ks' ≡ true → are_arguments vars arguments ks ≡ true
arguments_follow vars NoArgument ks ks' w e = refl
arguments_follow vars OneNumber ks ks' w e = is_number_follows (kind_at ks 1) (kind_at ks' 1) (w.each 1) e
arguments_follow vars TwoNumbers ks ks' w e =
    let b = and_parts (is_number (kind_at ks' 1)) (is_number (kind_at ks' 2)) e in
    and_from (is_number (kind_at ks 1)) (is_number (kind_at ks 2)) (is_number_follows (kind_at ks 1) (kind_at ks' 1) (w.each 1) b.0) (is_number_follows (kind_at ks 2) (kind_at ks' 2) (w.each 2) b.1)
arguments_follow vars Bytes ks ks' w e = count_follows vars (kind_at ks 1) (kind_at ks' 1) (kind_at ks 2) (kind_at ks' 2) (w.each 1) (w.each 2) e

helper_meets : (vars : ℕ) (o : Option Helper) (ks ks' after' : List Kind) → AreKinds ks → Within ks ks' → with_some o (helped_kinds vars ks') ≡ Some after' → Meets (with_some o (helped_kinds vars ks)) (with_some o (helped_kinds vars ks')) after'
helper_meets vars None ks ks' after' a w e = absurd (cc e)
helper_meets vars (Some h) ks ks' after' a w e =
    let most = Num 0 (signature_of h).most in
    where_meets (after_call most ks) (after_call most ks') after' (are_arguments vars (signature_of h).arguments ks) (are_arguments vars (signature_of h).arguments ks')
    (call_kinds most ks (omega arith, most_low h) a) (call_within most most ks ks' (omega arith, omega arith) w) (arguments_follow vars (signature_of h).arguments ks ks' w) e

pub transfer_meets : (vars : ℕ) (insn : Insn) (ks ks' after' : List Kind) → IsInsn insn → AreKinds ks → Within ks ks' → transfer vars insn ks' ≡ Some after' → Meets (transfer vars insn ks) (transfer vars insn ks') after'
unfolding transfer
transfer_meets vars (Alu op width dst operand) ks ks' after' i a w e =
    put_meets ks ks' after' dst (alu_kind op width operand (kind_at ks dst) (operand_kind width operand ks)) (alu_kind op width operand (kind_at ks' dst) (operand_kind width operand ks')) i.0 a w
    (alu_follows op width operand (kind_at ks dst) (operand_kind width operand ks) (kind_at ks' dst) (operand_kind width operand ks') (a.each dst) (operand_is width operand ks i.1 a) (w.each dst) (operand_within width operand ks ks' w)) e
transfer_meets vars (Unary op dst) ks ks' after' i a w e = put_meets ks ks' after' dst _ _ i a w (unary_follows op (kind_at ks dst) (kind_at ks' dst) (a.each dst) (w.each dst)) e
transfer_meets vars (SignExtend extension dst src) ks ks' after' i a w e = put_meets ks ks' after' dst _ _ i.0 a w (extended_follows extension (kind_at ks src) (kind_at ks' src) (a.each src) (w.each src)) e
transfer_meets vars (LoadWide dst value) ks ks' after' i a w e = put_meets ks ks' after' dst (Some (Num value value)) (Some (Num value value)) i.0 a w ((omega arith, omega arith), (omega arith, i.1)) e
transfer_meets vars WideSecond ks ks' after' i a w e = absurd (cc e)
transfer_meets vars (Load loaded dst base offset) ks ks' after' i a w e =
    put_meets ks ks' after' dst _ _ i.0 a w
    (where_follows (may_read vars (bytes_loaded loaded) offset (kind_at ks base)) (may_read vars (bytes_loaded loaded) offset (kind_at ks' base)) (num (loaded_interval loaded)) (loaded_is loaded)
    (may_read_follows vars (bytes_loaded loaded) offset (kind_at ks base) (kind_at ks' base) (w.each base)) (kind_within_same (num (loaded_interval loaded)))) e
transfer_meets vars (StoreImm size base offset imm) ks ks' after' i a w e = where_meets ks ks' after' _ _ a w (may_write_follows vars (size_of size) offset (kind_at ks base) (kind_at ks' base) (w.each base)) e
transfer_meets vars (Store size base offset src) ks ks' after' i a w e = where_meets ks ks' after' _ _ a w
    (λ t. let b = and_parts _ _ t in and_from _ _ (may_write_follows vars (size_of size) offset (kind_at ks base) (kind_at ks' base) (w.each base) b.0) (is_number_follows (kind_at ks src) (kind_at ks' src) (w.each src) b.1)) e
transfer_meets vars (JumpAlways offset) ks ks' after' i a w e = where_meets ks ks' after' true true a w (λ t. t) e
transfer_meets vars (JumpAlwaysLong offset) ks ks' after' i a w e = where_meets ks ks' after' true true a w (λ t. t) e
transfer_meets vars (JumpIf j) ks ks' after' i a w e = where_meets ks ks' after' _ _ a w
    (λ t. let b = and_parts _ _ t in and_from _ _ (is_number_follows (kind_at ks j.left) (kind_at ks' j.left) (w.each j.left) b.0) (number_operand j.width j.right ks ks' w b.1)) e
transfer_meets vars (CallHelper number) ks ks' after' i a w e = helper_meets vars (helper_of number) ks ks' after' a w e
transfer_meets vars (CallLocal offset) ks ks' after' i a w e =
    record { after = returned ks; is = refl; within = subst (Within (returned ks)) (cc e) (call_within (num (all 64)) (num (all 64)) ks ks' (omega arith, omega arith) w); kinds = call_kinds (num (all 64)) ks (omega arith) a }
transfer_meets vars Exit ks ks' after' i a w e = where_meets ks ks' after' _ _ a w (is_number_follows (kind_at ks 0) (kind_at ks' 0) (w.each 0)) e
