-- An instruction that is allowed in a wider state is allowed in a narrower one. The state after it
-- and the states on its branches are then narrower.
use Rattle.std.proofs.Common.{◌≡◌, ℕ, ◌≤◌, ◌&&◌, Bool, true, false, nat_le, if◌then◌else◌, ℤ, pos, negsuc, ◌+ℤ◌, ◌-ℤ◌, ◌≤ℤ◌, int_le, Option, Some, None, List, refl, subst, arith}
use Rattle.std.proofs.lemmas.Int.{ints}
use Rattle.std.proofs.lemmas.Bool.Decides.{nat_tests}
use Rattle.fc_isa.specs.declared.insn.UnaryOp.{UnaryOp}
use Rattle.fc_isa.specs.declared.insn.UnaryOp.TheVariants.{Neg, End}
use Rattle.fc_isa.specs.declared.insn.Width.{Width}
use Rattle.fc_isa.specs.declared.insn.Width.TheVariants.{W32, W64}
use Rattle.fc_isa.specs.declared.insn.AluOp.{AluOp}
use Rattle.fc_isa.specs.declared.insn.AluOp.TheVariants.{Add, Sub, Mul, Div, Or, And, Lsh, Rsh, Mod, Xor, Mov, Arsh, Sdiv, Smod}
use Rattle.fc_isa.specs.declared.insn.Operand.{Operand}
use Rattle.fc_isa.specs.declared.insn.Operand.TheVariants.{Imm, Reg}
use Rattle.fc_isa.specs.declared.insn.ByteOrder.{ByteOrder}
use Rattle.fc_isa.specs.declared.insn.ByteOrder.TheVariants.{Little, Big, Swapped}
use Rattle.fc_isa.specs.declared.insn.SwapWidth.{SwapWidth}
use Rattle.fc_isa.specs.declared.insn.SwapWidth.TheVariants.{S16, S32, S64}
use Rattle.fc_isa.specs.declared.insn.SignExtension.{SignExtension}
use Rattle.fc_isa.specs.declared.insn.SignExtension.TheVariants.{Byte, HalfWord, Word}
use Rattle.fc_alu.specs.Words.{bits_of}
use Rattle.fc_kinds.specs.declared.interval.Interval.{Interval}
use Rattle.fc_kinds.specs.Intervals.{interval, all, alu_interval, extended_values}
use Rattle.fc_kinds.specs.Containing.{IsInterval, IntervalWithin, IsNear, IsKind}
use Rattle.fc_kinds.proofs.IntervalsGrow.{alu_interval_grows, sign_extended_grows}
use Rattle.fc_kinds.proofs.IntervalsProper.{all_proper, alu_interval_proper}
use Rattle.fc_kinds.specs.declared.kind.Kind.{Kind}
use Rattle.fc_kinds.specs.declared.kind.Kind.TheVariants.{Unset, Num, Stack, Req, Vars, Dev}
use Rattle.fc_kinds.specs.Kinds.{KindWithin, Within}
use Rattle.fc_kinds.specs.Transfer.{num, by_form, no_pointer, where_number, is_number, operand_kind, small, distance, near, numbers, forth, back, set, alu_kind, ordered_interval, unary_interval, inside, may_read, may_write}

-- if the wider operands have an abstract value as a result, the narrower have one too, which is
-- narrower
abbrev pub KindFollows : Option Kind → Option Kind → Type 0
KindFollows narrow None = Unit {0}
KindFollows None (Some wide) = ⊥
KindFollows (Some narrow) (Some wide) = KindWithin narrow wide × IsKind narrow

-- a pointer's form, for which containment is that of the ends
pub record IsForm (form : ℤ → ℤ → Kind) : Type 0 where
  pub within : (lo hi lo' hi' : ℤ) → lo' ≤ℤ lo → hi ≤ℤ hi' → KindWithin (form lo hi) (form lo' hi')
  pub is : (lo hi : ℤ) → IsNear lo hi → IsKind (form lo hi)

stack_form : (level : ℕ) → IsForm (Stack level)
stack_form level = record { within = λ lo hi lo' hi' p q. (refl, p, q); is = λ lo hi p. p }

req_form : IsForm Req
req_form = record { within = λ lo hi lo' hi' p q. (p, q); is = λ lo hi p. p }

vars_form : IsForm Vars
vars_form = record { within = λ lo hi lo' hi' p q. (p, q); is = λ lo hi p. p }

dev_form : IsForm Dev
dev_form = record { within = λ lo hi lo' hi' p q. (p, q); is = λ lo hi p. p }

abbrev pub Numbers : (Interval → Option Kind) → (Interval → Option Kind) → Type 0
Numbers f f' = (s s' : Interval) → IsInterval 64 s → IntervalWithin s s' → KindFollows (f s) (f' s')

-- a number of either width has 64 bits
low : (width : Width) (s : Interval) → IsInterval (bits_of width) s → IsKind (num s)
low W32 s i = (i.0, omega (arith, i.1))
low W64 s i = i

abbrev pub Pointers : ((ℤ → ℤ → Kind) → ℤ → ℤ → Option Kind) → ((ℤ → ℤ → Kind) → ℤ → ℤ → Option Kind) → Type 0
Pointers g g' = (form : ℤ → ℤ → Kind) (lo hi lo' hi' : ℤ) → IsForm form → IsNear lo hi → lo' ≤ℤ lo → hi ≤ℤ hi' → KindFollows (g form lo hi) (g' form lo' hi')

by_form_follows : (k k' : Kind) (f f' : Interval → Option Kind) (g g' : (ℤ → ℤ → Kind) → ℤ → ℤ → Option Kind) → IsKind k → KindWithin k k' → Numbers f f' → Pointers g g' → KindFollows (by_form k f g) (by_form k' f' g')
by_form_follows k Unset f f' g g' p w n q = tt
by_form_follows (Num lo hi) (Num lo' hi') f f' g g' p w n q = n (interval lo hi) (interval lo' hi') p w
by_form_follows (Stack level lo hi) (Stack level' lo' hi') f f' g g' p w n q =
    subst (λ l. KindFollows (g (Stack level) lo hi) (g' (Stack l) lo' hi')) w.0 (q (Stack level) lo hi lo' hi' (stack_form level) p w.1 w.2)
by_form_follows (Req lo hi) (Req lo' hi') f f' g g' p w n q = q Req lo hi lo' hi' req_form p w.0 w.1
by_form_follows (Vars lo hi) (Vars lo' hi') f f' g g' p w n q = q Vars lo hi lo' hi' vars_form p w.0 w.1
by_form_follows (Dev lo hi) (Dev lo' hi') f f' g g' p w n q = q Dev lo hi lo' hi' dev_form p w.0 w.1
by_form_follows _ _ f f' g g' p w n q = absurd w

no_pointers : Pointers no_pointer no_pointer
no_pointers form lo hi lo' hi' i p q r = tt

on_number_follows : (k k' : Kind) (f f' : Interval → Option Kind) → IsKind k → KindWithin k k' → Numbers f f' → KindFollows (where_number k f) (where_number k' f')
on_number_follows k k' f f' p w n = by_form_follows k k' f f' no_pointer no_pointer p w n no_pointers

numbers_follow : (op : AluOp) (width : Width) (b b' : Kind) → IsKind b → KindWithin b b' → Numbers (numbers op width b) (numbers op width b')
numbers_follow op width b b' p w s s' q v = on_number_follows b b' (λ t. Some (num (alu_interval op width s t))) (λ t. Some (num (alu_interval op width s' t))) p w
    (λ t t' r u. (alu_interval_grows op width s t s' t' q.0 r.0 v u, low width (alu_interval op width s t) (alu_interval_proper op width s t q.0 r.0)))

-- if the wider operand has distances by which a pointer is moved, the narrower has them too, and
-- they are within those
abbrev FarFollows : Option (ℤ × ℤ) → Option (ℤ × ℤ) → Type 0
FarFollows narrow None = Unit {0}
FarFollows None (Some wide) = ⊥
FarFollows (Some narrow) (Some wide) = (wide.0 ≤ℤ narrow.0) × (narrow.1 ≤ℤ wide.1) × (narrow.0 ≤ℤ narrow.1)

small_follows : (s s' : Interval) → s.lo ≤ s.hi → IntervalWithin s s' → FarFollows (small s) (small s')
small_follows s s' p w = go (nat_le s'.hi 65536) refl
  where
    go : (t : Bool) → nat_le s'.hi 65536 ≡ t → FarFollows (small s) (if t then Some (pos s'.lo, pos s'.hi) else None)
    go false e = tt
    go true e =
        let h : nat_le s.hi 65536 ≡ true = grind (arith, nat_tests, e, w) in
        rw h (omega (arith, ints, w), omega (arith, ints, w), omega (arith, ints, p))

distance_follows : (o : Operand) (b b' : Kind) → IsKind b → KindWithin b b' → FarFollows (distance o b) (distance o b')
distance_follows (Imm k) b b' p w = (omega (arith, ints), omega (arith, ints), omega (arith, ints))
distance_follows (Reg r) b Unset p w = tt
distance_follows (Reg r) (Num lo hi) (Num lo' hi') p w = small_follows (interval lo hi) (interval lo' hi') p.0 w
distance_follows (Reg r) b (Stack l lo hi) p w = tt
distance_follows (Reg r) b (Req lo hi) p w = tt
distance_follows (Reg r) b (Vars lo hi) p w = tt
distance_follows (Reg r) b (Dev lo hi) p w = tt
distance_follows (Reg r) _ (Num lo' hi') p w = absurd w

is_near : (lo hi : ℤ) → lo ≤ℤ hi → (int_le (negsuc 65535) lo && int_le hi (pos 65536)) ≡ true → IsNear lo hi
is_near lo hi p e = grind (arith, ints, p, e)

near_follows : (form : ℤ → ℤ → Kind) (lo hi lo' hi' : ℤ) → IsForm form → lo ≤ℤ hi → lo' ≤ℤ lo → hi ≤ℤ hi' → KindFollows (near form lo hi) (near form lo' hi')
near_follows form lo hi lo' hi' i p q r = go (int_le (negsuc 65535) lo' && int_le hi' (pos 65536)) refl
  where
    go : (t : Bool) → (int_le (negsuc 65535) lo' && int_le hi' (pos 65536)) ≡ t → KindFollows (near form lo hi) (if t then Some (form lo' hi') else None)
    go false e = tt
    go true e =
        let h : (int_le (negsuc 65535) lo && int_le hi (pos 65536)) ≡ true = grind (arith, ints, e, q, r) in
        rw h (i.within lo hi lo' hi' q r, i.is lo hi (is_near lo hi p h))

forth_follows : (by by' : Option (ℤ × ℤ)) → FarFollows by by' → Pointers (forth by) (forth by')
forth_follows by None f form lo hi lo' hi' i p q r = tt
forth_follows None (Some d') f form lo hi lo' hi' i p q r = absurd f
forth_follows (Some d) (Some d') f form lo hi lo' hi' i p q r =
    near_follows form (lo +ℤ d.0) (hi +ℤ d.1) (lo' +ℤ d'.0) (hi' +ℤ d'.1) i (omega (arith, ints, p, f)) (omega (arith, ints, q, f)) (omega (arith, ints, r, f))

back_follows : (by by' : Option (ℤ × ℤ)) → FarFollows by by' → Pointers (back by) (back by')
back_follows by None f form lo hi lo' hi' i p q r = tt
back_follows None (Some d') f form lo hi lo' hi' i p q r = absurd f
back_follows (Some d) (Some d') f form lo hi lo' hi' i p q r =
    near_follows form (lo -ℤ d.1) (hi -ℤ d.0) (lo' -ℤ d'.1) (hi' -ℤ d'.0) i (omega (arith, ints, p, f)) (omega (arith, ints, q, f)) (omega (arith, ints, r, f))

set_follows : (b b' : Kind) → IsKind b → KindWithin b b' → KindFollows (set b) (set b')
set_follows b b' p w = by_form_follows b b' (λ s. Some (num s)) (λ s. Some (num s)) (λ form lo hi. Some (form lo hi)) (λ form lo hi. Some (form lo hi)) p w
    (λ s s' q v. (v, q)) (λ form lo hi lo' hi' i q r s. (i.within lo hi lo' hi' r s, i.is lo hi q))

moved_follows : (b b' : Kind) → IsKind b → KindWithin b b' → KindFollows (where_number b (λ t. Some (num (alu_interval Mov W32 t t)))) (where_number b' (λ t. Some (num (alu_interval Mov W32 t t))))
moved_follows b b' p w = on_number_follows b b' (λ t. Some (num (alu_interval Mov W32 t t))) (λ t. Some (num (alu_interval Mov W32 t t))) p w
    (λ t t' q v. (alu_interval_grows Mov W32 t t t' t' q.0 q.0 v v, low W32 (alu_interval Mov W32 t t) (alu_interval_proper Mov W32 t t q.0 q.0)))

plain_follows : (op : AluOp) (width : Width) (a b a' b' : Kind) → IsKind a → IsKind b → KindWithin a a' → KindWithin b b' → KindFollows (where_number a (numbers op width b)) (where_number a' (numbers op width b'))
plain_follows op width a b a' b' p q v w = on_number_follows a a' (numbers op width b) (numbers op width b') p v (numbers_follow op width b b' q w)

pub alu_follows : (op : AluOp) (width : Width) (o : Operand) (a b a' b' : Kind) → IsKind a → IsKind b → KindWithin a a' → KindWithin b b' → KindFollows (alu_kind op width o a b) (alu_kind op width o a' b')
unfolding alu_kind
alu_follows Mov W64 o a b a' b' p q v w = set_follows b b' q w
alu_follows Mov W32 o a b a' b' p q v w = moved_follows b b' q w
alu_follows Add W64 o a b a' b' p q v w = by_form_follows a a' (numbers Add W64 b) (numbers Add W64 b') (forth (distance o b)) (forth (distance o b')) p v (numbers_follow Add W64 b b' q w) (forth_follows (distance o b) (distance o b') (distance_follows o b b' q w))
alu_follows Sub W64 o a b a' b' p q v w = by_form_follows a a' (numbers Sub W64 b) (numbers Sub W64 b') (back (distance o b)) (back (distance o b')) p v (numbers_follow Sub W64 b b' q w) (back_follows (distance o b) (distance o b') (distance_follows o b b' q w))
alu_follows Add W32 o a b a' b' p q v w = plain_follows Add W32 a b a' b' p q v w
alu_follows Sub W32 o a b a' b' p q v w = plain_follows Sub W32 a b a' b' p q v w
alu_follows Mul width o a b a' b' p q v w = plain_follows Mul width a b a' b' p q v w
alu_follows Div width o a b a' b' p q v w = plain_follows Div width a b a' b' p q v w
alu_follows Or width o a b a' b' p q v w = plain_follows Or width a b a' b' p q v w
alu_follows And width o a b a' b' p q v w = plain_follows And width a b a' b' p q v w
alu_follows Lsh width o a b a' b' p q v w = plain_follows Lsh width a b a' b' p q v w
alu_follows Rsh width o a b a' b' p q v w = plain_follows Rsh width a b a' b' p q v w
alu_follows Mod width o a b a' b' p q v w = plain_follows Mod width a b a' b' p q v w
alu_follows Xor width o a b a' b' p q v w = plain_follows Xor width a b a' b' p q v w
alu_follows Arsh width o a b a' b' p q v w = plain_follows Arsh width a b a' b' p q v w
alu_follows Sdiv width o a b a' b' p q v w = plain_follows Sdiv width a b a' b' p q v w
alu_follows Smod width o a b a' b' p q v w = plain_follows Smod width a b a' b' p q v w

-- ---- tests: if the wider abstract value passes, the narrower one does

ends_follow : (least most lo hi lo' hi' : ℤ) → lo' ≤ℤ lo → hi ≤ℤ hi' → (int_le least lo' && int_le hi' most) ≡ true → (int_le least lo && int_le hi most) ≡ true
ends_follow least most lo hi lo' hi' p q e = grind (arith, ints, e, p, q)

inside_follows : (region n : ℕ) (f lo hi lo' hi' : ℤ) → lo' ≤ℤ lo → hi ≤ℤ hi' → inside region n f lo' hi' ≡ true → inside region n f lo hi ≡ true
inside_follows region n f lo hi lo' hi' p q e = ends_follow (pos 0) (pos region) (lo +ℤ f) (hi +ℤ f +ℤ pos n) (lo' +ℤ f) (hi' +ℤ f +ℤ pos n) (omega (arith, ints, p)) (omega (arith, ints, q)) e

pub may_read_follows : (vars n : ℕ) (f : ℤ) (k k' : Kind) → KindWithin k k' → may_read vars n f k' ≡ true → may_read vars n f k ≡ true
may_read_follows vars n f k Unset w e = absurd (cc e)
may_read_follows vars n f k (Num lo' hi') w e = absurd (cc e)
may_read_follows vars n f (Stack l lo hi) (Stack l' lo' hi') w e = inside_follows 256 n f lo hi lo' hi' w.1 w.2 e
may_read_follows vars n f (Req lo hi) (Req lo' hi') w e = inside_follows 1104 n f lo hi lo' hi' w.0 w.1 e
may_read_follows vars n f (Vars lo hi) (Vars lo' hi') w e = inside_follows vars n f lo hi lo' hi' w.0 w.1 e
may_read_follows vars n f (Dev lo hi) (Dev lo' hi') w e = inside_follows 64 n f lo hi lo' hi' w.0 w.1 e
may_read_follows vars n f _ _ w e = absurd w

inside_fewer : (region n m : ℕ) (lo hi lo' hi' : ℤ) → lo' ≤ℤ lo → hi ≤ℤ hi' → n ≤ m → inside region m (pos 0) lo' hi' ≡ true → inside region n (pos 0) lo hi ≡ true
inside_fewer region n m lo hi lo' hi' p q r e =
    ends_follow (pos 0) (pos region) (lo +ℤ pos 0) (hi +ℤ pos 0 +ℤ pos n) (lo' +ℤ pos 0) (hi' +ℤ pos 0 +ℤ pos m) (omega (arith, ints, p)) (omega (arith, ints, q, r)) e

-- if m bytes from a wider pointer on may be read, so may fewer bytes from a narrower one
pub fewer_follow : (vars n m : ℕ) (k k' : Kind) → KindWithin k k' → n ≤ m → may_read vars m (pos 0) k' ≡ true → may_read vars n (pos 0) k ≡ true
fewer_follow vars n m k Unset w r e = absurd (cc e)
fewer_follow vars n m k (Num lo' hi') w r e = absurd (cc e)
fewer_follow vars n m (Stack l lo hi) (Stack l' lo' hi') w r e = inside_fewer 256 n m lo hi lo' hi' w.1 w.2 r e
fewer_follow vars n m (Req lo hi) (Req lo' hi') w r e = inside_fewer 1104 n m lo hi lo' hi' w.0 w.1 r e
fewer_follow vars n m (Vars lo hi) (Vars lo' hi') w r e = inside_fewer vars n m lo hi lo' hi' w.0 w.1 r e
fewer_follow vars n m (Dev lo hi) (Dev lo' hi') w r e = inside_fewer 64 n m lo hi lo' hi' w.0 w.1 r e
fewer_follow vars n m _ _ w r e = absurd w

pub may_write_follows : (vars n : ℕ) (f : ℤ) (k k' : Kind) → KindWithin k k' → may_write vars n f k' ≡ true → may_write vars n f k ≡ true
may_write_follows vars n f k Unset w e = absurd (cc e)
may_write_follows vars n f k (Num lo' hi') w e = absurd (cc e)
may_write_follows vars n f k (Req lo' hi') w e = absurd (cc e)
may_write_follows vars n f k (Dev lo' hi') w e = absurd (cc e)
may_write_follows vars n f (Stack l lo hi) (Stack l' lo' hi') w e = inside_follows 256 n f lo hi lo' hi' w.1 w.2 e
may_write_follows vars n f (Vars lo hi) (Vars lo' hi') w e = inside_follows vars n f lo hi lo' hi' w.0 w.1 e
may_write_follows vars n f _ _ w e = absurd w

pub is_number_follows : (k k' : Kind) → KindWithin k k' → is_number k' ≡ true → is_number k ≡ true
is_number_follows k Unset w e = absurd (cc e)
is_number_follows (Num lo hi) (Num lo' hi') w e = refl
is_number_follows k (Stack l lo hi) w e = absurd (cc e)
is_number_follows k (Req lo hi) w e = absurd (cc e)
is_number_follows k (Vars lo hi) w e = absurd (cc e)
is_number_follows k (Dev lo hi) w e = absurd (cc e)
is_number_follows _ (Num lo' hi') w e = absurd w

pub where_follows : (t t' : Bool) (k : Kind) → IsKind k → (t' ≡ true → t ≡ true) → KindWithin k k → KindFollows (if t then Some k else None) (if t' then Some k else None)
where_follows t false k p f w = tt
where_follows true true k p f w = (w, p)
where_follows false true k p f w = absurd (cc (f refl))

-- ---- the other forms of arithmetic

extended_low : (e : SignExtension) (s : Interval) → IsInterval 64 s → IsKind (num (extended_values e s))
unfolding extended_values
extended_low (Byte W32) s l = grind (arith, nat_tests, l)
extended_low (Byte W64) s l = grind (arith, nat_tests, l)
extended_low (HalfWord W32) s l = grind (arith, nat_tests, l)
extended_low (HalfWord W64) s l = grind (arith, nat_tests, l)
extended_low Word s l = grind (arith, nat_tests, l)

pub extended_follows : (e : _) (a a' : Kind) → IsKind a → KindWithin a a' → KindFollows (where_number a (λ s. Some (num (extended_values e s)))) (where_number a' (λ s. Some (num (extended_values e s))))
extended_follows e a a' p w = on_number_follows a a' (λ s. Some (num (extended_values e s))) (λ s. Some (num (extended_values e s))) p w (λ s s' q v. (sign_extended_grows e s s' v, extended_low e s q))

ordered_grows : (order : ByteOrder) (width : SwapWidth) (s s' : Interval) → IsInterval 64 s → IntervalWithin s s' → KindWithin (num (ordered_interval order width s)) (num (ordered_interval order width s')) × IsKind (num (ordered_interval order width s))
ordered_grows Little S16 s s' p w = grind (arith, nat_tests, p, w)
ordered_grows Little S32 s s' p w = grind (arith, nat_tests, p, w)
ordered_grows Little S64 s s' p w = grind (arith, nat_tests, p, w)
ordered_grows Big S16 s s' p w = ((omega arith, omega arith), omega arith)
ordered_grows Big S32 s s' p w = ((omega arith, omega arith), omega arith)
ordered_grows Big S64 s s' p w = ((omega arith, omega arith), omega arith)
ordered_grows Swapped S16 s s' p w = ((omega arith, omega arith), omega arith)
ordered_grows Swapped S32 s s' p w = ((omega arith, omega arith), omega arith)
ordered_grows Swapped S64 s s' p w = ((omega arith, omega arith), omega arith)

unary_grows : (op : UnaryOp) (s s' : Interval) → IsInterval 64 s → IntervalWithin s s' → KindWithin (num (unary_interval op s)) (num (unary_interval op s')) × IsKind (num (unary_interval op s))
unfolding unary_interval
unary_grows (Neg width) s s' p w = ((omega arith, omega arith), low width (all (bits_of width)) (all_proper (bits_of width)))
unary_grows (End order width) s s' p w = ordered_grows order width s s' p w

pub unary_follows : (op : UnaryOp) (a a' : Kind) → IsKind a → KindWithin a a' → KindFollows (where_number a (λ s. Some (num (unary_interval op s)))) (where_number a' (λ s. Some (num (unary_interval op s))))
unary_follows op a a' p w = on_number_follows a a' (λ s. Some (num (unary_interval op s))) (λ s. Some (num (unary_interval op s))) p w (λ s s' q v. unary_grows op s s' q v)

pub operand_within : (width : Width) (o : Operand) (ks ks' : List Kind) → Within ks ks' → KindWithin (operand_kind width o ks) (operand_kind width o ks')
operand_within width (Imm k) ks ks' w = (omega arith, omega arith)
operand_within width (Reg r) ks ks' w = w.each r
