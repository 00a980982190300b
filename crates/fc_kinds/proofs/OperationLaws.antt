-- An operation whose preconditions hold has a result, and the abstract value after it contains the
-- result.
use Rattle.std.proofs.Common.{◌≡◌, ℕ, ◌≤◌, ◌&&◌, Bool, true, false, nat_le, if◌then◌else◌, ℤ, pos, negsuc, ◌+ℤ◌, ◌-ℤ◌, ◌≤ℤ◌, int_le, Option, Some, None, refl, sym, subst, arith}
use Rattle.std.specs.Prelude.{FitsSigned}
use Rattle.std.specs.Int.{w32, w64, cast_signed, cast_unsigned}
use Rattle.std.proofs.lemmas.Int.{ints}
use Rattle.std.proofs.lemmas.Bool.Decides.{nat_tests}
use Rattle.fc_isa.specs.declared.insn.Width.{Width}
use Rattle.fc_isa.specs.declared.insn.Width.TheVariants.{W32, W64}
use Rattle.fc_isa.specs.declared.insn.AluOp.{AluOp}
use Rattle.fc_isa.specs.declared.insn.AluOp.TheVariants.{Add, Sub, Mul, Div, Or, And, Lsh, Rsh, Mod, Xor, Mov, Arsh, Sdiv, Smod}
use Rattle.fc_isa.specs.declared.insn.Operand.{Operand}
use Rattle.fc_isa.specs.declared.insn.Operand.TheVariants.{Imm, Reg}
use Rattle.fc_alu.specs.Arithmetic.{computed_at}
use Rattle.fc_kinds.specs.declared.interval.Interval.{Interval}
use Rattle.fc_kinds.specs.Intervals.{interval, alu_interval}
use Rattle.fc_kinds.specs.Containing.{Inside, Contains}
use Rattle.fc_kinds.proofs.IntervalsSound.{alu_interval_sound}
use Rattle.fc_kinds.specs.declared.kind.Kind.{Kind}
use Rattle.fc_kinds.specs.declared.kind.Kind.TheVariants.{Unset, Num, Stack, Req, Vars, Dev}
use Rattle.fc_kinds.specs.Values.{Region, Frame, Asked, Variables, Readings, Value, Number, Pointer}
use Rattle.fc_kinds.specs.Transfer.{immediate, num, by_form, no_pointer, where_number, small, distance, near, numbers, forth, back, moved, alu_kind}
use Rattle.fc_kinds.specs.Operations.{by_value, no_step, computed_with, moved_forth, moved_back, copied, result_of}

-- if there is an abstract value, there is a value, and the abstract value contains it
abbrev pub Gives : ℕ → Option Kind → Option Value → Type 0
Gives depth None v = Unit {0}
Gives depth (Some k) None = ⊥
Gives depth (Some k) (Some v) = Contains depth k v

-- a pointer's form contains the pointers into a region between its ends
record IsFormOf (depth : ℕ) (form : ℤ → ℤ → Kind) (region : Region) : Type 0 where
  contains : (lo hi o : ℤ) → lo ≤ℤ o → o ≤ℤ hi → Contains depth (form lo hi) (Pointer region o)

abbrev NumbersGive : ℕ → (Interval → Option Kind) → (ℕ → Option Value) → Type 0
NumbersGive depth f f' = (s : Interval) (n : ℕ) → Inside n s → Gives depth (f s) (f' n)

abbrev PointersGive : ℕ → ((ℤ → ℤ → Kind) → ℤ → ℤ → Option Kind) → (Region → ℤ → Option Value) → Type 0
PointersGive depth g g' = (form : ℤ → ℤ → Kind) (lo hi : ℤ) (region : Region) (o : ℤ) → IsFormOf depth form region → lo ≤ℤ o → o ≤ℤ hi → Gives depth (g form lo hi) (g' region o)

by_form_gives : (depth : ℕ) (k : Kind) (v : Value) (f : Interval → Option Kind) (g : (ℤ → ℤ → Kind) → ℤ → ℤ → Option Kind) (f' : ℕ → Option Value) (g' : Region → ℤ → Option Value) → Contains depth k v → NumbersGive depth f f' → PointersGive depth g g' → Gives depth (by_form k f g) (by_value v f' g')
by_form_gives depth Unset v f g f' g' c n p = tt
by_form_gives depth (Num lo hi) (Number m) f g f' g' c n p = n (interval lo hi) m c
by_form_gives depth (Stack level lo hi) (Pointer (Frame i) o) f g f' g' c n p = p (Stack level) lo hi (Frame i) o (record { contains = λ lo' hi' o' q r. (c.0, q, r) }) c.1 c.2
by_form_gives depth (Req lo hi) (Pointer Asked o) f g f' g' c n p = p Req lo hi Asked o (record { contains = λ lo' hi' o' q r. (q, r) }) c.0 c.1
by_form_gives depth (Vars lo hi) (Pointer Variables o) f g f' g' c n p = p Vars lo hi Variables o (record { contains = λ lo' hi' o' q r. (q, r) }) c.0 c.1
by_form_gives depth (Dev lo hi) (Pointer Readings o) f g f' g' c n p = p Dev lo hi Readings o (record { contains = λ lo' hi' o' q r. (q, r) }) c.0 c.1
by_form_gives depth _ _ f g f' g' c n p = absurd c

no_pointers_give : (depth : ℕ) → PointersGive depth no_pointer no_step
no_pointers_give depth form lo hi region o i p q = tt

numbers_give : (depth : ℕ) (op : AluOp) (width : Width) (b : Kind) (y : Value) → Contains depth b y → NumbersGive depth (numbers op width b) (computed_with op width y)
numbers_give depth op width b y c s x h = by_form_gives depth b y (λ t. Some (num (alu_interval op width s t))) no_pointer (λ n. Some (Number (computed_at op width x n))) no_step c (λ t n i. alu_interval_sound op width x n s t h i) (no_pointers_give depth)

plain_gives : (depth : ℕ) (op : AluOp) (width : Width) (a b : Kind) (x y : Value) → Contains depth a x → Contains depth b y → Gives depth (where_number a (numbers op width b)) (by_value x (computed_with op width y) no_step)
plain_gives depth op width a b x y c d = by_form_gives depth a x (numbers op width b) no_pointer (computed_with op width y) no_step c (numbers_give depth op width b y d) (no_pointers_give depth)

-- the value y is that of the operand, if the operand is an immediate
abbrev pub IsOwn : Width → Operand → Value → Type 0
IsOwn width (Imm k) y = FitsSigned w32 k × (y ≡ Number (immediate width k))
IsOwn width (Reg r) y = Unit {0}

-- if there are distances by which an operand moves a pointer, the operand's value is a number
-- between them
abbrev FarGives : Option (ℤ × ℤ) → Value → Type 0
FarGives None y = Unit {0}
FarGives (Some d) (Number n) = (d.0 ≤ℤ cast_signed w64 n) × (cast_signed w64 n ≤ℤ d.1)
FarGives (Some d) y = ⊥

small_gives : (s : Interval) (n : ℕ) → Inside n s → FarGives (small s) (Number n)
small_gives s n h = go (nat_le s.hi 65536) refl
  where
    go : (t : Bool) → nat_le s.hi 65536 ≡ t → FarGives (if t then Some (pos s.lo, pos s.hi) else None) (Number n)
    go false e = tt
    go true e = let le : s.hi ≤ 65536 = grind (arith, nat_tests, e) in (omega (arith, ints, h, le), omega (arith, ints, h, le))

immediate_gives : (k : ℤ) → FitsSigned w32 k → (k ≤ℤ cast_signed w64 (cast_unsigned w64 k)) × (cast_signed w64 (cast_unsigned w64 k) ≤ℤ k)
immediate_gives k f = (omega (arith, ints, f), omega (arith, ints, f))

distance_gives : (depth : ℕ) (o : Operand) (b : Kind) (y : Value) → IsOwn W64 o y → Contains depth b y → FarGives (distance o b) y
distance_gives depth (Imm k) b y own c = subst (FarGives (Some (k, k))) (sym own.1) (immediate_gives k own.0)
distance_gives depth (Reg r) Unset y own c = tt
distance_gives depth (Reg r) (Num lo hi) (Number n) own c = small_gives (interval lo hi) n c
distance_gives depth (Reg r) (Stack l lo hi) y own c = tt
distance_gives depth (Reg r) (Req lo hi) y own c = tt
distance_gives depth (Reg r) (Vars lo hi) y own c = tt
distance_gives depth (Reg r) (Dev lo hi) y own c = tt
distance_gives depth (Reg r) (Num lo hi) _ own c = absurd c

near_gives : (depth : ℕ) (form : ℤ → ℤ → Kind) (lo hi : ℤ) (region : Region) (o : ℤ) → IsFormOf depth form region → lo ≤ℤ o → o ≤ℤ hi → Gives depth (near form lo hi) (Some (Pointer region o))
near_gives depth form lo hi region o i p q = go (int_le (negsuc 65535) lo && int_le hi (pos 65536))
  where
    go : (t : Bool) → Gives depth (if t then Some (form lo hi) else None) (Some (Pointer region o))
    go false = tt
    go true = i.contains lo hi o p q

forth_gives : (depth : ℕ) (by : Option (ℤ × ℤ)) (y : Value) → FarGives by y → PointersGive depth (forth by) (moved_forth y)
forth_gives depth None y f form lo hi region o i p q = tt
forth_gives depth (Some d) (Number n) f form lo hi region o i p q = near_gives depth form (lo +ℤ d.0) (hi +ℤ d.1) region (o +ℤ cast_signed w64 n) i (omega (arith, ints, p, f)) (omega (arith, ints, q, f))
forth_gives depth (Some d) _ f form lo hi region o i p q = absurd f

back_gives : (depth : ℕ) (by : Option (ℤ × ℤ)) (y : Value) → FarGives by y → PointersGive depth (back by) (moved_back y)
back_gives depth None y f form lo hi region o i p q = tt
back_gives depth (Some d) (Number n) f form lo hi region o i p q = near_gives depth form (lo -ℤ d.1) (hi -ℤ d.0) region (o -ℤ cast_signed w64 n) i (omega (arith, ints, p, f)) (omega (arith, ints, q, f))
back_gives depth (Some d) _ f form lo hi region o i p q = absurd f

moved_gives : (depth : ℕ) (width : Width) (b : Kind) (y : Value) → Contains depth b y → Gives depth (moved width b) (copied width y)
moved_gives depth W64 b y c = by_form_gives depth b y (λ s. Some (num s)) (λ form lo hi. Some (form lo hi)) (λ n. Some (Number n)) (λ region o. Some (Pointer region o)) c (λ s n h. h) (λ form lo hi region o i p q. i.contains lo hi o p q)
moved_gives depth W32 b y c = by_form_gives depth b y (λ t. Some (num (alu_interval Mov W32 t t))) no_pointer (λ n. Some (Number (computed_at Mov W32 n n))) no_step c (λ t n i. alu_interval_sound Mov W32 n n t t i i) (no_pointers_give depth)

-- an operation whose preconditions hold has a result, and the abstract value after it contains the
-- result
pub alu_gives : (depth : ℕ) (op : AluOp) (width : Width) (o : Operand) (a b : Kind) (x y : Value) → IsOwn width o y → Contains depth a x → Contains depth b y → Gives depth (alu_kind op width o a b) (result_of op width x y)
unfolding alu_kind result_of
alu_gives depth Mov width o a b x y own c d = moved_gives depth width b y d
alu_gives depth Add W64 o a b x y own c d = by_form_gives depth a x (numbers Add W64 b) (forth (distance o b)) (computed_with Add W64 y) (moved_forth y) c (numbers_give depth Add W64 b y d) (forth_gives depth (distance o b) y (distance_gives depth o b y own d))
alu_gives depth Sub W64 o a b x y own c d = by_form_gives depth a x (numbers Sub W64 b) (back (distance o b)) (computed_with Sub W64 y) (moved_back y) c (numbers_give depth Sub W64 b y d) (back_gives depth (distance o b) y (distance_gives depth o b y own d))
alu_gives depth Add W32 o a b x y own c d = plain_gives depth Add W32 a b x y c d
alu_gives depth Sub W32 o a b x y own c d = plain_gives depth Sub W32 a b x y c d
alu_gives depth Mul width o a b x y own c d = plain_gives depth Mul width a b x y c d
alu_gives depth Div width o a b x y own c d = plain_gives depth Div width a b x y c d
alu_gives depth Or width o a b x y own c d = plain_gives depth Or width a b x y c d
alu_gives depth And width o a b x y own c d = plain_gives depth And width a b x y c d
alu_gives depth Lsh width o a b x y own c d = plain_gives depth Lsh width a b x y c d
alu_gives depth Rsh width o a b x y own c d = plain_gives depth Rsh width a b x y c d
alu_gives depth Mod width o a b x y own c d = plain_gives depth Mod width a b x y c d
alu_gives depth Xor width o a b x y own c d = plain_gives depth Xor width a b x y c d
alu_gives depth Arsh width o a b x y own c d = plain_gives depth Arsh width a b x y c d
alu_gives depth Sdiv width o a b x y own c d = plain_gives depth Sdiv width a b x y c d
alu_gives depth Smod width o a b x y own c d = plain_gives depth Smod width a b x y c d
