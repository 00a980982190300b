-- The values in an interval or an abstract value, well-formed abstract values, and bounds on the
-- levels of their stack frames.
use Rattle.std.specs.Prelude.{ℕ, ◌^◌, ◌<◌, ◌≤◌, ◌≡◌, ◌+◌, ◌≤ℤ◌, List, ℤ, pos, negsuc, length, [], ◌∷◌}
use Rattle.fc_kinds.specs.declared.interval.Interval.{Interval}
use Rattle.fc_kinds.specs.declared.kind.Kind.{Kind}
use Rattle.fc_kinds.specs.declared.kind.Kind.TheVariants.{Unset, Num, Stack, Req, Vars, Dev}
use Rattle.fc_kinds.specs.Values.{Value, Number, Pointer, Frame, Asked, Variables, Readings, value_at}
use Rattle.fc_kinds.specs.Kinds.{kind_at}
use Rattle.fc_kinds.specs.Ways.{Way}

abbrev pub Inside : ℕ → Interval → Type 0
Inside n s = (s.lo ≤ n) × (n ≤ s.hi)

abbrev pub IntervalWithin : Interval → Interval → Type 0
IntervalWithin a b = (b.lo ≤ a.lo) × (a.hi ≤ b.hi)

-- the interval contains a number, and only numbers of w bits.
abbrev pub IsInterval : ℕ → Interval → Type 0
IsInterval w s = (s.lo ≤ s.hi) × (s.hi < 2 ^ w)

-- an abstract value contains a value, where the current stack frame has the index `depth`.
abbrev pub Contains : ℕ → Kind → Value → Type 0
Contains depth Unset v = Unit {0}
Contains depth (Num lo hi) (Number n) = (lo ≤ n) × (n ≤ hi)
Contains depth (Stack level lo hi) (Pointer (Frame k) o) = (k + level ≡ depth) × (lo ≤ℤ o) × (o ≤ℤ hi)
Contains depth (Req lo hi) (Pointer Asked o) = (lo ≤ℤ o) × (o ≤ℤ hi)
Contains depth (Vars lo hi) (Pointer Variables o) = (lo ≤ℤ o) × (o ≤ℤ hi)
Contains depth (Dev lo hi) (Pointer Readings o) = (lo ≤ℤ o) × (o ≤ℤ hi)
Contains depth _ _ = ⊥

-- each register's abstract value contains the register's value.
pub record Holds (depth : ℕ) (kinds : List Kind) (values : List Value) : Type 0 where
  pub each : (r : ℕ) → Contains depth (kind_at kinds r) (value_at values r)

-- a pointer's least and greatest offsets are from -65,536 to 65,536.
abbrev pub IsNear : ℤ → ℤ → Type 0
IsNear lo hi = (lo ≤ℤ hi) × (negsuc 65535 ≤ℤ lo) × (hi ≤ℤ pos 65536)

-- the abstract value contains some value of its form; a number has 64 bits.
abbrev pub IsKind : Kind → Type 0
IsKind Unset = Unit {0}
IsKind (Num lo hi) = (lo ≤ hi) × (hi < 2 ^ 64)
IsKind (Stack level lo hi) = IsNear lo hi
IsKind (Req lo hi) = IsNear lo hi
IsKind (Vars lo hi) = IsNear lo hi
IsKind (Dev lo hi) = IsNear lo hi

-- the abstract values of eleven registers, each of which contains some value of its form.
pub record AreKinds (kinds : List Kind) : Type 0 where
  pub count : length kinds ≡ 11
  pub each : (r : ℕ) → IsKind (kind_at kinds r)

-- a stack frame is at most `top` levels above the current one.
abbrev pub IsShallow : ℕ → Kind → Type 0
IsShallow top (Stack level lo hi) = level ≤ top
IsShallow top kind = Unit {0}

-- each register that points into a stack frame points into one that is at most `top` levels above
-- the current one.
pub record AreShallow (top : ℕ) (kinds : List Kind) : Type 0 where
  pub each : (r : ℕ) → IsShallow top (kind_at kinds r)

-- on each branch a stack frame is at most `top` levels above the current one.
abbrev pub AllShallow : ℕ → List Way → Type 0
AllShallow top [] = Unit {0}
AllShallow top (w ∷ ws) = AreShallow top w.kinds × AllShallow top ws
