-- Abstract values of registers, and their order by containment.
use Rattle.std.specs.Prelude.{◌≡◌, ℕ, ◌≤◌, ◌≤ℤ◌, List, slice_index_or}
use Rattle.fc_kinds.specs.declared.kind.Kind.{Kind}
use Rattle.fc_kinds.specs.declared.kind.Kind.TheVariants.{Unset, Num, Stack, Req, Vars, Dev}

abbrev pub kind_at : List Kind → ℕ → Kind
kind_at kinds r = slice_index_or kinds r Unset

-- one abstract value is within another: the other is unset, or has the same form and ends that are
-- at least as wide.
abbrev pub KindWithin : Kind → Kind → Type 0
KindWithin _ Unset = Unit {0}
KindWithin (Num lo hi) (Num lo' hi') = (lo' ≤ lo) × (hi ≤ hi')
KindWithin (Stack level lo hi) (Stack level' lo' hi') = (level ≡ level') × (lo' ≤ℤ lo) × (hi ≤ℤ hi')
KindWithin (Req lo hi) (Req lo' hi') = (lo' ≤ℤ lo) × (hi ≤ℤ hi')
KindWithin (Vars lo hi) (Vars lo' hi') = (lo' ≤ℤ lo) × (hi ≤ℤ hi')
KindWithin (Dev lo hi) (Dev lo' hi') = (lo' ≤ℤ lo) × (hi ≤ℤ hi')
KindWithin _ _ = ⊥

-- one state is within another, register by register.
pub record Within (kinds kinds' : List Kind) : Type 0 where
  pub each : (r : ℕ) → KindWithin (kind_at kinds r) (kind_at kinds' r)
