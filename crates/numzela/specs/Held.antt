-- The ownership of C's handles: nothing, or a box of the library's.
use mir.Syntax.{Ty}
use base.Fml.{Fml, ftrue, feq, fsep}
use denote.RattleType.{RattleType}
use denote.RawPtr.{Ptr}
use Rattle.std.specs.Prelude.{Bool, Option, Some, None, is_some}
use Rattle.std.specs.declared.boxed.Box.{Box}
use Rattle.std.specs.Box.Ownership.{box_owns}
use Rattle.numzela.specs.declared.loose.Loose.{Loose}

-- the ownership at a pointer: nothing, or a box with this value.
abbrev pub owned_at : (Ty → Ptr → Fml) → (R : RattleType) → Ptr → Option R.Denot → Fml
owned_at holds R p None = ftrue
owned_at holds R p (Some x) = box_owns holds R p x

-- the ownership of a handle: that at its pointer; the flag `held` says whether there is a box.
abbrev pub owned : (Ty → Ptr → Fml) → (R : RattleType) → Ptr → Bool → Option R.Denot → Fml
owned holds R p held value = fsep (feq Bool held (is_some value)) (owned_at holds R p value)

module _ {X Z : Type 0} where
  -- the value in a box, if there is one.
  abbrev pub boxed : Option (Box X Z) → Option X
  boxed None = None
  boxed (Some b) = Some b.value

  -- the value of a box's pointer, if there is one.
  abbrev pub loose_value : Option (Loose X Z) → Option X
  loose_value None = None
  loose_value (Some l) = Some l.value
