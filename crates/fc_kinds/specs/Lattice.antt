-- The lattice of abstract values: joins.
use Rattle.std.specs.Prelude.{◌==◌, if◌then◌else◌, min, max, List, [], ◌∷◌}
use Rattle.std.specs.Int.{int_min, int_max}
use Rattle.fc_kinds.specs.declared.kind.Kind.{Kind}
use Rattle.fc_kinds.specs.declared.kind.Kind.TheVariants.{Unset, Num, Stack, Req, Vars, Dev}

-- the join of two abstract values of the same form is the least of this form that contains both;
-- the join of any other two is `Unset`.
abbrev pub join_kind : Kind → Kind → Kind
join_kind (Num lo hi) (Num lo' hi') = Num (min lo lo') (max hi hi')
join_kind (Stack level lo hi) (Stack level' lo' hi') = if level == level' then Stack level (int_min lo lo') (int_max hi hi') else Unset
join_kind (Req lo hi) (Req lo' hi') = Req (int_min lo lo') (int_max hi hi')
join_kind (Vars lo hi) (Vars lo' hi') = Vars (int_min lo lo') (int_max hi hi')
join_kind (Dev lo hi) (Dev lo' hi') = Dev (int_min lo lo') (int_max hi hi')
join_kind a b = Unset

-- the join of two states, register by register.
abbrev pub joined : List Kind → List Kind → List Kind
joined (k ∷ kinds) (l ∷ others) = join_kind k l ∷ joined kinds others
joined kinds others = []
