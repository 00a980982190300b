-- The abstract state at a program's entry.
use Rattle.std.specs.Prelude.{pos, List, [], ◌∷◌}
use Rattle.fc_isa.specs.declared.version.ImageVersion.{ImageVersion}
use Rattle.fc_isa.specs.declared.version.ImageVersion.TheVariants.{One, Two}
use Rattle.fc_kinds.specs.declared.kind.Kind.{Kind}
use Rattle.fc_kinds.specs.declared.kind.Kind.TheVariants.{Unset, Num, Stack, Req, Vars, Dev}

-- the abstract value of R4 at a program's entry.
abbrev pub fourth_kind : ImageVersion → Kind
fourth_kind One = Unset
fourth_kind Two = Dev (pos 0) (pos 0)

-- the abstract state at a program's entry.
abbrev pub entry : ImageVersion → List Kind
entry version =
    Unset ∷ Req (pos 0) (pos 0) ∷ Vars (pos 0) (pos 0) ∷ Num 0 1024 ∷ fourth_kind version ∷ Unset ∷ Unset ∷ Unset ∷ Unset ∷ Unset
    ∷ Stack 0 (pos 256) (pos 256) ∷ []
