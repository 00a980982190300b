-- The relations that hold for two numbers (RFC 9669, section 4.3).
use Rattle.std.specs.Prelude.{ℕ, List, [], ◌∷◌, filter}
use Rattle.fc_isa.specs.declared.insn.Width.{Width}
use Rattle.fc_isa.specs.declared.insn.Relation.{Relation}
use Rattle.fc_isa.specs.declared.insn.Relation.TheVariants.{Eq, Gt, Ge, Set, Ne, Sgt, Sge, Lt, Le, Slt, Sle}
use Rattle.fc_alu.specs.Comparison.{compared}

-- all eleven relations, in the order of the standard's table.
abbrev pub every_relation : List Relation
every_relation = Eq ∷ Gt ∷ Ge ∷ Set ∷ Ne ∷ Sgt ∷ Sge ∷ Lt ∷ Le ∷ Slt ∷ Sle ∷ []

-- the relations that hold for two numbers at a width.
abbrev pub relations_of : Width → ℕ → ℕ → List Relation
relations_of width a b = filter (λ relation. compared relation width a b) every_relation
