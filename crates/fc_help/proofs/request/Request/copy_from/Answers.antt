use Rattle.std.proofs.Common.{ℕ, drop, sym, subst, arith}
use Rattle.fc_help.specs.Layout.{IsZeroFrom}
use Rattle.fc_help.proofs.Laid.{laid_size, zero_behind}
use Rattle.fc_help.proofs.request.Request.copy_from.Goals as goal

pub copy_over-requires-clause-size : goal.copy_over-requires-clause-size
copy_over-requires-clause-size c = laid_size c.self.invariant

pub copy_over-requires-clause-before : goal.copy_over-requires-clause-before
copy_over-requires-clause-before c = let few = (zero_behind c.self.invariant).0 in let same = c.from.ensures in omega (arith, few, same)

pub copy_over-requires-clause-zeros : goal.copy_over-requires-clause-zeros
copy_over-requires-clause-zeros c = subst (λ (n : ℕ). IsZeroFrom n (drop 80 c.self.inside.region.items)) (sym c.from.ensures) (zero_behind c.self.invariant).1
