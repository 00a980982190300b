use Rattle.std.proofs.Common.{sym, arith}
use Rattle.fc_image.proofs.Kept.{head_kept}
use Rattle.fc_image.proofs.header.head.Goals as goal

pub version-requires : goal.version-requires
version-requires c = let k = head_kept c.args.image.now (sym c.in-None.ensures) in omega arith

pub vars_size-requires : goal.vars_size-requires
vars_size-requires c = let k = head_kept c.args.image.now (sym c.in-None.ensures) in omega arith

pub count-requires : goal.count-requires
count-requires c = let k = head_kept c.args.image.now (sym c.in-None.ensures) in omega arith

pub budget-requires : goal.budget-requires
budget-requires c = let k = head_kept c.args.image.now (sym c.in-None.ensures) in omega arith

pub of-requires : goal.of-requires
of-requires c = rw (c.version.ensures, c.vars_size.ensures, c.count.ensures, c.budget.ensures) (head_kept c.args.image.now (sym c.in-None.ensures)).head

pub returns-in-None-clause-kept : goal.returns-in-None-clause-kept
returns-in-None-clause-kept c = head_kept c.args.image.now (sym c.in-None.ensures)
