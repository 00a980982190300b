use Rattle.std.proofs.Common.{inl, inr, sym, subst, arith}
use Rattle.fc_sql.specs.Found.{AreBad}
use Rattle.fc_sql.proofs.Found.{if_err, one_item}
use Rattle.fc_sql.proofs.load.slot_of.Goals as goal

pub returns-in-len1-clause-bad : goal.returns-in-len1-clause-bad
returns-in-len1-clause-bad c =
    let one = one_item c.args.rows.now c.row-item.result (omega (arith, c.in-len1.len_at_least)) (omega (arith, c.in-len1.len_below)) c.row-item.is in
    if_err c.read_row.result _ _ (λ e it. elim it [
      | inl bad ↦ inl (bad.0, bad.1, λ wide. subst (AreBad bad.0) (sym one) (bad.2 (rw one at wide 0 c.row-item.result (omega arith))))
      | inr memory ↦ inr memory
    ]) c.read_row.ensures.bad
