use Rattle.std.proofs.Common.{sym, ◌∙◌, subst, ◌^◌, ◌<◌, ◌/◌}
use Rattle.fc_alu.specs.Words.{bits_of}
use Rattle.fc_kinds.proofs.NumberWords.{shifted_out, shifted_several}
use Rattle.fc_kinds.proofs.interval.shifted_left.Goals as goal
use Rattle.fc_kinds.proofs.interval.shifted_left.Goals.{else-b-via-then-b+else-a-limit, else-b-via-else-b}

pub returns-else-b : goal.returns-else-b
returns-else-b c =
    let w = bits_of c.args.width in
    elim c.else-b.branch [
      | else-b-via-then-b+else-a-limit o ↦ c.all.ensures ∙ sym (shifted_out w c.count-by.result c.args.a c.args.b c.count-by.ensures (subst (λ n. n / 2 ^ c.count-by.result < c.args.a.hi) o.limit.ensures o.if-a-limit.false))
      | else-b-via-else-b o ↦ c.all.ensures ∙ sym (shifted_several w c.args.a c.args.b o.if-b.false)
    ]
