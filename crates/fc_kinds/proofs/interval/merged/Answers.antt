use Rattle.std.proofs.Common.{◌≤◌, ◌<◌, ◌^◌, ◌-◌, ◌∙◌, ap, arith}
use Rattle.fc_isa.specs.declared.insn.Width.{Width}
use Rattle.fc_isa.specs.declared.insn.Width.TheVariants.{W32, W64}
use Rattle.fc_kinds.specs.Intervals.{interval, bits_needed}
use Rattle.fc_alu.specs.Words.{bits_of}
use Rattle.fc_kinds.proofs.NumberWords.{ones_needed}
use Rattle.fc_kinds.proofs.interval.merged.Goals as goal

few : (width : Width) → bits_of width ≤ 64
few W32 = omega arith
few W64 = omega arith

pub returns : goal.returns
returns c =
    let w = bits_of c.args.width in
    let below : c.max-greatest.result < 2 ^ w = grind (arith, c.max-greatest.ensures, c.requires.left, c.requires.right) in
    ap (interval 0) (c.unwrap_or.ensures ∙ ones_needed w c.max-greatest.result c.checked_shr.result (few c.args.width) below c.checked_shr.ensures
    ∙ ap (λ n. 2 ^ bits_needed w n - 1) c.max-greatest.ensures)
