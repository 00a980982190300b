use Rattle.std.proofs.Common.{◌≡◌, ◌+◌, ◌≤◌, length, ap, ◌∙◌, arith, length-append}
use Rattle.std.specs.Fmt.{decimal}
use Rattle.std.proofs.lemmas.Fmt.{length-decimal-le}
use Rattle.fc_front.proofs.text.link_line.Goals as goal

pub returns-clause-short : goal.returns-clause-short
returns-clause-short c =
    let two : length (decimal c.args.slot) ≤ 2 = length-decimal-le 2 c.args.slot (omega arith) (omega (arith, c.requires)) (omega (arith, c.requires)) in
    let none : length c.new-text.result.items ≡ 0 = ap length c.new-text.ensures in
    let first = c.push_bytes.ensures.len in
    let digits : length c.push_decimal.new.text.items ≡ length c.push_bytes.new.text.items + length (decimal c.args.slot) = ap length c.push_decimal.ensures.items ∙ length-append c.push_bytes.new.text.items (decimal c.args.slot) in
    let last = c.push_bytes-2.ensures.len in
    omega (arith, two, none, first, digits, last)
