use Rattle.std.proofs.Common.{◌<◌, length, rules, tests, sym, ap, ◌∙◌, arith}
use Rattle.std.specs.Char.{is_ascii_digit}
use Rattle.std.specs.Str.{all_ascii_digits}
use Rattle.std.proofs.lemmas.Bool.Decides.{nat_tests}
use Rattle.std.proofs.lemmas.Bool.{lt-ltb}
use Rattle.std.proofs.lemmas.Iterator.{YieldsList-from_slice}
use Rattle.std.proofs.lemmas.Iterator.Search.{all_from_yields_List}
use Rattle.std.proofs.Common.{◌&&◌}
use Rattle.fc_asm.proofs.Numbers.{list_all-digits}
use Rattle.fc_asm.proofs.operand.is_digits.Goals as goal

pub returns-then-not-is_empty : goal.returns-then-not-is_empty
returns-then-not-is_empty c =
    let ds = c.args.digits.now in
    let filled : 0 < length ds = grind (arith, nat_tests) in
    all_from_yields_List is_ascii_digit _ _ _ c.all.ensures.ran (YieldsList-from_slice ds cc) (λ x b q k. search (rules, tests))
    ∙ list_all-digits ds ∙ ap (λ b. b && all_ascii_digits ds) (sym (lt-ltb 0 (length ds) filled))
