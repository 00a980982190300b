use Rattle.std.proofs.Common.{◌≡◌, Ok, rules, tests, sym, ap, ◌∙◌}
use Rattle.std.specs.List.{position}
use Rattle.std.specs.Option.{ok_or}
use Rattle.std.specs.Str.{bytes_eq}
use Rattle.std.proofs.lemmas.Iterator.{YieldsList-from_slice}
use Rattle.std.proofs.lemmas.Iterator.Search.{position_from_yields_List}
use Rattle.fc_asm.specs.declared.error.Mistake.TheVariants.{Operand}
use Rattle.fc_asm.specs.Operands.{registers, register_from}
use Rattle.fc_asm.proofs.operand.register.Goals as goal

pub returns-in-Some : goal.returns-in-Some
unfolding register_from
returns-in-Some c =
    let found : c.position.result ≡ position (λ name. bytes_eq name c.args.word.now) registers = position_from_yields_List (λ name. bytes_eq name.now c.args.word.now) _ _ _ c.position.ensures.ran (YieldsList-from_slice _ c.iter.ensures.rest) (λ x b q k. search (rules, tests)) in
    ap Ok c.new.ensures ∙ ap (λ o. ok_or o Operand) (sym c.in-Some.is ∙ found)

pub returns-in-None : goal.returns-in-None
unfolding register_from
returns-in-None c =
    let found : c.position.result ≡ position (λ name. bytes_eq name c.args.word.now) registers = position_from_yields_List (λ name. bytes_eq name.now c.args.word.now) _ _ _ c.position.ensures.ran (YieldsList-from_slice _ c.iter.ensures.rest) (λ x b q k. search (rules, tests)) in
    ap (λ o. ok_or o Operand) (sym c.in-None.is ∙ found)
