use Rattle.std.proofs.Common.{ℕ, Bool, rules, tests, true, false}
use Rattle.std.proofs.lemmas.Iterator.{first_from_Range}
use Rattle.fc_isa.specs.declared.insn.Insn.{Insn}
use Rattle.fc_image.specs.ShapeRules.{breaks_shape}
use Rattle.fc_image.proofs.ShapeLaws.{Tests, least_found}
use Rattle.fc_image.proofs.control_flow.least.Goals as goal

pub returns : goal.returns
returns c =
    let test : ℕ → Insn → Bool = λ slot insn. breaks_shape c.args.head.now c.args.code.now slot insn c.args.rule in
    let code = c.args.code.now in
    least_found test code _ (first_from_Range _ _ _ _ (Tests test true code) (Tests test false code) c.find.ensures.ran (λ x q k. search (rules, tests)) (λ x q k. search (rules, tests)))
