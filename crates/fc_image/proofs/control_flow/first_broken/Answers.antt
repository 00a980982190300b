use Rattle.std.proofs.Common.{◌≡◌, ℕ, ◌+◌, ◌<◌, List, drop, length, get_or, Option, None, sym, ap, ◌∙◌}
use Rattle.std.proofs.lemmas.List.{at_drop_more}
use Rattle.fc_isa.specs.declared.insn.Insn.{Insn}
use Rattle.fc_isa.specs.declared.rule.Rule.{Rule}
use Rattle.fc_image.specs.Head.{Head}
use Rattle.fc_image.specs.ShapeRules.{breaks_shape, least, first_broken, or_next}
use Rattle.fc_image.proofs.control_flow.first_broken.Goals as goal

-- if no slot breaks a rule, the first broken rule is the first one among the rules after it
passed_over : (head : Head) (code : List Insn) (rules : List Rule) (i : ℕ) (d : Rule) → i < length rules → least (λ slot insn. breaks_shape head code slot insn (get_or rules i d)) 0 code ≡ None
    → first_broken head code (drop i rules) ≡ first_broken head code (drop (i + 1) rules)
passed_over head code rules i d lt e =
    at_drop_more (first_broken head code) rules i d lt ∙ ap (λ (o : Option ℕ). or_next o (get_or rules i d) (first_broken head code (drop (i + 1) rules))) e

pub loop-rule-preserved : goal.loop-rule-preserved
loop-rule-preserved c = c.loop-rule.invariant ∙ passed_over c.args.head.now c.args.code.now c.args.rules.now c.loop-rule.rule-index _ c.loop-rule-test.true (sym c.least.ensures ∙ c.in_default.is)
