use Rattle.std.proofs.Common.{◌∙◌, sym}
use Rattle.fc_expand.proofs.Spacing.{plain_step_left}
use Rattle.fc_expand.proofs.plain.is_plain_but_for_tabs.Goals as goal

pub loop-at-preserved : goal.loop-at-preserved
loop-at-preserved c = plain_step_left c.loop-at.at c.args.text.now c.loop-at-test.true (sym c.begins_mark.ensures ∙ c.if-begins_mark.false) ∙ c.loop-at.invariant
