use Rattle.std.proofs.Common.{ap, ◌∙◌}
use Rattle.fc_machine.specs.Ran.{meaning_of, ran}
use Rattle.fc_tools.specs.Runs.{report_text}
use Rattle.fc_tools.proofs.runner.report.Goals as goal

pub returns : goal.returns
returns c =
    c.in_ok-outcome_text.ensures
    ∙ ap (λ r. report_text (meaning_of r)) (c.run-outcome.ensures.made ∙ ap (λ v. ran c.args.program.now c.args.asked.now.request v c.args.asked.now.readings) c.in_ok-found.ensures.found)
