use Rattle.fc_cli.proofs.Ends.{Ends-from_result}
use Rattle.fc_cli.proofs.command_line.run_main.Goals as goal

pub returns : goal.returns
returns g c =
    Ends-from_result _ c.run_words-ended.result _ c.run_words-ended.ensures c.exit_code.ensures.ended c.exit_code.ensures.failed
