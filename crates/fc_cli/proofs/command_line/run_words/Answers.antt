use Rattle.fc_cli.proofs.Ends.{MayReturn-from_call}
use Rattle.fc_cli.proofs.command_line.run_words.Goals as goal

pub returns-in-Some : goal.returns-in-Some
returns-in-Some g c =
    MayReturn-from_call (goal.F-post g c.args.work) _ _ c.work.result _ c.work.ensures
