use Rattle.fc_service.proofs.OneHistory.{lines_are_one_history, lines_print_what_is_sent}
use Rattle.fc_service.proofs.laws.played_lines_are_one_history.Goals as goal

pub returns-clause-history : goal.returns-clause-history
returns-clause-history c = lines_are_one_history

pub returns-clause-printed : goal.returns-clause-printed
returns-clause-printed c = lines_print_what_is_sent
