use Rattle.fc_laws.proofs.front.Asking.{keeps, keeps_not}
use Rattle.fc_laws.proofs.ask_laws.puts_keep_variables_by_their_query.Goals as goal

pub returns-clause-keep : goal.returns-clause-keep
returns-clause-keep c = keeps

pub returns-clause-other : goal.returns-clause-other
returns-clause-other c = keeps_not
