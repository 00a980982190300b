use Rattle.fc_registry.proofs.Noticed.{noticed_is, noticed_within}
use Rattle.fc_registry.proofs.laws.noticed_serials_are_of_notices.Goals as goal

pub returns-clause-serial : goal.returns-clause-serial
returns-clause-serial c = noticed_is

pub returns-clause-limit : goal.returns-clause-limit
returns-clause-limit c = noticed_within
