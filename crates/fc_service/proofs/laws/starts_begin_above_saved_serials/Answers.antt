use Rattle.fc_service.proofs.LaterStarts.{above_changes, above_start}
use Rattle.fc_service.proofs.laws.starts_begin_above_saved_serials.Goals as goal

pub returns-clause-start : goal.returns-clause-start
returns-clause-start g c = above_start g.S.Store

pub returns-clause-changes : goal.returns-clause-changes
returns-clause-changes g c = above_changes g.S.Store
