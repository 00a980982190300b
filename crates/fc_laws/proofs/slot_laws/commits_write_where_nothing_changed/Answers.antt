use Rattle.fc_laws.proofs.slots.Writing.{commit_keeps, commit_writes, same_serial}
use Rattle.fc_laws.proofs.slot_laws.commits_write_where_nothing_changed.Goals as goal

pub returns-clause-writes : goal.returns-clause-writes
returns-clause-writes c = commit_writes

pub returns-clause-keeps : goal.returns-clause-keeps
returns-clause-keeps c = commit_keeps

pub returns-clause-serial : goal.returns-clause-serial
returns-clause-serial c = same_serial
