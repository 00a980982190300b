use Rattle.fc_laws.proofs.front.Refusing.{refused_brings, refused_emits, rejected_brings, rejected_emits, rejected_opens}
use Rattle.fc_laws.proofs.reply_laws.refusals_are_answered_by_their_code.Goals as goal

pub returns-clause-refused : goal.returns-clause-refused
returns-clause-refused c = refused_emits

pub returns-clause-rejected : goal.returns-clause-rejected
returns-clause-rejected c = rejected_emits

pub returns-clause-refused_jobs : goal.returns-clause-refused_jobs
returns-clause-refused_jobs c = refused_brings

pub returns-clause-rejected_jobs : goal.returns-clause-rejected_jobs
returns-clause-rejected_jobs c = rejected_brings

pub returns-clause-rejected_exchanges : goal.returns-clause-rejected_exchanges
returns-clause-rejected_exchanges c = rejected_opens
