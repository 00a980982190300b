use Rattle.fc_laws.proofs.front.Kept.{delivery_keeps, job_keeps, others_keep_answers}
use Rattle.fc_laws.proofs.exchange_laws.kept_answers_are_what_went_out.Goals as goal

pub returns-clause-opened : goal.returns-clause-opened
returns-clause-opened c = delivery_keeps

pub returns-clause-answered : goal.returns-clause-answered
returns-clause-answered c = job_keeps

pub returns-clause-others : goal.returns-clause-others
returns-clause-others c = others_keep_answers
