use Rattle.fc_laws.proofs.front.FirstBlocks.{longer, post, whole}
use Rattle.fc_laws.proofs.answer_laws.unasked_answers_are_cut_at_1024.Goals as goal

pub returns-clause-whole : goal.returns-clause-whole
returns-clause-whole c = whole

pub returns-clause-longer : goal.returns-clause-longer
returns-clause-longer c = longer

pub returns-clause-post : goal.returns-clause-post
returns-clause-post c = post
