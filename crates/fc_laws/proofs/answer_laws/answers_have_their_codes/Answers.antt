use Rattle.fc_laws.proofs.front.AnswerCodes.{changed_code, created_code, deleted_code, described_code, described_past_code, listed_code, listed_past_code, missing_code, ran_code, ran_past_code, rejected_code, unavailable_code, untyped_code, valid_code}
use Rattle.fc_laws.proofs.answer_laws.answers_have_their_codes.Goals as goal

pub returns-clause-created : goal.returns-clause-created
returns-clause-created c = created_code

pub returns-clause-changed : goal.returns-clause-changed
returns-clause-changed c = changed_code

pub returns-clause-deleted : goal.returns-clause-deleted
returns-clause-deleted c = deleted_code

pub returns-clause-valid : goal.returns-clause-valid
returns-clause-valid c = valid_code

pub returns-clause-missing : goal.returns-clause-missing
returns-clause-missing c = missing_code

pub returns-clause-unavailable : goal.returns-clause-unavailable
returns-clause-unavailable c = unavailable_code

pub returns-clause-rejected : goal.returns-clause-rejected
returns-clause-rejected c = rejected_code

pub returns-clause-untyped : goal.returns-clause-untyped
returns-clause-untyped c = untyped_code

pub returns-clause-described : goal.returns-clause-described
returns-clause-described c = described_code

pub returns-clause-described_past : goal.returns-clause-described_past
returns-clause-described_past c = described_past_code

pub returns-clause-listed : goal.returns-clause-listed
returns-clause-listed c = listed_code

pub returns-clause-listed_past : goal.returns-clause-listed_past
returns-clause-listed_past c = listed_past_code

pub returns-clause-ran : goal.returns-clause-ran
returns-clause-ran c = ran_code

pub returns-clause-ran_past : goal.returns-clause-ran_past
returns-clause-ran_past c = ran_past_code
