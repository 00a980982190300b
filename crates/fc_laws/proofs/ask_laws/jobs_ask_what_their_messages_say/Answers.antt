use Rattle.fc_laws.proofs.front.Asking.{deletes, describes, gets, lists, of_four_codes, posts, puts}
use Rattle.fc_laws.proofs.ask_laws.jobs_ask_what_their_messages_say.Goals as goal

pub returns-clause-get : goal.returns-clause-get
returns-clause-get c = gets

pub returns-clause-post : goal.returns-clause-post
returns-clause-post c = posts

pub returns-clause-put : goal.returns-clause-put
returns-clause-put c = puts

pub returns-clause-delete : goal.returns-clause-delete
returns-clause-delete c = deletes

pub returns-clause-describe : goal.returns-clause-describe
returns-clause-describe c = describes

pub returns-clause-list : goal.returns-clause-list
returns-clause-list c = lists

pub returns-clause-only : goal.returns-clause-only
returns-clause-only c = of_four_codes
