-- Conditions on an answer: it is sent if the exchange is live and a message ID is available. It is
-- late if the exchange isn't live.
use Rattle.std.specs.Prelude.{ℕ, Bool, true, false, Option, Some, None}
use Rattle.coap_msg.specs.declared.types.Emission.{Emission}
use Rattle.fc_ticket.specs.declared.job.Job.{Job}
use Rattle.fc_front.specs.declared.by_value.Answered.{Answered}
use Rattle.fc_front.specs.declared.by_value.Answered.TheVariants.{Sent, Late, NoId}
use Rattle.fc_front.specs.declared.front.Responded.{Responded}
use Rattle.fc_front.specs.declared.front.Responded.TheVariants as responds
use Rattle.fc_front.specs.Contents.{Content}
use Rattle.fc_front.specs.Ids.{drawn_for}
use Rattle.fc_front.specs.Replies.{IsReplyTo}
use Rattle.fc_front.specs.Exchanges.{FrontState, opening_is_live}
use Rattle.fc_front.specs.Receiving.{id_in, keeping}

abbrev pub Answers : Bool → Option ℕ → Job → Content → Answered → Type 0
Answers true (Some id) job content (Sent emission) = IsReplyTo job id content emission
Answers true None job content NoId = Unit {0}
Answers false id job content Late = Unit {0}
Answers live id job content other = ⊥

-- the conditions on the result of answering a job, by a front that has advanced to the time.
abbrev pub AnswersIn : FrontState → Job → Content → Answered → Type 0
AnswersIn f job content answered = Answers (opening_is_live f.now job.origin.opening) (id_in f job.confirmable job.origin.id) job content answered

-- the result of answering a job, with this emission if a response was written.
abbrev pub responded : Responded → Emission → Answered
responded responds.Sent emission = Sent emission
responded responds.Late emission = Late
responded responds.NoId emission = NoId

abbrev pub emission_of : Answered → Option Emission
emission_of (Sent emission) = Some emission
emission_of other = None

-- the front after it answered a job with this emission; the flag says whether the job's exchange is
-- live.
abbrev pub after_answered_by : Bool → Job → Option Emission → FrontState → FrontState
after_answered_by true job emitted f = keeping job.origin.opening.number emitted (record f { ids = drawn_for job.confirmable f.ids f.now })
after_answered_by false job emitted f = f

abbrev pub after_answered : Job → Option Emission → FrontState → FrontState
after_answered job emitted f = after_answered_by (opening_is_live f.now job.origin.opening) job emitted f
