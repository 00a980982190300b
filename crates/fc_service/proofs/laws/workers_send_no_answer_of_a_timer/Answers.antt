use Rattle.std.proofs.Common.{◌≡◌, ◌∙◌, ℕ, Option, None, false, refl}
use Rattle.fc_front.specs.Answering.{Answers, emission_of}
use Rattle.fc_front.specs.Contents.{Content}
use Rattle.fc_front.specs.Exchanges.{advanced}
use Rattle.fc_front.specs.Receiving.{id_in}
use Rattle.fc_front.specs.Timers.{timer_job}
use Rattle.fc_front.specs.declared.by_value.Answered.{Answered}
use Rattle.fc_front.specs.declared.by_value.Answered.TheVariants.{Late, NoId, Sent}
use Rattle.fc_ticket.specs.declared.job.Job.{Job}
use Rattle.fc_service.proofs.laws.workers_send_no_answer_of_a_timer.Goals as goal

-- an answer without a live exchange isn't sent.
unsent : (id : Option ℕ) (job : Job) (content : Content) (answered : Answered) → Answers false id job content answered → emission_of answered ≡ None
unsent id job content (Sent emission) is = elim is [ ]
unsent id job content Late is = refl
unsent id job content NoId is = refl

pub returns : goal.returns
returns c = λ now slot content sent before after w. (w.sent_is ∙ unsent (id_in (advanced before now) false 0) (timer_job slot) content w.answered w.answers, w.after_is)
