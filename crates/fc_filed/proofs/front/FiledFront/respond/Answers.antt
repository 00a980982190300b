use Rattle.std.proofs.Common.{refl}
use Rattle.fc_front.specs.Answering.{emission_of, responded}
use Rattle.fc_calls.specs.Logged.{AnswersRequest}
use Rattle.fc_linear.specs.Operations.{FrontDoes, Logged}
use Rattle.fc_filed.specs.Threads.{entry_by}
use Rattle.fc_filed.proofs.Leading.{leads_filed}
use Rattle.fc_filed.proofs.front.FiledFront.respond.Goals as goal

pub invariant_of-self : goal.invariant_of-self
invariant_of-self g c =
    let said = responded c.respond-outcome.result c.respond-outcome.new.reply in
    let e = entry_by c.args.who c.args.tracks.now (Logged (AnswersRequest c.args.now c.args.job.now c.args.answer.now (emission_of said))) in
    leads_filed FrontDoes c.self.inside.track c.file_answer.new.track e g.J.ServerName.first.front c.self.inside.front c.respond-outcome.new.self c.file_answer.ensures.track c.self.invariant
    (record { answered = said; answers = c.respond-outcome.ensures.answered; sent_is = refl; after_is = c.respond-outcome.ensures.after })
