use Rattle.fc_front.specs.Receiving.{handled}
use Rattle.fc_calls.specs.Logged.{HandlesDatagram}
use Rattle.fc_linear.specs.Operations.{FrontDoes, Logged}
use Rattle.fc_filed.specs.Threads.{entry_by}
use Rattle.fc_filed.proofs.Leading.{leads_filed}
use Rattle.fc_filed.proofs.front.FiledFront.handle_for_first.Goals as goal

pub invariant_of-self : goal.invariant_of-self
invariant_of-self g c =
    let brings = handled c.handle-outcome.result c.handle-outcome.new.job c.handle-outcome.new.reply in
    let e = entry_by c.args.who c.args.tracks.now (Logged (HandlesDatagram c.args.now c.args.endpoint c.args.bytes.now brings)) in
    leads_filed FrontDoes c.self.inside.track c.file_handled.new.track e g.J.ServerName.first.front c.self.inside.front c.handle-outcome.new.self c.file_handled.ensures.track c.self.invariant (c.handle-outcome.ensures.delivered, c.handle-outcome.ensures.after)
