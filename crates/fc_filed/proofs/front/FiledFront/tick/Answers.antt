use Rattle.fc_calls.specs.Logged.{AdvancesFront}
use Rattle.fc_linear.specs.Operations.{FrontDoes, Logged}
use Rattle.fc_filed.specs.Threads.{entry_by}
use Rattle.fc_filed.proofs.Leading.{advances, leads_filed}
use Rattle.fc_filed.proofs.front.FiledFront.tick.Goals as goal

pub invariant_of-self : goal.invariant_of-self
invariant_of-self g c =
    let e = entry_by c.args.who c.args.tracks.now (Logged (AdvancesFront c.args.now)) in
    leads_filed FrontDoes c.self.inside.track c.file_tick.new.track e g.J.ServerName.first.front c.self.inside.front c.tick.new.self c.file_tick.ensures.track c.self.invariant (advances c.args.now c.self.inside.front c.tick.new.self c.tick.ensures)
