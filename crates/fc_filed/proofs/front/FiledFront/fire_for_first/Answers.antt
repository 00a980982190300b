use Rattle.fc_calls.specs.Logged.{FiresTimer}
use Rattle.fc_linear.specs.Operations.{FrontDoes, Logged}
use Rattle.fc_filed.specs.Threads.{entry_by}
use Rattle.fc_filed.proofs.Leading.{fires, leads_filed}
use Rattle.fc_filed.proofs.front.FiledFront.fire_for_first.Goals as goal

pub invariant_of-self : goal.invariant_of-self
invariant_of-self g c =
    let e = entry_by c.args.who c.args.tracks.now (Logged (FiresTimer c.args.slot c.args.now)) in
    leads_filed FrontDoes c.self.inside.track c.file_fire.new.track e g.J.ServerName.first.front c.self.inside.front c.fire.new.self c.file_fire.ensures.track c.self.invariant (fires c.args.now c.self.inside.front c.fire.new.self c.fire.ensures.after)
