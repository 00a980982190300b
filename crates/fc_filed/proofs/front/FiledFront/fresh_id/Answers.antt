use Rattle.fc_calls.specs.Logged.{DrawsId}
use Rattle.fc_linear.specs.Operations.{FrontDoes, Logged}
use Rattle.fc_filed.specs.Threads.{entry_by}
use Rattle.fc_filed.proofs.Leading.{leads_filed}
use Rattle.fc_filed.proofs.front.FiledFront.fresh_id.Goals as goal

pub invariant_of-self : goal.invariant_of-self
invariant_of-self g c =
    let e = entry_by c.args.who c.args.tracks.now (Logged (DrawsId c.args.now c.fresh_id-id.result)) in
    leads_filed FrontDoes c.self.inside.track c.file_draw.new.track e g.J.ServerName.first.front c.self.inside.front c.fresh_id-id.new.self c.file_draw.ensures.track c.self.invariant (c.fresh_id-id.ensures.id, c.fresh_id-id.ensures.after)
