use Rattle.fc_server.specs.SingleThread.{FiresAlone}
use Rattle.fc_record.proofs.Unrecorded.{unrecorded}
use Rattle.fc_record.proofs.alone.RecordedAloneIngress.fire.Goals as goal

pub returns : goal.returns
returns g c = unrecorded (λ old new. FiresAlone c.args.slot c.args.now old new c.fire.result)
    (record { alone = c.self.inside.alone; log = c.self.inside.changes }) c.args.self.now c.fire.new.self c.self.view_is c.fire.ensures
