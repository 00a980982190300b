use Rattle.fc_server.specs.SingleThread.{ResendsAlone}
use Rattle.fc_record.proofs.Unrecorded.{unrecorded}
use Rattle.fc_record.proofs.alone.RecordedAloneIngress.resend.Goals as goal

pub returns : goal.returns
returns g c = unrecorded (λ old new. ResendsAlone c.args.shard c.args.now old new c.resend.result)
    (record { alone = c.self.inside.alone; log = c.self.inside.changes }) c.args.self.now c.resend.new.self c.self.view_is c.resend.ensures
