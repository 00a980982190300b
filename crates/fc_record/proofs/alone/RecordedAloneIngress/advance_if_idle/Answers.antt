use Rattle.fc_server.specs.SingleThread.{PassesOverAlone}
use Rattle.fc_record.proofs.Unrecorded.{unrecorded_if}
use Rattle.fc_record.proofs.alone.RecordedAloneIngress.advance_if_idle.Goals as goal

pub returns-clause-after : goal.returns-clause-after
returns-clause-after g c = unrecorded_if (λ old new. PassesOverAlone c.args.shard c.args.now old new)
    (record { alone = c.self.inside.alone; log = c.self.inside.changes }) c.args.self.now c.advance_if_idle.new.self c.advance_if_idle.result
    c.self.view_is c.advance_if_idle.ensures.after
