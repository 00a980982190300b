use Rattle.fc_host.proofs.Sensing.{given_first}
use Rattle.fc_host.proofs.sensors.read_sensed.Goals as goal

pub returns-clause-given : goal.returns-clause-given
returns-clause-given g c =
    given_first _ _ c.in_ok-count.count c.read.new.buf c.copy_from_slice.new.self c.in_ok-count.ensures.bound.0 c.read.auto.buf c.copy_from_slice.ensures.after c.in_ok-count.ensures.bytes.0
