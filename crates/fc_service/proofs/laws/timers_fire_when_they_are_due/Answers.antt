use Rattle.std.proofs.Common.{ℕ, ap}
use Rattle.std.specs.Prelude.{if◌then◌else◌, nat_lt}
use Rattle.fc_host.specs.Timers.{put_off}
use Rattle.fc_service.proofs.laws.timers_fire_when_they_are_due.Goals as goal

pub returns-clause-waits : goal.returns-clause-waits
returns-clause-waits c = λ t due. ap (λ (n : ℕ). if nat_lt 4999 n then t else put_off 4999 t) due
