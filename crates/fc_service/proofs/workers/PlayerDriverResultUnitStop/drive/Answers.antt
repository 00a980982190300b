use Rattle.fc_service.proofs.Played.{fed_by_lines}
use Rattle.fc_service.proofs.workers.PlayerDriverResultUnitStop.drive.Goals as goal

pub returns : goal.returns
returns g c = fed_by_lines (λ w. w.ingress) _ (λ readings old new same. same) g.N.Ingress.calls _ _ _ _ _ c.play_lines-given.result c.play_lines-given.ensures.played
