use Rattle.fc_service.proofs.Played.{played_out}
use Rattle.fc_service.proofs.play.play_alone.Goals as goal

pub returns-clause-done : goal.returns-clause-done
returns-clause-done g c = played_out c.args.begin _ c.play_lines.new.ingress _ _ _ c.play_lines.result c.in-Ok.ensures.begins c.in-Ok.ensures.handed c.play_lines.ensures.played

pub returns-clause-bad : goal.returns-clause-bad
returns-clause-bad g c = λ number stops.
    record { first = _; last = _; begins = c.in-Ok.ensures.begins; handed = c.in-Ok.ensures.handed; stops = c.play_lines.ensures.bad number stops }
