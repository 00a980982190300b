use Rattle.fc_service.proofs.Played.{line_played}
use Rattle.fc_service.proofs.lines.play_line.Goals as goal

pub returns-in-Ok-flush-clause-played : goal.returns-in-Ok-flush-clause-played
returns-in-Ok-flush-clause-played g c =
    line_played g.N.LineIngress.hands g.N.Ingress.calls c.args.text.now c.in-Ok.line c.time.result c.args.ingress.now c.hand.new.ingress c.carry_out.new.ingress c.flush.new.ingress _ _ _
    c.in-Ok.ensures.line c.time.ensures c.hand.ensures c.in_default.ensures c.in-Ok-flush.ensures
