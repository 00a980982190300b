use Rattle.fc_lines.proofs.Reading.{none_uncut, rest_uncut}
use Rattle.fc_lines.proofs.line.fields.Goals as goal

pub returns-in_err-first : goal.returns-in_err-first
returns-in_err-first c = rw c.from_residual.ensures (none_uncut _ c.in_err-first.ensures)

pub returns-in_err-second : goal.returns-in_err-second
returns-in_err-second c =
    rw c.from_residual-in_err-second.ensures (rest_uncut _ _ _ c.in_ok-first.ensures.0 c.in_ok-first.ensures.1 c.in_err-second.ensures)
