use Rattle.fc_lines.proofs.Reading.{no_text}
use Rattle.fc_lines.proofs.line.number.Goals as goal

pub returns-in_default : goal.returns-in_default
returns-in_default c = no_text _ _ (λ utf8. c.in_default.ensures.cases.0 utf8)
