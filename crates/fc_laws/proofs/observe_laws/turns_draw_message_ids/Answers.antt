use Rattle.fc_laws.proofs.front.DrawnIds.{turn_draws}
use Rattle.fc_laws.proofs.turns.Turning.{drawn_stage, undrawn_stage}
use Rattle.fc_laws.proofs.observe_laws.turns_draw_message_ids.Goals as goal

pub returns-clause-drawn : goal.returns-clause-drawn
returns-clause-drawn c = λ s k now id turn found o is free. drawn_stage s k now turn found o is id free

pub returns-clause-none : goal.returns-clause-none
returns-clause-none c = λ s k now turn found o is free. undrawn_stage s k now turn found o is free

pub returns-clause-draws : goal.returns-clause-draws
returns-clause-draws c = λ h k now id turn found o lt is free. turn_draws h k now id turn found o lt is free
