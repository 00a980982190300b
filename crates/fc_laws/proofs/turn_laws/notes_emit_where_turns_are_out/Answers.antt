use Rattle.fc_laws.proofs.turns.Notices.{given_up_silent, lapsed_silent, noted_silent, sends_where_out}
use Rattle.fc_laws.proofs.turn_laws.notes_emit_where_turns_are_out.Goals as goal

pub returns-clause-where_out : goal.returns-clause-where_out
returns-clause-where_out c = sends_where_out

pub returns-clause-given_up : goal.returns-clause-given_up
returns-clause-given_up c = given_up_silent

pub returns-clause-once : goal.returns-clause-once
returns-clause-once c = noted_silent

pub returns-clause-lapsed : goal.returns-clause-lapsed
returns-clause-lapsed c = lapsed_silent
