use Rattle.fc_laws.proofs.turns.Observing.{get_cancels, get_registers, other_slots_stay, others_call_nothing, registered_is_told}
use Rattle.fc_laws.proofs.observe_laws.commits_register_and_cancel.Goals as goal

pub returns-clause-registered : goal.returns-clause-registered
returns-clause-registered c = get_registers

pub returns-clause-told : goal.returns-clause-told
returns-clause-told c = registered_is_told

pub returns-clause-cancelled : goal.returns-clause-cancelled
returns-clause-cancelled c = get_cancels

pub returns-clause-others : goal.returns-clause-others
returns-clause-others c = others_call_nothing

pub returns-clause-elsewhere : goal.returns-clause-elsewhere
returns-clause-elsewhere c = other_slots_stay
