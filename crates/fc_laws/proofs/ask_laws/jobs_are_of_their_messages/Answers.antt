use Rattle.fc_laws.proofs.front.Asking.{confirmable_is, endpoint_is, exchange_is, id_is, program_slot_is, run_slot_is, token_is, turn_is}
use Rattle.fc_laws.proofs.ask_laws.jobs_are_of_their_messages.Goals as goal

pub returns-clause-endpoint : goal.returns-clause-endpoint
returns-clause-endpoint c = endpoint_is

pub returns-clause-id : goal.returns-clause-id
returns-clause-id c = id_is

pub returns-clause-token : goal.returns-clause-token
returns-clause-token c = token_is

pub returns-clause-run_slot : goal.returns-clause-run_slot
returns-clause-run_slot c = run_slot_is

pub returns-clause-program_slot : goal.returns-clause-program_slot
returns-clause-program_slot c = program_slot_is

pub returns-clause-exchange : goal.returns-clause-exchange
returns-clause-exchange c = exchange_is

pub returns-clause-confirmable : goal.returns-clause-confirmable
returns-clause-confirmable c = confirmable_is

pub returns-clause-turn : goal.returns-clause-turn
returns-clause-turn c = turn_is
