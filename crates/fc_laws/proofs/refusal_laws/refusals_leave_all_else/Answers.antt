use Rattle.fc_laws.proofs.front.RefusedCalls.{refused_call_left}
use Rattle.fc_laws.proofs.front.Unchanged.{blocks_left, refused_left, turned_down_left}
use Rattle.fc_laws.proofs.refusal_laws.refusals_leave_all_else.Goals as goal

pub returns-clause-turned_down : goal.returns-clause-turned_down
returns-clause-turned_down c = turned_down_left

pub returns-clause-refused_calls : goal.returns-clause-refused_calls
returns-clause-refused_calls c = refused_call_left

pub returns-clause-but_exchanges : goal.returns-clause-but_exchanges
returns-clause-but_exchanges c = refused_left

pub returns-clause-but_transfers : goal.returns-clause-but_transfers
returns-clause-but_transfers c r s m q b answer w block is = blocks_left c.blocks_leave_other_transfers.ensures r.event r.emitted s m q b answer w block is
