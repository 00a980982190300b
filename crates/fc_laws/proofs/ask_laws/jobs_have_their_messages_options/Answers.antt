use Rattle.fc_laws.proofs.front.Asking.{block1_is, block2_is, cancels, etags_are, no_block_is, observe_is, registers}
use Rattle.fc_laws.proofs.ask_laws.jobs_have_their_messages_options.Goals as goal

pub returns-clause-block2 : goal.returns-clause-block2
returns-clause-block2 c = block2_is

pub returns-clause-block1 : goal.returns-clause-block1
returns-clause-block1 c = block1_is

pub returns-clause-no_block : goal.returns-clause-no_block
returns-clause-no_block c = no_block_is

pub returns-clause-observe : goal.returns-clause-observe
returns-clause-observe c = observe_is

pub returns-clause-etags : goal.returns-clause-etags
returns-clause-etags c = etags_are

pub returns-clause-registration : goal.returns-clause-registration
returns-clause-registration c = registers

pub returns-clause-cancellation : goal.returns-clause-cancellation
returns-clause-cancellation c = cancels
