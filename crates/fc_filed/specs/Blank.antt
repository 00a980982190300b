-- Placeholders, for a name that no call chooses.
use Rattle.std.specs.Prelude.{[], Option, None}
use Rattle.fc_store.specs.declared.store.ProgramUpdate.TheVariants.{Remove}
use Rattle.fc_store.specs.declared.store.SlotUpdate.{SlotUpdate}
use Rattle.fc_store.specs.Recovery.{Save}
use Rattle.fc_front.specs.Exchanges.{first_front}
use Rattle.fc_front.specs.Policies.{default_policy}
use Rattle.fc_server.specs.States.{ServerState}
use Rattle.fc_calls.specs.Logged.{GivesReadings}
use Rattle.fc_linear.specs.Operations.{Operation, Logged}
use Rattle.fc_filed.specs.declared.entry.FiledOperation.TheInside.{Inside}
use Rattle.fc_filed.specs.declared.entry.FiledSave.TheInside as saves

abbrev pub no_operation : Operation
no_operation = Logged (GivesReadings [])

abbrev pub any_operation : Inside → Operation
any_operation o = no_operation

abbrev pub no_save : saves.Inside → Option Save
no_save s = None

abbrev pub no_update : SlotUpdate
no_update = record { slot = 0; serial = 0; program = Remove }

abbrev pub some_server : ServerState
some_server = record { front = first_front default_policy 0; shards = []; words = [] }
