use Rattle.std.proofs.Common.{true}
use Rattle.fc_registry.proofs.Tickets.{given_is, sized_is}
use Rattle.fc_registry.proofs.slot.SlotState.find.Goals as goal

-- the snapshot of a slot with a program gives its ticket.
pub returns-in-Ok-clause-taken : goal.returns-in-Ok-clause-taken
returns-in-Ok-clause-taken c = (
  true,
  given_is c.args.job.now c.args.readings.now c.args.self.now.serial c.args.self.now.body c.in-Some.body c.in-Ok.program.value c.write.new.self
      c.in-Some.is c.in-Ok.ensures c.write.ensures,
)

-- the ticket has as many variables as the program.
pub returns-in-Ok-clause-size : goal.returns-in-Ok-clause-size
returns-in-Ok-clause-size c =
    sized_is c.args.job.now c.args.readings.now c.args.self.now.serial c.in-Some.body c.in-Ok.program.value c.write.new.self c.in-Ok.ensures c.write.ensures
