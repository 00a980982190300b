use Rattle.std.proofs.Common.{◌∙◌}
use Rattle.fcd.proofs.stored_slots.Goals as goal

-- a start finds the slots of some rows that the file may leave. They are the stored ones.
pub restored-requires-clause-settled : goal.restored-requires-clause-settled
restored-requires-clause-settled c = λ clean found may n below. may.2 n below ∙ c.in-Ok.ensures.settled clean may.0 may.1 n below
