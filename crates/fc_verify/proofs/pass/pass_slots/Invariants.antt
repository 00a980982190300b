use Rattle.fc_image.specs.Loops.{loops_in}
use Rattle.fc_verify.proofs.Passing.{Passing}
use Rattle.fc_verify.proofs.Levels.{AreLow}
use Rattle.fc_verify.proofs.Table.{Reaches}
use Rattle.fc_verify.proofs.pass.pass_slots.Given as goal

abbrev pub invariant-loop-slot : goal.invariant-loop-slot
invariant-loop-slot l = record {
  passing : Passing l.fn.version l.vars_size l.code (loops_in l.fn.version l.code) l.slot l.states;
  low : AreLow l.slot l.states;
  reach : Reaches (loops_in l.fn.version l.code) l.slot l.reach;
}
