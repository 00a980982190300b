use Rattle.fc_image.proofs.Leaving.{left, undisturbed}
use Rattle.fc_image.proofs.laws.loops_are_left_as_they_are.Goals as goal

pub returns : goal.returns
returns c l k insn = (left l k insn, undisturbed l k insn)
