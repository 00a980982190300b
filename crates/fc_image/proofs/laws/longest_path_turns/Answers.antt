use Rattle.fc_image.specs.Loops.{loops_of}
use Rattle.fc_image.proofs.Attained.{longest_in}
use Rattle.fc_image.proofs.LoopLaws.{bodies}
use Rattle.fc_image.proofs.laws.longest_path_turns.Goals as goal

pub returns : goal.returns
returns c allowed code some p s = longest_in code (loops_of allowed code) some (bodies allowed code p s)
