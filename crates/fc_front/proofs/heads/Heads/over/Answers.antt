use Rattle.fc_front.proofs.Words.{all_first, none_first}
use Rattle.fc_front.proofs.heads.Heads.over.Goals as goal

pub loop-number-init : goal.loop-number-init
loop-number-init c = none_first _ c.new-heads.result c.new-heads.ensures

pub returns : goal.returns
returns c = all_first _ c.loop-number.number c.loop-number.heads c.loop-number-test.false c.loop-number.invariant
