use Rattle.std.proofs.Common.{◌+◌, ap, set, refl, ◌∙◌}
use Rattle.fc_front.specs.Heads.{word_at}
use Rattle.fc_filed.proofs.TableWords.{all_written, none_written, one_written}
use Rattle.fc_filed.proofs.steps.table_words.Goals as goal

pub loop-slot-init : goal.loop-slot-init
loop-slot-init c = none_written _ _ refl

pub loop-slot-preserved : goal.loop-slot-preserved
loop-slot-preserved c =
    let word = c.peek.ensures ∙ ap (λ n. word_at c.args.heads.now n) c.new.ensures in
    one_written c.args.heads.now c.loop-slot.slot c.loop-slot.words _ c.loop-slot-test.true c.loop-slot.invariant (λ i. set c.loop-slot.words (16 + c.from.ensures i) (word i))

pub returns-clause-size : goal.returns-clause-size
returns-clause-size c = c.loop-slot.invariant.size

pub returns-clause-idle : goal.returns-clause-idle
returns-clause-idle c = c.loop-slot.invariant.idle

pub returns-clause-heads : goal.returns-clause-heads
returns-clause-heads c = all_written _ c.loop-slot.slot c.loop-slot.words c.loop-slot-test.false c.requires c.loop-slot.invariant
