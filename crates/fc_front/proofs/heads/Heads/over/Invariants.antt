use Rattle.fc_store.specs.Stored.{stored_in}
use Rattle.fc_registry.specs.Restored.{restored_slot}
use Rattle.fc_front.specs.Heads.{first_word}
use Rattle.fc_front.proofs.Words.{AreFirstBelow}
use Rattle.fc_front.proofs.heads.Heads.over.Given as goal

abbrev pub invariant-loop-number : goal.invariant-loop-number
invariant-loop-number l = AreFirstBelow (λ n. first_word (restored_slot (stored_in l.stored n))) l.number l.heads
