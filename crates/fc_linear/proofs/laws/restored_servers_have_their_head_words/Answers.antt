use Rattle.std.proofs.Common.{refl, ap, ◌∙◌}
use Rattle.fc_verify.specs.Accepted.{Judgement}
use Rattle.fc_registry.specs.Restored.{present_if, restored_slot}
use Rattle.fc_front.specs.Heads.{first_word, word_at_start}
use Rattle.fc_store.specs.Stored.{StoredSlot}
use Rattle.fc_linear.proofs.laws.restored_servers_have_their_head_words.Goals as goal

pub returns-clause-program : goal.returns-clause-program
returns-clause-program c = λ stored id policy k p accepted is. ap (λ (s : StoredSlot). first_word (restored_slot s)) is ∙ ap (λ (j : Judgement). word_at_start 5 (present_if j k)) accepted

pub returns-clause-empty : goal.returns-clause-empty
returns-clause-empty c = λ stored id policy is. ap (λ (s : StoredSlot). first_word (restored_slot s)) is

pub returns-clause-blank : goal.returns-clause-blank
returns-clause-blank c = λ stored id policy is. ap (λ (s : StoredSlot). first_word (restored_slot s)) is

pub returns-clause-slot : goal.returns-clause-slot
returns-clause-slot c = λ stored id policy. refl
