use Rattle.std.proofs.Common.{◌≡◌, ◌∙◌, ◌∷◌, [], ℕ, Some, ap, refl}
use Rattle.fc_core.specs.AnswerLaws.{greatest}
use Rattle.fc_front.specs.Heads.{first_word, word_at_start}
use Rattle.fc_core.specs.History.{BeginsWith}
use Rattle.fc_kinds.specs.Meaning.{Program}
use Rattle.fc_laws.specs.StartLaws.{restored_at}
use Rattle.fc_registry.specs.Restored.{present_if, restored_slot}
use Rattle.fc_store.specs.Stored.{StoredProgram, StoredSlot}
use Rattle.fc_verify.specs.Accepted.{Accepts, Judgement}
use Rattle.fc_verify.specs.Judged.{judged}
use Rattle.fc_laws.proofs.words.Words.{word_is_greatest}
use Rattle.fc_laws.proofs.start_laws.first_words_are_of_serials.Goals as goal

word_of : (s : StoredProgram) (p : Program) → judged s.image ≡ Accepts p
    → first_word (restored_at 5 (Some s)) ≡ 11
word_of s p is = ap (λ (j : Judgement). word_at_start 5 (present_if j s)) is

-- the greatest of the words to which a start raised the head word of this slot.
abbrev first_of : StoredSlot → ℕ
first_of k = greatest (first_word (restored_slot k) ∷ [])

pub returns-clause-words : goal.returns-clause-words
returns-clause-words c = (refl, refl, refl)

pub returns-clause-program : goal.returns-clause-program
returns-clause-program c = λ s p version is. word_of s p is

pub returns-clause-empty : goal.returns-clause-empty
returns-clause-empty c = refl

pub returns-clause-history : goal.returns-clause-history
returns-clause-history c = λ stored id n policy s p lt is version judges.
    word_is_greatest (BeginsWith stored id policy) n lt
    ∙ (ap first_of is ∙ ap (λ (word : ℕ). greatest (word ∷ [])) (word_of s p judges))

pub returns-clause-empty_history : goal.returns-clause-empty_history
returns-clause-empty_history c = λ stored id n policy lt is.
    word_is_greatest (BeginsWith stored id policy) n lt ∙ ap first_of is
