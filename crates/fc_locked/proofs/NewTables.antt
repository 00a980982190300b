-- The table of a book without entries has the server's first head words.
use Rattle.std.proofs.Common.{◌≡◌, ℕ, ◌+◌, List, [], Some, sym, ap, ◌∙◌, subst}
use Rattle.std.specs.Prelude.{slice_index}
use Rattle.std.proofs.lemmas.List.{get_or-drop}
use Rattle.fc_book.specs.declared.view.BookView.{BookView}
use Rattle.fc_kinds.specs.Meaning.{Program}
use Rattle.fc_verify.specs.Accepted.{Accepts, Judgement}
use Rattle.fc_verify.specs.Judged.{judged}
use Rattle.fc_store.specs.Stored.{StoredProgram, StoredSlot, StoredSlots}
use Rattle.fc_registry.specs.Restored.{present_if, restored_slot}
use Rattle.fc_front.specs.Heads.{first_word, word_at, word_at_start}
use Rattle.fc_front.specs.declared.policy.Policy.{Policy}
use Rattle.fc_server.specs.States.{ServerState, server_over}
use Rattle.fc_filed.specs.declared.book_begin.BookBegin.{BookBegin}
use Rattle.fc_filed.specs.declared.entry.FiledEntry.{FiledEntry}
use Rattle.fc_filed.specs.Books.{HaveServerHistory, heads_in}
use Rattle.fc_filed.specs.Entries.{ChangesWords, OperationsLead}

pub first_table : (start : BookBegin) (words : List ℕ) (views : List (BookView FiledEntry)) (history : HaveServerHistory start words views) (stored : StoredSlots) (id : ℕ) (policy : Policy) (k : StoredProgram) (p : Program)
    → history.log ≡ [] → start.first ≡ server_over stored id policy → judged k.image ≡ Accepts p → stored 13 ≡ record { serial = 5; program = Some k } → slice_index words 29 ≡ 11
first_table start words views history stored id policy k p none first accepted is =
    let same : heads_in words ≡ start.first.words = subst (λ (es : List FiledEntry). OperationsLead ChangesWords es start.first.words (heads_in words)) none history.heads in
    sym (get_or-drop 16 words 13 0)
    ∙ (ap (λ (ws : List ℕ). word_at ws 13) same
    ∙ (ap (λ (s : ServerState). word_at s.words 13) first
    ∙ (ap (λ (s : StoredSlot). first_word (restored_slot s)) is ∙ ap (λ (j : Judgement). word_at_start 5 (present_if j k)) accepted)))
