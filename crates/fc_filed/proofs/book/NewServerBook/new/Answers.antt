use Rattle.std.proofs.Common.{◌∙◌}
use Rattle.fc_filed.proofs.Rule.{opens_book}
use Rattle.fc_filed.proofs.book.NewServerBook.new.Goals as goal

pub of_words-requires : goal.of_words-requires
of_words-requires c = opens_book _ _ c.table_words-table.ensures.size (c.table_words-table.ensures.heads ∙ c.heads.ensures.words) c.table_words-table.ensures.idle
