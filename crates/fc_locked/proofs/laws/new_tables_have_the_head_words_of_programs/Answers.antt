use Rattle.fc_locked.proofs.NewTables.{first_table}
use Rattle.fc_locked.proofs.laws.new_tables_have_the_head_words_of_programs.Goals as goal

pub returns : goal.returns
returns c = first_table
