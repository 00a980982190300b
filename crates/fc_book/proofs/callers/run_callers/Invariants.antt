use Rattle.fc_book.proofs.callers.run_callers.Given as goal

abbrev pub ghosts-run_callers_in : goal.ghosts-run_callers_in
ghosts-run_callers_in g a = record { table = a.new_book.words.shared.table_id }
