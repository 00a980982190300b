use Rattle.fc_book.proofs.book.Tracks.file.Given as goal

abbrev pub ghosts-file_as : goal.ghosts-file_as
ghosts-file_as g a = record { entry = a.entry.now }
