use Rattle.fc_locked.specs.Naming.{names_of}
use Rattle.fc_pool.proofs.pool.run_pool.Given as goal

abbrev pub ghosts-run_named : goal.ghosts-run_named
ghosts-run_named g a = record { names = names_of a.blanks; parts = a.blanks.parts; table = a.book.table; first_job = a.book.first_job; first = a.book.first; persistent = g.K.Store.persistent; stored = g.K.Store.stored a.store }
