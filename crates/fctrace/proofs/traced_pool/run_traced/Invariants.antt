use Rattle.std.specs.Prelude.{true}
use Rattle.fc_locked.specs.Naming.{names_of}
use Rattle.fctrace.specs.contracts.refusing_store.RefusingStoreStore.TheImpl as refusing
use Rattle.fctrace.proofs.traced_pool.run_traced.Given as goal

abbrev pub ghosts-run_named : goal.ghosts-run_named
ghosts-run_named g a = record { names = names_of a.blanks; parts = a.blanks.parts; table = a.book.table; first_job = a.book.first_job; first = a.book.first; persistent = true; stored = refusing.ghosts.stored a.store }
