use Rattle.std.specs.Prelude.{false}
use Rattle.fc_store.specs.Stored.{blank_slot}
use Rattle.fc_locked.specs.Naming.{names_of}
use Rattle.pooltests.proofs.overtaking_tests.hold.Given as goal

abbrev pub ghosts-hold_named : goal.ghosts-hold_named
ghosts-hold_named g a = record { names = names_of a.blanks; parts = a.blanks.parts; table = a.book.table; first_job = a.book.first_job; first = a.book.first; persistent = false; stored = λ n. blank_slot }
