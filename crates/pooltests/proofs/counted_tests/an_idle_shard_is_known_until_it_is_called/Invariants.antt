use Rattle.std.specs.Prelude.{false}
use Rattle.fc_store.specs.Stored.{blank_slot}
use Rattle.fc_locked.specs.Naming.{names_of}
use Rattle.pooltests.proofs.counted_tests.an_idle_shard_is_known_until_it_is_called.Given as goal

abbrev pub ghosts-know : goal.ghosts-know
ghosts-know g a = record { names = names_of a.blanks; parts = a.blanks.parts; table = a.book.table; first_job = a.book.first_job; first = a.book.first; persistent = false; stored = λ n. blank_slot }
