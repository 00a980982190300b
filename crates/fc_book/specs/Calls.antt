-- The calls that this crate's book lists: their keys, and the call that no caller chose.
use Rattle.fc_book.specs.declared.entry.CallEntry.{CallEntry}
use Rattle.fc_book.specs.Tracks.{EntryKeys}

abbrev pub keys_of : CallEntry → EntryKeys
keys_of e = record { part = e.part; also = e.part; who = e.who; job = e.job }

abbrev pub no_entry : CallEntry
no_entry = record { part = 0; who = 0; job = 0; answer = 0 }
