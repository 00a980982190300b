-- The entries that a thread files, by its tracks.
use Rattle.std.specs.Prelude.{◌≡◌, ℕ, ◌<◌, ◌≤◌, ◌==◌, Bool, true, false, if◌then◌else◌, List, [], ◌∷◌, Option, None, max}
use Rattle.fc_book.specs.declared.view.Track.{Track}
use Rattle.fc_book.specs.declared.view.BookView.{BookView}
use Rattle.fc_book.specs.Tracks.{HasKey, with_begun, with_filed}
use Rattle.fc_store.specs.Recovery.{Save}
use Rattle.fc_front.specs.declared.front.Handled.{Handled}
use Rattle.fc_front.specs.declared.front.Handled.TheVariants as hearing
use Rattle.fc_calls.specs.Logged.{LooksAt, RaisesWord, SkipsIdle}
use Rattle.fc_linear.specs.Operations.{IsOfServer, Logged, Operation}
use Rattle.fc_filed.specs.declared.entry.FiledEntry.{FiledEntry}
use Rattle.fc_filed.specs.Entries.{entry_keys, is_of_job}

-- the key of the first track.
abbrev pub key_of_first : List (Track FiledEntry) → ℕ
key_of_first [] = 0
key_of_first (t ∷ ts) = t.key

-- the entry of an operation of thread `who`, with this save. Its job is the one whose track is the
-- first of the thread's own; an operation of no job has the thread's key.
abbrev pub entry_with : Option Save → ℕ → BookView FiledEntry → Operation → FiledEntry
entry_with save who v operation = record { who = who; job = if is_of_job operation then key_of_first v.own else who; operation = operation; save = save }

-- the entry of an operation that saves nothing.
abbrev pub entry_by : ℕ → BookView FiledEntry → Operation → FiledEntry
entry_by who v operation = entry_with None who v operation

-- the thread's tracks after it has filed the operation with this save.
abbrev pub did_with : Option Save → ℕ → Operation → BookView FiledEntry → BookView FiledEntry
did_with save who operation v = with_filed entry_keys (entry_with save who v operation) v

-- the thread's tracks after it has filed an operation that saves nothing.
abbrev pub did_by : ℕ → Operation → BookView FiledEntry → BookView FiledEntry
did_by who operation v = did_with None who operation v

-- the tracks after the entry is filed, or isn't.
abbrev pub filed_if : Bool → FiledEntry → BookView FiledEntry → BookView FiledEntry
filed_if files e v = if files then with_filed entry_keys e v else v

-- the thread's tracks after a call that it has filed, or hasn't.
abbrev pub did_if : Bool → ℕ → Operation → BookView FiledEntry → BookView FiledEntry
did_if files who operation v = filed_if files (entry_by who v operation) v

-- the time of a skip; otherwise 0.
abbrev pub skip_time : Operation → ℕ
skip_time (Logged (SkipsIdle index now)) = now
skip_time other = 0

-- the thread has its own track.
pub record HasOwnTrack (first_job who : ℕ) (v : BookView FiledEntry) : Type 0 where
  pub key : (10 ≤ who) × (who < first_job)
  pub own : HasKey who v.own

-- the first of its own tracks is a job's.
abbrev pub HasJobFirst : ℕ → BookView FiledEntry → Type 0
HasJobFirst first_job v = first_job ≤ key_of_first v.own

-- the thread may file the operation: it has its own track, and an operation of a job needs the
-- job's track first.
pub record MayFile (first_job who : ℕ) (v : BookView FiledEntry) (operation : Operation) : Type 0 where
  pub thread : HasOwnTrack first_job who v
  pub job : is_of_job operation ≡ true → HasJobFirst first_job v
  pub of_server : IsOfServer operation

-- the track of a job begins if there is a job.
abbrev pub begun_if : Bool → BookView FiledEntry → BookView FiledEntry
begun_if brings v = if brings then with_begun v else v

abbrev pub brings_job : Handled → Bool
brings_job hearing.Job = true
brings_job other = false

-- ---- head words

abbrev pub entry_of_look : FiledEntry → ℕ → ℕ → FiledEntry
entry_of_look e slot found = record e { operation = Logged (LooksAt slot found) }

abbrev pub entry_of_raise : FiledEntry → ℕ → ℕ → FiledEntry
entry_of_raise e slot word = record e { operation = Logged (RaisesWord slot word) }

-- the word of a slot that the operation read, or to which it raised the slot's head word; otherwise
-- 0.
abbrev pub word_in : ℕ → Operation → ℕ
word_in slot (Logged (LooksAt n word)) = if n == slot then word else 0
word_in slot (Logged (RaisesWord n word)) = if n == slot then word else 0
word_in slot other = 0

-- the greatest such word in these entries, or 0.
abbrev pub greatest_word : ℕ → List FiledEntry → ℕ
greatest_word slot [] = 0
greatest_word slot (e ∷ es) = max (word_in slot e.operation) (greatest_word slot es)

-- the greatest word of a slot in the entries of these tracks, or 0. The owner of the tracks knows
-- this word.
abbrev pub known_word : ℕ → List (Track FiledEntry) → ℕ
known_word slot [] = 0
known_word slot (t ∷ ts) = max (greatest_word slot t.entries) (known_word slot ts)
