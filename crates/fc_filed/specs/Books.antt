-- The rule of a server's book, and the book's attested history. The words of the book's table are
-- eight words of padding, the idle words of eight shards, and the head words.
use Rattle.std.specs.Prelude.{◌≡◌, ℕ, ◌+◌, ◌<◌, ◌≤◌, List, [], ◌∷◌, drop, length}
use lib.ListN.{get_elem?}
use mathlib.Core.Option.{some}
use Rattle.atomic_table.specs.Seated.{TableId}
use Rattle.fc_book.specs.declared.view.Track.{Track}
use Rattle.fc_book.specs.declared.view.BookView.{BookView}
use Rattle.fc_book.specs.Tracks.{AreViewsOf, HasKey, IsViewOf, on}
use Rattle.fc_server.specs.States.{ServerState}
use Rattle.fc_linear.specs.Parts.{BringsItsJob}
use Rattle.fc_filed.specs.declared.entry.FiledEntry.{FiledEntry}
use Rattle.fc_filed.specs.declared.book_begin.BookBegin.{BookBegin}
use Rattle.fc_filed.specs.Entries.{AreKeyed, ChangesWords, OperationsLead, entry_keys, log_of}
use Rattle.fc_filed.specs.Idle.{AreIdleWords, AreSkipsIdle}

-- a book, as contracts see it: its table, the first key of a job's track, and the server's first
-- state.
pub record SeenBook : Type 0 where
  pub table : TableId
  pub first_job : ℕ
  pub first : ServerState

-- the table's words after the first sixteen, which are padding and idle words: the head words of
-- slots 0 to 63.
abbrev pub heads_in : List ℕ → List ℕ
heads_in words = drop 16 words

-- a track is right for its job: the first entry produces the job, and the others follow its stages.
abbrev pub IsRightForJob : ℕ → List FiledEntry → Type 0
IsRightForJob first_job entries = BringsItsJob (log_of first_job entries)

-- ---- jobs that no thread has

-- the view has a thread's track among its own.
abbrev pub HasThread : ℕ → BookView FiledEntry → Type 0
HasThread first_job v = (t : ℕ) × ((10 ≤ t) × ((t < first_job) × HasKey t v.own))

-- some view has both the track with key k and a thread's track.
abbrev pub IsWithThread : ℕ → List (BookView FiledEntry) → ℕ → Type 0
IsWithThread first_job views k = (i : ℕ) × ((v : BookView FiledEntry) × ((get_elem? views i ≡ some v) × (HasThread first_job v × HasKey k v.own)))

-- a job's track is right for its job if no view has it together with a thread's track. The track of
-- a lost message is an example.
abbrev pub AreSent : ℕ → List FiledEntry → List (BookView FiledEntry) → Type 0
AreSent first_job log views = (k : ℕ) → first_job ≤ k → (IsWithThread first_job views k → ⊥) → IsRightForJob first_job (on entry_keys k log)

-- if there is a first track, it is a job's, and right for the job.
abbrev pub IsFirstSent : ℕ → List (Track FiledEntry) → Type 0
IsFirstSent first_job [] = Unit {0}
IsFirstSent first_job (t ∷ ts) = (first_job ≤ t.key) × IsRightForJob first_job t.entries

-- ---- the rule

-- there is one history, each view is a view of it, and no two views have the same track. The
-- history's operations of the head words lead these from the server's first words to the table's.
-- The idle words are right after the history, and each shard that was skipped was idle. The keys of
-- each entry are right (`IsKeyed`). A job's track that no thread has is right for its job.
pub record HaveServerHistory (start : BookBegin) (words : List ℕ) (views : List (BookView FiledEntry)) : Type 0 where
  pub log : List FiledEntry
  pub views_of : AreViewsOf entry_keys log views
  pub size : length words ≡ 80
  pub heads : OperationsLead ChangesWords log start.first.words (heads_in words)
  pub idle : AreIdleWords start.first log words
  pub skips : AreSkipsIdle start.first log
  pub keyed : AreKeyed start.first_job log
  pub sent : AreSent start.first_job log views

-- the view is a view of such a history. If the view has the tracks of all threads, each job's track
-- that the view doesn't have is right for that job.
pub record HasServerHistory (first_job : ℕ) (first : ServerState) (v : BookView FiledEntry) : Type 0 where
  pub log : List FiledEntry
  pub is : IsViewOf entry_keys log v
  pub words : List ℕ
  pub heads : OperationsLead ChangesWords log first.words words
  pub skips : AreSkipsIdle first log
  pub keyed : AreKeyed first_job log
  pub sent : ((t : ℕ) → 10 ≤ t → t < first_job → HasKey t v.own) → (k : ℕ) → first_job ≤ k → (HasKey k v.own → ⊥) → IsRightForJob first_job (on entry_keys k log)
