-- Two counters, with keys 0 and 1, and two threads that call them, with keys 2 and 3.
use Rattle.std.specs.Prelude.{◌≡◌, ℕ, ◌+◌, ◌%◌, ◌<◌, ◌≤◌, List, [], ◌∷◌, length}
use Rattle.fc_book.specs.declared.entry.CallEntry.{CallEntry}
use Rattle.fc_book.specs.declared.view.BookView.{BookView}
use Rattle.fc_book.specs.declared.callers.CallerResults.{CallerResults}
use Rattle.fc_book.specs.Calls.{keys_of}
use Rattle.fc_book.specs.Tracks.{HasKey, on, own_view, with_filed}

-- the call of a counter by a thread, for a job with the thread's key, with this number as the
-- result.
abbrev pub call_of : ℕ → ℕ → ℕ → CallEntry
call_of part who n = record { part = part; who = who; job = who; answer = n }

-- ---- a counter

-- each entry is a call of the counter by a thread. The results are the numbers from n on, in order.
abbrev pub AreCounted : ℕ → ℕ → List CallEntry → Type 0
AreCounted part n [] = Unit {0}
AreCounted part n (e ∷ es) = (e ≡ call_of part e.who n) × (2 ≤ e.who) × AreCounted part (n + 1) es

-- ---- a thread

-- the view has the thread's own track.
abbrev pub IsThread : ℕ → BookView CallEntry → Type 0
IsThread who v = HasKey who v.own

-- the view after a call is filed.
abbrev pub with_call : CallEntry → BookView CallEntry → BookView CallEntry
with_call e v = with_filed keys_of e v

-- the calls of a thread from its i-th call on, with these results. The i-th call is one of counter
-- i % 2.
abbrev pub calls_in_turn : ℕ → ℕ → List ℕ → List CallEntry
calls_in_turn who i [] = []
calls_in_turn who i (a ∷ answers) = call_of (i % 2) who a ∷ calls_in_turn who (i + 1) answers

-- the thread has made this many calls, of counters 0 and 1 alternately, with these results.
pub record HasMadeCalls (who calls : ℕ) (entries : List CallEntry) (answers : List ℕ) : Type 0 where
  pub entries_are : entries ≡ calls_in_turn who 0 answers
  pub count : length answers ≡ calls

-- the view has only the track of the thread, with these calls.
pub record IsCaller (who calls : ℕ) (v : BookView CallEntry) (answers : List ℕ) : Type 0 where
  pub entries : List CallEntry
  pub view : v ≡ own_view who entries
  pub called : HasMadeCalls who calls entries answers

-- ---- both

-- each entry is a call of counter 0 or 1 by thread 2 or 3.
abbrev pub AreTheirs : List CallEntry → Type 0
AreTheirs [] = Unit {0}
AreTheirs (e ∷ es) = (e.part < 2) × (2 ≤ e.who) × (e.who < 4) × AreTheirs es

-- there is one history, of calls of these counters by these threads alone. The calls of each
-- counter are numbered from 0 on, and are as many as the counter counted. The calls of each thread
-- are as many as the thread made, of the counters alternately, with the thread's results.
pub record HasOneHistory (calls : ℕ) (r : CallerResults) : Type 0 where
  pub log : List CallEntry
  pub theirs : AreTheirs log
  pub left : AreCounted 0 0 (on keys_of 0 log) × (r.left ≡ length (on keys_of 0 log))
  pub right : AreCounted 1 0 (on keys_of 1 log) × (r.right ≡ length (on keys_of 1 log))
  pub first : HasMadeCalls 2 calls (on keys_of 2 log) r.first.items
  pub second : HasMadeCalls 3 calls (on keys_of 3 log) r.second.items
