-- Entries of a server's history: their keys, their log, and their effects on parts. The law of
-- fc_linear applies to the log.
use Rattle.std.specs.Prelude.{◌≡◌, ℕ, ◌+◌, ◌-◌, ◌%◌, ◌<◌, ◌≤◌, ◌==◌, ◌||◌, Bool, true, false, List, [], ◌∷◌, map, Option, Some, None, is_some}
use Rattle.std.specs.List.{filter}
use Rattle.fc_book.specs.Tracks.{EntryKeys}
use Rattle.fc_store.specs.Recovery.{Save}
use Rattle.fc_linear.specs.Operations.{LogEntry, Operation, ServerPart, FrontPart, ShardPart, WordsPart, NoPart, IsOfServer, WordsDo, is_for_job, is_front, is_shard, is_words, job_brought, part_of}
use Rattle.fc_filed.specs.declared.entry.FiledEntry.{FiledEntry}
use Rattle.fc_filed.specs.Blank.{no_operation}

-- ---- keys

-- the key of a part: the front's is 0, and shard i's i + 1. An operation of no locked part is on
-- the track of its thread.
abbrev pub part_key : ℕ → ServerPart → ℕ
part_key who FrontPart = 0
part_key who (ShardPart index) = index + 1
part_key who WordsPart = who
part_key who NoPart = who

-- the key of the other part: an entry with a save is on the store's track too, which has key 9.
abbrev pub also_key : ℕ → Option Save → ℕ
also_key part None = part
also_key part (Some save) = 9

abbrev pub entry_keys : FiledEntry → EntryKeys
entry_keys e = let part = part_key e.who (part_of e.operation) in record { part = part; also = also_key part e.save; who = e.who; job = e.job }

-- the operation is for a job that came before, or produces one.
abbrev pub is_of_job : Operation → Bool
is_of_job operation = is_for_job operation || is_some (job_brought operation)

-- an entry with a save is of the shard that owns the saved slot.
abbrev pub IsOfSavedSlot : Option Save → ServerPart → Type 0
IsOfSavedSlot None part = Unit {0}
IsOfSavedSlot (Some save) part = part ≡ ShardPart (save.update.slot % 8)

-- keys 0 to 9 belong to parts, the other keys below the first job's to threads, and all further
-- keys to jobs. An operation of no job has the key of its thread.
pub record IsKeyed (first_job : ℕ) (e : FiledEntry) : Type 0 where
  pub who : (10 ≤ e.who) × (e.who < first_job)
  pub job : is_of_job e.operation ≡ true → first_job ≤ e.job
  pub none : is_of_job e.operation ≡ false → e.job ≡ e.who
  pub of_server : IsOfServer e.operation
  pub saved : IsOfSavedSlot e.save (part_of e.operation)

abbrev pub AreKeyed : ℕ → List FiledEntry → Type 0
AreKeyed first_job [] = Unit {0}
AreKeyed first_job (e ∷ es) = IsKeyed first_job e × AreKeyed first_job es

abbrev pub blank_entry : FiledEntry
blank_entry = record { who = 0; job = 0; operation = no_operation; save = None }

-- ---- the operations of a thread, of the front, of a shard, of the store and of the head words, in
-- order

abbrev pub entries_by : ℕ → List FiledEntry → List FiledEntry
entries_by who log = filter (λ e. e.who == who) log

abbrev pub front_entries : List FiledEntry → List FiledEntry
front_entries log = filter (λ e. is_front (part_of e.operation)) log

abbrev pub shard_entries : ℕ → List FiledEntry → List FiledEntry
shard_entries index log = filter (λ e. is_shard index (part_of e.operation)) log

abbrev pub store_entries : List FiledEntry → List FiledEntry
store_entries log = filter (λ e. is_some e.save) log

abbrev pub word_entries : List FiledEntry → List FiledEntry
word_entries log = filter (λ e. is_words (part_of e.operation)) log

-- ---- the log of the entries, whose jobs have the numbers from 0 up; `first_job` is the key of the
-- first job that was brought

abbrev pub log_entry : ℕ → FiledEntry → LogEntry
log_entry first_job e = record { job = e.job - first_job; operation = e.operation }

abbrev pub log_of : ℕ → List FiledEntry → List LogEntry
log_of first_job log = map (log_entry first_job) log

-- ---- their effects on a part

-- the entries, in order, lead a part from one state to another.
abbrev pub EntriesLead : {S : Type 0} → (FiledEntry → S → S → Type 0) → List FiledEntry → S → S → Type 0
EntriesLead Does [] x y = y ≡ x
EntriesLead {S} Does (e ∷ es) x y = (m : S) × Does e x m × EntriesLead Does es m y

-- the operations, in order, lead a part from one state to another.
abbrev pub OperationsLead : {S : Type 0} → (Operation → S → S → Type 0) → List FiledEntry → S → S → Type 0
OperationsLead Does [] x y = y ≡ x
OperationsLead {S} Does (e ∷ es) x y = (m : S) × Does e.operation x m × OperationsLead Does es m y

-- an operation of the head words has its effect on them, and any other leaves them unchanged.
abbrev pub WordsDoIf : Bool → Operation → List ℕ → List ℕ → Type 0
WordsDoIf true operation ws vs = WordsDo operation ws vs
WordsDoIf false operation ws vs = vs ≡ ws

abbrev pub ChangesWords : Operation → List ℕ → List ℕ → Type 0
ChangesWords operation ws vs = WordsDoIf (is_words (part_of operation)) operation ws vs
