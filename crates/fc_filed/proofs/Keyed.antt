-- Each entry has a thread's key, and a job's key if its operation concerns a job (`IsKeyed`).
use Rattle.std.proofs.Common.{◌≡◌, ℕ, ◌<◌, ◌≤◌, Bool, true, false, List, [], ◌∷◌, ◌++◌, Option, Some, None, refl, inl, arith}
use Rattle.std.specs.Prelude.{if◌then◌else◌}
use Rattle.fc_book.specs.declared.view.Track.{Track}
use Rattle.fc_book.specs.declared.view.BookView.{BookView}
use Rattle.fc_book.specs.Tracks.{HasKey}
use Rattle.fc_calls.specs.Logged.{HandsSignal, AdvancesIdle, AdvancesShard, GivesTurn}
use Rattle.fc_linear.specs.Operations.{Operation, Logged, ServerPart, FrontPart, ShardPart, WordsPart, NoPart, IsOfServer, part_of}
use Rattle.fc_filed.specs.declared.entry.FiledEntry.{FiledEntry}
use Rattle.fc_store.specs.Recovery.{Save}
use Rattle.fc_filed.specs.Entries.{AreKeyed, IsKeyed, IsOfSavedSlot, also_key, entry_keys, is_of_job, part_key}
use Rattle.fc_filed.specs.Threads.{MayFile, entry_by, entry_with, key_of_first}

-- the index of a shard, or 0 for any other part.
abbrev pub index_in : ServerPart → ℕ
index_in (ShardPart index) = index
index_in other = 0

-- if the part is a shard, its index is below 8.
abbrev pub IsLow : ServerPart → Type 0
IsLow part = index_in part < 8

pub low_of : (operation : Operation) → IsOfServer operation → IsLow (part_of operation)
low_of (Logged (HandsSignal shard from id reset)) p = p
low_of (Logged (AdvancesIdle shard now)) p = p
low_of (Logged (AdvancesShard shard now ticked)) p = p
low_of (Logged (GivesTurn shard now turn)) p = p
low_of other p = omega arith

-- the key of a part's or a thread's track is less than the key of the first job's track.
pub part_below : (p : ServerPart) (who first_job : ℕ) → IsLow p → 10 ≤ who → who < first_job → part_key who p < first_job
part_below FrontPart who first_job low le lt = omega (arith, le, lt)
part_below (ShardPart i) who first_job low le lt = omega (arith, low, le, lt)
part_below WordsPart who first_job low le lt = lt
part_below NoPart who first_job low le lt = lt

pub part_of_keyed : (first_job : ℕ) (e : FiledEntry) → IsKeyed first_job e → part_key e.who (part_of e.operation) < first_job
part_of_keyed first_job e k = part_below (part_of e.operation) e.who first_job (low_of e.operation k.of_server) k.who.0 k.who.1

-- so is the key of the other part.
pub also_below : (part who first_job : ℕ) (save : Option Save) → part < first_job → 10 ≤ who → who < first_job → also_key part save < first_job
also_below part who first_job None low le lt = low
also_below part who first_job (Some save) low le lt = omega (arith, le, lt)

pub also_of_keyed : (first_job : ℕ) (e : FiledEntry) → IsKeyed first_job e → (entry_keys e).also < first_job
also_of_keyed first_job e k = also_below (part_key e.who (part_of e.operation)) e.who first_job e.save (part_of_keyed first_job e k) k.who.0 k.who.1

pub keyed_more : (first_job : ℕ) (log : List FiledEntry) (e : FiledEntry) → AreKeyed first_job log → IsKeyed first_job e → AreKeyed first_job (log ++ e ∷ [])
keyed_more first_job [] e a k = (k, tt)
keyed_more first_job (x ∷ xs) e a k = (a.0, keyed_more first_job xs e a.1 k)

-- ---- what a thread may file

has_first : (who : ℕ) (ts : List (Track FiledEntry)) → HasKey who ts → HasKey (key_of_first ts) ts
has_first who [] h = h
has_first who (t ∷ ts) h = inl refl

job_keyed : (first_job who first : ℕ) (b : Bool) → (b ≡ true → first_job ≤ first) → b ≡ true → first_job ≤ (if b then first else who)
job_keyed first_job who first true le is = le refl
job_keyed first_job who first false le is = absurd (cc is)

none_keyed : (who first : ℕ) (b : Bool) → b ≡ false → (if b then first else who) ≡ who
none_keyed who first true is = absurd (cc is)
none_keyed who first false is = refl

own_keyed : (who : ℕ) (b : Bool) (ts : List (Track FiledEntry)) → HasKey who ts → HasKey (if b then key_of_first ts else who) ts
own_keyed who true ts h = has_first who ts h
own_keyed who false ts h = h

module _ (first_job who : ℕ) (v : BookView FiledEntry) (operation : Operation) (m : MayFile first_job who v operation) where
  pub keyed_with : (save : Option Save) → IsOfSavedSlot save (part_of operation) → IsKeyed first_job (entry_with save who v operation)
  keyed_with save saved = record {
    who = m.thread.key;
    job = job_keyed first_job who (key_of_first v.own) (is_of_job operation) m.job;
    none = none_keyed who (key_of_first v.own) (is_of_job operation);
    of_server = m.of_server;
    saved = saved;
  }

  pub keyed_by : IsKeyed first_job (entry_by who v operation)
  keyed_by = keyed_with None tt

  pub has_job : HasKey (entry_by who v operation).job v.own
  has_job = own_keyed who (is_of_job operation) v.own m.thread.own
