-- A thread's track has the thread's operations. The front's track has the front's, a shard's track
-- the shard's, and the store's track those with a save.
use Rattle.std.proofs.Common.{◌≡◌, ◌≢◌, ◌⊎◌, ℕ, ◌+◌, ◌<◌, ◌≤◌, Bool, true, false, if◌then◌else◌, List, [], ◌∷◌, Option, Some, None, is_some, refl, sym, ap, ◌∙◌, ⊎_elim, inl, inr, arith}
use Rattle.std.specs.Prelude.{◌==◌, ◌||◌}
use Rattle.std.specs.List.{All, filter}
use Rattle.std.proofs.lemmas.Bool.Decides.{nat_tests}
use Rattle.std.proofs.lemmas.List.Elements.{All-cons, All-nil}
use Rattle.fc_book.specs.Tracks.{is_on, on}
use Rattle.fc_linear.specs.Operations.{ServerPart, FrontPart, ShardPart, WordsPart, NoPart, is_front, is_shard, part_of}
use Rattle.fc_filed.specs.declared.entry.FiledEntry.{FiledEntry}
use Rattle.fc_store.specs.Recovery.{Save}
use Rattle.fc_filed.specs.Entries.{AreKeyed, IsKeyed, also_key, entries_by, entry_keys, front_entries, is_of_job, part_key, shard_entries, store_entries}
use Rattle.fc_filed.proofs.Closing.{job_low, on_front_track, on_shard_track, without_save}
use Rattle.fc_filed.proofs.Keyed.{IsLow, low_of}

unlike : (m n : ℕ) → m ≢ n → (m == n) ≡ false
unlike m n d = grind (d, arith, nat_tests)

-- a test that fails, or is this one.
or_same : (x b y : Bool) → (x ≡ false) ⊎ (x ≡ b) → (y ≡ false) ⊎ (y ≡ b) → (x || (b || y)) ≡ b
or_same true true y h k = refl
or_same false true y h k = refl
or_same true false y h k = absurd (⊎_elim (λ (e : true ≡ false). cc e) (λ (e : true ≡ false). cc e) h)
or_same false false true h k = absurd (⊎_elim (λ (e : true ≡ false). cc e) (λ (e : true ≡ false). cc e) k)
or_same false false false h k = refl

part_or_thread : (p : ServerPart) (who t : ℕ) → IsLow p → 10 ≤ t → ((part_key who p == t) ≡ false) ⊎ ((part_key who p == t) ≡ (who == t))
part_or_thread FrontPart who t low le = inl (unlike 0 t (λ e. absurd (omega (arith, e, le))))
part_or_thread (ShardPart i) who t low le = inl (unlike (i + 1) t (λ e. absurd (omega (arith, e, low, le))))
part_or_thread WordsPart who t low le = inr refl
part_or_thread NoPart who t low le = inr refl

module _ (first_job : ℕ) where
  job_or_thread : (e : FiledEntry) (t : ℕ) (b : Bool) → is_of_job e.operation ≡ b → IsKeyed first_job e → t < first_job → ((e.job == t) ≡ false) ⊎ ((e.job == t) ≡ (e.who == t))
  job_or_thread e t true is k lt = let high = k.job is in inl (unlike e.job t (λ z. absurd (omega (arith, z, high, lt))))
  job_or_thread e t false is k lt = inr (ap (λ (n : ℕ). n == t) (k.none is))

  by_thread : (t : ℕ) → 10 ≤ t → t < first_job → (e : FiledEntry) → IsKeyed first_job e → is_on entry_keys t e ≡ (e.who == t)
  by_thread t le lt e k =
      without_save (part_key e.who (part_of e.operation)) t e.save ((e.who == t) || (e.job == t)) (λ z. absurd (omega (arith, z, le)))
      ∙ or_same (part_key e.who (part_of e.operation) == t) (e.who == t) (e.job == t)
      (part_or_thread (part_of e.operation) e.who t (low_of e.operation k.of_server) le)
      (job_or_thread e t (is_of_job e.operation) refl k lt)

  part_apart : (p : ServerPart) (who : ℕ) → IsLow p → 10 ≤ who → (part_key who p == 9) ≡ false
  part_apart FrontPart who low le = refl
  part_apart (ShardPart i) who low le = unlike (i + 1) 9 (λ e. absurd (omega (arith, e, low)))
  part_apart WordsPart who low le = unlike who 9 (λ e. absurd (omega (arith, e, le)))
  part_apart NoPart who low le = unlike who 9 (λ e. absurd (omega (arith, e, le)))

  saved_by : (part who job : ℕ) (save : Option Save) → (part == 9) ≡ false → (who == 9) ≡ false → (job == 9) ≡ false → ((part == 9) || ((also_key part save == 9) || ((who == 9) || (job == 9)))) ≡ is_some save
  saved_by part who job None a b c = rw (a, b, c) refl
  saved_by part who job (Some save) a b c = rw a refl

  by_store : (e : FiledEntry) → IsKeyed first_job e → is_on entry_keys 9 e ≡ is_some e.save
  by_store e k =
      let who = k.who.0 in
      let job = job_low first_job e (is_of_job e.operation) refl k in
      saved_by (part_key e.who (part_of e.operation)) e.who e.job e.save (part_apart (part_of e.operation) e.who (low_of e.operation k.of_server) who)
      (unlike e.who 9 (λ z. absurd (omega (arith, z, who)))) (unlike e.job 9 (λ z. absurd (omega (arith, z, job))))

  same_filter : (p q : FiledEntry → Bool) (log : List FiledEntry) → AreKeyed first_job log → ((e : FiledEntry) → IsKeyed first_job e → p e ≡ q e) → filter p log ≡ filter q log
  same_filter p q [] k same = refl
  same_filter p q (e ∷ es) k same =
      let here = same e k.0 in
      let rest = same_filter p q es k.1 same in
      (λ i. if here i then e ∷ rest i else rest i)

  pub thread_track : (t : ℕ) (log : List FiledEntry) → 10 ≤ t → t < first_job → AreKeyed first_job log → on entry_keys t log ≡ entries_by t log
  thread_track t log le lt k = same_filter (is_on entry_keys t) (λ e. e.who == t) log k (by_thread t le lt)

  pub front_track : (log : List FiledEntry) → AreKeyed first_job log → on entry_keys 0 log ≡ front_entries log
  front_track log k = same_filter (is_on entry_keys 0) (λ e. is_front (part_of e.operation)) log k (λ e y. sym (on_front_track first_job e y))

  pub shard_track : (index : ℕ) → index < 8 → (log : List FiledEntry) → AreKeyed first_job log → on entry_keys (index + 1) log ≡ shard_entries index log
  shard_track index lt log k = same_filter (is_on entry_keys (index + 1)) (λ e. is_shard index (part_of e.operation)) log k (λ e y. sym (on_shard_track first_job index lt e y))

  pub store_track : (log : List FiledEntry) → AreKeyed first_job log → on entry_keys 9 log ≡ store_entries log
  store_track log k = same_filter (is_on entry_keys 9) (λ e. is_some e.save) log k by_store

  pub all_keyed : (log : List FiledEntry) → AreKeyed first_job log → All (λ (e : FiledEntry). IsKeyed first_job e) log
  all_keyed [] k = All-nil (λ (x : FiledEntry). IsKeyed first_job x)
  all_keyed (e ∷ es) k = All-cons (λ (x : FiledEntry). IsKeyed first_job x) e es k.0 (all_keyed es k.1)
