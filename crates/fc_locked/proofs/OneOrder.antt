-- The tracks of all threads of a closed server are one order of their calls.
use Rattle.std.proofs.Common.{◌≡◌, ◌≢◌, ℕ, Bool, zero, suc, ◌+◌, ◌<◌, ◌≤◌, List, [], ◌∷◌, add-zero, length, map, refl, sym, ◌∙◌, subst, ⊎_elim, inl, inr, arith, zero-add}
use Rattle.std.specs.Prelude.{slice_index_or}
use Rattle.std.specs.List.{All, Any}
use Rattle.std.proofs.lemmas.List.{length-map}
use Rattle.std.proofs.lemmas.List.Elements.{All-cons, All-head, All-nil, All-tail, All-weaker}
use Rattle.fc_book.specs.declared.view.BookView.{BookView}
use Rattle.fc_book.specs.declared.view.Track.{Track}
use Rattle.fc_book.specs.Tracks.{AreOn, AreSingle, HasKey, on}
use Rattle.fc_book.proofs.Keys.{has-append}
use Rattle.fc_book.proofs.Numbers.{AreApart, AreBetween, HasNumber, all_among}
use Rattle.fc_book.proofs.Owners.{entries_at_key, has_left, has_right, on_both, single_apart, single_rest}
use Rattle.fc_front.specs.Exchanges.{FrontState}
use Rattle.fc_registry.specs.Shards.{shard_at}
use Rattle.fc_registry.specs.Slots.{Shard}
use Rattle.fc_server.specs.States.{ServerState}
use Rattle.fc_store.specs.declared.store.Store.{Ghosts}
use Rattle.fc_store.specs.Stored.{StoredSlots}
use Rattle.fc_linear.specs.Operations.{FrontDoes}
use Rattle.fc_filed.specs.declared.entry.FiledEntry.{FiledEntry}
use Rattle.fc_filed.specs.Books.{HasServerHistory, IsRightForJob}
use Rattle.fc_filed.specs.Entries.{AreKeyed, EntriesLead, IsKeyed, OperationsLead, entries_by, entry_keys, shard_entries}
use Rattle.fc_filed.specs.Saves.{IsOpened, ShardSteps, StoreSteps}
use Rattle.fc_filed.specs.Threads.{HasOwnTrack}
use Rattle.fc_filed.specs.Tracked.{IsPartClosed}
use Rattle.fc_filed.proofs.ByThread.{all_keyed, front_track, shard_track, store_track, thread_track}
use Rattle.fc_filed.proofs.Shards.{shard_led}
use Rattle.fc_locked.specs.declared.closed.ClosedServer.{ClosedServer}
use Rattle.fc_backend.specs.Logs.{TrackedLog}
use Rattle.fc_backend.specs.RightTracks.{filed_in}
use Rattle.fc_locked.specs.OneOrder.{HasTracksOf, HaveSavedOneOrder}
use Rattle.fc_locked.proofs.Merged.{tracks_in}

abbrev threads_of : List TrackedLog → List ℕ
threads_of logs = map (λ (log : TrackedLog). log.who) logs

-- ---- the parts

-- a closed part's track is that of its entries in the list, which led the part.
module _ (calls : List FiledEntry) where
  part_led : {S : Type 0} (Lead : List FiledEntry → S → S → Type 0) (k : ℕ) (x y : S) (v w : BookView FiledEntry) → IsPartClosed Lead k x y v w → AreOn entry_keys calls w.own
      → Lead (on entry_keys k calls) x y × AreOn entry_keys calls v.own
  part_led Lead k x y v w c a =
      let b = subst (λ (u : BookView FiledEntry). AreOn entry_keys calls u.own) c.closed a in
      (subst (λ (es : List FiledEntry). Lead es x y) b.0 c.led, b.1)

part_apart : {S : Type 0} (Lead : List FiledEntry → S → S → Type 0) (k : ℕ) (x y : S) (v w : BookView FiledEntry) → IsPartClosed Lead k x y v w → AreSingle w.own → AreSingle v.own
part_apart Lead k x y v w c a = let b = subst (λ (u : BookView FiledEntry). AreSingle u.own) c.closed a in b.1

-- shards are closed one after the other, from the one with this index on.
module _ (persistent : Bool) (firsts : List Shard) where
  abbrev Leads : List FiledEntry → Shard → Shard → Type 0
  Leads es x y = EntriesLead (ShardSteps persistent) es x y

  abbrev pub AreShardsClosed : ℕ → List Shard → BookView FiledEntry → BookView FiledEntry → Type 0
  AreShardsClosed i [] v w = w ≡ v
  AreShardsClosed i (s ∷ ss) v w = (m : BookView FiledEntry) × IsPartClosed (EntriesLead (ShardSteps persistent)) (i + 1) (shard_at firsts i) s v m × AreShardsClosed (suc i) ss m w

  shards_apart : (i : ℕ) (shards : List Shard) (v w : BookView FiledEntry) → AreShardsClosed i shards v w → AreSingle w.own → AreSingle v.own
  shards_apart i [] v w is a = subst (λ (u : BookView FiledEntry). AreSingle u.own) is a
  shards_apart i (s ∷ ss) v w (m, c, rest) a = part_apart Leads (i + 1) (shard_at firsts i) s v m c (shards_apart (suc i) ss m w rest a)

  module _ (calls : List FiledEntry) where
    abbrev IsLed : ℕ → Shard → Type 0
    IsLed i shard = Leads (on entry_keys (i + 1) calls) (shard_at firsts i) shard

    shards_led : (i : ℕ) (shards : List Shard) (v w : BookView FiledEntry) → AreShardsClosed i shards v w → AreOn entry_keys calls w.own
        → AreOn entry_keys calls v.own × ((j : ℕ) → j < length shards → IsLed (i + j) (shard_at shards j))
    shards_led i [] v w is a = (subst (λ (u : BookView FiledEntry). AreOn entry_keys calls u.own) is a, λ j lt. absurd (omega (arith, lt)))
    shards_led i (s ∷ ss) v w (m, c, rest) a =
        let later = shards_led (suc i) ss m w rest a in
        let here = part_led calls Leads (i + 1) (shard_at firsts i) s v m c later.0 in
        (here.1, at here.0 later.1)
      where
        at : IsLed i s → ((j : ℕ) → j < length ss → IsLed (suc i + j) (shard_at ss j)) → (j : ℕ) → j < length (s ∷ ss) → IsLed (i + j) (shard_at (s ∷ ss) j)
        at first others zero lt = subst (λ (k : ℕ). IsLed k s) (sym (add-zero i)) first
        at first others (suc j) lt = subst (λ (k : ℕ). IsLed k (shard_at ss j)) (omega arith) (others j (omega (arith, lt)))

-- ---- the keys of the owner's tracks

key_stays : {S : Type 0} (Lead : List FiledEntry → S → S → Type 0) (key j : ℕ) (x y : S) (v w : BookView FiledEntry) → IsPartClosed Lead key x y v w → HasKey j v.own → HasKey j w.own
key_stays Lead key j x y v w c h = subst (λ (u : BookView FiledEntry). HasKey j u.own) (sym c.closed) (inr h)

key_back : {S : Type 0} (Lead : List FiledEntry → S → S → Type 0) (key j : ℕ) (x y : S) (v w : BookView FiledEntry) → IsPartClosed Lead key x y v w → (key ≡ j → ⊥) → HasKey j w.own → HasKey j v.own
key_back Lead key j x y v w c other h = ⊎_elim (λ (e : key ≡ j). absurd (other e)) (λ (z : HasKey j v.own). z) (subst (λ (u : BookView FiledEntry). HasKey j u.own) c.closed h)

module _ (persistent : Bool) (firsts : List Shard) (j : ℕ) where
  keys_stay : (i : ℕ) (shards : List Shard) (v w : BookView FiledEntry) → AreShardsClosed persistent firsts i shards v w → HasKey j v.own → HasKey j w.own
  keys_stay i [] v w is h = subst (λ (u : BookView FiledEntry). HasKey j u.own) (sym is) h
  keys_stay i (s ∷ ss) v w (m, c, rest) h = keys_stay (suc i) ss m w rest (key_stays (Leads persistent firsts) (i + 1) j (shard_at firsts i) s v m c h)

  keys_back : (i : ℕ) (shards : List Shard) (v w : BookView FiledEntry) → AreShardsClosed persistent firsts i shards v w → i + length shards < j → HasKey j w.own → HasKey j v.own
  keys_back i [] v w is lt h = subst (λ (u : BookView FiledEntry). HasKey j u.own) is h
  keys_back i (s ∷ ss) v w (m, c, rest) lt h = key_back (Leads persistent firsts) (i + 1) j (shard_at firsts i) s v m c (λ e. absurd (omega (arith, e, lt))) (keys_back (suc i) ss m w rest (omega (arith, lt)) h)

-- ---- the threads

any_log : (k : ℕ) (logs : List TrackedLog) → HasNumber k (threads_of logs) → Any (λ (log : TrackedLog). log.who ≡ k) logs
any_log k [] h = absurd h
any_log k (l ∷ ls) (inl e) = (0, l, omega arith, refl, e)
any_log k (l ∷ ls) (inr h) = let a = any_log k ls h in (suc a.0, a.1, (let lt = a.2 in omega (arith, lt)), a.3, a.4)

number_at : (logs : List TrackedLog) (j : ℕ) (d : TrackedLog) → j < length logs → HasNumber (slice_index_or logs j d).who (threads_of logs)
number_at [] j d lt = absurd (omega (arith, lt))
number_at (l ∷ ls) zero d lt = inl refl
number_at (l ∷ ls) (suc j) d lt = inr (number_at ls j d (omega (arith, lt)))

apart_at : (logs : List TrackedLog) → AreApart (threads_of logs) → (i j : ℕ) (d : TrackedLog) → i < j → j < length logs → (slice_index_or logs i d).who ≢ (slice_index_or logs j d).who
apart_at [] s i j d lt end e = absurd (omega (arith, end))
apart_at (l ∷ ls) s i zero d lt end e = absurd (omega (arith, lt))
apart_at (l ∷ ls) s zero (suc j) d lt end e = s.0 (subst (λ (k : ℕ). HasNumber k (threads_of ls)) (sym e) (number_at ls j d (omega (arith, end))))
apart_at (l ∷ ls) s (suc i) (suc j) d lt end e = apart_at ls s.1 i j d (omega (arith, lt)) (omega (arith, end)) e

module _ (first_job : ℕ) where
  abbrev HasOwn : TrackedLog → Type 0
  HasOwn log = HasOwnTrack first_job log.who log.tracks

  key_in : (k : ℕ) (logs : List TrackedLog) → All HasOwn logs → HasNumber k (threads_of logs) → HasKey k (tracks_in logs)
  key_in k [] own h = h
  key_in k (l ∷ ls) own (inl e) = has_left k l.tracks.own (tracks_in ls) (subst (λ (j : ℕ). HasKey j l.tracks.own) e (All-head HasOwn l ls own).own)
  key_in k (l ∷ ls) own (inr h) = has_right k l.tracks.own (tracks_in ls) (key_in k ls (All-tail HasOwn l ls own) h)

  apart : (logs : List TrackedLog) → All HasOwn logs → AreSingle (tracks_in logs) → AreApart (threads_of logs)
  apart [] own s = tt
  apart (l ∷ ls) own s =
      let rest = All-tail HasOwn l ls own in (
        λ h. single_apart l.who l.tracks.own (tracks_in ls) s (All-head HasOwn l ls own).own (key_in l.who ls rest h),
        apart ls rest (single_rest l.tracks.own (tracks_in ls) s),
      )

  between : (logs : List TrackedLog) → All HasOwn logs → AreBetween 10 first_job (threads_of logs)
  between [] own = tt
  between (l ∷ ls) own = let key = (All-head HasOwn l ls own).key in (key.0, key.1, between ls (All-tail HasOwn l ls own))

  -- ---- the calls

  own_calls : (calls : List FiledEntry) (logs : List TrackedLog) → AreKeyed first_job calls → All HasOwn logs → AreOn entry_keys calls (tracks_in logs) → All (λ (log : TrackedLog). filed_in log ≡ entries_by log.who calls) logs
  own_calls calls [] keyed own on = All-nil (λ (log : TrackedLog). filed_in log ≡ entries_by log.who calls)
  own_calls calls (l ∷ ls) keyed own on =
      let here = All-head HasOwn l ls own in
      let both = on_both entry_keys calls l.tracks.own (tracks_in ls) on in
      All-cons (λ (log : TrackedLog). filed_in log ≡ entries_by log.who calls) l ls
      (entries_at_key entry_keys l.who calls l.tracks.own both.0 here.own ∙ thread_track first_job l.who calls here.key.0 here.key.1 keyed)
      (own_calls calls ls keyed (All-tail HasOwn l ls own) both.1)

  by_threads : (calls : List FiledEntry) (logs : List TrackedLog) → AreKeyed first_job calls → All HasOwn logs → AreApart (threads_of logs) → 10 + length logs ≡ first_job → All (λ (e : FiledEntry). Any (λ (log : TrackedLog). log.who ≡ e.who) logs) calls
  by_threads calls logs keyed own single count =
      All-weaker (λ (e : FiledEntry). IsKeyed first_job e) (λ (e : FiledEntry). Any (λ (log : TrackedLog). log.who ≡ e.who) logs)
      (λ e k. any_log e.who logs (all_among 10 first_job (threads_of logs) e.who (between logs own) single (omega (arith, count, length-map logs (λ (log : TrackedLog). log.who))) k.who.0 k.who.1))
      calls (all_keyed first_job calls keyed)

  -- ---- the tracks of jobs

  on_each : (calls : List FiledEntry) (logs : List TrackedLog) → AreOn entry_keys calls (tracks_in logs) → All (λ (log : TrackedLog). AreOn entry_keys calls log.tracks.own) logs
  on_each calls [] on = All-nil (λ (log : TrackedLog). AreOn entry_keys calls log.tracks.own)
  on_each calls (l ∷ ls) on =
      let both = on_both entry_keys calls l.tracks.own (tracks_in ls) on in
      All-cons (λ (log : TrackedLog). AreOn entry_keys calls log.tracks.own) l ls both.0 (on_each calls ls both.1)

  none_in : (k : ℕ) (logs : List TrackedLog) → All (λ (log : TrackedLog). HasKey k log.tracks.own → ⊥) logs → HasKey k (tracks_in logs) → ⊥
  none_in k [] none h = h
  none_in k (l ∷ ls) none h = ⊎_elim
      (λ (x : HasKey k l.tracks.own). All-head (λ (log : TrackedLog). HasKey k log.tracks.own → ⊥) l ls none x)
      (λ (x : HasKey k (tracks_in ls)). none_in k ls (All-tail (λ (log : TrackedLog). HasKey k log.tracks.own → ⊥) l ls none) x)
      (has-append k l.tracks.own (tracks_in ls) h)

  -- ---- the store

  module _ {S : Type 0} (g : Ghosts S) (persistent : Bool) (same : persistent ≡ g.persistent) (begin : ServerState) (stored : StoredSlots) (logs : List TrackedLog) (v m w z : BookView FiledEntry) (closed : ClosedServer) (opened last : S)
      (has : HasTracksOf first_job logs v) (count : 10 + length logs ≡ first_job) (front : IsPartClosed (OperationsLead FrontDoes) 0 begin.front closed.front v m) (shards : AreShardsClosed persistent begin.shards 0 closed.shards m w) (eight : length closed.shards ≡ 8)
      (ready : IsOpened g opened) (begins : g.stored opened ≡ stored) (store : IsPartClosed (EntriesLead (StoreSteps g)) 9 opened last w z) (h : HasServerHistory first_job begin z) where
    -- each part's track in the history, and those of the threads.
    kept : EntriesLead (StoreSteps g) (on entry_keys 9 h.log) opened last × AreOn entry_keys h.log w.own
    kept = part_led h.log (EntriesLead (StoreSteps g)) 9 opened last w z store h.is.own

    each : AreOn entry_keys h.log m.own × ((j : ℕ) → j < length closed.shards → IsLed persistent begin.shards h.log (0 + j) (shard_at closed.shards j))
    each = shards_led persistent begin.shards h.log 0 closed.shards m w shards kept.1

    first : OperationsLead FrontDoes (on entry_keys 0 h.log) begin.front closed.front × AreOn entry_keys h.log v.own
    first = part_led h.log (OperationsLead FrontDoes) 0 begin.front closed.front v m front each.0

    on_logs : AreOn entry_keys h.log (tracks_in logs)
    on_logs = subst (λ ts. AreOn entry_keys h.log ts) has.tracks first.1

    alone : AreSingle v.own
    alone = part_apart (OperationsLead FrontDoes) 0 begin.front closed.front v m front (shards_apart persistent begin.shards 0 closed.shards m w shards (part_apart (EntriesLead (StoreSteps g)) 9 opened last w z store h.is.single))

    threads : AreApart (threads_of logs)
    threads = apart logs has.threads (subst (λ (ts : List (Track FiledEntry)). AreSingle ts) has.tracks alone)

    -- the owner has the tracks of all threads, and each job's track of a log.
    owned : (t : ℕ) → 10 ≤ t → t < first_job → HasKey t z.own
    owned t low high = key_stays (EntriesLead (StoreSteps g)) 9 t opened last w z store (keys_stay persistent begin.shards t 0 closed.shards m w shards (key_stays (OperationsLead FrontDoes) 0 t begin.front closed.front v m front
        (subst (λ (ts : List (Track FiledEntry)). HasKey t ts) (sym has.tracks) (key_in t logs has.threads (all_among 10 first_job (threads_of logs) t (between logs has.threads) threads (omega (arith, count, length-map logs (λ (log : TrackedLog). log.who))) low high)))))

    lost_right : (k : ℕ) → first_job ≤ k → All (λ (log : TrackedLog). HasKey k log.tracks.own → ⊥) logs → IsRightForJob first_job (on entry_keys k h.log)
    lost_right k le none = h.sent owned k le lacks
      where
        lacks : HasKey k z.own → ⊥
        lacks has_it = none_in k logs none (subst (λ (ts : List (Track FiledEntry)). HasKey k ts) has.tracks
            (key_back (OperationsLead FrontDoes) 0 k begin.front closed.front v m front (λ e. absurd (omega (arith, e, le, count))) (keys_back persistent begin.shards k 0 closed.shards m w shards (omega (arith, le, count, eight))
            (key_back (EntriesLead (StoreSteps g)) 9 k opened last w z store (λ e. absurd (omega (arith, e, le, count))) has_it))))

    led : (i : ℕ) → i < 8 → EntriesLead (ShardSteps persistent) (shard_entries i h.log) (shard_at begin.shards i) (shard_at closed.shards i)
    led i lt = subst (λ (es : List FiledEntry). EntriesLead (ShardSteps persistent) es (shard_at begin.shards i) (shard_at closed.shards i)) (shard_track first_job i lt h.log h.keyed)
        (subst (λ (k : ℕ). IsLed persistent begin.shards h.log k (shard_at closed.shards i)) (zero-add i) (each.1 i (omega (arith, lt, eight))))

    pub one_order : HaveSavedOneOrder g begin stored logs closed
    one_order = record {
      order = record {
        calls = h.log;
        tracks = All-weaker HasOwn (λ (log : TrackedLog). HasKey log.who log.tracks.own) (λ log o. o.own) logs has.threads;
        own = own_calls h.log logs h.keyed has.threads on_logs;
        apart = apart_at logs threads;
        callers = by_threads h.log logs h.keyed has.threads threads count;
        keyed = subst (λ (n : ℕ). AreKeyed n h.log) (sym count) h.keyed;
        tracks_on = on_each h.log logs on_logs;
        lost = λ k le none. subst (λ (n : ℕ). IsRightForJob n (on entry_keys k h.log)) (sym count) (lost_right k (omega (arith, le, count)) none);
        front_led = subst (λ (es : List FiledEntry). OperationsLead FrontDoes es begin.front closed.front) (front_track first_job h.log h.keyed) first.0;
        words = h.words;
        heads_led = h.heads;
        skips = h.skips;
        shards_led = λ i lt. shard_led persistent (shard_entries i h.log) (shard_at begin.shards i) (shard_at closed.shards i) (led i lt);
      };
      saved = record {
        before = opened;
        opened = ready;
        begins = begins;
        after = last;
        store_led = subst (λ (es : List FiledEntry). EntriesLead (StoreSteps g) es opened last) (store_track first_job h.log h.keyed) kept.0;
        shards_led = λ i lt. subst (λ (b : Bool). EntriesLead (ShardSteps b) (shard_entries i h.log) (shard_at begin.shards i) (shard_at closed.shards i)) same (led i lt);
      };
    }
