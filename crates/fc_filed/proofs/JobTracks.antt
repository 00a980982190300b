-- Operations of a job that a thread files are the last entries on the tracks of both.
use Rattle.std.proofs.Common.{◌≡◌, ◌≢◌, ℕ, ◌<◌, ◌≤◌, Bool, true, false, if◌then◌else◌, List, [], ◌∷◌, ◌++◌, refl, sym, ap, ◌∙◌, subst, inl, inr, arith, append_assoc}
use Rattle.std.specs.Prelude.{◌==◌, ◌||◌, None, Option, is_some}
use Rattle.std.specs.List.{All}
use Rattle.std.proofs.lemmas.List.{append-nil}
use Rattle.std.proofs.lemmas.List.Elements.{All-append, All-cons, All-nil}
use Rattle.std.proofs.lemmas.Bool.Decides.{nat_tests}
use Rattle.fc_ticket.specs.declared.job.Job.{Job}
use Rattle.fc_book.specs.declared.view.Track.{Track}
use Rattle.fc_book.specs.declared.view.BookView.{BookView}
use Rattle.fc_book.specs.Tracks.{EntryKeys, HasKey, entries_at, entries_of, entries_with, is_on, with_entry}
use Rattle.fc_book.proofs.Keys.{has-with, is_off, keeps-key}
use Rattle.fc_calls.specs.Logged.{HandlesDatagram, AdvancesFront, FiresTimer, GivesReadings, ReadsCost}
use Rattle.fc_calls.specs.Logged.{HandsSignal, AdvancesIdle, SkipsIdle, AdvancesShard, GivesTurn}
use Rattle.fc_core.specs.Stage.{Stage}
use Rattle.fc_core.specs.Stages.{first_stage}
use Rattle.fc_linear.specs.Operations.{Operation, Logged, IsOfServer, StageMoves, is_for_job, job_brought, part_of}
use Rattle.fc_linear.specs.Parts.{FollowsStages}
use Rattle.fc_filed.specs.declared.entry.FiledEntry.{FiledEntry}
use Rattle.fc_filed.specs.Books.{IsRightForJob}
use Rattle.fc_filed.specs.Entries.{entry_keys, is_of_job, log_of, part_key}
use Rattle.fc_store.specs.Recovery.{Save}
use Rattle.fc_filed.specs.Threads.{HasJobFirst, HasOwnTrack, did_with, entry_with, key_of_first}
use Rattle.fc_filed.specs.JobTracks.{FilesForJob, HasJobAt, HasLedJob, LeadJob}
use Rattle.fc_filed.proofs.Keyed.{also_below, low_of, part_below}

-- ---- an operation that a stage needs

-- the operation is for a job that arrived before, and one of a server.
pub record IsOfOldJob (operation : Operation) : Type 0 where
  pub for : is_for_job operation ≡ true
  pub of_server : IsOfServer operation
  pub none : job_brought operation ≡ None

pub of_old_job : (operation : Operation) (job : Job) (s t : Stage) → StageMoves operation job s t → IsOfOldJob operation
of_old_job (Logged (HandlesDatagram now from bytes brings)) job s t m = absurd m
of_old_job (Logged (AdvancesFront now)) job s t m = absurd m
of_old_job (Logged (FiresTimer slot now)) job s t m = absurd m
of_old_job (Logged (GivesReadings readings)) job s t m = absurd m
of_old_job (Logged (ReadsCost slot cost)) job s t m = absurd m
of_old_job (Logged (HandsSignal shard from id reset)) job s t m = absurd m
of_old_job (Logged (AdvancesIdle shard now)) job s t m = absurd m
of_old_job (Logged (SkipsIdle shard now)) job s t m = absurd m
of_old_job (Logged (AdvancesShard shard now ticked)) job s t m = absurd m
of_old_job (Logged (GivesTurn shard now turn)) job s t m = absurd m
of_old_job other job s t m = record { for = refl; of_server = tt; none = refl }

-- ---- the entries on a track, after an entry is filed

same_number : (m n : ℕ) → (m == n) ≡ true → m ≡ n
same_number m n is = grind (is, arith, nat_tests)

not_number : (m n : ℕ) → (m == n) ≡ false → m ≢ n
not_number m n is e = let t : (m == n) ≡ true = grind (e, arith, nat_tests) in absurd (cc (sym t ∙ is))

module _ {E : Type 0} (keys : E → EntryKeys) where
  with_by : (c b : Bool) (k : ℕ) (e : E) (t : Track E) (ts : List (Track E)) → (t.key == k) ≡ c → is_on keys k e ≡ b → (HasKey k ts → entries_at k (with_entry keys e ts) ≡ entries_with b (entries_at k ts) e) → HasKey k (t ∷ ts)
      → (if c then entries_with (is_on keys t.key e) t.entries e else entries_at k (with_entry keys e ts)) ≡ entries_with b (if c then t.entries else entries_at k ts) e
  with_by true b k e t ts is on rest h = ap (λ (x : Bool). entries_with x t.entries e) (ap (λ (j : ℕ). is_on keys j e) (same_number t.key k is) ∙ on)
  with_by false b k e t ts is on rest (inl p) = absurd (not_number t.key k is p)
  with_by false b k e t ts is on rest (inr h) = rest h

  pub at_with : (k : ℕ) (b : Bool) (e : E) (ts : List (Track E)) → is_on keys k e ≡ b → HasKey k ts → entries_at k (with_entry keys e ts) ≡ entries_with b (entries_at k ts) e
  at_with k b e [] on h = absurd h
  at_with k b e (t ∷ ts) on h = with_by (t.key == k) b k e t ts refl on (at_with k b e ts on) h

  off_by : (c : Bool) (k : ℕ) (e : E) (t : Track E) (ts : List (Track E)) → (t.key == k) ≡ c → is_on keys k e ≡ false → entries_at k (with_entry keys e ts) ≡ entries_at k ts
      → (if c then entries_with (is_on keys t.key e) t.entries e else entries_at k (with_entry keys e ts)) ≡ (if c then t.entries else entries_at k ts)
  off_by true k e t ts is off rest = ap (λ (x : Bool). entries_with x t.entries e) (ap (λ (j : ℕ). is_on keys j e) (same_number t.key k is) ∙ off)
  off_by false k e t ts is off rest = rest

  pub at_off : (k : ℕ) (e : E) (ts : List (Track E)) → is_on keys k e ≡ false → entries_at k (with_entry keys e ts) ≡ entries_at k ts
  at_off k e [] off = refl
  at_off k e (t ∷ ts) off = off_by (t.key == k) k e t ts refl off (at_off k e ts off)

-- ---- a thread files an operation of the job whose track is first

pub on_second : (a x b c k : ℕ) → b ≡ k → ((a == k) || ((x == k) || ((b == k) || (c == k)))) ≡ true
on_second a x b c k e = grind (e, arith, nat_tests)

pub on_third : (a x b c k : ℕ) → c ≡ k → ((a == k) || ((x == k) || ((b == k) || (c == k)))) ≡ true
on_third a x b c k e = grind (e, arith, nat_tests)

pub first_grows : (e : FiledEntry) (ts : List (Track FiledEntry)) (k : ℕ) → HasKey k ts → is_on entry_keys (key_of_first ts) e ≡ true → entries_of (with_entry entry_keys e ts) ≡ entries_of ts ++ e ∷ []
first_grows e [] k h on = absurd h
first_grows e (t ∷ ts) k h on = ap (λ (x : Bool). entries_with x t.entries e) on

pub first_stays : (e : FiledEntry) (ts : List (Track FiledEntry)) → key_of_first (with_entry entry_keys e ts) ≡ key_of_first ts
first_stays e [] = refl
first_stays e (t ∷ ts) = refl

-- the entry has the key of the first track, as that of its job.
abbrev HasJobKey : BookView FiledEntry → FiledEntry → Type 0
HasJobKey before e = e.job ≡ key_of_first before.own

module _ (first_job who : ℕ) (job : Job) where
  module _ (s t : Stage) (operation : Operation) (save : Option Save) (before : BookView FiledEntry) (own : HasOwnTrack first_job who before) (has : HasJobFirst first_job before) (moves : StageMoves operation job s t) where
    abbrev filed : FiledEntry
    filed = entry_with save who before operation

    of_job : is_of_job operation ≡ true
    of_job = ap (λ (b : Bool). b || is_some (job_brought operation)) (of_old_job operation job s t moves).for

    job_is : filed.job ≡ key_of_first before.own
    job_is = ap (λ (b : Bool). if b then key_of_first before.own else who) of_job

    part_low : part_key who (part_of operation) < first_job
    part_low = part_below (part_of operation) who first_job (low_of operation (of_old_job operation job s t moves).of_server) own.key.0 own.key.1

    on_job : is_on entry_keys (key_of_first before.own) filed ≡ true
    on_job = on_third (part_key who (part_of operation)) (entry_keys filed).also who filed.job (key_of_first before.own) job_is

    on_own : is_on entry_keys who filed ≡ true
    on_own = on_second (part_key who (part_of operation)) (entry_keys filed).also who filed.job who refl

    also_low : (entry_keys filed).also < first_job
    also_low = also_below (part_key who (part_of operation)) who first_job save part_low own.key.0 own.key.1

    off : (k : ℕ) → first_job ≤ k → k ≢ key_of_first before.own → is_on entry_keys k filed ≡ false
    off k le other =
        let part = part_low in
        let also = also_low in
        let low = own.key.1 in
        is_off entry_keys k filed
        (λ p. absurd (omega (arith, p, part, le)))
        (λ p. absurd (omega (arith, p, also, le)))
        (λ p. absurd (omega (arith, p, low, le)))
        (λ p. other (sym p ∙ job_is))

    files_here : FilesForJob first_job who job s t before (did_with save who operation before)
    files_here = record {
      entries = filed ∷ [];
      led = (t, moves, refl);
      keyed = All-cons (HasJobKey before) filed [] job_is (All-nil (HasJobKey before));
      first = first_stays filed before.own;
      track = first_grows filed before.own who own.own on_job;
      thread = at_with entry_keys who true filed before.own on_own own.own;
      others = λ k le other. at_off entry_keys k filed before.own (off k le other);
      none_gained = λ k h. has-with entry_keys k filed before.own h;
      kept = λ k h. keeps-key entry_keys k filed before.own h;
      begins = (refl, refl);
    }

    pub files_one : (after : BookView FiledEntry) → after ≡ did_with save who operation before → FilesForJob first_job who job s t before after
    files_one after is = subst (λ (v : BookView FiledEntry). FilesForJob first_job who job s t before v) (sym is) files_here

  -- ---- no operation, and one after the other

  pub files_none : (s : Stage) (before after : BookView FiledEntry) → after ≡ before → FilesForJob first_job who job s s before after
  files_none s before after is = subst (λ (v : BookView FiledEntry). FilesForJob first_job who job s s before v) (sym is) (record {
    entries = [];
    led = refl;
    keyed = All-nil (HasJobKey before);
    first = refl;
    track = sym (append-nil (entries_of before.own));
    thread = sym (append-nil (entries_at who before.own));
    others = λ k le other. refl;
    none_gained = λ k h. h;
    kept = λ k h. h;
    begins = (refl, refl);
  })

  pub lead_more : (xs ys : List FiledEntry) (s m t : Stage) → LeadJob job xs s m → LeadJob job ys m t → LeadJob job (xs ++ ys) s t
  lead_more [] ys s m t a b = subst (λ (x : Stage). LeadJob job ys x t) a b
  lead_more (x ∷ xs) ys s m t a b = (a.0, a.1, lead_more xs ys a.0 m t a.2 b)

  grown : (a b c xs ys : List FiledEntry) → b ≡ a ++ xs → c ≡ b ++ ys → c ≡ a ++ (xs ++ ys)
  grown a b c xs ys p q = q ∙ (ap (λ (l : List FiledEntry). l ++ ys) p ∙ append_assoc a xs ys)

  pub files_more : (s m t : Stage) (u v w : BookView FiledEntry) → FilesForJob first_job who job s m u v → FilesForJob first_job who job m t v w → FilesForJob first_job who job s t u w
  files_more s m t u v w a b = record {
    entries = a.entries ++ b.entries;
    led = lead_more a.entries b.entries s m t a.led b.led;
    keyed = All-append (HasJobKey u) a.entries b.entries a.keyed (subst (λ (k : ℕ). All (λ (e : FiledEntry). e.job ≡ k) b.entries) a.first b.keyed);
    first = b.first ∙ a.first;
    track = grown (entries_of u.own) (entries_of v.own) (entries_of w.own) a.entries b.entries a.track b.track;
    thread = grown (entries_at who u.own) (entries_at who v.own) (entries_at who w.own) a.entries b.entries a.thread b.thread;
    others = λ k le other. b.others k le (λ e. other (e ∙ a.first)) ∙ a.others k le other;
    none_gained = λ k h. a.none_gained k (b.none_gained k h);
    kept = λ k h. b.kept k (a.kept k h);
    begins = (b.begins.0 ∙ a.begins.0, b.begins.1 ∙ a.begins.1);
  }

  -- the thread may still file operations of the job.
  pub still_own : (s t : Stage) (u v : BookView FiledEntry) → FilesForJob first_job who job s t u v → HasOwnTrack first_job who u → HasOwnTrack first_job who v
  still_own s t u v f own = record { key = own.key; own = f.kept who own.own }

  pub still_first : (s t : Stage) (u v : BookView FiledEntry) → FilesForJob first_job who job s t u v → HasJobFirst first_job u → HasJobFirst first_job v
  still_first s t u v f has = subst (λ (k : ℕ). first_job ≤ k) (sym f.first) has

  -- ---- the track of the job

  led_more : (es xs : List FiledEntry) (s t : Stage) → HasLedJob job s es → LeadJob job xs s t → HasLedJob job t (es ++ xs)
  led_more [] xs s t h l = absurd h
  led_more (e ∷ es) xs s t h l = (h.0, lead_more es xs (first_stage job) s t h.1 l)

  pub at_next : (s t : Stage) (u v : BookView FiledEntry) → FilesForJob first_job who job s t u v → HasJobAt first_job job s u → HasJobAt first_job job t v
  at_next s t u v f at = record {
    key = still_first s t u v f at.key;
    led = subst (λ (es : List FiledEntry). HasLedJob job t es) (sym f.track) (led_more (entries_of u.own) f.entries s t at.led f.led);
  }

  follows : (es : List FiledEntry) (s t : Stage) → LeadJob job es s t → FollowsStages (log_of first_job es) (record { job = job; stage = s })
  follows [] s t l = tt
  follows (e ∷ es) s t l = (l.0, l.1, follows es l.0 t l.2)

  pub led_right : (es : List FiledEntry) (stage : Stage) → HasLedJob job stage es → IsRightForJob first_job es
  led_right [] stage h = absurd h
  led_right (e ∷ es) stage h = (job, h.0, follows es (first_stage job) stage h.1)
