-- If the tracks of a server's jobs are right, the one order of its calls is a legal history.
use Rattle.std.proofs.Common.{◌≡◌, ◌≢◌, ◌⊎◌, ℕ, suc, ◌+◌, ◌<◌, ◌≤◌, Bool, true, false, if◌then◌else◌, List, [], ◌∷◌, length, refl, sym, ap, ◌∙◌, subst, ⊎_elim, inl, inr, arith}
use Rattle.std.specs.Prelude.{◌==◌, ◌||◌, is_some}
use Rattle.std.specs.List.{All, Any}
use Rattle.std.proofs.lemmas.Bool.Decides.{nat_tests}
use Rattle.std.proofs.lemmas.List.Elements.{All-cons, All-head, All-nil, All-tail}
use Rattle.fc_book.specs.declared.view.Track.{Track}
use Rattle.fc_book.specs.Tracks.{AreOn, HasKey, entries_at, on}
use Rattle.fc_book.proofs.Owners.{entries_at_key}
use Rattle.fc_core.specs.declared.stage.Task.{Task}
use Rattle.fc_core.specs.History.{History}
use Rattle.fc_core.specs.Stages.{new_task}
use Rattle.fc_registry.specs.Shards.{shard_at}
use Rattle.fc_server.specs.States.{ServerState}
use Rattle.fc_server.specs.Serving.{Serves}
use Rattle.fc_linear.specs.Operations.{FrontDoes, LogEntry, ShardDoes, job_brought}
use Rattle.fc_linear.specs.Parts.{FollowsStages, HaveNextNumbers, IsHistoryOf, RightByParts, bringing, history_on}
use Rattle.fc_filed.specs.declared.entry.FiledEntry.{FiledEntry}
use Rattle.fc_filed.specs.Books.{IsRightForJob}
use Rattle.fc_filed.specs.Entries.{AreKeyed, OperationsLead, entries_by, entry_keys, log_entry, log_of}
use Rattle.fc_filed.specs.Tracked.{AreTracksRight}
use Rattle.fc_filed.proofs.ByThread.{front_track, shard_track}
use Rattle.fc_filed.proofs.Closing.{tracks_are_right, tracks_make_history}
use Rattle.fc_filed.proofs.Sent.{same_or_not}
use Rattle.fc_locked.specs.declared.closed.ClosedServer.{ClosedServer}
use Rattle.fc_backend.specs.RightTracks.{HasRightJobs, BringsInOrder, FilesFrom, HaveRightTracks, IsFrom, brought_in, filed_in}
use Rattle.fc_locked.specs.LegalOrder.{server_with}
use Rattle.fc_backend.specs.Logs.{TrackedLog}
use Rattle.fc_locked.specs.OneOrder.{HaveOneOrder}

-- ---- tracks among those of many logs

has_or_not : (k : ℕ) (ts : List (Track FiledEntry)) → HasKey k ts ⊎ (HasKey k ts → ⊥)
has_or_not k [] = inr (λ h. h)
has_or_not k (t ∷ ts) = ⊎_elim
    (λ (e : t.key ≡ k). inl (inl e))
    (λ (n : t.key ≢ k). ⊎_elim
    (λ (h : HasKey k ts). inl (inr h))
    (λ (no : HasKey k ts → ⊥). inr (λ h. ⊎_elim (λ (e : t.key ≡ k). n e) (λ (x : HasKey k ts). no x) h))
    (has_or_not k ts))
    (same_or_not t.key k)

abbrev Owns : ℕ → TrackedLog → Type 0
Owns k log = HasKey k log.tracks.own

abbrev Lacks : ℕ → TrackedLog → Type 0
Lacks k log = HasKey k log.tracks.own → ⊥

any_or_none : (k : ℕ) (logs : List TrackedLog) → Any (Owns k) logs ⊎ All (Lacks k) logs
any_or_none k [] = inr (All-nil (Lacks k))
any_or_none k (l ∷ ls) = ⊎_elim
    (λ (h : HasKey k l.tracks.own). inl (0, l, omega arith, refl, h))
    (λ (no : HasKey k l.tracks.own → ⊥). ⊎_elim
    (λ (a : Any (Owns k) ls). inl (suc a.0, a.1, (let lt = a.2 in omega (arith, lt)), a.3, a.4))
    (λ (none : All (Lacks k) ls). inr (All-cons (Lacks k) l ls no none))
    (any_or_none k ls))
    (has_or_not k l.tracks.own)

-- what holds of each log holds of one that was found.
pub found : (P Q : TrackedLog → Type 0) (logs : List TrackedLog) → All Q logs → (a : Any P logs) → Q a.1
found P Q logs all a = subst Q a.3 (all a.0 a.1 a.2)

-- ---- a track that is right for its job is so whatever the first key is

follows_any : (a b : ℕ) (es : List FiledEntry) (task : Task) → FollowsStages (log_of a es) task → FollowsStages (log_of b es) task
follows_any a b [] task f = tt
follows_any a b (e ∷ es) task f = (f.0, f.1, follows_any a b es (record { job = task.job; stage = f.0 }) f.2)

right_any : (a b : ℕ) (es : List FiledEntry) → IsRightForJob a es → IsRightForJob b es
right_any a b [] r = tt
right_any a b (e ∷ es) r = (r.0, r.1, follows_any a b es (new_task r.0) r.2)

-- ---- keys

module _ (first : ℕ) where
  abbrev FromBy : ℕ → List FiledEntry → Type 0
  FromBy t [] = Unit {0}
  FromBy t (e ∷ es) = (e.who ≡ t → IsFrom first e) × FromBy t es

  from_here : (b : Bool) (t : ℕ) (e : FiledEntry) (us : List FiledEntry) → (e.who == t) ≡ b → All (IsFrom first) (if b then e ∷ us else us) → (e.who ≡ t → IsFrom first e) × All (IsFrom first) us
  from_here true t e us is all = (λ same. All-head (IsFrom first) e us all, All-tail (IsFrom first) e us all)
  from_here false t e us is all = (λ same. (let on : (e.who == t) ≡ true = grind (same, arith, nat_tests) in absurd (cc (sym on ∙ is))), all)

  pub from_by : (t : ℕ) (es : List FiledEntry) → All (IsFrom first) (entries_by t es) → FromBy t es
  from_by t [] all = tt
  from_by t (e ∷ es) all = let h = from_here (e.who == t) t e (entries_by t es) refl all in (h.0, from_by t es h.1)

  abbrev AllFrom : List FiledEntry → Type 0
  AllFrom [] = Unit {0}
  AllFrom (e ∷ es) = IsFrom first e × AllFrom es

  pub all_from : (logs : List TrackedLog) (es : List FiledEntry) → All (λ (e : FiledEntry). Any (λ (log : TrackedLog). log.who ≡ e.who) logs) es → ((t : ℕ) → Any (λ (log : TrackedLog). log.who ≡ t) logs → FromBy t es) → AllFrom es
  all_from logs [] any per = tt
  all_from logs (e ∷ es) any per = (
    (per e.who (All-head (λ (x : FiledEntry). Any (λ (log : TrackedLog). log.who ≡ x.who) logs) e es any)).0 refl,
    all_from logs es (All-tail (λ (x : FiledEntry). Any (λ (log : TrackedLog). log.who ≡ x.who) logs) e es any) (λ t a. (per t a).1),
  )

  pub keyed_from : (n : ℕ) → n ≤ first → (es : List FiledEntry) → AllFrom es → AreKeyed n es → AreKeyed first es
  keyed_from n above [] from keyed = tt
  keyed_from n above (e ∷ es) from keyed = (
    record {
      who = (keyed.0.who.0, (let lt = keyed.0.who.1 in omega (arith, lt, above)));
      job = from.0;
      none = keyed.0.none;
      of_server = keyed.0.of_server;
      saved = keyed.0.saved;
    },
    keyed_from n above es from.1 keyed.1,
  )

-- ---- the entries that produce a job

module _ (first d : ℕ) where
  abbrev NoneBy : ℕ → List FiledEntry → Type 0
  NoneBy t [] = Unit {0}
  NoneBy t (e ∷ es) = (e.who ≡ t → is_some (job_brought e.operation) ≡ false) × NoneBy t es

  split_log : (b : Bool) (x : LogEntry) (xs : List LogEntry) → (if b then x ∷ xs else xs) ≡ [] → (b ≡ false) × (xs ≡ [])
  split_log true x xs is = absurd (cc is)
  split_log false x xs is = (refl, is)

  none_here : (b : Bool) (t : ℕ) (e : FiledEntry) (us : List FiledEntry) → (e.who == t) ≡ b → bringing (log_of first (if b then e ∷ us else us)) ≡ [] → (e.who ≡ t → is_some (job_brought e.operation) ≡ false) × (bringing (log_of first us) ≡ [])
  none_here true t e us is none = let s = split_log (is_some (job_brought e.operation)) (log_entry first e) (bringing (log_of first us)) none in (λ same. s.0, s.1)
  none_here false t e us is none = (λ same. (let on : (e.who == t) ≡ true = grind (same, arith, nat_tests) in absurd (cc (sym on ∙ is))), none)

  none_by : (t : ℕ) (es : List FiledEntry) → bringing (log_of first (entries_by t es)) ≡ [] → NoneBy t es
  none_by t [] none = tt
  none_by t (e ∷ es) none = let h = none_here (e.who == t) t e (entries_by t es) refl none in (h.0, none_by t es h.1)

  abbrev AllBy : List FiledEntry → Type 0
  AllBy [] = Unit {0}
  AllBy (e ∷ es) = (is_some (job_brought e.operation) ≡ true → e.who ≡ d) × AllBy es

  all_by : (logs : List TrackedLog) (es : List FiledEntry) → All (λ (e : FiledEntry). Any (λ (log : TrackedLog). log.who ≡ e.who) logs) es → ((t : ℕ) → Any (λ (log : TrackedLog). log.who ≡ t) logs → (t ≡ d) ⊎ NoneBy t es) → AllBy es
  all_by logs [] any per = tt
  all_by logs (e ∷ es) any per = (
    λ is. ⊎_elim (λ (same : e.who ≡ d). same) (λ (none : NoneBy e.who (e ∷ es)). absurd (cc (sym is ∙ none.0 refl))) (per e.who (All-head (λ (x : FiledEntry). Any (λ (log : TrackedLog). log.who ≡ x.who) logs) e es any)),
    all_by logs es (All-tail (λ (x : FiledEntry). Any (λ (log : TrackedLog). log.who ≡ x.who) logs) e es any) (λ t a. ⊎_elim (λ (same : t ≡ d). inl same) (λ (none : NoneBy t (e ∷ es)). inr none.1) (per t a)),
  )

  kept_by : (b c : Bool) (e : FiledEntry) (us : List FiledEntry) (ys : List LogEntry) → (e.who == d) ≡ b → is_some (job_brought e.operation) ≡ c → (c ≡ true → e.who ≡ d) → bringing (log_of first us) ≡ ys
      → bringing (log_of first (if b then e ∷ us else us)) ≡ (if c then log_entry first e ∷ ys else ys)
  kept_by true c e us ys by is own same = λ i. if is i then log_entry first e ∷ same i else same i
  kept_by false true e us ys by is own same = let on : (e.who == d) ≡ true = (let eq = own refl in grind (eq, arith, nat_tests)) in absurd (cc (sym on ∙ by))
  kept_by false false e us ys by is own same = same

  pub same_bringing : (es : List FiledEntry) → AllBy es → bringing (log_of first (entries_by d es)) ≡ bringing (log_of first es)
  same_bringing [] all = refl
  same_bringing (e ∷ es) all = kept_by (e.who == d) (is_some (job_brought e.operation)) e (entries_by d es) (bringing (log_of first es)) refl refl all.0 (same_bringing es all.1)

-- ---- the order

module _ (begin : ServerState) (logs : List TrackedLog) (closed : ClosedServer) (first : ℕ) (o : HaveOneOrder begin logs closed) (r : HaveRightTracks first logs) where
  abbrev base : ℕ
  base = 10 + length logs

  abbrev IsOn : TrackedLog → Type 0
  IsOn log = AreOn entry_keys o.calls log.tracks.own

  track_of : (k : ℕ) (log : TrackedLog) → IsOn log → Owns k log → entries_at k log.tracks.own ≡ on entry_keys k o.calls
  track_of k log are has = entries_at_key entry_keys k o.calls log.tracks.own are has

  job_right : (k : ℕ) → base ≤ k → IsRightForJob base (on entry_keys k o.calls)
  job_right k le = ⊎_elim
      (λ (a : Any (Owns k) logs). subst (λ (es : List FiledEntry). IsRightForJob base es) (track_of k a.1 (found (Owns k) (IsOn) logs o.tracks_on a) a.4)
      (found (Owns k) (λ (log : TrackedLog). HasRightJobs base log.tracks) logs r.jobs a k le a.4))
      (λ (none : All (Lacks k) logs). o.lost k le none)
      (any_or_none k logs)

  from_thread : (t : ℕ) → Any (λ (log : TrackedLog). log.who ≡ t) logs → FromBy first t o.calls
  from_thread t a = from_by first t o.calls
      (subst (λ (es : List FiledEntry). All (IsFrom first) es) (found (λ (log : TrackedLog). log.who ≡ t) (λ (log : TrackedLog). filed_in log ≡ entries_by log.who o.calls) logs o.own a ∙ ap (λ (n : ℕ). entries_by n o.calls) a.4)
      (found (λ (log : TrackedLog). log.who ≡ t) (FilesFrom first) logs r.from a))

  by_thread : (t : ℕ) → Any (λ (log : TrackedLog). log.who ≡ t) logs → (t ≡ r.dispatcher) ⊎ NoneBy first r.dispatcher t o.calls
  by_thread t a = ⊎_elim
      (λ (same : t ≡ r.dispatcher). inl same)
      (λ (other : t ≢ r.dispatcher). inr (none_by first r.dispatcher t o.calls
      (subst (λ (es : List FiledEntry). bringing (log_of first es) ≡ []) (found (λ (log : TrackedLog). log.who ≡ t) (λ (log : TrackedLog). filed_in log ≡ entries_by log.who o.calls) logs o.own a ∙ ap (λ (n : ℕ). entries_by n o.calls) a.4)
      ((found (λ (log : TrackedLog). log.who ≡ t) (BringsInOrder first r.dispatcher) logs r.brought a).none (λ e. other (sym a.4 ∙ e))))))
      (same_or_not t r.dispatcher)

  numbered : HaveNextNumbers 0 (bringing (log_of first o.calls))
  numbered =
      let a = r.has_log in
      let own : HaveNextNumbers 0 (brought_in first a.1) = (found (λ (log : TrackedLog). log.who ≡ r.dispatcher) (BringsInOrder first r.dispatcher) logs r.brought a).own a.4 in
      let filed : filed_in a.1 ≡ entries_by r.dispatcher o.calls = found (λ (log : TrackedLog). log.who ≡ r.dispatcher) (λ (log : TrackedLog). filed_in log ≡ entries_by log.who o.calls) logs o.own a ∙ ap (λ (n : ℕ). entries_by n o.calls) a.4 in
      subst (λ (xs : List LogEntry). HaveNextNumbers 0 xs) (same_bringing first r.dispatcher o.calls (all_by first r.dispatcher logs o.calls o.callers by_thread))
      (subst (λ (es : List FiledEntry). HaveNextNumbers 0 (bringing (log_of first es))) filed own)

  tracks_right : AreTracksRight first o.calls begin (server_with closed o.words)
  tracks_right = record {
    front = subst (λ (es : List FiledEntry). OperationsLead FrontDoes es begin.front closed.front) (sym (front_track base o.calls o.keyed)) o.front_led;
    shards = λ i lt. subst (λ (es : List FiledEntry). OperationsLead ShardDoes es (shard_at begin.shards i) (shard_at closed.shards i)) (sym (shard_track base i lt o.calls o.keyed)) (o.shards_led i lt);
    heads = o.heads_led;
    jobs = λ k. let above = r.above in right_any base first (on entry_keys (first + k) o.calls) (job_right (first + k) (omega (arith, above)));
    numbered = numbered;
    keyed = keyed_from first base r.above o.calls (all_from first logs o.calls o.callers from_thread) o.keyed;
  }

  pub order_is_right : RightByParts (server_with closed o.words) begin [] (log_of first o.calls)
  order_is_right = tracks_are_right first o.calls begin (server_with closed o.words) tracks_right

  pub order_is_legal : (before : History) → Serves before begin [] → IsHistoryOf (history_on before (log_of first o.calls)) (server_with closed o.words)
  order_is_legal before serves = tracks_make_history first o.calls before begin (server_with closed o.words) serves tracks_right
