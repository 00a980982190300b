-- The calls of a thread that produces jobs keep its tracks right, and their keys in order.
use Rattle.std.proofs.Common.{◌≡◌, ℕ, ◌+◌, ◌<◌, ◌≤◌, Bool, true, false, if◌then◌else◌, List, [], ◌∷◌, ◌++◌, length, Option, Some, refl, sym, ap, ◌∙◌, subst, ⊎_elim, inl, inr, arith, length-append}
use Rattle.std.specs.Prelude.{◌==◌, ◌||◌, is_some}
use Rattle.std.specs.List.{All}
use Rattle.std.proofs.lemmas.Bool.Decides.{nat_tests}
use Rattle.std.proofs.lemmas.List.Elements.{All-nil, All-push}
use Rattle.fc_book.specs.declared.view.Track.{Track}
use Rattle.fc_book.specs.declared.view.BookView.{BookView}
use Rattle.fc_book.specs.Tracks.{AreSingle, HasKey, entries_at, entries_of, entries_with, first_own, first_track, is_on, other_tracks, track, with_entry, without_first}
use Rattle.fc_book.proofs.Keys.{has-with, is_off, keeps-key}
use Rattle.fc_ticket.specs.declared.job.Job.{Job}
use Rattle.fc_core.specs.Stages.{first_stage}
use Rattle.fc_linear.specs.Operations.{IsOfServer, LogEntry, Operation, is_for_job, job_brought, part_of}
use Rattle.fc_linear.specs.Parts.{HaveNextNumbers, bringing}
use Rattle.fc_filed.specs.declared.entry.FiledEntry.{FiledEntry}
use Rattle.fc_filed.specs.Books.{IsFirstSent, IsRightForJob}
use Rattle.fc_filed.specs.Entries.{entry_keys, is_of_job, log_entry, log_of, part_key}
use Rattle.fc_filed.specs.JobTracks.{HasJobAt, HasLedJob}
use Rattle.fc_filed.specs.Threads.{HasJobFirst, HasOwnTrack, entry_by, key_of_first}
use Rattle.fc_filed.proofs.JobTracks.{at_off, at_with, first_grows, first_stays, led_right, on_second, on_third}
use Rattle.fc_filed.proofs.Keyed.{low_of, part_below}
use Rattle.fc_filed.proofs.Sent.{same_or_not}
use Rattle.fc_workers.specs.Views.{WorkerView, FilesCalls}
use Rattle.fc_backend.specs.Filed.{HasFiled, HasSameTracks}
use Rattle.fc_backend.specs.RightTracks.{HasRightJobs, FilesFrom, IsFrom, brought_in, filed_in}
use Rattle.fc_backend.specs.Logs.{MayFileAll, TrackedLog, IsNewLog}
use Rattle.fc_backend.specs.Messages.{IsNewJob, first_brought, with_tracks, first_tracked, with_new_track, without_job}
use Rattle.fc_workers.specs.Producing.{HasDispatched, HasProduced, HasRightOrder, MayProduce, next_brought}
use Rattle.fc_workers.specs.Work.{IsReplied}
use Rattle.fc_backend.specs.Statistics.{Share}
use Rattle.fc_workers.proofs.Filed.{at_first}
use Rattle.fc_workers.proofs.Received.{at_lower, bringing_more, new_at, worked_first, worked_kept}

-- ---- lists

first_off : (e : FiledEntry) (ts : List (Track FiledEntry)) → is_on entry_keys (key_of_first ts) e ≡ false → entries_of (with_entry entry_keys e ts) ≡ entries_of ts
first_off e [] off = refl
first_off e (t ∷ ts) off = ap (λ (b : Bool). entries_with b t.entries e) off

rest_stays : (e : FiledEntry) (ts : List (Track FiledEntry)) → key_of_first (other_tracks (with_entry entry_keys e ts)) ≡ key_of_first (other_tracks ts)
rest_stays e [] = refl
rest_stays e (t ∷ ts) = first_stays e ts

numbered_more : (n : ℕ) (xs : List LogEntry) (y : LogEntry) → HaveNextNumbers n xs → y.job ≡ n + length xs → HaveNextNumbers n (xs ++ y ∷ [])
numbered_more n [] y h e = (omega (arith, e), tt)
numbered_more n (x ∷ xs) y h e = (h.0, numbered_more (n + 1) xs y h.1 (omega (arith, e)))

push_if : (b : Bool) (x : LogEntry) (xs ys : List LogEntry) → (if b then x ∷ (xs ++ ys) else xs ++ ys) ≡ (if b then x ∷ xs else xs) ++ ys
push_if true x xs ys = refl
push_if false x xs ys = refl

bringing_one : (first : ℕ) (xs : List FiledEntry) (e : FiledEntry) → is_some (job_brought e.operation) ≡ true → bringing (log_of first (xs ++ e ∷ [])) ≡ bringing (log_of first xs) ++ log_entry first e ∷ []
bringing_one first [] e is = ap (λ (b : Bool). if b then log_entry first e ∷ [] else []) is
bringing_one first (x ∷ xs) e is =
    ap (λ (l : List LogEntry). if is_some (job_brought x.operation) then log_entry first x ∷ l else l) (bringing_one first xs e is)
    ∙ push_if (is_some (job_brought x.operation)) (log_entry first x) (bringing (log_of first xs)) (log_entry first e ∷ [])

or_none : (a b : Bool) → (a || b) ≡ false → b ≡ false
or_none true b is = absurd (cc is)
or_none false b is = is

or_some : (a b : Bool) → b ≡ true → (a || b) ≡ true
or_some true b is = refl
or_some false b is = is

only_track : (ts : List (Track FiledEntry)) (e : FiledEntry) → entries_of ts ≡ e ∷ [] → (ts ≡ [] → ⊥) → first_track ts ≡ track (key_of_first ts) (e ∷ []) ∷ []
only_track [] e is some = absurd (some refl)
only_track (t ∷ ts) e is some = ap (λ (es : List FiledEntry). track t.key es ∷ []) is

-- ---- a thread files an operation

module _ (first_job : ℕ) (operation : Operation) (before after : TrackedLog) (own : HasOwnTrack first_job before.who before.tracks) (of_server : IsOfServer operation) (filed : HasFiled operation before after) where
  abbrev entry : FiledEntry
  entry = entry_by before.who before.tracks operation

  tracks_are : after.tracks.own ≡ with_entry entry_keys entry before.tracks.own
  tracks_are = ap (λ (v : BookView FiledEntry). v.own) filed.tracks

  part_low : part_key before.who (part_of operation) < first_job
  part_low = part_below (part_of operation) before.who first_job (low_of operation of_server) own.key.0 own.key.1

  on_own : is_on entry_keys before.who entry ≡ true
  on_own = on_second (part_key before.who (part_of operation)) (part_key before.who (part_of operation)) before.who entry.job before.who refl

  off : (k : ℕ) → first_job ≤ k → (entry.job ≡ k → ⊥) → is_on entry_keys k entry ≡ false
  off k le other =
      let part = part_low in
      let low = own.key.1 in
      is_off entry_keys k entry (λ p. absurd (omega (arith, p, part, le))) (λ p. absurd (omega (arith, p, part, le))) (λ p. absurd (omega (arith, p, low, le))) other

  own_after : HasOwnTrack first_job after.who after.tracks
  own_after = record {
    key = subst (λ (n : ℕ). (10 ≤ n) × (n < first_job)) (sym filed.who) own.key;
    own = subst (λ (n : ℕ). HasKey n after.tracks.own) (sym filed.who)
        (subst (λ (ts : List (Track FiledEntry)). HasKey before.who ts) (sym tracks_are) (keeps-key entry_keys before.who entry before.tracks.own own.own));
  }

  filed_after : filed_in after ≡ filed_in before ++ entry ∷ []
  filed_after = ap (λ (n : ℕ). entries_at n after.tracks.own) filed.who
      ∙ (ap (λ (ts : List (Track FiledEntry)). entries_at before.who ts) tracks_are ∙ at_with entry_keys before.who true entry before.tracks.own on_own own.own)

  first_after : key_of_first after.tracks.own ≡ key_of_first before.tracks.own
  first_after = ap key_of_first tracks_are ∙ first_stays entry before.tracks.own

  rest_after : HasJobFirst first_job (without_first before.tracks) → HasJobFirst first_job (without_first after.tracks)
  rest_after h = subst (λ (n : ℕ). first_job ≤ n) (sym (ap (λ (ts : List (Track FiledEntry)). key_of_first (other_tracks ts)) tracks_are ∙ rest_stays entry before.tracks.own)) h

  right_off : (k : ℕ) → first_job ≤ k → (entry.job ≡ k → ⊥) → HasRightJobs first_job before.tracks → HasKey k after.tracks.own → IsRightForJob first_job (entries_at k after.tracks.own)
  right_off k le other right has =
      subst (λ (es : List FiledEntry). IsRightForJob first_job es) (sym (ap (λ (ts : List (Track FiledEntry)). entries_at k ts) tracks_are ∙ at_off entry_keys k entry before.tracks.own (off k le other)))
      (right k le (has-with entry_keys k entry before.tracks.own (subst (λ (ts : List (Track FiledEntry)). HasKey k ts) tracks_are has)))

  -- an operation of no job.
  module _ (none : is_of_job operation ≡ false) where
    job_own : entry.job ≡ before.who
    job_own = ap (λ (b : Bool). if b then key_of_first before.tracks.own else before.who) none

    not_at : (k : ℕ) → first_job ≤ k → entry.job ≡ k → ⊥
    not_at k le e =
        let is = job_own in
        let low = own.key.1 in
        absurd (omega (arith, e, is, low, le))

    brought_same : (n : ℕ) → brought_in n after ≡ brought_in n before
    brought_same n = ap (λ (es : List FiledEntry). bringing (log_of n es)) filed_after
        ∙ bringing_more n (filed_in before) (entry ∷ []) (ap (λ (b : Bool). if b then log_entry n entry ∷ [] else []) (or_none (is_for_job operation) (is_some (job_brought operation)) none))

    order_after : HasRightOrder first_job before → HasRightOrder first_job after
    order_after o = record {
      own = own_after;
      right = λ k le has. right_off k le (not_at k le) o.right has;
      numbered = subst (λ (es : List LogEntry). HaveNextNumbers 0 es) (sym (brought_same (first_brought first_job))) o.numbered;
      from = subst (λ (es : List FiledEntry). All (IsFrom (first_brought first_job)) es) (sym filed_after)
          (All-push (IsFrom (first_brought first_job)) (filed_in before) entry o.from (λ of. absurd (cc (sym of ∙ none))));
    }

    next_same : next_brought first_job after ≡ next_brought first_job before
    next_same = ap (λ (es : List LogEntry). first_brought first_job + length es) (brought_same (first_brought first_job))

    pub still_may : (next : ℕ) → MayProduce first_job next before → MayProduce first_job next after
    still_may next may = record {
      order = order_after may.order;
      key = first_after ∙ (may.key ∙ sym next_same);
      empty = ap entries_of tracks_are
          ∙ (first_off entry before.tracks.own (off (key_of_first before.tracks.own) (let key = may.key in omega (arith, key)) (not_at (key_of_first before.tracks.own) (let key = may.key in omega (arith, key))))
          ∙ may.empty);
      rest = rest_after may.rest;
      next = may.next ∙ ap (λ (n : ℕ). n + 1) (sym next_same);
    }

  -- an operation that produces a job.
  module _ (next : ℕ) (job : Job) (brings : job_brought operation ≡ Some job) (may : MayProduce first_job next before) where
    some : is_some (job_brought operation) ≡ true
    some = ap (λ (o : Option Job). is_some o) brings

    job_is : entry.job ≡ key_of_first before.tracks.own
    job_is = ap (λ (b : Bool). if b then key_of_first before.tracks.own else before.who) (or_some (is_for_job operation) (is_some (job_brought operation)) some)

    entries_are : entries_of after.tracks.own ≡ entry ∷ []
    entries_are = ap entries_of tracks_are
        ∙ (first_grows entry before.tracks.own before.who own.own (on_third (part_key before.who (part_of operation)) (part_key before.who (part_of operation)) before.who entry.job (key_of_first before.tracks.own) job_is)
        ∙ ap (λ (es : List FiledEntry). es ++ entry ∷ []) may.empty)

    led : HasLedJob job (first_stage job) (entries_of after.tracks.own)
    led = subst (λ (es : List FiledEntry). HasLedJob job (first_stage job) es) (sym entries_are) (brings, refl)

    right_after : HasRightJobs first_job after.tracks
    right_after k le has = ⊎_elim
        (λ (e : k ≡ key_of_first after.tracks.own). subst (λ (n : ℕ). IsRightForJob first_job (entries_at n after.tracks.own)) (sym e)
        (subst (λ (es : List FiledEntry). IsRightForJob first_job es) (sym (at_first after.tracks.own)) (led_right first_job before.who job (entries_of after.tracks.own) (first_stage job) led)))
        (λ (other : k ≡ key_of_first after.tracks.own → ⊥). right_off k le (λ e. other (sym e ∙ (job_is ∙ sym first_after))) may.order.right has)
        (same_or_not k (key_of_first after.tracks.own))

    brought_more : brought_in (first_brought first_job) after ≡ brought_in (first_brought first_job) before ++ log_entry (first_brought first_job) entry ∷ []
    brought_more = ap (λ (es : List FiledEntry). bringing (log_of (first_brought first_job) es)) filed_after ∙ bringing_one (first_brought first_job) (filed_in before) entry some

    next_more : next_brought first_job after ≡ next_brought first_job before + 1
    next_more =
        let more = ap (λ (es : List LogEntry). length es) brought_more ∙ length-append (brought_in (first_brought first_job) before) (log_entry (first_brought first_job) entry ∷ []) in
        omega (arith, more)

    at_key : entry.job ≡ next_brought first_job before
    at_key = job_is ∙ may.key

    pub has_produced : HasProduced first_job next job after
    has_produced = record {
      order = record {
        own = own_after;
        right = right_after;
        numbered = subst (λ (es : List LogEntry). HaveNextNumbers 0 es) (sym brought_more)
            (numbered_more 0 (brought_in (first_brought first_job) before) (log_entry (first_brought first_job) entry) may.order.numbered (let is = at_key in omega (arith, is)));
        from = subst (λ (es : List FiledEntry). All (IsFrom (first_brought first_job)) es) (sym filed_after)
            (All-push (IsFrom (first_brought first_job)) (filed_in before) entry may.order.from (λ of. (let is = at_key in omega (arith, is))));
      };
      new = record {
        key = key_of_first after.tracks.own;
        entry = entry;
        above = let key = first_after ∙ may.key in omega (arith, key);
        produced = brings;
        tracks = ap (λ (ts : List (Track FiledEntry)). record { locked = []; own = ts; may_begin = false; next = 0 })
            (only_track after.tracks.own entry entries_are (λ e. (let key = first_after ∙ may.key in let none = ap key_of_first e in let lo = own.key.0 in let hi = own.key.1 in absurd (omega (arith, key, none, lo, hi)))));
      };
      rest = rest_after may.rest;
      next = may.next ∙ sym next_more;
    }

-- ---- nothing is filed

-- the same log of calls, with other tracks.
abbrev log_with : TrackedLog → ℕ × BookView FiledEntry → TrackedLog
log_with log p = record { calls = log.calls; who = p.0; tracks = p.1 }

pub still_produced : (first_job next : ℕ) (job : Job) (before after : TrackedLog) → HasSameTracks before after → HasProduced first_job next job before → HasProduced first_job next job after
still_produced first_job next job before after same h =
    subst (λ (p : ℕ × BookView FiledEntry). HasProduced first_job next job (log_with after p)) (λ i. (sym same.who i, sym same.tracks i)) (record {
      order = record { own = h.order.own; right = h.order.right; numbered = h.order.numbered; from = h.order.from };
      new = record { key = h.new.key; entry = h.new.entry; above = h.new.above; produced = h.new.produced; tracks = h.new.tracks };
      rest = h.rest;
      next = h.next;
    })

-- ---- a job leaves the thread

at_other : (b : Bool) (k : ℕ) (t : Track FiledEntry) (ts : List (Track FiledEntry)) → (t.key == k) ≡ b → (t.key ≡ k → ⊥) → (if b then t.entries else entries_at k ts) ≡ entries_at k ts
at_other true k t ts is other = absurd (other (grind (is, arith, nat_tests)))
at_other false k t ts is other = refl

-- the tracks after the first one, which has another key.
pub at_rest : (k : ℕ) (ts : List (Track FiledEntry)) → (key_of_first ts ≡ k → ⊥) → entries_at k (other_tracks ts) ≡ entries_at k ts
at_rest k [] other = refl
at_rest k (t ∷ ts) other = sym (at_other (t.key == k) k t ts refl other)

pub has_rest : (k : ℕ) (ts : List (Track FiledEntry)) → (key_of_first ts ≡ k → ⊥) → HasKey k ts → HasKey k (other_tracks ts)
has_rest k [] other h = absurd h
has_rest k (t ∷ ts) other (inl e) = absurd (other e)
has_rest k (t ∷ ts) other (inr h) = h

has_all : (k : ℕ) (ts : List (Track FiledEntry)) → HasKey k (other_tracks ts) → HasKey k ts
has_all k [] h = h
has_all k (t ∷ ts) h = inr h

-- no other track has the key of the first one.
apart : (k : ℕ) (ts : List (Track FiledEntry)) → AreSingle ts → HasKey k (other_tracks ts) → key_of_first ts ≡ k → ⊥
apart k [] single h e = h
apart k (t ∷ ts) single h e = single.0 (subst (λ (n : ℕ). HasKey n ts) (sym e) h)

first_key : (ts : List (Track FiledEntry)) → key_of_first (first_track ts) ≡ key_of_first ts
first_key [] = refl
first_key (t ∷ ts) = refl

first_entries : (ts : List (Track FiledEntry)) → entries_of (first_track ts) ≡ entries_of ts
first_entries [] = refl
first_entries (t ∷ ts) = refl

both : (ts : List (Track FiledEntry)) → first_track ts ++ other_tracks ts ≡ ts
both [] = refl
both (t ∷ ts) = refl

module _ (first_job : ℕ) (job : Job) where
  -- the job of the first track is at its first stage.
  pub first_at : (log : TrackedLog) → IsNewJob first_job (first_tracked job log) → HasJobAt (first_brought first_job) job (first_stage job) log.tracks
  first_at log new =
      let at = new_at first_job (first_tracked job log) new in
      record {
        key = subst (λ (k : ℕ). first_brought first_job ≤ k) (first_key log.tracks.own) at.key;
        led = subst (λ (es : List FiledEntry). HasLedJob job (first_stage job) es) (first_entries log.tracks.own) at.led;
      }

  -- the first track is right for its job, and may be moved to a message.
  sent_right : (who : ℕ) (ts : List (Track FiledEntry)) → first_job ≤ key_of_first ts → HasLedJob job (first_stage job) (entries_of ts) → IsFirstSent first_job ts
  sent_right who [] le is_led = tt
  sent_right who (t ∷ ts) le is_led = (le, led_right first_job who job t.entries (first_stage job) is_led)

  pub may_send : (log : TrackedLog) → IsNewJob first_job (first_tracked job log) → IsFirstSent first_job log.tracks.own
  may_send log new = let at = first_at log new in sent_right log.who log.tracks.own (at_lower first_job job (first_stage job) log.tracks at).key at.led

  -- a log that gets back the track of its job is as before.
  pub taken_back : (log : TrackedLog) → with_tracks (first_own log.tracks) (without_job log) ≡ log
  taken_back log = ap (λ (ts : List (Track FiledEntry)). record log { tracks = record log.tracks { own = ts } }) (both log.tracks.own)

-- ---- an operation of no job, after the thread has produced one

first_unchanged : (e : FiledEntry) (ts : List (Track FiledEntry)) → is_on entry_keys (key_of_first ts) e ≡ false → first_track (with_entry entry_keys e ts) ≡ first_track ts
first_unchanged e [] off = refl
first_unchanged e (t ∷ ts) off = ap (λ (b : Bool). track t.key (entries_with b t.entries e) ∷ []) off

module _ (first_job : ℕ) (operation : Operation) (before after : TrackedLog) (of_server : IsOfServer operation) (filed : HasFiled operation before after) (none : is_of_job operation ≡ false) (next : ℕ) (job : Job)
    (h : HasProduced first_job next job before) where
  above : first_job ≤ key_of_first before.tracks.own
  above = let key = (first_at first_job job before h.new).key in omega (arith, key)

  -- the job's track is unchanged.
  pub track_same : first_own after.tracks ≡ first_own before.tracks
  track_same = ap (λ (ts : List (Track FiledEntry)). record { locked = []; own = ts; may_begin = false; next = 0 })
      (ap first_track (tracks_are first_job operation before after h.order.own of_server filed)
      ∙ first_unchanged (entry_by before.who before.tracks operation) before.tracks.own
      (off first_job operation before after h.order.own of_server filed (key_of_first before.tracks.own) above
      (not_at first_job operation before after h.order.own of_server filed none (key_of_first before.tracks.own) above)))

  pub still_produced_by : HasProduced first_job next job after
  still_produced_by = record {
    order = order_after first_job operation before after h.order.own of_server filed none h.order;
    new = subst (λ (v : BookView FiledEntry). IsNewJob first_job (record { job = job; tracks = v })) (sym track_same) h.new;
    rest = rest_after first_job operation before after h.order.own of_server filed h.rest;
    next = h.next ∙ sym (next_same first_job operation before after h.order.own of_server filed none);
  }

-- the thread may still file each call.
pub sent_keeps : (first_job : ℕ) (job : Job) (log : TrackedLog) → IsNewJob first_job (first_tracked job log) → HasJobFirst first_job (without_first log.tracks) → MayFileAll first_job log.who log.tracks → MayFileAll first_job log.who (without_first log.tracks)
sent_keeps first_job job log new rest h = record {
  thread = record {
    key = h.thread.key;
    own = has_rest log.who log.tracks.own (λ e. (let at = first_at first_job job log new in let key = at.key in let low = h.thread.key.1 in absurd (omega (arith, e, key, low)))) h.thread.own;
  };
  job = rest;
  begins_none = h.begins_none;
}

module _ (first_job next : ℕ) (job : Job) where
  pub sent_away : (log : TrackedLog) → AreSingle log.tracks.own → HasProduced first_job next job log → HasDispatched first_job next (without_job log)
  sent_away log single h =
      let at = first_at first_job job log h.new in
      let not_own : key_of_first log.tracks.own ≡ log.who → ⊥ = λ e. (let key = at.key in let low = h.order.own.key.1 in absurd (omega (arith, e, key, low))) in
      let filed : filed_in (without_job log) ≡ filed_in log = at_rest log.who log.tracks.own not_own in
      let brought : brought_in (first_brought first_job) (without_job log) ≡ brought_in (first_brought first_job) log = ap (λ (es : List FiledEntry). bringing (log_of (first_brought first_job) es)) filed in
      record {
        order = record {
          own = record { key = h.order.own.key; own = has_rest log.who log.tracks.own not_own h.order.own.own };
          right = λ k le has. subst (λ (es : List FiledEntry). IsRightForJob first_job es) (sym (at_rest k log.tracks.own (apart k log.tracks.own single has))) (h.order.right k le (has_all k log.tracks.own has));
          numbered = subst (λ (es : List LogEntry). HaveNextNumbers 0 es) (sym brought) h.order.numbered;
          from = subst (λ (es : List FiledEntry). All (IsFrom (first_brought first_job)) es) (sym filed) h.order.from;
        };
        first = h.rest;
        next = h.next ∙ ap (λ (es : List LogEntry). first_brought first_job + length es) (sym brought);
      }

  module _ {T : Type 0} (w : WorkerView T) (files : FilesCalls w) where
    pub worked_here : (number : ℕ) (before after : Share T) → HasProduced first_job next job before.log → IsReplied w number job before after → HasDispatched first_job next after.log
    worked_here number before after h worked =
        let at = first_at first_job job before.log h.new in
        let kept = worked_kept first_job w files number job before after h.order.own at h.order.right worked in
        let brought = kept.none (first_brought first_job) in
        record {
          order = record {
            own = kept.own;
            right = kept.right;
            numbered = subst (λ (es : List LogEntry). HaveNextNumbers 0 es) (sym brought) h.order.numbered;
            from = kept.from h.order.from;
          };
          first = worked_first first_job w files number job before after h.order.own at h.order.right worked;
          next = h.next ∙ ap (λ (es : List LogEntry). first_brought first_job + length es) (sym brought);
        }

-- ---- the next track begins

module _ (first_job next : ℕ) (log : TrackedLog) where
  right_new : (b : Bool) (k : ℕ) → (next == k) ≡ b → HasRightJobs first_job log.tracks → first_job ≤ k → HasKey k (track next [] ∷ log.tracks.own) → IsRightForJob first_job (if b then [] else entries_at k log.tracks.own)
  right_new true k is right le has = tt
  right_new false k is right le (inl e) = let on : (next == k) ≡ true = grind (e, arith, nat_tests) in absurd (cc (sym on ∙ is))
  right_new false k is right le (inr h) = right k le h

  at_new : (b : Bool) (k : ℕ) → (next == k) ≡ b → (next ≡ k → ⊥) → (if b then [] else entries_at k log.tracks.own) ≡ entries_at k log.tracks.own
  at_new true k is other = absurd (other (grind (is, arith, nat_tests)))
  at_new false k is other = refl

  pub begun : HasDispatched first_job next log → MayProduce first_job (next + 1) (with_new_track next log)
  begun h =
      let not_own : next ≡ log.who → ⊥ = λ e. (let is = h.next in let low = h.order.own.key.1 in absurd (omega (arith, e, is, low))) in
      let filed : filed_in (with_new_track next log) ≡ filed_in log = at_new (next == log.who) log.who refl not_own in
      let brought : brought_in (first_brought first_job) (with_new_track next log) ≡ brought_in (first_brought first_job) log = ap (λ (es : List FiledEntry). bringing (log_of (first_brought first_job) es)) filed in
      let same : next_brought first_job (with_new_track next log) ≡ next_brought first_job log = ap (λ (es : List LogEntry). first_brought first_job + length es) brought in
      record {
        order = record {
          own = record { key = h.order.own.key; own = inr h.order.own.own };
          right = λ k le has. right_new (next == k) k refl h.order.right le has;
          numbered = subst (λ (es : List LogEntry). HaveNextNumbers 0 es) (sym brought) h.order.numbered;
          from = subst (λ (es : List FiledEntry). All (IsFrom (first_brought first_job)) es) (sym filed) h.order.from;
        };
        key = h.next ∙ sym same;
        empty = refl;
        rest = h.first;
        next = ap (λ (n : ℕ). n + 1) (h.next ∙ sym same);
      }

-- ---- a thread that has filed nothing

pub new_right : (first_job : ℕ) (log : TrackedLog) → IsNewLog log → HasRightJobs first_job log.tracks
new_right first_job log new k le has = subst (λ (es : List FiledEntry). IsRightForJob first_job es) (sym (new k)) tt

pub new_none : (first : ℕ) (log : TrackedLog) → IsNewLog log → brought_in first log ≡ []
new_none first log new = ap (λ (es : List FiledEntry). bringing (log_of first es)) (new log.who)

pub new_from : (first : ℕ) (log : TrackedLog) → IsNewLog log → FilesFrom first log
new_from first log new = subst (λ (es : List FiledEntry). All (IsFrom first) es) (sym (new log.who)) (All-nil (IsFrom first))

pub new_dispatched : (first_job : ℕ) (log : TrackedLog) → IsNewLog log → HasOwnTrack first_job log.who log.tracks → HasJobFirst first_job log.tracks → HasDispatched first_job (first_brought first_job) log
new_dispatched first_job log new own first =
    let none = new_none (first_brought first_job) log new in
    record {
      order = record {
        own = own;
        right = new_right first_job log new;
        numbered = subst (λ (es : List LogEntry). HaveNextNumbers 0 es) (sym none) tt;
        from = new_from (first_brought first_job) log new;
      };
      first = first;
      next = let none_in = ap (λ (es : List LogEntry). length es) none in omega (arith, none_in);
    }
