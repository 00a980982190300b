-- A worker that receives jobs with right tracks, and runs them, keeps its jobs' tracks right.
use Rattle.std.proofs.Common.{◌≡◌, ◌≢◌, ℕ, ◌<◌, ◌≤◌, Bool, true, false, if◌then◌else◌, List, [], ◌∷◌, ◌++◌, refl, sym, ap, ◌∙◌, subst, inl, inr, arith}
use Rattle.std.specs.Prelude.{◌==◌, is_some}
use Rattle.std.proofs.lemmas.Bool.Decides.{nat_tests}
use Rattle.fc_book.specs.declared.view.Track.{Track}
use Rattle.fc_book.specs.declared.view.BookView.{BookView}
use Rattle.fc_book.specs.Tracks.{HasKey, entries_at, entries_of, merged_with, other_tracks}
use Rattle.std.specs.List.{All}
use Rattle.std.proofs.lemmas.List.Elements.{All-append, All-cons, All-nil, All-weaker}
use Rattle.fc_book.proofs.Owners.{has_right}
use Rattle.fc_ticket.specs.declared.job.Job.{Job}
use Rattle.fc_core.specs.Stage.{Stage}
use Rattle.fc_core.specs.Stage.{Gone}
use Rattle.fc_core.specs.Stages.{first_stage}
use Rattle.fc_linear.specs.Operations.{LogEntry, job_brought}
use Rattle.fc_linear.specs.Parts.{bringing}
use Rattle.fc_filed.specs.declared.entry.FiledEntry.{FiledEntry}
use Rattle.fc_filed.specs.Books.{IsRightForJob}
use Rattle.fc_filed.specs.Entries.{log_entry, log_of}
use Rattle.fc_filed.specs.JobTracks.{HasJobAt, HasLedJob, LeadJob}
use Rattle.fc_filed.specs.Threads.{HasJobFirst, HasOwnTrack, key_of_first}
use Rattle.fc_filed.proofs.JobTracks.{led_right, of_old_job}
use Rattle.fc_jobs.specs.Ends.{with_got}
use Rattle.fc_jobs.specs.declared.protocol.Numbered.{Numbered}
use Rattle.fc_workers.specs.Views.{WorkerView, FilesCalls, HasFiledFor}
use Rattle.fc_backend.specs.RightTracks.{HasRightJobs, IsFrom, filed_in}
use Rattle.fc_backend.specs.Logs.{TrackedLog}
use Rattle.fc_backend.specs.Messages.{IsNewJob, TrackedJob, first_brought, with_tracks}
use Rattle.fc_workers.specs.Received.{KeepsRightJobs}
use Rattle.fc_workers.specs.Shares.{AreTurns, IsTurn}
use Rattle.fc_workers.specs.Work.{IsReplied}
use Rattle.fc_backend.specs.Statistics.{Share}
use Rattle.fc_workers.proofs.Filed.{right_after}

-- ---- the operations of a job that came before produce no job

pub bringing_more : (first : ℕ) (xs ys : List FiledEntry) → bringing (log_of first ys) ≡ [] → bringing (log_of first (xs ++ ys)) ≡ bringing (log_of first xs)
bringing_more first [] ys none = none
bringing_more first (x ∷ xs) ys none = ap (λ (l : List LogEntry). if is_some (job_brought x.operation) then log_entry first x ∷ l else l) (bringing_more first xs ys none)

pub none_led : (first : ℕ) (job : Job) (es : List FiledEntry) (s t : Stage) → LeadJob job es s t → bringing (log_of first es) ≡ []
none_led first job [] s t l = refl
none_led first job (e ∷ es) s t l = ap (λ (o : _). if is_some o then log_entry first e ∷ bringing (log_of first es) else bringing (log_of first es)) (of_old_job e.operation job s l.0 l.1).none ∙ none_led first job es l.0 t l.2

-- ---- a track is moved to the worker

same : (n : ℕ) → (n == n) ≡ true
same n = grind (arith, nat_tests)

other : (m n : ℕ) → m ≢ n → (m == n) ≡ false
other m n d = grind (d, arith, nat_tests)

module _ (first_job : ℕ) (job : Job) (stage : Stage) where
  -- the job's track is the first, and the owner's other tracks are as before.
  first_of : (ts us : List (Track FiledEntry)) → HasLedJob job stage (entries_of ts) → (key_of_first (ts ++ us) ≡ key_of_first ts) × (entries_of (ts ++ us) ≡ entries_of ts)
  first_of [] us h = absurd h
  first_of (t ∷ ts) us h = (refl, refl)

  pub moved_at : (v w : BookView FiledEntry) → HasJobAt first_job job stage w → HasJobAt first_job job stage (merged_with v w)
  moved_at v w at =
      let f = first_of w.own v.own at.led in
      record { key = subst (λ (k : ℕ). first_job ≤ k) (sym f.0) at.key; led = subst (λ (es : List FiledEntry). HasLedJob job stage es) (sym f.1) at.led }

  right_by : (b : Bool) (k who : ℕ) (t : Track FiledEntry) (us : List (Track FiledEntry)) → (t.key == k) ≡ b → HasLedJob job stage t.entries → (HasKey k us → IsRightForJob first_job (entries_at k us)) → HasKey k (t ∷ us)
      → IsRightForJob first_job (if b then t.entries else entries_at k us)
  right_by true k who t us is led rest h = led_right first_job who job t.entries stage led
  right_by false k who t us is led rest (inl e) = let on : (t.key == k) ≡ true = grind (e, arith, nat_tests) in absurd (cc (sym on ∙ is))
  right_by false k who t us is led rest (inr h) = rest h

  one_right : (ts us : List (Track FiledEntry)) (k who : ℕ) → HasLedJob job stage (entries_of ts) → other_tracks ts ≡ [] → (HasKey k us → IsRightForJob first_job (entries_at k us)) → HasKey k (ts ++ us) → IsRightForJob first_job (entries_at k (ts ++ us))
  one_right [] us k who led one rest h = absurd led
  one_right (t ∷ ts) us k who led one rest h =
      let is : (t ∷ ts) ++ us ≡ t ∷ us = ap (λ (l : List (Track FiledEntry)). t ∷ (l ++ us)) one in
      subst (λ (l : List (Track FiledEntry)). IsRightForJob first_job (entries_at k l)) (sym is)
      (right_by (t.key == k) k who t us refl led rest (subst (λ (l : List (Track FiledEntry)). HasKey k l) is h))

  pub moved_right : (who : ℕ) (v w : BookView FiledEntry) → HasJobAt first_job job stage w → other_tracks w.own ≡ [] → HasRightJobs first_job v → HasRightJobs first_job (merged_with v w)
  moved_right who v w at one right k le h = one_right w.own v.own k who at.led one (λ x. right k le x) h

  one_thread : (ts us : List (Track FiledEntry)) (who : ℕ) → HasLedJob job stage (entries_of ts) → first_job ≤ key_of_first ts → who < first_job → other_tracks ts ≡ [] → entries_at who (ts ++ us) ≡ entries_at who us
  one_thread [] us who led le lt one = absurd led
  one_thread (t ∷ ts) us who led le lt one =
      ap (λ (l : List (Track FiledEntry)). entries_at who (t ∷ (l ++ us))) one
      ∙ ap (λ (b : Bool). if b then t.entries else entries_at who us) (other t.key who (λ e. absurd (omega (arith, e, le, lt))))

-- ---- the keys of jobs

-- the job's key is among those of the jobs that a server produces.
pub at_lower : (first_job : ℕ) (job : Job) (stage : Stage) (v : BookView FiledEntry) → HasJobAt (first_brought first_job) job stage v → HasJobAt first_job job stage v
at_lower first_job job stage v at = record { key = let le = at.key in omega (arith, le); led = at.led }

-- the entry has this key, as that of its job.
abbrev HasKeyOf : ℕ → FiledEntry → Type 0
HasKeyOf k e = e.job ≡ k

-- a new job is at its first stage.
pub new_at : (first_job : ℕ) (m : TrackedJob) → IsNewJob first_job m → HasJobAt (first_brought first_job) m.job (first_stage m.job) m.tracks
new_at first_job m new = subst (λ (v : BookView FiledEntry). HasJobAt (first_brought first_job) m.job (first_stage m.job) v) (sym new.tracks) (record { key = new.above; led = (new.produced, refl) })

pub new_only : (first_job : ℕ) (m : TrackedJob) → IsNewJob first_job m → other_tracks m.tracks.own ≡ []
new_only first_job m new = ap (λ (v : BookView FiledEntry). other_tracks v.own) new.tracks

-- entries with one key, from the first one on.
pub from_keyed : (first k : ℕ) (es : List FiledEntry) → first ≤ k → All (HasKeyOf k) es → All (IsFrom first) es
from_keyed first k es le all = All-weaker (HasKeyOf k) (IsFrom first) (λ e same of. subst (λ (n : ℕ). first ≤ n) (sym same) le) es all

-- ---- one job, and many

-- the worker's tracks stay right by two steps if they do by each.
pub kept_both : (first_job : ℕ) (x y z : TrackedLog) → KeepsRightJobs first_job x y → KeepsRightJobs first_job y z → KeepsRightJobs first_job x z
kept_both first_job x y z a b = record {
  who = b.who ∙ a.who;
  own = b.own;
  kept = λ k has. b.kept k (a.kept k has);
  may_begin = b.may_begin ∙ a.may_begin;
  right = b.right;
  none = λ first. b.none first ∙ a.none first;
  from = λ from. b.from (a.from from);
}

module _ {T : Type 0} (first_job : ℕ) (w : WorkerView T) (files : FilesCalls w) where
  abbrev first : ℕ
  first = first_brought first_job

  -- the job whose track is first is run to its end.
  module _ (number : ℕ) (job : Job) (before after : Share T) (own : HasOwnTrack first_job before.log.who before.log.tracks) (at : HasJobAt first job (first_stage job) before.log.tracks) (right : HasRightJobs first_job before.log.tracks)
      (worked : IsReplied w number job before after) where
    done : HasFiledFor first_job job (first_stage job) Gone before.log after.log × HasJobAt first_job job Gone after.log.tracks × HasRightJobs first_job after.log.tracks
    done = right_after first_job job w files number before after own (at_lower first_job job (first_stage job) before.log.tracks at) right worked

    filed_is : filed_in after.log ≡ filed_in before.log ++ done.0.files.entries
    filed_is = ap (λ (k : ℕ). entries_at k after.log.tracks.own) done.0.who ∙ done.0.files.thread

    pub worked_kept : KeepsRightJobs first_job before.log after.log
    worked_kept = record {
      who = done.0.who;
      own = record { key = subst (λ (k : ℕ). (10 ≤ k) × (k < first_job)) (sym done.0.who) own.key; own = subst (λ (k : ℕ). HasKey k after.log.tracks.own) (sym done.0.who) (done.0.files.kept before.log.who own.own) };
      kept = done.0.files.kept;
      may_begin = done.0.files.begins.0;
      right = done.2;
      none = λ n. ap (λ (es : List FiledEntry). bringing (log_of n es)) filed_is
          ∙ bringing_more n (filed_in before.log) done.0.files.entries (none_led n job done.0.files.entries (first_stage job) Gone done.0.files.led);
      from = λ from. subst (λ (es : List FiledEntry). All (IsFrom first) es) (sym filed_is)
          (All-append (IsFrom first) (filed_in before.log) done.0.files.entries from (from_keyed first (key_of_first before.log.tracks.own) done.0.files.entries at.key done.0.files.keyed));
    }

    pub worked_first : HasJobFirst first_job after.log.tracks
    worked_first = done.1.key

  -- a job's only track is moved to the worker.
  module _ (m : TrackedJob) (before : TrackedLog) (new : IsNewJob first_job m) (own : HasOwnTrack first_job before.who before.tracks) (right : HasRightJobs first_job before.tracks) where
    lower : HasJobAt first_job m.job (first_stage m.job) m.tracks
    lower = at_lower first_job m.job (first_stage m.job) m.tracks (new_at first_job m new)

    only : other_tracks m.tracks.own ≡ []
    only = new_only first_job m new

    thread_is : filed_in (with_tracks m.tracks before) ≡ filed_in before
    thread_is = one_thread first_job m.job (first_stage m.job) m.tracks.own before.tracks.own before.who lower.led lower.key own.key.1 only

    moved_kept : KeepsRightJobs first_job before (with_tracks m.tracks before)
    moved_kept = record {
      who = refl;
      own = record { key = own.key; own = has_right before.who m.tracks.own before.tracks.own own.own };
      kept = λ k has. has_right k m.tracks.own before.tracks.own has;
      may_begin = refl;
      right = moved_right first_job m.job (first_stage m.job) before.who before.tracks m.tracks lower only right;
      none = λ n. ap (λ (es : List FiledEntry). bringing (log_of n es)) thread_is;
      from = λ from. subst (λ (es : List FiledEntry). All (IsFrom first) es) (sym thread_is) from;
    }

    first_has : (ts us : List (Track FiledEntry)) → HasLedJob m.job (first_stage m.job) (entries_of ts) → HasKey (key_of_first ts) (ts ++ us)
    first_has [] us led = absurd led
    first_has (t ∷ ts) us led = inl refl

    -- the worker has the job's track.
    moved_has : HasKey (key_of_first m.tracks.own) (with_tracks m.tracks before).tracks.own
    moved_has = first_has m.tracks.own before.tracks.own lower.led

  module _ (n : Numbered TrackedJob) (before after : Share T) (is : IsTurn first_job w n before after) (own : HasOwnTrack first_job before.log.who before.log.tracks) (right : HasRightJobs first_job before.log.tracks) where
    abbrev mid : Share T
    mid = record before { got = with_got before.got n.number n.message; log = with_tracks n.message.tracks before.log }

    moved : KeepsRightJobs first_job before.log mid.log
    moved = moved_kept n.message before.log is.new own right

    worked : KeepsRightJobs first_job mid.log after.log
    worked = worked_kept n.number n.message.job mid after moved.own (moved_at first n.message.job (first_stage n.message.job) before.log.tracks n.message.tracks (new_at first_job n.message is.new)) moved.right is.worked

    one_has : HasKey (key_of_first n.message.tracks.own) after.log.tracks.own
    one_has = worked.kept (key_of_first n.message.tracks.own) (moved_has n.message before.log is.new own right)

    one_kept : KeepsRightJobs first_job before.log after.log
    one_kept = kept_both first_job before.log mid.log after.log moved worked

  pub received_kept : (ns : List (Numbered TrackedJob)) (before after : Share T) → AreTurns first_job w ns before after → HasOwnTrack first_job before.log.who before.log.tracks → HasRightJobs first_job before.log.tracks → KeepsRightJobs first_job before.log after.log
  unfolding AreTurns
  received_kept [] before after is own right = subst (λ (p : Share T). KeepsRightJobs first_job before.log p.log) (sym is) (record { who = refl; own = own; kept = λ k has. has; may_begin = refl; right = right; none = λ first. refl; from = λ from. from })
  received_kept (n ∷ ns) before after is own right =
      let earlier = received_kept ns before is.0 is.1.0 own right in
      kept_both first_job before.log is.0.log after.log earlier (one_kept n is.0 after is.1.1 earlier.own earlier.right)

  -- one of the tracks is that of the job that was received.
  abbrev HasTrackOf : List (Track FiledEntry) → Numbered TrackedJob → Type 0
  HasTrackOf ts n = HasKey (key_of_first n.message.tracks.own) ts

  more : (xs ys : List (Track FiledEntry)) (ns : List (Numbered TrackedJob)) → ((k : ℕ) → HasKey k xs → HasKey k ys) → All (HasTrackOf xs) ns → All (HasTrackOf ys) ns
  more xs ys ns kept all = All-weaker (HasTrackOf xs) (HasTrackOf ys) (λ n has. kept (key_of_first n.message.tracks.own) has) ns all

  pub received_all : (ns : List (Numbered TrackedJob)) (before after : Share T) → AreTurns first_job w ns before after → HasOwnTrack first_job before.log.who before.log.tracks → HasRightJobs first_job before.log.tracks
      → All (HasTrackOf after.log.tracks.own) ns
  unfolding AreTurns
  received_all [] before after is own right = All-nil (HasTrackOf after.log.tracks.own)
  received_all (n ∷ ns) before after is own right =
      let earlier = received_kept ns before is.0 is.1.0 own right in
      let last = one_kept n is.0 after is.1.1 earlier.own earlier.right in
      All-cons (HasTrackOf after.log.tracks.own) n ns
      (one_has n is.0 after is.1.1 earlier.own earlier.right)
      (more is.0.log.tracks.own after.log.tracks.own ns last.kept (received_all ns before is.0 is.1.0 own right))
