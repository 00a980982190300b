-- The right tracks of two jobs of timers.
use Rattle.std.proofs.Common.{ℕ, ◌≤◌, false, [], ◌∷◌, length, refl, ap, subst, inl, inr, arith}
use Rattle.std.proofs.lemmas.List.Elements.{All-cons, All-nil}
use Rattle.fc_book.specs.declared.view.BookView.{BookView}
use Rattle.fc_book.specs.Tracks.{HasKey, entries_at, entries_of, own_view, track}
use Rattle.fc_core.specs.Stage.{ToTake}
use Rattle.fc_front.specs.Timers.{timer_job}
use Rattle.fc_linear.specs.Parts.{HaveNextNumbers, bringing}
use Rattle.fc_filed.specs.Books.{IsRightForJob}
use Rattle.fc_filed.specs.Entries.{log_of}
use Rattle.fc_filed.specs.JobTracks.{HasLedJob}
use Rattle.fc_filed.specs.Threads.{key_of_first}
use Rattle.fc_filed.specs.declared.entry.FiledEntry.{FiledEntry}
use Rattle.fc_filed.proofs.JobTracks.{led_right}
use Rattle.fc_backend.specs.declared.call_log.CallLog.{CallLog}
use Rattle.fc_backend.specs.RightTracks.{HasRightJobs, BringsInOrder, FilesFrom, HaveRightTracks, IsFrom, timer_entry}
use Rattle.fc_backend.specs.Logs.{TrackedLog}
use Rattle.fc_backend.specs.Messages.{IsNewJob, TrackedJob}

-- the log of the thread, which has fired the timers of slots 5 and 6.
abbrev two_fired : CallLog → TrackedLog
two_fired calls = record {
  calls = calls;
  who = 10;
  tracks = record {
    locked = [];
    may_begin = false;
    next = 0;
    own = track 12 (timer_entry 12 6 ∷ []) ∷ track 11 (timer_entry 11 5 ∷ []) ∷ track 10 (timer_entry 11 5 ∷ timer_entry 12 6 ∷ []) ∷ [];
  };
}

led_at : (job slot : ℕ) → HasLedJob (timer_job slot) (ToTake 0) (timer_entry job slot ∷ [])
led_at job slot = (refl, refl)

right_at : (calls : CallLog) (k : ℕ) → 11 ≤ k → HasKey k (two_fired calls).tracks.own → IsRightForJob 11 (entries_at k (two_fired calls).tracks.own)
right_at calls k le (inl e) = subst (λ (n : ℕ). IsRightForJob 11 (entries_at n (two_fired calls).tracks.own)) e (led_right 11 10 (timer_job 6) (timer_entry 12 6 ∷ []) (ToTake 0) (led_at 12 6))
right_at calls k le (inr (inl e)) = subst (λ (n : ℕ). IsRightForJob 11 (entries_at n (two_fired calls).tracks.own)) e (led_right 11 10 (timer_job 5) (timer_entry 11 5 ∷ []) (ToTake 0) (led_at 11 5))
right_at calls k le (inr (inr (inl e))) = absurd (omega (arith, le, e))
right_at calls k le (inr (inr (inr h))) = absurd h

in_order : (calls : CallLog) → BringsInOrder 11 10 (two_fired calls)
in_order calls = record { own = λ same. (refl, (refl, tt)); none = λ differs. absurd (differs refl) }

all_from : (calls : CallLog) → FilesFrom 11 (two_fired calls)
all_from calls = All-cons (IsFrom 11) (timer_entry 11 5) (timer_entry 12 6 ∷ []) (λ of. omega arith) (All-cons (IsFrom 11) (timer_entry 12 6) [] (λ of. omega arith) (All-nil (IsFrom 11)))

pub has_right_tracks : (calls : CallLog) → HaveRightTracks 11 (two_fired calls ∷ [])
has_right_tracks calls = record {
  above = omega arith;
  jobs = All-cons (λ (log : TrackedLog). HasRightJobs 11 log.tracks) (two_fired calls) [] (right_at calls) (All-nil (λ (log : TrackedLog). HasRightJobs 11 log.tracks));
  from = All-cons (FilesFrom 11) (two_fired calls) [] (all_from calls) (All-nil (FilesFrom 11));
  dispatcher = 10;
  has_log = (0, two_fired calls, omega arith, refl, refl);
  brought = All-cons (BringsInOrder 11 10) (two_fired calls) [] (in_order calls) (All-nil (BringsInOrder 11 10));
}

-- the message of the second job, with these tracks.
abbrev second : BookView FiledEntry → TrackedJob
second v = record { job = timer_job 6; tracks = v }

pub new_job : IsNewJob 11 (second (own_view 12 (timer_entry 12 6 ∷ [])))
new_job = record { key = 12; entry = timer_entry 12 6; above = omega arith; produced = refl; tracks = refl }

pub not_low : IsNewJob 11 (second (own_view 11 (timer_entry 11 6 ∷ []))) → ⊥
not_low new =
    let key = ap (λ (v : BookView FiledEntry). key_of_first v.own) new.tracks in
    let above = new.above in
    absurd (omega (arith, key, above))

pub not_begun : (e : FiledEntry) → IsNewJob 11 (second (own_view 12 (timer_entry 12 6 ∷ e ∷ []))) → ⊥
not_begun e new = let two = ap (λ (v : BookView FiledEntry). length (entries_of v.own)) new.tracks in absurd (omega (arith, two))

pub not_two : IsNewJob 11 (second (record (own_view 12 (timer_entry 12 6 ∷ [])) { own = track 12 (timer_entry 12 6 ∷ []) ∷ track 11 [] ∷ [] })) → ⊥
not_two new = let two = ap (λ (v : BookView FiledEntry). length v.own) new.tracks in absurd (omega (arith, two))

pub not_shared : IsRightForJob 11 (timer_entry 11 5 ∷ timer_entry 11 6 ∷ []) → ⊥
not_shared right = right.2.1

pub not_turned : HaveNextNumbers 0 (bringing (log_of 11 (timer_entry 12 6 ∷ timer_entry 11 5 ∷ []))) → ⊥
not_turned numbered = absurd (cc numbered.0)
