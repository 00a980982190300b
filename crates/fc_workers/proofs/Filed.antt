-- What a worker files for a job leads the job from its first stage to its end.
use Rattle.std.proofs.Common.{◌≡◌, ℕ, Bool, true, false, List, [], ◌∷◌, length, Option, Some, None, refl, sym, ap, ◌∙◌, subst, ⊎_elim, inl, inr, arith}
use Rattle.std.specs.Prelude.{◌==◌}
use Rattle.std.proofs.lemmas.Bool.Decides.{nat_tests}
use Rattle.coap_msg.specs.declared.types.Emission.{Emission}
use Rattle.fc_observe.specs.declared.entry.Turn.{Turn}
use Rattle.fc_ticket.specs.declared.job.Job.{Job}
use Rattle.fc_registry.specs.Calls.{commit_of, turn_of}
use Rattle.fc_ticket.specs.Runs.{initial_vars_of, run_of}
use Rattle.fc_registry.specs.Changes.{Change, Committed as Wrote, Installed, Removed}
use Rattle.fc_registry.specs.Slots.{Slot}
use Rattle.fc_ticket.specs.Tickets.{Ticket}
use Rattle.fc_ticket.specs.Taken.{Taken}
use Rattle.fc_ticket.specs.Taken.{Given, Missing, Stale, Refused}
use Rattle.fc_book.specs.declared.view.Track.{Track}
use Rattle.fc_book.specs.Tracks.{entries_at, entries_of}
use Rattle.fc_front.specs.Contents.{Content, Unavailable}
use Rattle.fc_core.specs.Stage.{Stage}
use Rattle.fc_core.specs.Stage.{ToAnswer, ToCommit, ToRemove, ToTell, Gone}
use Rattle.fc_core.specs.TurnStage.{TurnStage}
use Rattle.fc_core.specs.TurnStage as turns
use Rattle.fc_core.specs.Stages.{asked_stage, first_or_turn, first_stage, image_of, matched, turn_took}
use Rattle.fc_core.specs.Steps.{Call, Matches, Lists, Takes, Commits, Installs, Rejects, Refuses, Removes, Describes, Raises, RefusesChange, called_at, next_stage}
use Rattle.fc_calls.specs.Logged.{LoggedCall}
use Rattle.fc_calls.specs.Logged.{AnswersRequest, CommitsRun, DrawsId, GivesReadings, GivesUpTurn}
use Rattle.fc_calls.specs.Logged.{InstallsProgram, LooksAt, NotesTurn, RaisesWord, RemovesProgram, TakesForJob, TellsReceipt}
use Rattle.fc_store.specs.Recovery.{Save}
use Rattle.fc_linear.specs.Operations.{FailsToSave, RefusesInstall, Logged, MakesUpdate, Operation, RejectsImage, StageMoves}
use Rattle.fc_filed.specs.declared.entry.FiledEntry.{FiledEntry}
use Rattle.fc_filed.specs.Books.{IsRightForJob}
use Rattle.fc_filed.specs.JobTracks.{FilesForJob, HasJobAt}
use Rattle.fc_filed.specs.Saves.{program_update, refused_save, update_of}
use Rattle.fc_filed.specs.Threads.{HasJobFirst, HasOwnTrack, key_of_first}
use Rattle.fc_filed.proofs.JobTracks.{at_next, files_more, files_none, files_one, led_right, still_first, still_own}
use Rattle.fc_filed.proofs.Sent.{same_or_not}
use Rattle.fc_backend.specs.declared.call_log.CallLog.{CallLog}
use Rattle.fc_backend.specs.Called.{BenchCall, EndsJob, SendsReply, WireCall}
use Rattle.fc_workers.specs.Views.{WorkerView, worker_view, FilesCalls, HasFiledFor}
use Rattle.fc_backend.specs.Filed.{FilesEach, HasFiled, HasFiledChange, HasFiledWith, HasSameTracks}
use Rattle.fc_backend.specs.RightTracks.{HasRightJobs}
use Rattle.fc_backend.specs.Logs.{FilesRefusal, IsUnfiled, TrackedLog}
use Rattle.fc_workers.specs.Outgoing.{GivesAnswer, IsFoundTold, IsGivenUp, IsSent, IsTurnReply, with_reply}
use Rattle.fc_workers.specs.Work.{AreCalls, IsCallOf, IsChangeRefused, IsReplied, IsRequestWorked, IsTurnWorked, IsWorked, IsWorkedAs, stage_after}
use Rattle.fc_backend.specs.Statistics.{Share}

-- ---- the tracks of a log that makes calls for a job

-- the worker has its own track, and a job's track is first.
pub record MayWork (first_job : ℕ) (log : TrackedLog) : Type 0 where
  pub own : HasOwnTrack first_job log.who log.tracks
  pub first : HasJobFirst first_job log.tracks

same : (n : ℕ) → (n == n) ≡ true
same n = grind (arith, nat_tests)

pub at_first : (ts : List (Track FiledEntry)) → entries_at (key_of_first ts) ts ≡ entries_of ts
at_first [] = refl
at_first (t ∷ ts) = rw (same t.key) refl

module _ (first_job : ℕ) (job : Job) where
  abbrev Files : Stage → Stage → TrackedLog → TrackedLog → Type 0
  Files s t before after = HasFiledFor first_job job s t before after

  none : (s : Stage) (before after : TrackedLog) → HasSameTracks before after → Files s s before after
  none s before after same = record { who = same.who; files = files_none first_job before.who job s before.tracks after.tracks same.tracks }

  one_with : (save : Option Save) (operation : Operation) (s t : Stage) (before after : TrackedLog) → MayWork first_job before → HasFiledWith save operation before after → StageMoves operation job s t → Files s t before after
  one_with save operation s t before after may filed moves = record { who = filed.who; files = files_one first_job before.who job s t operation save before.tracks may.own may.first moves after.tracks filed.tracks }

  one : (operation : Operation) (s t : Stage) (before after : TrackedLog) → MayWork first_job before → HasFiled operation before after → StageMoves operation job s t → Files s t before after
  one operation s t before after may filed moves = one_with None operation s t before after may filed moves

  -- a change, with its save or without.
  one_change : (operation : Operation) (s t : Stage) (before after : TrackedLog) → MayWork first_job before → HasFiledChange operation before after → StageMoves operation job s t → Files s t before after
  one_change operation s t before after may filed moves = one_with filed.0 operation s t before after may filed.1 moves

  -- the refusal of the update of a change that the job makes at this stage.
  one_refusal : (change : Change) (image : List ℕ) (s : Stage) (before after : TrackedLog) → MayWork first_job before → FilesRefusal job.origin.slot change image before after
      → ((slot : Slot) → MakesUpdate job (program_update slot change image) s) → Files s (ToAnswer Unavailable) before after
  one_refusal change image s before after may filed makes =
      let update = update_of filed.0 job.origin.slot change image in
      one_with (Some (refused_save update)) (FailsToSave update) s (ToAnswer Unavailable) before after may
      (record { who = ap (λ (l : TrackedLog). l.who) filed.1; tracks = ap (λ (l : TrackedLog). l.tracks) filed.1 })
      (refl, makes filed.0, refl)

  more : (s m t : Stage) (u v w : TrackedLog) → Files s m u v → Files m t v w → Files s t u w
  more s m t u v w a b = record {
    who = b.who ∙ a.who;
    files = files_more first_job u.who job s m t u.tracks v.tracks w.tracks a.files (subst (λ (n : ℕ). FilesForJob first_job n job m t v.tracks w.tracks) a.who b.files);
  }

  still : (s t : Stage) (u v : TrackedLog) → Files s t u v → MayWork first_job u → MayWork first_job v
  still s t u v f may = record {
    own = subst (λ (n : ℕ). HasOwnTrack first_job n v.tracks) (sym f.who) (still_own first_job u.who job s t u.tracks v.tracks f.files may.own);
    first = still_first first_job u.who job s t u.tracks v.tracks f.files may.first;
  }

  -- a call that isn't filed, and then further ones.
  after_none : (s t : Stage) (u v w : TrackedLog) → HasSameTracks u v → MayWork first_job u → (MayWork first_job v → Files s t v w) → Files s t u w
  after_none s t u v w same may rest = let f = none s u v same in more s s t u v w f (rest (still s s u v f may))

  -- a call that is filed, and then further ones.
  after_one : (operation : Operation) (s m t : Stage) (u v w : TrackedLog) → HasFiled operation u v → StageMoves operation job s m → MayWork first_job u → (MayWork first_job v → Files m t v w) → Files s t u w
  after_one operation s m t u v w filed moves may rest = let f = one operation s m u v may filed moves in more s m t u v w f (rest (still s m u v f may))

  module _ {T : Type 0} (w : WorkerView T) (files : FilesCalls w) where
    -- ---- a request

    refused_filed : (number : ℕ) (needs stage : Stage) (before after : TrackedLog) → MayWork first_job before → stage ≡ needs → IsChangeRefused w number job needs before after → Files stage (ToAnswer Unavailable) before after
    refused_filed number (ToCommit count t) stage before after may at is =
        after_none stage (ToAnswer Unavailable) before is.passed after (files.between number before is.passed is.gate) may
        (λ m. after_none stage (ToAnswer Unavailable) is.passed is.asked after (files.time is.now is.passed is.asked is.time) m
        (λ n. one_refusal (Wrote (commit_of t)) [] stage is.asked after n is.filed (λ slot. (count, (t, (at, is.wants, refl))))))
    refused_filed number ToRemove stage before after may at is = one_refusal Removed [] stage before after may is.1 (λ slot. at)
    refused_filed number other stage before after may at is = absurd is

    call_filed : (number : ℕ) (call : Call) (stage : Stage) (before after : TrackedLog) → MayWork first_job before → stage ≡ called_at call → IsCallOf w number job call before after → Files stage (next_stage call) before after
    call_filed number (Matches serials word) stage before after may at is = one (Logged (LooksAt job.origin.slot word)) stage (next_stage (Matches serials word)) before after may
        (files.logged (LooksAt job.origin.slot word) before after is.1) (inl (refl, at, ap (λ (l : List ℕ). matched word l) is.0))
    call_filed number (Lists seen word) stage before after may at is = one (Logged (LooksAt (length seen.items) word)) stage (next_stage (Lists seen word)) before after may
        (files.logged (LooksAt (length seen.items) word) before after is) (inr (seen, refl, at, refl))
    call_filed number (Takes count taken) stage before after may at is =
        after_none stage (next_stage (Takes count taken)) before is.log after (files.logged (GivesReadings is.readings) before is.log is.given) may
        (λ m. one (Logged (TakesForJob job is.readings taken)) stage (next_stage (Takes count taken)) is.log after m
        (files.logged (TakesForJob job is.readings taken) is.log after is.takes) (refl, inl (count, at, refl)))
    call_filed number (Commits count t committed) stage before after may at is =
        after_none stage (next_stage (Commits count t committed)) before is.passed after (files.between number before is.passed is.gate) may
        (λ m. after_none stage (next_stage (Commits count t committed)) is.passed is.asked after (files.time is.now is.passed is.asked is.time) m
        (λ n. one_change (Logged (CommitsRun is.now (run_of t) t committed)) stage (next_stage (Commits count t committed)) is.asked after n
        (files.logged (CommitsRun is.now (run_of t) t committed) is.asked after is.commits) (refl, (count, at, refl))))
    call_filed number (Installs p initial answer) stage before after may at is = one_change (Logged (InstallsProgram job p answer)) stage (next_stage (Installs p initial answer)) before after may
        (files.logged (InstallsProgram job p answer) before after is.3) (refl, is.0, is.1, at, refl)
    call_filed number (Rejects content) stage before after may at is = one (RejectsImage job content) stage (next_stage (Rejects content)) before after may is.1 (refl, is.0, at, refl)
    call_filed number Refuses stage before after may at is = ⊎_elim
        (λ r. one (RefusesInstall job) stage (next_stage Refuses) before after may r.1 (refl, at, refl))
        (λ r. one_refusal (Installed r.0 (initial_vars_of job.ask)) (image_of job.ask) stage before after may r.1.2 (λ slot. (at, refl, r.0, r.1.0, (slot, refl))))
        is
    call_filed number (Removes removal) stage before after may at is = one_change (Logged (RemovesProgram job removal)) stage (next_stage (Removes removal)) before after may
        (files.logged (RemovesProgram job removal) before after is.0) (refl, at, refl)
    call_filed number (Describes receipt) stage before after may at is = one (Logged (TellsReceipt job receipt)) stage (next_stage (Describes receipt)) before after may
        (files.logged (TellsReceipt job receipt) before after is.0) (refl, inl (at, refl))
    call_filed number (Raises word content) stage before after may at is = one (Logged (RaisesWord job.origin.slot word)) stage (next_stage (Raises word content)) before after may
        (files.logged (RaisesWord job.origin.slot word) before after is) (refl, (content, at, refl))
    call_filed number (RefusesChange needs) stage before after may at is = refused_filed number needs stage before after may at is
    call_filed number other stage before after may at is = absurd is

    pub calls_filed : (number : ℕ) (calls : List Call) (before after : TrackedLog) → MayWork first_job before → AreCalls w number job calls before after → Files (asked_stage job) (stage_after job calls) before after
    unfolding AreCalls
    calls_filed number [] before after may are = none (asked_stage job) before after (record { who = ap (λ (l : TrackedLog). l.who) are; tracks = ap (λ (l : TrackedLog). l.tracks) are })
    calls_filed number (call ∷ calls) before after may are =
        let earlier = calls_filed number calls before are.0 may are.1 in
        more (asked_stage job) (stage_after job calls) (next_stage call) before are.0 after earlier
        (call_filed number call (stage_after job calls) are.0 after (still (asked_stage job) (stage_after job calls) before are.0 earlier may) are.2.0 are.2.1)

    answer_filed : (content : Content) (reply : Option Emission) (before after : TrackedLog) → MayWork first_job before → GivesAnswer w job content reply before after → Files (ToAnswer content) Gone before after
    answer_filed content reply before after may is =
        after_none (ToAnswer content) Gone before is.asked after (files.time is.now before is.asked is.time) may
        (λ m. after_one (Logged (AnswersRequest is.now job content reply)) (ToAnswer content) Gone Gone is.asked is.log after
        (files.logged (AnswersRequest is.now job content reply) is.asked is.log is.answers) (refl, refl, refl) m
        (λ n. none Gone is.log after (files.after_answer job reply is.log after is.after_answer)))

    request_filed : (number : ℕ) (before after : Share T) (reply : Option Emission) → MayWork first_job before.log → IsRequestWorked w number job before after reply → Files (asked_stage job) Gone before.log after.log
    request_filed number before after reply may is =
        let calls = is.worked.calls in
        let worked : Files (asked_stage job) (ToAnswer is.content) before.log is.log =
        subst (λ (x : Stage). Files (asked_stage job) x before.log is.log) is.worked.ends (calls_filed number calls before.log is.log may is.worked.are) in
        more (asked_stage job) (ToAnswer is.content) Gone before.log is.log after.log worked
        (answer_filed is.content reply is.log after.log (still (asked_stage job) (ToAnswer is.content) before.log is.log worked may) is.answered)

    -- ---- a lease

    module _ (turn : Turn) where
      given_up : (needs : TurnStage) (reply : Option Emission) (before after : TrackedLog) → MayWork first_job before → IsGivenUp w turn reply before after → Files (ToTell turn needs) Gone before after
      given_up needs reply before after may is =
          after_none (ToTell turn needs) Gone before is.asked after (files.time is.now before is.asked is.time) may
          (λ m. one (Logged (GivesUpTurn turn is.now)) (ToTell turn needs) Gone is.asked after m (files.logged (GivesUpTurn turn is.now) is.asked after is.gives_up) (needs, refl, refl))

      found_told : (found : Option Ticket) (reply : Option Emission) (before after : TrackedLog) → MayWork first_job before → IsFoundTold w turn found reply before after → Files (ToTell turn (turns.ToDraw found)) Gone before after
      found_told found reply before after may (inl is) =
          let needs = ToTell turn (turns.ToDraw found) in
          let told = ToTell turn (turns.ToNote found is.id) in
          after_none needs Gone before is.asked after (files.time is.drawn before is.asked is.time) may
          (λ m. after_one (Logged (DrawsId is.drawn (Some is.id))) needs told Gone is.asked is.log after (files.logged (DrawsId is.drawn (Some is.id)) is.asked is.log is.draws) (turn, found, refl, refl) m
          (λ n. after_none told Gone is.log is.noted.asked after (files.time is.noted.now is.log is.noted.asked is.noted.time) n
          (λ o. one (Logged (NotesTurn turn is.id is.noted.now is.noted.random is.told is.noted.noted)) told Gone is.noted.asked after o
          (files.logged (NotesTurn turn is.id is.noted.now is.noted.random is.told is.noted.noted) is.noted.asked after is.noted.notes) (found, is.tells, refl, refl))))
      found_told found reply before after may (inr is) =
          let needs = ToTell turn (turns.ToDraw found) in
          after_none needs Gone before is.asked after (files.time is.now before is.asked is.time) may
          (λ m. after_one (Logged (DrawsId is.now None)) needs needs Gone is.asked is.log after (files.logged (DrawsId is.now None) is.asked is.log is.draws) (turn, found, refl, refl) m
          (λ n. given_up (turns.ToDraw found) reply is.log after n is.given_up))

      turn_told : (taken : Taken) (reply : Option Emission) (before after : TrackedLog) → MayWork first_job before → IsTurnReply w turn taken reply before after → Files (turn_took turn taken) Gone before after
      turn_told (Given t) reply before after may is = found_told (Some t) reply before after may is
      turn_told Missing reply before after may is = found_told None reply before after may is
      turn_told Stale reply before after may is = none Gone before after (record { who = ap (λ (l : TrackedLog). l.who) is.1; tracks = ap (λ (l : TrackedLog). l.tracks) is.1 })
      turn_told Refused reply before after may is = given_up turns.ToTake reply before after may is

      turn_filed : (before after : Share T) (reply : Option Emission) → MayWork first_job before.log → IsTurnWorked w job turn before after reply → Files (ToTell turn turns.ToTake) Gone before.log after.log
      turn_filed before after reply may is =
          let taken = is.taken in
          let shot = is.snapshot in
          let first = ToTell turn turns.ToTake in
          after_none first Gone before.log shot.log after.log (files.logged (GivesReadings shot.readings) before.log shot.log shot.given) may
          (λ m. after_one (Logged (TakesForJob job shot.readings taken)) first (turn_took turn taken) Gone shot.log is.log after.log
          (files.logged (TakesForJob job shot.readings taken) shot.log is.log shot.takes) (refl, inr (turn, refl, refl)) m
          (λ n. turn_told taken reply is.log after.log n is.told))

    -- ---- a job

    worked_as : (turn : Option ℕ) (number : ℕ) (before after : Share T) (reply : Option Emission) → job.turn ≡ turn → MayWork first_job before.log → IsWorkedAs w turn number job before after reply → Files (first_stage job) Gone before.log after.log
    worked_as None number before after reply at may is = subst (λ (o : Option ℕ). Files (first_or_turn o job) Gone before.log after.log) (sym at) (request_filed number before after reply may is)
    worked_as (Some n) number before after reply at may is = subst (λ (o : Option ℕ). Files (first_or_turn o job) Gone before.log after.log) (sym at) (turn_filed (turn_of job n) before after reply may is)

    pub worked_filed : (number : ℕ) (before after : Share T) (reply : Option Emission) → MayWork first_job before.log → IsWorked w number job before after reply → Files (first_stage job) Gone before.log after.log
    worked_filed number before after reply may is = worked_as job.turn number before after reply refl may is

    -- what is sent for the job, and its end, are not filed.
    sent_filed : (number : ℕ) (reply : Option Emission) (before after : Share T) → IsSent w number reply before after → HasSameTracks before.log after.log
    sent_filed number None before after is = record { who = ap (λ (p : Share T). p.log.who) is; tracks = ap (λ (p : Share T). p.log.tracks) is }
    sent_filed number (Some reply) before after is = counted is.0 is.1 is.2 is.3
      where
        with_same : (out : Bool) (share : Share T) → (with_reply out share).log ≡ share.log
        with_same true share = refl
        with_same false share = refl

        counted : (out : Bool) (log : TrackedLog) → w.wire (SendsReply number reply out) before.log log → after ≡ with_reply out (record before { log = log }) → HasSameTracks before.log after.log
        counted out log wired is =
            let same = files.wire (SendsReply number reply out) before.log log wired in
            let at : after.log ≡ log = ap (λ (p : Share T). p.log) is ∙ with_same out (record before { log = log }) in
            record { who = ap (λ (l : TrackedLog). l.who) at ∙ same.who; tracks = ap (λ (l : TrackedLog). l.tracks) at ∙ same.tracks }

    pub replied_filed : (number : ℕ) (before after : Share T) → MayWork first_job before.log → IsReplied w number job before after → Files (first_stage job) Gone before.log after.log
    replied_filed number before after may is =
        let finished = is.finished in
        let sent = sent_filed number is.reply is.share (record after { log = finished.log }) finished.sent in
        let over = files.wire (EndsJob number) finished.log after.log finished.over in
        more (first_stage job) Gone Gone before.log finished.log after.log
        (more (first_stage job) Gone Gone before.log is.share.log finished.log (worked_filed number before is.share is.reply may is.worked) (none Gone is.share.log finished.log sent))
        (none Gone finished.log after.log over)

  -- ---- between two jobs

  pub still_right : (s t : Stage) (before after : TrackedLog) → Files s t before after → HasJobAt first_job job s before.tracks → HasRightJobs first_job before.tracks → HasRightJobs first_job after.tracks
  still_right s t before after f at right k le has = ⊎_elim
      (λ (e : k ≡ key_of_first before.tracks.own). subst (λ (j : ℕ). IsRightForJob first_job (entries_at j after.tracks.own)) (f.files.first ∙ sym e)
      (subst (λ (es : List FiledEntry). IsRightForJob first_job es) (sym (at_first after.tracks.own)) (led_right first_job before.who job (entries_of after.tracks.own) t (at_next first_job before.who job s t before.tracks after.tracks f.files at).led)))
      (λ (other : k ≡ key_of_first before.tracks.own → ⊥). subst (λ (es : List FiledEntry). IsRightForJob first_job es) (sym (f.files.others k le other)) (right k le (f.files.none_gained k has)))
      (same_or_not k (key_of_first before.tracks.own))

  module _ {T : Type 0} (w : WorkerView T) (files : FilesCalls w) where
    pub right_after : (number : ℕ) (before after : Share T) → HasOwnTrack first_job before.log.who before.log.tracks → HasJobAt first_job job (first_stage job) before.log.tracks → HasRightJobs first_job before.log.tracks → IsReplied w number job before after
        → Files (first_stage job) Gone before.log after.log × HasJobAt first_job job Gone after.log.tracks × HasRightJobs first_job after.log.tracks
    right_after number before after own at right replied =
        let f = replied_filed w files number before after (record { own = own; first = at.key }) replied in
        (f, at_next first_job before.log.who job (first_stage job) Gone before.log.tracks after.log.tracks f.files at, still_right (first_stage job) Gone before.log after.log f at right)

-- ---- the calls of a worker

unfiled : (Leads : CallLog → CallLog → Type 0) (before after : TrackedLog) → IsUnfiled Leads before after → HasSameTracks before after
unfiled Leads before after is = record { who = ap (λ (l : TrackedLog). l.who) is.1; tracks = ap (λ (l : TrackedLog). l.tracks) is.1 }

-- a worker of a backend files each of its logged calls, and no others.
pub bench_files : {T : Type 0} (changes : T → ℕ → ℕ) (ended : T → ℕ) (bench : BenchCall → Type 0) (logged : LoggedCall → TrackedLog → TrackedLog → Type 0) (time : ℕ → CallLog → CallLog → Type 0)
    (random : ℕ → Type 0) (gate : ℕ → CallLog → CallLog → Type 0) (answered : Job → Option Emission → CallLog → CallLog → Type 0) (wire : WireCall → CallLog → CallLog → Type 0)
    → FilesEach logged → FilesCalls (worker_view changes ended bench logged time random gate answered wire)
bench_files changes ended bench logged time random gate answered wire files = record {
  logged = files;
  time = λ now before after is. unfiled (time now) before after is;
  between = λ number before after is. unfiled (gate number) before after is;
  after_answer = λ job sent before after is. unfiled (answered job sent) before after is;
  wire = λ call before after is. unfiled (wire call) before after is;
}
