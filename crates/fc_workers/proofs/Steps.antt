-- The steps of a job, and the list of its calls.
use Rattle.std.proofs.Common.{◌≡◌, ℕ, ◌+◌, ◌<◌, ◌≤◌, Bool, true, false, if◌then◌else◌, refl, sym, ap, subst, ◌∙◌, arith, List, [], ◌∷◌, ◌++◌, Option, Some, None, append_assoc, length-append}
use Rattle.std.specs.Prelude.{length, nat_lt, ◌==◌, ◌%◌}
use borrow.Author.Tests.{ltb-true}
use Rattle.std.proofs.lemmas.Bool.{le-ltb, lt-ltb}
use Rattle.fc_kinds.specs.Meaning.{Program}
use Rattle.fc_verify.specs.Accepted.{Accepts}
use Rattle.fc_verify.specs.Judged.{judged}
use Rattle.fc_verify.specs.Refusals.{IsRefusal}
use Rattle.fc_verify.specs.declared.refusal.Refusal.TheVariants.{Broken}
use Rattle.fc_machine.specs.Ran.{Ran, ran}
use Rattle.fc_help.specs.Request.{Request}
use Rattle.fc_observe.specs.Observers.{ObserverList}
use Rattle.fc_ticket.specs.declared.job.Ask.{Ask}
use Rattle.fc_ticket.specs.declared.job.Ask.TheVariants.{Run, Discover}
use Rattle.fc_ticket.specs.declared.job.Job.{Job}
use Rattle.fc_ticket.specs.declared.job.Origin.{Origin}
use Rattle.fc_ticket.specs.declared.receipt.Receipt.{Receipt}
use Rattle.fc_isa.specs.declared.rule.Fault.{Fault}
use Rattle.fc_isa.specs.Rules.{number_of}
use Rattle.fc_ticket.specs.Taken.{Taken}
use Rattle.fc_registry.specs.declared.shard.Made.{Made}
use Rattle.fc_registry.specs.declared.shard.Made.TheVariants.{Raised, AtEnd}
use Rattle.fc_registry.specs.declared.shard.Removal.{Removal}
use Rattle.fc_registry.specs.declared.shard.Removal.TheVariants as removals
use Rattle.arrayvec.specs.ArrayVec.{ArrayVec}
use Rattle.fc_registry.specs.declared.commit.Committed.{Committed}
use Rattle.fc_registry.specs.declared.commit.Committed.TheVariants.{Done, Overtaken, Ended, Stranger}
use Rattle.fc_ticket.specs.Tickets.{Present, Ticket}
use Rattle.fc_registry.specs.Slots.{Slot}
use Rattle.fc_registry.specs.Calls.{is_out_at, readings_if, snapshot, snapshot_by as snapshot_of_job, turn_of, turn_snapshot}
use Rattle.fc_ticket.specs.Runs.{receipt_of, run_of, initial_vars_of}
use Rattle.fc_ticket.specs.Taken.{SlotSnapshot}
use Rattle.fc_core.specs.declared.stage.Step.{Step}
use Rattle.fc_core.specs.Room.{stage_of}
use Rattle.fc_core.specs.Stage.{Stage}
use Rattle.fc_core.specs.Stage.{ToMatch, ToTake, ToCommit, ToInstall, ToRemove, ToDescribe, ToList, ToRaise, ToAnswer}
use Rattle.fc_front.specs.Contents.{Content, IsOf, Listed, Unavailable}
use Rattle.fc_front.specs.Heads.{head_word, is_match}
use Rattle.fc_front.specs.Ends.{refused, refused_by}
use Rattle.fc_core.specs.Fits.{IsSafe}
use Rattle.fc_core.specs.Stages.{asked_stage, first_by, image_of, listed, matched, matched_by, run_content, removed, receipt_content, took, after_commit, made, snapshots}
use Rattle.fc_core.specs.Steps.{Call, Takes, Commits, Installs, Lists, Matches, Rejects, Refuses, RefusesChange, Removes, Describes, Raises}
use Rattle.fc_backend.specs.Statistics.{Share}
use Rattle.fc_backend.specs.Answers.{AreTallied, commit_overtakings, ended_by, saturated, snapshot_refusals, IsSnapshotWith, IsSomeInstall, IsSomeReceipt, IsSomeRemoval, IsSomeSnapshot}
use Rattle.fc_calls.specs.Kept.{commit_changes, install_changes, removal_changes}
use Rattle.fc_backend.specs.Logs.{TrackedLog}
use Rattle.fc_calls.specs.Logged.{InstallsProgram, LoggedCall, LooksAt, RaisesWord, RemovesProgram, TellsReceipt}
use Rattle.fc_linear.specs.Operations.{RejectsImage}
use Rattle.fc_workers.specs.Views.{WorkerView}
use Rattle.fc_backend.specs.Filed.{HasFiled}
use Rattle.fc_workers.specs.Steps.{AreSeen, AsksRun, Follows, IsPlainRun, IsReady, IsStep, ListsOn, Walked, taken_at}
use Rattle.fc_workers.specs.Work.{AreCalls, IsCallAt, IsChangeRefused, IsCommitted, IsInstallRefused, IsWorkedOff, HasCounted, stage_after, change_by, overtaking_by, refusal_by, snapshots_made, total}

-- ---- a step, stored in the job's state

-- if a stage is made of a step and the state's other data, it is also made of a step that equals
-- this one.
pub stands_at : (stage : Stage) (step needs : Step) (f : SlotSnapshot) (seen : ArrayVec ℕ) (content : Content) → stage_of step f seen content ≡ stage
    → step ≡ needs → stage ≡ stage_of needs f seen content
stands_at stage step needs f seen content view is = sym view ∙ ap (λ (s : Step). stage_of s f seen content) is

-- ---- counts of a step

none_tallied : (b : Bool) (x : ℕ) → x ≡ x + (if b then 0 else 0)
none_tallied true x = omega arith
none_tallied false x = omega arith

-- unchanged tallies have risen by 0 changes.
pub same_tallies : (changes : ℕ → ℕ) (n : ℕ) → AreTallied changes changes n 0
same_tallies changes n = λ shard less. none_tallied (shard == n % 8) (changes shard)

-- tallies that rise by k changes rise by 0 + k, the total of a list of one call.
one_tallied : (before after : ℕ → ℕ) (n k : ℕ) → AreTallied before after n k → AreTallied before after n (0 + k)
one_tallied before after n k rises = subst (λ (x : ℕ). AreTallied before after n x) (omega arith) rises

-- ---- the stage after a call

-- if a job may take one more snapshot, the stage that the snapshot leads to can follow, and a
-- ticket belongs to the job.
snapshot_follows : (kept : Option (List ℕ)) (job : Job) (n serial : ℕ) (p : Option Present) → n < snapshots
    → Follows job (ToTake n) 1 (took n (snapshot kept job serial p))
snapshot_follows kept job n serial None less = record { ready = tt; fewer = omega (arith, less); few = omega (arith, less) }
snapshot_follows (Some readings) job n serial (Some p) less = record
    { ready = (omega (arith, less), refl); fewer = omega (arith, less); few = omega (arith, less) }
snapshot_follows None job n serial (Some p) less = record { ready = tt; fewer = omega (arith, less); few = omega (arith, less) }

turn_follows : (out : Bool) (kept : Option (List ℕ)) (job : Job) (n serial : ℕ) (p : Option Present) → n < snapshots
    → Follows job (ToTake n) 1 (took n (turn_snapshot out kept job serial p))
turn_follows true kept job n serial p less = snapshot_follows kept job n serial p less
turn_follows false kept job n serial p less = record { ready = tt; fewer = omega (arith, less); few = omega (arith, less) }

by_turn_follows : (turn : Option ℕ) (kept : Option (List ℕ)) (job : Job) (n : ℕ) (slot : Slot) (now : ℕ) (w : ObserverList) → n < snapshots
    → Follows job (ToTake n) 1 (took n (snapshot_of_job turn kept job slot now w))
by_turn_follows None kept job n slot now w less = snapshot_follows kept job n slot.serial slot.present less
by_turn_follows (Some number) kept job n slot now w less = turn_follows (is_out_at (turn_of job number) now w) kept job n slot.serial slot.present less

took_follows : (job : Job) (n : ℕ) (readings : List ℕ) (x : Taken) → n < snapshots → IsSomeSnapshot job readings x → Follows job (ToTake n) 1 (took n x)
took_follows job n readings x less is = subst (λ (x : Taken). Follows job (ToTake n) 1 (took n x)) (sym is.snapshot.1)
    (by_turn_follows job.turn (readings_if is.snapshot.0 readings) job n is.slot is.now is.watch less)

-- a request's snapshot is never stale, so it leaves the number of ended jobs unchanged.
finding_ends : (kept : Option (List ℕ)) (job : Job) (serial ended : ℕ) (p : Option Present) → ended_by (snapshot kept job serial p) ended ≡ ended
finding_ends kept job serial ended None = refl
finding_ends (Some readings) job serial ended (Some p) = refl
finding_ends None job serial ended (Some p) = refl

pub asked_ends : (job : Job) (readings : List ℕ) (x : Taken) (ended : ℕ) → job.turn ≡ None → IsSomeSnapshot job readings x → ended_by x ended ≡ ended
asked_ends job readings x ended none is =
    let kept = readings_if is.snapshot.0 readings in
    let found : x ≡ snapshot kept job is.slot.serial is.slot.present = is.snapshot.1 ∙ ap
    (λ (o : Option ℕ). snapshot_of_job o kept job is.slot is.now is.watch) none in
    ap (λ (y : Taken). ended_by y ended) found ∙ finding_ends kept job is.slot.serial ended is.slot.present

retaken_follows : (job : Job) (n : ℕ) (t : Ticket) (b : Bool) → nat_lt n snapshots ≡ b → n ≤ snapshots
    → Follows job (ToCommit n t) 0 (if b then ToTake n else ToAnswer Unavailable)
retaken_follows job n t true e le = record { ready = ltb-true n snapshots e; fewer = omega arith; few = omega arith }
retaken_follows job n t false e le = record { ready = tt; fewer = omega arith; few = omega (arith, le) }

done_follows : (job : Job) (n : ℕ) (t : Ticket) (b observed : Bool) (word : ℕ) → IsReady job (ToCommit n t)
    → Follows job (ToCommit n t) 0 (if b then ToRaise word (run_content t observed) else ToAnswer (run_content t observed))
done_follows job n t true observed word r = record { ready = r.1; fewer = omega arith; few = omega (arith, r.0) }
done_follows job n t false observed word r = record { ready = r.1; fewer = omega arith; few = omega (arith, r.0) }

commit_follows : (job : Job) (n : ℕ) (t : Ticket) (c : Committed) → IsReady job (ToCommit n t) → Follows job (ToCommit n t) 0 (after_commit n t c)
commit_follows job n t (Done m) r = done_follows job n t m.changed m.observed (head_word m.serial true) r
commit_follows job n t Overtaken r = retaken_follows job n t (nat_lt n snapshots) refl r.0
commit_follows job n t Ended r = record { ready = tt; fewer = omega arith; few = omega (arith, r.0) }
commit_follows job n t Stranger r = record { ready = tt; fewer = omega arith; few = omega (arith, r.0) }

made_follows : (job : Job) (r : Receipt) (x : Made) → Follows job ToInstall 0 (made r x)
made_follows job r (Raised serial created) = record { ready = tt; fewer = omega arith; few = omega arith }
made_follows job r AtEnd = record { ready = tt; fewer = omega arith; few = omega arith }

removed_follows : (job : Job) (x : Removal) → Follows job ToRemove 0 (removed x)
removed_follows job (removals.Removed serial) = record { ready = tt; fewer = omega arith; few = omega arith }
removed_follows job removals.Absent = record { ready = tt; fewer = omega arith; few = omega arith }
removed_follows job removals.AtEnd = record { ready = tt; fewer = omega arith; few = omega arith }

told_follows : (job : Job) (x : Option Receipt) → Follows job ToDescribe 0 (ToAnswer (receipt_content x))
told_follows job None = record { ready = tt; fewer = omega arith; few = omega arith }
told_follows job (Some receipt) = record { ready = tt; fewer = omega arith; few = omega arith }

matched_follows : (job : Job) (b : Bool) (word : ℕ) → Follows job ToMatch 0 (matched_by b word)
matched_follows job true word = record { ready = tt; fewer = omega arith; few = omega arith }
matched_follows job false word = record { ready = omega arith; fewer = omega arith; few = omega arith }

listed_follows : (job : Job) (seen : ArrayVec ℕ) (words : List ℕ) (b : Bool) → length words ≡ length seen.items + 1 → length seen.items < 64
    → nat_lt (length words) 64 ≡ b → Follows job (ToList seen) 0 (if b then ToList (record { items = words }) else ToAnswer (Listed words))
listed_follows job seen words true len lt e = record { ready = ltb-true (length words) 64 e; fewer = omega (arith, len, lt); few = omega arith }
listed_follows job seen words false len lt e = record { ready = tt; fewer = omega (arith, lt); few = omega arith }

rejected_follows : (job : Job) (f : Fault) (b : Bool) → Follows job ToInstall 0 (ToAnswer (refused_by b f))
rejected_follows job f true = record { ready = tt; fewer = omega arith; few = omega arith }
rejected_follows job f false = record { ready = tt; fewer = omega arith; few = omega arith }

-- ---- a step of each stage

module _ {T : Type 0} (worker_view : WorkerView T) (number : ℕ) (job : Job) where
  -- a step to a stage and statistics is also one to a stage and statistics that equal these.
  is_step : (old : Stage) {new next : Stage} {before after counted : Share T} → new ≡ next → after ≡ counted → IsStep worker_view number job old next before counted
      → IsStep worker_view number job old new before after
  is_step old {new} {next} {before} {after} {counted} e c s = subst (λ (x : Stage). IsStep worker_view number job old x before after) (sym e)
      (subst (λ (p : Share T). IsStep worker_view number job old next before p) (sym c) s)

  -- a step from a stage is also one from a stage that equals it.
  pub from_stage : {old at next : Stage} {before after : Share T} → old ≡ at → IsStep worker_view number job at next before after
      → IsStep worker_view number job old next before after
  from_stage {old} {at} {next} {before} {after} e s = subst (λ (x : Stage). IsStep worker_view number job x next before after) (sym e) s

  pub took_step : (n : ℕ) (x : Taken) (p : Share T) (tallies : T) (log : TrackedLog) {next : Stage} {after : Share T} → n < snapshots
      → IsSnapshotWith worker_view.logged job x p.log log
      → ((shard : ℕ) → shard < 8 → worker_view.changes tallies shard ≡ worker_view.changes p.tallies shard) → next ≡ took n x
      → after ≡ record p { tallies = tallies; log = log; refusals = saturated (p.refusals + snapshot_refusals x) }
      → IsStep worker_view number job (ToTake n) next p after
  took_step n x p tallies log less is same e c = is_step (ToTake n) e c (record {
    call = Takes n x;
    is = (refl, is);
    next = refl;
    follows = took_follows job n is.readings x less is.is;
    counted = record {
      tallies = λ shard lt. same shard lt ∙ same_tallies (worker_view.changes p.tallies) job.origin.slot shard lt;
      refusals = omega arith;
      overtakings = omega arith;
      got = refl;
      sent = refl;
      failed = refl;
    };
  })

  pub commit_step : (n : ℕ) (t : Ticket) (x : Committed) (p : Share T) (tallies : T) (log : TrackedLog) {next : Stage} {after : Share T}
      → IsReady job (ToCommit n t) → IsCommitted worker_view number t x p.log log
      → AreTallied (worker_view.changes p.tallies) (worker_view.changes tallies) t.origin.slot (commit_changes x) → next ≡ after_commit n t x
      → after ≡ record p { tallies = tallies; log = log; overtakings = saturated (p.overtakings + commit_overtakings x) }
      → IsStep worker_view number job (ToCommit n t) next p after
  commit_step n t x p tallies log ready is rises e c = is_step (ToCommit n t) e c (record {
    call = Commits n t x;
    is = (refl, is);
    next = refl;
    follows = commit_follows job n t x ready;
    counted = record {
      tallies = one_tallied (worker_view.changes p.tallies) (worker_view.changes tallies) job.origin.slot (commit_changes x)
          (subst (λ (o : Origin). AreTallied (worker_view.changes p.tallies) (worker_view.changes tallies) o.slot (commit_changes x)) ready.1 rises);
      refusals = omega arith;
      overtakings = omega arith;
      got = refl;
      sent = refl;
      failed = refl;
    };
  })

  pub install_step : (program : Program) (x : Made) (p : Share T) (tallies : T) (log : TrackedLog) {next : Stage} → judged (image_of job.ask) ≡ Accepts program → IsSafe program
      → worker_view.logged (InstallsProgram job program x) p.log log → IsSomeInstall (initial_vars_of job.ask) program x → AreTallied (worker_view.changes p.tallies) (worker_view.changes tallies) job.origin.slot (install_changes x)
      → next ≡ made (receipt_of program 0) x → IsStep worker_view number job ToInstall next p (record p { tallies = tallies; log = log })
  install_step program x p tallies log accepted safe installs is rises e = is_step ToInstall e refl (record {
    call = Installs program (initial_vars_of job.ask) x;
    is = (refl, (accepted, safe, refl, installs, is));
    next = refl;
    follows = made_follows job (receipt_of program 0) x;
    counted = record {
      tallies = one_tallied (worker_view.changes p.tallies) (worker_view.changes tallies) job.origin.slot (install_changes x) rises;
      refusals = omega arith;
      overtakings = omega arith;
      got = refl;
      sent = refl;
      failed = refl;
    };
  })

  pub remove_step : (x : Removal) (p : Share T) (tallies : T) (log : TrackedLog) {next : Stage} → worker_view.logged (RemovesProgram job x) p.log log → IsSomeRemoval x
      → AreTallied (worker_view.changes p.tallies) (worker_view.changes tallies) job.origin.slot (removal_changes x) → next ≡ removed x
      → IsStep worker_view number job ToRemove next p (record p { tallies = tallies; log = log })
  remove_step x p tallies log removes is rises e = is_step ToRemove e refl (record {
    call = Removes x;
    is = (refl, (removes, is));
    next = refl;
    follows = removed_follows job x;
    counted = record {
      tallies = one_tallied (worker_view.changes p.tallies) (worker_view.changes tallies) job.origin.slot (removal_changes x) rises;
      refusals = omega arith;
      overtakings = omega arith;
      got = refl;
      sent = refl;
      failed = refl;
    };
  })

  -- a call without a change, a refused allocation or a conflict leaves the counts unchanged.
  logged_only : (call : Call) (p : Share T) (log : TrackedLog) → change_by call ≡ 0 → refusal_by call ≡ 0 → overtaking_by call ≡ 0
      → HasCounted worker_view job.origin.slot (call ∷ []) p (record p { log = log })
  logged_only call p log none no_refusal no_overtaking = record {
    tallies = subst (λ (n : ℕ). AreTallied (worker_view.changes p.tallies) (worker_view.changes p.tallies) job.origin.slot (0 + n)) (sym none)
        (same_tallies (worker_view.changes p.tallies) job.origin.slot);
    refusals = omega (arith, no_refusal);
    overtakings = omega (arith, no_overtaking);
    got = refl;
    sent = refl;
    failed = refl;
  }

  pub describe_step : (x : Option Receipt) (p : Share T) (log : TrackedLog) {next : Stage} → worker_view.logged (TellsReceipt job x) p.log log → IsSomeReceipt x
      → next ≡ ToAnswer (receipt_content x) → IsStep worker_view number job ToDescribe next p (record p { log = log })
  describe_step x p log tells is e = is_step ToDescribe e refl (record {
    call = Describes x;
    is = (refl, (tells, is));
    next = refl;
    follows = told_follows job x;
    counted = logged_only (Describes x) p log refl refl refl;
  })

  pub match_step : (word : ℕ) (p : Share T) (log : TrackedLog) {next : Stage} → worker_view.logged (LooksAt job.origin.slot word) p.log log
      → next ≡ matched word job.etags.items → IsStep worker_view number job ToMatch next p (record p { log = log })
  match_step word p log looks e = is_step ToMatch e refl (record {
    call = Matches job.etags.items word;
    is = (refl, (refl, looks));
    next = refl;
    follows = matched_follows job (is_match word job.etags.items) word;
    counted = logged_only (Matches job.etags.items word) p log refl refl refl;
  })

  pub list_step : (seen : ArrayVec ℕ) (word : ℕ) (p : Share T) (log : TrackedLog) {next : Stage} → worker_view.logged (LooksAt (length seen.items) word) p.log log
      → length seen.items < 64 → next ≡ listed (seen.items ++ word ∷ []) → IsStep worker_view number job (ToList seen) next p (record p { log = log })
  list_step seen word p log looks lt e = is_step (ToList seen) e refl (record {
    call = Lists seen word;
    is = (refl, looks);
    next = refl;
    follows = listed_follows job seen (seen.items ++ word ∷ []) (nat_lt (length (seen.items ++ word ∷ [])) 64) (length-append seen.items (word ∷ [])) lt refl;
    counted = logged_only (Lists seen word) p log refl refl refl;
  })

  -- if the job's image breaks a rule, its rejection is a step to the answer with this fault, and
  -- counts nothing.
  pub reject_step : (f : Fault) (p : Share T) (log : TrackedLog) {next : Stage} → IsRefusal (image_of job.ask) (Broken f) → HasFiled (RejectsImage job (refused (Broken f))) p.log log → next ≡ ToAnswer (refused (Broken f))
      → IsStep worker_view number job ToInstall next p (record p { log = log })
  reject_step f p log is filed e = is_step ToInstall e refl (record {
    call = Rejects (refused (Broken f));
    is = (refl, ((f, is, refl), filed));
    next = refl;
    follows = rejected_follows job f (nat_lt (number_of f.rule) 20);
    counted = record {
      tallies = same_tallies (worker_view.changes p.tallies) job.origin.slot;
      refusals = omega arith;
      overtakings = omega arith;
      got = refl;
      sent = refl;
      failed = refl;
    };
  })

  -- if the program of the job's image isn't installed, this is a step to the answer `Unavailable`,
  -- and is counted.
  pub refuse_step : (p : Share T) (tallies : T) (log : TrackedLog) {next : Stage} {after : Share T} → IsInstallRefused worker_view job p.log log
      → AreTallied (worker_view.changes p.tallies) (worker_view.changes tallies) job.origin.slot 0 → next ≡ ToAnswer Unavailable
      → after ≡ record p { tallies = tallies; log = log; refusals = saturated (p.refusals + 1) } → IsStep worker_view number job ToInstall next p after
  refuse_step p tallies log is rises e c = is_step ToInstall e c (record {
    call = Refuses;
    is = (refl, is);
    next = refl;
    follows = record { ready = tt; fewer = omega arith; few = omega arith };
    counted = record {
      tallies = one_tallied (worker_view.changes p.tallies) (worker_view.changes tallies) job.origin.slot 0 rises;
      refusals = omega arith;
      overtakings = omega arith;
      got = refl;
      sent = refl;
      failed = refl;
    };
  })

  unsaved_follows : (old : Stage) (before after : TrackedLog) → IsReady job old → IsChangeRefused worker_view number job old before after → Follows job old 0 (ToAnswer Unavailable)
  unsaved_follows (ToCommit count t) before after ready is = let few = ready.0 in record { ready = tt; fewer = omega arith; few = omega (arith, few) }
  unsaved_follows ToRemove before after ready is = record { ready = tt; fewer = omega arith; few = omega arith }
  unsaved_follows other before after ready is = absurd is

  -- if the job's change can't be saved, this is a step to the answer `Unavailable`, and is counted.
  pub unsaved_step : (old : Stage) (p : Share T) (tallies : T) (log : TrackedLog) {next : Stage} {after : Share T} → IsReady job old → IsChangeRefused worker_view number job old p.log log
      → AreTallied (worker_view.changes p.tallies) (worker_view.changes tallies) job.origin.slot 0 → next ≡ ToAnswer Unavailable
      → after ≡ record p { tallies = tallies; log = log; refusals = saturated (p.refusals + 1) } → IsStep worker_view number job old next p after
  unsaved_step old p tallies log ready is rises e c = is_step old e c (record {
    call = RefusesChange old;
    is = (refl, is);
    next = refl;
    follows = unsaved_follows old p.log log ready is;
    counted = record {
      tallies = one_tallied (worker_view.changes p.tallies) (worker_view.changes tallies) job.origin.slot 0 rises;
      refusals = omega arith;
      overtakings = omega arith;
      got = refl;
      sent = refl;
      failed = refl;
    };
  })

  pub raise_step : (word : ℕ) (content : Content) (p : Share T) (log : TrackedLog) → worker_view.logged (RaisesWord job.origin.slot word) p.log log → IsOf job content
      → IsStep worker_view number job (ToRaise word content) (ToAnswer content) p (record p { log = log })
  raise_step word content p log raises own = record {
    call = Raises word content;
    is = (refl, raises);
    next = refl;
    follows = record { ready = own; fewer = omega arith; few = omega arith };
    counted = record {
      tallies = same_tallies (worker_view.changes p.tallies) job.origin.slot;
      refusals = omega arith;
      overtakings = omega arith;
      got = refl;
      sent = refl;
      failed = refl;
    };
  }

-- the outcome of a run with the ticket's program, request, variables and readings is that of the
-- ticket's run.
pub is_run : (r : Ran) (t : Ticket) (p : Program) (request : Request) (vars readings : List ℕ) → r ≡ ran p request vars readings → p ≡ t.found.program
    → request ≡ t.request → vars ≡ t.found.vars → readings ≡ t.readings → r ≡ run_of t
is_run r t p request vars readings e by for on with_them = e ∙ λ i. ran (by i) (for i) (on i) (with_them i)

-- ---- the calls so far

first_ready : (job : Job) (ask : Ask) (serials : List ℕ) → IsReady job (first_by ask serials)
first_ready job (Run request) [] = omega arith
first_ready job (Run request) (x ∷ xs) = tt
first_ready job Discover serials = omega arith
first_ready job other serials = tt

no_calls : {T : Type 0} (worker_view : WorkerView T) (number : ℕ) (job : Job) (log : TrackedLog) → AreCalls worker_view number job [] log log
unfolding AreCalls
no_calls worker_view number job log = refl

pub sets_out : {T : Type 0} (worker_view : WorkerView T) (number : ℕ) (job : Job) (p : Share T) → Walked worker_view number job (asked_stage job) p p
sets_out worker_view number job p = record {
  calls = [];
  are = no_calls worker_view number job p.log;
  stands = refl;
  ready = first_ready job job.ask job.etags.items;
  few = omega arith;
  counted = record {
    tallies = same_tallies (worker_view.changes p.tallies) job.origin.slot;
    refusals = omega arith;
    overtakings = omega arith;
    got = refl;
    sent = refl;
    failed = refl;
  };
}

more_calls : {T : Type 0} (worker_view : WorkerView T) (number : ℕ) (job : Job) (calls : List Call) (call : Call) (before now after : TrackedLog)
    → AreCalls worker_view number job calls before now → IsCallAt worker_view number job (stage_after job calls) call now after
    → AreCalls worker_view number job (call ∷ calls) before after
unfolding AreCalls
more_calls worker_view number job calls call before now after are is = (now, are, is)

tallied_on : (b : Bool) (before now after x y : ℕ) → now ≡ before + (if b then x else 0) → after ≡ now + (if b then 0 + y else 0)
    → after ≡ before + (if b then x + y else 0)
tallied_on true before now after x y e f = omega (arith, e, f)
tallied_on false before now after x y e f = omega (arith, e, f)

counts_on : {T : Type 0} (worker_view : WorkerView T) (n : ℕ) (calls : List Call) (call : Call) (before now after : Share T) → HasCounted worker_view n calls before now
    → HasCounted worker_view n (call ∷ []) now after → HasCounted worker_view n (call ∷ calls) before after
counts_on worker_view n calls call before now after c d = record {
  tallies = λ shard less. tallied_on (shard == n % 8) (worker_view.changes before.tallies shard) (worker_view.changes now.tallies shard) (worker_view.changes after.tallies shard)
      (total change_by calls) (change_by call) (c.tallies shard less) (d.tallies shard less);
  refusals = omega (arith, c.refusals, d.refusals);
  overtakings = omega (arith, c.overtakings, d.overtakings);
  got = d.got ∙ c.got;
  sent = d.sent ∙ c.sent;
  failed = d.failed ∙ c.failed;
}

-- if calls led the job to a stage, they and one more step from there lead it to the step's next
-- stage.
pub walks_on : {T : Type 0} (worker_view : WorkerView T) (number : ℕ) (job : Job) {stage at next : Stage} {before now after : Share T} → stage ≡ at
    → Walked worker_view number job stage before now → IsStep worker_view number job at next now after → Walked worker_view number job next before after
walks_on worker_view number job {stage} {at} {next} {before} {now} {after} e w s =
    let here = sym e ∙ w.stands in
    record {
      calls = s.call ∷ w.calls;
      are = more_calls worker_view number job w.calls s.call before.log now.log after.log w.are
          (subst (λ (x : Stage). IsCallAt worker_view number job x s.call now.log after.log) here s.is);
      stands = s.next;
      ready = s.follows.ready;
      few = omega (arith, subst (λ (x : Stage). total snapshots_made w.calls ≤ taken_at x) e w.few, s.follows.few);
      counted = counts_on worker_view job.origin.slot w.calls s.call before now after w.counted s.counted;
    }

-- ---- a run without ETags

plain_by : (ask : Ask) (serials : List ℕ) → AsksRun ask → serials ≡ [] → first_by ask serials ≡ ToTake 0
plain_by (Run request) serials run none = ap (first_by (Run request)) none
plain_by other serials run none = absurd run

-- its first step is a snapshot.
pub plain_takes : (job : Job) → IsPlainRun job → asked_stage job ≡ ToTake 0
plain_takes job plain = plain_by job.ask job.etags.items plain.run plain.no_etags

pub arrives : {T : Type 0} (worker_view : WorkerView T) (number : ℕ) (job : Job) (stage : Stage) (content : Content) (before now : Share T) → stage ≡ ToAnswer content
    → Walked worker_view number job stage before now → IsWorkedOff worker_view number job content before now
arrives worker_view number job stage content before now e w = record {
  calls = w.calls;
  are = w.are;
  ends = sym w.stands ∙ e;
  few = subst (λ (x : Stage). total snapshots_made w.calls ≤ taken_at x) e w.few;
  own = subst (λ (x : Stage). IsReady job x) e w.ready;
  counted = w.counted;
}

-- if words were read from slot n on, and then the next slot's word, all of them were read from slot
-- n on.
pub more_seen : (Logged : LoggedCall → TrackedLog → TrackedLog → Type 0) (n word : ℕ) (words : List ℕ) (before now after : TrackedLog) → AreSeen Logged n words before now
    → Logged (LooksAt (n + length words) word) now after → AreSeen Logged n (words ++ word ∷ []) before after
more_seen Logged n word [] before now after seen looks =
    (after, subst (λ (l : TrackedLog). Logged (LooksAt n word) l after) seen (subst (λ (k : ℕ). Logged (LooksAt k word) now after) (omega arith) looks), refl)
more_seen Logged n word (w ∷ ws) before now after seen looks = (
  seen.0,
  seen.1,
  more_seen Logged (n + 1) word ws seen.0 now after seen.2 (subst (λ (k : ℕ). Logged (LooksAt k word) now after) (omega arith) looks),
)

module _ {T : Type 0} (worker_view : WorkerView T) (number : ℕ) (job : Job) where
  -- if the remaining head words are read, the job's calls lead it to the answer that lists all of
  -- them.
  walks_list : (seen : ArrayVec ℕ) (more : List ℕ) (log : TrackedLog) {stage : Stage} {before now : Share T} → stage ≡ ToList seen
      → AreSeen worker_view.logged (length seen.items) more now.log log → 0 < length more → length (seen.items ++ more) ≡ 64 → Walked worker_view number job stage before now
      → Walked worker_view number job (ToAnswer (Listed (seen.items ++ more))) before (record now { log = log })
  walks_list seen [] log at looks some all w = absurd (omega (arith, some))
  walks_list seen (word ∷ []) log {stage} {before} {now} at looks some all w =
      let lt : length seen.items < 64 = subst (λ (x : Stage). IsReady job x) at w.ready in
      let words = seen.items ++ word ∷ [] in
      let last : nat_lt (length words) 64 ≡ false = le-ltb (length words) 64 (omega (arith, all)) in
      let next = sym (ap (λ (b : Bool). if b then ToList (record { items = words }) else ToAnswer (Listed words)) last) in
      let looked = subst (λ (l : TrackedLog). worker_view.logged (LooksAt (length seen.items) word) now.log l) (sym looks.2) looks.1 in
      walks_on worker_view number job at w (list_step worker_view number job seen word now log looked lt next)
  walks_list seen (word ∷ next ∷ more) log {stage} {before} {now} at looks some all w =
      let lt : length seen.items < 64 = subst (λ (x : Stage). IsReady job x) at w.ready in
      let words = seen.items ++ word ∷ [] in
      let on : ArrayVec ℕ = record { items = words } in
      let same = append_assoc seen.items (word ∷ []) (next ∷ more) in
      let full : length (words ++ next ∷ more) ≡ 64 = ap length same ∙ all in
      let long = length-append words (next ∷ more) in
      let one : length words ≡ length seen.items + 1 = length-append seen.items (word ∷ []) in
      let left = subst (λ (k : ℕ). AreSeen worker_view.logged k (next ∷ more) looks.0 log) (sym one) looks.2 in
      let yet : nat_lt (length words) 64 ≡ true = lt-ltb (length words) 64 (omega (arith, full, long)) in
      let goes_on = sym (ap (λ (b : Bool). if b then ToList on else ToAnswer (Listed words)) yet) in
      let step = walks_on worker_view number job at w (list_step worker_view number job seen word now looks.0 {next = ToList on} looks.1 lt goes_on) in
      subst (λ (ws : List ℕ). Walked worker_view number job (ToAnswer (Listed ws)) before (record now { log = log })) same
      (walks_list on (next ∷ more) log refl left (omega arith) full step)

  pub lists_on : (seen : ArrayVec ℕ) (words : List ℕ) (log : TrackedLog) {stage : Stage} {before now : Share T} → stage ≡ ToList seen
      → ListsOn worker_view.logged seen.items words now.log log → Walked worker_view number job stage before now
      → Walked worker_view number job (ToAnswer (Listed words)) before (record now { log = log })
  lists_on seen words log {stage} {before} {now} at lists w =
      subst (λ (ws : List ℕ). Walked worker_view number job (ToAnswer (Listed ws)) before (record now { log = log })) (sym lists.are)
      (walks_list seen lists.more log at lists.looks lists.some (sym (ap length lists.are) ∙ lists.all) w)
