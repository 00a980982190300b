-- A job that may not change its slot changes no slot, whatever its calls return.
use Rattle.std.proofs.Common.{◌≡◌, ◌∙◌, ℕ, ◌+◌, ◌<◌, Bool, true, false, List, [], ◌∷◌, ◌++◌, length, Option, Some, None, arith, refl, sym, ap, subst}
use Rattle.std.specs.Prelude.{◌%◌, ◌==◌, ◌&&◌, if◌then◌else◌, nat_lt, is_none}
use Rattle.coap_msg.specs.declared.types.Emission.{Emission}
use Rattle.fc_front.specs.Contents.{Listed, Unavailable}
use Rattle.fc_front.specs.Heads.{head_word, is_match}
use Rattle.fc_core.specs.Stage.{Stage}
use Rattle.fc_core.specs.Stage.{ToCommit, ToInstall, ToList, ToRaise, ToRemove, ToTake, ToAnswer}
use Rattle.fc_core.specs.Stages.{after_commit, first_by, matched_by, run_content, snapshots, took}
use Rattle.fc_core.specs.Steps.{Call, Matches, Lists, Takes, Commits, Installs, Rejects, Refuses, RefusesChange, Removes, Describes, Raises, called_at, next_stage}
use Rattle.fc_registry.specs.Calls.{ComesTo, commits, is_post, readings_if, snapshot, snapshot_by, wants}
use Rattle.fc_ticket.specs.Runs.{meaning_at, request_of, run_of}
use Rattle.fc_registry.specs.Record.{code_class}
use Rattle.fc_observe.specs.Observers.{ObserverList}
use Rattle.fc_ticket.specs.Tickets.{Present, Ticket}
use Rattle.fc_registry.specs.Slots.{Slot}
use Rattle.fc_ticket.specs.Taken.{Taken}
use Rattle.fc_registry.specs.declared.commit.CommitOutcome.{CommitOutcome}
use Rattle.fc_registry.specs.declared.commit.CommitOutcome.TheVariants.{Writes, Keeps, Overtakes, Ends}
use Rattle.fc_registry.specs.declared.commit.Committed.{Committed}
use Rattle.fc_registry.specs.declared.commit.Committed.TheVariants.{Done, Overtaken, Ended, Stranger}
use Rattle.fc_ticket.specs.declared.job.Ask.{Ask}
use Rattle.fc_ticket.specs.declared.job.Ask.TheVariants.{Run, Install, Remove, Describe, Discover}
use Rattle.fc_ticket.specs.declared.job.Job.{Job}
use Rattle.fc_calls.specs.Kept.{commit_changes}
use Rattle.fc_backend.specs.Answers.{IsSomeCommit, IsSomeSnapshot}
use Rattle.fc_workers.specs.Views.{WorkerView}
use Rattle.fc_workers.specs.Dispatch.{may_change_slot, requests_change}
use Rattle.fc_backend.specs.Logs.{TrackedLog}
use Rattle.fc_workers.specs.Outgoing.{IsSent, with_reply}
use Rattle.fc_workers.specs.Work.{AreCalls, IsCallOf, IsReplied, IsWorkedAs, change_by, stage_after, total}
use Rattle.fc_backend.specs.Statistics.{Share}

-- ---- stages

-- a job changes no slot by a call at this stage.
abbrev KeepsSlots : Stage → Type 0
KeepsSlots (ToCommit count t) = is_post t.request.method ≡ false
KeepsSlots ToInstall = ⊥
KeepsSlots ToRemove = ⊥
KeepsSlots other = Unit {0}

keeps_first : (ask : Ask) (serials : List ℕ) → requests_change ask ≡ false → KeepsSlots (first_by ask serials)
keeps_first (Run request) [] never = tt
keeps_first (Run request) (serial ∷ serials) never = tt
keeps_first (Install image initial) serials never = absurd (cc never)
keeps_first Remove serials never = absurd (cc never)
keeps_first Describe serials never = tt
keeps_first Discover serials never = tt

keeps_matched : (is : Bool) (word : ℕ) → KeepsSlots (matched_by is word)
keeps_matched true word = tt
keeps_matched false word = tt

keeps_either : (more : Bool) (one other : Stage) → KeepsSlots one → KeepsSlots other → KeepsSlots (if more then one else other)
keeps_either true one other k l = k
keeps_either false one other k l = l

-- the request of a job that may not change its slot is no POST.
no_post : (ask : Ask) → requests_change ask ≡ false → is_post (request_of ask).method ≡ false
no_post (Run request) never = never
no_post (Install image initial) never = absurd (cc never)
no_post Remove never = absurd (cc never)
no_post Describe never = refl
no_post Discover never = refl

keeps_found : (job : Job) (kept : Option (List ℕ)) (serial : ℕ) (present : Option Present) (count : ℕ) → requests_change job.ask ≡ false → KeepsSlots (took count (snapshot kept job serial present))
keeps_found job kept serial None count never = tt
keeps_found job (Some readings) serial (Some found) count never = no_post job.ask never
keeps_found job None serial (Some found) count never = tt

keeps_took : (job : Job) (readings : List ℕ) (count : ℕ) (taken : Taken) → job.turn ≡ None → requests_change job.ask ≡ false → IsSomeSnapshot job readings taken → KeepsSlots (took count taken)
keeps_took job readings count taken turn never is =
    let kept = readings_if is.snapshot.0 readings in
    let found : taken ≡ snapshot kept job is.slot.serial is.slot.present =
    is.snapshot.1 ∙ ap (λ (t : Option ℕ). snapshot_by t kept job is.slot is.now is.watch) turn in
    subst (λ (t : Taken). KeepsSlots (took count t)) (sym found) (keeps_found job kept is.slot.serial is.slot.present count never)

-- ---- a commit

-- a run that doesn't want to write changes nothing.
outcome_keeps : (t : Ticket) (c : Committed) (watch : ObserverList) (slot : Slot) (to : CommitOutcome) → wants t ≡ false → ComesTo t slot to → c ≡ (commits to t slot.serial watch).answer → commit_changes c ≡ 0
outcome_keeps t c watch slot Keeps never is answer = ap commit_changes answer
outcome_keeps t c watch slot Overtakes never is answer = absurd (cc (never, is.0))
outcome_keeps t c watch slot Ends never is answer = absurd (cc (never, is.0))
outcome_keeps t c watch slot Writes never is answer = absurd (cc (never, is.0))

commit_keeps : (t : Ticket) (c : Committed) → is_post t.request.method ≡ false → IsSomeCommit (run_of t) t c → commit_changes c ≡ 0
commit_keeps t (Done m) never is =
    let unwanted : wants t ≡ false = ap (λ (b : Bool). b && (code_class (meaning_at t).code == 2)) never in
    let own = is.commit.1 in
    outcome_keeps t (Done m) is.watch is.slot own.comes_to unwanted own.is own.answer
commit_keeps t Overtaken never is = refl
commit_keeps t Ended never is = refl
commit_keeps t Stranger never is = refl

keeps_committed : (count : ℕ) (t : Ticket) (c : Committed) → KeepsSlots (after_commit count t c)
keeps_committed count t (Done m) = keeps_either m.changed (ToRaise (head_word m.serial true) (run_content t m.observed)) (ToAnswer (run_content t m.observed)) tt tt
keeps_committed count t Overtaken = keeps_either (nat_lt count snapshots) (ToTake count) (ToAnswer Unavailable) tt tt
keeps_committed count t Ended = tt
keeps_committed count t Stranger = tt

-- ---- the calls of a job

module _ {T : Type 0} (s : WorkerView T) (number : ℕ) (job : Job) (turn : job.turn ≡ None) (never : requests_change job.ask ≡ false) where
  call_keeps : (call : Call) (before after : TrackedLog) → KeepsSlots (called_at call) → IsCallOf s number job call before after → (change_by call ≡ 0) × KeepsSlots (next_stage call)
  call_keeps (Matches serials word) before after can is = (refl, keeps_matched (is_match word serials) word)
  call_keeps (Lists seen word) before after can is =
      let words = seen.items ++ word ∷ [] in
      (refl, keeps_either (nat_lt (length words) 64) (ToList (record { items = words })) (ToAnswer (Listed words)) tt tt)
  call_keeps (Takes count taken) before after can is = (refl, keeps_took job is.readings count taken turn never is.is)
  call_keeps (Commits count t c) before after can is = (commit_keeps t c can is.commit, keeps_committed count t c)
  call_keeps (Installs p initial made) before after can is = absurd can
  call_keeps (Rejects content) before after can is = absurd can
  call_keeps Refuses before after can is = absurd can
  call_keeps (Removes removal) before after can is = absurd can
  call_keeps (RefusesChange at) before after can is = (refl, tt)
  call_keeps (Describes receipt) before after can is = (refl, tt)
  call_keeps (Raises word content) before after can is = (refl, tt)
  call_keeps other before after can is = absurd is

  calls_keep : (calls : List Call) (before after : TrackedLog) → AreCalls s number job calls before after → (total change_by calls ≡ 0) × KeepsSlots (stage_after job calls)
  unfolding AreCalls
  calls_keep [] before after is = (refl, keeps_first job.ask job.etags.items never)
  calls_keep (call ∷ calls) before after is =
      let earlier = calls_keep calls before is.0 is.1 in
      let last = call_keeps call is.0 after (subst KeepsSlots is.2.0 earlier.1) is.2.1 in
      (omega (arith, earlier.0, last.0), last.1)

-- ---- a job

-- the tally of a shard after no change of a slot.
not_tallied : (is : Bool) (count changes : ℕ) → changes ≡ 0 → count + (if is then changes else 0) ≡ count
not_tallied true count changes none = omega (arith, none)
not_tallied false count changes none = omega arith

module _ {T : Type 0} (s : WorkerView T) where
  reply_keeps : (out : Bool) (share : Share T) → (with_reply out share).tallies ≡ share.tallies
  reply_keeps true share = refl
  reply_keeps false share = refl

  sent_keeps : (number : ℕ) (reply : Option Emission) (before after : Share T) → IsSent s number reply before after → after.tallies ≡ before.tallies
  sent_keeps number None before after is = ap (λ (p : Share T). p.tallies) is
  sent_keeps number (Some reply) before after is =
      ap (λ (p : Share T). p.tallies) is.3 ∙ reply_keeps is.0 (record before { log = is.1 })

  worked_keeps : (turn : Option ℕ) (number : ℕ) (job : Job) (before after : Share T) (reply : Option Emission) → job.turn ≡ turn → (is_none turn && requests_change job.ask) ≡ false
      → IsWorkedAs s turn number job before after reply → (shard : ℕ) → shard < 8 → s.changes after.tallies shard ≡ s.changes before.tallies shard
  worked_keeps None number job before after reply turn never is shard lt =
      let calls = calls_keep s number job turn never is.worked.calls before.log is.log is.worked.are in
      is.worked.counted.tallies shard lt ∙ not_tallied (shard == job.origin.slot % 8) (s.changes before.tallies shard) (total change_by is.worked.calls) calls.0
  worked_keeps (Some lease) number job before after reply turn never is shard lt = is.kept.tallies shard lt

  -- the job of a reply changes no slot of a shard.
  pub replied_keeps : (number : ℕ) (job : Job) (before after : Share T) → may_change_slot job ≡ false → IsReplied s number job before after
      → (shard : ℕ) → shard < 8 → s.changes after.tallies shard ≡ s.changes before.tallies shard
  replied_keeps number job before after never is shard lt =
      ap (λ (t : T). s.changes t shard) (sent_keeps number is.reply is.share (record after { log = is.finished.log }) is.finished.sent)
      ∙ worked_keeps job.turn number job before is.share is.reply refl never is.worked shard lt
