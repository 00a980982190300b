-- The transitions of a history: the effect of each event on the job that it names, and on that
-- job's slot and shard. An event is a call for the job. The result of the call depends on the slot
-- and the slot's surroundings. The transition of an event is the effect of its call. An event that
-- is no call leaves the job unchanged.
use Rattle.std.specs.Prelude.{◌≡◌, ℕ, ◌/◌, ◌==◌, Bool, true, false, Option, Some, None, List, [], ◌∷◌, length, max}
use Rattle.coap_msg.specs.declared.types.Emission.{Emission}
use Rattle.fc_verify.specs.Accepted.{Judgement, Accepts, Breaks, Untypable}
use Rattle.fc_verify.specs.Judged.{judged}
use Rattle.fc_observe.specs.Calls.{ObserverCall, GiveUp as GiveUpTurn}
use Rattle.fc_observe.specs.declared.entry.Turn.{Turn}
use Rattle.fc_observe.specs.Observers.{ObserverList}
use Rattle.fc_ticket.specs.declared.job.Job.{Job}
use Rattle.fc_ticket.specs.declared.job.InitialVars.{InitialVars}
use Rattle.fc_registry.specs.Slots.{Slot, Shard, slot_in, with_slot}
use Rattle.fc_ticket.specs.Tickets.{Ticket}
use Rattle.fc_registry.specs.Changes.{Change, after_changes}
use Rattle.fc_registry.specs.Watches.{watch_at, with_calls}
use Rattle.fc_registry.specs.Calls.{commit_calls, commits, install_in, is_out_at, outcome, readings_if, receipt_at, remove_from, snapshot, turn_calls, turn_snapshot}
use Rattle.fc_ticket.specs.Runs.{initial_vars_of}
use Rattle.fc_ticket.specs.Notes.{note_at, note_calls}
use Rattle.fc_front.specs.Contents.{Rejected, Untyped}
use Rattle.fc_front.specs.Heads.{published, word_at}
use Rattle.fc_core.specs.declared.event.Event.{Event}
use Rattle.fc_core.specs.declared.event.Event.TheVariants.{Peek, Take, Commit, Install, Remove, Refuse, Receipt, Raise, Answer, Fresh, Note, GiveUp, Lose}
use Rattle.fc_core.specs.Stage.{Stage}
use Rattle.fc_core.specs.Stage.{ToMatch, ToTake, ToCommit, ToInstall, ToRemove, ToDescribe, ToList, ToRaise, ToAnswer, ToTell}
use Rattle.fc_core.specs.TurnStage as turns
use Rattle.fc_core.specs.declared.stage.Task.{Task}
use Rattle.fc_core.specs.Stages.{image_of, is_refusable}
use Rattle.fc_core.specs.Steps.{Call, Matches, Lists, Takes, Commits, Installs, Rejects, Refuses, RefusesChange, Removes, Describes, Raises, Answers, TakesTurn, Draws, Notes, GivesUp, Loses, changes_of_call, next_stage, word_of_call}

-- the job that an event names, if any.
abbrev pub names : Event → Option ℕ
names (Peek job slot) = Some job
names (Take job memory readings) = Some job
names (Commit job now) = Some job
names (Install job memory) = Some job
names (Remove job) = Some job
names (Refuse job) = Some job
names (Receipt job) = Some job
names (Raise job) = Some job
names (Answer job now) = Some job
names (Fresh job now) = Some job
names (Note job now random) = Some job
names (GiveUp job now) = Some job
names (Lose job) = Some job
names other = None

-- ---- inputs of an event

-- inputs that the jobs of all slots share: the head words, and the message ID that is available at
-- each time.
pub record Common : Type 0 where
  pub words : List ℕ
  pub free : ℕ → Option ℕ

-- the surroundings of a job's slot: the shared inputs, the time of the slot's shard, and the slot's
-- observers.
pub record Around : Type 0 where
  pub common : Common
  pub time : ℕ
  pub watch : ObserverList

-- the inputs of an event for the job that it names.
pub record Inputs : Type 0 where
  pub job : Job
  pub slot : Slot
  pub around : Around
  pub stage : Stage

-- ---- the call of an event

-- the call if this condition holds, otherwise none.
abbrev pub call_if : Bool → Call → Option Call
call_if true call = Some call
call_if false call = None

-- the call of an install by the judgement of its image, if it isn't refused.
abbrev pub install_call : InitialVars → Judgement → Slot → Call
install_call initial (Accepts p) slot = Installs p initial (install_in slot p initial).answer
install_call initial (Breaks rule k) slot = Rejects (Rejected rule k)
install_call initial Untypable slot = Rejects Untyped

-- the call of an install. `false` says that memory can't be allocated or that the install can't be
-- saved.
abbrev pub install_if : Bool → InitialVars → Judgement → Slot → Call
install_if true initial judgement slot = install_call initial judgement slot
install_if false initial judgement slot = Refuses

-- the call of an event for the job that it names, with the call's result; `None` if the job's stage
-- needs another call.
abbrev pub call_at : Event → Inputs → Stage → Option Call
call_at (Peek job n) s ToMatch = call_if (n == s.job.origin.slot) (Matches s.job.etags.items (word_at s.around.common.words n))
call_at (Peek job n) s (ToList seen) = call_if (n == length seen.items) (Lists seen (word_at s.around.common.words n))
call_at (Take job memory readings) s (ToTake count) = Some (Takes count (snapshot (readings_if memory readings) s.job s.slot.serial s.slot.present))
call_at (Take job memory readings) s (ToTell turn turns.ToTake) =
    Some (TakesTurn turn (turn_snapshot (is_out_at turn s.around.time s.around.watch) (readings_if memory readings) s.job s.slot.serial s.slot.present))
call_at (Commit job now) s (ToCommit count t) = Some (Commits count t (commits (outcome t s.slot) t s.slot.serial s.around.watch).answer)
call_at (Install job memory) s ToInstall = Some (install_if memory (initial_vars_of s.job.ask) (judged (image_of s.job.ask)) s.slot)
call_at (Remove job) s ToRemove = Some (Removes (remove_from s.slot).answer)
call_at (Refuse job) s at = call_if (is_refusable at) (RefusesChange at)
call_at (Receipt job) s ToDescribe = Some (Describes (receipt_at s.slot.present))
call_at (Raise job) s (ToRaise word content) = Some (Raises word content)
call_at (Answer job now) s (ToAnswer content) = Some (Answers content)
call_at (Fresh job now) s (ToTell turn (turns.ToDraw found)) = Some (Draws turn found (s.around.common.free now))
call_at (Note job now random) s (ToTell turn (turns.ToNote found id)) = Some (Notes turn found id)
call_at (GiveUp job now) s (ToTell turn needs) = Some (GivesUp turn needs)
call_at (Lose job) s needs = Some (Loses needs)
call_at other s needs = None

-- ---- the effect of an event

-- the transition of a job. It has the job's new stage, the changes of the job's slot, and the calls
-- on the slot's observers, the newest first. It also has the time passed to the slot's shard, and
-- the head word raised for the slot, if any.
pub record Effect : Type 0 where
  pub stage : Stage
  pub changes : List Change
  pub calls : List ObserverCall
  pub hands : Option ℕ
  pub raises : Option ℕ

-- the transition to this stage, with no other effect.
abbrev pub goes_to : Stage → Effect
goes_to stage = record { stage = stage; changes = []; calls = []; hands = None; raises = None }

-- the time that an event passes to the shard of its job's slot, if any.
abbrev pub handed_in : Event → Option ℕ
handed_in (Commit job now) = Some now
handed_in (Note job now random) = Some now
handed_in (GiveUp job now) = Some now
handed_in other = None

-- the random word that an event has for a notification, or 0.
abbrev pub random_in : Event → ℕ
random_in (Note job now random) = random
random_in other = 0

-- the later of a time and the time that is passed, if any.
abbrev pub handed : Option ℕ → ℕ → ℕ
handed None before = before
handed (Some now) before = max before now

-- the calls of a call on the slot's observers. The time is that of the shard after the event, and
-- the random word that of a notification.
abbrev pub calls_of_call : ℕ → ℕ → Inputs → Call → List ObserverCall
calls_of_call at random s (TakesTurn turn taken) = turn_calls turn at s.slot.present s.around.watch
calls_of_call at random s (Commits count t committed) = commit_calls committed at t
calls_of_call at random s (Notes turn found id) = note_calls turn id random at found (note_at turn id at found s.around.watch)
calls_of_call at random s (GivesUp turn needs) = GiveUpTurn turn at ∷ []
calls_of_call at random s other = []

abbrev pub effect_of : Event → Inputs → Option Call → Effect
effect_of e s None = goes_to s.stage
effect_of e s (Some c) = record {
  stage = next_stage c;
  changes = changes_of_call c;
  calls = calls_of_call (handed (handed_in e) s.around.time) (random_in e) s c;
  hands = handed_in e;
  raises = word_of_call c;
}

-- the transition of an event: the effect of the event's call.
abbrev pub transition : Event → Inputs → Effect
transition e s = effect_of e s (call_at e s s.stage)

-- the notification that a lease sends at this stage, if any.
abbrev pub notification : ℕ → Inputs → Stage → Option Emission
notification now s (ToTell turn (turns.ToNote found id)) = note_at turn id (max s.around.time now) found s.around.watch
notification now s other = None

-- the emission of an event for the job that it names, apart from the job's answer.
abbrev pub sends : Event → Inputs → Option Emission
sends (Note job now random) s = notification now s s.stage
sends other s = None

-- ---- on a task and its shard

abbrev pub inputs_at : Task → Slot → Around → Inputs
inputs_at task slot around = record { job = task.job; slot = slot; around = around; stage = task.stage }

-- the surroundings of slot n at its shard.
abbrev pub around_of : Shard → Common → ℕ → Around
around_of shard common n = record { common = common; time = shard.now; watch = watch_at shard (n / 8) }

-- the inputs of an event on a task, at the shard of the task's slot.
abbrev pub inputs_of : Shard → Common → Task → Inputs
inputs_of shard common task = inputs_at task (slot_in shard task.job.origin.slot) (around_of shard common task.job.origin.slot)

abbrev pub task_moved : Task → Effect → Task
task_moved task m = record { job = task.job; stage = m.stage }

-- the shard after a transition of a job of slot n.
abbrev pub shard_moved : Effect → ℕ → Shard → Shard
shard_moved m n shard = with_calls m.calls n (with_slot (record shard { now = handed m.hands shard.now }) n (after_changes (slot_in shard n) m.changes))

-- the notification that a lease sends for its snapshot at a shard, after this time was passed to
-- the shard.
abbrev pub note_on : Shard → ℕ → Turn → ℕ → Option Ticket → Option Emission
note_on shard now turn id found = note_at turn id (max shard.now now) found (watch_at shard (turn.slot / 8))

-- the call of a commit of this ticket at a shard.
abbrev pub commit_call : Shard → ℕ → Ticket → Call
commit_call shard count t =
    let slot = slot_in shard t.origin.slot in
    Commits count t (commits (outcome t slot) t slot.serial (watch_at shard (t.origin.slot / 8))).answer

abbrev pub commit_effect : Shard → ℕ → Ticket → ℕ → Effect
commit_effect shard count t now =
    let slot = slot_in shard t.origin.slot in
    record {
      stage = next_stage (commit_call shard count t);
      changes = changes_of_call (commit_call shard count t);
      calls = commit_calls (commits (outcome t slot) t slot.serial (watch_at shard (t.origin.slot / 8))).answer (max shard.now now) t;
      hands = Some now;
      raises = None;
    }

-- the transition of an install by the judgement of its image, if it isn't refused.
abbrev pub install_effect : InitialVars → Judgement → Inputs → Effect
install_effect initial judgement s = effect_of (Install 0 true) s (Some (install_call initial judgement s.slot))

-- the shard after a transition of this task.
abbrev pub shard_after : Effect → Task → Shard → Shard
shard_after m task shard = shard_moved m task.job.origin.slot shard

-- the task after an event. The shared inputs may be any, since transitions of slots don't depend on
-- them.
abbrev pub TaskMoves : Event → Shard → Task → Task → Type 0
TaskMoves e shard old new = (common : Common) → new ≡ task_moved old (transition e (inputs_of shard common old))

-- the shard of a task's slot after an event on the task, for any shared inputs.
abbrev pub ShardMoves : Event → Shard → Task → Shard → Type 0
ShardMoves e old task new = (common : Common) → new ≡ shard_after (transition e (inputs_of old common task)) task old

-- the head words after a transition of this task.
abbrev pub words_after : Effect → Task → List ℕ → List ℕ
words_after m task words = published m.raises task.job.origin.slot words
