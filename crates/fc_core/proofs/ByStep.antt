-- Transitions by cases of one value, a step, instead of an event and a stage. An event that is a
-- call is a step, with the data of the event and of the stage that needs the call. A refused change
-- is a step with what the laws ask of it. Any other event doesn't change its job.
use Rattle.std.proofs.Common.{◌≡◌, ℕ, Bool, true, false, Option, Some, None, List, [], refl, ap, length, max}
use Rattle.std.specs.Prelude.{◌==◌, not}
use Rattle.arrayvec.specs.ArrayVec.{ArrayVec}
use Rattle.fc_observe.specs.declared.entry.Turn.{Turn}
use Rattle.fc_ticket.specs.declared.job.Job.{Job}
use Rattle.fc_registry.specs.Changes.{Change}
use Rattle.fc_registry.specs.declared.commit.CommitOutcome.{CommitOutcome}
use Rattle.fc_registry.specs.Calls.{commit_calls, commits, is_out_at, outcome, readings_if, receipt_at, remove_from, snapshot, turn_snapshot}
use Rattle.fc_ticket.specs.Runs.{initial_vars_of}
use Rattle.fc_registry.specs.Slots.{Slot}
use Rattle.fc_ticket.specs.Tickets.{Ticket}
use Rattle.fc_verify.specs.Judged.{judged}
use Rattle.fc_core.specs.declared.event.Event.{Event}
use Rattle.fc_core.specs.declared.event.Event.TheVariants.{Peek, Take, Commit, Install, Remove, Refuse, Receipt, Raise, Answer, Fresh, Note, GiveUp, Lose}
use Rattle.fc_core.specs.Stage.{Stage}
use Rattle.fc_core.specs.Stage.{ToMatch, ToTake, ToCommit, ToInstall, ToRemove, ToDescribe, ToList, ToRaise, ToAnswer, ToTell, Gone}
use Rattle.fc_core.specs.TurnStage.{TurnStage}
use Rattle.fc_core.specs.TurnStage as turns
use Rattle.fc_front.specs.Contents.{Content, Unavailable}
use Rattle.fc_core.specs.AnswerLaws.{IsUnavailable, Unsaved, transition_time}
use Rattle.fc_core.specs.Laws.{gives, is_answered, is_noop_at}
use Rattle.fc_front.specs.Heads.{word_at}
use Rattle.fc_core.specs.Transitions.{Around, Effect, Inputs, call_if, install_if, effect_of, goes_to, names, transition, call_at}
use Rattle.fc_core.specs.Stages.{after_commit, image_of, is_refusable}
use Rattle.fc_core.specs.Steps.{Call, changes_of_call}
use Rattle.fc_core.specs.Steps as calls

abbrev at : Job → Slot → Around → Stage → Inputs
at job slot ws stage = record { job = job; slot = slot; around = ws; stage = stage }

-- a request's job at this stage has no answer yet.
abbrev pub IsUnanswered : Stage → Type 0
IsUnanswered (ToRaise word content) = ⊥
IsUnanswered (ToAnswer content) = ⊥
IsUnanswered (ToTell turn needs) = ⊥
IsUnanswered Gone = ⊥
IsUnanswered other = Unit {0}

-- an event that refuses its job at this stage: the job's answer becomes 5.03 for a reason, and
-- nothing else changes. The event isn't a no-op, answers nothing, passes no time and gives no
-- ticket.
pub record Refusal : Type 0 where
  pub event : ℕ → Event
  pub stage : Stage
  pub named : (k : ℕ) → names (event k) ≡ Some k
  pub unanswered : IsUnanswered stage
  pub needed : (k own : ℕ) → is_noop_at (event k) own stage ≡ false
  pub answered : (k : ℕ) → is_answered (event k) stage ≡ false
  pub times : (k : ℕ) → transition_time (event k) stage ≡ []
  pub given : (k : ℕ) (job : Job) (slot : Slot) (ws : Around) (cs : List Change) → gives (event k) (at job slot ws stage) cs ≡ []
  pub reason : (k : ℕ) (job : Job) (slot : Slot) (taken : ℕ) → IsUnavailable (event k) k job slot stage taken

-- an event at a stage that needs it, with the data of the event and of the stage.
pub data Step : Type 0 where
  -- reads of the head word of slot n: by a run, and by a list of head words.
  Matches : (n : ℕ) → Step
  Lists : (n : ℕ) (seen : ArrayVec ℕ) → Step
  -- snapshots of a run and of a lease.
  Takes : (memory : Bool) (readings : List ℕ) (count : ℕ) → Step
  TakesTurn : (memory : Bool) (readings : List ℕ) (turn : Turn) → Step
  Commits : (now count : ℕ) (t : Ticket) → Step
  Installs : (memory : Bool) → Step
  Removes : Step
  Refuses : (refusal : Refusal) → Step
  Describes : Step
  Raises : (word : ℕ) (content : Content) → Step
  Answers : (now : ℕ) (content : Content) → Step
  Draws : (now : ℕ) (turn : Turn) (found : Option Ticket) → Step
  Notes : (now random : ℕ) (turn : Turn) (found : Option Ticket) (id : ℕ) → Step
  GivesUp : (now : ℕ) (turn : Turn) (needs : TurnStage) → Step
  -- the loss of a worker, whatever its job needs.
  Loses : (needs : Stage) → Step

-- the event of a step, for job k.
abbrev pub event_by : ℕ → Step → Event
event_by k (Matches n) = Peek k n
event_by k (Lists n seen) = Peek k n
event_by k (Takes memory readings count) = Take k memory readings
event_by k (TakesTurn memory readings turn) = Take k memory readings
event_by k (Commits now count t) = Commit k now
event_by k (Installs memory) = Install k memory
event_by k Removes = Remove k
event_by k (Refuses refusal) = refusal.event k
event_by k Describes = Receipt k
event_by k (Raises word content) = Raise k
event_by k (Answers now content) = Answer k now
event_by k (Draws now turn found) = Fresh k now
event_by k (Notes now random turn found id) = Note k now random
event_by k (GivesUp now turn needs) = GiveUp k now
event_by k (Loses needs) = Lose k

-- the stage of a step.
abbrev pub stage_by : Step → Stage
stage_by (Matches n) = ToMatch
stage_by (Lists n seen) = ToList seen
stage_by (Takes memory readings count) = ToTake count
stage_by (TakesTurn memory readings turn) = ToTell turn turns.ToTake
stage_by (Commits now count t) = ToCommit count t
stage_by (Installs memory) = ToInstall
stage_by Removes = ToRemove
stage_by (Refuses refusal) = refusal.stage
stage_by Describes = ToDescribe
stage_by (Raises word content) = ToRaise word content
stage_by (Answers now content) = ToAnswer content
stage_by (Draws now turn found) = ToTell turn (turns.ToDraw found)
stage_by (Notes now random turn found id) = ToTell turn (turns.ToNote found id)
stage_by (GivesUp now turn needs) = ToTell turn needs
stage_by (Loses needs) = needs

-- the head word that is read is the one that the stage needs.
abbrev pub IsAsked : Step → Job → Type 0
IsAsked (Matches n) job = (n == job.origin.slot) ≡ true
IsAsked (Lists n seen) job = (n == length seen.items) ≡ true
IsAsked other job = Unit {0}

-- the call of a step, with the result that the job's slot and its surroundings determine. A refusal
-- has the call of a refused install, since its effect doesn't depend on its call.
abbrev pub call_by : Step → Job → Slot → Around → Call
call_by (Matches n) job slot ws = calls.Matches job.etags.items (word_at ws.common.words n)
call_by (Lists n seen) job slot ws = calls.Lists seen (word_at ws.common.words n)
call_by (Takes memory readings count) job slot ws = calls.Takes count (snapshot (readings_if memory readings) job slot.serial slot.present)
call_by (TakesTurn memory readings turn) job slot ws = calls.TakesTurn turn (turn_snapshot (is_out_at turn ws.time ws.watch) (readings_if memory readings) job slot.serial slot.present)
call_by (Commits now count t) job slot ws = calls.Commits count t (commits (outcome t slot) t slot.serial ws.watch).answer
call_by (Installs memory) job slot ws = install_if memory (initial_vars_of job.ask) (judged (image_of job.ask)) slot
call_by Removes job slot ws = calls.Removes (remove_from slot).answer
call_by (Refuses refusal) job slot ws = calls.Refuses
call_by Describes job slot ws = calls.Describes (receipt_at slot.present)
call_by (Raises word content) job slot ws = calls.Raises word content
call_by (Answers now content) job slot ws = calls.Answers content
call_by (Draws now turn found) job slot ws = calls.Draws turn found (ws.common.free now)
call_by (Notes now random turn found id) job slot ws = calls.Notes turn found id
call_by (GivesUp now turn needs) job slot ws = calls.GivesUp turn needs
call_by (Loses needs) job slot ws = calls.Loses needs

-- the event of a step names the step's job.
pub names_job : (k : ℕ) (c : Step) → names (event_by k c) ≡ Some k
names_job k (Matches n) = refl
names_job k (Refuses refusal) = refusal.named k
names_job k other = refl

-- the transition of a step.
abbrev pub effect_by : Step → Job → Slot → Around → Effect
effect_by (Refuses refusal) job slot ws = goes_to (ToAnswer Unavailable)
effect_by c job slot ws = effect_of (event_by 0 c) (at job slot ws (stage_by c)) (Some (call_by c job slot ws))

-- the transition of a commit with this outcome, at a slot of this serial.
abbrev pub committed : CommitOutcome → ℕ → Ticket → ℕ → ℕ → Around → Effect
committed o count t now serial ws = record {
  stage = after_commit count t (commits o t serial ws.watch).answer;
  changes = (changes_of_call (calls.Commits count t (commits o t serial ws.watch).answer));
  calls = commit_calls (commits o t serial ws.watch).answer (max ws.time now) t;
  hands = Some now;
  raises = None;
}

-- ---- an event that isn't a step

-- properties of an event that is no call for a job. The event is a no-op, answers nothing, passes
-- no time and gives no ticket.
pub record Rests (e : Event) (job : Job) (s : Stage) : Type 0 where
  pub none : (slot : Slot) (ws : Around) → call_at e (at job slot ws s) (at job slot ws s).stage ≡ None
  pub noop : (k : ℕ) → names e ≡ Some k → is_noop_at e job.origin.slot s ≡ true
  pub answered : is_answered e s ≡ false
  pub times : transition_time e s ≡ []
  pub given : (slot : Slot) (ws : Around) (cs : List Change) → gives e (at job slot ws s) cs ≡ []

rests : {e : Event} {job : Job} {s : Stage} → ((slot : Slot) (ws : Around) → call_at e (at job slot ws s) (at job slot ws s).stage ≡ None) → ((k : ℕ) → names e ≡ Some k → is_noop_at e job.origin.slot s ≡ true) → is_answered e s ≡ false → transition_time e s ≡ [] → ((slot : Slot) (ws : Around) (cs : List Change) → gives e (at job slot ws s) cs ≡ []) → Rests e job s
rests none noop answered times given = record { none = none; noop = noop; answered = answered; times = times; given = given }

no_job : {A : Type 0} {k : ℕ} → None ≡ Some k → A
no_job e = absurd (cc e)

-- a stage at which the store may refuse the job's change has no answer yet.
refusable_unanswered : (s : Stage) → is_refusable s ≡ true → IsUnanswered s
refusable_unanswered (ToRaise word content) e = absurd (cc e)
refusable_unanswered (ToAnswer content) e = absurd (cc e)
refusable_unanswered (ToTell turn needs) e = absurd (cc e)
refusable_unanswered Gone e = absurd (cc e)
refusable_unanswered other e = tt

-- ---- one column

module _ (P : Event → Stage → Effect → Type 0) (job : Job) (slot : Slot) (ws : Around) (step : (k : ℕ) (c : Step) → IsAsked c job → P (event_by k c) (stage_by c) (effect_by c job slot ws)) (rest : (e : Event) (s : Stage) → Rests e job s → P e s (goes_to s)) where
  matches : (k n : ℕ) (b : Bool) → (n == job.origin.slot) ≡ b → P (Peek k n) ToMatch (effect_of (Peek k n) (at job slot ws ToMatch) (call_if b (call_by (Matches n) job slot ws)))
  matches k n true is = step k (Matches n) is
  matches k n false is = rest (Peek k n) ToMatch (rests (λ slot ws. ap (λ (b : Bool). call_if b (call_by (Matches n) job slot ws)) is) (λ j named. ap not is) refl refl (λ slot ws cs. refl))

  lists : (k n : ℕ) (seen : ArrayVec ℕ) (b : Bool) → (n == length seen.items) ≡ b → P (Peek k n) (ToList seen) (effect_of (Peek k n) (at job slot ws (ToList seen)) (call_if b (call_by (Lists n seen) job slot ws)))
  lists k n seen true is = step k (Lists n seen) is
  lists k n seen false is = rest (Peek k n) (ToList seen) (rests (λ slot ws. ap (λ (b : Bool). call_if b (call_by (Lists n seen) job slot ws)) is) (λ j named. ap not is) refl refl (λ slot ws cs. refl))

  refuses : (k : ℕ) (s : Stage) (b : Bool) → is_refusable s ≡ b → P (Refuse k) s (effect_of (Refuse k) (at job slot ws s) (call_if b (calls.RefusesChange s)))
  refuses k s true is = step k (Refuses (record {
    event = Refuse;
    stage = s;
    named = λ j. refl;
    unanswered = refusable_unanswered s is;
    needed = λ j own. ap not is;
    answered = λ j. refl;
    times = λ j. refl;
    given = λ j job slot ws cs. refl;
    reason = λ j job slot taken. Unsaved refl is;
  })) tt
  refuses k s false is = rest (Refuse k) s (rests (λ slot ws. ap (λ (b : Bool). call_if b (calls.RefusesChange s)) is) (λ j named. ap not is) refl refl (λ slot ws cs. refl))

  -- a property holds for each transition if it holds for each step with its transition, and for
  -- each event that is no step.
  pub by_step : (e : Event) (s : Stage) → P e s (transition e (at job slot ws s))
  by_step (Peek k n) ToMatch = matches k n (n == job.origin.slot) refl
  by_step (Peek k n) (ToList seen) = lists k n seen (n == length seen.items) refl
  by_step (Peek k n) other = rest (Peek k n) other (rests (λ slot ws. refl) (λ j is. refl) refl refl (λ slot ws cs. refl))
  by_step (Take k memory readings) (ToTake count) = step k (Takes memory readings count) tt
  by_step (Take k memory readings) (ToTell turn turns.ToTake) = step k (TakesTurn memory readings turn) tt
  by_step (Take k true readings) other = rest (Take k true readings) other (rests (λ slot ws. refl) (λ j is. refl) refl refl (λ slot ws cs. refl))
  by_step (Take k false readings) other = rest (Take k false readings) other (rests (λ slot ws. refl) (λ j is. refl) refl refl (λ slot ws cs. refl))
  by_step (Commit k now) (ToCommit count t) = step k (Commits now count t) tt
  by_step (Commit k now) other = rest (Commit k now) other (rests (λ slot ws. refl) (λ j is. refl) refl refl (λ slot ws cs. refl))
  by_step (Install k memory) ToInstall = step k (Installs memory) tt
  by_step (Install k memory) other = rest (Install k memory) other (rests (λ slot ws. refl) (λ j is. refl) refl refl (λ slot ws cs. refl))
  by_step (Remove k) ToRemove = step k Removes tt
  by_step (Remove k) other = rest (Remove k) other (rests (λ slot ws. refl) (λ j is. refl) refl refl (λ slot ws cs. refl))
  by_step (Refuse k) s = refuses k s (is_refusable s) refl
  by_step (Receipt k) ToDescribe = step k Describes tt
  by_step (Receipt k) other = rest (Receipt k) other (rests (λ slot ws. refl) (λ j is. refl) refl refl (λ slot ws cs. refl))
  by_step (Raise k) (ToRaise word content) = step k (Raises word content) tt
  by_step (Raise k) other = rest (Raise k) other (rests (λ slot ws. refl) (λ j is. refl) refl refl (λ slot ws cs. refl))
  by_step (Answer k now) (ToAnswer content) = step k (Answers now content) tt
  by_step (Answer k now) other = rest (Answer k now) other (rests (λ slot ws. refl) (λ j is. refl) refl refl (λ slot ws cs. refl))
  by_step (Fresh k now) (ToTell turn (turns.ToDraw found)) = step k (Draws now turn found) tt
  by_step (Fresh k now) other = rest (Fresh k now) other (rests (λ slot ws. refl) (λ j is. refl) refl refl (λ slot ws cs. refl))
  by_step (Note k now random) (ToTell turn (turns.ToNote found id)) = step k (Notes now random turn found id) tt
  by_step (Note k now random) other = rest (Note k now random) other (rests (λ slot ws. refl) (λ j is. refl) refl refl (λ slot ws cs. refl))
  by_step (GiveUp k now) (ToTell turn needs) = step k (GivesUp now turn needs) tt
  by_step (GiveUp k now) other = rest (GiveUp k now) other (rests (λ slot ws. refl) (λ j is. refl) refl refl (λ slot ws cs. refl))
  by_step (Lose k) s = step k (Loses s) tt
  by_step other s = rest other s (rests (λ slot ws. refl) (λ j is. no_job is) refl refl (λ slot ws cs. refl))

-- the lemma above for a property that doesn't mention the event.
pub by_effect : (P : Stage → Effect → Type 0) (job : Job) (slot : Slot) (ws : Around) → ((c : Step) → IsAsked c job → P (stage_by c) (effect_by c job slot ws)) → ((s : Stage) → P s (goes_to s)) → (e : Event) (s : Stage) → P s (transition e (at job slot ws s))
by_effect P job slot ws step rest e s = by_step (λ d st m. P st m) job slot ws (λ k c asked. step c asked) (λ d st w. rest st) e s
