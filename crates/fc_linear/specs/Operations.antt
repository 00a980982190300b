-- Operations of a server with many threads, as the entries of one history. Each operation has a
-- part of the server, an effect on that part, an effect on a job, and an event, or none of these.
use Rattle.std.specs.Prelude.{◌≡◌, ◌⊎◌, ℕ, ◌%◌, ◌<◌, ◌==◌, Bool, true, false, List, [], ◌∷◌, ◌++◌, length, Option, Some, None}
use Rattle.std.specs.Borrow.{Bor}
use Rattle.arrayvec.specs.ArrayVec.{ArrayVec}
use Rattle.coap_msg.specs.declared.types.Emission.{Emission}
use Rattle.fc_isa.specs.declared.rule.Fault.{Fault}
use Rattle.fc_store.specs.declared.store.ProgramUpdate.{ProgramUpdate}
use Rattle.fc_store.specs.declared.store.ProgramUpdate.TheVariants as saves
use Rattle.fc_store.specs.declared.store.SlotUpdate.{SlotUpdate}
use Rattle.fc_kinds.specs.Meaning.{Program}
use Rattle.fc_verify.specs.Accepted.{Accepts}
use Rattle.fc_verify.specs.Judged.{judged}
use Rattle.fc_verify.specs.Refusals.{IsRefusal}
use Rattle.fc_verify.specs.declared.refusal.Refusal.TheVariants.{Broken}
use Rattle.fc_observe.specs.declared.entry.Turn.{Turn}
use Rattle.fc_ticket.specs.declared.job.Job.{Job}
use Rattle.fc_ticket.specs.declared.receipt.Receipt.{Receipt as Facts}
use Rattle.fc_registry.specs.Calls.{commit_of, wants}
use Rattle.fc_ticket.specs.Runs.{initial_vars_of, receipt_of, run_of}
use Rattle.fc_registry.specs.Changes.{installed}
use Rattle.fc_ticket.specs.Notes.{sent_of}
use Rattle.fc_registry.specs.Slots.{Shard, Slot}
use Rattle.fc_ticket.specs.Tickets.{Ticket}
use Rattle.fc_core.specs.declared.event.Event.{Event}
use Rattle.fc_core.specs.declared.event.Event.TheVariants.{Deliver, Peek, Take, Commit, Install, Remove, Refuse, Receipt, Raise, Answer, Due, Fire, Fresh, Note, GiveUp, Signal, Tick, ShardTick}
use Rattle.fc_front.specs.declared.by_value.Delivered.{Delivered}
use Rattle.fc_front.specs.declared.by_value.Delivered.TheVariants.{Job as Brings, Reply}
use Rattle.fc_core.specs.Stage.{Stage}
use Rattle.fc_core.specs.Stage.{ToMatch, ToTake, ToCommit, ToInstall, ToRemove, ToDescribe, ToList, ToRaise, ToAnswer, ToTell, Gone}
use Rattle.fc_core.specs.TurnStage.{TurnStage}
use Rattle.fc_core.specs.TurnStage as turns
use Rattle.fc_front.specs.Contents.{Content, Unavailable}
use Rattle.fc_front.specs.Ends.{refused}
use Rattle.fc_front.specs.Exchanges.{FrontState}
use Rattle.fc_core.specs.Fits.{IsSafe}
use Rattle.fc_front.specs.Heads.{word_at, word_raised}
use Rattle.fc_core.specs.Legal.{resent}
use Rattle.fc_core.specs.Stages.{after_commit, had_memory, image_of, listed, made, matched, removed, receipt_content, took, turn_took, with_id}
use Rattle.fc_front.specs.Timers.{timer_job}
use Rattle.fc_calls.specs.Logged.{LoggedCall}
use Rattle.fc_calls.specs.Logged.{HandlesDatagram, AdvancesFront, FiresTimer, DrawsId, AnswersRequest, TellsReceipt, GivesReadings, ReadsCost, LooksAt, RaisesWord}
use Rattle.fc_calls.specs.Logged.{TakesForJob, CommitsRun, InstallsProgram, RemovesProgram, HandsSignal, AdvancesIdle, SkipsIdle, AdvancesShard, GivesTurn, NotesTurn, GivesUpTurn}
use Rattle.fc_calls.specs.Doings.{AdvancesTo, AnswersAt, CommitsAt, DescribesTo, DrawsAt, FiresAt, GivesTurnAt, GivesUpAt, HandsOn, HandlesAt, InstallsTo, NotesAt, PassesIfIdle, RemovesFrom, TakesTo, FindsCost, TicksAt}
use Rattle.fc_calls.specs.Doings.{SaysFound}

-- an operation of a thread.
pub data Operation : Type 0 where
  -- a call in the thread's log.
  Logged : (call : LoggedCall) → Operation
  -- the image of an install breaks a rule; `content` is the answer.
  RejectsImage : (job : Job) (content : Content) → Operation
  -- the program of an install isn't installed: memory can't be allocated.
  RefusesInstall : (job : Job) → Operation
  -- the store refuses to save the update of a job's change, and the change isn't made.
  FailsToSave : (update : SlotUpdate) → Operation

-- an operation, with the number of its job; the number has no meaning if the operation is for no
-- job.
pub record LogEntry : Type 0 where
  pub job : ℕ
  pub operation : Operation

-- ---- its part of the server

pub data ServerPart : Type 0 where
  FrontPart : ServerPart
  ShardPart : (index : ℕ) → ServerPart
  WordsPart : ServerPart
  NoPart : ServerPart

abbrev pub part_by : LoggedCall → ServerPart
part_by (HandlesDatagram now from bytes brings) = FrontPart
part_by (AdvancesFront now) = FrontPart
part_by (FiresTimer slot now) = FrontPart
part_by (DrawsId now id) = FrontPart
part_by (AnswersRequest now job content sent) = FrontPart
part_by (TellsReceipt job receipt) = ShardPart (job.origin.slot % 8)
part_by (ReadsCost slot cost) = ShardPart (slot % 8)
part_by (GivesReadings readings) = NoPart
part_by (LooksAt slot word) = WordsPart
part_by (TakesForJob job readings taken) = ShardPart (job.origin.slot % 8)
part_by (CommitsRun now ran ticket committed) = ShardPart (ticket.origin.slot % 8)
part_by (InstallsProgram job program made) = ShardPart (job.origin.slot % 8)
part_by (RemovesProgram job removal) = ShardPart (job.origin.slot % 8)
part_by (HandsSignal shard from id reset) = ShardPart shard
part_by (AdvancesIdle shard now) = ShardPart shard
part_by (SkipsIdle shard now) = NoPart
part_by (AdvancesShard shard now ticked) = ShardPart shard
part_by (GivesTurn shard now turn) = ShardPart shard
part_by (NotesTurn turn id now random told noted) = ShardPart (turn.slot % 8)
part_by (GivesUpTurn turn now) = ShardPart (turn.slot % 8)
part_by (RaisesWord slot word) = WordsPart

abbrev pub part_of : Operation → ServerPart
part_of (Logged call) = part_by call
part_of (RejectsImage job content) = NoPart
part_of (RefusesInstall job) = NoPart
part_of (FailsToSave update) = ShardPart (update.slot % 8)

abbrev pub is_front : ServerPart → Bool
is_front FrontPart = true
is_front other = false

abbrev pub is_words : ServerPart → Bool
is_words WordsPart = true
is_words other = false

-- whether the part has a lock.
abbrev pub is_locked : ServerPart → Bool
is_locked FrontPart = true
is_locked (ShardPart index) = true
is_locked other = false

abbrev pub is_shard : ℕ → ServerPart → Bool
is_shard i (ShardPart index) = index == i
is_shard i other = false

-- ---- its effect on that part

abbrev pub FrontDoes : Operation → FrontState → FrontState → Type 0
FrontDoes (Logged (HandlesDatagram now from bytes brings)) f g = HandlesAt now from bytes brings f g
FrontDoes (Logged (AdvancesFront now)) f g = AdvancesTo now f g
FrontDoes (Logged (FiresTimer slot now)) f g = FiresAt now f g
FrontDoes (Logged (DrawsId now id)) f g = DrawsAt now id f g
FrontDoes (Logged (AnswersRequest now job content sent)) f g = AnswersAt now job content sent f g
FrontDoes other f g = ⊥

abbrev pub ShardDoes : Operation → Shard → Shard → Type 0
ShardDoes (Logged (TellsReceipt job receipt)) x y = DescribesTo job x receipt y
ShardDoes (Logged (ReadsCost slot cost)) x y = FindsCost slot x cost y
ShardDoes (Logged (TakesForJob job readings taken)) x y = TakesTo job readings x taken y
ShardDoes (Logged (CommitsRun now ran ticket committed)) x y = CommitsAt now ran ticket x committed y
ShardDoes (Logged (InstallsProgram job program made)) x y = InstallsTo job program x made y
ShardDoes (Logged (RemovesProgram job removal)) x y = RemovesFrom job x removal y
ShardDoes (Logged (HandsSignal shard from id reset)) x y = HandsOn reset from id x y
ShardDoes (Logged (AdvancesIdle shard now)) x y = PassesIfIdle now x true y
ShardDoes (Logged (AdvancesShard shard now ticked)) x y = TicksAt now x ticked y
ShardDoes (Logged (GivesTurn shard now turn)) x y = GivesTurnAt now x turn y
ShardDoes (Logged (NotesTurn turn id now random told noted)) x y = NotesAt turn id now random told x noted y
ShardDoes (Logged (GivesUpTurn turn now)) x y = GivesUpAt now turn x y
ShardDoes (FailsToSave update) x y = y ≡ x
ShardDoes other x y = ⊥

abbrev pub WordsDo : Operation → List ℕ → List ℕ → Type 0
WordsDo (Logged (LooksAt slot word)) ws vs = (word ≡ word_at ws slot) × (vs ≡ ws)
WordsDo (Logged (RaisesWord slot word)) ws vs = vs ≡ word_raised slot word ws
WordsDo other ws vs = ⊥

-- the operation is one of a server with eight shards. A call for readings isn't: the device gives
-- these. Nor is a call of a shard with an index above 7.
abbrev pub IsOfServer : Operation → Type 0
IsOfServer (Logged (GivesReadings readings)) = ⊥
IsOfServer (Logged (HandsSignal shard from id reset)) = shard < 8
IsOfServer (Logged (AdvancesIdle shard now)) = shard < 8
IsOfServer (Logged (SkipsIdle shard now)) = shard < 8
IsOfServer (Logged (AdvancesShard shard now ticked)) = shard < 8
IsOfServer (Logged (GivesTurn shard now turn)) = shard < 8
IsOfServer other = Unit {0}

-- ---- its effect on its job

abbrev pub job_in : Delivered → Option Job
job_in (Brings job) = Some job
job_in other = None

-- the new job that the operation produces, or none.
abbrev pub job_brought : Operation → Option Job
job_brought (Logged (HandlesDatagram now from bytes brings)) = job_in brings
job_brought (Logged (FiresTimer slot now)) = Some (timer_job slot)
job_brought (Logged (GivesTurn shard now turn)) = turn
job_brought other = None

-- whether the operation is for a job that arrived before.
abbrev pub is_for_job : Operation → Bool
is_for_job (Logged (HandlesDatagram now from bytes brings)) = false
is_for_job (Logged (AdvancesFront now)) = false
is_for_job (Logged (FiresTimer slot now)) = false
is_for_job (Logged (GivesReadings readings)) = false
is_for_job (Logged (ReadsCost slot cost)) = false
is_for_job (Logged (HandsSignal shard from id reset)) = false
is_for_job (Logged (AdvancesIdle shard now)) = false
is_for_job (Logged (SkipsIdle shard now)) = false
is_for_job (Logged (AdvancesShard shard now ticked)) = false
is_for_job (Logged (GivesTurn shard now turn)) = false
is_for_job other = true

-- a receipt leads a job that needs one to the answer with the receipt. Any other job stays at its
-- stage.
abbrev pub ReceiptMoves : Option Facts → Stage → Stage → Type 0
ReceiptMoves receipt s t = ((s ≡ ToDescribe) × (t ≡ ToAnswer (receipt_content receipt))) ⊎ ((s ≡ ToDescribe → ⊥) × (t ≡ s))

-- a head word is read for the ETags of a request, or for the list of all slots.
abbrev pub LookMoves : ℕ → ℕ → Job → Stage → Stage → Type 0
LookMoves slot word job s t =
    ((slot ≡ job.origin.slot) × (s ≡ ToMatch) × (t ≡ matched word job.etags.items))
    ⊎ ((seen : ArrayVec ℕ) × (slot ≡ length seen.items) × (s ≡ ToList seen) × (t ≡ listed (seen.items ++ word ∷ [])))

-- a job at this stage makes the change of this update if it is saved. An install's image is the
-- job's, and is accepted. Its variables are those that the install of this program leaves in a slot.
-- The variables of a commit are those that the ticket's run left, and the run wants to write.
abbrev pub MakesUpdate : Job → ProgramUpdate → Stage → Type 0
MakesUpdate job (saves.Install image vars) s =
    (s ≡ ToInstall) × (image.now ≡ image_of job.ask) × (program : Program) × (judged (image_of job.ask) ≡ Accepts program)
    × ((slot : Slot) × (vars.now ≡ (installed slot program (initial_vars_of job.ask)).vars))
MakesUpdate job (saves.Commit vars) s = (count : ℕ) × ((ticket : Ticket) × ((s ≡ ToCommit count ticket) × (wants ticket ≡ true) × (vars.now ≡ (commit_of ticket).after)))
MakesUpdate job saves.Remove s = s ≡ ToRemove

-- the job's stage s needs this operation, and the operation's result leads the job to stage t.
abbrev pub StageMoves : Operation → Job → Stage → Stage → Type 0
StageMoves (Logged (DrawsId now id)) job s t = (turn : Turn) × (found : Option Ticket) × (s ≡ ToTell turn (turns.ToDraw found)) × (t ≡ ToTell turn (with_id found id))
StageMoves (Logged (AnswersRequest now j content sent)) job s t = (j ≡ job) × (s ≡ ToAnswer content) × (t ≡ Gone)
StageMoves (Logged (TellsReceipt j receipt)) job s t = (j ≡ job) × ReceiptMoves receipt s t
StageMoves (Logged (LooksAt slot word)) job s t = LookMoves slot word job s t
StageMoves (Logged (TakesForJob j readings taken)) job s t =
    (j ≡ job) × (((count : ℕ) × (s ≡ ToTake count) × (t ≡ took count taken)) ⊎ ((turn : Turn) × (s ≡ ToTell turn turns.ToTake) × (t ≡ turn_took turn taken)))
StageMoves (Logged (CommitsRun now ran ticket committed)) job s t = (ran ≡ run_of ticket) × ((count : ℕ) × (s ≡ ToCommit count ticket) × (t ≡ after_commit count ticket committed))
StageMoves (Logged (InstallsProgram j program answer)) job s t =
    (j ≡ job) × (judged (image_of job.ask) ≡ Accepts program) × IsSafe program × (s ≡ ToInstall) × (t ≡ made (receipt_of program 0) answer)
StageMoves (Logged (RemovesProgram j removal)) job s t = (j ≡ job) × (s ≡ ToRemove) × (t ≡ removed removal)
StageMoves (Logged (NotesTurn turn id now random told noted)) job s t = (found : Option Ticket) × SaysFound told found × (s ≡ ToTell turn (turns.ToNote found id)) × (t ≡ Gone)
StageMoves (Logged (GivesUpTurn turn now)) job s t = (needs : TurnStage) × (s ≡ ToTell turn needs) × (t ≡ Gone)
StageMoves (Logged (RaisesWord slot word)) job s t = (slot ≡ job.origin.slot) × ((content : Content) × (s ≡ ToRaise word content) × (t ≡ ToAnswer content))
StageMoves (RejectsImage j content) job s t =
    (j ≡ job) × ((f : Fault) × IsRefusal (image_of job.ask) (Broken f) × (content ≡ refused (Broken f))) × (s ≡ ToInstall) × (t ≡ ToAnswer content)
StageMoves (RefusesInstall j) job s t = (j ≡ job) × (s ≡ ToInstall) × (t ≡ ToAnswer Unavailable)
StageMoves (FailsToSave update) job s t = (update.slot ≡ job.origin.slot) × MakesUpdate job update.program s × (t ≡ ToAnswer Unavailable)
StageMoves other job s t = ⊥

-- ---- its event, if it is one, and what that emits

abbrev pub borrowed : List ℕ → Bor (List ℕ)
borrowed bytes = record { ref_ptr = (0, 0); now = bytes }

-- the event of a call for job k, or none: a call for readings, a read of a cost and a skip are no
-- events.
abbrev pub event_by : ℕ → LoggedCall → Option Event
event_by k (HandlesDatagram now from bytes brings) = Some (Deliver now from (borrowed bytes))
event_by k (AdvancesFront now) = Some (Tick now)
event_by k (FiresTimer slot now) = Some (Fire slot now)
event_by k (DrawsId now id) = Some (Fresh k now)
event_by k (AnswersRequest now job content sent) = Some (Answer k now)
event_by k (TellsReceipt job receipt) = Some (Receipt k)
event_by k (ReadsCost slot cost) = None
event_by k (GivesReadings readings) = None
event_by k (LooksAt slot word) = Some (Peek k slot)
event_by k (TakesForJob job readings taken) = Some (Take k (had_memory taken) readings)
event_by k (CommitsRun now ran ticket committed) = Some (Commit k now)
event_by k (InstallsProgram job program made) = Some (Install k true)
event_by k (RemovesProgram job removal) = Some (Remove k)
event_by k (HandsSignal shard from id reset) = Some (Signal shard from id reset)
event_by k (AdvancesIdle shard now) = Some (ShardTick shard now)
event_by k (SkipsIdle shard now) = None
event_by k (AdvancesShard shard now ticked) = Some (ShardTick shard now)
event_by k (GivesTurn shard now turn) = Some (Due shard now)
event_by k (NotesTurn turn id now random told noted) = Some (Note k now random)
event_by k (GivesUpTurn turn now) = Some (GiveUp k now)
event_by k (RaisesWord slot word) = Some (Raise k)

-- the event of an update that can't be saved: the install, or the change of job k, is refused.
abbrev pub unsaved_event : ℕ → ProgramUpdate → Event
unsaved_event k (saves.Install image vars) = Install k false
unsaved_event k (saves.Commit vars) = Refuse k
unsaved_event k saves.Remove = Refuse k

abbrev pub event_for : ℕ → Operation → Option Event
event_for k (Logged call) = event_by k call
event_for k (RejectsImage j content) = Some (Install k true)
event_for k (RefusesInstall j) = Some (Install k false)
event_for k (FailsToSave update) = Some (unsaved_event k update.program)

abbrev pub event_of : LogEntry → Option Event
event_of e = event_for e.job e.operation

abbrev pub reply_in : Delivered → Option Emission
reply_in (Reply emission) = Some emission
reply_in other = None

abbrev pub emitted_by : LoggedCall → Option Emission
emitted_by (HandlesDatagram now from bytes brings) = reply_in brings
emitted_by (AnswersRequest now job content sent) = sent
emitted_by (AdvancesShard shard now ticked) = resent ticked
emitted_by (NotesTurn turn id now random told noted) = sent_of noted
emitted_by other = None

abbrev pub emitted_of : Operation → Option Emission
emitted_of (Logged call) = emitted_by call
emitted_of other = None
