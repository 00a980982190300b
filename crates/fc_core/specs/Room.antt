-- A job's next action and the data stored next to it, as a stage. The data are the snapshot, the
-- head words that the job has listed, and the job's answer.
use Rattle.std.specs.Prelude.{◌≡◌, ℕ, Some, None}
use Rattle.arrayvec.specs.ArrayVec.{ArrayVec}
use Rattle.fc_ticket.specs.Taken.{SlotSnapshot, IsSized, ticket_with}
use Rattle.fc_ticket.specs.Taken as spec
use Rattle.fc_registry.specs.Views.{HasSize, taken_with}
use Rattle.fc_registry.specs.declared.shard.Taken.{Taken}
use Rattle.fc_core.specs.declared.stage.Step.{Step}
use Rattle.fc_core.specs.declared.stage.Step.TheVariants as steps
use Rattle.fc_core.specs.declared.stage.TurnStep.{TurnStep}
use Rattle.fc_core.specs.declared.stage.TurnStep.TheVariants as turn_steps
use Rattle.fc_front.specs.Contents.{Content}
use Rattle.fc_core.specs.Stage.{Stage, ToMatch, ToTake, ToCommit, ToInstall, ToRemove, ToDescribe, ToList, ToRaise, ToAnswer, ToTell, Gone}
use Rattle.fc_core.specs.TurnStage as turns
use Rattle.fc_core.specs.TurnStage.{TurnStage}

abbrev pub turn_stage_of : TurnStep → SlotSnapshot → TurnStage
turn_stage_of turn_steps.ToTake f = turns.ToTake
turn_stage_of (turn_steps.ToDraw None) f = turns.ToDraw None
turn_stage_of (turn_steps.ToDraw (Some program)) f = turns.ToDraw (Some (ticket_with program.value f))
turn_stage_of (turn_steps.ToNote None id) f = turns.ToNote None id
turn_stage_of (turn_steps.ToNote (Some program) id) f = turns.ToNote (Some (ticket_with program.value f)) id

abbrev pub stage_of : Step → SlotSnapshot → ArrayVec ℕ → Content → Stage
stage_of steps.ToMatch f seen content = ToMatch
stage_of (steps.ToTake count) f seen content = ToTake count
stage_of (steps.ToCommit count program) f seen content = ToCommit count (ticket_with program.value f)
stage_of steps.ToInstall f seen content = ToInstall
stage_of steps.ToRemove f seen content = ToRemove
stage_of steps.ToDescribe f seen content = ToDescribe
stage_of steps.ToList f seen content = ToList seen
stage_of (steps.ToRaise word) f seen content = ToRaise word content
stage_of steps.ToAnswer f seen content = ToAnswer content
stage_of (steps.ToTell turn needs) f seen content = ToTell turn (turn_stage_of needs f)
stage_of steps.Gone f seen content = Gone

-- the snapshot has as many variables as the program of the lease's next action.
abbrev pub FitsTurnStep : TurnStep → SlotSnapshot → Type 0
FitsTurnStep (turn_steps.ToDraw (Some program)) f = IsSized program.value f
FitsTurnStep (turn_steps.ToNote (Some program) id) f = IsSized program.value f
FitsTurnStep other f = Unit {0}

abbrev pub FitsStep : Step → SlotSnapshot → Type 0
FitsStep (steps.ToCommit count program) f = IsSized program.value f
FitsStep (steps.ToTell turn needs) f = FitsTurnStep needs f
FitsStep other f = Unit {0}

-- the action with this answer is this stage, whatever the other data.
abbrev pub StandsAt : Step → Content → Stage → Type 0
StandsAt step content stage = (f : SlotSnapshot) (seen : ArrayVec ℕ) → (stage_of step f seen content ≡ stage) × FitsStep step f

-- the action with this answer is the stage to which this transition leads after a snapshot.
abbrev pub LeadsTo : Taken → (spec.Taken → Stage) → Step → Content → Type 0
LeadsTo taken transition step content =
    (f : SlotSnapshot) (seen : ArrayVec ℕ) → HasSize taken f → (stage_of step f seen content ≡ transition (taken_with taken f)) × FitsStep step f
