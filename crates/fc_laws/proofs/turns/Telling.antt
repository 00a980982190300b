-- The stage of a lease's job after its snapshot: it is still to notify, or has ended.
use Rattle.std.proofs.Common.{ℕ, List, Option}
use Rattle.fc_observe.specs.declared.entry.Turn.{Turn}
use Rattle.fc_ticket.specs.Taken.{Taken}
use Rattle.fc_ticket.specs.Taken.{Given, Missing, Stale, Refused}
use Rattle.fc_core.specs.Stage.{Stage}
use Rattle.fc_core.specs.Stage.{ToTell, Gone}
use Rattle.fc_core.specs.TurnStage.{TurnStage}
use Rattle.fc_registry.specs.Calls.{is_out_at, turn_snapshot}
use Rattle.fc_core.specs.Stages.{turn_took}
use Rattle.fc_core.specs.Transitions.{Inputs}

-- a property of the stages of a notification and of the end holds for the stage after the snapshot.
pub told_or_gone : (P : Stage → Type 0) → ((turn : Turn) (needs : TurnStage) → P (ToTell turn needs)) → P Gone → (turn : Turn) (x : Taken) → P (turn_took turn x)
told_or_gone P told gone turn (Given t) = told turn _
told_or_gone P told gone turn Missing = told turn _
told_or_gone P told gone turn Stale = gone
told_or_gone P told gone turn Refused = told turn _

pub after_turn : (P : Stage → Type 0) → ((turn : Turn) (needs : TurnStage) → P (ToTell turn needs)) → P Gone → (kept : Option (List ℕ)) (turn : Turn) (x : Inputs) → P (turn_took turn (turn_snapshot (is_out_at turn x.around.time x.around.watch) kept x.job x.slot.serial x.slot.present))
after_turn P told gone kept turn x = told_or_gone P told gone turn _
