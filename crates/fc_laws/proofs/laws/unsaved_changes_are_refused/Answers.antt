use Rattle.std.proofs.Common.{Bool, ap, ◌∙◌}
use Rattle.fc_core.specs.declared.event.Event.TheVariants.{Refuse}
use Rattle.fc_core.specs.History.{Seen, inputs, slot_at, stage}
use Rattle.fc_core.specs.Steps.{RefusesChange}
use Rattle.fc_core.specs.Transitions.{call_if, effect_of}
use Rattle.fc_laws.proofs.jobs.NoOps.{with_stage}
use Rattle.fc_laws.proofs.slots.Unsaved.{install_stays, made_stays, read_stays, refused_moves, removal_refused, write_refused}
use Rattle.fc_laws.proofs.laws.unsaved_changes_are_refused.Goals as goal

pub returns-clause-alone : goal.returns-clause-alone
returns-clause-alone c = λ s k o may.
    refused_moves s k o ∙ ap (λ (b : Bool). with_stage s k (effect_of (Refuse k) (inputs s k) (call_if b (RefusesChange (stage s k)))).stage) may

pub returns-clause-finds : goal.returns-clause-finds
returns-clause-finds c = λ s k n o. ap (λ (x : Seen). slot_at x n) (refused_moves s k o)

pub returns-clause-emitted : goal.returns-clause-emitted
returns-clause-emitted c = λ s k o emits. emits

pub returns-clause-removal : goal.returns-clause-removal
returns-clause-removal c = removal_refused

pub returns-clause-writes : goal.returns-clause-writes
returns-clause-writes c = write_refused

pub returns-clause-reads : goal.returns-clause-reads
returns-clause-reads c = read_stays

pub returns-clause-made : goal.returns-clause-made
returns-clause-made c = made_stays

pub returns-clause-install : goal.returns-clause-install
returns-clause-install c = install_stays
