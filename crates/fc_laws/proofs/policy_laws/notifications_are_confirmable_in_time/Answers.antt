use Rattle.std.proofs.Common.{◌+◌, ◌∙◌, Bool, ap, if◌then◌else◌}
use Rattle.std.specs.Prelude.{nat_le}
use Rattle.std.proofs.lemmas.Bool.{le-leb, lt-leb}
use Rattle.coap_msg.specs.declared.types.MessageType.TheVariants.{Confirmable, NonConfirmable}
use Rattle.fc_front.specs.declared.policy.Policy.{Policy}
use Rattle.fc_laws.specs.TurnLaws.{time_at, note_as}
use Rattle.fc_laws.proofs.policy_laws.notifications_are_confirmable_in_time.Goals as goal

pub returns-clause-in_time : goal.returns-clause-in_time
returns-clause-in_time c = λ s k now id turn response e n le.
    n.is ∙ ap (λ (b : Bool). note_as (if b then Confirmable else NonConfirmable) id n.entry response) (le-leb (n.entry.confirmed + s.policy.confirm_after) (time_at s k now) le)

pub returns-clause-early : goal.returns-clause-early
returns-clause-early c = λ s k now id turn response e n lt.
    n.is ∙ ap (λ (b : Bool). note_as (if b then Confirmable else NonConfirmable) id n.entry response) (lt-leb (n.entry.confirmed + s.policy.confirm_after) (time_at s k now) lt)

pub returns-clause-default : goal.returns-clause-default
returns-clause-default c = λ s k now id turn response e n is.
    n.is ∙ ap (λ (p : Policy). note_as (if nat_le (n.entry.confirmed + p.confirm_after) (time_at s k now) then Confirmable else NonConfirmable) id n.entry response) is
