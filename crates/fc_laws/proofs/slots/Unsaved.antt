-- The refusal of a change that can't be saved.
use Rattle.std.proofs.Common.{◌≡◌, ℕ, Bool, true, Option, refl, ap, ◌∙◌}
use Rattle.std.specs.Prelude.{◌⊎◌, not}
use Rattle.coap_msg.specs.declared.types.Emission.{Emission}
use Rattle.fc_help.specs.declared.request.Method.TheVariants.{Get, Post}
use Rattle.fc_ticket.specs.Runs.{meaning_at}
use Rattle.fc_registry.specs.Record.{code_class}
use Rattle.fc_ticket.specs.Tickets.{Ticket}
use Rattle.fc_core.specs.declared.event.Event.TheVariants.{Refuse}
use Rattle.fc_core.specs.Stage.{Stage}
use Rattle.fc_core.specs.Stage.{ToCommit, ToInstall, ToRaise, ToRemove, ToAnswer}
use Rattle.fc_front.specs.Contents.{Content, Unavailable}
use Rattle.fc_core.specs.History.{around, Seen, and_then, did, inputs, job, slot_at, stage}
use Rattle.fc_core.specs.Laws.{slot_of}
use Rattle.fc_core.specs.Stages.{is_refusable}
use Rattle.fc_core.specs.Steps.{RefusesChange}
use Rattle.fc_core.specs.Transitions.{Inputs, call_if, effect_of, transition}
use Rattle.fc_laws.proofs.jobs.NoOps.{call_moves, calm_at_rest, named_moves, no_ops_stay, with_stage}
use Rattle.fc_laws.proofs.jobs.Others.{is_here, named_stage}
use Rattle.fc_laws.proofs.slots.Writing.{unwanted, wanted}

-- the inputs of job k at this stage.
abbrev at_stage : Seen → ℕ → Stage → Inputs
at_stage s k st = record { job = job s k; slot = slot_at s (slot_of s k); around = around s (slot_of s k); stage = st }

-- a refused change changes the stage of its job alone.
pub refused_moves : (s : Seen) (k : ℕ) (o : Option Emission) → and_then (did (Refuse k) o) s ≡ with_stage s k (transition (Refuse k) (inputs s k)).stage
refused_moves s k o =
    named_moves s (Refuse k) o k (transition (Refuse k) (inputs s k)).stage refl (call_moves (Refuse k) (inputs s k) (RefusesChange (stage s k)) refl (is_refusable (stage s k)))
    (calm_at_rest s (Refuse k) o refl refl)

pub removal_refused : (s : Seen) (k : ℕ) (o : Option Emission) → stage s k ≡ ToRemove → stage (and_then (did (Refuse k) o) s) k ≡ ToAnswer Unavailable
removal_refused s k o is = named_stage (did (Refuse k) o) s k (is_here s k ToRemove is (λ e. absurd (cc e))) refl
    ∙ ap (λ (x : Stage). (transition (Refuse k) (at_stage s k x)).stage) is

pub write_refused : (s : Seen) (k count : ℕ) (t : Ticket) (o : Option Emission) → stage s k ≡ ToCommit count t → t.request.method ≡ Post → code_class (meaning_at t).code ≡ 2 → stage (and_then (did (Refuse k) o) s) k ≡ ToAnswer Unavailable
write_refused s k count t o is post class = named_stage (did (Refuse k) o) s k (is_here s k (ToCommit count t) is (λ e. absurd (cc e))) refl
    ∙ (ap (λ (x : Stage). (transition (Refuse k) (at_stage s k x)).stage) is
    ∙ ap (λ (b : Bool). (effect_of (Refuse k) (at_stage s k (ToCommit count t)) (call_if b (RefusesChange (ToCommit count t)))).stage) (wanted t post class))

-- a job at a stage that isn't refusable stays as it is.
stays : (s : Seen) (k : ℕ) (o : Option Emission) → not (is_refusable (stage s k)) ≡ true → and_then (did (Refuse k) o) s ≡ s
stays s k o isnt = no_ops_stay (did (Refuse k) o) s isnt

pub read_stays : (s : Seen) (k count : ℕ) (t : Ticket) (o : Option Emission) → stage s k ≡ ToCommit count t → (t.request.method ≡ Get) ⊎ (code_class (meaning_at t).code ≡ 2 → ⊥) → and_then (did (Refuse k) o) s ≡ s
read_stays s k count t o is reads = stays s k o (ap (λ (x : Stage). not (is_refusable x)) is ∙ ap not (unwanted t reads))

pub made_stays : (s : Seen) (k word : ℕ) (content : Content) (o : Option Emission) → stage s k ≡ ToRaise word content → and_then (did (Refuse k) o) s ≡ s
made_stays s k word content o is = stays s k o (ap (λ (x : Stage). not (is_refusable x)) is)

pub install_stays : (s : Seen) (k : ℕ) (o : Option Emission) → stage s k ≡ ToInstall → and_then (did (Refuse k) o) s ≡ s
install_stays s k o is = stays s k o (ap (λ (x : Stage). not (is_refusable x)) is)
