-- A ticket has the data of its job, and the data that the job's snapshot wrote.
use Rattle.std.proofs.Common.{◌≡◌, ◌∙◌, ℕ, Bool, true, false, List, Option, Some, None, length, sym, ap, subst}
use Rattle.fc_observe.specs.Observers.{ObserverList}
use Rattle.fc_kinds.specs.Meaning.{Program}
use Rattle.fc_registry.specs.declared.body.Body.{Body}
use Rattle.fc_ticket.specs.declared.job.Job.{Job}
use Rattle.fc_registry.specs.Calls.{IsSnapshot, is_out_at, readings_if, snapshot, snapshot_by, turn_of, turn_snapshot}
use Rattle.fc_ticket.specs.Runs.{ticket_of}
use Rattle.fc_ticket.specs.Laws.{IsTicketOfJob}
use Rattle.fc_ticket.specs.Tickets.{Present, Ticket}
use Rattle.fc_registry.specs.Slots.{Slot}
use Rattle.fc_ticket.specs.Taken.{SlotSnapshot, Given, IsSized, ticket_with}
use Rattle.fc_registry.specs.Views.{present_of}
use Rattle.fc_ticket.proofs.JobTickets.{ticket_is}

given_by : (kept : Option (List ℕ)) (job : Job) (serial : ℕ) (present : Option Present) (t : Ticket) → Given t ≡ snapshot kept job serial present → IsTicketOfJob job t
given_by kept job serial None t is = absurd (cc is)
given_by (Some readings) job serial (Some p) t is =
    let same : t ≡ ticket_of job readings serial p = cc is in
    subst (IsTicketOfJob job) (sym same) (ticket_is job readings serial p)
given_by None job serial (Some p) t is = absurd (cc is)

given_out : (out : Bool) (kept : Option (List ℕ)) (job : Job) (serial : ℕ) (present : Option Present) (t : Ticket) → Given t ≡ turn_snapshot out kept job serial present → IsTicketOfJob job t
given_out true kept job serial present t is = given_by kept job serial present t is
given_out false kept job serial present t is = absurd (cc is)

given_as : (turn : Option ℕ) (kept : Option (List ℕ)) (job : Job) (slot : Slot) (at : ℕ) (w : ObserverList) (t : Ticket) → Given t ≡ snapshot_by turn kept job slot at w → IsTicketOfJob job t
given_as None kept job slot at w t is = given_by kept job slot.serial slot.present t is
given_as (Some number) kept job slot at w t is = given_out (is_out_at (turn_of job number) at w) kept job slot.serial slot.present t is

pub of_its_job : (job : Job) (readings : List ℕ) (slot : Slot) (at : ℕ) (w : ObserverList) (t : Ticket) → IsSnapshot job readings slot at w (Given t) → IsTicketOfJob job t
of_its_job job readings slot at w t takes = given_as job.turn (readings_if takes.0 readings) job slot at w t takes.1

-- the data was written for this job, with these readings, and for a slot with this serial and
-- contents.
abbrev IsWritten : Job → List ℕ → ℕ → Body → SlotSnapshot → Type 0
IsWritten job readings serial b f = (p : Program) → ticket_with p f ≡ ticket_of job readings serial (record { program = p; version = b.version; vars = b.vars })

-- the written data and a handle of the program are the result of a snapshot with enough memory.
pub given_is : (job : Job) (readings : List ℕ) (serial : ℕ) (body : Option Body) (b : Body) (p : Program) (f : SlotSnapshot) →
    body ≡ Some b → p ≡ b.program.value → IsWritten job readings serial b f →
    Given (ticket_with p f) ≡ snapshot (Some readings) job serial (present_of body)
given_is job readings serial body b p f is same writes =
    ap (λ (q : Program). Given (ticket_with q f)) same
    ∙ (ap Given (writes b.program.value) ∙ sym (ap (λ (x : Option Body). snapshot (Some readings) job serial (present_of x)) is))

-- the written data has as many variables as the program.
pub sized_is : (job : Job) (readings : List ℕ) (serial : ℕ) (b : Body) (p : Program) (f : SlotSnapshot) →
    p ≡ b.program.value → IsWritten job readings serial b f → IsSized p f
sized_is job readings serial b p f same writes =
    ap (λ (t : Ticket). length t.found.vars) (writes p) ∙ (b.size ∙ sym (ap (λ (q : Program). q.vars_size) same))
