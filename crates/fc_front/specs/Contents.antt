-- The content of an answer. The rule and the slot of a refusal by typing aren't specified.
use Rattle.std.specs.Prelude.{◌≡◌, ◌≤◌, ℕ, Bool, true, List, Option}
use Rattle.fc_isa.specs.declared.rule.Rule.{Rule}
use Rattle.fc_ticket.specs.declared.receipt.Receipt.{Receipt}
use Rattle.fc_ticket.specs.declared.job.Job.{Job}
use Rattle.fc_ticket.specs.declared.job.Origin.{Origin}
use Rattle.fc_registry.specs.declared.commit.Committed.{Committed}
use Rattle.fc_registry.specs.declared.commit.Committed.TheVariants.{Done}
use Rattle.fc_registry.specs.declared.shard.Made.{Made as Install}
use Rattle.fc_registry.specs.declared.shard.Made.TheVariants.{Raised, AtEnd}
use Rattle.fc_registry.specs.declared.shard.Removal.{Removal}
use Rattle.fc_registry.specs.declared.shard.Removal.TheVariants as removals
use Rattle.fc_ticket.specs.Tickets.{Ticket}
use Rattle.fc_registry.specs.Slots.{Mark, last_serial}
use Rattle.fc_ticket.specs.Runs.{run_of}
use Rattle.fc_machine.specs.Ran.{Ran as Run}
use Rattle.fc_kinds.specs.Meaning.{Meaning}
use Rattle.coap_block.specs.Cuts.{Part}
use Rattle.coap_reply.specs.Blocks.{cut_for}

-- the answer of a run: the origin of its job, its code, the requested block of the reply, if there
-- is one, and the serial of the snapshot. `observed` says whether the client observes the slot from
-- now on.
pub record RunAnswer : Type 0 where
  pub by : Origin
  pub code : ℕ
  pub cut : Option Part
  pub serial : ℕ
  pub observed : Bool

-- the answer of a ticket's run with this meaning.
abbrev pub run_answer : Ticket → Meaning → Bool → RunAnswer
run_answer t m observed = record { by = t.origin; code = m.code; cut = cut_for t.block m.reply; serial = t.serial; observed = observed }

pub data Content : Type 0 where
  -- a program ran.
  Ran : (run : RunAnswer) → Content
  -- the slot was empty.
  Missing : Content
  -- the slot is at its last serial, memory can't be allocated, the slot changed under the eighth
  -- ticket, or the store refuses the save.
  Unavailable : Content
  -- a program was installed; `created` says whether the slot was empty.
  Made : (receipt : Receipt) (created : Bool) → Content
  -- the first rule that an image breaks, and the slot of the image that breaks it.
  Rejected : (rule : Rule) (slot : ℕ) → Content
  -- only the typing refuses the image.
  Untyped : Content
  -- the client already has the response of the slot at this serial.
  Valid : (serial : ℕ) → Content
  -- the slot is empty, whether or not it was before.
  Deleted : Content
  -- the receipt of the slot's program.
  Described : (receipt : Receipt) → Content
  -- the head words of all slots.
  Listed : (words : List ℕ) → Content

-- the outcome, the ticket and the mark belong to one run, that of the ticket.
pub record AreOne (ran : Run) (t : Ticket) (m : Mark) : Type 0 where
  pub run : ran ≡ run_of t
  pub origin : m.origin ≡ t.origin
  pub serial : m.found ≡ t.serial

-- the mark of a commit that was done belongs to the outcome and the ticket; if the commit wrote,
-- the mark's serial isn't above the last one.
abbrev pub AreDone : Run → Ticket → Committed → Type 0
AreDone ran t (Done m) = AreOne ran t m × (m.changed ≡ true → m.serial ≤ last_serial)
AreDone ran t other = Unit {0}

-- the new serial of an install isn't above the last serial.
abbrev pub IsMadeBelow : Install → Type 0
IsMadeBelow (Raised serial created) = serial ≤ last_serial
IsMadeBelow AtEnd = Unit {0}

-- the new serial of a removal isn't above the last serial.
abbrev pub IsRemovedBelow : Removal → Type 0
IsRemovedBelow (removals.Removed serial) = serial ≤ last_serial
IsRemovedBelow other = Unit {0}

-- the answer of a run belongs to this job.
abbrev pub IsOf : Job → Content → Type 0
IsOf job (Ran run) = run.by ≡ job.origin
IsOf job other = Unit {0}
