-- The result of a snapshot, and the data that it writes.
use Rattle.std.specs.Prelude.{◌≡◌, ℕ, List, Option, length}
use Rattle.arrayvec.specs.ArrayVec.{ArrayVec}
use Rattle.coap_opts.specs.Values.{Place}
use Rattle.fc_help.specs.Request.{Request}
use Rattle.fc_kinds.specs.Meaning.{Program}
use Rattle.fc_ticket.specs.declared.job.Origin.{Origin}
use Rattle.fc_ticket.specs.Tickets.{Ticket}

-- the result of a snapshot.
pub data Taken : Type 0 where
  -- the ticket of the slot's program.
  Given : (ticket : Ticket) → Taken
  -- the slot is empty.
  Missing : Taken
  -- the lease isn't active.
  Stale : Taken
  -- memory for another handle of the program can't be allocated.
  Refused : Taken

-- the data that a snapshot writes: a ticket without the program, whose handle is the snapshot's
-- result.
pub record SlotSnapshot : Type 0 where
  pub origin : Origin
  pub turn : Option ℕ
  pub token : ArrayVec ℕ
  pub request : Request
  pub block : Option Place
  pub observe : Option ℕ
  pub serial : ℕ
  pub version : ℕ
  pub vars : List ℕ
  pub readings : List ℕ

-- the ticket that a program and the data of its snapshot make.
abbrev pub ticket_with : Program → SlotSnapshot → Ticket
ticket_with p f = record {
  origin = f.origin;
  turn = f.turn;
  token = f.token;
  request = f.request;
  block = f.block;
  observe = f.observe;
  serial = f.serial;
  found = record { program = p; version = f.version; vars = f.vars };
  readings = f.readings;
}

-- the data has as many variables as the program.
abbrev pub IsSized : Program → SlotSnapshot → Type 0
IsSized p f = length f.vars ≡ p.vars_size
