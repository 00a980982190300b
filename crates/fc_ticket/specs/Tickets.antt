-- A program in a slot, and the tickets of jobs.
use Rattle.std.specs.Prelude.{ℕ, List, Option}
use Rattle.arrayvec.specs.ArrayVec.{ArrayVec}
use Rattle.coap_opts.specs.Values.{Place}
use Rattle.fc_help.specs.Request.{Request}
use Rattle.fc_kinds.specs.Meaning.{Program}
use Rattle.fc_ticket.specs.declared.job.Origin.{Origin}

-- a program in a slot, with the serial of the program's install as its version.
pub record Present : Type 0 where
  pub program : Program
  pub version : ℕ
  pub vars : List ℕ

-- a ticket: the slot's serial, its program with version and variables, and the readings, as a
-- snapshot found them. It also has the request with the token, the response block that the request
-- names, and the Observe value. The ticket of a lease has the lease's number.
pub record Ticket : Type 0 where
  pub origin : Origin
  pub turn : Option ℕ
  pub token : ArrayVec ℕ
  pub request : Request
  pub block : Option Place
  pub observe : Option ℕ
  pub serial : ℕ
  pub found : Present
  pub readings : List ℕ
