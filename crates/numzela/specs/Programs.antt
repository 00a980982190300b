-- The effect of each call on a program's handle.
use Rattle.std.specs.Prelude.{◌≡◌, ◌≤◌, ℕ, Bool, true, false, List, drop, length, min, take, Option, Some, None}
use Rattle.fc_isa.specs.declared.rule.Fault.{Fault}
use Rattle.fc_isa.specs.declared.version.ImageVersion.{ImageVersion}
use Rattle.fc_isa.specs.declared.version.ImageVersion.TheVariants.{One, Two}
use Rattle.fc_isa.specs.Rules.{number_of}
use Rattle.fc_help.specs.declared.request.Method.{Method}
use Rattle.fc_help.specs.declared.request.Method.TheVariants.{Get, Post}
use Rattle.fc_help.specs.Helpers.{room_of}
use Rattle.fc_help.specs.Layout.{request_with}
use Rattle.fc_help.specs.Request.{Request}
use Rattle.fc_kinds.specs.Meaning.{Program, IsRun, input_with}
use Rattle.fc_machine.specs.Ran.{Ran, ran, meaning_of}
use Rattle.fc_verify.specs.Accepted.{Accepts}
use Rattle.fc_verify.specs.Judged.{judged}
use Rattle.fc_verify.specs.Refusals.{IsRefusal}
use Rattle.fc_verify.specs.declared.refusal.Refusal.TheVariants.{Broken}
use Rattle.numzela.specs.declared.program.RequestHead.{RequestHead}
use Rattle.numzela.specs.declared.program.ResponseHead.{ResponseHead}
use Rattle.numzela.specs.declared.program.Verdict.{Verdict}

-- ---- loading

-- the number of an image's version.
abbrev pub number_in : ImageVersion → ℕ
number_in One = 1
number_in Two = 2

-- the verdict on an accepted program.
abbrev pub verdict_for : Program → Verdict
verdict_for p = record { version = number_in p.version; cost = p.cost; budget = p.budget; vars_size = p.vars_size; rule = 0; slot = 0 }

-- the verdict on a refused image: the broken rule, the slot that breaks it, and zeros. A slot above
-- 2^32 - 1 is reported as 2^32 - 1.
abbrev pub refusal_for : Fault → Verdict
refusal_for f = record { version = 0; cost = 0; budget = 0; vars_size = 0; rule = number_of f.rule; slot = min f.slot 4294967295 }

-- the image is accepted, the handle holds its program, and the verdict is the program's.
pub record HasLoaded (image : List ℕ) (new : Option Program) (verdict : Verdict) : Type 0 where
  pub program : Program
  pub holds : new ≡ Some program
  pub accepts : judged image ≡ Accepts program
  pub told : verdict ≡ verdict_for program

-- the image is refused for a fault, a broken rule with its slot, and the verdict states this fault.
pub record HasRefused (image : List ℕ) (verdict : Verdict) : Type 0 where
  pub fault : Fault
  pub refused : IsRefusal image (Broken fault)
  pub told : verdict ≡ refusal_for fault

-- ---- running

-- the method that the flag of C states.
abbrev pub method_for : Bool → Method
method_for true = Post
method_for false = Get

-- the Content-Format, if C passes one.
abbrev pub format_for : Bool → ℕ → Option ℕ
format_for true n = Some n
format_for false n = None

-- the request that C passes.
abbrev pub request_for : RequestHead → List ℕ → List ℕ → Request
request_for head query payload = request_with (method_for head.is_post) head.slot (format_for head.has_format head.format) query payload

-- the lengths are in their ranges: the variables have the program's `vars_size`, and `reply` has
-- room for the longest reply.
pub record FitsRun (program : Program) (head : RequestHead) (query payload vars reply : List ℕ) : Type 0 where
  pub query_fits : length query ≤ 64
  pub payload_fits : length payload ≤ 1024
  pub vars_fit : length vars ≡ program.vars_size
  pub reply_fits : room_of (method_for head.is_post) ≤ length reply

-- the handle holds a program, and one of the lengths is out of its range.
pub record IsOutOfRange (held : Option Program) (head : RequestHead) (query payload vars reply : List ℕ) : Type 0 where
  pub program : Program
  pub holds : held ≡ Some program
  pub misfits : FitsRun program head query payload vars reply → ⊥

-- the code, the notify flag, the steps, the reply with its length, and the variables are those of
-- the run's meaning. The bytes after the reply are unchanged.
pub record IsReported (r : Ran) (vars old reply : List ℕ) (response : ResponseHead) : Type 0 where
  pub code : response.code ≡ (meaning_of r).code
  pub notify : response.notify ≡ (meaning_of r).notice
  pub steps : response.steps ≡ (meaning_of r).steps
  pub size : response.size ≡ length (meaning_of r).reply
  pub reply_is : take response.size reply ≡ (meaning_of r).reply
  pub rest_is : drop response.size reply ≡ drop response.size old
  pub vars_are : vars ≡ (meaning_of r).vars

-- a program has run. The program and its input determine all that was written, so the frame doesn't
-- matter.
pub record HasRunProgram (program : Program) (request : Request) (readings found vars old reply : List ℕ) (response : ResponseHead) : Type 0 where
  pub run : IsRun program (input_with request found readings)
  pub reported : IsReported (ran program request found readings) vars old reply response

-- the program of a handle has run.
pub record HasRunHeld (held : Option Program) (request : Request) (readings found vars old reply : List ℕ) (response : ResponseHead) : Type 0 where
  pub program : Program
  pub holds : held ≡ Some program
  pub has_run : HasRunProgram program request readings found vars old reply response
