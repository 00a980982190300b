-- The possible refusals: the first broken rule, with a number below 20, and its slot; or, if only
-- the typing is missing, any rule from 20 to 28 and any slot of the program.
use Rattle.std.specs.Prelude.{◌≡◌, ℕ, ◌<◌, ◌≤◌, List, None}
use Rattle.fc_isa.specs.declared.rule.Fault.{Fault}
use Rattle.fc_isa.specs.declared.decoder.DecodeError.{DecodeError}
use Rattle.fc_isa.specs.declared.decoder.DecodeError.TheVariants.{Fault as FaultAt, NoMemory as NoRoom}
use Rattle.fc_isa.specs.Rules.{number_of}
use Rattle.fc_image.specs.Head.{head_fault, stated}
use Rattle.fc_verify.specs.declared.refusal.Refusal.{Refusal}
use Rattle.fc_verify.specs.declared.refusal.Refusal.TheVariants.{Broken, NoMemory}
use Rattle.fc_verify.specs.Accepted.{Judgement, Accepts, Breaks, Untypable}
use Rattle.fc_verify.specs.Judged.{judged}

abbrev pub IsFaultOf : List ℕ → Judgement → Fault → Type 0
IsFaultOf image (Accepts p) f = ⊥
IsFaultOf image (Breaks rule slot) f = (f.rule ≡ rule) × (f.slot ≡ slot) × (number_of rule < 20)
IsFaultOf image Untypable f = (20 ≤ number_of f.rule) × (number_of f.rule ≤ 28) × (f.slot < (stated image).count)

-- a refusal is such a fault, or a lack of memory, which is reported only if the header breaks no
-- rule.
abbrev pub IsRefusal : List ℕ → Refusal → Type 0
IsRefusal image (Broken f) = IsFaultOf image (judged image) f
IsRefusal image NoMemory = head_fault image ≡ None

-- a decoding error as a refusal.
abbrev pub refusal_of : DecodeError → Refusal
refusal_of (FaultAt f) = Broken f
refusal_of NoRoom = NoMemory
