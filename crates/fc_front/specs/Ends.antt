-- The content of an answer whose job ends without a run.
use Rattle.std.specs.Prelude.{◌≤◌, ℕ, Bool, true, false, nat_lt, List, Option, Some, None}
use Rattle.fc_isa.specs.Rules.{number_of}
use Rattle.fc_isa.specs.declared.rule.Fault.{Fault}
use Rattle.fc_verify.specs.declared.refusal.Refusal.{Refusal}
use Rattle.fc_verify.specs.declared.refusal.Refusal.TheVariants.{Broken, NoMemory}
use Rattle.coap_block.specs.Cuts.{Part}
use Rattle.coap_opts.specs.Values.{Place}
use Rattle.fc_front.specs.declared.answer.End.{End}
use Rattle.fc_front.specs.declared.answer.End.TheVariants.{Match, Missing, Unavailable, Made, Rejected, Removed, Told, Core}
use Rattle.fc_front.specs.declared.answer.AnswerBody.{AnswerBody}
use Rattle.fc_front.specs.declared.answer.AnswerBody.TheVariants.{Ran, Other}
use Rattle.fc_front.specs.Contents.{Content, Ran as Runs, Missing as Misses, Unavailable as NotNow, Made as Makes, Rejected as Rejects, Untyped, Valid, Deleted, Described, Listed}

-- a refusal by a rule below 20 has the rule and the slot; a refusal by typing has neither.
abbrev pub refused_by : Bool → Fault → Content
refused_by true f = Rejects f.rule f.slot
refused_by false f = Untyped

abbrev pub refused : Refusal → Content
refused (Broken f) = refused_by (nat_lt (number_of f.rule) 20) f
refused NoMemory = NotNow

abbrev pub content_of : End → Content
content_of Missing = Misses
content_of Unavailable = NotNow
content_of (Made receipt created) = Makes receipt created
content_of (Rejected refusal) = refused refusal
content_of (Match serial) = Valid serial
content_of Removed = Deleted
content_of (Told None) = Misses
content_of (Told (Some receipt)) = Described receipt
content_of (Core words) = Listed words.items

-- the requested block of the reply, with these bytes; `None` if the reply has no such block.
abbrev pub part_in : Option (Option Place) → List ℕ → Option Part
part_in None bytes = None
part_in (Some place) bytes = Some (record { bytes = bytes; place = place })

abbrev pub said_of : AnswerBody → List ℕ → Content
said_of (Ran by code block serial observed) bytes =
    Runs (record { by = by; code = code.byte; cut = part_in block bytes; serial = serial; observed = observed })
said_of (Other end) bytes = content_of end

-- the code of a run's answer is that of a response, of class 2 or above.
abbrev pub IsTold : AnswerBody → Type 0
IsTold (Ran by code block serial observed) = 64 ≤ code.byte
IsTold (Other end) = Unit {0}
