use Rattle.std.proofs.Common.{◌≡◌, ◌++◌, string_bytes, drop}
use Rattle.fc_tools.specs.Numbered.{numbered_from}
use Rattle.fc_tools.proofs.numbered_listing.numbered.Given as goal

-- the text so far, followed by the lines from this slot on, is the whole text.
abbrev pub invariant-loop-slot : goal.invariant-loop-slot
invariant-loop-slot l = string_bytes l.text ++ numbered_from l.slot (drop l.slot l.program) ≡ numbered_from 0 l.program
