use Rattle.std.proofs.Common.{◌≡◌, string_bytes, take}
use Rattle.fc_asm.specs.Listing.{listing}
use Rattle.fc_asm.proofs.disassembler.disassemble.Given as goal

-- the text so far is the listing of the instructions so far
abbrev pub invariant-loop-insn : goal.invariant-loop-insn
invariant-loop-insn l = string_bytes l.text ≡ listing (take l.insn-index l.program)
