use Rattle.std.proofs.Common.{◌≡◌, None, length, take}
use Rattle.std.specs.Prelude.{All}
use Rattle.std.specs.List.{flat_map}
use Rattle.fc_asm.specs.Assembled.{line_slots, mistake_in}
use Rattle.fc_asm.specs.Syntax.{lines_of, line_meaning}
use Rattle.fc_asm.proofs.assembler.assemble_lines.Given as goal

-- the lines so far have no mistake, and the program has their slots
abbrev pub invariant-loop-code : goal.invariant-loop-code
invariant-loop-code l = record {
  count : l.line ≡ length l.yielded;
  faultless : All (λ line. mistake_in (line_meaning line) ≡ None) (take (length l.yielded) (lines_of l.text));
  slots : l.program.items ≡ flat_map line_slots (take (length l.yielded) (lines_of l.text));
}
