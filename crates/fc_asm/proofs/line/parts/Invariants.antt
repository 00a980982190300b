use Rattle.std.proofs.Common.{◌≡◌, map, length, take}
use Rattle.std.specs.Prelude.{◌==◌}
use Rattle.std.specs.List.{slice_split, flat_map}
use Rattle.fc_asm.specs.Syntax.{split_commas}
use Rattle.fc_asm.proofs.line.parts.Given as goal

-- the words so far are those of the parts so far
abbrev pub invariant-loop-part : goal.invariant-loop-part
invariant-loop-part l = map (λ word. word.now) l.words.items ≡ flat_map split_commas (take (length l.yielded) (slice_split (λ b. b == 32) l.code))
