use Rattle.std.proofs.Common.{◌≡◌, ◌++◌, map, filter, length, take}
use Rattle.std.specs.Prelude.{◌==◌, nat_lt}
use Rattle.std.specs.List.{slice_split}
use Rattle.fc_asm.proofs.line.push_words.Given as goal

-- the words so far are appended to those before the loop
abbrev pub invariant-loop-word : goal.invariant-loop-word
invariant-loop-word l =
    map (λ word. word.now) l.words.items
    ≡ map (λ word. word.now) l.initial.words.items ++ filter (λ word. nat_lt 0 (length word)) (take (length l.yielded) (slice_split (λ b. b == 44) l.part))
