use Rattle.std.proofs.Common.{◌≡◌, ◌<◌, ◌≤◌, ◌||◌, ℕ, false, None, Some, get_or}
use Rattle.std.specs.Prelude.{slice_get}
use Rattle.fc_isa.specs.declared.insn.Insn.{Insn}
use Rattle.fc_image.specs.Loops.{disturbs}
use Rattle.fc_image.specs.Spans.{is_jumped_into}
use Rattle.fc_image.proofs.loops.is_undisturbed.Given as goal

abbrev pub invariant-loop-slot : goal.invariant-loop-slot
invariant-loop-slot l =
    (slot : ℕ) (insn : Insn) → l.counted.head ≤ slot → slot < l.slot → slice_get l.code slot ≡ Some insn
    → (disturbs l.counted slot insn || is_jumped_into l.counted slot (get_or l.spans slot None)) ≡ false
