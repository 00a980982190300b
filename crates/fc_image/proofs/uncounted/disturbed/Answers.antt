use Rattle.std.proofs.Common.{◌≡◌, ℕ, suc, ◌||◌, not, true, List, drop, Some, refl, sym, ap, ◌∙◌}
use Rattle.std.specs.Prelude.{slice_get}
use Rattle.std.proofs.lemmas.Option.{slice_get-get_or}
use Rattle.fc_isa.specs.declared.insn.Insn.{Insn}
use Rattle.fc_image.specs.declared.loops.Loop.{Loop}
use Rattle.fc_image.specs.Loops.{disturbs, some_slot}
use Rattle.fc_image.proofs.CostTable.{drop_at}
use Rattle.fc_image.proofs.uncounted.disturbed.Goals as goal

-- if a slot's instruction disturbs the loop, one of the instructions from the slot on does
one_disturbs : (l : Loop) (code : List Insn) (slot : ℕ) (insn : Insn) → slice_get code slot ≡ Some insn → disturbs l slot insn ≡ true → some_slot (disturbs l) slot (drop slot code) ≡ true
one_disturbs l code slot insn stands e =
    ap (some_slot (disturbs l) slot) (drop_at code slot insn stands) ∙ ap (λ b. b || some_slot (disturbs l) (suc slot) (drop (suc slot) code)) e

pub returns-in-Some : goal.returns-in-Some
returns-in-Some c =
    let insn = c.index-code-slot.result in
    let stands : slice_get c.args.code.now c.loop-slot.slot ≡ Some insn = slice_get-get_or c.args.code.now c.loop-slot.slot insn c.loop-slot-test.true ∙ ap Some (sym c.index-code-slot.is) in
    (ap not (c.loop-slot.invariant ∙ one_disturbs c.args.counted.now c.args.code.now c.loop-slot.slot insn stands c.in-Some.ensures.0), (refl, stands, c.in-Some.ensures.1))
