use Rattle.std.proofs.Common.{◌≡◌, Bool, true, false, not, Some, arith, refl, sym, ap, ◌∙◌}
use mathlib.Core.Bool.{beq}
use Rattle.fc_isa.specs.Program.{is_wide_second, is_wide_load}
use Rattle.fc_isa.proofs.Programs.{step_more, step_stuck, step_end}
use Rattle.fc_isa.proofs.program.is_program.Goals as goal

differ : (a b : Bool) → not (beq a b) ≡ true → a ≡ b → ⊥
differ true true h e = cc h
differ true false h e = cc e
differ false true h e = cc e
differ false false h e = cc h

agree : (a b : Bool) → not (beq a b) ≡ false → a ≡ b
agree true true h = refl
agree true false h = absurd (cc h)
agree false true h = absurd (cc h)
agree false false h = refl

pub returns-then-is_wide_second-second : goal.returns-then-is_wide_second-second
returns-then-is_wide_second-second c =
    sym (step_stuck c.args.slots.now c.loop-slot.slot-index c.slot-item.result c.loop-slot.second (omega arith) c.loop-slot.invariant
    (λ e. differ c.is_wide_second.result c.loop-slot.second c.if-is_wide_second-second.true (c.is_wide_second.ensures ∙ ap is_wide_second c.slot-item.is ∙ e)))

pub loop-slot-preserved : goal.loop-slot-preserved
loop-slot-preserved c =
    step_more c.args.slots.now c.loop-slot.slot-index c.slot-item.result c.loop-slot.second (omega arith) c.loop-slot.invariant
    (ap is_wide_second (sym c.slot-item.is) ∙ sym c.is_wide_second.ensures ∙ agree c.is_wide_second.result c.loop-slot.second c.if-is_wide_second-second.false)
    ∙ ap Some (ap is_wide_load (sym c.slot-item.is) ∙ sym c.is_wide_load-second.ensures)

pub returns : goal.returns
returns c = sym (step_end c.args.slots.now c.loop-slot.slot-index c.loop-slot.second (omega arith) c.loop-slot.invariant)
