use Rattle.std.proofs.Common.{◌≡◌, ◌-◌, ◌<◌, ℕ, suc, Bool, List, Option, Some, sym, ap, ◌∙◌, subst, arith, rules}
use Rattle.std.specs.Prelude.{slice_get}
use Rattle.std.proofs.lemmas.Option.{slice_get-get_or}
use Rattle.fc_isa.specs.declared.insn.Insn.{Insn}
use Rattle.fc_image.specs.declared.loops.Loop.{Loop}
use Rattle.fc_image.specs.Loops.{loop_if, loops_of}
use Rattle.fc_image.specs.Tables.{AreHeads, headed}
use Rattle.fc_image.proofs.HeadTable.{AreHeadsFrom, heads_first, heads_more, heads_are, none_in}
use Rattle.fc_image.proofs.head_table.loops_by_head.Goals as goal

pub loop-slot-init : goal.loop-slot-init
loop-slot-init c = record { slot = omega arith; heads = heads_first c.loops_allowed-allowed.result c.args.code.now _ _ (omega arith) (search rules) (none_in 1024) }

-- the table of loops that end after a slot, with the loop that ends at the slot, is the table from
-- that slot on
heads_now : (allowed : Bool) (code : List Insn) (at slot : ℕ) (insn : Insn) (heads new : List (Option Loop)) (ending : Option Loop) → at ≡ suc slot → slot < 1024 → slice_get code slot ≡ Some insn → AreHeadsFrom allowed code at heads → new ≡ headed heads ending → ending ≡ loop_if allowed code slot insn → AreHeadsFrom allowed code slot new
heads_now allowed code at slot insn heads new ending e few stands t is f =
    let more = heads_more allowed code slot insn heads few stands (subst (λ n. AreHeadsFrom allowed code n heads) e t) in
    subst (AreHeadsFrom allowed code slot) (sym (is ∙ ap (headed heads) f)) more

pub loop-slot-preserved : goal.loop-slot-preserved
loop-slot-preserved c =
    let slot = c.loop-slot.slot - 1 in
    let l = c.loop-slot.invariant in
    let code = c.args.code.now in
    let insn = c.index-code-slot.result in
    let stands : slice_get code slot ≡ Some insn = slice_get-get_or code slot insn (omega (arith, l.slot)) ∙ ap Some (sym c.index-code-slot.is) in
    record {
      slot = omega arith;
      heads = heads_now c.loops_allowed-allowed.result code c.loop-slot.slot slot insn c.loop-slot.heads c.put_head.new.heads c.loop_if-ending.result (omega arith) (omega arith) stands l.heads c.put_head.ensures c.loop_if-ending.ensures.counted;
    }

pub returns : goal.returns
returns c =
    let l = c.loop-slot.invariant in
    let z : c.loop-slot.slot ≡ 0 = omega arith in
    subst (λ b. AreHeads (loops_of b c.args.code.now) c.loop-slot.heads) c.loops_allowed-allowed.ensures (heads_are c.loops_allowed-allowed.result c.args.code.now c.loop-slot.heads (subst (λ n. AreHeadsFrom c.loops_allowed-allowed.result c.args.code.now n c.loop-slot.heads) z l.heads))
