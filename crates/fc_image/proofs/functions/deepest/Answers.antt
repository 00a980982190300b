use Rattle.std.proofs.Common.{◌≡◌, ◌+◌, ◌-◌, Some, sym, ap, ◌∙◌, arith, rules}
use Rattle.std.specs.Prelude.{slice_get}
use Rattle.std.proofs.lemmas.Option.{slice_get-get_or}
use Rattle.fc_image.specs.Functions.{depths, is_start, frames}
use Rattle.fc_image.proofs.CostTable.{top_kept, zero_at, past_end}
use Rattle.fc_image.proofs.FunctionTables.{length-depths, depth_more}
use Rattle.fc_image.proofs.functions.deepest.Goals as goal

pub loop-slot-init : goal.loop-slot-init
loop-slot-init c = record {
  len = search rules;
  slot = omega arith;
  capped = λ k. let e = zero_at 1024 k in omega (arith, e);
  known = λ k le.
      let e = zero_at 1024 k in
      let f = past_end (depths (is_start c.args.code.now) 0 c.args.code.now) k (omega (arith, length-depths (is_start c.args.code.now) 0 c.args.code.now, le)) in
      omega (arith, e, f);
}

pub loop-slot-preserved : goal.loop-slot-preserved
loop-slot-preserved c =
    let slot = c.loop-slot.slot - 1 in
    let l = c.loop-slot.invariant in
    let insn = c.index-code-slot.result in
    let stands : slice_get c.args.code.now slot ≡ Some insn = slice_get-get_or c.args.code.now slot insn (omega (arith, l.slot)) ∙ ap Some (sym c.index-code-slot.is) in
    record {
      len = search rules;
      slot = omega arith;
      capped = top_kept 9 c.loop-slot.depths slot c.depth.result (omega (arith, l.len, l.slot, c.requires.count)) l.capped (omega (arith, c.depth.ensures));
      known = depth_more c.args.code.now c.args.starts.now c.loop-slot.depths slot c.depth.result insn stands (omega (arith, l.len, l.slot, c.requires.count))
          (λ lt. c.requires.starts.each (slot + 1) (omega (arith, l.len, lt))) (λ k le. l.known k (omega (arith, le))) c.depth.ensures;
    }

pub returns : goal.returns
unfolding frames
returns c = let e = c.loop-slot.invariant.known 0 (omega arith) in omega (arith, e)
