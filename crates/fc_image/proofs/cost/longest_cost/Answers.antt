use Rattle.std.proofs.Common.{◌≡◌, ◌+◌, ◌-◌, ◌<◌, ℕ, suc, Bool, List, drop, min, Option, Some, None, sym, ap, ◌∙◌, subst, arith, rules}
use Rattle.std.specs.Prelude.{slice_get}
use Rattle.std.proofs.lemmas.Option.{slice_get-get_or}
use Rattle.fc_isa.specs.declared.insn.Insn.{Insn}
use Rattle.fc_isa.specs.Flow.{flow}
use Rattle.fc_image.specs.declared.loops.Loop.{Loop}
use Rattle.fc_image.specs.Loops.{begins, loop_if, loops_of}
use Rattle.fc_image.specs.Paths.{cost_at, looped, own_cost, costs, cost_of, cost_in}
use Rattle.fc_image.specs.Tables.{AreLow}
use Rattle.fc_image.proofs.CostTable.{length-costs, cost_more, top_kept, zero_at, past_end}
use Rattle.fc_image.proofs.HeadTable.{default_in, ends_here}
use Rattle.fc_image.proofs.cost.longest_cost.Goals as goal

pub loop-slot-init : goal.loop-slot-init
loop-slot-init c = record {
  len = search rules;
  slot = omega arith;
  capped = λ k. let e = zero_at 1024 k in omega (arith, e);
  known = λ k le. let e = zero_at 1024 k in let f = past_end (costs (loops_of c.args.allowed c.args.code.now) 0 c.args.code.now) k (omega (arith, length-costs (loops_of c.args.allowed c.args.code.now) 0 c.args.code.now, le)) in omega (arith, e, f);
}

pub steps-requires-clause-low : goal.steps-requires-clause-low
steps-requires-clause-low c =
    let slot = c.loop-slot.slot - 1 in
    let l = c.loop-slot.invariant in
    let h = c.requires.heads in
    let size = h.count in
    let count = c.requires.count in
    subst (AreLow 1024) (default_in c.args.heads.now slot None c.index-heads-slot.result (omega (arith, size, count, l.slot, c.loop-slot-test.true))) (h.low slot)

value_is : (value steps cost : ℕ) → value ≡ min steps 65537 → steps ≡ cost → value ≡ min 65537 cost
value_is value steps cost e f = omega (arith, e, f)

-- the value that is computed for a slot is the slot's cost
cost_now : (allowed : Bool) (code : List Insn) (slot : ℕ) (insn : Insn) (table : List ℕ) (beginning ending : Option Loop) (own value : ℕ) → slice_get code slot ≡ Some insn → beginning ≡ begins (loops_of allowed code) slot → ending ≡ loop_if allowed code slot insn
    → own ≡ own_cost (cost_at (drop (slot + 1) table) slot) ending (flow slot insn) → value ≡ looped (cost_at (drop (slot + 1) table) slot) beginning own → value ≡ cost_of (loops_of allowed code) slot insn (drop (suc slot) table)
cost_now allowed code slot insn table beginning ending own value stands b e o v =
    let m : slot + 1 ≡ suc slot = omega arith in
    let at = ends_here allowed code slot insn stands in
    v ∙ ap (λ n. looped (cost_at (drop n table) slot) beginning own) m
    ∙ ap (λ x. looped (cost_at (drop (suc slot) table) slot) x own) b
    ∙ ap (looped (cost_at (drop (suc slot) table) slot) (begins (loops_of allowed code) slot)) (o ∙ ap (λ n. own_cost (cost_at (drop n table) slot) ending (flow slot insn)) m ∙ ap (λ x. own_cost (cost_at (drop (suc slot) table) slot) x (flow slot insn)) (e ∙ sym at))

pub loop-slot-preserved : goal.loop-slot-preserved
loop-slot-preserved c =
    let slot = c.loop-slot.slot - 1 in
    let l = c.loop-slot.invariant in
    let code = c.args.code.now in
    let insn = c.index-code-slot.result in
    let stands : slice_get code slot ≡ Some insn = slice_get-get_or code slot insn (omega (arith, l.slot)) ∙ ap Some (sym c.index-code-slot.is) in
    let h = c.requires.heads in
    let size = h.count in
    let count = c.requires.count in
    let few : slot < 1024 = omega (arith, count, l.slot, c.loop-slot-test.true) in
    let beginning = default_in c.args.heads.now slot c.index-heads-slot.result None (omega (arith, size, few)) ∙ h.each slot few in
    record {
      len = search rules;
      slot = omega arith;
      capped = top_kept 65537 c.loop-slot.costs slot c.min.result (omega arith) l.capped (omega (arith, c.min.ensures));
      known = cost_more code (loops_of c.args.allowed code) c.loop-slot.costs slot c.min.result insn stands (omega arith) (λ k le. l.known k (omega (arith, le)))
          (value_is c.min.result c.steps.result (cost_of (loops_of c.args.allowed code) slot insn (drop (suc slot) c.loop-slot.costs)) c.min.ensures
          (cost_now c.args.allowed code slot insn c.loop-slot.costs _ c.loop_if-ending.result c.own_steps-own.result c.steps.result stands beginning c.loop_if-ending.ensures.counted c.own_steps-own.ensures.steps c.steps.ensures));
    }

pub returns : goal.returns
unfolding cost_in
returns c = c.loop-slot.invariant.known 0 (omega arith)
