use Rattle.std.proofs.Common.{◌≡◌, ◌<◌, ◌||◌, ◌∙◌, ℕ, Bool, List, Option, not, false, true, None, Some, get_or, inl, inr, sym, ap, subst, arith}
use Rattle.std.specs.Prelude.{slice_get}
use Rattle.std.proofs.lemmas.Bool.{cases_lt}
use Rattle.std.proofs.lemmas.Option.{slice_get-get_or}
use Rattle.fc_isa.specs.declared.insn.Insn.{Insn}
use Rattle.fc_image.specs.declared.loops.Loop.{Loop}
use Rattle.fc_image.specs.declared.spans.Span.{Span}
use Rattle.fc_image.specs.Loops.{disturbs}
use Rattle.fc_image.specs.Spans.{is_jumped_into}
use Rattle.fc_image.proofs.Spanned.{default_in, found, none_found}
use Rattle.fc_image.proofs.loops.is_undisturbed.Goals as goal

-- the result at a slot is that with the slot's span in the table
told : (l : Loop) (slot : ℕ) (insn : Insn) (spans : List (Option Span)) (o : Option Span) (b result : Bool) → result ≡ (disturbs l slot insn || is_jumped_into l slot o) → result ≡ b → o ≡ get_or spans slot None
    → (disturbs l slot insn || is_jumped_into l slot (get_or spans slot None)) ≡ b
told l slot insn spans o b result e f same = ap (λ s. disturbs l slot insn || is_jumped_into l slot s) (sym same) ∙ sym e ∙ f

pub loop-slot-preserved : goal.loop-slot-preserved
loop-slot-preserved c =
    let l = c.args.counted.now in
    let code = c.args.code.now in
    let at = c.loop-slot.slot in
    let found_insn = c.index-code-slot.result in
    let few : at < 1024 = omega arith in
    let stands : slice_get code at ≡ Some found_insn = slice_get-get_or code at found_insn (omega arith) ∙ ap Some (sym c.index-code-slot.is) in
    let none = told l at found_insn c.args.spans.now _ false c.is_disturbed.result c.is_disturbed.ensures c.if-is_disturbed.false (default_in c.args.spans.now at _ None (let size = c.requires.spans.size in omega (arith, size, few))) in
    λ slot insn from lt e. elim (cases_lt slot at) [
      | inl before ↦ c.loop-slot.invariant slot insn from before e
      | inr ge ↦
          let same : slot ≡ at = omega (arith, lt, ge) in
          let is : slice_get code at ≡ Some insn = subst (λ n. slice_get code n ≡ Some insn) same e in
          let same_insn : found_insn ≡ insn = cc (is, stands) in
          subst (λ n. (disturbs l n insn || is_jumped_into l n (get_or c.args.spans.now n None)) ≡ false) (sym same) (subst (λ i. (disturbs l at i || is_jumped_into l at (get_or c.args.spans.now at None)) ≡ false) same_insn none)
    ]

pub returns-then-is_disturbed : goal.returns-then-is_disturbed
returns-then-is_disturbed c =
    let l = c.args.counted.now in
    let code = c.args.code.now in
    let at = c.loop-slot.slot in
    let insn = c.index-code-slot.result in
    let few : at < 1024 = omega arith in
    let stands : slice_get code at ≡ Some insn = slice_get-get_or code at insn (omega arith) ∙ ap Some (sym c.index-code-slot.is) in
    let some = told l at insn c.args.spans.now _ true c.is_disturbed.result c.is_disturbed.ensures c.if-is_disturbed.true (default_in c.args.spans.now at _ None (let size = c.requires.spans.size in omega (arith, size, few))) in
    sym (ap not (found code c.args.spans.now l at insn c.requires.spans few (omega arith) (omega arith) stands some))

pub returns : goal.returns
returns c = sym (ap not (none_found c.args.code.now c.args.spans.now c.args.counted.now c.requires.spans c.requires.count c.requires.order c.requires.last (λ slot insn from to e. c.loop-slot.invariant slot insn from (omega (arith, to)) e)))
