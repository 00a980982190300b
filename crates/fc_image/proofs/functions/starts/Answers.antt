use Rattle.std.proofs.Common.{◌≡◌, ◌+◌, ◌-◌, ◌==◌, ◌||◌, ℕ, zero, suc, List, ◌∷◌, Bool, true, false, length, drop, replicate, get_or, Some, refl, sym, ap, ◌∙◌, arith, rules}
use Rattle.std.specs.Prelude.{slice_get}
use Rattle.std.proofs.lemmas.Option.{slice_get-get_or}
use Rattle.std.proofs.lemmas.List.{drop_all}
use Rattle.std.proofs.lemmas.Bool.Decides.{nat_tests}
use Rattle.fc_isa.specs.declared.insn.Insn.{Insn}
use Rattle.fc_image.specs.Functions.{is_called, is_start}
use Rattle.fc_image.proofs.FunctionTables.{mark_more}
use Rattle.fc_image.proofs.functions.starts.Goals as goal

none_at : (n k : ℕ) → get_or {A = Bool} (replicate n false) k false ≡ false
none_at zero k = refl
none_at (suc n) zero = refl
none_at (suc n) (suc k) = none_at n k

first_alone : (place : ℕ) → get_or (true ∷ replicate 1023 false) place false ≡ (place == 0)
first_alone zero = refl
first_alone (suc k) = none_at 1023 k ∙ grind (arith, nat_tests)

begins : (code : List Insn) (place : ℕ) → get_or (true ∷ replicate 1023 false) place false ≡ (is_called (length code) (drop (length code) code) place || (place == 0))
begins code place = first_alone place ∙ ap (λ c. is_called (length code) c place || (place == 0)) (sym (drop_all (length code) code (omega arith)))

pub loop-slot-init : goal.loop-slot-init
loop-slot-init c = record { len = search rules; slot = omega arith; known = λ place lt. begins c.args.code.now place }

pub loop-slot-preserved : goal.loop-slot-preserved
loop-slot-preserved c =
    let slot = c.loop-slot.slot - 1 in
    let l = c.loop-slot.invariant in
    let insn = c.index-code-slot.result in
    let n : slot + 1 ≡ c.loop-slot.slot = omega arith in
    let stands : slice_get c.args.code.now slot ≡ Some insn = slice_get-get_or c.args.code.now slot insn (omega (arith, l.slot)) ∙ ap Some (sym c.index-code-slot.is) in
    record {
      len = search rules;
      slot = omega arith;
      known = λ place lt. mark_more c.args.code.now slot place insn _ (get_or c.loop-slot.starts place false) stands
          (l.known place lt ∙ ap (λ k. is_called k (drop k c.args.code.now) place || (place == 0)) (sym n)) (c.mark.ensures place lt);
    }

pub returns : goal.returns
unfolding is_start
returns c = record { each = λ place lt. let e : c.loop-slot.slot ≡ 0 = omega arith in c.loop-slot.invariant.known place lt ∙ ap (λ k. is_called k (drop k c.args.code.now) place || (place == 0)) e }
