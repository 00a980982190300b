-- Lines in order: the effect of one more line, and the first line with a mistake.
use Rattle.std.proofs.Common.{◌≡◌, ℕ, suc, ◌+◌, ◌<◌, Option, Some, None, Ok, Err, List, [], ◌∷◌, ◌++◌, Bor, map, length, take, drop, get_or, refl, sym, ap, subst, ◌∙◌, arith, append-nil}
use Rattle.std.specs.Prelude.{All}
use Rattle.std.specs.List.{flat_map}
use Rattle.std.specs.Option.{option_to_list}
use Rattle.std.proofs.lemmas.List.{take_more, length-take-le, flat_map_more, take-append-drop, append_assoc}
use Rattle.std.proofs.lemmas.List.Elements.{All-push}
use Rattle.std.proofs.Math.Seq.{drop-cons}
use Rattle.fc_isa.specs.declared.insn.Insn.{Insn}
use Rattle.fc_asm.specs.declared.error.Mistake.{Mistake}
use Rattle.fc_asm.specs.declared.error.AsmError.{AsmError}
use Rattle.fc_asm.specs.declared.error.AsmError.TheVariants.{Faulty, NoMemory}
use Rattle.fc_asm.specs.Names.{Text}
use Rattle.fc_asm.specs.Operands.{Reading}
use Rattle.fc_asm.specs.Syntax.{words_of, meaning, line_meaning}
use Rattle.fc_asm.specs.Assembled.{second_slot, slots_in, line_slots, mistake_in, IsFirstMistake, IsAsmError, IsLineError}

-- the meaning of a line is the result of parsing its words
pub line_means : (line : Text) (ws vs : List (Bor (List ℕ))) (r : Reading (Option Insn)) → map (λ w. w.now) ws ≡ words_of line → vs ≡ ws → r ≡ meaning (map (λ w. w.now) vs) → line_meaning line ≡ r
unfolding line_meaning
line_means line ws vs r w v e = ap meaning (sym w) ∙ ap (λ (x : List (Bor (List ℕ))). meaning (map (λ y. y.now) x)) (sym v) ∙ sym e

module _ (lines : List Text) (n m : ℕ) (line : Text) (turn : (n < length lines) × (line ≡ get_or lines n line)) (e : m ≡ n + 1) where
  take_turn : take m lines ≡ take n lines ++ line ∷ []
  take_turn = ap (λ k. take k lines) e ∙ take_more lines n line turn.0 ∙ ap (λ l. take n lines ++ l ∷ []) (sym turn.1)

  pub more_faultless : mistake_in (line_meaning line) ≡ None → All (λ l. mistake_in (line_meaning l) ≡ None) (take n lines) → All (λ l. mistake_in (line_meaning l) ≡ None) (take m lines)
  more_faultless fine h =
      let P : List Text → Type 0 = λ t. All (λ l. mistake_in (line_meaning l) ≡ None) t in
      subst P (sym take_turn) (All-push (λ l. mistake_in (line_meaning l) ≡ None) (take n lines) line h fine)

  pub more_slots : (q q' : List Insn) → q ≡ flat_map line_slots (take n lines) → q' ≡ q ++ line_slots line → q' ≡ flat_map line_slots (take m lines)
  more_slots q q' so_far push = push ∙ ap (λ t. t ++ line_slots line) so_far ∙ flat_map_more line_slots [] (take n lines) line ∙ ap (flat_map line_slots) (sym take_turn)

  first_mistake : (mistake : Mistake) → line_meaning line ≡ Err mistake → All (λ l. mistake_in (line_meaning l) ≡ None) (take n lines) → IsFirstMistake lines mistake m
  first_mistake mistake h faultless = record {
    before = take n lines;
    faulty = line;
    after = drop (suc n) lines;
    parted = sym (take-append-drop n lines) ∙ ap (λ t. take n lines ++ t) (drop-cons lines n line turn.0 ∙ ap (λ l. l ∷ drop (suc n) lines) (sym turn.1));
    faultless = faultless;
    counted = e ∙ ap (λ k. k + 1) (sym (length-take-le n lines (omega arith)));
    here = ap mistake_in h;
  }

no_mistake : (lines : List Text) (n : ℕ) (line : Text) (mistake : Mistake) → (n < length lines) × (line ≡ get_or lines n line) → line_meaning line ≡ Err mistake → All (λ l. mistake_in (line_meaning l) ≡ None) lines → ⊥
no_mistake lines n line mistake turn h all =
    let none : mistake_in (line_meaning line) ≡ None = ap (λ l. mistake_in (line_meaning l)) turn.1 ∙ all n line turn.0 in
    let some : mistake_in (line_meaning line) ≡ Some mistake = ap mistake_in h in
    cc

module _ (lines : List Text) (n m : ℕ) (line : Text) (turn : (n < length lines) × (line ≡ get_or lines n line)) where
  -- if no line before a line has a mistake, the error of that line is the error of the text
  pub first_error : (error : AsmError) → m ≡ n + 1 → IsLineError line m error → All (λ l. mistake_in (line_meaning l) ≡ None) (take n lines) → IsAsmError lines error
  first_error (Faulty mistake number) e h faultless = first_mistake lines n number line turn (h.1 ∙ e) mistake h.0 faultless
  first_error NoMemory e h faultless = tt

  -- if no line has a mistake, an error is a lack of memory
  pub no_error : (error : AsmError) → IsLineError line m error → All (λ l. mistake_in (line_meaning l) ≡ None) lines → error ≡ NoMemory
  no_error (Faulty mistake number) h all = absurd (no_mistake lines n line mistake turn h.0 all)
  no_error NoMemory h all = refl

-- the slots of a line are none for a blank line, one for an instruction, and two for a wide load
pub no_slots : (line : Text) (q q' : List Insn) → line_meaning line ≡ Ok None → q' ≡ q → q' ≡ q ++ line_slots line
no_slots line q q' h e = e ∙ sym (append-nil q) ∙ ap (λ r. q ++ slots_in r) (sym h)

pub one_slot : (line : Text) (i first : Insn) (q q' : List Insn) → line_meaning line ≡ Ok (Some i) → first ≡ i → second_slot i ≡ None → q' ≡ q ++ first ∷ [] → q' ≡ q ++ line_slots line
one_slot line i first q q' h f s e = e ∙ ap (λ x. q ++ x ∷ []) f ∙ ap (λ o. q ++ i ∷ option_to_list o) (sym s) ∙ ap (λ r. q ++ slots_in r) (sym h)

pub two_slots : (line : Text) (i first second : Insn) (q p q' : List Insn) → line_meaning line ≡ Ok (Some i) → first ≡ i → second_slot i ≡ Some second → p ≡ q ++ first ∷ [] → q' ≡ p ++ second ∷ [] → q' ≡ q ++ line_slots line
two_slots line i first second q p q' h f s e g =
    g ∙ ap (λ t. t ++ second ∷ []) e ∙ append_assoc q (first ∷ []) (second ∷ []) ∙ ap (λ x. q ++ x ∷ second ∷ []) f ∙ ap (λ o. q ++ i ∷ option_to_list o) (sym s) ∙ ap (λ r. q ++ slots_in r) (sym h)
