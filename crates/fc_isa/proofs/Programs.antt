-- Programs, read from the front with a flag that a second half must follow.
use Rattle.std.proofs.Common.{Bool, true, false, not, cond, Option, Some, None, List, [], ◌∷◌, ◌++◌, ℕ, ◌+◌, ◌<◌, ◌≤◌, ◌≡◌, suc, take, drop, get_or, length, refl, sym, ap, ◌∙◌}
use Rattle.std.proofs.lemmas.List.{take_more, take_all}
use Rattle.std.proofs.Math.Seq.{split_at}
use Rattle.fc_isa.specs.declared.insn.Insn.{Insn}
use Rattle.fc_isa.specs.declared.insn.Insn.TheVariants.{LoadWide, WideSecond}
use Rattle.fc_isa.specs.Program.{is_program, is_wide_load, is_wide_second}

abbrev pub same : Bool → Bool → Bool
same true b = b
same false b = not b

-- whether a second half must follow the list; `due` says whether one must be its first element.
-- `None` if a second half is missing, or is in the wrong place.
abbrev pub after : Bool → List Insn → Option Bool
after due [] = Some due
after due (insn ∷ program) = cond (same due (is_wide_second insn)) (after (is_wide_load insn) program) None

abbrev pub ends : Option Bool → Bool
ends (Some due) = not due
ends None = false

pub is_program-after : (program : List Insn) → is_program program ≡ ends (after false program)
is_program-after [] = refl
is_program-after (LoadWide dst value ∷ []) = refl
is_program-after (LoadWide dst value ∷ WideSecond ∷ rest) = is_program-after rest
is_program-after (LoadWide dst value ∷ insn ∷ rest) = refl
is_program-after (WideSecond ∷ rest) = refl
is_program-after (insn ∷ rest) = is_program-after rest

ended : (r : Option Bool) → ends r ≡ true → r ≡ Some false
ended (Some true) h = absurd (cc h)
ended (Some false) h = refl
ended None h = absurd (cc h)

pub program_ends : (program : List Insn) → is_program program ≡ true → after false program ≡ Some false
program_ends program h = ended (after false program) (sym (is_program-after program) ∙ h)

pub ends_program : (program : List Insn) → after false program ≡ Some false → is_program program ≡ true
ends_program program h = is_program-after program ∙ ap ends h

same_self : (b : Bool) → same b b ≡ true
same_self true = refl
same_self false = refl

differ : (a b : Bool) → (b ≡ a → ⊥) → same a b ≡ false
differ true true h = absurd (h refl)
differ true false h = refl
differ false true h = refl
differ false false h = absurd (h refl)

pub same_true : (a b : Bool) → same a b ≡ true → b ≡ a
same_true true b h = h
same_true false true h = absurd (cc h)
same_true false false h = refl

pub cond_some : (b : Bool) (x : Option Bool) (t : Bool) → cond b x None ≡ Some t → (b ≡ true) × (x ≡ Some t)
cond_some true x t h = (refl, h)
cond_some false x t h = absurd (cc h)

pub after_push : (due : Bool) (program : List Insn) (insn : Insn) (t : Bool) → after due program ≡ Some t → is_wide_second insn ≡ t → after due (program ++ insn ∷ []) ≡ Some (is_wide_load insn)
after_push due [] insn t h e =
    let s : is_wide_second insn ≡ due = cc in
    rw (s, same_self due) refl
after_push due (j ∷ program) insn t h e =
    let p = cond_some (same due (is_wide_second j)) (after (is_wide_load j) program) t h in
    rw p.0 (after_push (is_wide_load j) program insn t p.1 e)

-- if the next element is a second half that isn't due, or isn't the one that is due, no rest makes
-- the list a program
pub after_stuck : (due : Bool) (program rest : List Insn) (insn : Insn) (t : Bool) → after due program ≡ Some t → (is_wide_second insn ≡ t → ⊥) → after due (program ++ insn ∷ rest) ≡ None
after_stuck due [] rest insn t h e =
    let s : due ≡ t = cc in
    rw (differ due (is_wide_second insn) (λ k. e (k ∙ s))) refl
after_stuck due (j ∷ program) rest insn t h e =
    let p = cond_some (same due (is_wide_second j)) (after (is_wide_load j) program) t h in
    rw p.0 (after_stuck (is_wide_load j) program rest insn t p.1 e)

-- one more iteration of `is_program`. If the slot is a second half exactly when one is due, the new
-- state says whether the slot is a wide load.
pub step_more : (slots : List Insn) (k : ℕ) (d : Insn) (due : Bool) → k < length slots → after false (take k slots) ≡ Some due → is_wide_second (get_or slots k d) ≡ due
    → after false (take (k + 1) slots) ≡ Some (is_wide_load (get_or slots k d))
step_more slots k d due l h e = ap (after false) (take_more slots k d l) ∙ after_push false (take k slots) (get_or slots k d) due h e

pub step_stuck : (slots : List Insn) (k : ℕ) (d : Insn) (due : Bool) → k < length slots → after false (take k slots) ≡ Some due → (is_wide_second (get_or slots k d) ≡ due → ⊥) → is_program slots ≡ false
step_stuck slots k d due l h e =
    is_program-after slots
    ∙ ap (λ s. ends (after false s)) (split_at slots k d l)
    ∙ ap ends (after_stuck false (take k slots) (drop (suc k) slots) (get_or slots k d) due h e)

pub step_end : (slots : List Insn) (k : ℕ) (due : Bool) → length slots ≤ k → after false (take k slots) ≡ Some due → is_program slots ≡ not due
step_end slots k due l h = is_program-after slots ∙ ap (λ s. ends (after false s)) (sym (take_all k slots l)) ∙ ap ends h
