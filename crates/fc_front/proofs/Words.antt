-- The head words of a server whose slots are restored.
use Rattle.std.proofs.Common.{◌≡◌, ℕ, ◌+◌, ◌<◌, ◌≤◌, List, length, map, max, sym, ◌∙◌, subst, arith, ⊎_elim, length-set}
use Rattle.std.specs.List.{range_with_len}
use Rattle.std.proofs.lemmas.Bool.{cases_eq}
use Rattle.std.proofs.lemmas.List.{ext_get_or, get_or-replicate, get_or-set_other, get_or-set_same, length-replicate}
use Rattle.std.proofs.lemmas.List.FromFn.{get_or-map-range_with_len, length-map-range_with_len}
use Rattle.fc_front.specs.Heads.{no_words, word_at, word_raised}

-- the words of the slots below `done` are these; the others are 0.
pub record AreFirstBelow (word : ℕ → ℕ) (done : ℕ) (words : List ℕ) : Type 0 where
  pub size : length words ≡ 64
  pub first : (n : ℕ) → n < done → word_at words n ≡ word n
  pub none : (n : ℕ) → done ≤ n → n < 64 → word_at words n ≡ 0

pub none_first : (word : ℕ → ℕ) (words : List ℕ) → words ≡ no_words → AreFirstBelow word 0 words
none_first word words is = subst (AreFirstBelow word 0) (sym is) (record {
  size = length-replicate {A = ℕ} 64 0;
  first = λ n lt. absurd (omega (arith, lt));
  none = λ n le lt. get_or-replicate 64 n 0 0 lt;
})

pub one_first : (word : ℕ → ℕ) (done : ℕ) (old new : List ℕ) (w : ℕ) → done < 64 → AreFirstBelow word done old → w ≡ word done → new ≡ word_raised done w old → AreFirstBelow word (done + 1) new
one_first word done old new w lt was is raised = subst (AreFirstBelow word (done + 1)) (sym raised) (record {
  size = length-set old done (max (word_at old done) w) ∙ was.size;
  first = λ n below. ⊎_elim
      (λ (e : n ≡ done). subst (λ (m : ℕ). word_at (word_raised done w old) m ≡ word m) (sym e) here)
      (λ (ne : n ≡ done → ⊥). there n ne ∙ was.first n (omega (arith, below, ne)))
      (cases_eq n done);
  none = λ n le low. there n (λ e. absurd (omega (arith, e, le))) ∙ was.none n (omega (arith, le)) low;
})
  where
    here : word_at (word_raised done w old) done ≡ word done
    here =
        let size = was.size in
        let zero = was.none done (omega arith) lt in
        get_or-set_same old done (max (word_at old done) w) 0 (omega (arith, size, lt)) ∙ omega (arith, zero, is)

    there : (n : ℕ) → (n ≡ done → ⊥) → word_at (word_raised done w old) n ≡ word_at old n
    there n ne = get_or-set_other old done n (max (word_at old done) w) 0 ne

pub all_first : (word : ℕ → ℕ) (done : ℕ) (words : List ℕ) → 64 ≤ done → AreFirstBelow word done words → words ≡ map word (range_with_len 0 64)
all_first word done words past was =
    let size = was.size in
    ext_get_or 0 words (map word (range_with_len 0 64)) (size ∙ sym (length-map-range_with_len word 0 64))
    (λ n lt. let low : n < 64 = omega (arith, lt, size) in was.first n (omega (arith, low, past)) ∙ sym (get_or-map-range_with_len word 0 64 n n 0 low (omega arith)))
