-- The first words of a server's book: zeros, and then the server's first head words.
use Rattle.std.proofs.Common.{◌≡◌, ◌≢◌, ℕ, ◌+◌, ◌-◌, ◌<◌, ◌≤◌, List, drop, length, replicate, set, sym, ◌∙◌, subst, ⊎_elim, arith}
use Rattle.std.specs.Prelude.{slice_index}
use Rattle.std.proofs.lemmas.Bool.{cases_eq}
use Rattle.std.proofs.lemmas.List.{ext_get_or, get_or-drop, get_or-replicate, get_or-set_other, get_or-set_same, length-drop, length-replicate, length-set}
use Rattle.fc_front.specs.Heads.{word_at}
use Rattle.fc_filed.specs.Books.{heads_in}
use Rattle.fc_filed.specs.Idle.{idle_word}

-- the head words of the slots below `done` are written, and each idle word is 0.
pub record AreWrittenBelow (heads : List ℕ) (done : ℕ) (words : List ℕ) : Type 0 where
  pub size : length words ≡ 80
  pub written : (slot : ℕ) → slot < done → slice_index words (16 + slot) ≡ word_at heads slot
  pub idle : (index : ℕ) → index < 8 → idle_word words index ≡ 0

pub none_written : (heads words : List ℕ) → words ≡ replicate 80 0 → AreWrittenBelow heads 0 words
none_written heads words is = subst (AreWrittenBelow heads 0) (sym is) (record {
  size = length-replicate {A = ℕ} 80 0;
  written = λ slot lt. absurd (omega (arith, lt));
  idle = λ index lt. get_or-replicate 80 (8 + index) 0 0 (omega (arith, lt));
})

pub one_written : (heads : List ℕ) (done : ℕ) (old new : List ℕ) → done < 64 → AreWrittenBelow heads done old → new ≡ set old (16 + done) (word_at heads done) → AreWrittenBelow heads (done + 1) new
one_written heads done old new lt was is = subst (AreWrittenBelow heads (done + 1)) (sym is) (record {
  size = length-set old (16 + done) (word_at heads done) ∙ was.size;
  written = λ slot below. ⊎_elim
      (λ (e : slot ≡ done). subst (λ (m : ℕ). slice_index (set old (16 + done) (word_at heads done)) (16 + m) ≡ word_at heads m) (sym e) here)
      (λ (ne : slot ≢ done). get_or-set_other old (16 + done) (16 + slot) (word_at heads done) 0 (λ p. ne (omega (arith, p))) ∙ was.written slot (omega (arith, below, ne)))
      (cases_eq slot done);
  idle = λ index low. get_or-set_other old (16 + done) (8 + index) (word_at heads done) 0 (λ p. omega (arith, p, low)) ∙ was.idle index low;
})
  where
    here : slice_index (set old (16 + done) (word_at heads done)) (16 + done) ≡ word_at heads done
    here = let size = was.size in get_or-set_same old (16 + done) (word_at heads done) 0 (omega (arith, size, lt))

pub all_written : (heads : List ℕ) (done : ℕ) (words : List ℕ) → 64 ≤ done → length heads ≡ 64 → AreWrittenBelow heads done words → heads_in words ≡ heads
all_written heads done words past count was =
    let size = was.size in
    let left = length-drop 16 words in
    ext_get_or 0 (heads_in words) heads (omega (arith, left, size, count))
    (λ slot lt. get_or-drop 16 words slot 0 ∙ was.written slot (omega (arith, lt, left, size, past)))
