-- The calls of counters.
use Rattle.std.proofs.Common.{◌≡◌, ◌≢◌, ℕ, ◌+◌, ◌%◌, ◌<◌, ◌≤◌, List, [], ◌∷◌, ◌++◌, Bool, true, length, refl, sym, ap, ◌∙◌, subst, inl, arith, length-append, mod-lt}
use Rattle.std.proofs.lemmas.Bool.Decides.{nat_tests}
use Rattle.fc_book.specs.declared.entry.CallEntry.{CallEntry}
use Rattle.fc_book.specs.declared.view.BookView.{BookView}
use Rattle.fc_book.specs.Counters.{AreCounted, IsCaller, IsThread, call_of, calls_in_turn, with_call}
use Rattle.fc_book.specs.Calls.{keys_of}
use Rattle.fc_book.specs.Tracks.{entries_with, is_on, own_view}

pub counted-more : (part n : ℕ) (xs : List CallEntry) (e : CallEntry) → AreCounted part n xs → e ≡ call_of part e.who (n + length xs) → 2 ≤ e.who → AreCounted part n (xs ++ e ∷ [])
counted-more part n [] e a is low = (is ∙ ap (λ (m : ℕ). call_of part e.who m) (omega arith), low, tt)
counted-more part n (x ∷ xs) e a is low = (a.0, a.1, counted-more part (n + 1) xs e a.2 (is ∙ ap (λ (m : ℕ). call_of part e.who m) (omega arith)) low)

pub length-more : (xs : List CallEntry) (e : CallEntry) → length (xs ++ e ∷ []) ≡ length xs + 1
length-more xs e = omega (arith, length-append xs (e ∷ []))

pub turn-more : (who i n : ℕ) (answers : List ℕ) → calls_in_turn who i (answers ++ n ∷ []) ≡ calls_in_turn who i answers ++ call_of ((i + length answers) % 2) who n ∷ []
turn-more who i n [] = ap (λ (m : ℕ). call_of (m % 2) who n ∷ []) (omega arith)
turn-more who i n (a ∷ answers) = ap (λ (l : List CallEntry). call_of (i % 2) who a ∷ l)
    (turn-more who (i + 1) n answers ∙ ap (λ (m : ℕ). calls_in_turn who (i + 1) answers ++ call_of (m % 2) who n ∷ []) (omega arith))

pub caller_has : (who calls : ℕ) (v : BookView CallEntry) (answers : List ℕ) → IsCaller who calls v answers → IsThread who v
caller_has who calls v answers c = subst (λ (v : BookView CallEntry). IsThread who v) (sym c.view) (inl refl)

on_own : (part who n : ℕ) → is_on keys_of who (call_of part who n) ≡ true
on_own part who n = grind (arith, nat_tests)

-- a number that isn't even is odd.
pub odd : (n : ℕ) → (n % 2 ≢ 0) → 1 ≡ n % 2
odd n uneven = let low : n % 2 < 2 = mod-lt n (omega arith) in grind (uneven, low, arith)

at : (calls n : ℕ) → n ≡ calls → calls ≡ 0 + n
at calls n is = omega (arith, is)

-- one more call of a thread keeps the form of the thread's track, if it is of the counter that is
-- next.
pub caller_more : (who part n calls : ℕ) (v w : BookView CallEntry) (answers : List ℕ) → IsCaller who calls v answers → part ≡ calls % 2 → w ≡ with_call (call_of part who n) v → IsCaller who (calls + 1) w (answers ++ n ∷ [])
caller_more who part n calls v w answers c due is = record {
  entries = c.entries ++ call_of part who n ∷ [];
  view = is ∙ (ap (λ (v : BookView CallEntry). with_call (call_of part who n) v) c.view ∙ ap (λ (b : Bool). own_view who (entries_with b c.entries (call_of part who n))) (on_own part who n));
  called = record {
    entries_are = ap (λ (l : List CallEntry). l ++ call_of part who n ∷ []) c.called.entries_are
        ∙ (ap (λ (m : ℕ). calls_in_turn who 0 answers ++ call_of m who n ∷ []) (due ∙ ap (λ (m : ℕ). m % 2) (at calls (length answers) c.called.count)) ∙ sym (turn-more who 0 n answers));
    count = omega (arith, length-append answers (n ∷ []), c.called.count);
  };
}

pub caller_new : (who : ℕ) (v : BookView CallEntry) → v ≡ own_view who [] → IsCaller who 0 v []
caller_new who v is = record { entries = []; view = is; called = record { entries_are = refl; count = refl } }
