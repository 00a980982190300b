-- The calls of two counters by two threads have one history.
use Rattle.std.proofs.Common.{◌≡◌, ℕ, zero, suc, ◌+◌, ◌<◌, ◌≤◌, Bool, true, false, if◌then◌else◌, List, [], ◌∷◌, length, refl, sym, subst, ⊎_elim, arith, mod-lt}
use Rattle.std.proofs.lemmas.Bool.{cases_lt}
use Rattle.std.proofs.lemmas.Bool.Decides.{nat_tests}
use Rattle.fc_book.specs.declared.callers.CallerResults.{CallerResults}
use Rattle.fc_book.specs.declared.entry.CallEntry.{CallEntry}
use Rattle.fc_book.specs.declared.view.BookView.{BookView}
use Rattle.fc_book.specs.Counters.{AreCounted, AreTheirs, HasMadeCalls, HasOneHistory, calls_in_turn}
use Rattle.fc_book.specs.Calls.{keys_of}
use Rattle.fc_book.specs.Tracks.{HasHistory, is_on, on, track}

-- the form of an entry on the track of a key, which is that of a counter or a thread. On a
-- counter's track the entry is a thread's, and on a thread's track a counter's.
abbrev Fits : ℕ → CallEntry → Type 0
Fits k e = (k < 4) × (k < 2 → 2 ≤ e.who) × (2 ≤ k → e.part < 2)

abbrev AllFit : ℕ → List CallEntry → Type 0
AllFit k [] = Unit {0}
AllFit k (e ∷ es) = Fits k e × AllFit k es

fits_counter : (part n : ℕ) (es : List CallEntry) → part < 2 → AreCounted part n es → AllFit part es
fits_counter part n [] low a = tt
fits_counter part n (e ∷ es) low a = ((omega (arith, low), (λ l. a.1), (λ h. absurd (omega (arith, low, h)))), fits_counter part (n + 1) es low a.2)

fits_thread : (who i : ℕ) (answers : List ℕ) → 2 ≤ who → who < 4 → AllFit who (calls_in_turn who i answers)
fits_thread who i [] two four = tt
fits_thread who i (a ∷ answers) two four = ((four, (λ l. two), (λ h. mod-lt i (omega arith))), fits_thread who (i + 1) answers two four)

-- the first entry of a history fits each of its keys, and the other entries fit theirs.
module _ (k : ℕ) (e : CallEntry) (es : List CallEntry) where
  first_fits : is_on keys_of k e ≡ true → AllFit k (on keys_of k (e ∷ es)) → Fits k e
  first_fits is fit = (subst (λ (b : Bool). AllFit k (if b then e ∷ on keys_of k es else on keys_of k es)) is fit).0

  rest_fits : (b : Bool) → is_on keys_of k e ≡ b → AllFit k (on keys_of k (e ∷ es)) → AllFit k (on keys_of k es)
  rest_fits true is fit = (subst (λ (b : Bool). AllFit k (if b then e ∷ on keys_of k es else on keys_of k es)) is fit).1
  rest_fits false is fit = subst (λ (b : Bool). AllFit k (if b then e ∷ on keys_of k es else on keys_of k es)) is fit

on_part : (e : CallEntry) → is_on keys_of e.part e ≡ true
on_part e = grind (arith, nat_tests)

on_who : (e : CallEntry) → is_on keys_of e.who e ≡ true
on_who e = grind (arith, nat_tests)

part_fits : (e : CallEntry) → Fits e.part e → Fits e.who e → (e.part < 2) × (2 ≤ e.who) × (e.who < 4)
part_fits e p w = ⊎_elim
    (λ (l : e.part < 2). (l, p.1 l, w.0))
    (λ (h : 2 ≤ e.part). let l = p.2 h in absurd (omega (arith, h, l)))
    (cases_lt e.part 2)

pub are_theirs : (log : List CallEntry) → ((k : ℕ) → AllFit k (on keys_of k log)) → AreTheirs log
are_theirs [] fit = tt
are_theirs (e ∷ es) fit =
    let p = part_fits e (first_fits e.part e es (on_part e) (fit e.part)) (first_fits e.who e es (on_who e) (fit e.who)) in
    (p.0, p.1, p.2, are_theirs es (λ k. rest_fits k e es (is_on keys_of k e) refl (fit k)))

-- the view of an owner that has the tracks of both counters and both threads.
abbrev pub all_tracks : List CallEntry → List CallEntry → List CallEntry → List CallEntry → BookView CallEntry
all_tracks left right first second = record {
  locked = [];
  own = track 3 second ∷ track 2 first ∷ track 1 right ∷ track 0 left ∷ [];
  may_begin = true;
  next = 4;
}

module _ (calls : ℕ) (r : CallerResults) (left right first second : List CallEntry) where
  pub one_history : HasHistory keys_of (all_tracks left right first second)
      → AreCounted 0 0 left × (r.left ≡ length left) → AreCounted 1 0 right × (r.right ≡ length right)
      → HasMadeCalls 2 calls first r.first.items → HasMadeCalls 3 calls second r.second.items → HasOneHistory calls r
  one_history h l r' a b = record {
    log = h.log;
    theirs = are_theirs h.log fit;
    left = subst (λ (es : List CallEntry). AreCounted 0 0 es × (r.left ≡ length es)) h.is.own.1.1.1.0 l;
    right = subst (λ (es : List CallEntry). AreCounted 1 0 es × (r.right ≡ length es)) h.is.own.1.1.0 r';
    first = subst (λ (es : List CallEntry). HasMadeCalls 2 calls es r.first.items) h.is.own.1.0 a;
    second = subst (λ (es : List CallEntry). HasMadeCalls 3 calls es r.second.items) h.is.own.0 b;
  }
    where
      thread : (who : ℕ) (es : List CallEntry) (answers : List ℕ) → 2 ≤ who → who < 4 → HasMadeCalls who calls es answers → AllFit who es
      thread who es answers two four c = subst (λ (es : List CallEntry). AllFit who es) (sym c.entries_are) (fits_thread who 0 answers two four)

      fit : (k : ℕ) → AllFit k (on keys_of k h.log)
      fit zero = subst (λ (es : List CallEntry). AllFit 0 es) h.is.own.1.1.1.0 (fits_counter 0 0 left (omega arith) l.0)
      fit (suc zero) = subst (λ (es : List CallEntry). AllFit 1 es) h.is.own.1.1.0 (fits_counter 1 0 right (omega arith) r'.0)
      fit (suc (suc zero)) = subst (λ (es : List CallEntry). AllFit 2 es) h.is.own.1.0 (thread 2 first r.first.items (omega arith) (omega arith) a)
      fit (suc (suc (suc zero))) = subst (λ (es : List CallEntry). AllFit 3 es) h.is.own.0 (thread 3 second r.second.items (omega arith) (omega arith) b)
      fit (suc (suc (suc (suc k)))) = subst (λ (es : List CallEntry). AllFit (suc (suc (suc (suc k)))) es) (sym (h.is.unbegun refl (suc (suc (suc (suc k)))) (omega arith))) tt
