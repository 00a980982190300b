-- No owner knows a word of a slot that is greater than the slot's head word.
use Rattle.std.proofs.Common.{◌≡◌, ◌≢◌, ◌⊎◌, ℕ, ◌<◌, ◌≤◌, Bool, true, false, if◌then◌else◌, max, List, [], ◌∷◌, ◌++◌, length, set, refl, sym, ap, subst, ⊎_elim, inl, inr, arith}
use Rattle.std.specs.Prelude.{◌==◌}
use Rattle.std.specs.List.{filter}
use Rattle.std.proofs.lemmas.Bool.Decides.{nat_tests}
use Rattle.std.proofs.lemmas.Grind.{common_steps}
use Rattle.std.proofs.lemmas.List.{length-set}
use native.Mathlib.Decide.{ℕ_discrete}
use Rattle.fc_book.specs.declared.view.Track.{Track}
use Rattle.fc_book.specs.declared.view.BookView.{BookView}
use Rattle.fc_book.specs.Tracks.{AreOn, HasKey, IsViewOf, entries_with, is_on, with_entry}
use Rattle.fc_front.specs.Heads.{word_at}
use Rattle.fc_calls.specs.Logged.{LooksAt, RaisesWord}
use Rattle.fc_linear.specs.Operations.{Operation, Logged}
use Rattle.fc_filed.specs.declared.entry.FiledEntry.{FiledEntry}
use Rattle.fc_filed.specs.Entries.{ChangesWords, OperationsLead, entry_keys}
use Rattle.fc_filed.specs.Threads.{greatest_word, known_word, word_in}

same_number : (m n : ℕ) → (m == n) ≡ true → m ≡ n
same_number m n is = grind (is, arith, nat_tests)

-- a word that is at most m where the slots are the same.
if_same : (b : Bool) (n slot word m : ℕ) → (n == slot) ≡ b → (n ≡ slot → word ≤ m) → (if b then word else 0) ≤ m
if_same true n slot word m is h = h (same_number n slot is)
if_same false n slot word m is h = omega arith

-- an element of a list, after one was set: it is the one that was set, or is unchanged.
at_set : (ws : List ℕ) (n word slot : ℕ) → slot < length ws → ((n ≡ slot) × (word_at (set ws n word) slot ≡ word)) ⊎ ((n ≢ slot) × (word_at (set ws n word) slot ≡ word_at ws slot))
at_set ws n word slot lt = elim (ℕ_discrete n slot) [ yes e ↦ inl (e, grind (arith, common_steps)) | no d ↦ inr (d, grind (arith, common_steps)) ]

module _ (slot : ℕ) where
  -- an operation lowers no word, and leaves the slot's word no less than its own.
  record IsKept (operation : Operation) (ws vs : List ℕ) : Type 0 where
    pub has : slot < length vs
    pub rises : word_at ws slot ≤ word_at vs slot
    pub knows : word_in slot operation ≤ word_at vs slot

  unchanged : (operation : Operation) (ws vs : List ℕ) → slot < length ws → vs ≡ ws → word_in slot operation ≤ word_at ws slot → IsKept operation ws vs
  unchanged operation ws vs lt is le = subst (λ (us : List ℕ). IsKept operation ws us) (sym is) (record { has = lt; rises = omega arith; knows = le })

  raised : (n word : ℕ) (ws vs : List ℕ) → slot < length ws → vs ≡ set ws n (max (word_at ws n) word) → IsKept (Logged (RaisesWord n word)) ws vs
  raised n word ws vs lt is = subst (λ (us : List ℕ). IsKept (Logged (RaisesWord n word)) ws us) (sym is) (record {
    has = (let same = length-set ws n (max (word_at ws n) word) in omega (arith, same, lt));
    rises = ⊎_elim
        (λ (x : (n ≡ slot) × (word_at (set ws n (max (word_at ws n) word)) slot ≡ max (word_at ws n) word)). let e = x.1 in let s = ap (λ (k : ℕ). word_at ws k) x.0 in omega (arith, e, s))
        (λ (x : (n ≢ slot) × (word_at (set ws n (max (word_at ws n) word)) slot ≡ word_at ws slot)). let e = x.1 in omega (arith, e))
        (at_set ws n (max (word_at ws n) word) slot lt);
    knows = if_same (n == slot) n slot word (word_at (set ws n (max (word_at ws n) word)) slot) refl (λ same. ⊎_elim
        (λ (x : (n ≡ slot) × (word_at (set ws n (max (word_at ws n) word)) slot ≡ max (word_at ws n) word)). let e = x.1 in omega (arith, e))
        (λ (x : (n ≢ slot) × (word_at (set ws n (max (word_at ws n) word)) slot ≡ word_at ws slot)). absurd (x.0 same))
        (at_set ws n (max (word_at ws n) word) slot lt));
  })

  kept : (operation : Operation) (ws vs : List ℕ) → slot < length ws → ChangesWords operation ws vs → IsKept operation ws vs
  kept (Logged (LooksAt n word)) ws vs lt d = unchanged (Logged (LooksAt n word)) ws vs lt d.1
      (if_same (n == slot) n slot word (word_at ws slot) refl (λ same. let e = d.0 in let s = ap (λ (k : ℕ). word_at ws k) same in omega (arith, e, s)))
  kept (Logged (RaisesWord n word)) ws vs lt d = raised n word ws vs lt d
  kept other ws vs lt d = unchanged other ws vs lt d (omega arith)

  -- ---- a history

  -- the history's operations lower no word, and leave the slot's word no less than each of theirs.
  pub record IsKeptBy (log : List FiledEntry) (ws vs : List ℕ) : Type 0 where
    pub has : slot < length vs
    pub rises : word_at ws slot ≤ word_at vs slot
    pub knows : greatest_word slot log ≤ word_at vs slot

  pub kept_by : (log : List FiledEntry) (ws vs : List ℕ) → slot < length ws → OperationsLead ChangesWords log ws vs → IsKeptBy log ws vs
  kept_by [] ws vs lt is = subst (λ (us : List ℕ). IsKeptBy [] ws us) (sym is) (record { has = lt; rises = omega arith; knows = omega arith })
  kept_by (e ∷ es) ws vs lt r =
      let here = kept e.operation ws r.0 lt r.1 in
      let rest = kept_by es r.0 vs here.has r.2 in
      record {
        has = rest.has;
        rises = (let a = here.rises in let b = rest.rises in omega (arith, a, b));
        knows = (let a = here.knows in let b = rest.rises in let c = rest.knows in omega (arith, a, b, c));
      }

  -- ---- the tracks of an owner

  fewer_if : (b : Bool) (e : FiledEntry) (es rest : List FiledEntry) → greatest_word slot rest ≤ greatest_word slot es → greatest_word slot (if b then e ∷ rest else rest) ≤ greatest_word slot (e ∷ es)
  fewer_if true e es rest le = omega (arith, le)
  fewer_if false e es rest le = omega (arith, le)

  fewer : (p : FiledEntry → Bool) (log : List FiledEntry) → greatest_word slot (filter p log) ≤ greatest_word slot log
  fewer p [] = omega arith
  fewer p (e ∷ es) = fewer_if (p e) e es (filter p es) (fewer p es)

  known : (log : List FiledEntry) (ts : List (Track FiledEntry)) → AreOn entry_keys log ts → known_word slot ts ≤ greatest_word slot log
  known log [] a = omega arith
  known log (t ∷ ts) a =
      let here = fewer (is_on entry_keys t.key) log in
      let same = ap (λ (es : List FiledEntry). greatest_word slot es) a.0 in
      let rest = known log ts a.1 in
      omega (arith, here, same, rest)

  pub known_at_most : (log : List FiledEntry) (v : BookView FiledEntry) (first ws : List ℕ) → slot < length first → IsViewOf entry_keys log v → OperationsLead ChangesWords log first ws → known_word slot v.own ≤ word_at ws slot
  known_at_most log v first ws lt is leads =
      let of = known log v.own is.own in
      let by = (kept_by log first ws lt leads).knows in
      omega (arith, of, by)

  -- ---- an entry is filed

  greatest_more : (es : List FiledEntry) (e : FiledEntry) → greatest_word slot (es ++ e ∷ []) ≡ max (greatest_word slot es) (word_in slot e.operation)
  greatest_more [] e = omega arith
  greatest_more (x ∷ xs) e = let rest = greatest_more xs e in omega (arith, rest)

  greatest_if : (b : Bool) (es : List FiledEntry) (e : FiledEntry) → (greatest_word slot es ≤ greatest_word slot (entries_with b es e)) × (b ≡ true → word_in slot e.operation ≤ greatest_word slot (entries_with b es e)) × (greatest_word slot (entries_with b es e) ≤ max (greatest_word slot es) (word_in slot e.operation))
  greatest_if true es e = let more = greatest_more es e in (omega (arith, more), λ is. omega (arith, more), omega (arith, more))
  greatest_if false es e = (omega arith, λ is. absurd (cc is), omega arith)

  -- an owner of a thread's track that files an entry of the thread knows the entry's word as well.
  pub known_more : (e : FiledEntry) (ts : List (Track FiledEntry)) → (known_word slot ts ≤ known_word slot (with_entry entry_keys e ts)) × (known_word slot (with_entry entry_keys e ts) ≤ max (known_word slot ts) (word_in slot e.operation))
  known_more e [] = (omega arith, omega arith)
  known_more e (t ∷ ts) =
      let here = greatest_if (is_on entry_keys t.key e) t.entries e in
      let low = here.0 in
      let high = here.2 in
      let rest = known_more e ts in
      let low_rest = rest.0 in
      let high_rest = rest.1 in
      (omega (arith, low, low_rest), omega (arith, high, high_rest))

  on_own : (e : FiledEntry) → is_on entry_keys e.who e ≡ true
  on_own e = grind (arith, nat_tests)

  known_own : (e : FiledEntry) (ts : List (Track FiledEntry)) → HasKey e.who ts → word_in slot e.operation ≤ known_word slot (with_entry entry_keys e ts)
  known_own e [] h = absurd h
  known_own e (t ∷ ts) (inl same) =
      let on = subst (λ (k : ℕ). is_on entry_keys k e ≡ true) (sym same) (on_own e) in
      let here = (greatest_if (is_on entry_keys t.key e) t.entries e).1 on in
      omega (arith, here)
  known_own e (t ∷ ts) (inr h) = let rest = known_own e ts h in omega (arith, rest)

  pub known_filed : (e : FiledEntry) (ts : List (Track FiledEntry)) → HasKey e.who ts → known_word slot (with_entry entry_keys e ts) ≡ max (known_word slot ts) (word_in slot e.operation)
  known_filed e ts h =
      let both = known_more e ts in
      let low = both.0 in
      let high = both.1 in
      let own = known_own e ts h in
      omega (arith, low, high, own)
