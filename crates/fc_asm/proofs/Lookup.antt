-- Mnemonics by their names: the row inserted last is found, and no two names are the same.
use Rattle.std.proofs.Common.{◌≡◌, ℕ, ◌+◌, ◌<◌, ◌≤◌, length, take, get_or, Bool, true, false, cond, not, ◌&&◌, Option, Some, None, List, [], ◌∷◌, ◌++◌, Bor, find, refl, sym, ap, ◌∙◌, subst}
use Rattle.std.specs.List.{list_all}
use Rattle.std.proofs.lemmas.List.{take_more, take_all}
use Rattle.std.specs.Option.{option_or}
use Rattle.std.specs.Str.{bytes_eq}
use Rattle.std.proofs.lemmas.Bool.{and_parts, not-true, cond-false}
use Rattle.std.proofs.lemmas.Slice.Eq.{bytes_eq-Decides}
use Rattle.fc_asm.specs.declared.mnemonic.Mnemonic.{Mnemonic}
use Rattle.fc_asm.specs.Names.{name_of, mnemonics, mnemonic_named}

-- the mnemonic of the last row with this name, or else `found`
unfoldable pub latest : List ℕ → Option Mnemonic → List (Bor (List ℕ) × Mnemonic) → Option Mnemonic
latest word found [] = found
latest word found (r ∷ rows) = latest word (cond (bytes_eq r.0.now word) (Some r.1) found) rows

latest_push : (word : List ℕ) (found : Option Mnemonic) (rows : List (Bor (List ℕ) × Mnemonic)) (r : Bor (List ℕ) × Mnemonic) → latest word found (rows ++ r ∷ []) ≡ cond (bytes_eq r.0.now word) (Some r.1) (latest word found rows)
unfolding latest
latest_push word found [] r = refl
latest_push word found (q ∷ rows) r = latest_push word (cond (bytes_eq q.0.now word) (Some q.1) found) rows r

pub latest_none : (word : List ℕ) (rows : List (Bor (List ℕ) × Mnemonic)) → None ≡ latest word None (take 0 rows)
unfolding latest
latest_none word rows = refl

-- with one more row, the mnemonic that is found is that of this row, if it has the name, or else
-- the one that was found
pub latest_more : {found : Option Mnemonic} (rows : List (Bor (List ℕ) × Mnemonic)) (i : ℕ) (d : Bor (List ℕ) × Mnemonic) (word : List ℕ) → found ≡ latest word None (take i rows) → i < length rows
    → cond (bytes_eq (get_or rows i d).0.now word) (Some (get_or rows i d).1) found ≡ latest word None (take (i + 1) rows)
latest_more rows i d word e l =
    ap (λ f. cond (bytes_eq (get_or rows i d).0.now word) (Some (get_or rows i d).1) f) e
    ∙ sym (latest_push word None (take i rows) (get_or rows i d)) ∙ ap (latest word None) (sym (take_more rows i d l))

-- the last mnemonic of a list with this name, or else `found`
abbrev pub last_of : List ℕ → Option Mnemonic → List Mnemonic → Option Mnemonic
last_of word found [] = found
last_of word found (m ∷ ms) = last_of word (cond (bytes_eq (name_of m) word) (Some m) found) ms

differ : Mnemonic → List Mnemonic → Bool
differ m ms = list_all (λ n. not (bytes_eq (name_of n) (name_of m))) ms

distinct : List Mnemonic → Bool
distinct [] = true
distinct (m ∷ ms) = differ m ms && distinct ms

none_later : (m : Mnemonic) (found : Option Mnemonic) (ms : List Mnemonic) → differ m ms ≡ true → last_of (name_of m) found ms ≡ found
unfolding differ
none_later m found [] h = refl
none_later m found (n ∷ ms) h =
    let p = and_parts _ _ h in
    ap (λ f. last_of (name_of m) f ms) (cond-false (bytes_eq (name_of n) (name_of m)) (Some n) found (not-true _ p.0)) ∙ none_later m found ms p.1

last_found : (word : List ℕ) (found : Option Mnemonic) (m : Mnemonic) (ms : List Mnemonic) (b : Bool) → bytes_eq (name_of m) word ≡ b → differ m ms ≡ true
    → last_of word found ms ≡ option_or (find (λ n. bytes_eq (name_of n) word) ms) found
    → last_of word (cond b (Some m) found) ms ≡ option_or (cond b (Some m) (find (λ n. bytes_eq (name_of n) word) ms)) found
last_found word found m ms true e h rest = let P : List ℕ → Type 0 = λ w. last_of w (Some m) ms ≡ Some m in subst P ((bytes_eq-Decides (name_of m) word).0 e) (none_later m (Some m) ms h)
last_found word found m ms false e h rest = rest

last_find : (word : List ℕ) (found : Option Mnemonic) (ms : List Mnemonic) → distinct ms ≡ true → last_of word found ms ≡ option_or (find (λ n. bytes_eq (name_of n) word) ms) found
unfolding distinct
last_find word found [] h = refl
last_find word found (m ∷ ms) h = let p = and_parts _ _ h in last_found word found m ms (bytes_eq (name_of m) word) refl p.0 (last_find word found ms p.1)

all_distinct : distinct mnemonics ≡ true
unfolding distinct differ
all_distinct = refl

option_or_none : {A : Type 0} (o : Option A) → option_or o None ≡ o
option_or_none None = refl
option_or_none (Some x) = refl

-- the last mnemonic with a name is that name's mnemonic
pub last_named : (word : List ℕ) → last_of word None mnemonics ≡ mnemonic_named word
unfolding mnemonic_named
last_named word = last_find word None mnemonics all_distinct ∙ option_or_none _

-- after all rows, the mnemonic that was found is the one with this name
pub latest_all : {found : Option Mnemonic} (rows : List (Bor (List ℕ) × Mnemonic)) (i : ℕ) (word : List ℕ) → found ≡ latest word None (take i rows) → length rows ≤ i → latest word None rows ≡ last_of word None mnemonics → found ≡ mnemonic_named word
latest_all rows i word e l all = e ∙ ap (latest word None) (take_all i rows l) ∙ all ∙ last_named word
