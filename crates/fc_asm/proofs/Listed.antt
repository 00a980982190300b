-- The assembly of a line of a disassembly: the line's words are the name and the operands, which
-- mean the instruction.
use Rattle.std.proofs.Common.{◌≡◌, ℕ, ◌<◌, Bool, true, false, not, ◌&&◌, List, [], ◌∷◌, ◌++◌, filter, length, refl, sym, ap, ◌∙◌, arith, append_assoc, append-nil}
use Rattle.std.specs.Prelude.{◌==◌, nat_lt, codes}
use Rattle.std.specs.List.{slice_split, flat_map, list_all, onto_first}
use Rattle.std.proofs.lemmas.Bool.{and_parts, and_from, eqb-true, both_ways, not-true, cond-true, cond-false}
use Rattle.fc_asm.specs.Names.{Text}
use Rattle.fc_asm.specs.Syntax.{split_commas, split_words}

-- a byte that a word may have: not a line feed, a space, a comma or a `;`
unfoldable pub is_plain : ℕ → Bool
is_plain b = not (b == 10) && (not (b == 32) && (not (b == 44) && not (b == 59)))

-- a word isn't empty, and has only such bytes
unfoldable pub is_word : Text → Bool
is_word w = nat_lt 0 (length w) && list_all is_plain w

-- a list is split at the first byte that passes p: the bytes before that byte are the first piece
pub split_at : (p : ℕ → Bool) (w : Text) (y : ℕ) (rest : Text) → list_all (λ b. not (p b)) w ≡ true → p y ≡ true → slice_split p (w ++ y ∷ rest) ≡ w ∷ slice_split p rest
split_at p [] y rest h e = cond-true (p y) ([] ∷ slice_split p rest) _ e
split_at p (b ∷ w) y rest h e =
    let t = and_parts _ _ h in
    cond-false (p b) _ (onto_first b (slice_split p (w ++ y ∷ rest))) (not-true _ t.0) ∙ ap (onto_first b) (split_at p w y rest t.1 e)

split_whole : (p : ℕ → Bool) (w : Text) → list_all (λ b. not (p b)) w ≡ true → slice_split p w ≡ w ∷ []
split_whole p [] h = refl
split_whole p (b ∷ w) h =
    let t = and_parts _ _ h in
    cond-false (p b) _ (onto_first b (slice_split p w)) (not-true _ t.0) ∙ ap (onto_first b) (split_whole p w t.1)

-- a plain byte isn't equal to a byte that isn't plain
lacks_at : (c b : ℕ) (r : Bool) → (b == c) ≡ r → is_plain c ≡ false → is_plain b ≡ true → not r ≡ true
lacks_at c b true e n p = absurd (both_ways (is_plain c) n (ap is_plain (sym (eqb-true b c e)) ∙ p))
lacks_at c b false e n p = refl

plain_lacks : (c : ℕ) → is_plain c ≡ false → (w : Text) → list_all is_plain w ≡ true → list_all (λ b. not (b == c)) w ≡ true
plain_lacks c n [] h = refl
plain_lacks c n (b ∷ w) h = let t = and_parts _ _ h in and_from _ _ (lacks_at c b (b == c) refl n t.0) (plain_lacks c n w t.1)

pub word_lacks : (c : ℕ) → is_plain c ≡ false → (w : Text) → is_word w ≡ true → list_all (λ b. not (b == c)) w ≡ true
unfolding is_word
word_lacks c n w h = plain_lacks c n w (and_parts _ _ h).1

no_space : (w : Text) → list_all is_plain w ≡ true → list_all (λ b. not (b == 32)) w ≡ true
unfolding is_plain
no_space w h = plain_lacks 32 refl w h

no_comma : (w : Text) → list_all is_plain w ≡ true → list_all (λ b. not (b == 44)) w ≡ true
unfolding is_plain
no_comma w h = plain_lacks 44 refl w h

pub list_all-append : {A : Type 0} (p : A → Bool) (xs ys : List A) → list_all p xs ≡ true → list_all p ys ≡ true → list_all p (xs ++ ys) ≡ true
list_all-append p [] ys h g = g
list_all-append p (x ∷ xs) ys h g = let t = and_parts _ _ h in and_from _ _ t.0 (list_all-append p xs ys t.1 g)

-- ---- the words of a line

-- a piece between two spaces is one word, without or with a comma after it
comma_word : (w : Text) → is_word w ≡ true → split_commas w ≡ w ∷ []
unfolding is_word
comma_word w h =
    let t = and_parts _ _ h in
    ap (filter (λ word. nat_lt 0 (length word))) (split_whole (λ b. b == 44) w (no_comma w t.1)) ∙ cond-true _ (w ∷ []) [] t.0

comma_behind : (w : Text) → is_word w ≡ true → split_commas (w ++ 44 ∷ []) ≡ w ∷ []
unfolding is_word
comma_behind w h =
    let t = and_parts _ _ h in
    ap (filter (λ word. nat_lt 0 (length word))) (split_at (λ b. b == 44) w 44 [] (no_comma w t.1) refl) ∙ cond-true _ (w ∷ []) [] t.0

pub parts_last : (w : Text) → is_word w ≡ true → split_words w ≡ w ∷ []
unfolding is_word
parts_last w h = ap (flat_map split_commas) (split_whole (λ b. b == 32) w (no_space w (and_parts _ _ h).1)) ∙ append-nil _ ∙ comma_word w h

pub parts_space : (w rest : Text) → is_word w ≡ true → split_words (w ++ 32 ∷ rest) ≡ w ∷ split_words rest
unfolding is_word
parts_space w rest h =
    ap (flat_map split_commas) (split_at (λ b. b == 32) w 32 rest (no_space w (and_parts _ _ h).1) refl)
    ∙ ap (λ ws. ws ++ split_words rest) (comma_word w h)

parts_comma : (w rest : Text) → is_word w ≡ true → split_words (w ++ (codes ", " ++ rest)) ≡ w ∷ split_words rest
unfolding is_word
parts_comma w rest h =
    ap split_words (sym (append_assoc w (44 ∷ []) (32 ∷ rest)))
    ∙ ap (flat_map split_commas) (split_at (λ b. b == 32) (w ++ 44 ∷ []) 32 rest (list_all-append (λ b. not (b == 32)) w (44 ∷ []) (no_space w (and_parts _ _ h).1) refl) refl)
    ∙ ap (λ ws. ws ++ split_words rest) (comma_behind w h)

-- the text of the operands in a line, without the line feed
unfoldable pub joined : List Text → Text
joined [] = []
joined (a ∷ []) = a
joined (a ∷ b ∷ more) = a ++ (codes ", " ++ joined (b ∷ more))

unfoldable pub are_words : List Text → Bool
are_words ws = list_all is_word ws

pub parts_joined : (ws : List Text) → are_words ws ≡ true → 0 < length ws → split_words (joined ws) ≡ ws
unfolding are_words joined
parts_joined [] h l = absurd (omega arith)
parts_joined (a ∷ []) h l = parts_last a (and_parts _ _ h).0
parts_joined (a ∷ b ∷ more) h l =
    let t = and_parts _ _ h in
    parts_comma a (joined (b ∷ more)) t.0 ∙ ap (λ ws. a ∷ ws) (parts_joined (b ∷ more) t.1 (omega arith))
