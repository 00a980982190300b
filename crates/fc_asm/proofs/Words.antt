-- The words of a line.
use Rattle.std.proofs.Common.{◌≡◌, ℕ, ◌<◌, true, false, cond, [], ◌∷◌, ◌++◌, filter, get_or, append_assoc, append-nil, List, Result, IfOk, length, take, map, sym, ap, subst, ◌∙◌, Bor, Vec, arith}
use Rattle.std.specs.Prelude.{◌==◌, nat_lt}
use Rattle.std.specs.List.{position_or_len, before_first, flat_map}
use Rattle.std.specs.Vec.{vec_items}
use Rattle.std.proofs.lemmas.List.{take_all, take_more, map_push, length_push, flat_map_more}
use Rattle.std.proofs.lemmas.List.Elements.{filter_more}
use Rattle.fc_asm.specs.Syntax.{split_words, words_of}

pub words_before : {A E : Type 0} (line code : List ℕ) (r : Result (Vec (Bor (List ℕ)) A) E) → code ≡ before_first (λ b. b == 59) line → IfOk r (λ v. map (λ word. word.now) (vec_items v) ≡ split_words code) → IfOk r (λ v. map (λ word. word.now) (vec_items v) ≡ words_of line)
unfolding words_of
words_before line code r e h = subst (λ t. IfOk r (λ v. map (λ word. word.now) (vec_items v) ≡ split_words t)) e h

pub words_whole : {A E : Type 0} (line : List ℕ) (r : Result (Vec (Bor (List ℕ)) A) E) → position_or_len (λ b. b == 59) line ≡ length line → IfOk r (λ v. map (λ word. word.now) (vec_items v) ≡ split_words line) → IfOk r (λ v. map (λ word. word.now) (vec_items v) ≡ words_of line)
words_whole line r e h = words_before line line r (sym (take_all (position_or_len (λ b. b == 59) line) line (omega arith))) h

-- ---- the loops: one more piece

-- a piece that isn't empty is appended
pub pushed : (old words pushed_words yielded : List (Bor (List ℕ))) (pieces : List (List ℕ)) (word : Bor (List ℕ))
    → (length yielded < length pieces) × (word.now ≡ get_or pieces (length yielded) word.now)
    → map (λ word. word.now) words ≡ map (λ word. word.now) old ++ filter (λ word. nat_lt 0 (length word)) (take (length yielded) pieces)
    → pushed_words ≡ words ++ word ∷ [] → nat_lt 0 (length word.now) ≡ true
    → map (λ word. word.now) pushed_words ≡ map (λ word. word.now) old ++ filter (λ word. nat_lt 0 (length word)) (take (length (yielded ++ word ∷ [])) pieces)
pushed old words pushed_words yielded pieces word turn so_far push full =
    ap (map (λ w. w.now)) push ∙ map_push (λ w. w.now) words word ∙ ap (λ t. t ++ word.now ∷ []) so_far
    ∙ append_assoc (map (λ w. w.now) old) (filter (λ w. nat_lt 0 (length w)) (take (length yielded) pieces)) (word.now ∷ [])
    ∙ ap (λ t. map (λ w. w.now) old ++ t)
    (ap (λ t. filter (λ w. nat_lt 0 (length w)) (take (length yielded) pieces) ++ t) (ap (λ b. cond b (word.now ∷ []) []) (sym full) ∙ ap (λ w. cond (nat_lt 0 (length w)) (w ∷ []) []) turn.1)
    ∙ sym (filter_more (λ w. nat_lt 0 (length w)) pieces (length yielded) word.now turn.0)
    ∙ ap (λ n. filter (λ w. nat_lt 0 (length w)) (take n pieces)) (sym (length_push yielded word)))

-- an empty piece is skipped
pub passed : (old words yielded : List (Bor (List ℕ))) (pieces : List (List ℕ)) (word : Bor (List ℕ))
    → (length yielded < length pieces) × (word.now ≡ get_or pieces (length yielded) word.now)
    → map (λ word. word.now) words ≡ map (λ word. word.now) old ++ filter (λ word. nat_lt 0 (length word)) (take (length yielded) pieces)
    → nat_lt 0 (length word.now) ≡ false
    → map (λ word. word.now) words ≡ map (λ word. word.now) old ++ filter (λ word. nat_lt 0 (length word)) (take (length (yielded ++ word ∷ [])) pieces)
passed old words yielded pieces word turn so_far empty =
    so_far
    ∙ ap (λ t. map (λ w. w.now) old ++ t)
    (sym (append-nil _)
    ∙ ap (λ t. filter (λ w. nat_lt 0 (length w)) (take (length yielded) pieces) ++ t) (ap (λ b. cond b (word.now ∷ []) []) (sym empty) ∙ ap (λ w. cond (nat_lt 0 (length w)) (w ∷ []) []) turn.1)
    ∙ sym (filter_more (λ w. nat_lt 0 (length w)) pieces (length yielded) word.now turn.0)
    ∙ ap (λ n. filter (λ w. nat_lt 0 (length w)) (take n pieces)) (sym (length_push yielded word)))

-- if all pieces were taken, a function of the pieces taken is one of all pieces
pub all_taken : {A : Type 0} (f : List (List ℕ) → A) (n : ℕ) (pieces : List (List ℕ)) → n ≡ length pieces → f (take n pieces) ≡ f pieces
all_taken f n pieces e = ap f (take_all n pieces (omega arith))

-- the words so far, together with those of one more part, are the words of the parts so far
pub part_more : (f : List ℕ → List (List ℕ)) (words more yielded : List (Bor (List ℕ))) (pieces : List (List ℕ)) (part : Bor (List ℕ))
    → (length yielded < length pieces) × (part.now ≡ get_or pieces (length yielded) part.now)
    → map (λ word. word.now) words ≡ flat_map f (take (length yielded) pieces)
    → map (λ word. word.now) more ≡ map (λ word. word.now) words ++ f part.now
    → map (λ word. word.now) more ≡ flat_map f (take (length (yielded ++ part ∷ [])) pieces)
part_more f words more yielded pieces part turn so_far push =
    push ∙ ap (λ t. t ++ f part.now) so_far ∙ flat_map_more f [] (take (length yielded) pieces) part.now
    ∙ ap (flat_map f) (ap (λ w. take (length yielded) pieces ++ w ∷ []) turn.1 ∙ sym (take_more pieces (length yielded) part.now turn.0)
    ∙ ap (λ n. take n pieces) (sym (length_push yielded part)))
