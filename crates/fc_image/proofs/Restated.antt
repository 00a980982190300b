-- Encoding a parsed header gives the bytes that were parsed.
use Rattle.std.proofs.Common.{Fits, ◌≡◌, ℕ, zero, suc, ◌+◌, ◌*◌, ◌<◌, ◌≤◌, ◌==◌, ◌&&◌, ◌||◌, not, Bool, true, false, List, [], ◌∷◌, ◌++◌, None, length, drop, refl, sym, subst, ap, ◌∙◌, arith, nat_le}
use Rattle.std.specs.Int.{w8, w16, w32, from_le_bytes, to_le_bytes}
use Rattle.std.specs.Prelude.{get_or}
use Rattle.std.proofs.lemmas.Bool.Decides.{nat_tests}
use Rattle.std.proofs.lemmas.Nat.{le_bytes_2, le_bytes_4}
use Rattle.fc_isa.specs.declared.rule.Rule.TheVariants.{Format, SlotCount, VarsSize, Budget, Reserved}
use Rattle.fc_image.specs.Head.{head_breaks, head_fault, stated, has_magic, is_word, version_of}
use Rattle.fc_image.specs.Written.{digit_of, head_bytes}
use Rattle.fc_isa.proofs.Faultless.{none_of_five}
use Rattle.fc_isa.proofs.Slot.{two_bytes}

-- the bytes are four bytes and a rest
record Word (bytes : List ℕ) : Type 0 where
  pub a : ℕ
  pub b : ℕ
  pub c : ℕ
  pub d : ℕ
  pub rest : List ℕ
  pub is : bytes ≡ a ∷ b ∷ c ∷ d ∷ rest

word : (bytes : List ℕ) → 4 ≤ length bytes → Word bytes
word [] l = absurd (omega (arith, l))
word (a ∷ []) l = absurd (omega (arith, l))
word (a ∷ b ∷ []) l = absurd (omega (arith, l))
word (a ∷ b ∷ c ∷ []) l = absurd (omega (arith, l))
word (a ∷ b ∷ c ∷ d ∷ rest) l = record { a = a; b = b; c = c; d = d; rest = rest; is = refl }

word_tells : (a b c d w x y z : ℕ) → (((a == w) && (b == x)) && ((c == y) && (d == z))) ≡ true → (a ≡ w) × (b ≡ x) × (c ≡ y) × (d ≡ z)
word_tells a b c d w x y z h = (grind (arith, nat_tests), grind (arith, nat_tests), grind (arith, nat_tests), grind (arith, nat_tests))

size_is_long : (word : Bool) (n m : ℕ) → not ((nat_le 16 n && word) && (n == m)) ≡ false → (16 ≤ n) × (word ≡ true)
size_is_long true n m h = (grind (arith, nat_tests), refl)
size_is_long false n m h = absurd (grind (arith, nat_tests))

word_is_zero : (word : Bool) → not word ≡ false → word ≡ true
word_is_zero true h = refl
word_is_zero false h = absurd (cc h)

pub record AreBytes (bytes : List ℕ) : Type 0 where
  pub each : (i : ℕ) → get_or bytes i 0 < 256

-- the elements of a slice of `u8` are bytes
pub are_bytes : (bytes : List ℕ) → ((i : ℕ) → Fits w8 (get_or bytes i 0)) → AreBytes bytes
are_bytes bytes h = record { each = λ i. let f = h i in omega arith }

four_bytes : (x y z w : ℕ) → x < 256 → y < 256 → z < 256 → w < 256 → (i : ℕ) → get_or (x ∷ y ∷ z ∷ w ∷ []) i 0 < 256
four_bytes x y z w hx hy hz hw zero = hx
four_bytes x y z w hx hy hz hw (suc zero) = hy
four_bytes x y z w hx hy hz hw (suc (suc zero)) = hz
four_bytes x y z w hx hy hz hw (suc (suc (suc zero))) = hw
four_bytes x y z w hx hy hz hw (suc (suc (suc (suc i)))) = omega arith

-- the header made of the bytes of its numbers, and the bytes after it
joined : (digit : ℕ) (size count budget rest : List ℕ) → List ℕ
joined digit size count budget rest = (70 ∷ 67 ∷ 66 ∷ digit ∷ (size ++ (count ++ (budget ++ (0 ∷ 0 ∷ 0 ∷ 0 ∷ []))))) ++ rest

-- a known magic is the magic of the version that it names
magic_tells : (a b c d : ℕ) → ((((a == 70) && (b == 67)) && ((c == 66) && (d == 49))) || (((a == 70) && (b == 67)) && ((c == 66) && (d == 50)))) ≡ true → (a ≡ 70) × (b ≡ 67) × (c ≡ 66) × (digit_of (version_of d) ≡ d)
magic_tells a b c d m = go (((a == 70) && (b == 67)) && ((c == 66) && (d == 49))) refl m
  where
    first : d ≡ 49 → digit_of (version_of d) ≡ d
    first e = subst (λ x. digit_of (version_of x) ≡ x) (sym e) refl

    second : d ≡ 50 → digit_of (version_of d) ≡ d
    second e = subst (λ x. digit_of (version_of x) ≡ x) (sym e) refl

    go : (one : Bool) → (((a == 70) && (b == 67)) && ((c == 66) && (d == 49))) ≡ one → (one || (((a == 70) && (b == 67)) && ((c == 66) && (d == 50)))) ≡ true → (a ≡ 70) × (b ≡ 67) × (c ≡ 66) × (digit_of (version_of d) ≡ d)
    go true e m = let w = word_tells a b c d 70 67 66 49 e in (w.0, w.1, w.2, first w.3)
    go false e m = let w = word_tells a b c d 70 67 66 50 m in (w.0, w.1, w.2, second w.3)

-- an image that begins with a known magic, and has zeros in bytes 12 to 15, begins with its
-- header's encoding
record Restated (image : List ℕ) : Type 0 where
  pub says : AreBytes image → has_magic image ≡ true → is_word 0 0 0 0 (drop 12 image) ≡ true → image ≡ head_bytes (stated image) ++ drop 16 image

words_restated : (a b c d s t u v w x y z e f g h : ℕ) (rest : List ℕ) → Restated (a ∷ b ∷ c ∷ d ∷ s ∷ t ∷ u ∷ v ∷ w ∷ x ∷ y ∷ z ∷ e ∷ f ∷ g ∷ h ∷ rest)
unfolding joined
words_restated a b c d s t u v w x y z e f g h rest = record {
  says = λ bytes m o.
      let magic = magic_tells a b c d m in
      let zeros = word_tells e f g h 0 0 0 0 o in
      let each = bytes.each in
      let said = digit_of (version_of d) in
      let size_said = to_le_bytes w16 (from_le_bytes w16 (s ∷ t ∷ [])) in
      let count_said = to_le_bytes w16 (from_le_bytes w16 (u ∷ v ∷ [])) in
      let size : size_said ≡ s ∷ t ∷ [] = le_bytes_2 (s ∷ t ∷ []) _ refl (two_bytes s t (each 4) (each 5)) refl in
      let count : count_said ≡ u ∷ v ∷ [] = le_bytes_2 (u ∷ v ∷ []) _ refl (two_bytes u v (each 6) (each 7)) refl in
      let budget : to_le_bytes w32 (from_le_bytes w32 (w ∷ x ∷ y ∷ z ∷ [])) ≡ w ∷ x ∷ y ∷ z ∷ [] = le_bytes_4 (w ∷ x ∷ y ∷ z ∷ []) _ refl (four_bytes w x y z (each 8) (each 9) (each 10) (each 11)) refl in
      let fixed : a ∷ b ∷ c ∷ d ∷ s ∷ t ∷ u ∷ v ∷ w ∷ x ∷ y ∷ z ∷ e ∷ f ∷ g ∷ h ∷ rest ≡ joined d (s ∷ t ∷ []) (u ∷ v ∷ []) (w ∷ x ∷ y ∷ z ∷ []) rest
      = rw (magic.0, magic.1, magic.2, zeros.0, zeros.1, zeros.2, zeros.3) refl in
      fixed ∙ (ap (λ i. joined i (s ∷ t ∷ []) (u ∷ v ∷ []) (w ∷ x ∷ y ∷ z ∷ []) rest) (sym magic.3) ∙ (ap (λ i. joined said i (u ∷ v ∷ []) (w ∷ x ∷ y ∷ z ∷ []) rest) (sym size)
      ∙ (ap (λ i. joined said size_said i (w ∷ x ∷ y ∷ z ∷ []) rest) (sym count) ∙ ap (λ i. joined said size_said count_said i rest) (sym budget))));
}

restated : (image : List ℕ) → 16 ≤ length image → Restated image
restated image l =
    let p = word image (omega (arith, l)) in
    let lp : 16 ≤ suc (suc (suc (suc (length p.rest)))) = subst (λ i. 16 ≤ length i) p.is l in
    let q = word p.rest (omega (arith, lp)) in
    let lq : 12 ≤ suc (suc (suc (suc (length q.rest)))) = subst (λ i. 12 ≤ length i) q.is (omega (arith, lp)) in
    let r = word q.rest (omega (arith, lq)) in
    let lr : 8 ≤ suc (suc (suc (suc (length r.rest)))) = subst (λ i. 8 ≤ length i) r.is (omega (arith, lq)) in
    let s = word r.rest (omega (arith, lr)) in
    let is = p.is ∙ ap (λ i. p.a ∷ p.b ∷ p.c ∷ p.d ∷ i) (q.is ∙ ap (λ i. q.a ∷ q.b ∷ q.c ∷ q.d ∷ i) (r.is ∙ ap (λ i. r.a ∷ r.b ∷ r.c ∷ r.d ∷ i) s.is)) in
    subst Restated (sym is) (words_restated p.a p.b p.c p.d q.a q.b q.c q.d r.a r.b r.c r.d s.a s.b s.c s.d s.rest)

pub head_restated : (image : List ℕ) → AreBytes image → head_fault image ≡ None → image ≡ head_bytes (stated image) ++ drop 16 image
unfolding head_breaks
head_restated image bytes h =
    let p = none_of_five (head_breaks image Format) (head_breaks image SlotCount) (head_breaks image VarsSize) (head_breaks image Budget) (head_breaks image Reserved) Format SlotCount VarsSize Budget Reserved h in
    let long = size_is_long (has_magic image) (length image) (16 + 8 * (stated image).count) p.0 in
    (restated image long.0).says bytes long.1 (word_is_zero (is_word 0 0 0 0 (drop 12 image)) p.4)
