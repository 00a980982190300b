-- Sources that are plain from a byte on, and the replacement of tabs by spaces in sources without
-- tabs.
use Rattle.std.proofs.Common.{arith, length-drop, take_all, ◌≡◌, ℕ, zero, suc, ◌+◌, ◌<◌, ◌-◌, take, length, ◌&&◌, not, Bool, true, false, List, [], ◌∷◌, drop, map, refl, sym, ap, ◌∙◌}
use Rattle.std.specs.Prelude.{if◌then◌else◌}
use Rattle.std.proofs.lemmas.Bool.{and_parts}
use Rattle.fc_expand.specs.Expanded.{as_space, begins_mark, has_no_tab, is_plain, is_plain_but_for_tabs, is_tab}

plain_step : (at : ℕ) (text : List ℕ) → at < length text → begins_mark (drop at text) ≡ false → is_plain_but_for_tabs (drop (suc at) text) ≡ is_plain_but_for_tabs (drop at text)
plain_step at [] h e = absurd (omega (arith, h))
plain_step zero (b ∷ more) h e = sym (ap (λ m. not m && is_plain_but_for_tabs more) e)
plain_step (suc at) (b ∷ more) h e = plain_step at more (omega (arith, h)) e

-- if no mark begins in the text from a byte on, the text is plain from there on exactly if it is
-- from the next byte on.
pub plain_step_left : (at : ℕ) (text : List ℕ) → at < length text → begins_mark (take (length text - at) (drop at text)) ≡ false
    → is_plain_but_for_tabs (drop (at + 1) text) ≡ is_plain_but_for_tabs (drop at text)
plain_step_left at text h e = let one : at + 1 ≡ suc at = omega arith in ap (λ n. is_plain_but_for_tabs (drop n text)) one ∙ plain_step at text h (ap begins_mark (sym (take_all (length text - at) (drop at text) (omega (arith, length-drop at text)))) ∙ e)

spaced_byte : (b : ℕ) → is_tab b ≡ false → as_space b ≡ b
spaced_byte b e = ap (λ t. if t then 32 else b) e

untrue : (x : Bool) → not x ≡ true → x ≡ false
untrue true e = sym e
untrue false e = refl

-- a source without tabs and carriage returns doesn't change if they are replaced by spaces.
pub spaced_is : (text : List ℕ) → has_no_tab text ≡ true → map as_space text ≡ text
spaced_is [] h = refl
spaced_is (b ∷ more) h = let p : (not (is_tab b) ≡ true) × (has_no_tab more ≡ true) = and_parts (not (is_tab b)) (has_no_tab more) h in
    ap (λ x. x ∷ map as_space more) (spaced_byte b (untrue (is_tab b) p.0)) ∙ ap (λ l. b ∷ l) (spaced_is more p.1)

-- a plain source is unchanged too.
pub plain_is_spaced : (text : List ℕ) → is_plain text ≡ true → (is_plain_but_for_tabs text ≡ true) × (map as_space text ≡ text)
plain_is_spaced text h = let p : (is_plain_but_for_tabs text ≡ true) × (has_no_tab text ≡ true) = and_parts (is_plain_but_for_tabs text) (has_no_tab text) h in
    (p.0, spaced_is text p.1)
