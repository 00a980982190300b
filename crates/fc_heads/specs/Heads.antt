-- The knowledge that handles have of the published words.
use Rattle.std.specs.Prelude.{◌≡◌, ℕ, ◌<◌, ◌≤◌, max, List, [], ◌∷◌, length, replicate, slice_index, slice_set}
use mathlib.Core.Option.{some}
use lib.ListN.{get_elem?}
use Rattle.atomic_table.specs.Seated.{TableId}
use Rattle.fc_heads.specs.declared.view.View.{View}

abbrev pub zeros : List ℕ
zeros = replicate 64 0

abbrev pub word_of : List ℕ → ℕ → ℕ
word_of words slot = slice_index words slot

-- the view of a handle that has seen and published nothing.
abbrev pub fresh : View
fresh = record { seen = zeros; raised = zeros }

-- a handle: the table of its words, and its view of these words.
pub record HeadSeat : Type 0 where
  pub table : TableId
  pub view : View

-- the view has 64 seen and 64 published words.
abbrev pub IsWhole : View → Type 0
IsWhole v = (length v.seen ≡ 64) × (length v.raised ≡ 64)

-- the view after its handle has seen this word of a slot.
abbrev pub peeked : View → ℕ → ℕ → View
peeked v slot word = record v { seen = slice_set v.seen slot word }

-- the view after its handle published a word of a slot, and found another one there. The handle has
-- then seen the greater of both.
abbrev pub raised_to : View → ℕ → ℕ → ℕ → View
raised_to v slot word found = record {
  seen = slice_set v.seen slot (max found word);
  raised = slice_set v.raised slot (max (word_of v.raised slot) word);
}

-- a handle before and after it published a word of a slot. The word that the handle found there is
-- at least the one that it had seen.
pub record IsRaised (slot word : ℕ) (before after : HeadSeat) : Type 0 where
  pub found : ℕ
  pub rises : word_of before.view.seen slot ≤ found
  pub after_is : after ≡ record before { view = raised_to before.view slot word found }

-- the knowledge that a view passes on: the values that its handle has seen.
abbrev pub note : View → View
note v = record { seen = v.seen; raised = zeros }

-- the greater number at each place.
abbrev pub higher : List ℕ → List ℕ → List ℕ
higher [] ys = ys
higher (x ∷ xs) [] = x ∷ xs
higher (x ∷ xs) (y ∷ ys) = max x y ∷ higher xs ys

-- the view after its handle exchanged knowledge with another one.
abbrev pub met : View → View → View
met v w = record v { seen = higher v.seen w.seen }

-- the greatest word that any of these views has published for a slot, or 0.
abbrev pub greatest_raised : ℕ → List View → ℕ
greatest_raised slot [] = 0
greatest_raised slot (v ∷ vs) = max (word_of v.raised slot) (greatest_raised slot vs)

-- each word is the greatest that was published in any view, or 0. No view has seen a greater one.
pub record AreGreatest (words : List ℕ) (views : List View) : Type 0 where
  pub size : length words ≡ 64
  pub tops : (slot : ℕ) → slot < 64 → word_of words slot ≡ greatest_raised slot views
  pub seen : (seat : ℕ) (v : View) → get_elem? views seat ≡ some v → (slot : ℕ) → slot < 64 → word_of v.seen slot ≤ word_of words slot
