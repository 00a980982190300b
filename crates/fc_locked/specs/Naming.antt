-- The names of a server's books.
use Rattle.std.specs.Prelude.{◌≡◌, ℕ, [], ◌∷◌, slice_index}
use Rattle.fc_locked.specs.declared.blanks.Blanks.{Blanks}

-- the name of each shard's book, by the shard's index.
abbrev pub names_of : Blanks → ℕ → ℕ
names_of b = slice_index (b.blank0.name ∷ b.blank1.name ∷ b.blank2.name ∷ b.blank3.name ∷ b.blank4.name ∷ b.blank5.name ∷ b.blank6.name ∷ b.blank7.name ∷ [])

-- the books of shards 0 to 7 have these names.
abbrev pub AreNamed : Blanks → (ℕ → ℕ) → Type 0
AreNamed b names =
    (b.blank0.name ≡ names 0) × (b.blank1.name ≡ names 1) × (b.blank2.name ≡ names 2) × (b.blank3.name ≡ names 3)
    × (b.blank4.name ≡ names 4) × (b.blank5.name ≡ names 5) × (b.blank6.name ≡ names 6) × (b.blank7.name ≡ names 7)
