-- Shards whose changes are counted, and tallies, as contracts see them.
use Rattle.std.specs.Prelude.{ℕ, ◌+◌, List, [], ◌∷◌, replicate}
use Rattle.fc_registry.specs.Slots.{Shard}

-- a shard whose book is open.
pub record Counted : Type 0 where
  pub shard : Shard

-- a number of parts of a shard's book, and the number of changes that were counted on these parts.
-- The tallies of a shard together have all parts of its book.
pub record Tally : Type 0 where
  pub parts : ℕ
  pub changes : ℕ

abbrev pub counts : Tally → ℕ → Tally
counts tally changes = record tally { changes = tally.changes + changes }

-- a worker's tallies: the numbers of changes to shards 0 to 7, and the number of jobs that the
-- worker ended.
pub record Tallies : Type 0 where
  pub changes : List ℕ
  pub ended : ℕ

abbrev pub no_changes : List ℕ
no_changes = replicate 8 0

abbrev pub no_tallies : Tallies
no_tallies = record { changes = no_changes; ended = 0 }

-- a number of parts, the same for each book, and a number of ended jobs. The changes to shards 0 to
-- 7 are those that were counted on these parts.
pub record Unassigned : Type 0 where
  pub parts : ℕ
  pub changes : List ℕ
  pub ended : ℕ

-- the elementwise sum of two lists.
abbrev pub sums : List ℕ → List ℕ → List ℕ
sums [] ys = []
sums (x ∷ xs) [] = []
sums (x ∷ xs) (y ∷ ys) = (x + y) ∷ sums xs ys
