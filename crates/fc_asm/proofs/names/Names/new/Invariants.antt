use Rattle.std.proofs.Common.{◌≡◌, ℕ, List, None, take}
use Rattle.std.specs.Str.{bytes_eq}
use Rattle.indexmap.specs.IndexMap.{get_by}
use Rattle.fc_asm.specs.Names.{mnemonics}
use Rattle.fc_asm.proofs.Lookup.{latest, last_of}
use Rattle.fc_asm.proofs.names.Names.new.Given as goal

-- for each name, the map finds the last of the rows so far with that name; the rows are the
-- mnemonics with their names
abbrev pub invariant-loop-name : goal.invariant-loop-name
invariant-loop-name l = record {
  found : (word : List ℕ) → get_by (λ name. bytes_eq word name.now) l.by_name ≡ latest word None (take l.name-index l.name-items);
  rows : (word : List ℕ) → latest word None l.name-items ≡ last_of word None mnemonics;
}
