use Rattle.std.proofs.Common.{◌∙◌, ap, refl}
use Rattle.std.specs.Str.{bytes_eq}
use Rattle.std.specs.Map.{lookup}
use Rattle.std.proofs.lemmas.Map.Text.{hash_map_updates_str}
use Rattle.fc_asm.proofs.Lookup.{latest, latest_more, latest_all}
use Rattle.fc_asm.proofs.names.Names.new.Goals as goal

pub loop-name-init : goal.loop-name-init
unfolding latest
loop-name-init c = record {
  found = λ word. ap (λ es. lookup (λ name. bytes_eq word name.now) es) c.new-by_name.ensures.empty;
  rows = λ word. refl;
}

pub loop-name-preserved : goal.loop-name-preserved
loop-name-preserved c = record {
  found = λ word.
      hash_map_updates_str _ c.loop-name.by_name c.insert.new.self _ c.in_ok-insert.ensures.updates word
      ∙ latest_more _ c.loop-name.name-index _ word (c.loop-name.invariant.found word) c.loop-name-test.true;
  rows = c.loop-name.invariant.rows;
}

pub invariant_of-result : goal.invariant_of-result
invariant_of-result c = record { complete = λ word. latest_all _ c.loop-name.name-index word (c.loop-name.invariant.found word) c.loop-name-test.false (c.loop-name.invariant.rows word) }
