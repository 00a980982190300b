use Rattle.std.proofs.Common.{◌≡◌, ◌∙◌, ◌<◌, ◌++◌, ◌∷◌, [], Bool, if◌then◌else◌, arith, sym, ap, ⊎_elim}
use Rattle.std.specs.Prelude.{◌%◌}
use Rattle.std.proofs.lemmas.Bool.{cases_lt}
use Rattle.std.proofs.lemmas.List.FromFn.{map-range_with_len_more}
use Rattle.fc_store.specs.Stored.{stored_in}
use Rattle.fc_registry.specs.Restored.{restored_slot}
use Rattle.fc_registry.specs.Starts.{shard_over}
use Rattle.fc_registry.proofs.shards.restore_shards.Goals as goal

pub loop-index-preserved : goal.loop-index-preserved
loop-index-preserved c =
    let new = shard_over (λ n. restored_slot (stored_in c.args.stored.now n)) c.args.confirm_after in
    let items = c.loop-index.shards.items in
    let index = c.loop-index.index in
    let pushed : c.push.new.self.items ≡ items ++ (c.in_ok-shard.shard ∷ []) =
    c.push.ensures.items ∙ ap (λ (b : Bool). if b then (items ++ (c.in_ok-shard.shard ∷ [])) else items) c.if-is_err.ensures.negation in (
      pushed ∙ ((λ i. c.loop-index.invariant.0 i ++ (c.in_ok-shard.ensures.shard i ∷ [])) ∙ sym (map-range_with_len_more new 0 index index (omega arith))),
      λ n lt below. ⊎_elim
          (λ (low : n % 8 < index). c.loop-index.invariant.1 n lt low)
          (λ high. c.in_ok-shard.ensures.can n lt (omega (arith, below, high)))
          (cases_lt (n % 8) index),
    )
