use Rattle.std.proofs.Common.{◌≡◌, ◌∙◌, ℕ, ◌<◌, ◌/◌, List, ap, arith, map, refl, sym}
use Rattle.std.specs.Prelude.{max, replicate, slice_index_or}
use Rattle.std.proofs.Math.ListN.{get_or-map}
use Rattle.std.proofs.lemmas.List.{get_or-replicate}
use Rattle.fc_observe.specs.Observers.{ObserverList, no_observers}
use Rattle.fc_registry.specs.Slots.{slot_in}
use Rattle.fc_registry.specs.Watches.{watch_at}
use Rattle.fc_server.specs.States.{confirm_after_of}
use Rattle.fc_locked.proofs.laws.locked_shards_confirm_in_time.Goals as goal

time_at : (ws : List ObserverList) (k ms : ℕ) → k < 8 → map (λ w. w.confirm_after) ws ≡ replicate 8 ms → (slice_index_or ws k (no_observers 0 0)).confirm_after ≡ ms
time_at ws k ms lt same =
    sym (get_or-map (λ (w : ObserverList). w.confirm_after) ws k (no_observers 0 0))
    ∙ ap (λ (times : List ℕ). slice_index_or times k 0) same
    ∙ get_or-replicate 8 k ms 0 lt

place_lt : (n : ℕ) → n < 64 → n / 8 < 8
place_lt n lt = omega (arith, lt)

pub returns-clause-default : goal.returns-clause-default
returns-clause-default g c = λ stored id. refl

pub returns-clause-noted : goal.returns-clause-noted
returns-clause-noted g c = λ turn id now random told noted before after lt call.
    let shard = call.0.before in (
      watch_at shard (turn.slot / 8),
      (slot_in shard turn.slot).serial,
      max shard.now now,
      time_at shard.watches (turn.slot / 8) (confirm_after_of g.B.Books.first) (place_lt turn.slot lt) call.0.confirms,
      omega (arith),
      call.0.does.is,
    )
