use Rattle.std.proofs.Common.{◌≡◌}
use Rattle.std.specs.Prelude.{⊤}
use Rattle.fc_store.specs.Stored.{blank_slot}
use Rattle.fc_store.specs.contracts.store.NoStoreStore.TheImpl as nothing
use Rattle.fc_filed.specs.Recovered.{HaveSavedOrder}
use Rattle.fc_server.specs.States.{ServerState}
use Rattle.fc_locked.specs.SharedStores.{HasSaved}
use Rattle.fc_pool.specs.Pooled.{locked_view}
use Rattle.fc_service.proofs.Fed.{fed_over, played_beside}
use Rattle.fc_service.proofs.workers.play_in_pool.Goals as goal

pub returns : goal.returns
returns g c =
    let fed = c.in_ok-run_pool.field-0 in
    let w = fed_over (λ (s : ServerState). locked_view s (λ readings before after. ⊤) (HasSaved nothing.ghosts) (λ now before after. ⊤) (λ random. ⊤) (λ call before after. ⊤) (λ change before after. after ≡ before))
    (λ s. s) (λ s. HaveSavedOrder nothing.ghosts s (λ n. blank_slot)) _ _ _ _ _ _ _ _ _ c.in_ok-first.ensures.first c.in_ok-run_pool.ensures.fed in
    played_beside (HasSaved nothing.ghosts) c.args.begin _ c.args.workers (λ player. g.I.Read.remaining player.input) _ fed.given fed.has_workers fed.replies fed.closed w
