use Rattle.std.proofs.Common.{subst}
use Rattle.std.specs.Prelude.{IfOk}
use Rattle.fc_filed.specs.Recovered.{HaveSavedOrder}
use Rattle.fc_server.specs.States.{ServerState}
use Rattle.fc_locked.specs.Closing.{HasCountedAll}
use Rattle.fc_locked.specs.SharedStores.{HasSaved}
use Rattle.fc_pool.specs.Pooled.{IsFedBeside, locked_view, offload_where}
use Rattle.fc_pool.proofs.pool.run_pool.Goals as goal

pub returns-clause-counted : goal.returns-clause-counted
returns-clause-counted g c = subst (λ (s : ServerState). IfOk c.run_named.result (λ fed. HasCountedAll s.shards fed.closed)) c.in_ok-book.ensures.first c.run_named.ensures.counted

pub returns-clause-fed : goal.returns-clause-fed
returns-clause-fed g c =
    subst (λ (s : ServerState). IfOk c.run_named.result (λ fed.
    IsFedBeside (locked_view s g.D.Device.are_readings (HasSaved g.K.Store) g.M.TimeSource.is_time g.M.TimeSource.is_random g.W.Wire.called g.C.Recorder.recorded) (g.F.Driver.drives _) s
    (HaveSavedOrder g.K.Store s (g.K.Store.stored c.args.store)) (offload_where fed.has_workers c.args.pool.now.offload) c.args.pool.now.workers c.args.driver fed.given fed.replies fed.closed))
    c.in_ok-book.ensures.first c.run_named.ensures.fed
