use Rattle.std.proofs.Common.{◌≡◌, ◌+◌, arith, subst, sym}
use Rattle.std.specs.Prelude.{vec_len}
use Rattle.fc_locked.specs.SharedStores.{HasSaved}
use Rattle.fc_pool.specs.Pooled.{IsFed, offload_where, locked_view}
use Rattle.fc_pool.proofs.pool.run_named.Goals as goal

pub returns-clause-fed : goal.returns-clause-fed
returns-clause-fed g c =
    let worker_view = locked_view g.B.Books.first g.D.Device.are_readings (HasSaved g.K.Store) g.M.TimeSource.is_time g.M.TimeSource.is_random g.W.Wire.called g.C.Recorder.recorded in
    let Drives = g.F.Driver.drives _ in
    let ended = c.in_ok-ended.ended in
    let offload = offload_where c.close.result.has_workers c.args.pool.now.offload in
    let has = subst (λ b. IsFed worker_view g.B.Books.first_job Drives (offload_where b c.args.pool.now.offload) c.args.driver ended.given ended.own ended.shares.items) (sym c.close.ensures.workers) c.in_ok-ended.ensures.fed in
    let threads : 10 + (vec_len ended.shares + 1) ≡ g.B.Books.first_job = omega (arith, c.in_ok-ended.ensures.shares, c.in_ok-server.ensures.count, c.requires.book_threads, c.requires.threads) in
    let keys : g.B.Books.first_job ≡ 10 + (c.args.pool.now.workers + 1) = omega (arith, c.requires.book_threads, c.requires.threads) in
    let order = c.close.ensures.order threads c.in_ok-ended.ensures.right c.in_ok-ended.ensures.order in
    record {
      own = ended.own;
      shares = ended.shares.items;
      fed = subst (λ n. IsFed worker_view n Drives offload c.args.driver c.close.result.given ended.own ended.shares.items) keys
          (subst (λ x. IsFed worker_view g.B.Books.first_job Drives offload c.args.driver x ended.own ended.shares.items) (sym c.close.ensures.given) has);
      count = omega (arith, c.in_ok-ended.ensures.shares, c.in_ok-server.ensures.count);
      counted = c.close.ensures.replies;
      order = order.legal;
      saved = order.saved;
    }
