use Rattle.std.proofs.Common.{IfOk, arith}
use Rattle.std.specs.declared.result.Result.{Result}
use Rattle.std.specs.declared.result.Result.TheVariants.{Ok, Err}
use Rattle.fc_workers.specs.Views.{worker_view}
use Rattle.fc_workers.proofs.Seats.{share_at}
use Rattle.fc_workers.proofs.pool.run_workers.Goals as goal

-- what holds if two facts hold of a value holds of the value of a result.
by_both : {X E : Type 0} (r : Result X E) (P Q R : X → Type 0) → ((x : X) → P x → Q x → R x) → IfOk r P → IfOk r Q → IfOk r R
by_both (Ok x) P Q R f p q = f x p q
by_both (Err e) P Q R f p q = tt

pub returns : goal.returns
returns g c =
    let s = (worker_view g.B.Bench.changes g.B.Bench.ended g.B.Bench.called g.B.Bench.logged
    g.M.TimeSource.is_time g.M.TimeSource.is_random g.G.Gate.passed g.G.Gate.answered g.W.Wire.called) in
    by_both c.map_vec.result _ _ _
    (λ v len each. record {
      count = omega (arith, len, v.ok, c.args.seats.ok);
      each = λ i seat share lt.
          let gives = (each i share lt).1 in
          share_at g.B.Book.ServerName.first_job s _ gives.job _ (gives.job_is seat) gives.call.met;
    }) c.map_vec.ensures.len c.map_vec.ensures.each
