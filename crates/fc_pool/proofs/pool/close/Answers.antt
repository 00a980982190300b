use Rattle.std.proofs.Common.{◌≡◌, ◌+◌, [], ◌∷◌, length, map, arith}
use Rattle.std.proofs.lemmas.List.{length-append, length-map}
use Rattle.fc_locked.specs.OneOrder.{logs_of}
use Rattle.fc_backend.specs.Statistics.{Share}
use Rattle.fc_pool.proofs.Pools.{pool_is_saved}
use Rattle.fc_pool.proofs.pool.close.Goals as goal

pub returns-clause-order : goal.returns-clause-order
returns-clause-order g c = λ count right order.
    let shares = c.args.ended.shares.items in
    let own = c.args.ended.own in
    let logs : 10 + length (logs_of shares own) ≡ g.B.Books.first_job =
    omega (arith, count, length-append (map (λ (s : Share _). s.log) shares) (own.log ∷ []), length-map shares (λ (s : Share _). s.log)) in
    let one = c.close-closed.ensures.order (logs_of shares own) c.merge_each-tracks.ensures.tracks logs in
    pool_is_saved g.K.Store g.B.Books.first g.B.Books.stored c.close-closed.result shares own g.B.Books.first_job logs right order one
