use Rattle.std.proofs.Common.{◌≡◌, List, [], ◌∷◌, map, refl, subst, sym}
use Rattle.fc_calls.specs.Kept.{serials}
use Rattle.fc_registry.specs.Slots.{Shard}
use Rattle.fc_locked.specs.Closing.{each_shard}
use Rattle.fc_locked.specs.Counts.{Unassigned, sums}
use Rattle.fc_locked.proofs.EightShards.{eight_shards}
use Rattle.fc_locked.proofs.OneOrder.{one_order}
use Rattle.fc_locked.proofs.server.Locked.close.Goals as goal

pub returns-clause-risen : goal.returns-clause-risen
returns-clause-risen g c =
    let closed = c.close-shard0.result ∷ c.close-shard1.result ∷ c.close-shard2.result ∷ c.close-shard3.result ∷ c.close-shard4.result ∷ c.close-shard5.result ∷ c.close-shard6.result ∷ c.close-shard7.result ∷ [] in
    subst (λ (shards : List Shard). map serials closed ≡ sums (map serials shards) c.args.unassigned.now.changes)
    (sym (eight_shards g.B.Books.first.shards c.args.self.eight))
    (subst (λ (u : Unassigned). map serials closed ≡ sums (map serials (each_shard g.B.Books.first.shards)) u.changes)
    c.unassigned.view_is
    (λ i. c.close-shard0.ensures.risen i ∷ c.close-shard1.ensures.risen i ∷ c.close-shard2.ensures.risen i ∷ c.close-shard3.ensures.risen i ∷ c.close-shard4.ensures.risen i ∷ c.close-shard5.ensures.risen i ∷ c.close-shard6.ensures.risen i ∷ c.close-shard7.ensures.risen i ∷ []))

pub returns-clause-order : goal.returns-clause-order
returns-clause-order g c = λ logs has count.
    let store = c.close.ensures.led in
    one_order g.B.Books.first_job g.K.Store g.B.Books.persistent c.close.ensures.persistent g.B.Books.first g.B.Books.stored logs c.args.tracks c.close-front.new.tracks c.close-shard7.new.tracks c.close.new.tracks _ store.0 store.1 has count c.close-front.ensures (
      c.close-shard0.new.tracks,
      c.close-shard0.ensures.closed,
      (
        c.close-shard1.new.tracks,
        c.close-shard1.ensures.closed,
        (
          c.close-shard2.new.tracks,
          c.close-shard2.ensures.closed,
          (
            c.close-shard3.new.tracks,
            c.close-shard3.ensures.closed,
            (
              c.close-shard4.new.tracks,
              c.close-shard4.ensures.closed,
              (
                c.close-shard5.new.tracks,
                c.close-shard5.ensures.closed,
                (c.close-shard6.new.tracks, c.close-shard6.ensures.closed, (c.close-shard7.new.tracks, c.close-shard7.ensures.closed, refl)),
              ),
            ),
          ),
        ),
      ),
    )
    refl store.2 store.3 store.4 c.attest.ensures.one
