use Rattle.std.proofs.Common.{◌≡◌, ℕ, ◌+◌, List, [], ◌∷◌, length, ap, arith, refl, subst, sym, ◌∙◌}
use Rattle.std.specs.Prelude.{min}
use Rattle.fc_server.specs.Flushing.{AreTold, earliest}
use Rattle.fc_server.proofs.flush.idle_until.Goals as goal

-- the earliest of the times of the shards so far and of one more shard.
one_more : (StaysIdle : ℕ → ℕ → Type 0) (next before until time : ℕ) → StaysIdle next until → time ≡ min before until
    → (told : List ℕ) × AreTold StaysIdle told × (length told ≡ next) × (before ≡ earliest told)
    → (told : List ℕ) × AreTold StaysIdle told × (length told ≡ next + 1) × (time ≡ earliest told)
one_more StaysIdle next before until time here is (told, are, count, earlier) = (
  until ∷ told,
  (subst (λ (k : ℕ). StaysIdle k until) (sym count) here, are),
  omega (arith, count),
  is ∙ ap (λ (m : ℕ). min m until) earlier,
)

pub loop-shard-init : goal.loop-shard-init
loop-shard-init g c = ([], tt, refl, refl)

pub loop-shard-preserved : goal.loop-shard-preserved
loop-shard-preserved g c =
    one_more (λ shard until. g.N.Ingress.calls.stays_idle shard c.args.ingress.now until) c.loop-shard.shard c.loop-shard.until c.idle_until.result c.min-until.result
    c.idle_until.ensures c.min-until.ensures c.loop-shard.invariant

pub returns : goal.returns
returns g c =
    let w = c.loop-shard.invariant in
    (w.0, w.1, w.2 ∙ omega (arith, c.loop-shard-test.false), w.3)
