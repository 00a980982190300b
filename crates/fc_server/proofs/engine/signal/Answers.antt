use Rattle.std.proofs.Common.{ℕ, suc, ◌+◌, ◌<◌, ◌≡◌, arith, subst}
use Rattle.fc_server.specs.Serving.{Serves, signalled_below}
use Rattle.fc_server.proofs.Served.{signalled_on}
use Rattle.fc_server.proofs.engine.signal.Goals as goal

pub signal-requires : goal.signal-requires
signal-requires c =
    let v = c.loop-shard.invariant c.requires.history c.requires.tasks c.requires.serves in
    let count = v.agrees.shards.are.count in
    let low = c.loop-shard-test.true in
    omega (arith, count, low)

pub loop-shard-preserved : goal.loop-shard-preserved
loop-shard-preserved c = λ h tasks v.
    let e = c.signal.ensures in
    let low : c.loop-shard.shard < 8 = c.loop-shard-test.true in
    let before = c.loop-shard.invariant h tasks v in
    let next : suc c.loop-shard.shard ≡ c.loop-shard.shard + 1 = omega arith in
    subst (λ (n : ℕ). Serves (signalled_below c.args.endpoint c.args.id c.args.reset n h) c.signal.new.self tasks) next
    (signalled_on c.loop-shard.shard low c.loop-shard.server c.signal.new.self e.front e.words (signalled_below c.args.endpoint c.args.id c.args.reset c.loop-shard.shard h) tasks before c.args.endpoint c.args.id c.args.reset e.shards)

pub returns : goal.returns
returns c = λ h tasks v.
    let all : c.loop-shard.shard ≡ 8 = omega (arith, c.loop-shard.auto.shard-end, c.loop-shard-test.false) in
    subst (λ (n : ℕ). Serves (signalled_below c.args.endpoint c.args.id c.args.reset n h) c.loop-shard.server tasks) all (c.loop-shard.invariant h tasks v)
