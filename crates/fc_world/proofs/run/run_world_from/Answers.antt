use Rattle.std.proofs.Common.{◌<◌}
use Rattle.std.specs.Prelude.{IfOk, Result, Ok, Err}
use Rattle.fc_server.specs.States.{begin_of}
use Rattle.fc_world.proofs.Running.{begins_from, chain_from, ring_from}
use Rattle.fc_world.proofs.run.run_world_from.Goals as goal

-- a property of each result has another one as its consequence.
then_ok : {A E : Type 0} {P Q : A → Type 0} (r : Result A E) → IfOk r P → ((x : A) → P x → Q x) → IfOk r Q
then_ok (Ok x) has more = more x has
then_ok (Err e) has more = has

pub returns-clause-chains : goal.returns-clause-chains
returns-clause-chains c = then_ok c.run_events.result c.run_events.ensures (λ w run n lt.
    chain_from c.args.begin.now c.args.events.now w.emissions.items w.shards.items (run (begin_of c.args.begin.now) c.in_ok-new.ensures.serves) n lt)

pub returns-clause-rings : goal.returns-clause-rings
returns-clause-rings c = then_ok c.run_events.result c.run_events.ensures (λ w run n lt.
    ring_from c.args.begin.now c.args.events.now w.emissions.items w.shards.items (run (begin_of c.args.begin.now) c.in_ok-new.ensures.serves) n lt)

pub returns-clause-begins : goal.returns-clause-begins
returns-clause-begins c = then_ok c.run_events.result c.run_events.ensures (λ w run n lt.
    begins_from c.args.begin.now c.args.events.now w.emissions.items w.shards.items (run (begin_of c.args.begin.now) c.in_ok-new.ensures.serves) n lt)
