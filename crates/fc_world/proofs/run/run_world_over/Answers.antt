use Rattle.fc_store.specs.Stored.{stored_in}
use Rattle.fc_core.specs.History.{BeginsWith}
use Rattle.fc_world.proofs.Running.{chain_over, continues_over}
use Rattle.fc_world.proofs.run.run_world_over.Goals as goal

pub returns-clause-chains : goal.returns-clause-chains
returns-clause-chains c = λ n lt.
    chain_over (stored_in c.args.stored.now) c.args.id c.args.policy.now c.args.events.now _ _ (c.in_ok-run_events.ensures (BeginsWith (stored_in c.args.stored.now) c.args.id c.args.policy.now) c.in_ok-state.ensures.serves) n lt (c.in_ok-state.ensures.can n lt)

pub returns-clause-rings : goal.returns-clause-rings
returns-clause-rings c = λ n lt.
    continues_over (stored_in c.args.stored.now) c.args.id c.args.policy.now c.args.events.now _ _ (c.in_ok-run_events.ensures (BeginsWith (stored_in c.args.stored.now) c.args.id c.args.policy.now) c.in_ok-state.ensures.serves) n lt (c.in_ok-state.ensures.can n lt)
