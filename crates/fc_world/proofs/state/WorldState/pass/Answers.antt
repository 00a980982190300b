use Rattle.std.proofs.Common.{None, sym, subst}
use Rattle.fc_core.specs.declared.event.Event.{Event}
use Rattle.fc_server.specs.Serving.{with_tasks}
use Rattle.fc_server.specs.Steps.{Steps}
use Rattle.fc_server.proofs.Others.{delivered_done, ticked_done}
use Rattle.fc_server.proofs.Stepping.{goes_on}
use Rattle.fc_world.specs.Parts.{parts}
use Rattle.fc_world.proofs.state.WorldState.pass.Goals as goal

pub returns-in_ok-emitted-in-Deliver : goal.returns-in_ok-emitted-in-Deliver
returns-in_ok-emitted-in-Deliver c = subst (λ (e : Event). Steps e (parts c.args.self.now) c.in_ok-emitted-in-Deliver.emitted (parts c.deliver.new.self)) (sym c.in-Deliver.is) (goes_on _ (parts c.args.self.now) (parts c.deliver.new.self) _ (delivered_done _ _ _ (parts c.args.self.now) (parts c.deliver.new.self) _ c.in_ok-emitted-in-Deliver.ensures))

pub returns-in-Tick : goal.returns-in-Tick
returns-in-Tick c =
    let old = c.args.self.now in
    let later = with_tasks c.tick.new.self old.tasks.items in
    subst (λ (e : Event). Steps e (parts old) None later) (sym c.in-Tick.is)
    (goes_on _ (parts old) later None (ticked_done _ old.server c.tick.new.self old.tasks.items c.tick.ensures.front c.tick.ensures.shards c.tick.ensures.words))

pub returns-in_ok-due-in-Due : goal.returns-in_ok-due-in-Due
returns-in_ok-due-in-Due c = subst (λ (e : Event). Steps e (parts c.args.self.now) None (parts c.due.new.self)) (sym c.in-Due.is) (goes_on _ (parts c.args.self.now) (parts c.due.new.self) None c.in_ok-due-in-Due.ensures)

pub returns-in_ok-fire-in-Fire : goal.returns-in_ok-fire-in-Fire
returns-in_ok-fire-in-Fire c = subst (λ (e : Event). Steps e (parts c.args.self.now) None (parts c.fire.new.self)) (sym c.in-Fire.is) (goes_on _ (parts c.args.self.now) (parts c.fire.new.self) None c.in_ok-fire-in-Fire.ensures)

pub returns-in-Signal : goal.returns-in-Signal
returns-in-Signal c = subst (λ (e : Event). Steps e (parts c.args.self.now) None (parts c.signal.new.self)) (sym c.in-Signal.is) (goes_on _ (parts c.args.self.now) (parts c.signal.new.self) None c.signal.ensures)

pub returns-in-ShardTick : goal.returns-in-ShardTick
returns-in-ShardTick c = subst (λ (e : Event). Steps e (parts c.args.self.now) c.tick_shard.result (parts c.tick_shard.new.self)) (sym c.in-ShardTick.is) (goes_on _ (parts c.args.self.now) (parts c.tick_shard.new.self) c.tick_shard.result c.tick_shard.ensures)
