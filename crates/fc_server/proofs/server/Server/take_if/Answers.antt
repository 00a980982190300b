use Rattle.std.proofs.Common.{None, Bool, sym, subst, ◌∙◌}
use Rattle.fc_core.specs.declared.event.Event.TheVariants.{Take}
use Rattle.fc_server.specs.States.{Does}
use Rattle.fc_server.proofs.server.Server.take_if.Goals as goal

pub returns-then-take : goal.returns-then-take
returns-then-take c = λ k. subst (λ (m : Bool). Does (Take k m c.args.readings.now) c.args.self.now c.args.task.now c.take.new.self c.take.new.task None) (c.if-take.true ∙ sym c.if-not-memory.false) (c.take.ensures k)
