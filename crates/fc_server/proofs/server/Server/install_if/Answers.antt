use Rattle.std.proofs.Common.{None, Bool, sym, subst, ◌∙◌}
use Rattle.fc_core.specs.declared.event.Event.TheVariants.{Install}
use Rattle.fc_server.specs.States.{Does}
use Rattle.fc_server.proofs.server.Server.install_if.Goals as goal

pub returns-then-install : goal.returns-then-install
returns-then-install c = λ k. subst (λ (m : Bool). Does (Install k m) c.args.self.now c.args.task.now c.install.new.self c.install.new.task None) (c.if-install.true ∙ sym c.if-not-memory.false) (c.install.ensures k)
