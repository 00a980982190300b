use Rattle.std.proofs.Common.{◌≡◌, Bool, refl, subst, sym}
use Rattle.std.specs.Prelude.{MatchBool}
use Rattle.fc_server.specs.Flushing.{Asked, Passed, Resent}
use Rattle.fc_server.proofs.FlushingSteps.{passes_over}
use Rattle.fc_server.proofs.flush.Flushing.step.Goals as goal

pub returns-then-self : goal.returns-then-self
returns-then-self g c = (Asked c.args.self.now.shard c.notify.ensures.0, (c.requires, c.notify.ensures.1), sym c.notify.ensures.2, c.notify.ensures.3)

pub returns-then-advance_if_idle : goal.returns-then-advance_if_idle
returns-then-advance_if_idle g c =
    let new = c.advance_if_idle.new.self in
    let old = c.args.self.now in
    let passed = subst (λ (b : Bool). MatchBool b (g.N.Ingress.calls.passes_over old.shard c.args.now c.args.ingress.now new) (new ≡ c.args.ingress.now)) c.if-advance_if_idle.true c.advance_if_idle.ensures.after in
    (Passed old.shard, (c.requires, passed), refl, passes_over old c.pass.new.self c.requires c.if-self.false c.pass.ensures.shard c.pass.ensures.overdue)

pub returns : goal.returns
returns g c =
    let new = c.advance_if_idle.new.self in
    let shard = c.args.self.now.shard in
    let same = subst (λ (b : Bool). MatchBool b (g.N.Ingress.calls.passes_over shard c.args.now c.args.ingress.now new) (new ≡ c.args.ingress.now)) c.if-advance_if_idle.false c.advance_if_idle.ensures.after in
    (Resent shard c.resend-2.ensures.0, (c.requires, subst (λ s. g.N.Ingress.calls.resends shard c.args.now s c.resend-2.new.ingress c.resend-2.ensures.0) same c.resend-2.ensures.1), sym c.resend-2.ensures.2, c.resend-2.ensures.3)
