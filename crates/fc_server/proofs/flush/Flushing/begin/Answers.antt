use Rattle.std.proofs.Common.{◌≡◌, ◌+◌, Bool, List, [], ◌∷◌, ◌++◌, refl, ap, sym, subst}
use Rattle.std.specs.Prelude.{MatchBool}
use Rattle.coap_msg.specs.declared.types.Emission.{Emission}
use Rattle.fc_server.specs.Flushing.{AreStepsTo, Passed}
use Rattle.fc_server.proofs.FlushingSteps.{before_shard, no_steps, one_step, passes_over}
use Rattle.fc_server.proofs.flush.Flushing.begin.Goals as goal

pub idle-init : goal.idle-init
idle-init g c = ([], no_steps g.N.Ingress.calls c.args.now c.args.ingress.now _ refl refl, refl)

pub idle-preserved : goal.idle-preserved
idle-preserved g c =
    let new = c.advance_if_idle.new.self in
    let shard = c.idle.shard in
    let w = c.idle.invariant in
    let passed = subst (λ (b : Bool). MatchBool b (g.N.Ingress.calls.passes_over shard c.args.now c.idle.ingress new) (new ≡ c.idle.ingress)) c.if-advance_if_idle.true c.advance_if_idle.ensures.after in (
      Passed shard ∷ w.0,
      one_step g.N.Ingress.calls c.args.now c.args.ingress.now c.idle.ingress new (before_shard shard) (before_shard (shard + 1)) w.0 (Passed shard) w.1 (c.idle-test.true, passed)
          (passes_over (before_shard shard) (before_shard (shard + 1)) c.idle-test.true refl refl refl),
      ap (λ (l : List Emission). l ++ []) w.2,
    )

pub returns-else-advance_if_idle : goal.returns-else-advance_if_idle
returns-else-advance_if_idle g c =
    let new = c.advance_if_idle.new.self in
    let w = c.idle.invariant in
    let same = subst (λ (b : Bool). MatchBool b (g.N.Ingress.calls.passes_over c.idle.shard c.args.now c.idle.ingress new) (new ≡ c.idle.ingress)) c.if-advance_if_idle.false c.advance_if_idle.ensures.after in
    (w.0, subst (λ s. AreStepsTo g.N.Ingress.calls c.args.now w.0 c.args.ingress.now s (before_shard c.idle.shard)) (sym same) w.1, w.2)
