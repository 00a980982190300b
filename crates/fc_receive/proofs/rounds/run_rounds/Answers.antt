use Rattle.std.proofs.Common.{ℕ, [], ◌∷◌, Option, ap, subst, arith, refl, rules, ◌∙◌}
use Rattle.coap_msg.specs.declared.types.Endpoint.{Endpoint}
use Rattle.fc_host.specs.Sockets.{Comes, incoming_in}
use Rattle.std.specs.Prelude.{is_some}
use Rattle.fc_receive.proofs.Waits.{handled_nothing, handled_something}
use Rattle.fc_receive.proofs.Runs.{handled_round, no_rounds, passed_round}
use Rattle.fc_receive.specs.Rounds.{round_calls}
use Rattle.fc_pool.specs.declared.replies.SentReplies.{SentReplies}
use Rattle.fc_receive.proofs.rounds.run_rounds.Goals as goal
use Rattle.fc_receive.proofs.rounds.run_rounds.Goals.{in-Some-came, in-None-came}

pub loop-init : goal.loop-init
loop-init g c = (
  tt,
  tt,
  no_rounds g.P.Preparation.readies g.N.Ingress.calls (round_calls g.S.Source.received g.M.TimeSource.is_time g.K.Sink.went)
      c.args.limit (g.S.Source.came c.args.source.now) c.args.ingress.now c.new-replied.result c.until_due-wait.result c.new-replied.ensures
      (c.first_due.result, c.first_due.ensures, c.until_due-wait.ensures),
)

pub loop-preserved : goal.loop-preserved
loop-preserved g c =
    let before = g.S.Source.came c.loop.source in
    let after = g.S.Source.came c.receive-came.new.self in
    let buffer = c.receive-came.new.buffer in
    let e = round_calls g.S.Source.received g.M.TimeSource.is_time g.K.Sink.went in
    let o = c.loop.replied in
    let a : SentReplies = record { replies = o.replies; log = c.now-now.new.log } in
    let asks = c.receive-came.ensures.logged in
    let d = c.flush.new.replied in
    let z : SentReplies = record { replies = d.replies; log = c.next_wait-wait.new.log } in
    let next = c.next_wait-wait.ensures in (
      tt,
      tt,
      elim c.match-came.branch [
        | in-Some-came w ↦
            handled_round g.P.Preparation.readies g.N.Ingress.calls e
            c.args.limit c.loop.received c.match-came.received c.loop.wait c.next_wait-wait.result (g.S.Source.came c.args.source.now) before after c.args.ingress.now c.loop.ingress c.ready.new.ingress w.handle.new.ingress c.match-came.ingress c.flush.new.ingress o a w.handle.new.replied c.match-came.replied d z c.now-now.result _
            c.loop.invariant.2
            (record { asked = c.receive-came.new.log; receives = subst (λ (r : Option (ℕ × Endpoint)). e.received (record { wait = c.loop.wait; came = incoming_in buffer r }) o.log c.receive-came.new.log) w.in-Some-came.is asks; time = c.now-now.ensures; kept = refl })
            (subst (λ (o : Option (ℕ × Endpoint)). Comes before after (record { wait = c.loop.wait; came = incoming_in buffer o } ∷ [])) w.in-Some-came.is c.receive-came.ensures.given)
            c.ready.ensures w.handle.ensures w.ingress-is w.replied-is c.flush.ensures (λ some. search (rules, c.else-limit-gt0.either)) (omega (arith, c.ranges.limit.fits)) (w.received-is ∙ search (rules, w.saturating_add-received.ensures))
            c.is_none-idle.result (handled_something c.is_none-idle.result _ c.is_none-idle.ensures (ap is_some w.in-Some-came.is)) (record { ended = next.0; waits = next.1; read = next.2; kept = refl })
        | in-None-came w ↦
            passed_round g.P.Preparation.readies g.N.Ingress.calls e
            c.args.limit c.loop.received c.match-came.received c.loop.wait c.next_wait-wait.result (g.S.Source.came c.args.source.now) before after c.args.ingress.now c.loop.ingress c.ready.new.ingress w.tick.new.self c.match-came.ingress c.flush.new.ingress o a c.match-came.replied d z c.now-now.result
            c.loop.invariant.2
            (record { asked = c.receive-came.new.log; receives = subst (λ (r : Option (ℕ × Endpoint)). e.received (record { wait = c.loop.wait; came = incoming_in buffer r }) o.log c.receive-came.new.log) w.in-None-came.is asks; time = c.now-now.ensures; kept = refl })
            (subst (λ (o : Option (ℕ × Endpoint)). Comes before after (record { wait = c.loop.wait; came = incoming_in buffer o } ∷ [])) w.in-None-came.is c.receive-came.ensures.given)
            c.ready.ensures w.tick.ensures w.ingress-is w.replied-is c.flush.ensures w.received-is
            c.is_none-idle.result (handled_nothing c.is_none-idle.result _ c.is_none-idle.ensures (ap is_some w.in-None-came.is)) (record { ended = next.0; waits = next.1; read = next.2; kept = refl })
      ],
    )
