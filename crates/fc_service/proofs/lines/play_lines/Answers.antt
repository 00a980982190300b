use Rattle.std.proofs.Common.{◌≡◌, [], Result, Err, Some, ap, arith, refl, ◌∙◌}
use Rattle.std.specs.Vec.{vec_items}
use Rattle.std.proofs.KnownBytes.{Appends-nil}
use Rattle.std.proofs.lemmas.Result.{err_from_is_err_and}
use Rattle.fc_cli.specs.declared.stop.Stop.TheVariants.{BadLine}
use Rattle.fc_service.proofs.Played.{next_text, plays_on, stops_at}
use Rattle.fc_service.proofs.lines.play_lines.Goals as goal

pub loop-text-init : goal.loop-text-init
loop-text-init g c = (
  cc (c.into_iter-text-iterator.ensures.into_iter_gives, c.split-text-items.ensures.byte),
  record { lines = []; played = refl; read = cc (c.into_iter-text-iterator.ensures.into_iter_gives, c.split-text-items.ensures.bytes); printed = Appends-nil _ },
  omega arith,
)

pub loop-text-preserved : goal.loop-text-preserved
loop-text-preserved g c =
    let next = next_text vec_items _ _ _ c.in-Ok.text c.deref.ensures.value c.loop-text.invariant.0 (c.in-Some.is ∙ ap (λ (r : Result _ _). Some r) c.in-Ok.is) c.next.ensures.steps.2 in
    let more = plays_on g.N.LineIngress.hands g.N.Ingress.calls c.args.ingress.now c.loop-text.ingress c.play_line.new.ingress _ _ _ _ _ _ c.deref.result.now c.loop-text.invariant.1 next c.in_ok-play_line-in-Ok.ensures.played in
    (c.next.ensures.steps.1 ∙ c.loop-text.invariant.0, more.0, omega (arith, more.1, c.loop-text.invariant.2, c.saturating_add-number.ensures))

pub returns-in_err-play_line-in-Ok-clause-bad : goal.returns-in_err-play_line-in-Ok-clause-bad
returns-in_err-play_line-in-Ok-clause-bad g c = λ number stops.
    let p = err_from_is_err_and c.from_residual.result c.from_residual.ensures.1 in
    let is : c.play_line.result ≡ Err (BadLine number) = cc (c.in_err-play_line-in-Ok.was, p.1, p.2, stops) in
    let w = c.play_line.ensures.bad number is in
    stops_at g.N.LineIngress.hands g.N.Ingress.calls number c.args.ingress.now c.loop-text.ingress c.play_line.new.ingress _ _ _ _ _ c.loop-text.invariant.1 w.2 w.3
    (omega (arith, w.0, c.saturating_add-number.ensures, c.loop-text.invariant.2))

pub returns-in-Err-clause-bad : goal.returns-in-Err-clause-bad
returns-in-Err-clause-bad g c = λ number stops.
    let is = c.at_line.ensures.numbered number (cc stops) in
    record {
      left = _;
      has = c.loop-text.invariant.1;
      number_is = omega (arith, is, c.saturating_add-number.ensures, c.loop-text.invariant.2);
    }
