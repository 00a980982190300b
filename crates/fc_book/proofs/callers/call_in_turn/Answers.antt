use Rattle.std.proofs.Common.{◌∙◌, ap, ◌++◌, ◌∷◌, [], ℕ, ◌+◌, List, subst, sym}
use Rattle.fc_book.specs.Counters.{IsCaller, call_of, with_call}
use Rattle.fc_book.proofs.Counted.{caller_more, odd}
use Rattle.fc_book.proofs.callers.call_in_turn.Goals as goal
use Rattle.fc_book.proofs.callers.call_in_turn.Goals.{then-call-eq0+in_ok-answer, else-call-eq0+in_ok-answer-2}

pub loop-call-preserved : goal.loop-call-preserved
loop-call-preserved g c =
    let who = c.args.who in
    let was = c.loop-call.invariant in
    let v = c.loop-call.tracks in
    subst (λ (l : List ℕ). IsCaller who (c.loop-call.call + 1) c.if-call-eq0.tracks l)
    (sym (c.push_reserved.ensures.items ∙ ap (λ (l : List ℕ). l ++ c.if-call-eq0.answer ∷ []) c.reserve.ensures.items))
    (elim c.if-call-eq0.branch [
      | then-call-eq0+in_ok-answer w ↦
          caller_more who 0 c.if-call-eq0.answer c.loop-call.call v c.if-call-eq0.tracks c.loop-call.answers.items was
          (sym w.if-call-eq0.true)
          (w.tracks-is ∙ (w.in_ok-answer.ensures.called ∙ ap (λ (n : ℕ). with_call (call_of 0 who n) v) (sym w.answer-is)))
      | else-call-eq0+in_ok-answer-2 w ↦
          caller_more who 1 c.if-call-eq0.answer c.loop-call.call v c.if-call-eq0.tracks c.loop-call.answers.items was
          (odd c.loop-call.call w.if-call-eq0.false)
          (w.tracks-is ∙ (w.in_ok-answer-2.ensures.called ∙ ap (λ (n : ℕ). with_call (call_of 1 who n) v) (sym w.answer-is)))
    ])
