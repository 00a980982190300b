use Rattle.std.proofs.Common.{ℕ, suc, length, ◌+◌, ◌≡◌, ◌++◌, ◌∷◌, [], true, arith, subst, ◌∙◌}
use Rattle.fc_server.specs.Serving.{Serves, peeked_below}
use Rattle.fc_server.proofs.Served.{answered_on, at_work, kept_by, kept_by_answer, peeked_on}
use Rattle.fc_server.proofs.engine.discover.Goals as goal

pub peek-requires : goal.peek-requires
peek-requires c = at_work c.requires.rest (c.loop-slot.invariant.0 c.requires.history c.requires.rest c.requires.serves)

pub loop-slot-preserved : goal.loop-slot-preserved
loop-slot-preserved c = (
  λ h rest v.
      let next : suc c.loop-slot.slot ≡ c.loop-slot.slot + 1 = omega arith in
      subst (λ (n : ℕ). Serves (peeked_below (length rest) n h) c.peek.new.self (rest ++ c.peek.new.task ∷ [])) next
      (peeked_on rest (c.loop-slot.invariant.0 h rest v) c.loop-slot.slot (c.peek.ensures (length rest))),
  kept_by (c.peek.ensures 0) ∙ c.loop-slot.invariant.1,
)

pub respond-requires : goal.respond-requires
respond-requires c = at_work c.requires.rest (c.loop-slot.invariant.0 c.requires.history c.requires.rest c.requires.serves)

pub returns-clause-works : goal.returns-clause-works
returns-clause-works c = λ seen readings h rest v.
    let all : c.loop-slot.slot ≡ 64 = omega (arith, c.loop-slot.auto.slot-end, c.loop-slot-test.false) in
    let listed = subst (λ (n : ℕ). Serves (peeked_below (length rest) n h) c.loop-slot.server (rest ++ c.loop-slot.task ∷ [])) all (c.loop-slot.invariant.0 h rest v) in
    record { memory = true; tasks = rest ++ c.respond.new.task ∷ []; serves = answered_on rest listed c.args.now _ c.respond.ensures }

pub returns-clause-job : goal.returns-clause-job
returns-clause-job c = kept_by_answer c.respond.ensures ∙ c.loop-slot.invariant.1
