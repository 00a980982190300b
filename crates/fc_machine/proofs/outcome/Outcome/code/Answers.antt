use Rattle.std.proofs.Common.{◌≡◌, ◌≤◌, true, sym, subst}
use Rattle.fc_kinds.specs.Runnable.{is_reply_code}
use Rattle.fc_machine.specs.Ran.{Ran}
use Rattle.fc_machine.proofs.Codes.{meaning_high, outcome_known}
use Rattle.fc_machine.proofs.outcome.Outcome.code.Goals as goal

pub returns-clause-known : goal.returns-clause-known
returns-clause-known c =
    subst (λ (r : Ran). is_reply_code r.input.request.method c.self.inside.code ≡ true) c.self.view_is (outcome_known c.reply_codes_are_known.ensures c.self.invariant)

pub returns-clause-reply : goal.returns-clause-reply
returns-clause-reply c = subst (λ n. 64 ≤ n) (sym c.self.invariant.code_is) (meaning_high _)
