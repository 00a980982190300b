use Rattle.std.proofs.Common.{length, ◌++◌, ◌∷◌, [], true, ◌∙◌}
use Rattle.fc_server.proofs.Served.{answered_on, at_work, described_on, kept_by, kept_by_answer}
use Rattle.fc_server.proofs.engine.describe.Goals as goal

pub describe-requires : goal.describe-requires
describe-requires c = at_work c.requires.rest c.requires.serves

pub respond-requires : goal.respond-requires
respond-requires c =
    let rest = c.requires.rest in
    at_work rest (described_on rest c.requires.serves (c.describe.ensures (length rest)))

pub returns-clause-works : goal.returns-clause-works
returns-clause-works c = λ readings h rest v.
    let described = described_on rest v (c.describe.ensures (length rest)) in
    record { memory = true; tasks = rest ++ c.respond.new.task ∷ []; serves = answered_on rest described c.args.now _ c.respond.ensures }

pub returns-clause-job : goal.returns-clause-job
returns-clause-job c = kept_by_answer c.respond.ensures ∙ kept_by (c.describe.ensures 0)
