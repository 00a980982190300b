use Rattle.fc_verify.proofs.Judging.{refused_head}
use Rattle.fc_tools.proofs.Diagnosing.{head_rule}
use Rattle.fc_tools.proofs.diagnosis.read_head.Goals as goal

pub returns-in-Err-clause-rejected : goal.returns-in-Err-clause-rejected
returns-in-Err-clause-rejected c = record {
  fault = refused_head c.args.image.now c.in-Err.fault c.in-Err.ensures.fault.0 c.in-Err.ensures.fault.1;
  cause = record { rule = head_rule c.args.image.now c.in-Err.fault.rule c.in-Err.ensures.fault.0; shown = tt };
}
