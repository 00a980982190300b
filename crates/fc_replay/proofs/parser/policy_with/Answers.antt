use Rattle.fc_replay.proofs.Limits.{limits_of}
use Rattle.fc_replay.proofs.parser.policy_with.Goals as goal

pub returns : goal.returns
returns c = limits_of c.policy.result _ _ _ _ _ _ c.in_ok-exchanges.ensures c.in_ok-share.ensures c.requires.networks c.requires.seconds c.policy.ensures
