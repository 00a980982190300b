use Rattle.std.proofs.Common.{sym, subst}
use Rattle.fc_kinds.specs.Containing.{IsInterval}
use Rattle.fc_alu.specs.Words.{bits_of}
use Rattle.fc_kinds.proofs.IntervalsProper.{span_proper}
use Rattle.fc_kinds.proofs.interval.alu_interval.Goals as goal

pub returns-clause-proper : goal.returns-clause-proper
returns-clause-proper c = subst (IsInterval (bits_of c.args.width)) (sym c.interval_of.ensures) (span_proper (bits_of c.args.width) c.args.op c.clipped.result c.clipped-2.result c.clipped.ensures.proper c.clipped-2.ensures.proper)
