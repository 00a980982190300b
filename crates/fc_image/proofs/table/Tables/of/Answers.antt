use Rattle.std.proofs.Common.{min, ap, ◌∙◌}
use Rattle.fc_image.specs.Loops.{loops_of}
use Rattle.fc_image.specs.Paths.{cost_in, longest}
use Rattle.fc_image.proofs.table.Tables.of.Goals as goal

pub returns : goal.returns
unfolding longest
returns c = record { starts = c.starts-starts.ensures; counts = c.starts_counted-counts.ensures; spans = c.spans.ensures; frames = c.deepest-frames.ensures; cost = c.longest_cost.ensures ∙ ap (λ b. min 65537 (cost_in c.args.code.now (loops_of b c.args.code.now) 0)) c.loops_allowed.ensures }
