use Rattle.std.proofs.Common.{◌≡◌, drop}
use Rattle.fc_expand.specs.Expanded.{is_plain_but_for_tabs}
use Rattle.fc_expand.proofs.plain.is_plain_but_for_tabs.Given as goal

abbrev pub invariant-loop-at : goal.invariant-loop-at
invariant-loop-at l = is_plain_but_for_tabs (drop l.at l.text) ≡ is_plain_but_for_tabs l.text
