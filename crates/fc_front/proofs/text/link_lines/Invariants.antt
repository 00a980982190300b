use Rattle.std.proofs.Common.{◌≡◌, ◌≤◌, ◌*◌, ◌++◌, length, drop}
use Rattle.fc_front.specs.Links.{links_from}
use Rattle.fc_front.proofs.text.link_lines.Given as goal

-- the links that are written and those that remain are all links, and each link has at most 12
-- bytes.
abbrev pub invariant-loop-slot : goal.invariant-loop-slot
invariant-loop-slot l =
    (l.links.items ++ links_from l.slot (drop l.slot l.fn.words) ≡ links_from 0 l.fn.words)
    × (length l.links.items ≤ 12 * l.slot)
