use Rattle.std.proofs.Common.{◌-◌, ◌≤◌}
use Rattle.std.specs.FinMap.{keys}
use Rattle.coap_dedup.specs.Requests.{by_key}
use Rattle.coap_dedup.proofs.Halves.{IsBetween}
use Rattle.coap_dedup.proofs.requests.Requests.search_between.Given as goal

abbrev pub invariant-halves : goal.invariant-halves
invariant-halves l = (1 ≤ l.comparisons) × IsBetween (keys (by_key l.self.items)) l.key l.low l.high (l.comparisons - 1)

abbrev pub decreases-halves : goal.decreases-halves
decreases-halves l = l.high - l.low
