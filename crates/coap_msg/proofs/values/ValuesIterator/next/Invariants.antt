use Rattle.std.proofs.Common.{◌≡◌, length}
use Rattle.coap_msg.specs.Values.{values_in}
use Rattle.coap_msg.proofs.values.ValuesIterator.next.Given as goal

-- the values that the iterator still has are those that it had at the call
abbrev pub invariant-loop-number : goal.invariant-loop-number
invariant-loop-number l = values_in l.self-inside.number l.self-inside.options ≡ l.fn.self

abbrev pub decreases-loop-number : goal.decreases-loop-number
decreases-loop-number l = length l.self-inside.options
