use Rattle.std.proofs.Common.{◌≡◌, ◌≤◌, length}
use Rattle.coap_opts.specs.Values.{without_zeros}
use Rattle.coap_opts.proofs.uint.without_leading_zeros.Given as goal

abbrev pub invariant-loop-rest : goal.invariant-loop-rest
invariant-loop-rest l = record { same : without_zeros l.rest ≡ without_zeros l.bytes; short : length l.rest ≤ length l.bytes }

abbrev pub decreases-loop-rest : goal.decreases-loop-rest
decreases-loop-rest l = length l.rest
