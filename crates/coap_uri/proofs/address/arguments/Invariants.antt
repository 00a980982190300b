use Rattle.std.proofs.Common.{◌≡◌, map}
use Rattle.coap_uri.specs.Addresses.{texts_in}
use Rattle.coap_uri.proofs.address.arguments.Given as goal

abbrev pub invariant-loop-argument : goal.invariant-loop-argument
invariant-loop-argument l = texts_in l.arguments.items ≡ map (λ argument. argument.now) l.yielded
