use Rattle.std.proofs.Common.{◌≡◌, ◌≤◌, length, take}
use Rattle.std.specs.List.{All}
use Rattle.coap_client.specs.Paths.{slices_in}
use Rattle.coap_uri.specs.Addresses.{texts_in}
use Rattle.coap_uri.proofs.resource.arguments_of.Given as goal

-- the arguments before this index are stored, and each of them has at most 255 bytes.
abbrev pub invariant-loop-argument : goal.invariant-loop-argument
invariant-loop-argument l =
    (slices_in l.arguments.items ≡ texts_in (take l.argument-index l.query)) × All (λ argument. length argument ≤ 255) (texts_in (take l.argument-index l.query))
