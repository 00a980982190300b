use Rattle.std.proofs.Common.{◌≡◌, ◌++◌, take}
use Rattle.coap_msg.specs.Writing.{options_in}
use Rattle.coap_client.specs.Paths.{slices_in}
use Rattle.coap_client.specs.Parts.{numbered}
use Rattle.coap_client.proofs.client_request.push_options.Given as goal

abbrev pub invariant-loop-value : goal.invariant-loop-value
invariant-loop-value l = options_in l.options.items ≡ options_in l.fn.options.items ++ numbered l.number (slices_in (take l.value-index l.values))
