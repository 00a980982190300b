use Rattle.std.proofs.Common.{◌≡◌}
use Rattle.std.specs.List.{list_all}
use Rattle.coap_client.specs.Replies.{is_known_option}
use Rattle.coap_client.proofs.reply.are_known.Given as goal

abbrev pub invariant-loop-number : goal.invariant-loop-number
invariant-loop-number l = list_all (λ o. is_known_option o.0) l.number-iterator ≡ list_all (λ o. is_known_option o.0) l.message.options
