use Rattle.coap_msg.proofs.Sizes.{option_size, message_size}
use Rattle.coap_msg.proofs.laws.messages_are_short.Goals as goal

pub returns : goal.returns
returns c = record { option = option_size; message = message_size }
