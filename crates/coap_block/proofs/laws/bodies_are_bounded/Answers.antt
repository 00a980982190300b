use Rattle.std.specs.Prelude.{None}
use Rattle.coap_block.proofs.Bodies.{bound_reached, most_bytes}
use Rattle.coap_block.proofs.laws.bodies_are_bounded.Goals as goal

pub returns : goal.returns
returns c = record { most = most_bytes; without = λ held now to n bytes. (λ e. most_bytes held now to n None bytes bytes e, bound_reached bytes) }
