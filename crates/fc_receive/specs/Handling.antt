-- A datagram handled by an ingress.
use Rattle.std.specs.Prelude.{◌≡◌, ℕ, List, Option}
use Rattle.std.specs.Borrow.{Bor}
use Rattle.coap_msg.specs.declared.types.Emission.{Emission}
use Rattle.coap_msg.specs.declared.types.Endpoint.{Endpoint}
use Rattle.fc_front.specs.Receiving.{emission_if}
use Rattle.fc_front.specs.declared.front.Handled.{Handled}
use Rattle.fc_server.specs.Ingresses.{is_reply}
use Rattle.fc_host.specs.Sockets.{Incoming}

-- a datagram was handled once, whole and from its endpoint, and this was the immediate response.
pub record IsHandledBy {S : Type 0} (Handles : ℕ → Endpoint → Bor (List ℕ) → S → S → Handled → Emission → Type 0) (now : ℕ) (incoming : Incoming) (old : S) (sent : Option Emission) (new : S) : Type 0 where
  pub borrow : Bor (List ℕ)
  pub bytes_are : borrow.now ≡ incoming.bytes
  pub handled : Handled
  pub reply : Emission
  pub handles : Handles now incoming.from borrow old new handled reply
  pub sent_is : sent ≡ emission_if (is_reply handled) reply
