-- A CoAP ping: an empty confirmable message. Each endpoint rejects it with a Reset message, which
-- has the ping's message ID (RFC 7252, sections 4.2 and 4.3). In a list of calls, the newest is
-- first.
use Rattle.std.specs.Prelude.{◌≡◌, ℕ, Bool, true, false, filter, List, []}
use Rattle.coap_msg.specs.Wire.{Message, message_bytes}
use Rattle.coap_msg.specs.declared.types.MessageType.TheVariants.{Confirmable}
use Rattle.coap_client.specs.declared.fetcher.FetchFault.{FetchFault}
use Rattle.coap_client.specs.declared.fetcher.FetchFault.TheVariants as fault
use Rattle.coap_client.specs.Handled.{IsReadAs}
use Rattle.coap_client.specs.Listening.{EndsOn, IsOver}
use Rattle.coap_client.specs.PeerCalls.{PeerCall, PeerError, Sends, Waits, Receives, Reads}
use Rattle.coap_client.specs.Replies.{IsReset}
use Rattle.coap_client.specs.Transmissions.{AreInVain, IsLastSending, most_sendings}

-- the ping with this message ID: an empty confirmable message.
abbrev pub ping : ℕ → Message
ping id = record { kind = Confirmable; code = 0; id = id; token = []; options = []; payload = [] }

abbrev pub ping_bytes : ℕ → List ℕ
ping_bytes id = message_bytes (ping id)

-- the datagram isn't the Reset message with the ping's message ID. So it is skipped, and nothing is
-- sent after it.
abbrev pub IsNoPong : ℕ → List ℕ → List PeerCall → Type 0
IsNoPong id bytes sent = (IsReadAs bytes (IsReset id) → ⊥) × (sent ≡ [])

-- the wait ended on the Reset message with the ping's message ID.
pub record EndsOnPong (id : ℕ) (handled : List PeerCall) : Type 0 where
  pub bytes : List ℕ
  pub rejects : IsReadAs bytes (IsReset id)
  pub ends : EndsOn (IsNoPong id) bytes handled

-- the wait ended on the Reset message (`true`), or the wait is over (`false`).
abbrev pub IsOverUnlessPong : ℕ → Bool → List PeerCall → Type 0
IsOverUnlessPong id true handled = EndsOnPong id handled
IsOverUnlessPong id false handled = IsOver (IsNoPong id) handled

-- the ping is sent like a confirmable request, and retransmitted at the end of each wait, until the
-- Reset message arrives.
abbrev pub IsPinged : ℕ → List PeerCall → Type 0
IsPinged id calls = IsLastSending (IsNoPong id) (ping_bytes id) (EndsOnPong id) calls

-- the ping is sent five times, and no Reset message arrives.
abbrev pub IsPingedInVain : ℕ → List PeerCall → Type 0
IsPingedInVain id calls = AreInVain (IsNoPong id) (ping_bytes id) most_sendings calls

-- the errors of a ping: no Reset message arrived until the wait after the last transmission was
-- over, or the peer returned an error.
abbrev pub IsPingFault : (PeerError → Type 0) → ((List PeerCall → Type 0) → Type 0) → ℕ → FetchFault → Type 0
IsPingFault is_error Makes id fault.Silence = Makes (IsPingedInVain id)
IsPingFault is_error Makes id (fault.Socket error) = is_error error
IsPingFault is_error Makes id other = ⊥

-- a datagram arrived that is the Reset message with this message ID.
pub record CamePong (came : List ℕ → Type 0) (id : ℕ) : Type 0 where
  pub bytes : List ℕ
  pub came_is : came bytes
  pub rejects : IsReadAs bytes (IsReset id)

-- the ping was sent, and the Reset message arrived.
pub record HasPong (went came : List ℕ → Type 0) (id : ℕ) : Type 0 where
  pub sent : went (ping_bytes id)
  pub answered : CamePong came id

-- a call that sends a datagram or begins a wait.
abbrev pub is_own_call : PeerCall → Bool
is_own_call (Sends bytes) = true
is_own_call (Waits seconds) = true
is_own_call (Receives bytes) = false
is_own_call (Reads time) = false

abbrev pub own_calls : List PeerCall → List PeerCall
own_calls calls = filter is_own_call calls
