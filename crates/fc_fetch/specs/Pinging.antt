-- A ping, and its status.
use Rattle.std.specs.Borrow.{Bor}
use Rattle.std.specs.Prelude.{◌≡◌, ◌⊎◌, ◌||◌, ◌==◌, ℕ, length, not, Bool, true, false, List, [], ◌∷◌, Option, Some, None, unwrap_or}
use Rattle.std.specs.Net.Addr.{ipv4_octets}
use Rattle.std.specs.Net.Socket.{v4_ip, v4_port}
use Rattle.std.specs.declared.net.socket_addr.SocketAddrV4.{SocketAddrV4}
use Rattle.coap_client.specs.PeerCalls.{PeerCall, PeerError}
use Rattle.coap_client.specs.Pings.{HasPong, IsPingFault, IsPinged}
use Rattle.coap_client.specs.Transmissions.{MakesCalls}
use Rattle.coap_client.specs.declared.fetcher.FetchFault.{FetchFault}
use Rattle.fc_cli.specs.declared.status.Status.{Status}
use Rattle.fc_cli.specs.declared.status.Status.TheVariants.{Done}
use Rattle.coap_uri.specs.Addresses.{IsAddress, IsNoAddress}
use Rattle.fc_fetch.specs.Connecting.{IsDrawnId}
use Rattle.fc_fetch.specs.Fetching.{HasStopped, IsUnconnected}
use Rattle.coap_uri.specs.declared.address.Address.{Address}
use Rattle.fc_fetch.specs.declared.client.FetchStop.{FetchStop}
use Rattle.fc_fetch.specs.declared.client.FetchStop.TheVariants as stop
use Rattle.fc_fetch.specs.declared.ping.Pinging.{Pinging}

-- whether an address has a path or a query.
abbrev pub names_resource : Address → Bool
names_resource a = not (length a.path.items == 0) || not (length a.query.items == 0)

-- the server of a target that names no resource.
pub record IsAddressOfServer (text : List ℕ) (port : Option ℕ) (server : SocketAddrV4) : Type 0 where
  pub address : Address
  pub address_is : IsAddress text port address
  pub no_resource : names_resource address ≡ false
  pub server_is : address.server ≡ server

-- the server at this port of 127.0.0.1.
pub record IsPortOfThisHost (port : ℕ) (server : SocketAddrV4) : Type 0 where
  pub host_is : ipv4_octets (v4_ip server) ≡ 127 ∷ 0 ∷ 0 ∷ 1 ∷ []
  pub port_is : v4_port server ≡ port

-- the server of the target. Without a target, it is the one at the given port of this host, or at
-- port 5683.
abbrev pub IsServerOf : Option (Bor (List ℕ)) → Option ℕ → SocketAddrV4 → Type 0
IsServerOf (Some text) port server = IsAddressOfServer text.now port server
IsServerOf None port server = IsPortOfThisHost (unwrap_or port 5683) server

abbrev pub IsPingEndpoint : Pinging → SocketAddrV4 → Type 0
IsPingEndpoint p server = IsServerOf p.target p.port server

-- the target names a resource.
pub record HasResource (p : Pinging) : Type 0 where
  pub text : Bor (List ℕ)
  pub text_is : p.target ≡ Some text
  pub address : Address
  pub address_is : IsAddress text.now p.port address
  pub resource : names_resource address ≡ true

-- the reason why a ping has no endpoint: its target names a resource, or is no address.
abbrev pub IsNoEndpoint : Pinging → FetchStop → Type 0
IsNoEndpoint p (stop.Address error) = (text : Bor (List ℕ)) × (p.target ≡ Some text) × IsNoAddress text.now p.port error
IsNoEndpoint p stop.Resource = HasResource p
IsNoEndpoint p other = ⊥

-- the client connected to the server at the ping's endpoint, and pinged it with a message ID that
-- was drawn. The server rejected the ping.
pub record IsPingedAt {S : Type 0} (connected : S → SocketAddrV4 → Type 0) (drawn went came : List ℕ → Type 0) (called : S → List PeerCall → Type 0) (p : Pinging) : Type 0 where
  pub server : SocketAddrV4
  pub server_is : IsPingEndpoint p server
  pub id : ℕ
  pub id_is : IsDrawnId drawn id
  pub opened : S
  pub opened_is : connected opened server
  pub ended : S
  pub pong : HasPong went came id
  pub called_is : MakesCalls (called opened) (called ended) (IsPinged id)

-- the client connected to the server, and the ping failed with this fault.
pub record IsPingedInVainAt {S : Type 0} (connected : S → SocketAddrV4 → Type 0) (is_error : PeerError → Type 0) (called : S → List PeerCall → Type 0) (server : SocketAddrV4) (id : ℕ)
    (f : FetchFault) : Type 0 where
  pub opened : S
  pub opened_is : connected opened server
  pub ended : S
  pub fails : IsPingFault is_error (MakesCalls (called opened) (called ended)) id f

-- the ping of the endpoint failed with this fault, or the client couldn't connect.
pub record HasFailedPing {S : Type 0} (connected : S → SocketAddrV4 → Type 0) (drawn : List ℕ → Type 0) (is_error : PeerError → Type 0) (called : S → List PeerCall → Type 0) (p : Pinging)
    (f : FetchFault) : Type 0 where
  pub server : SocketAddrV4
  pub server_is : IsPingEndpoint p server
  pub id : ℕ
  pub id_is : IsDrawnId drawn id
  pub fails : IsUnconnected f ⊎ IsPingedInVainAt connected is_error called server id f

-- the reason why a ping failed: there is no endpoint, random bytes can't be drawn, or the ping
-- failed at its endpoint.
abbrev pub IsPingStop : {S : Type 0} → (S → SocketAddrV4 → Type 0) → (List ℕ → Type 0) → (PeerError → Type 0) → (S → List PeerCall → Type 0) → Pinging → FetchStop → Type 0
IsPingStop connected drawn is_error called p (stop.Random error) = (server : SocketAddrV4) × IsPingEndpoint p server
IsPingStop connected drawn is_error called p (stop.Fault f) = HasFailedPing connected drawn is_error called p f
IsPingStop connected drawn is_error called p other = IsNoEndpoint p other

-- the status of a ping. It is `Done` if the ping was answered; otherwise the client stopped for a
-- reason of `IsPingStop`.
abbrev pub HasEndedPing : {S : Type 0} → (S → SocketAddrV4 → Type 0) → (List ℕ → Type 0) → (List ℕ → Type 0) → (List ℕ → Type 0) → (PeerError → Type 0) → (S → List PeerCall → Type 0) → Pinging
    → Status → Type 0
HasEndedPing connected drawn went came is_error called p status =
    ((status ≡ Done) × IsPingedAt connected drawn went came called p) ⊎ HasStopped (IsPingStop connected drawn is_error called p) status
