-- The client request that the options describe, and the reasons why a client stops.
use Rattle.std.proofs.Common.{◌≡◌, ℕ, List, Option, Some, None, IfNone, Result, Ok, Err, IfErr, IfOk, IfSome, inl, ap, subst, ◌∙◌}
use Rattle.std.specs.Borrow.{Bor}
use Rattle.coap_client.specs.declared.client_request.ClientRequest.{ClientRequest}
use Rattle.coap_client.specs.declared.client_request.RequestTarget.{RequestTarget}
use Rattle.fc_fetch.specs.declared.client.FetchOptions.{FetchOptions}
use Rattle.std.specs.declared.net.socket_addr.SocketAddrV4.{SocketAddrV4}
use Rattle.coap_client.specs.PeerCalls.{PeerCall, PeerError}
use Rattle.fc_fetch.specs.Connecting.{IsDrawnId}
use Rattle.coap_uri.specs.Addresses.{IsAddress}
use Rattle.coap_uri.specs.declared.address.Address.{Address}
use Rattle.fc_fetch.specs.Fetching.{HasResource, IsAsking, IsFetchStop, IsOfConnecting, IsOfInput, IsOfRandom, IsTargetStop, NamesNoResource}
use Rattle.fc_fetch.specs.Observing.{IsClientRequestStop, IsObserveStop}
use Rattle.coap_uri.specs.Resources.{IsResourceOf}
use Rattle.fc_fetch.specs.declared.observer.Observing.{Observing}
use Rattle.fc_fetch.specs.Pinging.{IsPingEndpoint, IsPingStop}
use Rattle.fc_fetch.specs.declared.client.FetchStop.{FetchStop}
use Rattle.fc_fetch.specs.declared.client.FetchStop.TheVariants as stop
use Rattle.fc_fetch.specs.declared.ping.Pinging.{Pinging}

pub asks : (asking : FetchOptions) (target : RequestTarget) (payload : Bor (List ℕ)) (plain e : ClientRequest)
    → (plain.confirmable ≡ asking.confirmable) × (plain.method ≡ asking.method) × (plain.target ≡ target) × (plain.payload ≡ payload) → e.content_format ≡ asking.content_format
    → (e.confirmable ≡ plain.confirmable) × (e.method ≡ plain.method) × (e.target ≡ plain.target) × (e.payload ≡ plain.payload) → IsAsking asking target payload.now e
asks asking target payload plain e h format same = record {
  confirmable = same.0 ∙ h.0;
  method = same.1 ∙ h.1;
  target_is = same.2 ∙ h.2;
  body_is = ap (λ (p : Bor (List ℕ)). p.now) (same.3 ∙ h.3);
  format_is = format;
}

-- if an option has a value, and a property holds for the option's value, it holds for this value.
pub of_some : {A : Type 0} (o : Option A) (x : A) (P : A → Type 0) → o ≡ Some x → IfSome o P → P x
of_some {A} o x P some h = subst (λ (y : Option A). IfSome y P) some h

pub of_none : {A : Type 0} (o : Option A) (P : Type 0) → o ≡ None → IfNone o P → P
of_none {A} o P none h = subst (λ (y : Option A). IfNone y P) none h

-- if P implies Q, and P holds for a result's value, Q holds for it too.
pub ok_of : {A E : Type 0} (r : Result A E) (P Q : A → Type 0) → ((x : A) → P x → Q x) → IfOk r P → IfOk r Q
ok_of (Ok x) P Q turns h = turns x h
ok_of (Err e) P Q turns h = tt

-- if a ping's endpoint is known, and random bytes can't be drawn, the ping stops for that reason.
pub random_ping : {S : Type 0} (connected : S → SocketAddrV4 → Type 0) (drawn : List ℕ → Type 0) (is_error : PeerError → Type 0) (called : S → List PeerCall → Type 0) (p : Pinging)
    (server : SocketAddrV4) (s : FetchStop) → IsPingEndpoint p server → IsOfRandom s → IsPingStop connected drawn is_error called p s
random_ping connected drawn is_error called p server (stop.Random error) endpoint h = (server, endpoint)
random_ping connected drawn is_error called p server (stop.Address error) endpoint h = absurd h
random_ping connected drawn is_error called p server (stop.Path error) endpoint h = absurd h
random_ping connected drawn is_error called p server stop.Argument endpoint h = absurd h
random_ping connected drawn is_error called p server stop.Room endpoint h = absurd h
random_ping connected drawn is_error called p server stop.Resource endpoint h = absurd h
random_ping connected drawn is_error called p server (stop.Input source error) endpoint h = absurd h
random_ping connected drawn is_error called p server (stop.Fault f) endpoint h = absurd h
random_ping connected drawn is_error called p server (stop.Notes error) endpoint h = absurd h
random_ping connected drawn is_error called p server (stop.Memory error) endpoint h = absurd h

pub connecting_ping : {S : Type 0} (connected : S → SocketAddrV4 → Type 0) (drawn : List ℕ → Type 0) (is_error : PeerError → Type 0) (called : S → List PeerCall → Type 0) (p : Pinging)
    (server : SocketAddrV4) (id : ℕ) (s : FetchStop) → IsPingEndpoint p server → IsDrawnId drawn id → IsOfConnecting s → IsPingStop connected drawn is_error called p s
connecting_ping connected drawn is_error called p server id (stop.Fault f) endpoint own h = record { server = server; server_is = endpoint; id = id; id_is = own; fails = inl h }
connecting_ping connected drawn is_error called p server id (stop.Random error) endpoint own h = absurd h
connecting_ping connected drawn is_error called p server id (stop.Address error) endpoint own h = absurd h
connecting_ping connected drawn is_error called p server id (stop.Path error) endpoint own h = absurd h
connecting_ping connected drawn is_error called p server id stop.Argument endpoint own h = absurd h
connecting_ping connected drawn is_error called p server id stop.Room endpoint own h = absurd h
connecting_ping connected drawn is_error called p server id stop.Resource endpoint own h = absurd h
connecting_ping connected drawn is_error called p server id (stop.Input source error) endpoint own h = absurd h
connecting_ping connected drawn is_error called p server id (stop.Notes error) endpoint own h = absurd h
connecting_ping connected drawn is_error called p server id (stop.Memory error) endpoint own h = absurd h

-- ---- the reasons for no response
module _ {S : Type 0} (connected : S → SocketAddrV4 → Type 0) (drawn went came : List ℕ → Type 0) (is_error : PeerError → Type 0) (called : S → List PeerCall → Type 0) (asking : FetchOptions)
    (input : Option (List ℕ)) where
  abbrev Stops : FetchStop → Type 0
  Stops s = IsFetchStop connected drawn went came is_error called asking input s

  pub target_stop : (s : FetchStop) → IsTargetStop asking.target.now asking.port s → Stops s
  target_stop (stop.Address error) h = h
  target_stop (stop.Path error) h = h
  target_stop stop.Argument h = h
  target_stop stop.Room h = absurd h.none
  target_stop stop.Resource h = h
  target_stop (stop.Input name error) h = absurd h.none
  target_stop (stop.Random error) h = absurd h.none
  target_stop (stop.Fault f) h = absurd h.none
  target_stop (stop.Notes error) h = h
  target_stop (stop.Memory error) h = h

  pub no_input : (s : FetchStop) → HasResource asking.target.now asking.port → IsOfInput asking.source.now s → Stops s
  no_input (stop.Address error) r h = absurd h
  no_input (stop.Path error) r h = absurd h
  no_input stop.Argument r h = absurd h
  no_input stop.Room r h = absurd h
  no_input stop.Resource r h = absurd h
  no_input (stop.Input name error) r h = (h, r)
  no_input (stop.Random error) r h = absurd h
  no_input (stop.Fault f) r h = absurd h
  no_input (stop.Notes error) r h = absurd h
  no_input (stop.Memory error) r h = absurd h

  pub no_words : (s : FetchStop) → HasResource asking.target.now asking.port → IsOfRandom s → Stops s
  no_words (stop.Address error) r h = absurd h
  no_words (stop.Path error) r h = absurd h
  no_words stop.Argument r h = absurd h
  no_words stop.Room r h = absurd h
  no_words stop.Resource r h = absurd h
  no_words (stop.Input name error) r h = absurd h
  no_words (stop.Random error) r h = r
  no_words (stop.Fault f) r h = absurd h
  no_words (stop.Notes error) r h = absurd h
  no_words (stop.Memory error) r h = absurd h

  pub no_server : (s : FetchStop) (body : List ℕ) (id : ℕ) → HasResource asking.target.now asking.port → IfSome input (λ bytes. body ≡ bytes) → IsDrawnId drawn id → IsOfConnecting s → Stops s
  no_server (stop.Address error) body id r b i h = absurd h
  no_server (stop.Path error) body id r b i h = absurd h
  no_server stop.Argument body id r b i h = absurd h
  no_server stop.Room body id r b i h = absurd h
  no_server stop.Resource body id r b i h = absurd h
  no_server (stop.Input name error) body id r b i h = absurd h
  no_server (stop.Random error) body id r b i h = absurd h
  no_server (stop.Fault f) body id r b i h = record { resource = r; body = body; body_is = b; id = id; id_is = i; fails = inl h }
  no_server (stop.Notes error) body id r b i h = absurd h
  no_server (stop.Memory error) body id r b i h = absurd h

-- if a target's address names no resource, the client stops for that reason.
pub nothing_named : (text : List ℕ) (port : Option ℕ) (a : Address) (s : FetchStop) → IsAddress text port a → NamesNoResource a s → IsTargetStop text port s
nothing_named text port a (stop.Address error) is h = absurd h
nothing_named text port a (stop.Path error) is h = record { address = a; address_is = is; none = h }
nothing_named text port a stop.Argument is h = record { address = a; address_is = is; none = h }
nothing_named text port a stop.Room is h = absurd h
nothing_named text port a stop.Resource is h = absurd h
nothing_named text port a (stop.Input name error) is h = absurd h
nothing_named text port a (stop.Random error) is h = absurd h
nothing_named text port a (stop.Fault f) is h = absurd h
nothing_named text port a (stop.Notes error) is h = absurd h
nothing_named text port a (stop.Memory error) is h = record { address = a; address_is = is; none = h }

-- ---- the reasons for an observation to stop
module _ {S : Type 0} (connected : S → SocketAddrV4 → Type 0) (drawn went came tried : List ℕ → Type 0) (told : ℕ → Type 0) (is_error : PeerError → Type 0) (called : S → List PeerCall → Type 0) (observing : Observing) where
  abbrev Ends : FetchStop → Type 0
  Ends s = IsObserveStop connected drawn went came tried told is_error called observing s

  pub observed_nothing : (s : FetchStop) → IsTargetStop observing.target.now observing.port s → Ends s
  observed_nothing (stop.Address error) h = h
  observed_nothing (stop.Path error) h = h
  observed_nothing stop.Argument h = h
  observed_nothing stop.Room h = absurd h.none
  observed_nothing stop.Resource h = h
  observed_nothing (stop.Input name error) h = h
  observed_nothing (stop.Random error) h = absurd h.none
  observed_nothing (stop.Fault f) h = absurd h.none
  observed_nothing (stop.Notes error) h = absurd h.none
  observed_nothing (stop.Memory error) h = h

  abbrev AtClientRequest : ClientRequest → SocketAddrV4 → FetchStop → Type 0
  AtClientRequest e server s = IsClientRequestStop connected drawn went came tried told is_error called observing e server s

  pub observed_client_request : (a : Address) (e : ClientRequest) (s : FetchStop) → IsAddress observing.target.now observing.port a → IsResourceOf a e.target → AtClientRequest e a.server s → Ends s
  observed_client_request a e (stop.Address error) is target h = absurd h
  observed_client_request a e (stop.Path error) is target h = absurd h
  observed_client_request a e stop.Argument is target h = absurd h
  observed_client_request a e stop.Room is target h = absurd h
  observed_client_request a e stop.Resource is target h = absurd h
  observed_client_request a e (stop.Input name error) is target h = absurd h
  observed_client_request a e (stop.Random error) is target h = record { address = a; address_is = is; client_request = e; target_is = target; stops = h }
  observed_client_request a e (stop.Fault f) is target h = record { address = a; address_is = is; client_request = e; target_is = target; stops = h }
  observed_client_request a e (stop.Notes error) is target h = record { address = a; address_is = is; client_request = e; target_is = target; stops = h }
  observed_client_request a e (stop.Memory error) is target h = absurd h

  pub observed_without_words : (e : ClientRequest) (server : SocketAddrV4) (s : FetchStop) → IsOfRandom s → AtClientRequest e server s
  observed_without_words e server (stop.Address error) h = absurd h
  observed_without_words e server (stop.Path error) h = absurd h
  observed_without_words e server stop.Argument h = absurd h
  observed_without_words e server stop.Room h = absurd h
  observed_without_words e server stop.Resource h = absurd h
  observed_without_words e server (stop.Input name error) h = absurd h
  observed_without_words e server (stop.Random error) h = tt
  observed_without_words e server (stop.Fault f) h = absurd h
  observed_without_words e server (stop.Notes error) h = absurd h
  observed_without_words e server (stop.Memory error) h = absurd h

  pub observed_nobody : (e : ClientRequest) (server : SocketAddrV4) (s : FetchStop) → IsOfConnecting s → AtClientRequest e server s
  observed_nobody e server (stop.Address error) h = absurd h
  observed_nobody e server (stop.Path error) h = absurd h
  observed_nobody e server stop.Argument h = absurd h
  observed_nobody e server stop.Room h = absurd h
  observed_nobody e server stop.Resource h = absurd h
  observed_nobody e server (stop.Input name error) h = absurd h
  observed_nobody e server (stop.Random error) h = absurd h
  observed_nobody e server (stop.Fault f) h = h
  observed_nobody e server (stop.Notes error) h = absurd h
  observed_nobody e server (stop.Memory error) h = absurd h

-- if P implies Q, and P holds for a result's error, Q holds for it too.
pub err_of : {A E : Type 0} (r : Result A E) (P Q : E → Type 0) → ((e : E) → P e → Q e) → IfErr r P → IfErr r Q
err_of (Ok x) P Q turns h = tt
err_of (Err e) P Q turns h = turns e h
