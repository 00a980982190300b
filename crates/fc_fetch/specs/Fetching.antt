-- The output of a client's request, and its status.
use Rattle.std.specs.Io.KnownBytes.{Appends}
use Rattle.std.specs.Prelude.{◌≡◌, ◌⊎◌, ℕ, ◌/◌, ◌==◌, if◌then◌else◌, List, [], ◌∷◌, ◌++◌, Option, IfSome}
use Rattle.std.specs.declared.net.socket_addr.SocketAddrV4.{SocketAddrV4}
use Rattle.coap_client.specs.Faults.{IsFetchFault}
use Rattle.coap_client.specs.Fetching.{IsFetched}
use Rattle.coap_client.specs.Joined.{SendsWhole}
use Rattle.coap_client.specs.Parts.{FitsDatagrams}
use Rattle.coap_client.specs.Paths.{slices_in}
use Rattle.coap_opts.specs.declared.request.Method.{Method}
use Rattle.coap_client.specs.PeerCalls.{PeerCall, PeerError}
use Rattle.coap_client.specs.Transmissions.{MakesCalls}
use Rattle.coap_client.specs.declared.client_request.ClientRequest.{ClientRequest}
use Rattle.coap_client.specs.declared.client_request.RequestTarget.{RequestTarget}
use Rattle.coap_client.specs.declared.fetcher.FetchFault.{FetchFault}
use Rattle.coap_client.specs.declared.fetcher.FetchFault.TheVariants as fault
use Rattle.fc_cli.specs.Ending.{IsEnding}
use Rattle.coap_msg.specs.Codes.{code_text}
use Rattle.fc_cli.specs.declared.status.Status.{Status}
use Rattle.fc_cli.specs.declared.status.Status.TheVariants.{Done, Refused, Bad, Failed}
use Rattle.coap_uri.specs.Addresses.{IsAddress, IsNoAddress}
use Rattle.fc_fetch.specs.Connecting.{IsDrawnId}
use Rattle.coap_uri.specs.Resources.{IsNoResource, IsResourceOf}
use Rattle.coap_uri.specs.declared.resource.ResourceError.TheVariants as resource_error
use Rattle.coap_uri.specs.declared.address.Address.{Address}
use Rattle.coap_uri.specs.declared.address.AddressError.{AddressError}
use Rattle.coap_uri.specs.declared.address.AddressError.TheVariants as address_error
use Rattle.fc_fetch.specs.declared.client.FetchStop.{FetchStop}
use Rattle.fc_fetch.specs.declared.client.FetchStop.TheVariants as stop
use Rattle.coap_client.specs.declared.path.PathError.{PathError}
use Rattle.coap_client.specs.declared.path.PathError.TheVariants as path_error
use Rattle.fc_fetch.specs.declared.client.FetchOptions.{FetchOptions}
use Rattle.fc_fetch.specs.declared.printer.Shown.{Shown}
use Rattle.fc_fetch.specs.Printing.{shown_bytes}

-- the text, and a line feed after it.
abbrev pub ended_line : List ℕ → List ℕ
ended_line text = text ++ (10 ∷ [])

-- the code, and the shown bytes on a line of their own if there are any.
abbrev pub answer_text : Shown → ℕ → List ℕ → List ℕ
answer_text shown code [] = ended_line (code_text code)
answer_text shown code (b ∷ body) = ended_line (code_text code) ++ ended_line (shown_bytes shown (b ∷ body))

-- the client's status for a code: `Done` for a success (RFC 7252, section 5.9.1), else `Refused`.
abbrev pub ending_of : ℕ → Status
ending_of code = if code / 32 == 2 then Done else Refused

-- a response with this code and body was printed, and its code determines the client's status.
pub record IsPrinted (shown : Shown) (code : ℕ) (answer : List ℕ) (before after : Option (List ℕ)) (status : Status) : Type 0 where
  pub text : Appends before after (answer_text shown code answer)
  pub status_is : status ≡ ending_of code

-- the response is a success: its bytes are appended to a file, its code is printed, and the status
-- is `Done`.
pub record IsKept (code : ℕ) (answer : List ℕ) (before after kept_before kept : Option (List ℕ)) (status : Status) : Type 0 where
  pub success : code / 32 ≡ 2
  pub text : Appends before after (ended_line (code_text code))
  pub bytes : Appends kept_before kept answer
  pub status_is : status ≡ Done

-- the response is no success: it is printed whole, and nothing is written to the file.
pub record IsNotKept (shown : Shown) (code : ℕ) (answer : List ℕ) (before after kept_before kept : Option (List ℕ)) (status : Status) : Type 0 where
  pub other : (code / 32 ≡ 2) → ⊥
  pub printed : IsPrinted shown code answer before after status
  pub same : kept ≡ kept_before

abbrev pub IsKeptOrPrinted : Shown → ℕ → List ℕ → Option (List ℕ) → Option (List ℕ) → Option (List ℕ) → Option (List ℕ) → Status → Type 0
IsKeptOrPrinted shown code answer before after kept_before kept status =
    IsKept code answer before after kept_before kept status ⊎ IsNotKept shown code answer before after kept_before kept status

-- ---- statuses of a bad command line or a failure

abbrev pub address_status : AddressError → Status
address_status address_error.NoMemory = Failed
address_status other = Bad

abbrev pub path_status : PathError → Status
path_status path_error.NoMemory = Failed
path_status other = Bad

abbrev pub stop_status : FetchStop → Status
stop_status (stop.Address error) = address_status error
stop_status (stop.Path error) = path_status error
stop_status stop.Argument = Bad
stop_status stop.Room = Bad
stop_status stop.Resource = Bad
stop_status other = Failed

-- the random bytes can't be drawn.
abbrev pub IsOfRandom : FetchStop → Type 0
IsOfRandom (stop.Random error) = Unit {0}
IsOfRandom other = ⊥

-- the client can't connect to the server.
abbrev pub IsUnconnected : FetchFault → Type 0
IsUnconnected (fault.Socket error) = Unit {0}
IsUnconnected other = ⊥

abbrev pub IsOfConnecting : FetchStop → Type 0
IsOfConnecting (stop.Fault f) = IsUnconnected f
IsOfConnecting other = ⊥

-- a client stops for one of these reasons. Its status is the reason's, or `Failed` if the reason
-- can't be written.
pub record HasStopped (Stops : FetchStop → Type 0) (status : Status) : Type 0 where
  pub reason : FetchStop
  pub stops : Stops reason
  pub status_is : IsEnding (stop_status reason) status

-- ---- the request

-- the client request has the options' method, message type and Content-Format, with this resource
-- and body.
pub record IsAsking (asking : FetchOptions) (target : RequestTarget) (body : List ℕ) (e : ClientRequest) : Type 0 where
  pub confirmable : e.confirmable ≡ asking.confirmable
  pub method : e.method ≡ asking.method
  pub target_is : e.target ≡ target
  pub body_is : e.payload.now ≡ body
  pub format_is : e.content_format ≡ asking.content_format

-- a fetch with these options, resource and body ended with this response. The message IDs begin
-- with `first`.
pub record IsFetchedBy (went came : List ℕ → Type 0) (before after : List PeerCall → Type 0) (asking : FetchOptions) (target : RequestTarget) (body : List ℕ) (first code : ℕ)
    (answer : List ℕ) : Type 0 where
  pub client_request : ClientRequest
  pub asks : IsAsking asking target body client_request
  pub fetched : IsFetched went came before after client_request first code answer
  pub whole : SendsWhole went client_request code

-- a fetch with these options, resource and body failed with this fault.
pub record IsFaultOf (went came : List ℕ → Type 0) (is_error : PeerError → Type 0) (Makes : (List PeerCall → Type 0) → Type 0) (asking : FetchOptions) (target : RequestTarget)
    (body : List ℕ) (first : ℕ) (fault : FetchFault) : Type 0 where
  pub client_request : ClientRequest
  pub asks : IsAsking asking target body client_request
  pub stops : IsFetchFault went came is_error Makes client_request first fault

-- the request doesn't fit in a datagram, and no call is made.
pub record HasNoRoom (Makes : (List PeerCall → Type 0) → Type 0) (method : Method) (target : RequestTarget) (body : List ℕ) : Type 0 where
  pub unfit : FitsDatagrams method (slices_in target.path.segments.items) (slices_in target.query.items) body → ⊥
  pub called : Makes (λ calls. calls ≡ [])

-- a client with these options got this response. The client connected to the server at its target's
-- address, and requested the target's resource. The body is the input's bytes if they are known.
-- The first message ID was drawn.
pub record IsAnswerTo {S : Type 0} (connected : S → SocketAddrV4 → Type 0) (drawn went came : List ℕ → Type 0) (called : S → List PeerCall → Type 0) (asking : FetchOptions)
    (input : Option (List ℕ)) (code : ℕ) (answer : List ℕ) : Type 0 where
  pub address : Address
  pub address_is : IsAddress asking.target.now asking.port address
  pub target : RequestTarget
  pub target_is : IsResourceOf address target
  pub body : List ℕ
  pub body_is : IfSome input (λ bytes. body ≡ bytes)
  pub id : ℕ
  pub id_is : IsDrawnId drawn id
  pub opened : S
  pub opened_is : connected opened address.server
  pub ended : S
  pub fetched : IsFetchedBy went came (called opened) (called ended) asking target body id code answer

-- ---- the reasons for no response

-- the address names no resource.
abbrev pub NamesNoResource : Address → FetchStop → Type 0
NamesNoResource a (stop.Path error) = IsNoResource a (resource_error.Path error)
NamesNoResource a stop.Argument = IsNoResource a resource_error.Argument
NamesNoResource a (stop.Memory error) = IsNoResource a resource_error.NoMemory
NamesNoResource a other = ⊥

pub record NamesNothing (text : List ℕ) (port : Option ℕ) (reason : FetchStop) : Type 0 where
  pub address : Address
  pub address_is : IsAddress text port address
  pub none : NamesNoResource address reason

-- the reason why a target has no resource: it is no address, or its address names no resource.
abbrev pub IsTargetStop : List ℕ → Option ℕ → FetchStop → Type 0
IsTargetStop text port (stop.Address error) = IsNoAddress text port error
IsTargetStop text port other = NamesNothing text port other

-- a target has an address that names a resource.
pub record HasResource (text : List ℕ) (port : Option ℕ) : Type 0 where
  pub address : Address
  pub address_is : IsAddress text port address
  pub target : RequestTarget
  pub target_is : IsResourceOf address target

-- the body can't be read from its source.
abbrev pub IsOfInput : List ℕ → FetchStop → Type 0
IsOfInput source (stop.Input name error) = name.now ≡ source
IsOfInput source other = ⊥

-- the client connected to the server at the address, and the fetch of the resource failed.
pub record HasFailedAt {S : Type 0} (connected : S → SocketAddrV4 → Type 0) (went came : List ℕ → Type 0) (is_error : PeerError → Type 0) (called : S → List PeerCall → Type 0) (asking : FetchOptions)
    (target : RequestTarget) (body : List ℕ) (id : ℕ) (server : SocketAddrV4) (f : FetchFault) : Type 0 where
  pub opened : S
  pub opened_is : connected opened server
  pub ended : S
  pub fails : IsFaultOf went came is_error (MakesCalls (called opened) (called ended)) asking target body id f

-- the fetch of the target's resource failed with this fault, or the client couldn't connect.
pub record IsAskedInVain {S : Type 0} (connected : S → SocketAddrV4 → Type 0) (drawn went came : List ℕ → Type 0) (is_error : PeerError → Type 0) (called : S → List PeerCall → Type 0)
    (asking : FetchOptions) (input : Option (List ℕ)) (f : FetchFault) : Type 0 where
  pub resource : HasResource asking.target.now asking.port
  pub body : List ℕ
  pub body_is : IfSome input (λ bytes. body ≡ bytes)
  pub id : ℕ
  pub id_is : IsDrawnId drawn id
  pub fails : IsUnconnected f ⊎ HasFailedAt connected went came is_error called asking resource.target body id resource.address.server f

-- the client connected to the server at the target's address. The request doesn't fit in a
-- datagram, and no call was made to the server.
pub record IsWithoutRoom {S : Type 0} (connected : S → SocketAddrV4 → Type 0) (called : S → List PeerCall → Type 0) (asking : FetchOptions) (input : Option (List ℕ)) : Type 0 where
  pub resource : HasResource asking.target.now asking.port
  pub body : List ℕ
  pub body_is : IfSome input (λ bytes. body ≡ bytes)
  pub opened : S
  pub opened_is : connected opened resource.address.server
  pub ended : S
  pub room : HasNoRoom (MakesCalls (called opened) (called ended)) asking.method resource.target body

-- the reason why a client with these options has no response. Its target names no resource; the
-- input can't be read; random bytes can't be drawn; the request doesn't fit in a datagram; or the
-- fetch failed.
abbrev pub IsFetchStop : {S : Type 0} → (S → SocketAddrV4 → Type 0) → (List ℕ → Type 0) → (List ℕ → Type 0) → (List ℕ → Type 0) → (PeerError → Type 0) → (S → List PeerCall → Type 0)
    → FetchOptions → Option (List ℕ) → FetchStop → Type 0
IsFetchStop connected drawn went came is_error called asking input (stop.Input name error) = (name.now ≡ asking.source.now) × HasResource asking.target.now asking.port
IsFetchStop connected drawn went came is_error called asking input (stop.Random error) = HasResource asking.target.now asking.port
IsFetchStop connected drawn went came is_error called asking input (stop.Fault f) = IsAskedInVain connected drawn went came is_error called asking input f
IsFetchStop connected drawn went came is_error called asking input stop.Room = IsWithoutRoom connected called asking input
IsFetchStop connected drawn went came is_error called asking input other = IsTargetStop asking.target.now asking.port other

-- ---- statuses

-- a response for which `Has` holds came, and was printed.
pub record IsAnswerShown (Has : ℕ → List ℕ → Type 0) (shown : Shown) (before after : Option (List ℕ)) (status : Status) : Type 0 where
  pub code : ℕ
  pub answer : List ℕ
  pub has : Has code answer
  pub printed : IsPrinted shown code answer before after status

-- a response for which `Has` holds came. Its bytes were written to a file, or it was printed.
pub record IsAnswerKept (Has : ℕ → List ℕ → Type 0) (shown : Shown) (before after kept_before kept : Option (List ℕ)) (status : Status) : Type 0 where
  pub code : ℕ
  pub answer : List ℕ
  pub has : Has code answer
  pub is : IsKeptOrPrinted shown code answer before after kept_before kept status

-- a response for which `Has` holds came, but couldn't be written.
pub record IsUnprinted (Has : ℕ → List ℕ → Type 0) (status : Status) : Type 0 where
  pub code : ℕ
  pub answer : List ℕ
  pub has : Has code answer
  pub status_is : status ≡ Failed

-- no response came, for one of these reasons; or a response came, but couldn't be written.
abbrev pub IsUnanswered : (ℕ → List ℕ → Type 0) → (FetchStop → Type 0) → Status → Type 0
IsUnanswered Has Stops status = HasStopped Stops status ⊎ IsUnprinted Has status

abbrev pub IsAnswered : (ℕ → List ℕ → Type 0) → (FetchStop → Type 0) → Shown → Option (List ℕ) → Option (List ℕ) → Status → Type 0
IsAnswered Has Stops shown before after status = IsAnswerShown Has shown before after status ⊎ IsUnanswered Has Stops status

abbrev pub IsAnsweredTo : (ℕ → List ℕ → Type 0) → (FetchStop → Type 0) → Shown → Option (List ℕ) → Option (List ℕ) → Option (List ℕ) → Option (List ℕ) → Status → Type 0
IsAnsweredTo Has Stops shown before after kept_before kept status = IsAnswerKept Has shown before after kept_before kept status ⊎ IsUnanswered Has Stops status
