-- The output of an observer, and its status.
use Rattle.std.specs.Prelude.{◌≡◌, ℕ, ◌+◌, ◌-◌, ◌*◌, ◌/◌, ◌<◌, ◌≤◌, ◌^◌, ◌⊎◌, ◌++◌, max, Bool, true, false, List, [], ◌∷◌, length, take, Ok, Option, Some, None, is_none, is_some, codes, if◌then◌else◌}
use Rattle.std.specs.List.{All}
use Rattle.std.specs.Io.KnownBytes.{Appends}
use Rattle.coap_observer.specs.ObserverFaults.{EndsOnNotification, IsLeavingFault, IsNewState, IsRegistrationFault, UnfitCame, deregistration_of, registration_of}
use Rattle.coap_client.specs.Faults.{IsRejection, IsSilence}
use Rattle.coap_observer.specs.Notes.{AreNotes, HasArrived, HasDeregistered, IsNextNote, IsResponseWith, IsWatching, Note, TellsObserver, Watches}
use Rattle.coap_observer.specs.Notices.{is_unobserved, notice_of, observe_request}
use Rattle.coap_observer.specs.ObserverCalls.{IsDatedRegistration, IsDeregistration, IsObserving}
use Rattle.coap_client.specs.PeerCalls.{PeerCall, PeerError, Reads, Receives, Waits}
use Rattle.coap_observer.specs.Completions.{AreOutcomes, BlockOutcome, IsFollowing, IsStateEnd, Missing, StateEnd, Superseded, state_from}
use Rattle.coap_client.specs.Fetching.{State}
use Rattle.coap_observer.specs.Representations.{IsFollowingFault, begun}
use Rattle.coap_observer.specs.declared.joining.Unfetched.{Unfetched}
use Rattle.coap_client.specs.Schedules.{schedule}
use Rattle.coap_client.specs.Transmissions.{AreBehind}
use Rattle.coap_observer.specs.declared.notice.ObserveOption.TheVariants.{Register}
use Rattle.coap_observer.specs.declared.notice.NotificationClass.{NotificationClass}
use Rattle.coap_observer.specs.declared.notice.NotificationClass.TheVariants as notice
use Rattle.coap_observer.specs.declared.observing.NotedMessage.{NotedMessage}
use Rattle.coap_observer.specs.declared.observing.Observer.{Observer}
use Rattle.coap_observer.specs.declared.watch.Observation.{Observation}
use Rattle.coap_msg.specs.Reading.{reading_of}
use Rattle.coap_msg.specs.Wire.{Message, message_bytes}
use Rattle.fc_cli.specs.declared.status.Status.{Status}
use Rattle.fc_cli.specs.declared.status.Status.TheVariants.{Done, Refused, Failed}
use Rattle.coap_client.specs.Parts.{FitsDatagrams}
use Rattle.coap_client.specs.Paths.{slices_in}
use Rattle.coap_opts.specs.declared.request.Method.TheVariants.{Get}
use Rattle.fc_fetch.specs.declared.client.FetchStop.{FetchStop}
use Rattle.fc_fetch.specs.declared.client.FetchStop.TheVariants as stop
use Rattle.coap_client.specs.declared.fetcher.FetchFault.{FetchFault}
use Rattle.coap_client.specs.declared.fetcher.FetchFault.TheVariants as fault
use Rattle.std.specs.declared.net.socket_addr.SocketAddrV4.{SocketAddrV4}
use Rattle.coap_client.specs.Transmissions.{MakesCalls}
use Rattle.coap_client.specs.declared.client_request.ClientRequest.{ClientRequest}
use Rattle.coap_uri.specs.Addresses.{IsAddress}
use Rattle.fc_fetch.specs.Connecting.{IsDrawnId}
use Rattle.coap_uri.specs.Resources.{IsResourceOf}
use Rattle.coap_uri.specs.declared.address.Address.{Address}
use Rattle.fc_fetch.specs.declared.observer.Observing.{Observing}
use Rattle.fc_fetch.specs.declared.observer.NotesError.{NotesError}
use Rattle.fc_fetch.specs.declared.observer.NotesError.TheVariants as notes_error
use Rattle.fc_fetch.specs.declared.observer.ObservationEnd.{ObservationEnd}
use Rattle.fc_fetch.specs.declared.observer.ObservationEnd.TheVariants.{Counted, Over, Last}
use Rattle.fc_fetch.specs.declared.observer.First.{First}
use Rattle.fc_fetch.specs.declared.observer.First.TheVariants as first
use Rattle.fc_fetch.specs.declared.printer.Shown.{Shown}
use Rattle.fc_fetch.specs.declared.rendering.Rendered.{Rendered}
use Rattle.fc_fetch.specs.declared.rendering.Rendered.TheVariants as rendered
use Rattle.coap_client.specs.Replies.{is_success}
use Rattle.fc_fetch.specs.Fetching.{HasResource, HasStopped, IsTargetStop, IsUnconnected, ended_line}
use Rattle.fc_fetch.specs.Rendering.{AreRendered, BeginsAt, Blocks, RenderedNote, Rendering, SucceedsNotes, Whole, Written, errors_text, has_further, has_line, id_after_note, ids_after, is_superseded, lines_in, note_text, notes_of, notes_text, rendered_error, rendered_text}

-- the maximum number of lines: the number wanted, or one if that is 0; without a number, 2^64 - 1.
abbrev pub lines_wanted : Option ℕ → ℕ
lines_wanted None = 18446744073709551615
lines_wanted (Some count) = max count 1

abbrev pub IsState : NotificationClass → Type 0
IsState (notice.State sequence) = Unit {0}
IsState other = ⊥

-- the way in which the observation ends. Either as many lines were printed as are wanted, the last
-- of them for the latest state; or the time is over before that; or the latest has this code, it
-- was printed, and none follows it.
abbrev pub IsEnd : ℕ → ObservationEnd → RenderedNote → List RenderedNote → Type 0
IsEnd limit Counted latest older = (lines_in (latest ∷ older) ≡ limit) × (IsState (notice_of latest.note.message) × (has_line latest.rendering ≡ true))
IsEnd limit Over latest older = (lines_in (latest ∷ older) < limit) × IsState (notice_of latest.note.message)
IsEnd limit (Last code) latest older =
    (lines_in (latest ∷ older) ≤ limit) × ((latest.note.message.code ≡ code.byte) × ((notice_of latest.note.message ≡ notice.Last) × (latest.rendering ≡ Whole)))

-- ---- waits

-- the call begins a wait of a day, 86,400 s. A wait without an end consists of such waits.
abbrev pub is_day : PeerCall → Type 0
is_day call = call ≡ Waits 86400

-- the length of the first wait, in seconds.
abbrev pub first_wait : Option ℕ → ℕ
first_wait None = 86400
first_wait (Some seconds) = seconds

-- if the time is limited, no further wait is begun; otherwise each further wait is of a day.
abbrev pub IsAwaitedIn : Bool → List PeerCall → Type 0
IsAwaitedIn true calls = schedule calls ≡ []
IsAwaitedIn false calls = All is_day (schedule calls)

-- the length of a wait that begins again at this time, in seconds: what is left of the seconds
-- since the start, rounded up. Times are in milliseconds.
abbrev pub rest_wait : Option ℕ → ℕ → ℕ → ℕ
rest_wait None start now = 86400
rest_wait (Some seconds) start now = ((seconds * 1000 - (now - start)) + 999) / 1000

-- the clock is read, and the rest of the time begins again.
abbrev pub BeginsRest : Option ℕ → ℕ → ℕ → List PeerCall → Type 0
BeginsRest seconds start rest calls = (now : ℕ) × (rest ≡ rest_wait seconds start now) × (calls ≡ Waits rest ∷ Reads now ∷ [])

-- notifications are awaited, and no wait is begun except such days.
pub record IsAwaiting (token : List ℕ) (ends : Bool) (calls : List PeerCall) : Type 0 where
  pub observing : IsObserving token calls
  pub awaited : IsAwaitedIn ends calls

-- the further blocks of a state are requested until its end, and then the rest of the time begins
-- again.
pub record IsStateRequested (o : Observer) (seconds : Option ℕ) (start first : ℕ) (from : State) (outcomes : List BlockOutcome) (end : StateEnd) (calls : List PeerCall) : Type 0 where
  pub following : List PeerCall
  pub requested : IsFollowing o first from outcomes end following
  pub now : ℕ
  pub is : calls ≡ Waits (rest_wait seconds start now) ∷ Reads now ∷ following

-- the calls for a note: none if its message is whole.
abbrev pub IsRenderedBy : Observer → Option ℕ → ℕ → Message → Rendering → List PeerCall → Type 0
IsRenderedBy o seconds start m Whole calls = calls ≡ []
IsRenderedBy o seconds start m (Blocks first w outcomes end) calls = IsStateRequested o seconds start first (begun m) outcomes end calls

-- after a note has such a rendering, notifications are awaited. Nothing is called after a superseded
-- state, since the next note has arrived already.
abbrev pub IsAwaitingAfter : Observer → Option ℕ → Rendering → List PeerCall → Type 0
IsAwaitingAfter o seconds (Blocks first w outcomes (Superseded bytes time)) calls = calls ≡ []
IsAwaitingAfter o seconds other calls = IsAwaiting o.token (is_some seconds) calls

-- the oldest of these notes, the response to the registration, is a state.
abbrev pub BeginsWithState : List Note → Type 0
BeginsWithState [] = Unit {0}
BeginsWithState (n ∷ []) = IsState (notice_of n.message)
BeginsWithState (n ∷ m ∷ older) = BeginsWithState (m ∷ older)

-- after the calls for the earlier notes one more note is rendered, and then notifications are
-- awaited.
pub record IsOneMoreNote (Before : List PeerCall → Type 0) (earlier : List RenderedNote) (o : Observer) (seconds : Option ℕ) (start : ℕ) (r : RenderedNote) (calls : List PeerCall) : Type 0 where
  pub begins : BeginsWithState (r.note ∷ notes_of earlier)
  pub older : List PeerCall
  pub before : Before older
  pub own : List PeerCall
  pub rendered : IsRenderedBy o seconds start r.note.message r.rendering own
  pub handled : List PeerCall
  pub awaited : IsAwaitingAfter o seconds r.rendering handled
  pub is : calls ≡ handled ++ (own ++ older)

-- these notes are rendered, and after each of them notifications are awaited.
abbrev pub ObservesNotes : Observer → Option ℕ → ℕ → List RenderedNote → List PeerCall → Type 0
ObservesNotes o seconds start [] calls = calls ≡ []
ObservesNotes o seconds start (r ∷ rs) calls = IsOneMoreNote (ObservesNotes o seconds start rs) rs o seconds start r calls

-- the first wait is begun, and then these notes are observed.
pub record IsWaitedFor (o : Observer) (seconds : Option ℕ) (start : ℕ) (rs : List RenderedNote) (calls : List PeerCall) : Type 0 where
  pub handled : List PeerCall
  pub observed : ObservesNotes o seconds start rs handled
  pub is : calls ≡ handled ++ Waits (first_wait seconds) ∷ []

-- the wait is over: the last receive returned nothing, or at least 2^64 - 1 calls were made.
abbrev pub IsOverAtLast : List PeerCall → Type 0
IsOverAtLast calls = ((older : List PeerCall) × (calls ≡ Receives None ∷ older)) ⊎ (2 ^ 64 ≤ length calls + 1)

-- no time is left after the further blocks of a state were requested.
abbrev pub IsOverAtRest : List PeerCall → Type 0
IsOverAtRest calls = (now : ℕ) × (older : List PeerCall) × (calls ≡ Waits 0 ∷ Reads now ∷ older)

-- the time is over: the wait is over or, for a wait without an end, at least 2^64 - 1 waits of a
-- day were begun.
abbrev pub IsTimeOver : Option ℕ → List PeerCall → Type 0
IsTimeOver (Some seconds) calls = IsOverAtLast calls ⊎ IsOverAtRest calls
IsTimeOver None calls = 2 ^ 64 ≤ length (schedule calls) + 1

abbrev pub EndsInTime : Option ℕ → ObservationEnd → List PeerCall → Type 0
EndsInTime seconds Over calls = IsTimeOver seconds calls
EndsInTime seconds other calls = Unit {0}

-- the response to the registration is the last, and the only note.
abbrev pub IsAtFirst : ObservationEnd → List RenderedNote → Type 0
IsAtFirst (Last code) (r ∷ []) = notice_of r.note.message ≡ notice.Last
IsAtFirst end rs = ⊥

-- the observer registers. If the response is a state, it observes these notes for that time; nothing
-- is called after a first response that is the last.
pub record IsTimedObservation (o : Observer) (seconds : Option ℕ) (end : ObservationEnd) (rs : List RenderedNote) (calls : List PeerCall) : Type 0 where
  pub older : List PeerCall
  pub registered : IsDatedRegistration o older
  pub newer : List PeerCall
  pub waited : (IsAtFirst end rs × (newer ≡ [])) ⊎ IsWaitedFor o seconds registered.time rs newer
  pub ends : EndsInTime seconds end newer
  pub is : calls ≡ newer ++ older

-- the deregistration was sent and acknowledged, if the server would send further notifications.
abbrev pub HasLeft : (List ℕ → Type 0) → (List ℕ → Type 0) → Observer → ObservationEnd → Type 0
HasLeft went came o (Last code) = Unit {0}
HasLeft went came o other = HasDeregistered went came o

-- the calls of the deregistration; and, in the second, all calls from the registration on.
abbrev pub IsLeaving : Observer → ObservationEnd → List PeerCall → Type 0
IsLeaving o (Last code) calls = calls ≡ []
IsLeaving o other calls = IsDeregistration o calls

abbrev pub ObservesToEnd : Observer → Option ℕ → ObservationEnd → List RenderedNote → List PeerCall → Type 0
ObservesToEnd o seconds end rs calls = AreBehind (IsTimedObservation o seconds end rs) (IsLeaving o end) calls

-- the registration was sent, and these notes came, newest first. Each is newer than the one before
-- it, and is rendered once.
pub record HasRendered (went came : List ℕ → Type 0) (told : ℕ → Type 0) (o : Observer) (shown : Shown) (before after : Written) (rs : List RenderedNote) : Type 0 where
  pub asked : went (message_bytes (observe_request o.client_request.now Register o.token o.id))
  pub are : AreNotes went came told o.token o.id (notes_of rs)
  pub rendered : AreRendered went came told o rs
  pub printed : Appends before.out after.out (notes_text shown rs)
  pub reported : Appends before.err after.err (errors_text rs)

-- the response to the registration and the notifications after it were rendered, to this end, and
-- the calls for these notes were made.
pub record HasShown (went came : List ℕ → Type 0) (told : ℕ → Type 0) (Called : List RenderedNote → Type 0) (o : Observer) (shown : Shown) (limit : ℕ) (before after : Written)
    (end : ObservationEnd) : Type 0 where
  pub latest : RenderedNote
  pub older : List RenderedNote
  pub so_far : HasRendered went came told o shown before after (latest ∷ older)
  pub ends : IsEnd limit end latest older
  pub called : Called (latest ∷ older)

-- the line on standard error for a last response that is a success without a sequence number.
abbrev pub unobserved_text : List ℕ
unobserved_text = ended_line (codes "the answer has no Observe: the server doesn't notify of changes, or has no place for another observer")

-- the status after a last response of this class: `Refused`. A success has no sequence number,
-- which is reported on standard error; if that fails, the status is `Failed`.
abbrev pub IsRefusedEnd : Bool → Option (List ℕ) → Option (List ℕ) → Status → Type 0
IsRefusedEnd true before after status = ((status ≡ Refused) × Appends before after unobserved_text) ⊎ (status ≡ Failed)
IsRefusedEnd false before after status = (status ≡ Refused) × (after ≡ before)

-- the status after the end, and the bytes that standard error got last.
abbrev pub IsToldEnd : ObservationEnd → Option (List ℕ) → Option (List ℕ) → Status → Type 0
IsToldEnd (Last code) before after status = IsRefusedEnd (is_success code.byte) before after status
IsToldEnd other before after status = (status ≡ Done) × (after ≡ before)

-- ---- from the target on

-- an observer of a client request observed at the server of this address, and ended in this way.
-- Its token and message ID were drawn, and the client connected to that server.
pub record IsObservedAt {S : Type 0} (connected : S → SocketAddrV4 → Type 0) (drawn went came : List ℕ → Type 0) (told : ℕ → Type 0) (called : S → List PeerCall → Type 0) (observing : Observing)
    (e : ClientRequest) (server : SocketAddrV4) (before after : Written) (end : ObservationEnd) : Type 0 where
  pub observer : Observer
  pub client_request_is : observer.client_request.now ≡ e
  pub token_is : drawn observer.token
  pub id_is : IsDrawnId drawn observer.id
  pub opened : S
  pub opened_is : connected opened server
  pub ended : S
  pub shown : HasShown went came told (λ rs. MakesCalls (called opened) (called ended) (ObservesToEnd observer observing.extent.seconds end rs)) observer observing.shown
      (lines_wanted observing.extent.count) before after end
  pub left : HasLeft went came observer end

-- the target's resource was observed in this way.
pub record IsObservedIn {S : Type 0} (connected : S → SocketAddrV4 → Type 0) (drawn went came : List ℕ → Type 0) (told : ℕ → Type 0) (called : S → List PeerCall → Type 0) (observing : Observing)
    (before after : Written) (end : ObservationEnd) : Type 0 where
  pub address : Address
  pub address_is : IsAddress observing.target.now observing.port address
  pub client_request : ClientRequest
  pub target_is : IsResourceOf address client_request.target
  pub observed : IsObservedAt connected drawn went came told called observing client_request address.server before after end

-- the program observed to this end, which determines the program's status. Standard error has the
-- lines of states whose further blocks can't be fetched, and then that of the last response.
pub record HasObservedTo (Ends : Option (List ℕ) → ObservationEnd → Type 0) (err : Option (List ℕ)) (status : Status) : Type 0 where
  pub end : ObservationEnd
  pub reported : Option (List ℕ)
  pub ends : Ends reported end
  pub told_is : IsToldEnd end reported err status

abbrev pub IsObserved : {S : Type 0} → (S → SocketAddrV4 → Type 0) → (List ℕ → Type 0) → (List ℕ → Type 0) → (List ℕ → Type 0) → (ℕ → Type 0) → (S → List PeerCall → Type 0) → Observing
    → Written → Written → Status → Type 0
IsObserved connected drawn went came told called observing before after =
    HasObservedTo (λ err. IsObservedIn connected drawn went came told called observing before (record { out = after.out; err = err })) after.err

-- or it stops for such a reason.
abbrev pub HasEnded : (Status → Type 0) → (FetchStop → Type 0) → Status → Type 0
HasEnded Ends Stops status = Ends status ⊎ HasStopped Stops status

-- ---- failures

-- the registration was rejected, or got no response: the server doesn't have the observer.
abbrev pub IsUnregistered : ((List PeerCall → Type 0) → Type 0) → Observer → Type 0
IsUnregistered Makes o = Makes (IsRejection true (TellsObserver o.token o.id) (registration_of o)) ⊎ Makes (IsSilence true (TellsObserver o.token o.id) (registration_of o))

-- from some state of the peer on, the observer deregistered: its request was sent until it was
-- acknowledged, or until the deregistration failed.
pub record DeregistersFrom {S : Type 0} (called : S → List PeerCall → Type 0) (is_error : PeerError → Type 0) (o : Observer) (after : S) : Type 0 where
  pub from : S
  pub ends : MakesCalls (called from) (called after) (IsDeregistration o) ⊎ ((f : FetchFault) × IsLeavingFault is_error (MakesCalls (called from) (called after)) o f)

-- the deregistration was passed to the peer and sent by its schedule, unless nothing was called, or
-- the server doesn't have the observer.
abbrev pub LeavesAtFault : {S : Type 0} → (S → List PeerCall → Type 0) → (PeerError → Type 0) → (List ℕ → Type 0) → S → S → Observer → Type 0
LeavesAtFault called is_error tried before after o =
    (tried (deregistration_of o) × DeregistersFrom called is_error o after)
    ⊎ (MakesCalls (called before) (called after) (λ calls. calls ≡ []) ⊎ IsUnregistered (MakesCalls (called before) (called after)) o)

-- a server may have the observer after this error, unless the server rejected the registration or
-- no response to the registration came.
abbrev pub may_notify : NotesError → Bool
may_notify (notes_error.Fault fault.Silence) = false
may_notify (notes_error.Fault fault.Rejected) = false
may_notify other = true

-- the time is over during the wait for the next note.
abbrev pub IsOverIn : Bool → List PeerCall → Type 0
IsOverIn true calls = IsOverAtLast calls
IsOverIn false calls = 2 ^ 64 ≤ length (schedule calls) + 1

pub record AwaitsNote (token : List ℕ) (ends none : Bool) (calls : List PeerCall) : Type 0 where
  pub observing : IsObserving token calls
  pub awaited : IsAwaitedIn ends calls
  pub over : none ≡ true → IsOverIn ends calls

-- the observation so far: the observer registered, and observed these notes.
abbrev pub IsObservedSoFar : Observer → Option ℕ → List RenderedNote → List PeerCall → Type 0
IsObservedSoFar o seconds = IsTimedObservation o seconds Counted

-- during the wait for the next note, the message that came last is a notification of this
-- classification.
abbrev pub AwaitsUntil : (ℕ → Type 0) → List ℕ → Bool → Observation → (NotificationClass → Type 0) → List PeerCall → Type 0
AwaitsUntil told token ends w P = AreBehind (AwaitsNote token ends false) (EndsOnNotification told token w P)

-- the wait for the next note failed. The notification that came last can't be shown; or it is a
-- newer state, and memory for its mark can't be allocated; or the peer returned an error.
abbrev pub IsAwaitFault : (List ℕ → Type 0) → (ℕ → Type 0) → (PeerError → Type 0) → ((List PeerCall → Type 0) → Type 0) → Observer → Bool → Observation → FetchFault → Type 0
IsAwaitFault came told is_error Makes o ends w fault.Part = UnfitCame came o.token o.id × Makes (AwaitsUntil told o.token ends w (λ n. n ≡ notice.Malformed))
IsAwaitFault came told is_error Makes o ends w (fault.Memory error) = Makes (AwaitsUntil told o.token ends w IsNewState)
IsAwaitFault came told is_error Makes o ends w (fault.Socket error) = is_error error
IsAwaitFault came told is_error Makes o ends w other = ⊥

-- the notes so far were rendered with such calls, and then a notification came last that has this
-- classification. No other notification is left, since none superseded the latest state.
pub record IsStoppedBy (went came : List ℕ → Type 0) (told : ℕ → Type 0) (Makes : (List PeerCall → Type 0) → Type 0) (o : Observer) (SoFar : List RenderedNote → List PeerCall → Type 0)
    (P : NotificationClass → Type 0) : Type 0 where
  pub latest : RenderedNote
  pub older : List RenderedNote
  pub rendered : AreRendered went came told o (latest ∷ older)
  pub unsuperseded : is_superseded latest.rendering ≡ false
  pub w : Observation
  pub watching : IsWatching went came told o.token o.id latest.note (notes_of older) w
  pub called : Makes (AreBehind (SoFar (latest ∷ older)) (EndsOnNotification told o.token w P))

-- the response to the registration came last, and it is a state.
pub record IsStoppedByFirst (came : List ℕ → Type 0) (Makes : (List PeerCall → Type 0) → Type 0) (o : Observer) : Type 0 where
  pub bytes : List ℕ
  pub came_is : HasArrived came (λ m. IsResponseWith o.token o.id m × IsState (notice_of m)) bytes
  pub called : Makes (IsDatedRegistration o)

-- the error for a response to the registration that can't be shown: a response of several blocks
-- without a sequence number has its own error.
abbrev pub unfit_error : Message → NotesError
unfit_error m = if is_unobserved m then notes_error.Unobserved else notes_error.Fault fault.Part

-- the response to the registration came last, and it can't be shown, for this reason.
pub record IsStoppedByUnfit (came : List ℕ → Type 0) (Makes : (List PeerCall → Type 0) → Type 0) (o : Observer) (error : NotesError) : Type 0 where
  pub unfit : UnfitCame came o.token o.id
  pub error_is : unfit_error unfit.message ≡ error
  pub called : Makes (IsDatedRegistration o)

-- the first line failed: the registration failed, the response can't be shown, memory for its mark
-- can't be allocated, its line can't be printed, or the peer returned an error. If memory for the
-- registration can't be allocated, nothing was called.
abbrev pub IsFirstFault : (List ℕ → Type 0) → (PeerError → Type 0) → ((List PeerCall → Type 0) → Type 0) → Observer → NotesError → Type 0
IsFirstFault came is_error Makes o (notes_error.Fault fault.Part) = IsStoppedByUnfit came Makes o (notes_error.Fault fault.Part)
IsFirstFault came is_error Makes o (notes_error.Fault f) = IsRegistrationFault is_error Makes o f
IsFirstFault came is_error Makes o notes_error.Unobserved = IsStoppedByUnfit came Makes o notes_error.Unobserved
IsFirstFault came is_error Makes o (notes_error.Print error) = Makes (IsDatedRegistration o)
IsFirstFault came is_error Makes o (notes_error.Report error) = ⊥
IsFirstFault came is_error Makes o (notes_error.Memory error) = IsStoppedByFirst came Makes o

-- the wait for a note failed: a notification can't be shown, memory for its mark can't be
-- allocated, or the peer returned an error.
abbrev pub IsStoppedWaiting : (List ℕ → Type 0) → (List ℕ → Type 0) → (ℕ → Type 0) → (PeerError → Type 0) → ((List PeerCall → Type 0) → Type 0) → Observer → (List RenderedNote → List PeerCall → Type 0) → FetchFault → Type 0
IsStoppedWaiting went came told is_error Makes o SoFar fault.Part = UnfitCame came o.token o.id × IsStoppedBy went came told Makes o SoFar (λ n. n ≡ notice.Malformed)
IsStoppedWaiting went came told is_error Makes o SoFar (fault.Memory error) = IsStoppedBy went came told Makes o SoFar IsNewState
IsStoppedWaiting went came told is_error Makes o SoFar (fault.Socket error) = is_error error
IsStoppedWaiting went came told is_error Makes o SoFar other = ⊥

-- the requests for the further blocks of the latest note failed, or memory for its first block
-- can't be allocated. They were begun in some state of the peer, after the notes before. If the note
-- before was superseded, the latest note is the one that superseded it.
pub record IsStoppedJoining {S : Type 0} (went came : List ℕ → Type 0) (told : ℕ → Type 0) (is_error : PeerError → Type 0) (called : S → List PeerCall → Type 0) (before : S) (o : Observer)
    (SoFar : List RenderedNote → List PeerCall → Type 0) (f : FetchFault) : Type 0 where
  pub at : S
  pub latest : Note
  pub older : List RenderedNote
  pub rendered : AreRendered went came told o older
  pub succeeds : SucceedsNotes older latest
  pub w : Observation
  pub watching : IsWatching went came told o.token o.id latest (notes_of older) w
  pub further : has_further latest.message ≡ true
  pub called_is : MakesCalls (called before) (called at) (SoFar older)
  pub fails : IsFollowingFault came is_error o.token f

-- the line for the latest note can't be written. The note has such a rendering, and the notes so
-- far have these calls.
pub record IsStoppedWriting (went came : List ℕ → Type 0) (told : ℕ → Type 0) (Makes : (List PeerCall → Type 0) → Type 0) (o : Observer) (SoFar : List RenderedNote → List PeerCall → Type 0)
    (P : Rendering → Type 0) : Type 0 where
  pub latest : RenderedNote
  pub older : List RenderedNote
  pub are : AreNotes went came told o.token o.id (notes_of (latest ∷ older))
  pub rendered : AreRendered went came told o (latest ∷ older)
  pub line : P latest.rendering
  pub called : Makes (SoFar (latest ∷ older))

-- a state of several blocks ends so.
abbrev pub EndsStateBy : StateEnd → Rendering → Type 0
EndsStateBy end Whole = ⊥
EndsStateBy end (Blocks first w outcomes other) = other ≡ end

-- its further blocks can't be fetched.
abbrev pub IsMissingState : Rendering → Type 0
IsMissingState r = (cause : Unfetched) × EndsStateBy (Missing cause) r

-- a later note failed, after such calls: the wait for it or the requests for its further blocks
-- failed; its line can't be printed; or its further blocks can't be fetched, and the line on
-- standard error can't be written.
abbrev pub IsLaterFault : {S : Type 0} → (List ℕ → Type 0) → (List ℕ → Type 0) → (ℕ → Type 0) → (PeerError → Type 0) → (S → List PeerCall → Type 0) → S → S → Observer → (List RenderedNote → List PeerCall → Type 0) → NotesError → Type 0
IsLaterFault went came told is_error called before after o SoFar (notes_error.Fault f) =
    IsStoppedWaiting went came told is_error (MakesCalls (called before) (called after)) o SoFar f ⊎ IsStoppedJoining went came told is_error called before o SoFar f
IsLaterFault went came told is_error called before after o SoFar notes_error.Unobserved = ⊥
IsLaterFault went came told is_error called before after o SoFar (notes_error.Print error) =
    IsStoppedWriting went came told (MakesCalls (called before) (called after)) o SoFar (λ r. has_line r ≡ true)
IsLaterFault went came told is_error called before after o SoFar (notes_error.Report error) =
    IsStoppedWriting went came told (MakesCalls (called before) (called after)) o SoFar IsMissingState
IsLaterFault went came told is_error called before after o SoFar (notes_error.Memory error) = ⊥

abbrev pub IsNotesFault : {S : Type 0} → (List ℕ → Type 0) → (List ℕ → Type 0) → (ℕ → Type 0) → (PeerError → Type 0) → (S → List PeerCall → Type 0) → S → S → Observer → Option ℕ → NotesError → Type 0
IsNotesFault went came told is_error called before after o seconds e =
    IsFirstFault came is_error (MakesCalls (called before) (called after)) o e ⊎ IsLaterFault went came told is_error called before after o (IsObservedSoFar o seconds) e

-- the observation ended, and its deregistration failed with this fault.
pub record IsLeftInVain (is_error : PeerError → Type 0) (Makes : (List PeerCall → Type 0) → Type 0) (o : Observer) (seconds : Option ℕ) (f : FetchFault) : Type 0 where
  pub end : ObservationEnd
  pub rs : List RenderedNote
  pub fails : IsLeavingFault is_error (λ Calls. Makes (AreBehind (IsTimedObservation o seconds end rs) Calls)) o f

-- printing notes failed in some state of the peer.
pub record IsFailedIn {S : Type 0} (went came : List ℕ → Type 0) (told : ℕ → Type 0) (is_error : PeerError → Type 0) (called : S → List PeerCall → Type 0) (before : S) (o : Observer)
    (seconds : Option ℕ) (e : NotesError) : Type 0 where
  pub at : S
  pub fails : IsNotesFault went came told is_error called before at o seconds e

-- memory for the deregistration can't be allocated, and nothing was called, since its request is
-- written first; or the deregistration failed.
abbrev pub IsLeavingError : (PeerError → Type 0) → ((List PeerCall → Type 0) → Type 0) → Observer → Option ℕ → NotesError → Type 0
IsLeavingError is_error Makes o seconds (notes_error.Fault f) = IsLeftInVain is_error Makes o seconds f
IsLeavingError is_error Makes o seconds (notes_error.Memory error) = Makes (λ calls. calls ≡ [])
IsLeavingError is_error Makes o seconds notes_error.Unobserved = ⊥
IsLeavingError is_error Makes o seconds (notes_error.Print error) = ⊥
IsLeavingError is_error Makes o seconds (notes_error.Report error) = ⊥

abbrev pub IsEndFault : {S : Type 0} → (List ℕ → Type 0) → (List ℕ → Type 0) → (ℕ → Type 0) → (PeerError → Type 0) → (S → List PeerCall → Type 0) → S → S → Observer → Option ℕ → NotesError → Type 0
IsEndFault went came told is_error called before after o seconds e =
    IsFailedIn went came told is_error called before o seconds e ⊎ IsLeavingError is_error (MakesCalls (called before) (called after)) o seconds e

-- ---- the reasons to stop

-- the observer of a client request failed at the server that the client connected to, and
-- deregistered.
pub record IsObservedInVain {S : Type 0} (connected : S → SocketAddrV4 → Type 0) (drawn went came tried : List ℕ → Type 0) (told : ℕ → Type 0) (is_error : PeerError → Type 0) (called : S → List PeerCall → Type 0)
    (observing : Observing) (e : ClientRequest) (server : SocketAddrV4) (error : NotesError) : Type 0 where
  pub observer : Observer
  pub client_request_is : observer.client_request.now ≡ e
  pub token_is : drawn observer.token
  pub id_is : IsDrawnId drawn observer.id
  pub opened : S
  pub opened_is : connected opened server
  pub ended : S
  pub fails : IsEndFault went came told is_error called opened ended observer observing.extent.seconds error
  pub leaves : LeavesAtFault called is_error tried opened ended observer

-- the observer failed in this way; or there are no random bytes, or the client can't connect.
abbrev pub IsClientRequestStop : {S : Type 0} → (S → SocketAddrV4 → Type 0) → (List ℕ → Type 0) → (List ℕ → Type 0) → (List ℕ → Type 0) → (List ℕ → Type 0) → (ℕ → Type 0) → (PeerError → Type 0) → (S → List PeerCall → Type 0) → Observing
    → ClientRequest → SocketAddrV4 → FetchStop → Type 0
IsClientRequestStop connected drawn went came tried told is_error called observing e server (stop.Random error) = Unit {0}
IsClientRequestStop connected drawn went came tried told is_error called observing e server (stop.Fault f) = IsUnconnected f
IsClientRequestStop connected drawn went came tried told is_error called observing e server (stop.Notes error) = IsObservedInVain connected drawn went came tried told is_error called observing e server error
IsClientRequestStop connected drawn went came tried told is_error called observing e server other = ⊥

-- the same for the client request of the target's resource.
pub record HasStoppedObserving {S : Type 0} (connected : S → SocketAddrV4 → Type 0) (drawn went came tried : List ℕ → Type 0) (told : ℕ → Type 0) (is_error : PeerError → Type 0) (called : S → List PeerCall → Type 0)
    (observing : Observing) (reason : FetchStop) : Type 0 where
  pub address : Address
  pub address_is : IsAddress observing.target.now observing.port address
  pub client_request : ClientRequest
  pub target_is : IsResourceOf address client_request.target
  pub stops : IsClientRequestStop connected drawn went came tried told is_error called observing client_request address.server reason

-- a GET of the resource doesn't fit in a datagram.
pub record HasNoRoomFor (observing : Observing) : Type 0 where
  pub resource : HasResource observing.target.now observing.port
  pub unfit : FitsDatagrams Get (slices_in resource.target.path.segments.items) (slices_in resource.target.query.items) [] → ⊥

-- the reason why an observation stops: one of these, or the target names no resource.
abbrev pub IsObserveStop : {S : Type 0} → (S → SocketAddrV4 → Type 0) → (List ℕ → Type 0) → (List ℕ → Type 0) → (List ℕ → Type 0) → (List ℕ → Type 0) → (ℕ → Type 0) → (PeerError → Type 0) → (S → List PeerCall → Type 0) → Observing
    → FetchStop → Type 0
IsObserveStop connected drawn went came tried told is_error called observing stop.Room = HasNoRoomFor observing
IsObserveStop connected drawn went came tried told is_error called observing (stop.Random error) = HasStoppedObserving connected drawn went came tried told is_error called observing (stop.Random error)
IsObserveStop connected drawn went came tried told is_error called observing (stop.Fault f) = HasStoppedObserving connected drawn went came tried told is_error called observing (stop.Fault f)
IsObserveStop connected drawn went came tried told is_error called observing (stop.Notes error) = HasStoppedObserving connected drawn went came tried told is_error called observing (stop.Notes error)
IsObserveStop connected drawn went came tried told is_error called observing other = IsTargetStop observing.target.now observing.port other

-- ---- steps

-- such calls were made for these notes, and this is the next message ID for a further block.
abbrev pub HasCalled : ((List PeerCall → Type 0) → Type 0) → Observer → ℕ → (List RenderedNote → List PeerCall → Type 0) → List RenderedNote → Type 0
HasCalled Makes o next Calls rs = Makes (Calls rs) × (ids_after o rs ≡ next)

-- the notes so far were rendered, with this number of lines, and the watch has them. The calls for
-- them were made.
pub record IsShowing (went came : List ℕ → Type 0) (told : ℕ → Type 0) (Called : List RenderedNote → Type 0) (o : Observer) (shown : Shown) (before now : Written) (lines : ℕ)
    (w : Observation) : Type 0 where
  pub latest : RenderedNote
  pub older : List RenderedNote
  pub so_far : HasRendered went came told o shown before now (latest ∷ older)
  pub watching : IsWatching went came told o.token o.id latest.note (notes_of older) w
  pub count : lines_in (latest ∷ older) ≡ lines
  pub called : Called (latest ∷ older)

-- a note that isn't rendered yet is the last one, or a state that the watch has.
abbrev pub IsPendingAs : (List ℕ → Type 0) → (List ℕ → Type 0) → (ℕ → Type 0) → Observer → Note → List Note → Observation → Bool → Type 0
IsPendingAs went came told o note older w true = notice_of note.message ≡ notice.Last
IsPendingAs went came told o note older w false = IsWatching went came told o.token o.id note older w

-- the notes so far were rendered, and the next one is at the start of the buffer.
pub record IsPending (went came : List ℕ → Type 0) (told : ℕ → Type 0) (Called : List RenderedNote → Type 0) (o : Observer) (shown : Shown) (before now : Written) (lines : ℕ) (w : Observation)
    (buffer : List ℕ) (noted : NotedMessage) : Type 0 where
  pub note : Note
  pub older : List RenderedNote
  pub are : AreNotes went came told o.token o.id (note ∷ notes_of older)
  pub so_far : HasRendered went came told o shown before now older
  pub count : lines_in older ≡ lines
  pub within : noted.count ≤ length buffer
  pub read_is : reading_of (take noted.count buffer) ≡ Ok note.message
  pub pending : IsPendingAs went came told o note (notes_of older) w noted.last
  pub begins : BeginsWithState (note ∷ notes_of older)
  pub succeeds : SucceedsNotes older note
  pub called : Called older

-- the next note has arrived; or it hasn't, and no newer notification superseded the latest state.
abbrev pub IsBeforeNext : (List ℕ → Type 0) → (List ℕ → Type 0) → (ℕ → Type 0) → (List RenderedNote → Type 0) → Observer → Shown → Written → Written → ℕ → Observation → List ℕ → Option NotedMessage → Type 0
IsBeforeNext went came told Called o shown before now lines w buffer None =
    (s : IsShowing went came told Called o shown before now lines w) × (is_superseded s.latest.rendering ≡ false)
IsBeforeNext went came told Called o shown before now lines w buffer (Some noted) = IsPending went came told Called o shown before now lines w buffer noted

-- the next note: the one that has arrived already, or else the one that is awaited.
abbrev pub IsNextNoted : (List ℕ → Type 0) → (List ℕ → Type 0) → (ℕ → Type 0) → List ℕ → Observation → Observation → List ℕ → List ℕ → Option NotedMessage → Option NotedMessage → Type 0
IsNextNoted went came told token old new before after None noted = Watches went came told token after old new noted
IsNextNoted went came told token old new before after (Some next) noted = (noted ≡ Some next) × ((new ≡ old) × (after ≡ before))

-- the calls for it: none if it has arrived already.
abbrev pub AwaitsNext : List ℕ → Bool → Option NotedMessage → Option NotedMessage → List PeerCall → Type 0
AwaitsNext token ends None noted calls = AwaitsNote token ends (is_none noted) calls
AwaitsNext token ends (Some next) noted calls = calls ≡ []

-- a message is at the start of the buffer.
abbrev pub HasMessage : List ℕ → NotedMessage → Type 0
HasMessage buffer noted = (noted.count ≤ length buffer) × ((m : Message) × (reading_of (take noted.count buffer) ≡ Ok m))

abbrev pub HasNewer : List ℕ → Rendered → Type 0
HasNewer buffer (rendered.Newer noted) = HasMessage buffer noted
HasNewer buffer other = Unit {0}

-- the effect of a rendering: a line; or none, since the further blocks can't be fetched, or since a
-- newer notification arrived. Only such a notification changes the watch.
abbrev pub IsEffect : (List ℕ → Type 0) → (List ℕ → Type 0) → (ℕ → Type 0) → List ℕ → Observation → Observation → List ℕ → Rendering → Rendered → Type 0
IsEffect went came told token old new buffer r rendered.Line = (has_line r ≡ true) × (new ≡ old)
IsEffect went came told token old new buffer r rendered.Missing = IsMissingState r × (new ≡ old)
IsEffect went came told token old new buffer r (rendered.Newer noted) =
    EndsStateBy (Superseded (take noted.count buffer) noted.time) r
    × ((noted.count ≤ length buffer) × IsNextNote went came told token (take noted.count buffer) noted.time old new noted.last)
IsEffect went came told token old new buffer r rendered.Over =
    (bytes : List ℕ) × (time : ℕ) × (last : Bool) × EndsStateBy (Superseded bytes time) r × IsNextNote went came told token bytes time old new last

-- a rendering of the message, while the observer had this watch.
abbrev pub IsRenderingOf : (List ℕ → Type 0) → (List ℕ → Type 0) → (ℕ → Type 0) → Observer → Observation → Message → Rendering → Type 0
IsRenderingOf went came told o old m Whole = has_further m ≡ false
IsRenderingOf went came told o old m (Blocks first w outcomes end) =
    (w ≡ old) × ((has_further m ≡ true)
    × (AreOutcomes went came told o old first (begun m) outcomes × IsStateEnd (state_from (begun m) outcomes) (length outcomes) end))

-- no time is left after the further blocks, if the observation ends so.
abbrev pub IsOverBy : Rendered → List PeerCall → Type 0
IsOverBy rendered.Over calls = IsOverAtRest calls
IsOverBy other calls = Unit {0}

-- a message was rendered, with this effect and such calls. The next message ID for a further block
-- was `ids`, and is `next`.
pub record IsRenderedAs (went came : List ℕ → Type 0) (told : ℕ → Type 0) (Makes : (List PeerCall → Type 0) → Type 0) (o : Observer) (shown : Shown) (seconds : Option ℕ) (start : ℕ)
    (m : Message) (before after : Written) (old new : Observation) (ids next : ℕ) (buffer : List ℕ) (effect : Rendered) : Type 0 where
  pub rendering : Rendering
  pub is : IsRenderingOf went came told o old m rendering
  pub begins : BeginsAt ids rendering
  pub next_is : next ≡ id_after_note o ids rendering
  pub text : Appends before.out after.out (rendered_text shown m rendering)
  pub error : Appends before.err after.err (rendered_error rendering)
  pub effect_is : IsEffect went came told o.token old new buffer rendering effect
  pub called : Makes (λ calls. IsRenderedBy o seconds start m rendering calls × IsOverBy effect calls)

-- a message can't be written by such a rendering, after such calls.
pub record IsUnwritten (went came : List ℕ → Type 0) (told : ℕ → Type 0) (Makes : (List PeerCall → Type 0) → Type 0) (o : Observer) (seconds : Option ℕ) (start : ℕ) (m : Message)
    (old : Observation) (ids : ℕ) (P : Rendering → Type 0) : Type 0 where
  pub rendering : Rendering
  pub is : IsRenderingOf went came told o old m rendering
  pub begins : BeginsAt ids rendering
  pub line : P rendering
  pub called : Makes (IsRenderedBy o seconds start m rendering)

-- memory can't be allocated.
abbrev pub IsNoMemory : FetchFault → Type 0
IsNoMemory (fault.Memory error) = Unit {0}
IsNoMemory other = ⊥

-- the errors of that.
abbrev pub IsRenderFault : (List ℕ → Type 0) → (List ℕ → Type 0) → (ℕ → Type 0) → (PeerError → Type 0) → ((List PeerCall → Type 0) → Type 0) → Observer → Option ℕ → ℕ → Message → Observation → ℕ → NotesError → Type 0
IsRenderFault went came told is_error Makes o seconds start m old ids (notes_error.Fault f) = (has_further m ≡ true) × IsFollowingFault came is_error o.token f
IsRenderFault went came told is_error Makes o seconds start m old ids notes_error.Unobserved = ⊥
IsRenderFault went came told is_error Makes o seconds start m old ids (notes_error.Print error) = IsUnwritten went came told Makes o seconds start m old ids (λ r. has_line r ≡ true)
IsRenderFault went came told is_error Makes o seconds start m old ids (notes_error.Report error) = IsUnwritten went came told Makes o seconds start m old ids IsMissingState
IsRenderFault went came told is_error Makes o seconds start m old ids (notes_error.Memory error) = ⊥

-- the last note was printed.
abbrev pub IsLastPrinted : Shown → Message → Option (List ℕ) → Option (List ℕ) → ObservationEnd → Type 0
IsLastPrinted shown m before after (Last code) = (m.code ≡ code.byte) × Appends before after (note_text shown m.code m.payload)
IsLastPrinted shown m before after other = ⊥

-- the calls of an observation that ended.
abbrev pub EndsNotes : Observer → Option ℕ → ℕ → ObservationEnd → List RenderedNote → List PeerCall → Type 0
EndsNotes o seconds start end rs calls = ObservesNotes o seconds start rs calls × EndsInTime seconds end calls

-- one more line was printed, and this is the next message ID for a further block; or the observation
-- ended.
abbrev pub IsLineOrEnd : (List ℕ → Type 0) → (List ℕ → Type 0) → (ℕ → Type 0) → ((List PeerCall → Type 0) → Type 0) → Observer → Shown → Option ℕ → ℕ → Written → Written → ℕ → Observation → ℕ → Option ObservationEnd → Type 0
IsLineOrEnd went came told Makes o shown seconds start before now lines w next None =
    (s : IsShowing went came told (HasCalled Makes o next (ObservesNotes o seconds start)) o shown before now (lines + 1) w) × (has_line s.latest.rendering ≡ true)
IsLineOrEnd went came told Makes o shown seconds start before now lines w next (Some end) =
    (limit : ℕ) → lines < limit → HasShown went came told (λ rs. Makes (EndsNotes o seconds start end rs)) o shown limit before now end

-- the response to the registration is a state, and is at the start of the buffer.
pub record IsFirstState (went came : List ℕ → Type 0) (told : ℕ → Type 0) (o : Observer) (buffer : List ℕ) (count : ℕ) (w : Observation) : Type 0 where
  pub asked : went (message_bytes (observe_request o.client_request.now Register o.token o.id))
  pub note : Note
  pub within : count ≤ length buffer
  pub read_is : reading_of (take count buffer) ≡ Ok note.message
  pub watching : IsWatching went came told o.token o.id note [] w

-- the response to the registration: a state, or the last one, which was printed.
abbrev pub IsFirstShown : (List ℕ → Type 0) → (List ℕ → Type 0) → (ℕ → Type 0) → Observer → Shown → Option (List ℕ) → Option (List ℕ) → List ℕ → First → Type 0
IsFirstShown went came told o shown before after buffer (first.State w count) = IsFirstState went came told o buffer count w × (after ≡ before)
IsFirstShown went came told o shown before after buffer (first.Only code) =
    (limit : ℕ) (err : Option (List ℕ)) → 1 ≤ limit
    → HasShown went came told (IsAtFirst (Last code)) o shown limit (record { out = before; err = err }) (record { out = after; err = err }) (Last code)

-- the calls for it: the watch has the time that the clock returned.
abbrev pub IsFirstBy : Observer → First → List PeerCall → Type 0
IsFirstBy o (first.State w count) calls = (d : IsDatedRegistration o calls) × (d.time ≡ w.at)
IsFirstBy o (first.Only code) calls = IsDatedRegistration o calls
