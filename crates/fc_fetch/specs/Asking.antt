-- A request from the words of a command line.
use Rattle.std.specs.Borrow.{Bor}
use Rattle.std.specs.Prelude.{◌≡◌, ◌⊎◌, ℕ, List, [], Option, Some, None}
use Rattle.std.specs.declared.net.socket_addr.SocketAddrV4.{SocketAddrV4}
use Rattle.coap_client.specs.PeerCalls.{PeerCall, PeerError}
use Rattle.fc_cli.specs.declared.status.Status.{Status}
use Rattle.fc_cli.specs.declared.status.Status.TheVariants.{Failed}
use Rattle.fc_fetch.specs.Fetching.{IsAnswerTo, IsAnswered, IsAnsweredTo, IsFetchStop}
use Rattle.fc_fetch.specs.declared.client.FetchStop.{FetchStop}
use Rattle.fc_fetch.specs.declared.printer.Shown.{Shown}
use Rattle.fc_fetch.specs.declared.operation.Asking.{Asking}
use Rattle.fc_fetch.specs.declared.operation.BodySource.{BodySource}
use Rattle.fc_fetch.specs.declared.operation.BodySource.TheVariants as source

-- the input is unchanged, unless the body is read from it.
abbrev pub IsUnread : {I : Type 0} → BodySource → I → I → Type 0
IsUnread source.Input before after = Unit {0}
IsUnread other before after = after ≡ before

-- the response is printed, or its bytes go to the named file, whose contents aren't known. If there
-- is no response, it is for one of these reasons.
abbrev pub IsShownOrKept : (ℕ → List ℕ → Type 0) → (FetchStop → Type 0) → Shown → Option (Bor (List ℕ)) → Option (List ℕ) → Option (List ℕ) → Status → Type 0
IsShownOrKept Has Stops shown None before after status = IsAnswered Has Stops shown before after status
IsShownOrKept Has Stops shown (Some name) before after status = IsAnsweredTo Has Stops shown before after None None status

abbrev pub IsAskedBy : {S : Type 0} → (S → SocketAddrV4 → Type 0) → (List ℕ → Type 0) → (List ℕ → Type 0) → (List ℕ → Type 0) → (PeerError → Type 0) → (S → List PeerCall → Type 0) → Asking
    → Option (List ℕ) → Option (List ℕ) → Option (List ℕ) → Status → Type 0
IsAskedBy connected drawn went came is_error called asking known before after status =
    IsShownOrKept (IsAnswerTo connected drawn went came called asking.options known) (IsFetchStop connected drawn went came is_error called asking.options known) asking.options.shown asking.output
    before after status

-- the request's body: none, a text, a file's bytes, or the input's bytes if they are known. A
-- file's bytes aren't known, and opening the file may fail.
abbrev pub IsAskedFrom : BodySource → (Option (List ℕ) → Type 0) → Option (List ℕ) → Status → Type 0
IsAskedFrom source.None Asked input status = Asked (Some [])
IsAskedFrom (source.Text text) Asked input status = Asked (Some text.now)
IsAskedFrom (source.File name) Asked input status = ((known : Option (List ℕ)) × Asked known) ⊎ (status ≡ Failed)
IsAskedFrom source.Input Asked input status = Asked input

abbrev pub IsAskedFor : {S : Type 0} → (S → SocketAddrV4 → Type 0) → (List ℕ → Type 0) → (List ℕ → Type 0) → (List ℕ → Type 0) → (PeerError → Type 0) → (S → List PeerCall → Type 0) → Asking
    → Option (List ℕ) → Option (List ℕ) → Option (List ℕ) → Status → Type 0
IsAskedFor connected drawn went came is_error called asking input before after status =
    IsAskedFrom asking.body (λ known. IsAskedBy connected drawn went came is_error called asking known before after status) input status
