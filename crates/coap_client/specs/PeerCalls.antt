-- The calls of a client on a peer. In a list of calls, the newest is first.
use Rattle.std.specs.Prelude.{ℕ, List, ◌++◌, take, Option}
use Rattle.std.specs.IoError.{error_kind}
use Rattle.std.specs.Option.{option_map}

abbrev domain_of : {A B : Type 0} → (A → B) → Type 0
domain_of {A = A} f = A

-- the type of an error of a peer, `io::Error`. The library has no name for it, so it is taken from
-- a function's type.
abbrev pub PeerError : Type 0
PeerError = domain_of error_kind

pub data PeerCall : Type 0 where
  -- a datagram is sent.
  Sends : (bytes : List ℕ) → PeerCall
  -- a wait of `seconds` seconds begins.
  Waits : (seconds : ℕ) → PeerCall
  -- a datagram arrives during the wait; or none arrives, since the wait is over.
  Receives : (bytes : Option (List ℕ)) → PeerCall
  -- the clock is read, and returns this time in milliseconds.
  Reads : (time : ℕ) → PeerCall

-- the calls `more` are added to any calls with the property `before`, which gives `after`.
abbrev pub Adds : (List PeerCall → Type 0) → (List PeerCall → Type 0) → List PeerCall → Type 0
Adds before after more = (calls : List PeerCall) → before calls → after (more ++ calls)

-- the datagram at the start of the buffer, if one arrived.
abbrev pub received_bytes : List ℕ → Option ℕ → Option (List ℕ)
received_bytes buffer count = option_map (λ n. take n buffer) count

abbrev pub receives_in : List ℕ → Option ℕ → PeerCall
receives_in buffer count = Receives (received_bytes buffer count)
