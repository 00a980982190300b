-- The times at which a request is sent, and the wait after each transmission (RFC 7252, sections
-- 4.2 and 4.8). In a list of calls, the newest is first.
use Rattle.std.specs.Prelude.{◌≡◌, ℕ, ◌*◌, ◌<◌, ◌==◌, Bool, true, false, not, filter, List, [], ◌∷◌, drop, sum_by, Ok, Some}
use Rattle.coap_msg.specs.Reading.{reading_of}
use Rattle.coap_msg.specs.Wire.{Message}
use Rattle.coap_client.specs.Replies.{IsReset}
use Rattle.coap_client.specs.PeerCalls.{PeerCall, Sends, Waits, Receives, Reads}

-- the bytes have a code other than 0.00. That is the code of an empty message, and each
-- acknowledgement that a client sends is empty (RFC 7252, section 4.1).
abbrev pub has_code : List ℕ → Bool
has_code (first ∷ code ∷ rest) = not (code == 0)
has_code other = false

-- a call that sends a request or begins a wait.
abbrev pub is_scheduled : PeerCall → Bool
is_scheduled (Sends bytes) = has_code bytes
is_scheduled (Waits seconds) = true
is_scheduled (Receives bytes) = false
is_scheduled (Reads time) = false

abbrev pub schedule : List PeerCall → List PeerCall
schedule calls = filter is_scheduled calls

-- a request is sent five times, and each wait for the response is twice the wait before. The first
-- transmission is the last in this list.
abbrev pub full_schedule : List ℕ → List PeerCall
full_schedule request =
    Waits 32 ∷ Sends request ∷ Waits 16 ∷ Sends request ∷ Waits 8 ∷ Sends request ∷ Waits 4 ∷ Sends request ∷ Waits 2 ∷ Sends request ∷ []

-- the calls are the first of these five transmissions, at least one, with their waits; `left` of
-- the transmissions remain.
abbrev pub BeginsSchedule : List ℕ → List PeerCall → Type 0
BeginsSchedule request calls = (left : ℕ) × (left < 5) × (calls ≡ drop (2 * left) (full_schedule request))

-- the calls are the first transmissions with their waits, followed by a wait for a separate
-- response.
abbrev pub AwaitsResponse : List ℕ → List PeerCall → Type 0
AwaitsResponse request calls = (sent : List PeerCall) × BeginsSchedule request sent × (calls ≡ Waits 93 ∷ sent)

-- the seconds of a wait, or 0 for any other call.
abbrev pub seconds_of : PeerCall → ℕ
seconds_of (Waits seconds) = seconds
seconds_of other = 0

abbrev pub seconds_in : List PeerCall → ℕ
seconds_in calls = sum_by seconds_of (schedule calls)

-- the newest call received a Reset message with this message ID (RFC 7252, section 4.2).
pub record EndsByReset (id : ℕ) (calls : List PeerCall) : Type 0 where
  pub bytes : List ℕ
  pub older : List PeerCall
  pub is : calls ≡ Receives (Some bytes) ∷ older
  pub message : Message
  pub read_is : reading_of bytes ≡ Ok message
  pub rejects : IsReset id message
