-- The waits of a client's socket, by the readings of its clock.
use Rattle.std.specs.Prelude.{◌≡◌, ℕ, ◌+◌, ◌-◌, ◌*◌, ◌/◌, ◌≤◌, Bool, true, false, min}
use Rattle.std.specs.Duration.{as_nanos}
use Rattle.std.specs.Time.{FitsClock, instant_nanos}
use Rattle.std.specs.declared.io.ErrorKind.{ErrorKind}
use Rattle.std.specs.declared.io.ErrorKind.TheVariants.{WouldBlock, TimedOut, Interrupted}
use Rattle.std.specs.declared.time.Duration.{Duration}
use Rattle.std.specs.declared.time.Instant.{Instant}

-- an error of this kind from a receive doesn't end a wait: nothing arrived in time, or a signal
-- interrupted the receive.
abbrev pub is_transient : ErrorKind → Bool
is_transient WouldBlock = true
is_transient TimedOut = true
is_transient Interrupted = true
is_transient kind = false

-- the clock returned a reading at or after the end of a wait.
pub record IsWaitOver (is_read : Instant → Type 0) (until : Instant) : Type 0 where
  pub now : Instant
  pub read_is : is_read now
  pub over : instant_nanos until ≤ instant_nanos now

-- `until` is the end of a wait of `seconds` seconds that begins at a reading of the clock, if the
-- clock can represent that time.
pub record IsEndOfWait (is_read : Instant → Type 0) (seconds : ℕ) (until : Instant) : Type 0 where
  pub now : Instant
  pub read_is : is_read now
  pub ends : FitsClock (instant_nanos now + seconds * 1_000_000_000) → instant_nanos until ≡ instant_nanos now + seconds * 1_000_000_000

-- `left` is the time from a reading of the clock to `until`, the end of a wait; 0 if it is over.
pub record IsLeftOf (is_read : Instant → Type 0) (until : Instant) (left : Duration) : Type 0 where
  pub now : Instant
  pub read_is : is_read now
  pub left_is : as_nanos left ≡ instant_nanos until - instant_nanos now

-- `time` is the whole milliseconds from `start` to a reading of the clock, at most 2^64 - 1.
pub record IsTimeSince (is_read : Instant → Type 0) (start : Instant) (time : ℕ) : Type 0 where
  pub now : Instant
  pub read_is : is_read now
  pub time_is : time ≡ min ((instant_nanos now - instant_nanos start) / 1_000_000) 18446744073709551615
