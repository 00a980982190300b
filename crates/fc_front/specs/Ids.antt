-- The message IDs that the server draws, in order.
use Rattle.std.specs.Prelude.{ℕ, ◌+◌, ◌%◌, Bool, true, false, nat_lt, List, replicate, slice_index_or, slice_set, Option, Some, None, if◌then◌else◌}
use Rattle.coap_msg.specs.Windows.{window}

-- the next message ID, and for each message ID the time when it was last drawn, if it was.
pub record Ids : Type 0 where
  pub next : ℕ
  pub last : List (Option ℕ)

-- the times of the last draws before any draw: none.
unfoldable pub no_draws : List (Option ℕ)
no_draws = replicate 65536 None

abbrev pub first_ids : ℕ → Ids
first_ids first = record { next = first; last = no_draws }

-- the time when the next message ID was last drawn, if it was.
abbrev pub last_drawn : Ids → Option ℕ
last_drawn ids = slice_index_or ids.last ids.next None

-- whether this time is less than EXCHANGE_LIFETIME after the time when a message ID was last drawn.
abbrev pub is_recent : ℕ → Option ℕ → Bool
is_recent at None = false
is_recent at (Some drawn) = nat_lt at (drawn + window)

-- the next message ID if it is available at this time.
abbrev pub free_id : Ids → ℕ → Option ℕ
free_id ids at = if is_recent at (last_drawn ids) then None else Some ids.next

-- the message IDs after a draw. If the next one isn't available, they are unchanged.
abbrev pub drawn : Ids → ℕ → Ids
drawn ids at =
    if is_recent at (last_drawn ids) then ids else record { next = (ids.next + 1) % 65536; last = slice_set ids.last ids.next (Some at) }

-- the message ID of a response: that of the request for an acknowledgement, otherwise the server's
-- next one, if available.
abbrev pub reply_id : Bool → ℕ → Option ℕ → Option ℕ
reply_id true id free = Some id
reply_id false id free = free

-- the message IDs after a response to a confirmable request or another one.
abbrev pub drawn_for : Bool → Ids → ℕ → Ids
drawn_for true ids at = ids
drawn_for false ids at = drawn ids at
