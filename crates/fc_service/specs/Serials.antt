-- The first serial of a server, from the time at which the server starts.
use Rattle.std.specs.Prelude.{◌+◌, ◌-◌, ◌*◌, ◌/◌, ◌<◌, ◌⊎◌, ℕ, List, fold, map, max, min}
use Rattle.fc_store.specs.Stored.{StoredSlot, StoredSlots, stored_in}
use Rattle.fc_registry.specs.Restored.{at_least}
use Rattle.fc_registry.specs.Slots.{last_serial}
use Rattle.fc_front.specs.declared.policy.Policy.{Policy}
use Rattle.fc_server.specs.declared.server.Begin.{Begin}

-- the first serial of the slots of a server that starts `ms` milliseconds after the beginning of
-- 1970. It is 32 for each millisecond plus 2^24 for each whole second. From 2^48 ms on, in the year
-- 10889, the first serial is the same for each start.
abbrev pub serial_of_start : ℕ → ℕ
serial_of_start ms =
    let passed = min ms 281474976710656 in
    32 * passed + 16777216 * (passed / 1000)

-- the initial state of a server with empty slots: the time of its start, its first message ID, and
-- its policy.
abbrev pub begin_by : ℕ → ℕ → Policy → Begin
begin_by ms id policy = record { serial = serial_of_start ms; id = id; policy = policy }

-- the greatest serial of these stored slots, or 0 if there are none.
abbrev pub greatest_serial : List StoredSlot → ℕ
greatest_serial stored = fold (λ greatest k. max greatest k.serial) 0 stored

-- the first serial of a server that starts over these stored slots at this time: the first serial
-- of empty slots, or one more than the greatest stored serial if that is greater. It isn't above
-- the last serial.
abbrev pub serial_over : ℕ → List StoredSlot → ℕ
serial_over ms stored = max (serial_of_start ms) (min (greatest_serial stored + 1) last_serial)

-- the stored states, each at a serial that is at least this one.
abbrev pub raised_slots : ℕ → List StoredSlot → StoredSlots
raised_slots least stored = stored_in (map (at_least least) stored)

-- the stored states that this server restores: each serial is raised to at least its first serial.
abbrev pub raised_at : ℕ → List StoredSlot → StoredSlots
raised_at ms stored = raised_slots (serial_over ms stored) stored

-- the Observe sequence number `v2` is newer than `v1`, by the comparison for notifications that
-- arrive within 128 s of each other (RFC 7641, 3.4).
abbrev pub IsNewerNumber : ℕ → ℕ → Type 0
IsNewerNumber v1 v2 = ((v1 < v2) × (v2 - v1 < 8388608)) ⊎ ((v2 < v1) × (8388608 < v1 - v2))
