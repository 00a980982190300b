-- The ends of a channel of jobs, as contracts see them.
use Rattle.std.specs.Prelude.{ℕ, List, [], ◌∷◌, ◌++◌, length}
use Rattle.atomic_table.specs.Seated.{TableId}
use Rattle.atomic_table.specs.declared.badge.Badge.{Badge}
use Rattle.crossbeam_channel.specs.declared.flavors.array.Key.{Key}
use Rattle.fc_jobs.specs.declared.protocol.Numbered.{Numbered}

-- the identity of a channel: no other channel has these tables.
pub record Channel (M : Type 0) : Type 0 where
  pub stamps : TableId
  pub messages : Badge (Key (Numbered M))

-- the sending end, and the jobs that were sent, each at the position of its number.
pub record Sent (M : Type 0) : Type 0 where
  pub channel : Channel M
  pub sent : List (Numbered M)

-- a worker's end, and the jobs that the worker received.
pub record Got (M : Type 0) : Type 0 where
  pub channel : Channel M
  pub got : List (Numbered M)

module _ {M : Type 0} where
  abbrev pub nothing_sent : Channel M → Sent M
  nothing_sent channel = record { channel = channel; sent = [] }

  abbrev pub nothing_got : Channel M → Got M
  nothing_got channel = record { channel = channel; got = [] }

  -- the sending end after one more job is sent, under the next number.
  abbrev pub with_sent : Sent M → M → Sent M
  with_sent s message = record s { sent = s.sent ++ record { number = length s.sent; message = message } ∷ [] }

  -- a worker's end after one more job is received, under this number.
  abbrev pub with_got : Got M → ℕ → M → Got M
  with_got g number message = record g { got = g.got ++ record { number = number; message = message } ∷ [] }
