-- The table of exchanges after each call, and the results of the calls.
use Rattle.std.specs.Prelude.{ℕ, ◌+◌, ◌==◌, ◌&&◌, Bool, true, false, [], ◌∷◌, ◌++◌, filter, None}
use Rattle.arrayvec.specs.ArrayVec.{ArrayVec}
use Rattle.coap_msg.specs.declared.types.Endpoint.{Endpoint}
use Rattle.coap_dedup.specs.declared.exchanges.Closed.{Closed}
use Rattle.coap_dedup.specs.declared.exchanges.Closed.TheVariants as answers
use Rattle.coap_dedup.specs.Exchanges.{Exchange, Table, is_live, answered_if}

-- the table at `now`, without the exchanges that are past their lifetime.
abbrev pub expired : Table → ℕ → Table
expired t now = record { limits = t.limits; now = now; opened = t.opened; held = filter (is_live now) t.held }

-- the table at `now`, with a new exchange appended, which has no response.
abbrev pub opened : Table → ℕ → Endpoint → ℕ → Bool → Table
opened t now to id confirmable = record {
  limits = t.limits;
  now = now;
  opened = t.opened + 1;
  held = t.held ++ record { endpoint = to; id = id; confirmable = confirmable; number = t.opened; at = now; answer = None } ∷ [];
}

-- the exchange has number `number`, and is within its lifetime at `now`.
abbrev pub is_open : ℕ → ℕ → Exchange → Bool
is_open now number e = (e.number == number) && is_live now e

-- the exchange after a response was stored for number `number`: it has the response if it has that
-- number and is within its lifetime.
abbrev pub answered : ℕ → ℕ → ArrayVec ℕ → Exchange → Exchange
answered now number bytes e = answered_if (is_open now number e) bytes e

abbrev pub closing : Bool → Closed
closing true = answers.Closed
closing false = answers.Late
