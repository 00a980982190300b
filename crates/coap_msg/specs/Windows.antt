-- The time for which an exchange or a transfer is stored (EXCHANGE_LIFETIME: RFC 7252, section
-- 4.8.2).
use Rattle.std.specs.Prelude.{ℕ, ◌+◌, Bool, nat_lt}

-- EXCHANGE_LIFETIME, in milliseconds.
abbrev pub window : ℕ
window = 247000

-- the time `now` is less than EXCHANGE_LIFETIME after the time `at`.
abbrev pub within_window : ℕ → ℕ → Bool
within_window now at = nat_lt now (at + window)
