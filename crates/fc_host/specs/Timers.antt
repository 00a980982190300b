-- Timers: slots whose programs run periodically.
use Rattle.std.specs.Prelude.{◌+◌, ◌-◌, ◌*◌, ◌/◌, ℕ, false, min, fold, List}
use Rattle.fc_host.specs.declared.timer.Timer.{Timer}

-- a timer is first due after its period.
abbrev pub new_timer : ℕ → ℕ → Timer
new_timer every slot = record { every = every; slot = slot; due = every; offloaded = false }

-- the first beat of a timer after a time; missed beats are skipped. It stays below 2^64.
abbrev pub next_beat : ℕ → Timer → ℕ
next_beat now t = min (t.due + (now - t.due) / t.every * t.every + t.every) 18446744073709551615

abbrev pub put_off : ℕ → Timer → Timer
put_off now t = record t { due = next_beat now t }

-- the time at which the first of some timers is due: 2^64 - 1 if there are none.
abbrev pub first_due : List Timer → ℕ
first_due ts = fold (λ due t. min due t.due) 18446744073709551615 ts
