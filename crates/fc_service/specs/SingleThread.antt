-- The readings and the random word for jobs of a server on one thread: from a line, or in a round.
use Rattle.std.specs.Prelude.{◌≡◌, ◌%◌, ℕ, List}
use Rattle.fc_host.specs.Clocks.{device_readings}
use Rattle.fc_server.specs.declared.alone.SingleThread.{SingleThread}
use Rattle.fc_record.specs.Recording.{Recording}

-- from this call on, jobs get these readings, and zero as the random word.
abbrev pub HandsAlone : List ℕ → SingleThread → SingleThread → Type 0
HandsAlone readings old new = (new.engine ≡ old.engine) × (new.handed ≡ record { readings = readings; random = 0 })

-- from this call on, jobs get the readings of the clock at `now` and of the sensors. The random
-- word is the low 16 bits of `now`.
abbrev pub ReadiesAlone : (List ℕ → Type 0) → ℕ → SingleThread → SingleThread → Type 0
ReadiesAlone sensors now old new = (sensed : List ℕ) × sensors sensed × (new.engine ≡ old.engine) × (new.handed ≡ record { readings = device_readings now sensed; random = now % 65536 })

-- a server whose changes are recorded gets its jobs' input as in `ReadiesAlone`, and no change is
-- recorded.
abbrev pub ReadiesRecorded : (List ℕ → Type 0) → ℕ → Recording → Recording → Type 0
ReadiesRecorded sensors now old new = ReadiesAlone sensors now old.alone new.alone × (new.log ≡ old.log)
