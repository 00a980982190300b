-- The readings of a device with a clock, and with sensors or none.
use Rattle.std.specs.Prelude.{◌≡◌, ℕ, ◌-◌, ◌≤◌, List, ◌++◌, length, replicate, Option}
use Rattle.std.specs.Int.{w64, to_le_bytes}
use Rattle.std.specs.Io.KnownBytes.{Consumes}
use Rattle.fc_backend.specs.declared.call_log.CallLog.{CallLog}

-- the sensor readings without sensors: 56 zeros.
abbrev pub no_sensors : List ℕ
no_sensors = replicate 56 0

-- the readings at `now`: the time in milliseconds as eight bytes, least significant first, then the
-- sensor readings.
abbrev pub device_readings : ℕ → List ℕ → List ℕ
device_readings now sensed = to_le_bytes w64 now ++ sensed

-- the clock was read, and `readings` are the clock's time with readings of the sensors.
abbrev pub AreReadAt : (ℕ → CallLog → CallLog → Type 0) → (List ℕ → Type 0) → List ℕ → CallLog → CallLog → Type 0
AreReadAt IsTime AreSensed readings before after =
    (now : ℕ) × (sensed : List ℕ) × IsTime now before after × AreSensed sensed × (readings ≡ device_readings now sensed)

abbrev pub clock_readings : ℕ → List ℕ
clock_readings now = device_readings now no_sensors

-- a reader gave `count` bytes, at most 56. `sensed` are these bytes, followed by zeros up to 56
-- bytes.
pub record AreSensed (had left : Option (List ℕ)) (count : ℕ) (sensed : List ℕ) : Type 0 where
  pub given : List ℕ
  pub count_is : length given ≡ count
  pub few : count ≤ 56
  pub first : Consumes had left given
  pub padded : sensed ≡ given ++ replicate (56 - count) 0
