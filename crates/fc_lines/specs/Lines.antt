-- The contents of a line.
use Rattle.std.specs.Prelude.{◌≡◌, ℕ, ◌<◌, ◌^◌, List, Ok}
use Rattle.hex.specs.Hex.{decode_of, decode_sized}
use Rattle.fc_lines.specs.Fields.{dash, device, spaced, IsNumber}
use Rattle.fc_lines.specs.declared.line.Line.{Line}
use Rattle.fc_lines.specs.declared.line.Line.TheVariants.{Deliver, Device, Tick}

-- `now peer hex`: a datagram, in hex digits of either case.
pub record IsDelivery (text : List ℕ) (now peer : ℕ) (bytes : List ℕ) : Type 0 where
  pub first : List ℕ
  pub second : List ℕ
  pub third : List ℕ
  pub text_is : text ≡ spaced first second third
  pub now_is : IsNumber first now
  pub now_fits : now < 2 ^ 64
  pub peer_is : IsNumber second peer
  pub peer_fits : peer < 256
  pub bytes_are : decode_of third ≡ Ok bytes

-- `now - -`: time passes.
pub record IsTick (text : List ℕ) (now : ℕ) : Type 0 where
  pub first : List ℕ
  pub text_is : text ≡ spaced first dash dash
  pub now_is : IsNumber first now
  pub now_fits : now < 2 ^ 64

-- `now dev hex`: the device's readings, in 128 hex digits.
pub record IsDevice (text : List ℕ) (now : ℕ) (readings : List ℕ) : Type 0 where
  pub first : List ℕ
  pub third : List ℕ
  pub text_is : text ≡ spaced first device third
  pub now_is : IsNumber first now
  pub now_fits : now < 2 ^ 64
  pub readings_are : decode_sized third 64 ≡ Ok readings

-- a line, without its line feed, has these contents.
abbrev pub IsLine : List ℕ → Line → Type 0
IsLine text (Deliver now peer bytes) = IsDelivery text now peer bytes.items
IsLine text (Tick now) = IsTick text now
IsLine text (Device now readings) = IsDevice text now readings

-- a line has no valid form.
pub record IsNoLine (text : List ℕ) : Type 0 where
  pub none : (line : Line) → IsLine text line → ⊥
