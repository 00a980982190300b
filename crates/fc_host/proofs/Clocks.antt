-- The readings of a clock at an example time.
use Rattle.std.proofs.Common.{◌≡◌, ◌∷◌, refl}
use Rattle.std.specs.Prelude.{replicate}
use Rattle.fc_host.specs.Clocks.{clock_readings}

-- the readings at 258 ms begin with the bytes 2 and 1, since 258 is 2 + 1 * 256.
the_least_byte_is_first : clock_readings 258 ≡ 2 ∷ 1 ∷ replicate 62 0
the_least_byte_is_first = refl
