-- The digest of an image, and the command that prints it.
use Rattle.std.specs.Prelude.{◌≡◌, ℕ, ◌+◌, ◌<◌, ◌≤◌, length, take, List, [], ◌∷◌, ◌++◌, Option, IfSome}
use Rattle.std.specs.Io.KnownBytes.{Appends}
use Rattle.hex.specs.Hex.{encode_lower}
use Rattle.sha2.specs.Sha256.{sha256}
use Rattle.fc_tools.specs.declared.digest.DigestError.{DigestError}
use Rattle.fc_tools.specs.declared.digest.DigestError.TheVariants as error
use Rattle.fc_cli.specs.declared.status.Status.{Status}
use Rattle.fc_cli.specs.declared.status.Status.TheVariants.{Done, Refused, Bad, Failed}

-- the 32 bytes of the SHA-256 digest (FIPS 180-4) in lowercase hex.
abbrev pub digest_text : List ℕ → List ℕ
digest_text image = encode_lower (sha256 image)

-- the digits of the digest, as a line.
abbrev pub digest_line : List ℕ → List ℕ
digest_line image = digest_text image ++ 10 ∷ []

-- the maximum length of an image, in bytes: a header of 16, and 65,535 slots of 8.
abbrev pub longest_image : ℕ
longest_image = 524296

-- the bytes that are read of an input: all of them, but at most one more than the longest image
-- has.
abbrev pub read_of : List ℕ → List ℕ
read_of input = take (longest_image + 1) input

-- the input is an image, and the line of its digest was printed.
pub record IsDigested (input : Option (List ℕ)) (before after : Option (List ℕ)) : Type 0 where
  pub image : List ℕ
  pub input_is : IfSome input (λ bytes. bytes ≡ image)
  pub short : length image ≤ longest_image
  pub text : Appends before after (digest_line image)

-- the input has more bytes than the longest image, and nothing was printed.
pub record IsTooLong (input : Option (List ℕ)) (before after : Option (List ℕ)) : Type 0 where
  pub long : IfSome input (λ bytes. longest_image < length bytes)
  pub same : after ≡ before

-- the reason why no line was printed; for every reason except an error of the output, nothing at
-- all was printed.
abbrev pub IsDigestFault : Option (List ℕ) → Option (List ℕ) → Option (List ℕ) → DigestError → Type 0
IsDigestFault input before after error.Long = IsTooLong input before after
IsDigestFault input before after (error.Output reason) = Unit {0}
IsDigestFault input before after other = after ≡ before

abbrev pub error_status : DigestError → Status
error_status error.Long = Refused
error_status other = Failed

-- the status of the command, by what it printed.
abbrev pub IsDigestEnd : Option (List ℕ) → Option (List ℕ) → Option (List ℕ) → Status → Type 0
IsDigestEnd input before after Done = IsDigested input before after
IsDigestEnd input before after Refused = IsTooLong input before after
IsDigestEnd input before after Bad = ⊥
IsDigestEnd input before after Failed = Unit {0}
