-- The exit statuses of the programs.
use Rattle.std.specs.Prelude.{◌≡◌, ◌⊎◌, ℕ, Ok, Result}
use Rattle.clap.specs.declared.error.kind.ErrorKind.{ErrorKind}
use Rattle.clap.specs.declared.error.kind.ErrorKind.TheVariants.{OutOfMemory, DisplayHelp, DisplayVersion}
use Rattle.fc_cli.specs.declared.status.Status.{Status}
use Rattle.fc_cli.specs.declared.status.Status.TheVariants.{Done, Refused, Bad, Failed}

-- the exit status of the process.
abbrev pub status_number : Status → ℕ
status_number Done = 0
status_number Refused = 1
status_number Bad = 2
status_number Failed = 3

-- the program ends with this status, or with `Failed` if the reason can't be written.
abbrev pub IsEnding : Status → Status → Type 0
IsEnding status told = (told ≡ status) ⊎ (told ≡ Failed)

-- the status for words that aren't a command; a request for help or the version isn't a mistake.
abbrev pub explained : ErrorKind → Status
explained OutOfMemory = Failed
explained DisplayHelp = Done
explained DisplayVersion = Done
explained mistake = Bad

-- the program's words aren't a command, and this is the status for the reason.
pub record IsExplained (status : Status) : Type 0 where
  pub reason : ErrorKind
  pub ends : status ≡ explained reason

-- a call with the postcondition `post` may return this status, for some arguments.
abbrev pub MayReturn : {Writer Words E : Type 0}
    → (Writer → Words → Result Status E → Writer → Type 0) → Status → Type 0
MayReturn {Writer} {Words} post status =
    (before : Writer) × (words : Words) × (after : Writer) × post before words (Ok status) after

-- the exit status of a program: that of a status which `Works` allows, or 2 or 3 for an early end.
abbrev pub Ends : (Status → Type 0) → ℕ → Type 0
Ends Works code =
    (status : Status) × ((status ≡ Bad) ⊎ (status ≡ Failed) ⊎ Works status)
    × (code ≡ status_number status)
