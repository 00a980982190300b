-- The timers that a command line gives.
use Rattle.std.specs.Prelude.{◌≡◌, ⊤, ℕ, ◌<◌, ◌≤◌, List, [], ◌∷◌, ◌++◌, Option, Some, None, codes, option_map}
use Rattle.std.specs.List.{AllZip}
use Rattle.clap.specs.declared.parser.matches.Found.{Found}
use Rattle.clap.specs.Matches.{matched_of, raw_values}
use Rattle.fc_host.specs.declared.timer.Timer.{Timer}
use Rattle.fc_host.specs.Timers.{new_timer}
use Rattle.fc_lines.specs.Fields.{IsNumber}
use Rattle.fc_config.specs.declared.every.BadTimer.{BadTimer}
use Rattle.fc_config.specs.declared.every.BadTimer.TheVariants.{Form, Memory}

abbrev pub texts_by : Option (List (List ℕ)) → List (List ℕ)
texts_by None = []
texts_by (Some texts) = texts

-- the values of `--every`, in their order.
abbrev pub texts_of : Found → List (List ℕ)
texts_of f = texts_by (option_map raw_values (matched_of f (codes "every")))

abbrev pub colon : ℕ
colon = 58

-- a period in milliseconds, from 1 ms to a day, and a slot, 0 to 63, such as `1000:7`.
pub record IsTimerText (text : List ℕ) (t : Timer) : Type 0 where
  pub period : List ℕ
  pub digits : List ℕ
  pub text_is : text ≡ period ++ (colon ∷ digits)
  pub every : IsNumber period t.every
  pub slot : IsNumber digits t.slot
  pub is_new : t ≡ new_timer t.every t.slot
  pub some : 1 ≤ t.every
  pub most : t.every ≤ 86400000
  pub is_slot : t.slot < 64

-- the text is that of no timer.
pub record IsNoTimerText (text : List ℕ) : Type 0 where
  pub none : (t : Timer) → IsTimerText text t → ⊥

-- each text is that of the timer at its place.
abbrev pub AreTimers : List (List ℕ) → List Timer → Type 0
AreTimers texts ts = AllZip IsTimerText texts ts

-- the timer of a text is appended.
pub record Pushes (text : List ℕ) (old new : List Timer) : Type 0 where
  pub timer : Timer
  pub is : IsTimerText text timer
  pub last : new ≡ old ++ timer ∷ []

-- ---- which texts are refused

-- a text is refused: it is that of no timer, or memory couldn't be allocated.
abbrev pub IsRefusedBy : (text : List ℕ) → BadTimer → Type 0
IsRefusedBy text Form = IsNoTimerText text
IsRefusedBy text (Memory refused) = ⊤

-- texts are refused by the error of the first text that is refused. The texts before it are those
-- of timers.
pub record AreRefusedBy (texts : List (List ℕ)) (error : BadTimer) : Type 0 where
  pub before : List (List ℕ)
  pub text : List ℕ
  pub after : List (List ℕ)
  pub texts_are : texts ≡ before ++ (text ∷ after)
  pub timers : List Timer
  pub good : AreTimers before timers
  pub refused : IsRefusedBy text error
