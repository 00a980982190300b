-- The policy that a command line gives.
use Rattle.std.specs.Prelude.{◌≡◌, ◌<◌, ◌^◌, ℕ, List, Option, Some, None, codes, option_map}
use Rattle.clap.specs.declared.parser.matches.Found.{Found}
use Rattle.clap.specs.Matches.{first_value, matched_of, raw_values}
use Rattle.fc_front.specs.declared.policy.Policy.{Policy}
use Rattle.fc_lines.specs.Fields.{IsNoNumber, IsNumber}
use Rattle.fc_lines.specs.Policies.{IsPolicyOf}

-- the decimal number of an option's value, or the default if the option isn't given.
abbrev pub IsValueOr : ℕ → Option (List ℕ) → ℕ → Type 0
IsValueOr default None n = n ≡ default
IsValueOr default (Some text) n = IsNumber text n

-- the option is given, and its value isn't a number below 2^64.
abbrev pub IsNoValueOr : Option (List ℕ) → Type 0
IsNoValueOr None = ⊥
IsNoValueOr (Some text) = IsNoNumber text (2 ^ 64)

-- the policy has the values of `--managers`, `--exchanges`, `--share` and `--confirm-after`. The
-- defaults are 1,024 exchanges, a share of 65,536 exchanges, and confirmable notifications after
-- 86,400 s.
pub record IsPolicyIn (f : Found) (p : Policy) : Type 0 where
  pub texts : List (List ℕ)
  pub seconds : ℕ
  pub managers : option_map raw_values (matched_of f (codes "managers")) ≡ Some texts
  pub exchanges : IsValueOr 1024 (first_value f (codes "exchanges")) p.limits.exchanges
  pub share : IsValueOr 65536 (first_value f (codes "share")) p.limits.share
  pub confirm_after : IsValueOr 86400 (first_value f (codes "confirm-after")) seconds
  pub policy : IsPolicyOf texts p.limits.exchanges p.limits.share seconds p

-- no policy with a share below 2^64 has the options' values. (A share is a `usize`, so it is below
-- 2^64.)
pub record IsNoPolicyIn (f : Found) : Type 0 where
  pub none : (p : Policy) → p.limits.share < 2 ^ 64 → IsPolicyIn f p → ⊥
