-- The configuration of `fcd serve`, by the values that a command line gives its options.
use Rattle.std.specs.Prelude.{◌≡◌, ℕ, List, Option, Some, None, codes, option_map}
use Rattle.std.specs.Net.Grammar.{IsIpv4Text}
use Rattle.std.specs.Net.Socket.{v4_ip, v4_port}
use Rattle.clap.specs.declared.parser.matches.Found.{Found}
use Rattle.clap.specs.Matches.{first_value}
use Rattle.fc_lines.specs.Fields.{IsNumber}
use Rattle.fc_config.specs.Logs.{AreLogsIn}
use Rattle.fc_config.specs.Policies.{IsPolicyIn}
use Rattle.fc_config.specs.declared.options.ServeConfig.{ServeConfig}

-- an option has a value, and the value is this number in decimal.
abbrev pub HasNumber : Option (List ℕ) → ℕ → Type 0
HasNumber None n = ⊥
HasNumber (Some text) n = IsNumber text n

-- `c` has the values of the options that a command line gives. The listening address is that of
-- `--bind` with the port of `--port`. It is reported if a value of `--log` is `info`. The numbers
-- of workers and of datagrams are those of `--workers` and `--limit`. The paths of the sensor file
-- and of the store are those of `--readings` and `--store`, if these options are given.
pub record IsServeConfig (f : Found) (c : ServeConfig) : Type 0 where
  pub bind : List ℕ
  pub bind_is : first_value f (codes "bind") ≡ Some bind
  pub address : IsIpv4Text bind (v4_ip c.listening.address)
  pub port : HasNumber (first_value f (codes "port")) (v4_port c.listening.address)
  pub logs : AreLogsIn f c.logs
  pub told : c.listening.told ≡ c.logs.info
  pub workers : HasNumber (first_value f (codes "workers")) c.extent.workers
  pub limit : HasNumber (first_value f (codes "limit")) c.extent.limit
  pub policy : IsPolicyIn f c.policy
  pub readings : option_map (λ s. s.now) c.readings ≡ first_value f (codes "readings")
  pub store : option_map (λ s. s.now) c.store ≡ first_value f (codes "store")
