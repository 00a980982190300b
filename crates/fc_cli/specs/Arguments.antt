-- The arguments of the command lines.
use Rattle.std.specs.Prelude.{◌≡◌, ◌∷◌, [], Some, List, map, option_map, ℕ}
use Rattle.clap.specs.declared.builder.action.ArgAction.TheVariants.{SetTrue}
use Rattle.clap.specs.declared.builder.arg.Arg.{Arg}
use Rattle.clap.specs.Simple.{new_rule}
use Rattle.clap.specs.Texts.{items_of}
use Rattle.clap.specs.Walk.{rule_of}

-- the help shows this text for the argument.
abbrev pub HasHelp : List ℕ → Arg → Type 0
HasHelp help arg = option_map (λ text. text.now) arg.help ≡ Some help

-- the help calls the value by this name.
abbrev pub NamesValue : List ℕ → Arg → Type 0
NamesValue value arg = map (λ text. text.now) (items_of arg.val_names) ≡ value ∷ []

-- `--NAME VALUE`, optional, with any text.
pub record IsOptionArg (name value help : List ℕ) (arg : Arg) : Type 0 where
  pub rule : rule_of arg ≡ record (new_rule name) { long = Some name; value_names = 1 }
  pub named : NamesValue value arg
  pub explained : HasHelp help arg

-- `--NAME`, optional, without a value.
pub record IsFlagArg (name help : List ℕ) (arg : Arg) : Type 0 where
  pub rule : rule_of arg ≡ record (new_rule name) { long = Some name; action = Some SetTrue }
  pub explained : HasHelp help arg

-- a positional argument, optional, with any text.
pub record IsPositionalArg (id value help : List ℕ) (arg : Arg) : Type 0 where
  pub rule : rule_of arg ≡ record (new_rule id) { value_names = 1 }
  pub named : NamesValue value arg
  pub explained : HasHelp help arg
