-- The values of `--log`.
use Rattle.std.specs.Prelude.{◌≡◌, ◌*◌, ◌++◌, ◌⊎◌, ◌≤◌, ℕ, Bool, List, [], ◌∷◌, None, Option, Some, codes, option_map}
use Rattle.std.specs.List.{list_any}
use Rattle.std.specs.Str.{bytes_eq}
use Rattle.clap.specs.declared.parser.matches.Found.{Found}
use Rattle.clap.specs.Matches.{matched_of, raw_values}
use Rattle.fc_lines.specs.Fields.{IsNumber}
use Rattle.fc_config.specs.Every.{texts_by}
use Rattle.fc_config.specs.declared.logging.LogOptions.{LogOptions}

-- the values of `--log`, in the order of the command line.
abbrev pub log_texts : Found → List (List ℕ)
log_texts f = texts_by (option_map raw_values (matched_of f (codes "log")))

-- one of these texts is `text`.
abbrev pub has_text : List (List ℕ) → List ℕ → Bool
has_text texts text = list_any (λ t. bytes_eq t text) texts

-- `text` is `report:` with 1 to 86,400 seconds, for example `report:60`. `period` is the same time
-- in milliseconds.
pub record IsReportText (text : List ℕ) (period : ℕ) : Type 0 where
  pub digits : List ℕ
  pub seconds : ℕ
  pub text_is : text ≡ codes "report:" ++ digits
  pub number : IsNumber digits seconds
  pub some : 1 ≤ seconds
  pub most : seconds ≤ 86400
  pub period_is : period ≡ 1000 * seconds

-- the text is `off`, `info` or `changes`, and the period stays the same; or the text gives the new
-- period.
abbrev pub IsPeriodAfter : List ℕ → Option ℕ → Option ℕ → Type 0
IsPeriodAfter text before after =
    (((text ≡ codes "off") ⊎ ((text ≡ codes "info") ⊎ (text ≡ codes "changes"))) × (after ≡ before)) ⊎ ((period : ℕ) × IsReportText text period × (after ≡ Some period))

-- the period after all texts: the last one that a text gives, or else the period before them.
abbrev pub ArePeriods : List (List ℕ) → Option ℕ → Option ℕ → Type 0
ArePeriods [] before after = after ≡ before
ArePeriods (text ∷ texts) before after = (mid : Option ℕ) × IsPeriodAfter text before mid × ArePeriods texts mid after

-- the listening address and the server's end are logged if one of the values is `info`, and
-- requests to change programs if one is `changes`. Counts are reported in the period that the
-- values give, if they give one.
pub record AreLogsIn (f : Found) (logs : LogOptions) : Type 0 where
  pub info : logs.info ≡ has_text (log_texts f) (codes "info")
  pub changes : logs.changes ≡ has_text (log_texts f) (codes "changes")
  pub report : ArePeriods (log_texts f) None logs.report
