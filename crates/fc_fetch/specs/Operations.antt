-- The operation that the words of a command line ask for.
use Rattle.std.specs.Borrow.{Bor}
use Rattle.std.specs.Prelude.{◌≡◌, ◌≢◌, ◌⊎◌, ℕ, ◌<◌, ◌^◌, not, Bool, true, false, List, Option, Some, None, codes, is_some, option_map, unwrap_or}
use Rattle.std.specs.Str.Parse.{IsNumeral, digits_value, without_leading_plus}
use Rattle.clap.specs.Matches.{first_value, one_text}
use Rattle.clap.specs.declared.parser.matches.Found.{Found}
use Rattle.coap_opts.specs.declared.request.Method.{Method}
use Rattle.coap_opts.specs.declared.request.Method.TheVariants.{Get, Post, Put, Delete}
use Rattle.fc_fetch.specs.declared.client.FetchOptions.{FetchOptions}
use Rattle.fc_fetch.specs.declared.observer.Observing.{Observing}
use Rattle.fc_fetch.specs.declared.operation.Operation.{Operation}
use Rattle.fc_fetch.specs.declared.operation.Operation.TheVariants as operation
use Rattle.fc_fetch.specs.declared.operation.OperationError.{OperationError}
use Rattle.fc_fetch.specs.declared.operation.OperationError.TheVariants as operation_error
use Rattle.fc_fetch.specs.declared.operation.BodySource.{BodySource}
use Rattle.fc_fetch.specs.declared.operation.BodySource.TheVariants as source
use Rattle.fc_fetch.specs.declared.ping.Pinging.{Pinging}
use Rattle.fc_fetch.specs.declared.printer.Shown.{Shown}
use Rattle.fc_fetch.specs.declared.printer.Shown.TheVariants.{Hex, Text}

-- ---- options

-- the value of a flag: an absent flag and `false` aren't set, and `true` is.
pub record IsFlagOf (text : Option (List ℕ)) (set : Bool) : Type 0 where
  pub none : text ≡ None → set ≡ false
  pub on : text ≡ Some (codes "true") → set ≡ true
  pub off : text ≡ Some (codes "false") → set ≡ false

-- the text is decimal digits, with or without a plus before them.
abbrev pub IsDecimal : List ℕ → Type 0
IsDecimal text = IsNumeral 10 (without_leading_plus text)

abbrev pub decimal_value : List ℕ → ℕ
decimal_value text = digits_value 10 (without_leading_plus text)

-- the number that an option's text gives: a decimal number of `bits` bits. Without such a text
-- there is none.
abbrev pub IsNumberOf : ℕ → Option (List ℕ) → Option ℕ → Type 0
IsNumberOf bits None number = number ≡ None
IsNumberOf bits (Some text) (Some n) = IsDecimal text × (n ≡ decimal_value text)
IsNumberOf bits (Some text) None = IsDecimal text → decimal_value text < 2 ^ bits → ⊥

-- the printed form of bytes: text with `--text`, and else hex.
abbrev pub IsShownIn : Found → Shown → Type 0
IsShownIn f Text = IsFlagOf (one_text f (codes "text")) true
IsShownIn f Hex = IsFlagOf (one_text f (codes "text")) false

-- the word names this method, in lower case; or it names none of the four.
abbrev pub IsMethodOf : List ℕ → Option Method → Type 0
IsMethodOf word (Some Get) = word ≡ codes "get"
IsMethodOf word (Some Post) = word ≡ codes "post"
IsMethodOf word (Some Put) = word ≡ codes "put"
IsMethodOf word (Some Delete) = word ≡ codes "delete"
IsMethodOf word None = (word ≢ codes "get") × (word ≢ codes "post") × (word ≢ codes "put") × (word ≢ codes "delete")

-- ---- the body of a request

-- the body's source: none with `-n`, a text with `-e`, and a file with `-f`. Without any of the
-- three options it is standard input.
abbrev pub IsBodyIn : Found → BodySource → Type 0
IsBodyIn f source.None = IsFlagOf (one_text f (codes "no-body")) true × (first_value f (codes "body") ≡ None) × (first_value f (codes "file") ≡ None)
IsBodyIn f (source.Text text) = IsFlagOf (one_text f (codes "no-body")) false × (first_value f (codes "body") ≡ Some text.now) × (first_value f (codes "file") ≡ None)
IsBodyIn f (source.File name) = IsFlagOf (one_text f (codes "no-body")) false × (first_value f (codes "body") ≡ None) × (first_value f (codes "file") ≡ Some name.now)
IsBodyIn f source.Input = IsFlagOf (one_text f (codes "no-body")) false × (first_value f (codes "body") ≡ None) × (first_value f (codes "file") ≡ None)

abbrev pub HasValue : Found → List ℕ → Type 0
HasValue f id = is_some (first_value f id) ≡ true

-- more than one of the options `-n`, `-e` and `-f` is given.
abbrev pub HasTwoBodies : Found → Type 0
HasTwoBodies f =
    (IsFlagOf (one_text f (codes "no-body")) true × (HasValue f (codes "body") ⊎ HasValue f (codes "file"))) ⊎ (HasValue f (codes "body") × HasValue f (codes "file"))

-- the source of a body that would be read from a terminal: a GET and a DELETE have no body.
abbrev pub body_of_terminal : Method → BodySource
body_of_terminal Get = source.None
body_of_terminal Delete = source.None
body_of_terminal other = source.Input

abbrev pub body_at : Bool → Method → BodySource → BodySource
body_at true method source.Input = body_of_terminal method
body_at terminal method body = body

-- ---- its Content-Format (RFC 7252, 12.3)

abbrev pub IsFormatNamed : List ℕ → ℕ → Type 0
IsFormatNamed text n =
    ((text ≡ codes "text/plain") × (n ≡ 0))
    ⊎ (((text ≡ codes "application/link-format") × (n ≡ 40))
    ⊎ (((text ≡ codes "application/xml") × (n ≡ 41))
    ⊎ (((text ≡ codes "application/octet-stream") × (n ≡ 42))
    ⊎ (((text ≡ codes "application/exi") × (n ≡ 47))
    ⊎ ((text ≡ codes "application/json") × (n ≡ 50))))))

abbrev pub IsNoName : List ℕ → Type 0
IsNoName text =
    (text ≢ codes "text/plain")
    × (text ≢ codes "application/link-format")
    × (text ≢ codes "application/xml")
    × (text ≢ codes "application/octet-stream")
    × (text ≢ codes "application/exi")
    × (text ≢ codes "application/json")

-- the number of a Content-Format, by its name or in digits; or none if the text is neither.
abbrev pub IsFormatOf : List ℕ → Option ℕ → Type 0
IsFormatOf text (Some n) = IsFormatNamed text n ⊎ (IsNoName text × IsNumberOf 16 (Some text) (Some n))
IsFormatOf text None = IsNoName text × IsNumberOf 16 (Some text) None

abbrev pub IsFormatIn : Found → Option ℕ → Type 0
IsFormatIn f None = first_value f (codes "format") ≡ None
IsFormatIn f (Some n) = (text : List ℕ) × (first_value f (codes "format") ≡ Some text) × IsFormatOf text (Some n)

abbrev pub HasNoFormat : Found → Type 0
HasNoFormat f = (text : List ℕ) × (first_value f (codes "format") ≡ Some text) × IsFormatOf text None

-- ---- options that don't go with all operations

-- an option is given that only requests have.
abbrev pub IsForRequest : Found → Type 0
IsForRequest f =
    IsFlagOf (one_text f (codes "non")) true
    ⊎ (HasValue f (codes "file") ⊎ (HasValue f (codes "body") ⊎ (HasValue f (codes "format") ⊎ HasValue f (codes "output"))))

pub record IsForNoRequest (f : Found) : Type 0 where
  pub confirmable : IsFlagOf (one_text f (codes "non")) false
  pub no_file : first_value f (codes "file") ≡ None
  pub no_body : first_value f (codes "body") ≡ None
  pub no_format : first_value f (codes "format") ≡ None
  pub no_output : first_value f (codes "output") ≡ None

-- a number is given for this option.
abbrev pub IsGiven : Option (List ℕ) → Type 0
IsGiven text = (n : ℕ) × IsNumberOf 32 text (Some n)

-- a number of lines or of seconds is given.
abbrev pub IsLimited : Found → Type 0
IsLimited f = IsGiven (one_text f (codes "count")) ⊎ IsGiven (one_text f (codes "seconds"))

pub record IsUnlimited (f : Found) : Type 0 where
  pub no_count : IsNumberOf 32 (one_text f (codes "count")) None
  pub no_seconds : IsNumberOf 32 (one_text f (codes "seconds")) None

-- ---- operations

-- a request with the command line's method, target and body. It is confirmable without `-N`. The
-- response's bytes go to the file that `-o` names, if there is `-o`.
pub record IsFetchIn (f : Found) (asking : FetchOptions) (body : BodySource) (output : Option (Bor (List ℕ))) : Type 0 where
  pub word : List ℕ
  pub word_is : first_value f (codes "method") ≡ Some word
  pub method_is : IsMethodOf word (Some asking.method)
  pub target_is : first_value f (codes "target") ≡ Some asking.target.now
  pub type_is : IsFlagOf (one_text f (codes "non")) (not asking.confirmable)
  pub port_is : IsNumberOf 16 (one_text f (codes "port")) asking.port
  pub shown_is : IsShownIn f asking.shown
  pub body_is : IsBodyIn f body
  pub source_is : asking.source.now ≡ unwrap_or (first_value f (codes "file")) (codes "standard input")
  pub format_is : IsFormatIn f asking.content_format
  pub output_is : option_map (λ name. name.now) output ≡ first_value f (codes "output")
  pub unlimited : IsUnlimited f

-- an observation of the command line's target, with the limits of lines and of seconds that are
-- given.
pub record IsObservationIn (f : Found) (observing : Observing) : Type 0 where
  pub word_is : first_value f (codes "method") ≡ Some (codes "observe")
  pub target_is : first_value f (codes "target") ≡ Some observing.target.now
  pub port_is : IsNumberOf 16 (one_text f (codes "port")) observing.port
  pub shown_is : IsShownIn f observing.shown
  pub count_is : IsNumberOf 32 (one_text f (codes "count")) observing.extent.count
  pub seconds_is : IsNumberOf 32 (one_text f (codes "seconds")) observing.extent.seconds
  pub no_request : IsForNoRequest f

-- a ping of the command line's target, or of its port.
pub record IsPingIn (f : Found) (pinging : Pinging) : Type 0 where
  pub word_is : first_value f (codes "method") ≡ Some (codes "ping")
  pub target_is : option_map (λ text. text.now) pinging.target ≡ first_value f (codes "target")
  pub port_is : IsNumberOf 16 (one_text f (codes "port")) pinging.port
  pub no_request : IsForNoRequest f
  pub unlimited : IsUnlimited f

abbrev pub IsOperationIn : Found → Operation → Type 0
IsOperationIn f (operation.Fetch asking) = IsFetchIn f asking.options asking.body asking.output
IsOperationIn f (operation.Observe observing) = IsObservationIn f observing
IsOperationIn f (operation.Ping pinging) = IsPingIn f pinging

-- ---- errors

-- a word that is no method, and neither `observe` nor `ping`.
pub record IsUnknown (word : List ℕ) : Type 0 where
  pub no_method : IsMethodOf word None
  pub no_observation : word ≢ codes "observe"
  pub no_ping : word ≢ codes "ping"

-- the method is missing or unknown, or the target is missing and the method isn't `ping`.
abbrev pub IsMissing : Found → Type 0
IsMissing f =
    (first_value f (codes "method") ≡ None)
    ⊎ (((first_value f (codes "target") ≡ None) × (first_value f (codes "method") ≢ Some (codes "ping")))
    ⊎ ((word : List ℕ) × (first_value f (codes "method") ≡ Some word) × IsUnknown word))

-- the reason why the words of a command line are no operation:
-- - `Request`: an observation has an option of requests.
-- - `Extent`: a request has a number of lines or of seconds.
-- - `Missing`: a word is missing or unknown.
-- - `Bodies`: more than one body is given.
-- - `Format`: the format is unknown.
-- - `Ping`: a ping has an option of requests, or a number of lines or of seconds.
abbrev pub IsOperationError : Found → OperationError → Type 0
IsOperationError f operation_error.Request = (first_value f (codes "method") ≡ Some (codes "observe")) × IsForRequest f
IsOperationError f operation_error.Extent =
    (first_value f (codes "method") ≢ Some (codes "observe")) × (first_value f (codes "method") ≢ Some (codes "ping")) × IsLimited f
IsOperationError f operation_error.Missing = IsMissing f
IsOperationError f operation_error.Bodies = HasTwoBodies f
IsOperationError f operation_error.Format = HasNoFormat f
IsOperationError f operation_error.Ping = (first_value f (codes "method") ≡ Some (codes "ping")) × (IsForRequest f ⊎ IsLimited f)
