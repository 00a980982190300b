-- The input of a program in a run, and the report of the run.
use Rattle.std.specs.Prelude.{◌≡◌, ◌≤◌, ℕ, length, Bool, true, false, List, [], ◌∷◌, ◌++◌, Option, Some, None, Ok, codes, replicate}
use Rattle.std.specs.Fmt.{decimal}
use Rattle.hex.specs.Hex.{decode_of, encode_lower}
use Rattle.coap_msg.specs.Codes.{code_text}
use Rattle.fc_help.specs.Region.{padded}
use Rattle.fc_help.specs.Request.{Request}
use Rattle.fc_help.specs.Layout.{request_with}
use Rattle.fc_help.specs.declared.request.Method.{Method}
use Rattle.fc_kinds.specs.Meaning.{Meaning, Program}
use Rattle.fc_machine.specs.Ran.{meaning_of, ran}
use Rattle.fc_tools.specs.declared.run_options.Asked.{Asked}

-- the digits encode the payload and the query of this request for slot 0.
pub record IsAskedBy (method : Method) (payload query : List ℕ) (r : Request) : Type 0 where
  pub payload_is : decode_of payload ≡ Ok r.payload
  pub query_is : decode_of query ≡ Ok r.query
  pub rest : r ≡ request_with method 0 None r.query r.payload

-- the digits encode the first readings, and zeros follow.
pub record SpellReadings (digits readings : List ℕ) : Type 0 where
  pub bytes : List ℕ
  pub bytes_are : decode_of digits ≡ Ok bytes
  pub few : length bytes ≤ 64
  pub readings_are : readings ≡ padded 64 bytes

-- bytes in hex digits, or `-` if there are none.
abbrev pub hex_or_dash : List ℕ → List ℕ
hex_or_dash [] = codes "-"
hex_or_dash (b ∷ bytes) = encode_lower (b ∷ bytes)

abbrev pub yes_or_no : Bool → List ℕ
yes_or_no true = codes "yes"
yes_or_no false = codes "no"

-- the report of a run with this meaning.
abbrev pub report_text : Meaning → List ℕ
report_text m =
    codes "code " ++ (code_text m.code ++ (codes "\nreply " ++ (hex_or_dash m.reply ++ (codes "\nvars " ++ (hex_or_dash m.vars
    ++ (codes "\nsteps " ++ (decimal m.steps ++ (codes "\nnotice " ++ (yes_or_no m.notice ++ codes "\n")))))))))

-- the digits encode the variables, if they are given.
abbrev pub AreHex : Option (List ℕ) → Option (List ℕ) → Type 0
AreHex None None = Unit {0}
AreHex (Some digits) (Some vars) = decode_of digits ≡ Ok vars
AreHex digits vars = ⊥

-- the variables for a program with `size` bytes of them: the given ones, or zeros.
abbrev pub found_by : ℕ → Option (List ℕ) → List ℕ
found_by size None = replicate size 0
found_by size (Some vars) = vars

-- the report of one run of a program with this input.
abbrev pub report_of : Program → Asked → List ℕ
report_of program asked = report_text (meaning_of (ran program asked.request (found_by program.vars_size asked.vars) asked.readings))
