-- The verdict on a message: the required reaction, and the fields of an accepted request.
use Rattle.std.specs.Prelude.{ℕ, ◌==◌, ◌&&◌, ◌||◌, not, Bool, true, false, nat_lt, if◌then◌else◌, List, [], ◌∷◌, length, take, map, Option, Some, None, codes}
use Rattle.std.specs.List.{filter, join_by}
use Rattle.std.specs.Option.{option_map}
use Rattle.coap_msg.specs.declared.types.MessageType.{MessageType}
use Rattle.coap_msg.specs.declared.types.MessageType.TheVariants as kind
use Rattle.coap_msg.specs.declared.code.TheConstants.Code as registered
use Rattle.coap_msg.specs.Wire.{Message}
use Rattle.coap_msg.specs.Reading.{◌>>=◌}
use Rattle.coap_opts.specs.declared.number.TheConstants as option
use Rattle.coap_opts.specs.declared.request.Action.{Action}
use Rattle.coap_opts.specs.declared.request.Action.TheVariants as actions
use Rattle.coap_opts.specs.declared.request.Request.{Request}
use Rattle.coap_opts.specs.declared.request.Resource.{Resource}
use Rattle.coap_opts.specs.Values.{Place, place_in, uint_value}
use Rattle.coap_opts.specs.Recognition.{values_of, has_unknown_critical}
use Rattle.coap_opts.specs.Path.{method_of, resource_of}
use Rattle.coap_opts.specs.Served.{action_of}

-- ---- the fields of a request

-- the values of a message's recognised options with one number.
abbrev pub values : ℕ → Message → List (List ℕ)
values number m = values_of number m.code None m.options

-- the first element, if there is one.
abbrev pub first_of : {A : Type 0} → List A → Option A
first_of [] = None
first_of (x ∷ xs) = Some x

-- there is a value.
abbrev pub has : {A : Type 0} → Option A → Bool
has None = false
has (Some x) = true

-- the integer that the option with this number represents, if it is present; the first value
-- counts.
abbrev pub number_in : ℕ → Message → Option ℕ
number_in number m = option_map uint_value (first_of (values number m))

-- the block that the option with this number represents, if it is present; the first value counts.
abbrev pub block_in : ℕ → Message → Option Place
block_in number m = option_map place_in (first_of (values number m))

-- the values of Uri-Query, joined by `&`.
abbrev pub query : Message → List ℕ
query m = join_by (λ v. v) (codes "&") (values option.URI_QUERY m)

-- the first four ETags of 8 bytes.
abbrev pub etags : Message → List ℕ
etags m = take 4 (map uint_value (filter (λ v. length v == 8) (values option.ETAG m)))

-- the resource that the segments of Uri-Path name.
abbrev pub resource : Message → Option Resource
resource m = resource_of (values option.URI_PATH m)

-- the action of a message; `None` unless its path names a resource that serves its method.
abbrev pub action : Message → Option Action
action m = method_of m.code >>= λ method. resource m >>= λ at. action_of at method

-- the value of Observe for an action that runs a program; `None` for another action.
abbrev pub observe_at : Action → Option ℕ → Option ℕ
observe_at (actions.Get n) value = value
observe_at (actions.Post n) value = value
observe_at _ value = None

-- an accepted request.
pub record Asked : Type 0 where
  pub action : Action
  pub query : List ℕ
  pub content_format : Option ℕ
  pub etags : List ℕ
  pub observe : Option ℕ
  pub block1 : Option Place
  pub block2 : Option Place
  pub payload : List ℕ

-- the request with this action whose other fields are the message's.
abbrev pub asked_with : Action → Message → Asked
asked_with action m = record {
  action = action;
  query = query m;
  content_format = number_in option.CONTENT_FORMAT m;
  etags = etags m;
  observe = observe_at action (number_in option.OBSERVE m);
  block1 = block_in option.BLOCK1 m;
  block2 = block_in option.BLOCK2 m;
  payload = m.payload;
}

-- the request that a message carries, if the message has an action.
unfoldable pub asked : Message → Option Asked
asked m = action m >>= λ action. Some (asked_with action m)

-- the request that the code returns, by value, without the borrow of its payload. The contracts of
-- the classifier use it; the verdict doesn't.
abbrev pub asked_by : Request → Asked
asked_by r = record {
  action = r.action;
  query = r.query.items;
  content_format = r.content_format;
  etags = r.etags.items;
  observe = r.observe;
  block1 = r.block1;
  block2 = r.block2;
  payload = r.payload.now;
}

-- ---- the checks

-- Proxy-Uri or Proxy-Scheme is present (RFC 7252, section 5.10.2).
abbrev pub names_proxy : Message → Bool
names_proxy m = has (first_of (values option.PROXY_URI m)) || has (first_of (values option.PROXY_SCHEME m))

-- the block has the reserved size, 7 (RFC 7959, section 2.2).
abbrev pub is_reserved : Option Place → Bool
is_reserved None = false
is_reserved (Some block) = block.szx == 7

-- a block has the reserved size, or the query is too long.
abbrev pub is_bad : Option Place → Option Place → Bool → Bool
is_bad block1 block2 is_long = (is_reserved block1 || is_reserved block2) || is_long

-- a block has the reserved size, or the query has more than 64 bytes.
abbrev pub has_bad_value : Message → Bool
has_bad_value m = is_bad (block_in option.BLOCK1 m) (block_in option.BLOCK2 m) (nat_lt 64 (length (query m)))

-- the checks in their order: whether each fails, and the response code for its failure.
abbrev pub checks : Message → List (Bool × ℕ)
checks m =
    (names_proxy m, registered.PROXYING_NOT_SUPPORTED.byte)
    ∷ (has_unknown_critical m.code None m.options, registered.BAD_OPTION.byte)
    ∷ (not (has (method_of m.code)), registered.METHOD_NOT_ALLOWED.byte)
    ∷ (not (has (resource m)), registered.NOT_FOUND.byte)
    ∷ (not (has (action m)), registered.METHOD_NOT_ALLOWED.byte)
    ∷ (has_bad_value m, registered.BAD_REQUEST.byte)
    ∷ (nat_lt 1024 (length m.payload), registered.REQUEST_ENTITY_TOO_LARGE.byte)
    ∷ []

-- the code of the first check that fails, if one fails.
abbrev pub first_failing : List (Bool × ℕ) → Option ℕ
first_failing [] = None
first_failing ((fails, answer) ∷ more) = if fails then Some answer else first_failing more

-- the code of the first check that a request fails; `None` if it passes all checks.
unfoldable pub refusal_code : Message → Option ℕ
refusal_code m = first_failing (checks m)

-- ---- the verdict

-- the verdict on a message. A request is accepted, is refused with a code, or gets no response.
-- Another message is rejected with a Reset message, is a signal (`true` for a Reset message), or is
-- ignored.
pub data Verdict : Type 0 where
  IsAsked : Asked → Verdict
  IsRefused : ℕ → Verdict
  IsSilent : Verdict
  IsReset : Verdict
  IsSignal : Bool → Verdict
  IsIgnored : Verdict

-- the code has class 0 and isn't 0.00.
abbrev pub is_request : ℕ → Bool
is_request c = nat_lt 0 c && nat_lt c 32

-- the verdict for a refused request. A non-confirmable request with an unrecognised critical option
-- gets no response (RFC 7252, section 5.4.1); every other one gets the code.
abbrev pub refusal_verdict : MessageType → ℕ → Verdict
refusal_verdict kind.NonConfirmable answer = if answer == registered.BAD_OPTION.byte then IsSilent else IsRefused answer
refusal_verdict _ answer = IsRefused answer

-- the verdict for a request that passed all checks; its fields then exist.
abbrev pub accepted : Option Asked → Verdict
accepted (Some r) = IsAsked r
accepted None = IsIgnored

-- the verdict for a request, from the code of the first check that fails.
abbrev pub verdict_by_check : Message → Option ℕ → Verdict
verdict_by_check m (Some answer) = refusal_verdict m.kind answer
verdict_by_check m None = accepted (asked m)

-- the verdict for a request.
abbrev pub request_verdict : Message → Verdict
request_verdict m = verdict_by_check m (refusal_code m)

-- the verdict for a message, from its type and its code (RFC 7252, sections 4.2 and 4.3).
abbrev pub verdict_by : MessageType → Message → Verdict
verdict_by kind.Confirmable m = if is_request m.code then request_verdict m else IsReset
verdict_by kind.NonConfirmable m = if is_request m.code then request_verdict m else IsIgnored
verdict_by kind.Acknowledgement m = if m.code == 0 then IsSignal false else IsIgnored
verdict_by kind.Reset m = if m.code == 0 then IsSignal true else IsIgnored

-- the verdict for a message.
unfoldable pub verdict : Message → Verdict
verdict m = verdict_by m.kind m

-- ---- limits of a verdict
