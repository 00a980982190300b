-- The result of `classify` as a verdict, and the facts about a message that passed its checks.
use Rattle.std.specs.Prelude.{◌≡◌, ℕ, false, Some, None, Result, Ok, Err, ◌≤◌}
use Rattle.coap_msg.specs.declared.code.Code.{Code}
use Rattle.coap_msg.specs.Wire.{Message}
use Rattle.coap_msg.specs.Codes.{code}
use Rattle.coap_opts.specs.declared.request.Method.{Method}
use Rattle.coap_opts.specs.declared.request.Action.{Action}
use Rattle.coap_opts.specs.declared.request.Resource.{Resource}
use Rattle.coap_opts.specs.declared.request.Request.{Request}
use Rattle.coap_opts.specs.declared.request.Asking.{Asking}
use Rattle.coap_opts.specs.declared.request.Asking.TheVariants as asking
use Rattle.coap_opts.specs.declared.request.Classified.{Classified}
use Rattle.coap_opts.specs.declared.request.Classified.TheVariants as classified
use Rattle.coap_opts.specs.Recognition.{has_unknown_critical}
use Rattle.coap_opts.specs.Path.{method_of}
use Rattle.coap_opts.specs.Served.{action_of}
use Rattle.coap_opts.specs.Verdict.{resource, Asked, asked, asked_by, names_proxy, refusal_code, Verdict, IsAsked, IsRefused, IsSilent, IsReset, IsSignal, IsIgnored}

-- the message passed the checks of its options.
pub record IsKnown (m : Message) : Type 0 where
  pub no_proxy : names_proxy m ≡ false
  pub no_unknown : has_unknown_critical m.code None m.options ≡ false

-- the message also passed the checks of its method and its path.
pub record IsServedAt (m : Message) (method : Method) (at : Resource) (action : Action) : Type 0 where
  pub known : IsKnown m
  pub method_is : method_of m.code ≡ Some method
  pub resource_is : resource m ≡ Some at
  pub served : action_of at method ≡ Some action

-- if the result is `Ok`, no check fails and `r` is the request of the message. An error is the code
-- of the first check that fails.
abbrev pub IsRequestOf : Message → Result (Unit {0}) Code → Request → Type 0
IsRequestOf m (Ok done) r = (refusal_code m ≡ None) × (asked m ≡ Some (asked_by r))
IsRequestOf m (Err answer) r = refusal_code m ≡ Some answer.byte

-- the fields of the request that was written in place.
abbrev pub written_over : Request → Unit {0} → Asked
written_over r done = asked_by r

-- the action for a request, as a verdict; `request` gives the fields of an accepted request.
abbrev pub asking_verdict : {R : Type 0} → (R → Asked) → Asking R → Verdict
asking_verdict request (asking.Serve told) = IsAsked (request told)
asking_verdict request (asking.Refuse answer) = IsRefused answer.byte
asking_verdict request asking.Silent = IsSilent

-- the class of a message, as a verdict; `request` gives the fields of an accepted request.
abbrev pub verdict_of : {R : Type 0} → (R → Asked) → Classified R → Verdict
verdict_of request (classified.Request done) = asking_verdict request done
verdict_of request classified.Reset = IsReset
verdict_of request (classified.Signal reset) = IsSignal reset
verdict_of request classified.Ignored = IsIgnored

-- a refusal has the code of a client error or a server error, 4.00 to 5.31.
pub record IsErrorCode (answer : ℕ) : Type 0 where
  pub at_least : code 4 0 ≤ answer
  pub at_most : answer ≤ code 5 31
