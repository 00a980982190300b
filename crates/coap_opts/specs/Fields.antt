-- The fields of a request, derived from its message, and their limits (RFC 7252, section 5.10; RFC
-- 7641, section 2; RFC 7959, section 2.1).
use Rattle.std.specs.Prelude.{◌≡◌, ℕ, Some, ◌<◌, List, [], ◌∷◌, codes, ◌≢◌, Bool, true, false, length, Option, IfSome, ◌≤◌}
use Rattle.coap_msg.specs.Wire.{Message}
use Rattle.coap_opts.specs.declared.number.TheConstants as option
use Rattle.coap_opts.specs.declared.request.Method.{Method}
use Rattle.coap_opts.specs.declared.request.Method.TheVariants.{Get, Post, Put, Delete}
use Rattle.coap_opts.specs.Path.{method_of}
use Rattle.coap_opts.specs.Served.{resource_in, action_of}
use Rattle.coap_opts.specs.Verdict.{Asked, asked_with, block_in, etags, number_in, observe_at, query, resource, values}
use Rattle.std.specs.Fmt.{decimal}
use Rattle.coap_opts.specs.declared.request.Resource.{Resource}
use Rattle.coap_opts.specs.declared.request.Resource.TheVariants.{Run, Program, Core}
use Rattle.coap_opts.specs.declared.request.Action.{Action}
use Rattle.coap_opts.specs.declared.request.Action.TheVariants as actions
use Rattle.coap_opts.specs.Values.{Place}

-- the method of an action.
abbrev pub method_in : Action → Method
method_in (actions.Get n) = Get
method_in (actions.Post n) = Post
method_in (actions.Install n) = Put
method_in (actions.Remove n) = Delete
method_in (actions.Describe n) = Get
method_in actions.Discover = Get

-- the slot of a resource is below 64.
abbrev pub IsResource : Resource → Type 0
IsResource (Run n) = n < 64
IsResource (Program n) = n < 64
IsResource Core = Unit {0}

-- the one path of a resource, with its slot in decimal digits without leading zeros.
abbrev pub path_of : Resource → List (List ℕ)
path_of (Run n) = codes "r" ∷ decimal n ∷ []
path_of (Program n) = codes "p" ∷ decimal n ∷ []
path_of Core = codes ".well-known" ∷ codes "core" ∷ []

-- the code of a method (RFC 7252, section 12.1.1).
abbrev pub method_code : Method → ℕ
method_code Get = 1
method_code Post = 2
method_code Put = 3
method_code Delete = 4

-- the method is that of the message's code, the resource is that of its Uri-Path, and the payload
-- is the message's; each other field is the value of the options with one number.
pub record IsMadeOf (m : Message) (r : Asked) : Type 0 where
  pub method_is : method_of m.code ≡ Some (method_in r.action)
  pub resource_is : resource m ≡ Some (resource_in r.action)
  pub path_is : values option.URI_PATH m ≡ path_of (resource_in r.action)
  pub query_is : r.query ≡ query m
  pub content_format_is : r.content_format ≡ number_in option.CONTENT_FORMAT m
  pub etags_are : r.etags ≡ etags m
  pub observe_is : r.observe ≡ observe_at r.action (number_in option.OBSERVE m)
  pub block1_is : r.block1 ≡ block_in option.BLOCK1 m
  pub block2_is : r.block2 ≡ block_in option.BLOCK2 m
  pub payload_is : r.payload ≡ m.payload
  pub request_is : r ≡ asked_with r.action m

-- the action is a GET of a resource that a program serves.
abbrev pub is_get : Action → Bool
is_get (actions.Get n) = true
is_get _ = false

-- if there is a block, the request has the wanted method, and the block's size isn't reserved.
abbrev pub IsBlockFor : Method → Method → Option Place → Type 0
IsBlockFor wanted method block = IfSome block (λ b. (method ≡ wanted) × (b.szx < 7))

-- an accepted request: its resource exists and serves its method, its payload is the message's, and
-- each field is within its limits.
pub record IsAskedWithin (m : Message) (r : Asked) : Type 0 where
  pub method : method_of m.code ≡ Some (method_in r.action)
  pub resource : IsResource (resource_in r.action)
  pub served : action_of (resource_in r.action) (method_in r.action) ≡ Some r.action
  pub query : length r.query ≤ 64
  pub etags : length r.etags ≤ 4
  pub etags_in_get : method_in r.action ≢ Get → r.etags ≡ []
  pub observe : IfSome r.observe (λ value. is_get r.action ≡ true)
  pub block1 : IsBlockFor Put (method_in r.action) r.block1
  pub block2 : IsBlockFor Get (method_in r.action) r.block2
  pub payload_is : r.payload ≡ m.payload
  pub short : length m.payload ≤ 1024
