-- The served options and methods: a row for each recognised option, and an action for each method
-- of each resource.
use Rattle.std.specs.Prelude.{ℕ, true, false, List, Option, Some, None}
use Rattle.coap_msg.specs.declared.code.Code.{Code}
use Rattle.coap_opts.specs.declared.served.TheConstants.{OPTIONS}
use Rattle.coap_opts.specs.declared.served.Row.{Row}
use Rattle.coap_opts.specs.declared.request.Method.{Method}
use Rattle.coap_opts.specs.declared.request.Method.TheVariants.{Get, Post, Put, Delete}
use Rattle.coap_opts.specs.declared.request.Resource.{Resource}
use Rattle.coap_opts.specs.declared.request.Resource.TheVariants.{Run, Program, Core}
use Rattle.coap_opts.specs.declared.request.Action.{Action}
use Rattle.coap_opts.specs.declared.request.Action.TheVariants as actions

-- a row of an option that may occur once, for the law `options_are_recognised`.
abbrev pub once : ℕ → ℕ → ℕ → Option Code → Row
once number least greatest only = record { number = number; least = least; greatest = greatest; repeatable = false; only = only }

-- a row of an option that may occur more than once, for the law `options_are_recognised`.
abbrev pub repeatable : ℕ → ℕ → ℕ → Option Code → Row
repeatable number least greatest only = record { number = number; least = least; greatest = greatest; repeatable = true; only = only }

-- the rows of the table of recognised options; the law `options_are_recognised` states each.
unfoldable pub rows : List Row
rows = OPTIONS

-- GET and POST of `/r/N` run a program; PUT of `/p/N` installs a program, DELETE removes it, and
-- GET describes it; GET of `/.well-known/core` lists the resources.
abbrev pub action_of : Resource → Method → Option Action
action_of (Run n) Get = Some (actions.Get n)
action_of (Run n) Post = Some (actions.Post n)
action_of (Program n) Put = Some (actions.Install n)
action_of (Program n) Delete = Some (actions.Remove n)
action_of (Program n) Get = Some (actions.Describe n)
action_of Core Get = Some actions.Discover
action_of _ _ = None

-- ---- the inverse

-- the resource of an action.
abbrev pub resource_in : Action → Resource
resource_in (actions.Get n) = Run n
resource_in (actions.Post n) = Run n
resource_in (actions.Install n) = Program n
resource_in (actions.Remove n) = Program n
resource_in (actions.Describe n) = Program n
resource_in actions.Discover = Core
