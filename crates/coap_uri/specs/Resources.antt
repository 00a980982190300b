-- The resource that an address names.
use Rattle.std.specs.Global.{Vec}
use Rattle.std.specs.Prelude.{◌≡◌, ℕ, ◌≤◌, nat_lt, true, List, length}
use Rattle.std.specs.List.{All, list_any}
use Rattle.coap_client.specs.PathErrors.{IsPathFault}
use Rattle.coap_client.specs.Paths.{IsSlashed, slices_in}
use Rattle.coap_client.specs.declared.client_request.RequestTarget.{RequestTarget}
use Rattle.coap_uri.specs.Addresses.{texts_in}
use Rattle.coap_uri.specs.declared.address.Address.{Address}
use Rattle.coap_uri.specs.declared.resource.ResourceError.{ResourceError}
use Rattle.coap_uri.specs.declared.resource.ResourceError.TheVariants as resource_error

-- the resource has the segments of the address's path, whose text has a slash before each segment.
-- It also has the arguments of the address's query, of at most 255 bytes each (RFC 7252, section
-- 5.10).
pub record IsResourceOf (a : Address) (t : RequestTarget) : Type 0 where
  pub path_is : IsSlashed a.path.items (slices_in t.path.segments.items)
  pub query_is : slices_in t.query.items ≡ texts_in a.query.items
  pub short : All (λ argument. length argument ≤ 255) (texts_in a.query.items)

-- the reason why arguments are no query: one has more than 255 bytes, or memory can't be allocated.
abbrev pub HasLongArgument : List (Vec ℕ) → ResourceError → Type 0
HasLongArgument arguments (resource_error.Path error) = ⊥
HasLongArgument arguments resource_error.Argument = list_any (λ argument. nat_lt 255 (length argument.items)) arguments ≡ true
HasLongArgument arguments resource_error.NoMemory = Unit {0}

-- the reason why an address names no resource: its path is malformed, an argument of its query is
-- too long, or memory can't be allocated.
abbrev pub IsNoResource : Address → ResourceError → Type 0
IsNoResource a (resource_error.Path error) = IsPathFault a.path.items error
IsNoResource a other = HasLongArgument a.query.items other
