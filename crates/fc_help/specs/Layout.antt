-- The layout of a request in its region, and the request that a region contains.
use Rattle.std.specs.Prelude.{◌≡◌, ℕ, ◌-◌, ◌≤◌, List, length, take, drop, replicate, Option}
use Rattle.fc_help.specs.declared.request.Method.{Method}
use Rattle.fc_help.specs.Request.{Request}
use Rattle.fc_help.specs.Region.{region_of}

-- a request with these parts.
abbrev pub request_with : Method → ℕ → Option ℕ → List ℕ → List ℕ → Request
request_with method slot content_format query payload = record { method = method; slot = slot; content_format = content_format; query = query; payload = payload }

-- a request whose query and payload fit into its region.
pub record FitsRegion (r : Request) : Type 0 where
  pub query : length r.query ≤ 64
  pub payload : length r.payload ≤ 1024

-- the `size` bytes of the region from `at` on.
abbrev pub part_at : List ℕ → ℕ → ℕ → List ℕ
part_at region at size = take size (drop at region)

-- the request in the region, with a query and a payload of these lengths.
abbrev pub read_from : Method → ℕ → Option ℕ → ℕ → ℕ → List ℕ → Request
read_from method slot content_format query payload region = request_with method slot content_format (part_at region 16 query) (part_at region 80 payload)

-- the region is that of the request which it contains, and both lengths are those of the request's
-- query and payload.
pub record IsLaidOut (method : Method) (slot : ℕ) (content_format : Option ℕ) (query payload : ℕ) (region : List ℕ) : Type 0 where
  pub region_is : region ≡ region_of (read_from method slot content_format query payload region)
  pub fits : FitsRegion (read_from method slot content_format query payload region)
  pub query_is : length (part_at region 16 query) ≡ query
  pub payload_is : length (part_at region 80 payload) ≡ payload

-- all bytes from the place `at` on are zero.
abbrev pub IsZeroFrom : ℕ → List ℕ → Type 0
IsZeroFrom at bytes = drop at bytes ≡ replicate (length bytes - at) 0
