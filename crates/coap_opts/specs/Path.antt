-- Methods and resources, by code and path.
use Rattle.std.specs.Prelude.{ℕ, ◌+◌, ◌-◌, ◌*◌, ◌==◌, ◌&&◌, nat_lt, nat_le, if◌then◌else◌, List, [], ◌∷◌, Option, Some, None, codes}
use Rattle.std.specs.Str.{bytes_eq}
use Rattle.coap_msg.specs.Reading.{◌>>=◌, guard}
use Rattle.coap_msg.specs.declared.code.TheConstants.Code.{GET, POST, PUT, DELETE}
use Rattle.coap_opts.specs.declared.request.Method.{Method}
use Rattle.coap_opts.specs.declared.request.Method.TheVariants.{Get, Post, Put, Delete}
use Rattle.coap_opts.specs.declared.request.Resource.{Resource}
use Rattle.coap_opts.specs.declared.request.Resource.TheVariants.{Run, Program, Core}

-- the method with this code (RFC 7252, section 12.1.1); `None` if there is no such method.
abbrev pub method_of : ℕ → Option Method
method_of code =
    if code == GET.byte then Some Get else (if code == POST.byte then Some Post else (
    if code == PUT.byte then Some Put else (if code == DELETE.byte then Some Delete else None)))

-- the value of a decimal digit in ASCII; `None` for another byte.
abbrev pub digit : ℕ → Option ℕ
digit b = guard (nat_le 48 b && nat_lt b 58) (b - 48)

-- the slot that a segment names; `None` unless the segment is one digit, or two digits whose first
-- isn't 0, and the slot is below 64.
abbrev pub slot_named : List ℕ → Option ℕ
slot_named (b ∷ []) = digit b
slot_named (b ∷ c ∷ []) = digit b >>= λ tens. digit c >>= λ ones. guard (nat_lt 0 tens && nat_lt (10 * tens + ones) 64) (10 * tens + ones)
slot_named _ = None

-- the resource of a path of two segments: `/r/N` or `/p/N` for a slot N, or `/.well-known/core`
-- (RFC 6690, section 4); `None` for another path.
abbrev pub resource_named : List ℕ → List ℕ → Option Resource
resource_named first second =
    if bytes_eq first (codes "r") then (slot_named second >>= λ n. Some (Run n)) else (
    if bytes_eq first (codes "p") then (slot_named second >>= λ n. Some (Program n)) else (
    if bytes_eq first (codes ".well-known") && bytes_eq second (codes "core") then Some Core else None))

-- the resource that a path names, from its segments; `None` unless there are two.
abbrev pub resource_of : List (List ℕ) → Option Resource
resource_of (first ∷ second ∷ []) = resource_named first second
resource_of _ = None

-- ---- the inverse
