-- A block of a body has at most 1,024 bytes.
use Rattle.std.proofs.Common.{◌≡◌, ℕ, ◌+◌, ◌*◌, ◌≤◌, min, nat_lt, Bool, true, false, List, length, take, Option, Some, None, subst, refl, arith, if◌then◌else◌}
use Rattle.std.specs.Option.{option_map}
use Rattle.std.specs.Prelude.{drop}
use Rattle.std.proofs.Math.Pow.{pow_mono}
use Rattle.std.proofs.Math.Nat.{min-le_left, min-le_right}
use Rattle.std.proofs.lemmas.Bool.{ltb-false}
use Rattle.std.proofs.lemmas.List.{length-take}
use Rattle.coap_opts.specs.Values.{Place, block_size}
use Rattle.coap_block.specs.Cuts.{Part, block_at, cut_at, cut_of, is_past}
use Rattle.coap_reply.specs.Blocks.{asked_place}

sized : (n : ℕ) (bytes : List ℕ) → n ≤ 1024 → length (take n bytes) ≤ 1024
sized n bytes le = let long : length (take n bytes) ≡ min n (length bytes) = length-take n bytes in let most : min n (length bytes) ≤ n = min-le_left n (length bytes) in omega arith

small : (szx : ℕ) → szx ≤ 6 → block_size szx ≤ 1024
small szx le = let most : szx + 4 ≤ 10 = omega arith in pow_mono most

by_past : (past : Bool) (bytes : List ℕ) (number szx : ℕ) (part : Part) → szx ≤ 6 → (if past then None else Some (block_at bytes number szx)) ≡ Some part → length part.bytes ≤ 1024
by_past true bytes number szx part le e = absurd (cc e)
by_past false bytes number szx part le e =
    let same : block_at bytes number szx ≡ part = cc e in
    subst (λ (p : Part). length p.bytes ≤ 1024) same (sized (block_size szx) (drop (number * block_size szx) bytes) (small szx le))

at : (bytes : List ℕ) (number szx : ℕ) (part : Part) → szx ≤ 6 → cut_at bytes number szx ≡ Some part → length part.bytes ≤ 1024
at bytes number szx part le e = by_past (is_past bytes number szx) bytes number szx part le e

unasked : (b : Bool) (bytes : List ℕ) (part : Part) → nat_lt 1024 (length bytes) ≡ b → (if b then cut_at bytes 0 6 else Some (record { bytes = bytes; place = None })) ≡ Some part → length part.bytes ≤ 1024
unasked true bytes part is e = at bytes 0 6 part (omega arith) e
unasked false bytes part is e =
    let same : record { bytes = bytes; place = None } ≡ part = cc e in
    subst (λ (p : Part). length p.bytes ≤ 1024) same (ltb-false 1024 (length bytes) is)

pub cut_within : (asked : Option Place) (bytes : List ℕ) (part : Part) → cut_of bytes (option_map asked_place asked) ≡ Some part → length part.bytes ≤ 1024
cut_within None bytes part e = unasked (nat_lt 1024 (length bytes)) bytes part refl e
cut_within (Some place) bytes part e = at bytes place.number (min place.szx 6) part (min-le_right place.szx 6) e
