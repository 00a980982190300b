-- There is room for the transfer of a fitting block.
use Rattle.std.proofs.Common.{◌≡◌, ℕ, ◌<◌, ◌≤◌, List, length, Bool, true, false, Option, Some, None, refl, arith}
use Rattle.std.specs.Prelude.{find, not, nat_lt, ◌==◌, ◌&&◌}
use borrow.Author.Tests.{ltb-true}
use Rattle.coap_msg.specs.declared.types.Endpoint.{Endpoint}
use Rattle.coap_opts.specs.Values.{Place}
use Rattle.coap_block.specs.declared.transfer.Transfer.{Transfer}
use Rattle.coap_block.specs.Uploads.{IsWhole, is_transfer_of, others, is_full, before_by, before_of, body_behind}
use Rattle.coap_block.proofs.Others.{others_fewer}

not_false : (b : Bool) → not b ≡ false → b ≡ true
not_false true e = refl
not_false false e = absurd (cc)

room_by : (held : List Transfer) (to : Endpoint) (n : ℕ) (b : Place) (bytes body : List ℕ) (first : Bool) (t : Option Transfer) → find (is_transfer_of to n) held ≡ t → length held ≤ 16 → (first && not (nat_lt (length (others to n held)) 16)) ≡ false → body_behind (before_by first t) b bytes ≡ IsWhole body → length (others to n held) < 16
room_by held to n b bytes body true t found le room whole = ltb-true (length (others to n held)) 16 (not_false _ room)
room_by held to n b bytes body false None found le room whole = absurd (cc)
room_by held to n b bytes body false (Some t) found le room whole = let lt = others_fewer (is_transfer_of to n) t held found in omega (arith, lt, le)

-- if a block fits, fewer than 16 transfers of other endpoints and slots are stored
pub has_room : (held : List Transfer) (to : Endpoint) (n : ℕ) (b : Place) (bytes body : List ℕ) → length held ≤ 16 → is_full b.number (length (others to n held)) ≡ false → body_behind (before_of b.number (find (is_transfer_of to n) held)) b bytes ≡ IsWhole body → length (others to n held) < 16
has_room held to n b bytes body le room whole = room_by held to n b bytes body (b.number == 0) (find (is_transfer_of to n) held) refl le room whole
