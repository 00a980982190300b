-- A new request without space is answered immediately, and so is a confirmable one above its
-- address's share. Neither request has another effect.
use Rattle.std.proofs.Common.{◌≡◌, ℕ, ◌∙◌, List, ◌++◌, length, map, Bool, true, false, refl, None, Option, ap, inl, inr, max}
use Rattle.std.specs.Borrow.{Bor}
use Rattle.std.specs.Prelude.{nat_lt}
use borrow.Author.Tests.{lt-ltb}
use Rattle.std.proofs.lemmas.Bool.{and_left, and_right, le-ltb}
use Rattle.std.proofs.lemmas.List.{append-nil}
use Rattle.coap_msg.specs.Wire.{Message}
use Rattle.coap_msg.specs.declared.types.Emission.{Emission}
use Rattle.coap_msg.specs.declared.types.Endpoint.{Endpoint}
use Rattle.coap_opts.specs.Verdict.{verdict}
use Rattle.coap_dedup.specs.Exchanges.{has_place, has_share, look_by, places_of, room_by}
use Rattle.coap_dedup.specs.declared.exchanges.Room.TheVariants as rooms
use Rattle.fc_core.specs.declared.event.Event.{Event}
use Rattle.fc_core.specs.declared.event.Event.TheVariants.{Deliver}
use Rattle.fc_laws.specs.ExchangeLaws.{ExceedsShare, FindsNoExchange, HasNoPlace, IsCrowdedOut, IsOverShare, bare_by, held_at, shared_at}
use Rattle.fc_laws.specs.PolicyLaws.{over_share_emits}
use Rattle.fc_core.specs.History.{Entry, Seen, and_then, exchanges_received, front_at, received_at, tasks_brought, tasks_moved, at_front, exchanges_by, additions_by, ids_by}
use Rattle.fc_front.specs.Ids.{Ids, drawn_for}
use Rattle.fc_core.specs.Legal.{Emits}
use Rattle.fc_front.specs.Receiving.{Received, Full, added_by, brought, drawn_by, is_confirmable, looked, next_opening, over_share, sent}
use Rattle.fc_core.specs.Stages.{new_task}
use Rattle.fc_core.specs.Transitions.{names}
use Rattle.fc_laws.proofs.front.Repeats.{new_as, request_is, table_at}

no_place : (s : Seen) (at : ℕ) → HasNoPlace s at → has_place (table_at s at) ≡ false
no_place s at (inl le) =
    and_left (nat_lt (length (held_at s at)) (places_of s.policy.limits)) (nat_lt (length s.exchanges) 18446744073709551615) (le-ltb (length (held_at s at)) (places_of s.policy.limits) le)
no_place s at (inr le) =
    and_right (nat_lt (length (held_at s at)) (places_of s.policy.limits)) (nat_lt (length s.exchanges) 18446744073709551615) (le-ltb (length s.exchanges) 18446744073709551615 le)

full_by : (share place : Bool) → share ≡ true → place ≡ false → room_by share place ≡ rooms.Full
full_by share place below none = λ i. room_by (below i) (none i)

over_by : (share place : Bool) → share ≡ false → room_by share place ≡ rooms.OverShare
over_by share place over = ap (λ (b : Bool). room_by b place) over

-- a new request without space for its exchange is classified as full.
pub full_is : (s : Seen) (now : ℕ) (to : Endpoint) (bytes : List ℕ) (m : Message) → IsCrowdedOut s now to bytes m → received_at s now to bytes ≡ Full m
full_is s now to bytes m w =
    request_is s now to bytes m None w.read w.asks w.new
    ∙ ap (λ b. looked (look_by None b) m (new_as (front_at s now) to (verdict m) m))
    (full_by (has_share (table_at s (max s.time now)) to.ip) (has_place (table_at s (max s.time now)))
    (lt-ltb (shared_at s (max s.time now) to.ip) s.policy.limits.share w.share) (no_place s (max s.time now) w.full))

-- a new request above its address's share is classified as above the share.
pub over_is : (s : Seen) (now : ℕ) (to : Endpoint) (bytes : List ℕ) (m : Message) → IsOverShare s now to bytes m → received_at s now to bytes ≡ over_share (is_confirmable m.kind) m
over_is s now to bytes m w =
    request_is s now to bytes m None w.read w.asks w.new
    ∙ ap (λ b. looked (look_by None b) m (new_as (front_at s now) to (verdict m) m))
    (over_by (has_share (table_at s (max s.time now)) to.ip) (has_place (table_at s (max s.time now)))
    (le-ltb (shared_at s (max s.time now) to.ip) s.policy.limits.share w.over))

full_opens : (s : Seen) (e : Event) (m : Message) (o : Option Emission) → FindsNoExchange s e m → exchanges_by (at_front e) o s ≡ s.exchanges
full_opens s (Deliver now to bytes) m o w = ap (λ (x : Received). exchanges_received x to o s now) (full_is s now to bytes.now m w) ∙ append-nil s.exchanges
full_opens s other m o w = absurd w

full_brings : (s : Seen) (e : Event) (m : Message) → FindsNoExchange s e m → tasks_moved (names e) e s ++ tasks_brought e s ≡ s.tasks
full_brings s (Deliver now to bytes) m w = ap (λ (x : Received). s.tasks ++ map new_task (brought x (next_opening (front_at s now)) to)) (full_is s now to bytes.now m w) ∙ append-nil s.tasks
full_brings s other m w = absurd w

full_adds : (s : Seen) (e : Event) (m : Message) → FindsNoExchange s e m → additions_by (at_front e) s ++ s.additions ≡ s.additions
full_adds s (Deliver now to bytes) m w = ap (λ (x : Received). added_by x (max s.time now) to ++ s.additions) (full_is s now to bytes.now m w)
full_adds s other m w = absurd w

full_emits : (s : Seen) (e : Event) (m : Message) (o : Option Emission) → FindsNoExchange s e m → Emits s e o → o ≡ bare_by s e m 163
full_emits s (Deliver now to bytes) m o w legal = legal ∙ ap (λ (x : Received). sent x (front_at s now) to) (full_is s now to bytes.now m w)
full_emits s other m o w legal = absurd w

pub no_room_opens : (r : Entry) (s : Seen) (m : Message) → FindsNoExchange s r.event m → (and_then r s).exchanges ≡ s.exchanges
no_room_opens r s m w = full_opens s r.event m r.emitted w

pub no_room_brings : (r : Entry) (s : Seen) (m : Message) → FindsNoExchange s r.event m → (and_then r s).tasks ≡ s.tasks
no_room_brings r s m w = full_brings s r.event m w

pub no_room_adds : (r : Entry) (s : Seen) (m : Message) → FindsNoExchange s r.event m → (and_then r s).additions ≡ s.additions
no_room_adds r s m w = full_adds s r.event m w

pub no_room_emits : (r : Entry) (s : Seen) (m : Message) → FindsNoExchange s r.event m → Emits s r.event r.emitted → r.emitted ≡ bare_by s r.event m 163
no_room_emits r s m w legal = full_emits s r.event m r.emitted w legal

-- ---- above a share

pub over_draws : (c : Bool) (m : Message) (ids : Ids) (at : ℕ) → is_confirmable m.kind ≡ c → drawn_by (over_share c m) ids at ≡ ids
over_draws true m ids at kind = ap (λ (b : Bool). drawn_for b ids at) kind
over_draws false m ids at kind = refl

over_ids : (s : Seen) (e : Event) (m : Message) → ExceedsShare s e m → ids_by (at_front e) s ≡ s.ids
over_ids s (Deliver now to bytes) m w = ap (λ (x : Received). drawn_by x s.ids (max s.time now)) (over_is s now to bytes.now m w) ∙ over_draws (is_confirmable m.kind) m s.ids (max s.time now) refl
over_ids s other m w = absurd w

over_sent : (c : Bool) (s : Seen) (now : ℕ) (to : Endpoint) (bytes : Bor (List ℕ)) (m : Message) → sent (over_share c m) (front_at s now) to ≡ over_share_emits c s (Deliver now to bytes) m
over_sent true s now to bytes m = refl
over_sent false s now to bytes m = refl

over_emits : (s : Seen) (e : Event) (m : Message) (o : Option Emission) → ExceedsShare s e m → Emits s e o → o ≡ over_share_emits (is_confirmable m.kind) s e m
over_emits s (Deliver now to bytes) m o w legal =
    legal ∙ (ap (λ (x : Received). sent x (front_at s now) to) (over_is s now to bytes.now m w) ∙ over_sent (is_confirmable m.kind) s now to bytes m)
over_emits s other m o w legal = absurd w

pub over_draws_none : (r : Entry) (s : Seen) (m : Message) → ExceedsShare s r.event m → (and_then r s).ids ≡ s.ids
over_draws_none r s m w = over_ids s r.event m w

pub over_emits_so : (r : Entry) (s : Seen) (m : Message) → ExceedsShare s r.event m → Emits s r.event r.emitted → r.emitted ≡ over_share_emits (is_confirmable m.kind) s r.event m
over_emits_so r s m w legal = over_emits s r.event m r.emitted w legal
