use Rattle.std.proofs.Common.{◌≡◌, ◌∙◌, ◌+◌, ◌<◌, ◌≤◌, ◌%◌, [], ◌∷◌, ◌++◌, Bool, ℕ, ap, sym, subst, refl, length, List, map, set, length-append, length-set, false, arith, None}
use Rattle.std.specs.Prelude.{find}
use Rattle.std.proofs.lemmas.List.{length-map}
use Rattle.coap_msg.specs.declared.types.Endpoint.{Endpoint}
use Rattle.circular_buffer.specs.Buffer.{Buffer}
use Rattle.coap_dedup.specs.declared.exchange.StoredResponse.{StoredResponse}
use Rattle.coap_dedup.specs.declared.exchange.Limits.{Limits}
use Rattle.coap_dedup.specs.declared.exchange.Opened.{Opened}
use Rattle.coap_dedup.specs.declared.key.Key.{Key}
use Rattle.coap_dedup.specs.Exchanges.{Exchange, IsNew, Table, look_at, places_of, room_at}
use Rattle.coap_dedup.specs.Calls.{opened}
use Rattle.coap_dedup.specs.Requests.{has_key}
use Rattle.coap_dedup.specs.Views.{IsArrived, as_exchange, kept_at, no_answer, with_answer}
use Rattle.coap_dedup.proofs.Arrival.{opened_arrived}
use Rattle.coap_dedup.proofs.Keys.{endpoint_is, id_is}
use Rattle.coap_dedup.proofs.Places.{has_space, new_key, opened_last}
use Rattle.coap_dedup.proofs.exchanges.Exchanges.open.Goals as goal

abbrev table : Limits → ℕ → ℕ → List Opened → List StoredResponse → Table
table limits now count os kept = record { limits = limits; now = now; opened = count; held = map (as_exchange kept) os }

-- if a request is new, fewer requests are stored than there are places
space : (limits : Limits) (now count : ℕ) (os : List Opened) (kept : List StoredResponse) (t : Table) (to : Endpoint) (id : ℕ) → table limits now count os kept ≡ t → look_at t to id ≡ IsNew → length os < places_of limits
space limits now count os kept t to id seen new =
    let few = has_space _ (table limits now count os kept) to.ip (ap (λ (x : Table). look_at x to id) seen ∙ new) in
    let long = length-map os (as_exchange kept) in
    omega (arith, few, long)

abbrev request : Key → Bool → ℕ → ℕ → Opened
request key confirmable number at = record { key = key; confirmable = confirmable; number = number; at = at }

abbrev as_opened : Key → Bool → ℕ → ℕ → Exchange
as_opened key confirmable number at = with_answer no_answer (request key confirmable number at)

arrived : (limits : Limits) (now count at : ℕ) (os : List Opened) (kept : List StoredResponse) (t : Table) (key : Key) (confirmable : Bool) → table limits now count os kept ≡ t → t.now ≤ at → IsArrived now count os → IsArrived at (count + 1) (os ++ request key confirmable count at ∷ [])
arrived limits now count at os kept t key confirmable seen le a = opened_arrived count now at os (request key confirmable count at) (subst (λ (x : Table). x.now ≤ at) (sym seen) le) refl refl a

pub push-requires-clause-room : goal.push-requires-clause-room
push-requires-clause-room c =
    let few = space c.self.inside.limits c.self.inside.now c.self.inside.opened c.self.inside.requests.items c.self.inside.answers c.args.self.now c.args.endpoint c.args.id c.self.view_is c.requires.new in
    let capacity = c.self.invariant.0.capacity in
    omega (arith, few, capacity)

pub push-requires-clause-new : goal.push-requires-clause-new
push-requires-clause-new c =
    let os = c.self.inside.requests.items in
    let kept = c.self.inside.answers in
    ap (λ (k : Key). find (has_key k) os) c.new.ensures.key ∙ new_key kept c.args.endpoint c.args.id (room_at (table c.self.inside.limits c.self.inside.now c.self.inside.opened os kept) c.args.endpoint.ip) os c.new.ensures.peer (ap (λ (t : Table). look_at t c.args.endpoint c.args.id) c.self.view_is ∙ c.requires.new)

pub push-requires-clause-order : goal.push-requires-clause-order
push-requires-clause-order c = let a = arrived c.self.inside.limits c.self.inside.now c.self.inside.opened c.args.now c.self.inside.requests.items c.self.inside.answers c.args.self.now c.new.result c.args.confirmable c.self.view_is c.requires.time c.self.invariant.0.arrived in record { first = a.first; now = c.args.now; order = a.order }

pub invariant_of-self : goal.invariant_of-self
invariant_of-self c =
    let few = space c.self.inside.limits c.self.inside.now c.self.inside.opened c.self.inside.requests.items c.self.inside.answers c.args.self.now c.args.endpoint c.args.id c.self.view_is c.requires.new in
    let items : c.push.new.self.items ≡ c.self.inside.requests.items ++ request c.new.result c.args.confirmable c.self.inside.opened c.args.now ∷ [] = ap (λ (b : Buffer Opened). b.items) c.push.ensures in
    let long : length c.push.new.self.items ≡ length (c.self.inside.requests.items ++ request c.new.result c.args.confirmable c.self.inside.opened c.args.now ∷ []) = ap length items in
    let longer = length-append c.self.inside.requests.items (request c.new.result c.args.confirmable c.self.inside.opened c.args.now ∷ []) in (
      record {
        capacity = ap (λ (b : Buffer Opened). b.capacity) c.push.ensures ∙ c.self.invariant.0.capacity;
        few = omega (arith, few, long, longer);
        places = ap length c.forget.ensures ∙ (length-set _ _ _ ∙ c.self.invariant.0.places);
        arrived = subst (IsArrived c.args.now (c.self.inside.opened + 1)) (sym items) (arrived c.self.inside.limits c.self.inside.now c.self.inside.opened c.args.now c.self.inside.requests.items c.self.inside.answers c.args.self.now c.new.result c.args.confirmable c.self.view_is c.requires.time c.self.invariant.0.arrived);
      },
      c.self.invariant.1,
      c.self.invariant.2,
    )

pub returns-clause-after : goal.returns-clause-after
returns-clause-after c =
    let os = c.self.inside.requests.items in
    let kept = c.self.inside.answers in
    let a = c.self.invariant.0.arrived in
    let few = space c.self.inside.limits c.self.inside.now c.self.inside.opened c.self.inside.requests.items c.self.inside.answers c.args.self.now c.args.endpoint c.args.id c.self.view_is c.requires.new in
    let after = set kept (c.self.inside.opened % length kept) (record { answered = false; bytes = (kept_at kept c.self.inside.opened).bytes }) in
    let held = opened_last a.first c.self.inside.now c.self.inside.opened kept (kept_at kept c.self.inside.opened).bytes os (request c.new.result c.args.confirmable c.self.inside.opened c.args.now) a.count (let places = c.self.invariant.0.places in omega (arith, few, places)) refl a.order in
    (λ i. record { limits = c.self.inside.limits; now = c.args.now; opened = c.self.inside.opened + 1; held = (ap (λ (l : List StoredResponse). map (as_exchange l) c.push.new.self.items) c.forget.ensures ∙ (ap (λ (b : Buffer Opened). map (as_exchange after) b.items) c.push.ensures ∙ held)) i })
    ∙ (ap (λ (k : Key). record { limits = c.self.inside.limits; now = c.args.now; opened = c.self.inside.opened + 1; held = map (as_exchange kept) os ++ as_opened k c.args.confirmable c.self.inside.opened c.args.now ∷ [] }) c.new.ensures.key
    ∙ ((λ i. record { limits = c.self.inside.limits; now = c.args.now; opened = c.self.inside.opened + 1; held = map (as_exchange kept) os ++ record { endpoint = endpoint_is c.args.endpoint c.args.id c.new.ensures.peer i; id = id_is c.args.endpoint c.args.id c.new.ensures.peer i; confirmable = c.args.confirmable; number = c.self.inside.opened; at = c.args.now; answer = None } ∷ [] })
    ∙ ap (λ (t : Table). opened t c.args.now c.args.endpoint c.args.id c.args.confirmable) c.self.view_is))
