use Rattle.std.proofs.Common.{◌≡◌, ◌∙◌, ◌≤◌, ap, sym, subst, length, map, arith}
use Rattle.std.specs.Prelude.{filter}
use Rattle.circular_buffer.specs.Buffer.{Buffer}
use Rattle.coap_dedup.specs.declared.exchange.Opened.{Opened}
use Rattle.coap_dedup.specs.Exchanges.{Table}
use Rattle.coap_dedup.specs.Calls.{expired}
use Rattle.coap_dedup.specs.Views.{IsArrived, as_exchange, request_is_live}
use Rattle.coap_dedup.proofs.Arrival.{expired_arrived, fewer, filter_seen}
use Rattle.coap_dedup.proofs.exchanges.Exchanges.expire.Goals as goal

pub invariant_of-self : goal.invariant_of-self
invariant_of-self c =
    let are = c.self.invariant.0 in
    let os = c.self.inside.requests.items in
    let le : c.self.inside.now ≤ c.args.now = subst (λ (t : Table). t.now ≤ c.args.now) (sym c.self.view_is) c.requires in
    let few = fewer c.self.inside.opened c.self.inside.now c.args.now os le are.arrived in
    let low = are.few in
    let items : c.expire.new.self.items ≡ filter (request_is_live c.args.now) os = ap (λ (b : Buffer Opened). b.items) c.expire.ensures in
    let long : length c.expire.new.self.items ≡ length (filter (request_is_live c.args.now) os) = ap length items in (
      record {
        capacity = ap (λ (b : Buffer Opened). b.capacity) c.expire.ensures ∙ are.capacity;
        few = omega (arith, few, low, long);
        places = are.places;
        arrived = subst (IsArrived c.args.now c.self.inside.opened) (sym items) (expired_arrived c.self.inside.opened c.self.inside.now c.args.now os le are.arrived);
      },
      c.self.invariant.1,
      c.self.invariant.2,
    )

pub returns : goal.returns
returns c =
    let kept = c.self.inside.answers in
    (λ i. record { limits = c.self.inside.limits; now = c.args.now; opened = c.self.inside.opened; held = (ap (λ (b : Buffer Opened). map (as_exchange kept) b.items) c.expire.ensures ∙ filter_seen kept c.args.now c.self.inside.requests.items) i }) ∙ ap (λ (t : Table). expired t c.args.now) c.self.view_is
