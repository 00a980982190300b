use Rattle.std.proofs.Common.{◌≡◌, ◌∙◌, ◌<◌, length, None, Some, ap, subst, sym, arith}
use Rattle.std.specs.Prelude.{find, slice_get}
use Rattle.std.specs.FinMap.{entries}
use Rattle.circular_buffer.specs.Buffer.{Buffer}
use Rattle.coap_dedup.specs.declared.exchange.Opened.{Opened}
use Rattle.coap_dedup.specs.Requests.{IsOldest, by_key, has_key}
use Rattle.coap_dedup.proofs.Index.{IsThere, at_place, index_length}
use Rattle.coap_dedup.proofs.requests.Requests.at.Goals as goal

-- the request at an index in the order of keys, with its place in the ring
there : (c : goal.In-Some) → IsThere c.self.inside.ring.items c.args.index c.after.result
there c =
    let lt : c.args.index < length c.self.inside.ring.items = subst (λ (b : Buffer Opened). c.args.index < length b.items) (sym c.self.view_is) c.requires.index in
    let first : IsOldest c.self.inside.ring.items c.args.first = subst (λ (b : Buffer Opened). IsOldest b.items c.args.first) (sym c.self.view_is) c.requires.first in
    at_place c.self.inside.ring c.self.inside.index c.args.index c.index.result.now c.after.result c.args.first c.self.invariant.0 lt c.index.ensures first c.after.ensures

same : (c : goal.In-Some) → (there c).request ≡ c.in-Some.request.now
same c =
    let is : slice_get c.self.inside.ring.items c.after.result ≡ Some c.in-Some.request.now = search c.in-Some.ensures in
    cc ((there c).there, is)

pub index-requires : goal.index-requires
index-requires c =
    let long = index_length c.self.inside.ring.items c.self.inside.index.items c.self.invariant.0.is_index in
    let lt : c.args.index < length c.self.inside.ring.items = subst (λ (b : Buffer Opened). c.args.index < length b.items) (sym c.self.view_is) c.requires.index in
    omega (arith, long, lt)

pub unreachable-requires : goal.unreachable-requires
unreachable-requires c =
    let lt : c.args.index < length c.self.inside.ring.items = subst (λ (b : Buffer Opened). c.args.index < length b.items) (sym c.self.view_is) c.requires.index in
    let first : IsOldest c.self.inside.ring.items c.args.first = subst (λ (b : Buffer Opened). IsOldest b.items c.args.first) (sym c.self.view_is) c.requires.first in
    let r = at_place c.self.inside.ring c.self.inside.index c.args.index c.index.result.now c.after.result c.args.first c.self.invariant.0 lt c.index.ensures first c.after.ensures in
    let none : slice_get c.self.inside.ring.items c.after.result ≡ None = search c.in_default.ensures in
    cc (none, r.there)

pub returns-clause-entry : goal.returns-clause-entry
returns-clause-entry c =
    ap (λ (b : Buffer Opened). slice_get (entries (by_key b.items)) c.args.index) (sym c.self.view_is) ∙ ((there c).entry ∙ ap (λ (o : Opened). Some (o.key, o.number)) (same c))

pub returns-clause-found : goal.returns-clause-found
returns-clause-found c =
    ap (λ (b : Buffer Opened). find (has_key c.in-Some.request.now.key) b.items) (sym c.self.view_is) ∙ (ap (λ (o : Opened). find (has_key o.key) c.self.inside.ring.items) (sym (same c)) ∙ ((there c).found ∙ ap (λ (o : Opened). Some o) (same c)))
