use Rattle.std.proofs.Common.{◌≡◌, ◌+◌, ◌≤◌, ◌∙◌, ℕ, List, Some, length, ap, subst, sym, arith}
use Rattle.std.specs.FinMap.{entries, entries_sorted, keys}
use Rattle.circular_buffer.specs.Buffer.{Buffer}
use Rattle.coap_dedup.specs.declared.exchange.Opened.{Opened}
use Rattle.coap_dedup.specs.declared.key.Key.{Key}
use Rattle.coap_dedup.specs.Requests.{IsIndex, LiesBetween, by_key}
use Rattle.coap_dedup.proofs.Halves.{after_less, before_greater}
use Rattle.coap_dedup.proofs.Index.{index_length, key_at, keys_length}
use Rattle.coap_dedup.proofs.Keys.{key_antisymmetric}
use Rattle.coap_dedup.proofs.requests.Requests.search.Goals as goal

-- there are as many keys as places of the index
all : (ring seen : Buffer Opened) (places : List ℕ) (len : ℕ) → IsIndex ring.items places → ring ≡ seen → len ≡ length places → length (keys (by_key seen.items)) ≡ len
all ring seen places len is same counted =
    let long = keys_length ring.items places is in
    let known = index_length ring.items places is in
    subst (λ (b : Buffer Opened). length (keys (by_key b.items)) ≡ len) same (omega (arith, long, known, counted))

-- there are at most 65,536 keys
few : (ring seen : Buffer Opened) (places : List ℕ) → IsIndex ring.items places → ring ≡ seen → length ring.items ≤ ring.capacity → ring.capacity ≤ 65536 → length (keys (by_key seen.items)) ≤ 65536
few ring seen places is same within most =
    let long = keys_length ring.items places is in
    subst (λ (b : Buffer Opened). length (keys (by_key b.items)) ≤ 65536) same (omega (arith, long, within, most))

pub at-requires-clause-index : goal.at-requires-clause-index
at-requires-clause-index c =
    let os = c.self.inside.ring.items in
    let same = index_length os c.self.inside.index.items c.self.invariant.0.is_index in
    let counted = c.len-len.ensures in
    let least = c.min-latest.ensures in
    let some = c.if-len-eq0.false in
    let long : length c.args.self.now.items ≡ c.len-len.result = subst (λ (b : Buffer Opened). length b.items ≡ c.len-len.result) c.self.view_is (omega (arith, same, counted)) in
    omega (arith, least, long, some)

pub search_between-requires-clause-between : goal.search_between-requires-clause-between
search_between-requires-clause-between c =
    let m = by_key c.args.self.now.items in
    let at = c.min-latest.result in
    subst (LiesBetween (keys m) c.args.key.now (at + 1)) (all c.self.inside.ring c.args.self.now c.self.inside.index.items c.len-len.result c.self.invariant.0.is_index c.self.view_is (let counted = c.len-len.ensures in omega (arith, counted)))
    (after_less (entries m) c.args.key.now c.at.result.now.key at (entries_sorted m) (few c.self.inside.ring c.args.self.now c.self.inside.index.items c.self.invariant.0.is_index c.self.view_is c.self.invariant.0.few c.self.invariant.0.capacity) (key_at c.args.self.now.items at c.at.result.now.key c.at.result.now.number c.at.ensures.entry) (sym c.order.ensures.order ∙ c.in-Less.is))

pub search_between-requires-in-Greater-clause-between : goal.search_between-requires-in-Greater-clause-between
search_between-requires-in-Greater-clause-between c =
    let m = by_key c.args.self.now.items in
    let at = c.min-latest.result in
    before_greater (entries m) c.args.key.now c.at.result.now.key at (entries_sorted m) (few c.self.inside.ring c.args.self.now c.self.inside.index.items c.self.invariant.0.is_index c.self.view_is c.self.invariant.0.few c.self.invariant.0.capacity) (key_at c.args.self.now.items at c.at.result.now.key c.at.result.now.number c.at.ensures.entry) (sym c.order.ensures.order ∙ c.in-Greater.is)

pub returns-in-Equal-clause-found : goal.returns-in-Equal-clause-found
returns-in-Equal-clause-found c =
    key_at c.args.self.now.items c.min-latest.result c.at.result.now.key c.at.result.now.number c.at.ensures.entry ∙ ap (λ (k : Key). Some k) (key_antisymmetric c.at.result.now.key c.args.key.now (sym c.order.ensures.order ∙ c.in-Equal.is))
