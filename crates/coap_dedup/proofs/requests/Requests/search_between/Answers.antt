use Rattle.std.proofs.Common.{◌≡◌, ◌+◌, ◌-◌, ◌/◌, ◌∙◌, suc, ℕ, Some, ap, refl, sym, subst, arith}
use Rattle.std.specs.FinMap.{entries, entries_sorted, keys}
use Rattle.coap_dedup.specs.declared.key.Key.{Key}
use Rattle.coap_dedup.specs.Requests.{by_key}
use Rattle.coap_dedup.proofs.Halves.{IsBetween, fewer, fewer_than_ten, lower, start, upper}
use Rattle.coap_dedup.proofs.Index.{key_at, keys_at_most}
use Rattle.coap_dedup.proofs.Keys.{key_antisymmetric}
use Rattle.coap_dedup.proofs.requests.Requests.search_between.Goals as goal

pub halves-init : goal.halves-init
halves-init c =
    let ks = keys (by_key c.args.self.now.items) in
    let compared = c.requires.compared in
    let none : 0 ≡ c.args.comparisons.now - 1 = omega (arith, compared) in
    (omega (arith, compared), subst (IsBetween ks c.args.key.now c.args.low c.args.high) none (start ks c.args.key.now c.args.low c.args.high c.requires.between))

pub at-requires-clause-index : goal.at-requires-clause-index
at-requires-clause-index c =
    let lt = c.halves-test.true in
    let within = c.halves.invariant.1.within in
    let long = keys_at_most c.args.self.now.items in
    omega (arith, lt, within, long)

pub order-requires : goal.order-requires
order-requires c = let few = fewer (keys (by_key c.args.self.now.items)) c.args.key.now c.halves.low c.halves.high (c.halves.comparisons - 1) c.halves.invariant.1 c.halves-test.true in omega (arith, few)

pub halves-preserved-in-Less : goal.halves-preserved-in-Less
halves-preserved-in-Less c =
    let m = by_key c.args.self.now.items in
    let some = c.halves.invariant.0 in
    let counted = c.order.ensures.counted in
    let next : suc (c.halves.comparisons - 1) ≡ c.order.new.comparisons - 1 = omega (arith, some, counted) in (
      omega (arith, counted),
      subst (λ (n : ℕ). IsBetween (keys m) c.args.key.now (c.halves.low + (c.halves.high - c.halves.low) / 2 + 1) c.halves.high n) next
          (upper (entries m) c.args.key.now c.at.result.now.key c.halves.low c.halves.high (c.halves.low + (c.halves.high - c.halves.low) / 2) (c.halves.comparisons - 1) (entries_sorted m) c.halves.invariant.1 c.halves-test.true refl
          (key_at c.args.self.now.items (c.halves.low + (c.halves.high - c.halves.low) / 2) c.at.result.now.key c.at.result.now.number c.at.ensures.entry) (sym c.order.ensures.order ∙ c.in-Less.is)),
    )

pub returns-in-Equal-clause-found : goal.returns-in-Equal-clause-found
returns-in-Equal-clause-found c =
    let middle = c.halves.low + (c.halves.high - c.halves.low) / 2 in
    key_at c.args.self.now.items middle c.at.result.now.key c.at.result.now.number c.at.ensures.entry ∙ ap (λ (k : Key). Some k) (key_antisymmetric c.at.result.now.key c.args.key.now (sym c.order.ensures.order ∙ c.in-Equal.is))

pub returns-in-Equal-clause-most : goal.returns-in-Equal-clause-most
returns-in-Equal-clause-most c =
    let few = fewer (keys (by_key c.args.self.now.items)) c.args.key.now c.halves.low c.halves.high (c.halves.comparisons - 1) c.halves.invariant.1 c.halves-test.true in
    let next = c.order.ensures.counted in
    omega (arith, few, next)

pub halves-preserved : goal.halves-preserved
halves-preserved c =
    let m = by_key c.args.self.now.items in
    let some = c.halves.invariant.0 in
    let counted = c.order.ensures.counted in
    let next : suc (c.halves.comparisons - 1) ≡ c.order.new.comparisons - 1 = omega (arith, some, counted) in (
      omega (arith, counted),
      subst (λ (n : ℕ). IsBetween (keys m) c.args.key.now c.halves.low (c.halves.low + (c.halves.high - c.halves.low) / 2) n) next
          (lower (entries m) c.args.key.now c.at.result.now.key c.halves.low c.halves.high (c.halves.low + (c.halves.high - c.halves.low) / 2) (c.halves.comparisons - 1) (entries_sorted m) c.halves.invariant.1 c.halves-test.true refl
          (key_at c.args.self.now.items (c.halves.low + (c.halves.high - c.halves.low) / 2) c.at.result.now.key c.at.result.now.number c.at.ensures.entry) (sym c.order.ensures.order ∙ c.in-Greater.is)),
    )

pub returns-clause-absent : goal.returns-clause-absent
returns-clause-absent c =
    let b = c.halves.invariant.1 in
    let order = b.order in
    let all : c.halves.high ≡ c.halves.low = omega (arith, order, c.halves-test.false) in
    let within = b.within in
    record { within = omega (arith, within, all); below = b.below; above = λ j x le is. b.above j x (omega (arith, le, all)) is }

pub returns-in-Equal-clause-few : goal.returns-in-Equal-clause-few
returns-in-Equal-clause-few c = λ small.
    let less = keys_at_most c.args.self.now.items in
    let some = fewer_than_ten (keys (by_key c.args.self.now.items)) c.args.key.now c.halves.low c.halves.high (c.halves.comparisons - 1) c.halves.invariant.1 c.halves-test.true (omega (arith, small, less)) in
    let next = c.order.ensures.counted in
    omega (arith, some, next)

pub returns-clause-most : goal.returns-clause-most
returns-clause-most c = let few = c.halves.invariant.1.few in omega (arith, few)

pub returns-clause-few : goal.returns-clause-few
returns-clause-few c = λ small. let less = keys_at_most c.args.self.now.items in let few = c.halves.invariant.1.fewer_of_few (omega (arith, small, less)) in omega (arith, few)
