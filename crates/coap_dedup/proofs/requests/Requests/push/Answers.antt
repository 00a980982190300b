use Rattle.std.proofs.Common.{◌≡◌, ◌∙◌, ◌++◌, ◌∷◌, [], ◌<◌, ◌%◌, List, ℕ, None, Result, ap, arith, length, subst, sym}
use Rattle.std.specs.Prelude.{find, IsOk, is_ok}
use Rattle.std.specs.Bool.{if◌then◌else◌}
use Rattle.std.specs.List.{insert}
use Rattle.std.specs.FinMap.{keys}
use Rattle.circular_buffer.specs.Buffer.{Buffer}
use Rattle.coap_dedup.specs.declared.exchange.Opened.{Opened}
use Rattle.coap_dedup.specs.Requests.{IsGap, by_key, has_key}
use Rattle.coap_dedup.specs.Views.{InOrder}
use Rattle.coap_dedup.proofs.Index.{are_pushed, index_length}
use Rattle.coap_dedup.proofs.requests.Requests.push.Goals as goal

done : {X Y : Type 0} (r : Result X Y) (a b : List ℕ) → IsOk r → (if is_ok r then a else b) ≡ a
done r a b is = ap (λ x. if x then a else b) is

pub invariant_of-self : goal.invariant_of-self
invariant_of-self c =
    let os = c.self.inside.ring.items in
    let o = c.args.request in
    let new : find (has_key o.key) os ≡ None = ap (λ (b : Buffer Opened). find (has_key o.key) b.items) c.self.view_is ∙ c.requires.new in
    let few : length os < c.self.inside.ring.capacity = subst (λ (b : Buffer Opened). length b.items < b.capacity) (sym c.self.view_is) c.requires.room in
    let order : InOrder (os ++ o ∷ []) = subst (λ (b : Buffer Opened). InOrder (b.items ++ o ∷ [])) (sym c.self.view_is) c.requires.order in
    let is_long = index_length os c.self.inside.index.items c.self.invariant.0.is_index in
    let room = c.self.invariant.0.room in
    let added : c.insert-has_room.new.self.items ≡ insert c.self.inside.index.items c.gap_for-index.result (o.number % 65536) =
    c.insert-has_room.ensures.items ∙ (done c.insert-has_room.result _ _ (c.insert-has_room.ensures.succeeds (omega (arith, is_long, few, room))) ∙ ap (insert c.self.inside.index.items c.gap_for-index.result) c.low_bits.ensures) in
    let gap : IsGap (keys (by_key os)) o.key c.gap_for-index.result = subst (λ (b : Buffer Opened). IsGap (keys (by_key b.items)) o.key c.gap_for-index.result) (sym c.self.view_is) c.gap_for-index.ensures in (
      are_pushed c.self.inside.ring c.push_back.new.self c.self.inside.index c.insert-has_room.new.self o c.gap_for-index.result c.self.invariant.0 few new order gap c.push_back.ensures.items added c.insert-has_room.ensures.capacity,
      tt,
    )
