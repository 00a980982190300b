use Rattle.std.proofs.Common.{◌≡◌, ◌∙◌, Some, ap, drop, subst, sym}
use Rattle.std.specs.Prelude.{option_map, slice_get}
use Rattle.std.specs.FinMap.{keys}
use Rattle.circular_buffer.specs.Buffer.{Buffer, buffer}
use Rattle.coap_dedup.specs.declared.exchange.Opened.{Opened}
use Rattle.coap_dedup.specs.Requests.{AreRequests, IsGap, by_key}
use Rattle.coap_dedup.proofs.Index.{are_popped, front_found}
use Rattle.coap_dedup.proofs.requests.Requests.pop.Goals as goal
use Rattle.coap_dedup.proofs.requests.Requests.pop.Goals.{in-Ok, in_default}

pub invariant_of-self : goal.invariant_of-self
invariant_of-self c =
    let os = c.self.inside.ring.items in
    let front : option_map (λ o. o.key) (slice_get os 0) ≡ Some c.args.key = ap (λ (b : Buffer Opened). option_map (λ o. o.key) (slice_get b.items 0)) c.self.view_is ∙ c.requires in (
      elim c.match-search.branch [
        | in-Ok w ↦
            (let found : slice_get (keys (by_key os)) w.in-Ok.index ≡ Some c.args.key = ap (λ (b : Buffer Opened). slice_get (keys (by_key b.items)) w.in-Ok.index) c.self.view_is ∙ search w.in-Ok.ensures.found in
            let rest : c.pop_front.new.self ≡ buffer (drop 1 os) c.self.inside.ring.capacity = c.pop_front.ensures.items ∙ ap (λ x. buffer (drop 1 x.ring.items) x.ring.capacity) w.self-inside-is in
            subst (λ x. AreRequests c.pop_front.new.self x.index) (sym w.self-inside-is)
            (are_popped c.self.inside.ring c.pop_front.new.self c.self.inside.index w.remove.new.self w.in-Ok.index c.args.key c.self.invariant.0 front found rest w.remove.ensures.items w.remove.ensures.capacity))
        | in_default w ↦ (let gap : IsGap (keys (by_key os)) c.args.key w.in_default.field-0 = subst (λ (b : Buffer Opened). IsGap (keys (by_key b.items)) c.args.key w.in_default.field-0) (sym c.self.view_is) (search w.in_default.ensures.absent) in absurd (front_found os c.args.key w.in_default.field-0 front gap))
      ],
      tt,
    )
