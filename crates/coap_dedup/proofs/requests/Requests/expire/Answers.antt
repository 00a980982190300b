use Rattle.std.proofs.Common.{◌≡◌, ◌∙◌, List, None, Some, ap, drop, sym}
use Rattle.std.specs.Prelude.{filter, slice_get}
use Rattle.circular_buffer.specs.Buffer.{Buffer, buffer}
use Rattle.coap_dedup.specs.declared.exchange.Opened.{Opened}
use Rattle.coap_dedup.specs.Views.{request_is_live}
use Rattle.coap_dedup.proofs.Arrival.{dead_front, live_front, no_front}
use Rattle.coap_dedup.proofs.requests.Requests.expire.Goals as goal

pub returns-then-is_live : goal.returns-then-is_live
returns-then-is_live c =
    let os = c.self.inside.ring.items in
    let front : slice_get os 0 ≡ Some c.in-Some.oldest.now = search c.in-Some.ensures in
    let kept = live_front c.args.now os c.in-Some.oldest.now c.self.invariant.0.order front (sym c.is_live.ensures ∙ c.if-is_live.true) in
    sym c.self.view_is ∙ (ap (λ (l : List Opened). buffer l c.self.inside.ring.capacity) (sym kept) ∙ (ap (λ (b : Buffer Opened). buffer (filter (request_is_live c.args.now) b.items) b.capacity) c.self.view_is ∙ c.oldest.invariant))

pub oldest-preserved : goal.oldest-preserved
oldest-preserved c =
    let os = c.self.inside.ring.items in
    let front : slice_get os 0 ≡ Some c.in-Some.oldest.now = search c.in-Some.ensures in
    let gone = dead_front c.args.now os c.in-Some.oldest.now front (sym c.is_live.ensures ∙ c.if-is_live.false) in
    let live : Buffer Opened → Buffer Opened = λ b. buffer (filter (request_is_live c.args.now) b.items) b.capacity in
    ap live c.pop.ensures ∙ (ap (λ (b : Buffer Opened). live (buffer (drop 1 b.items) b.capacity)) (sym c.self.view_is) ∙ (ap (λ (l : List Opened). buffer l c.self.inside.ring.capacity) gone ∙ (ap live c.self.view_is ∙ c.oldest.invariant)))

pub returns : goal.returns
returns c =
    let os = c.self.inside.ring.items in
    let none : slice_get os 0 ≡ None = search c.in_default.ensures in
    sym c.self.view_is ∙ (ap (λ (l : List Opened). buffer l c.self.inside.ring.capacity) (sym (no_front c.args.now os none)) ∙ (ap (λ (b : Buffer Opened). buffer (filter (request_is_live c.args.now) b.items) b.capacity) c.self.view_is ∙ c.oldest.invariant))
