use Rattle.std.proofs.Common.{◌≡◌, ◌∙◌, ◌+◌, ◌-◌, ap, arith, length, not, sym, subst}
use Rattle.std.specs.FinMap.{keys, len}
use Rattle.circular_buffer.specs.Buffer.{Buffer}
use Rattle.coap_dedup.specs.declared.exchange.Opened.{Opened}
use Rattle.coap_dedup.specs.Requests.{by_key}
use Rattle.coap_dedup.proofs.Index.{index_length, key_at, keys_length}
use Rattle.coap_dedup.proofs.Shares.{fewer_behind, fewer_there}
use Rattle.coap_dedup.proofs.requests.Requests.are_fewer.Goals as goal

pub returns-then-len-start : goal.returns-then-len-start
returns-then-len-start c =
    let os = c.self.inside.ring.items in
    let is = c.self.invariant.0.is_index in
    let keys_long : length (keys (by_key c.args.self.now.items)) ≡ length c.args.self.now.items = subst (λ (b : Buffer Opened). length (keys (by_key b.items)) ≡ length b.items) c.self.view_is (keys_length os c.self.inside.index.items is) in
    let index_long : length c.self.inside.index.items ≡ length c.args.self.now.items = subst (λ (b : Buffer Opened). length c.self.inside.index.items ≡ length b.items) c.self.view_is (index_length os c.self.inside.index.items is) in
    let distinct : len (by_key c.args.self.now.items) ≡ length c.args.self.now.items = subst (λ (b : Buffer Opened). len (by_key b.items) ≡ length b.items) c.self.view_is is.distinct in
    let within = c.start_of-start.ensures.start.within in
    let counted = c.len.ensures in
    let few = c.if-len-start.true in
    let some = c.if-share-eq0.false in
    sym (fewer_behind c.args.ip c.args.self.now.items c.start_of-start.result c.args.share c.start_of-start.ensures.bytes distinct c.start_of-start.ensures.start (omega (arith, some))
    (omega (arith, keys_long, index_long, within, counted, few)))

pub at-requires-clause-index : goal.at-requires-clause-index
at-requires-clause-index c =
    let os = c.self.inside.ring.items in
    let is = c.self.invariant.0.is_index in
    let keys_long : length (keys (by_key c.args.self.now.items)) ≡ length c.args.self.now.items = subst (λ (b : Buffer Opened). length (keys (by_key b.items)) ≡ length b.items) c.self.view_is (keys_length os c.self.inside.index.items is) in
    let index_long : length c.self.inside.index.items ≡ length c.args.self.now.items = subst (λ (b : Buffer Opened). length c.self.inside.index.items ≡ length b.items) c.self.view_is (index_length os c.self.inside.index.items is) in
    let within = c.start_of-start.ensures.start.within in
    let counted = c.len.ensures in
    let many = c.if-len-start.false in
    let some = c.if-share-eq0.false in
    omega (arith, keys_long, index_long, within, counted, many, some)

pub returns : goal.returns
returns c =
    let is = c.self.invariant.0.is_index in
    let distinct : len (by_key c.args.self.now.items) ≡ length c.args.self.now.items = subst (λ (b : Buffer Opened). len (by_key b.items) ≡ length b.items) c.self.view_is is.distinct in
    let there = key_at c.args.self.now.items (c.start_of-start.result + (c.args.share - 1)) c.at.result.now.key c.at.result.now.number c.at.ensures.entry in
    let some = c.if-share-eq0.false in
    ap not c.is_of.ensures
    ∙ sym (fewer_there c.args.ip c.args.self.now.items c.start_of-start.result c.args.share c.at.result.now.key c.start_of-start.ensures.bytes distinct c.start_of-start.ensures.start (omega (arith, some)) there)
