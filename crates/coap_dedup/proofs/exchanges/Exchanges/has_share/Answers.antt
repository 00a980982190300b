use Rattle.std.proofs.Common.{◌≡◌, ◌∙◌, ap, arith, length, sym}
use Rattle.std.specs.Prelude.{nat_lt}
use Rattle.std.proofs.lemmas.Bool.{lt-ltb}
use Rattle.coap_dedup.specs.Exchanges.{Table, has_share}
use Rattle.coap_dedup.proofs.Places.{few_of, share_seen}
use Rattle.coap_dedup.proofs.exchanges.Exchanges.has_share.Goals as goal

pub returns-then-len-share : goal.returns-then-len-share
returns-then-len-share c =
    let os = c.self.inside.requests.items in
    let share = c.self.inside.limits.share in
    let held = c.if-len-share.true in
    let long : c.len.result ≡ length os = c.len.ensures in
    let few = few_of c.args.ip os in
    let seen = share_seen c.self.inside.answers c.args.ip os in
    sym (ap (λ (t : Table). has_share t c.args.ip) (sym c.self.view_is) ∙ (ap (λ n. nat_lt n share) seen ∙ lt-ltb _ share (omega (arith, held, long, few))))

pub returns : goal.returns
returns c =
    let share = c.self.inside.limits.share in
    let seen = share_seen c.self.inside.answers c.args.ip c.self.inside.requests.items in
    c.are_fewer.ensures ∙ ap (λ n. nat_lt n share) (sym seen) ∙ ap (λ (t : Table). has_share t c.args.ip) c.self.view_is
