use Rattle.std.proofs.Common.{◌≡◌, ℕ, ◌+◌, ap, sym, arith}
use Rattle.std.specs.Prelude.{nat_lt, slice_index}
use Rattle.atomic_table.specs.Table.{keeps}
use Rattle.fc_linear.specs.Operations.{Operation}
use Rattle.fc_filed.specs.Threads.{filed_if, skip_time}
use Rattle.fc_filed.proofs.Rule.{held_skips}
use Rattle.fc_filed.proofs.steps.skip_if_idle.Goals as goal

pub load-requires : goal.load-requires
load-requires g c =
    let v = c.args.seat.now.me.0 in
    let e = g.X.FiledName.entry in
    let index = c.args.index in
    let on = c.requires.on in
    let time : c.args.now ≡ skip_time e.operation = sym (ap (λ (o : Operation). skip_time o) c.requires.skips) in (
      c.requires.table,
      (let s = c.requires.size in let i = c.requires.index in omega arith),
      λ s h n at fits. (
        filed_if (nat_lt c.args.now (slice_index s.words (8 + index))) e v,
        keeps,
        tt,
        held_skips c.args.words.now.shared.key s.words s.views _ v h at e index c.args.now c.requires.index c.requires.skips c.requires.unsaved on.0 on.1 c.requires.keyed,
        ap (λ (t : ℕ). (filed_if (nat_lt t (slice_index s.words (8 + index))) e v, c.args.seat.now.me.1)) time,
      ),
    )
