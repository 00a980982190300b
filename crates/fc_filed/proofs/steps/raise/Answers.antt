use Rattle.std.proofs.Common.{ℕ, ap, arith}
use Rattle.atomic_table.specs.Table.{keeps}
use Rattle.fc_book.specs.Tracks.{with_filed}
use Rattle.fc_filed.specs.Entries.{entry_keys}
use Rattle.fc_filed.specs.Threads.{entry_of_raise}
use Rattle.fc_filed.proofs.Rule.{after_idle_words, held_raises}
use Rattle.fc_filed.proofs.steps.raise.Goals as goal

pub fetch_max-requires : goal.fetch_max-requires
fetch_max-requires g c =
    let v = c.args.seat.now.me.0 in
    let slot = c.args.slot in
    let on = c.requires.on in (
      c.requires.table,
      (let s = c.requires.size in let e = c.requires.slot in let w = ap (λ t. t.words) c.requires.table in omega arith),
      λ s h n at fits. (
        with_filed entry_keys (entry_of_raise g.X.FiledName.entry slot c.args.word) v,
        keeps,
        tt,
        held_raises c.args.words.now.shared.key s.words s.views _ v h at g.X.FiledName.entry slot c.requires.unsaved on.0 on.1 c.requires.keyed c.args.word,
        ap (λ (n : ℕ). (with_filed entry_keys (entry_of_raise g.X.FiledName.entry n c.args.word) v, c.args.seat.now.me.1)) (after_idle_words slot),
      ),
    )
