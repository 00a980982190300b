use Rattle.std.proofs.Common.{ℕ, ◌+◌, ◌≤◌, ap, subst, arith}
use Rattle.std.specs.Prelude.{slice_index}
use Rattle.atomic_table.specs.Table.{keeps}
use Rattle.fc_book.specs.Tracks.{with_filed}
use Rattle.fc_filed.specs.Entries.{entry_keys}
use Rattle.fc_filed.specs.Threads.{entry_of_look, known_word}
use Rattle.fc_filed.proofs.Rule.{after_idle_words, held_looks_at, rises_at}
use Rattle.fc_filed.proofs.steps.look.Goals as goal

pub load-requires : goal.load-requires
load-requires g c =
    let v = c.args.seat.now.me.0 in
    let slot = c.args.slot in
    let on = c.requires.on in (
      c.requires.table,
      (let s = c.requires.size in let e = c.requires.slot in let w = ap (λ t. t.words) c.requires.table in omega arith),
      λ s h n at fits. (
        with_filed entry_keys (entry_of_look g.X.FiledName.entry slot (slice_index s.words (16 + slot))) v,
        keeps,
        tt,
        held_looks_at c.args.words.now.shared.key s.words s.views _ v h at g.X.FiledName.entry slot c.requires.unsaved on.0 on.1 c.requires.keyed,
        (
          subst (λ (k : ℕ). known_word k v.own ≤ slice_index s.words (16 + slot)) (after_idle_words slot)
              (rises_at c.args.words.now.shared.key s.words s.views _ v h at g.X.FiledName.entry slot c.requires.unsaved on.0 on.1 c.requires.keyed c.requires.heads c.requires.slot),
          ap (λ (n : ℕ). (with_filed entry_keys (entry_of_look g.X.FiledName.entry n (slice_index s.words (16 + slot))) v, c.args.seat.now.me.1)) (after_idle_words slot),
        ),
      ),
    )
