use Rattle.std.proofs.Common.{ℕ, ◌+◌, ◌≤◌, ap, refl, subst, arith}
use Rattle.std.specs.Prelude.{slice_index}
use Rattle.atomic_table.specs.Table.{keeps}
use Rattle.fc_filed.specs.Threads.{known_word}
use Rattle.fc_filed.proofs.Rule.{after_idle_words, held_reads, knows_at}
use Rattle.fc_filed.proofs.steps.read_word.Goals as goal

pub load-requires : goal.load-requires
load-requires c =
    let v = c.args.seat.now.me.0 in
    let slot = c.args.slot in
    let key = c.args.words.now.shared.key in (
      c.requires.table,
      (let s = c.requires.size in let e = c.requires.slot in let w = ap (λ t. t.words) c.requires.table in omega arith),
      λ s h n at fits. (
        v,
        keeps,
        tt,
        held_reads key s.words s.views _ v h at (16 + slot),
        (subst (λ (k : ℕ). known_word k v.own ≤ slice_index s.words (16 + slot)) (after_idle_words slot) (knows_at key s.words s.views _ v h at slot c.requires.heads c.requires.slot), refl),
      ),
    )
