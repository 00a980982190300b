use Rattle.std.proofs.Common.{ℕ, ap, ◌∙◌, arith}
use Rattle.atomic_table.specs.Table.{Me}
use Rattle.fc_heads.specs.declared.view.View.{View}
use Rattle.fc_heads.specs.Heads.{note}
use Rattle.fc_heads.proofs.Moves.{forks, merges_as, zeros_at}
use Rattle.fc_heads.proofs.steps.meet.Goals as goal

pub split_seat-this-requires : goal.split_seat-this-requires
split_seat-this-requires c =
    let v = c.args.one.now.me.0 in (
      c.requires.one,
      (let s = c.requires.size in omega arith),
      λ s h at. forks s.words s.views _ v (note v) h at zeros_at (λ slot l. omega arith),
    )

pub split_seat-that-requires : goal.split_seat-that-requires
split_seat-that-requires c =
    let v = c.args.other.now.me.0 in (
      c.requires.other,
      (let s = c.requires.size in omega arith),
      λ s h at. forks s.words s.views _ v (note v) h at zeros_at (λ slot l. omega arith),
    )

pub join_seat-requires : goal.join_seat-requires
join_seat-requires c =
    let mine = c.split_seat-this.ensures in
    let theirs = c.split_seat-that.ensures in (
      mine.0 ∙ c.requires.one,
      theirs.3 ∙ c.requires.other,
      ap (λ (m : Me ℕ View). m.1) theirs.4,
      (let s = c.requires.size in omega arith),
      λ s h at apart there. merges_as s.words s.views _ _ _ _ c.args.other.now.me.0 (ap (λ (m : Me ℕ View). m.0) theirs.4) h at apart there,
    )

pub join_seat-requires-2 : goal.join_seat-requires-2
join_seat-requires-2 c =
    let mine = c.split_seat-that.ensures in
    let theirs = c.split_seat-this.ensures in (
      mine.0 ∙ c.requires.other,
      theirs.3 ∙ c.requires.one,
      ap (λ (m : Me ℕ View). m.1) theirs.4,
      (let s = c.requires.size in omega arith),
      λ s h at apart there. merges_as s.words s.views _ _ _ _ c.args.one.now.me.0 (ap (λ (m : Me ℕ View). m.0) theirs.4) h at apart there,
    )
