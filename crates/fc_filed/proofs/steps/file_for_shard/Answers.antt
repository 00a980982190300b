use Rattle.std.proofs.Common.{List, ap, refl, subst, sym, arith, ◌∙◌}
use Rattle.atomic_table.specs.Table.{keeps}
use Rattle.fc_book.specs.declared.view.Track.{Track}
use Rattle.fc_book.specs.Tracks.{HasKey, filed_on_all}
use Rattle.fc_filed.specs.Entries.{also_key, entry_keys}
use Rattle.fc_filed.proofs.Rule.{held_files_on_all}
use Rattle.fc_filed.proofs.steps.file_for_shard.Goals as goal

pub store-requires : goal.store-requires
store-requires g c =
    let e = g.X.FiledName.entry in
    let v = c.take_part.new.seat.me.0 in
    let taken = c.take_part.ensures.taken in
    let on = c.requires.on in
    let index = c.requires.index in (
      c.take_part.ensures.table ∙ c.requires.table,
      (let s = c.requires.size in let i = index.0 in omega arith),
      λ s h n at fits. (
        filed_on_all entry_keys e v,
        keeps,
        tt,
        held_files_on_all c.args.words.now.shared.key s.words s.views _ v h at e
            (subst (λ m. HasKey (entry_keys e).part m.0.locked) (sym taken) c.requires.on_part)
            (subst (λ m. HasKey (also_key (entry_keys e).part e.save) m.0.locked) (sym taken) (subst (λ s. HasKey (also_key (entry_keys e).part s) c.args.part.me.0.locked) (sym c.requires.unsaved) c.requires.on_part))
            (subst (λ m. HasKey e.who m.0.own) (sym taken) on.0)
            (subst (λ m. HasKey e.job m.0.own) (sym taken) on.1)
            c.requires.locked c.requires.keyed c.args.index index.0 index.1,
        refl,
      ),
    )
