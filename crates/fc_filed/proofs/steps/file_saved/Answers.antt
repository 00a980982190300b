use Rattle.std.proofs.Common.{◌≡◌, ◌∙◌, ℕ, ◌+◌, List, [], ◌∷◌, Bool, true, Option, Some, None, ap, refl, subst, sym, inl, inr, arith}
use Rattle.std.specs.Prelude.{is_some}
use Rattle.atomic_table.specs.Table.{keeps}
use Rattle.fc_book.specs.declared.view.BookView.{BookView}
use Rattle.fc_book.specs.Tracks.{HasKey, entries_of, filed_on_all, part_view, track, with_another, with_locked}
use Rattle.fc_store.specs.Recovery.{Save}
use Rattle.fc_filed.specs.declared.entry.FiledEntry.{FiledEntry}
use Rattle.fc_filed.specs.Entries.{also_key, entry_keys}
use Rattle.fc_filed.proofs.Rule.{held_files_on_all}
use Rattle.fc_filed.proofs.steps.file_saved.Goals as goal

also_nine : (part : ℕ) (save : Option Save) → is_some save ≡ true → also_key part save ≡ 9
also_nine part (Some save) is = refl
also_nine part None is = absurd (cc is)

-- the view with both tracks: the store's, and then the shard's.
abbrev both : ℕ → List FiledEntry → List FiledEntry → BookView FiledEntry → BookView FiledEntry
both index saves calls v = record v { locked = track 9 saves ∷ track (index + 1) calls ∷ [] }

pub store-requires : goal.store-requires
store-requires g c =
    let e = g.X.FiledName.entry in
    let v = c.take_another.new.seat.me.0 in
    let first = c.args.seat.now.me in
    let shard = c.args.of_shard.me in
    let store = c.args.of_store.me in
    let index = c.requires.index in
    let on = c.requires.on in
    let taken : c.take_another.new.seat.me ≡ (both c.args.index (entries_of store.0.locked) (entries_of shard.0.locked) first.0, first.1) =
    c.take_another.ensures.taken ∙ (ap (λ m. (with_another m.0 store.0, m.1)) c.take_part.ensures.taken
    ∙ ap (λ m. (with_another (with_locked first.0 shard.0) m.0, first.1)) c.requires.store ∙ ap (λ m. (with_another (with_locked first.0 m.0) (part_view 9 (entries_of store.0.locked)), first.1)) c.requires.shard) in (
      c.take_another.ensures.table ∙ (c.take_part.ensures.table ∙ c.requires.table),
      (let s = c.requires.size in let i = index.0 in omega arith),
      λ s h n at fits. (
        filed_on_all entry_keys e v,
        keeps,
        tt,
        held_files_on_all c.args.words.now.shared.key s.words s.views _ v h at e
            (subst (λ m. HasKey (entry_keys e).part m.0.locked) (sym taken) (inr (inl (sym index.1))))
            (subst (λ m. HasKey (entry_keys e).also m.0.locked) (sym taken) (inl (sym (also_nine (entry_keys e).part e.save c.requires.save))))
            (subst (λ m. HasKey e.who m.0.own) (sym taken) on.0)
            (subst (λ m. HasKey e.job m.0.own) (sym taken) on.1)
            c.requires.locked c.requires.keyed c.args.index index.0 index.1,
        refl,
      ),
    )
