use Rattle.std.proofs.Common.{◌≡◌, ◌∙◌, Option, Some, ap}
use Rattle.fc_book.specs.declared.view.BookView.{BookView}
use Rattle.fc_registry.specs.Slots.{slot_in}
use Rattle.fc_store.specs.Recovery.{Save}
use Rattle.fc_linear.specs.Operations.{FailsToSave, Operation}
use Rattle.fc_filed.specs.declared.entry.FiledEntry.{FiledEntry}
use Rattle.fc_filed.specs.Saves.{refused_save, update_of}
use Rattle.fc_filed.specs.Threads.{did_with}
use Rattle.fc_backend.specs.Logs.{TrackedLog, with_filed}
use Rattle.fc_backend.proofs.Logs.{keeps_tracks_with}
use Rattle.fc_locked.proofs.Saving.{match_map, match_to, refused_as, saved_as}
use Rattle.fc_locked.proofs.shared_store.SharedStore.change_locked.Goals as goal

-- the log whose tracks have one more operation.
filed_on : (before log : TrackedLog) (save : Option Save) (operation : Operation) (tracks : BookView FiledEntry) → before ≡ log → tracks ≡ did_with save before.who operation before.tracks
    → record before { tracks = tracks } ≡ with_filed save operation log
filed_on before log save operation tracks same is = (λ i. record before { tracks = is i }) ∙ ap (λ (l : TrackedLog). with_filed save operation l) same

pub invariant_of-log : goal.invariant_of-log
invariant_of-log g c =
    let shard = c.args.filed.now.shard in
    let n = g.C.Change.slot c.args.call in
    let update = update_of (slot_in shard n) n (g.C.Change.change c.args.call) (g.C.Change.image c.args.call) in
    match_to c.change.result c.change.ensures.changed
    (λ x. keeps_tracks_with g.B.Books.first_job c.log.inside.who (Some (refused_save update)) (FailsToSave update) c.log.inside.tracks x.4 c.log.invariant)
    (λ answer y. keeps_tracks_with g.B.Books.first_job c.log.inside.who y.2.0 (g.C.FiledCall.operation shard.index c.args.call answer c.change.new.room) c.log.inside.tracks y.2.2 c.log.invariant)

pub returns : goal.returns
returns g c =
    let n = g.C.Change.slot c.args.call in
    let slot = slot_in c.args.filed.now.shard n in
    let change = g.C.Change.change c.args.call in
    let update = update_of slot n change (g.C.Change.image c.args.call) in
    let before : TrackedLog = record { calls = c.log.inside.calls; who = c.log.inside.who; tracks = c.log.inside.tracks } in
    record {
      changed = match_map c.change.result c.change.ensures.changed
          (λ x. (
            x.0,
            refused_as g.K.Store slot n change update _ _ c.requires.persistent c.change.ensures.ready x.1.planned x.3,
            x.2,
            (slot, filed_on before c.args.log.now (Some (refused_save update)) (FailsToSave update) c.change.new.tracks c.log.view_is x.4),
          ))
          (λ answer y. (
            y.0,
            y.1,
            saved_as g.K.Store slot n _ change update _ y.2.0 _ _ c.requires.persistent c.change.ensures.ready y.2.1,
            (y.2.0, filed_on before c.args.log.now y.2.0 (g.C.FiledCall.operation c.args.filed.now.shard.index c.args.call answer c.change.new.room) c.change.new.tracks c.log.view_is y.2.2),
          ));
    }
