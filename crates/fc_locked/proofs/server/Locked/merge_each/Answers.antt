use Rattle.std.proofs.Common.{◌≡◌, ◌∙◌, ◌-◌, ◌<◌, ◌++◌, ap, arith}
use Rattle.std.specs.Prelude.{slice_index_or, vec_len}
use Rattle.std.specs.List.{All}
use Rattle.std.proofs.lemmas.List.{nil_from_length}
use Rattle.fc_book.specs.declared.view.BookView.{BookView}
use Rattle.fc_filed.specs.declared.entry.FiledEntry.{FiledEntry}
use Rattle.fc_locked.specs.Counts.{Unassigned}
use Rattle.fc_locked.proofs.Merged.{HasOwn, have_tracks, own_moved, shared_tracks, tracks_moved}
use Rattle.fc_backend.proofs.Popped.{last_popped}
use Rattle.fc_locked.proofs.server.Locked.merge_each.Goals as goal

pub loop-worker-preserved : goal.loop-worker-preserved
loop-worker-preserved g c =
    let some : 0 < vec_len c.loop-worker.workers = omega (arith, c.in-Some.ensures.cases) in
    let value = c.pop.ensures.value c.in-Some.worker some in
    let is : c.in-Some.worker ≡ slice_index_or c.loop-worker.workers.items (vec_len c.loop-worker.workers - 1) c.in-Some.worker = cc in
    let last = last_popped c.loop-worker.workers.items (vec_len c.loop-worker.workers - 1) c.in-Some.worker c.pop.ensures.rest (omega (arith, some)) is in
    let i = c.loop-worker.invariant in
    let moved = ap (λ (v : BookView FiledEntry). v.own) c.merge-in-Some-2.ensures.merged ∙ ap (λ (v : BookView FiledEntry). v.own ++ c.loop-worker.tracks.own) c.into_tracks.ensures.tracks in
    let parts = ap (λ (u : Unassigned). u.parts) c.merge-in-Some.ensures in (
      omega (arith, parts, c.in-Some.ensures.cases, i.0),
      tracks_moved c.loop-worker.workers.items c.pop.new.self.items c.in-Some.worker c.loop-worker.tracks.own c.merge-in-Some-2.new.self.own (shared_tracks c.args.workers.items ++ c.into_tracks-tracks.result.own) last moved i.1,
      own_moved g.B.Books.first_job c.loop-worker.workers.items c.pop.new.self.items c.in-Some.worker (All (HasOwn g.B.Books.first_job) c.args.workers.items) last c.into_tracks.ensures.may_file.thread i.2,
    )

pub returns-clause-tracks : goal.returns-clause-tracks
returns-clause-tracks g c =
    let i = c.loop-worker.invariant in
    have_tracks g.B.Books.first_job c.args.workers.items c.loop-worker.workers.items c.args.own c.loop-worker.tracks
    (nil_from_length c.loop-worker.workers.items (omega (arith, c.in_default.ensures.cases)))
    (i.1 ∙ ap (λ (v : BookView FiledEntry). shared_tracks c.args.workers.items ++ v.own) c.into_tracks-tracks.ensures.tracks)
    i.2 c.into_tracks-tracks.ensures.may_file.thread
