use Rattle.std.proofs.Common.{rules, ◌≡◌, ◌∙◌, List, ap, subst}
use Rattle.fc_book.specs.declared.entry.CallEntry.{CallEntry}
use Rattle.fc_book.specs.declared.view.BookView.{BookView}
use Rattle.fc_book.specs.Counters.{IsCaller}
use Rattle.fc_book.specs.Calls.{keys_of}
use Rattle.fc_book.specs.Tracks.{HasHistory, merged_with, own_view, part_view, with_next, with_part}
use Rattle.fc_book.proofs.TwoCallers.{all_tracks, one_history}
use Rattle.fc_book.proofs.callers.run_callers_in.Goals as goal

pub returns : goal.returns
returns g c =
    let l = c.close-left in
    let r = c.close-right in
    let left : List CallEntry = c.into_inner.result in
    let right : List CallEntry = c.into_inner-2.result in
    let one : IsCaller 2 c.args.calls c.in_ok-one.one c.in_ok-one.first.items = search rules in
    let two : IsCaller 3 c.args.calls c.in_ok-two.two c.in_ok-two.second.items = search rules in
    let opened = c.begin_tracks-two.ensures.kept ∙ ap with_next (c.begin_tracks-one.ensures.kept ∙ ap with_next (c.begin_part-2.ensures.kept ∙ ap with_next (c.begin_part.ensures.kept ∙ ap with_next c.with_name-book.ensures))) in
    let closed = r.ensures.closed ∙ ap (λ (v : BookView CallEntry). with_part v (part_view 1 right)) (l.ensures.closed ∙ ap (λ (v : BookView CallEntry). with_part v (part_view 0 left)) opened) in
    let all : c.merge-2.new.self ≡ all_tracks left right one.entries two.entries = c.merge-2.ensures.merged
    ∙ (ap (λ (w : BookView CallEntry). merged_with c.merge.new.self w) two.view
    ∙ ap (λ (v : BookView CallEntry). merged_with v (own_view 3 two.entries))
    (c.merge.ensures.merged ∙ (ap (λ (w : BookView CallEntry). merged_with r.new.tracks w) one.view ∙ ap (λ (v : BookView CallEntry). merged_with v (own_view 2 one.entries)) closed))) in
    one_history c.args.calls _ left right one.entries two.entries (subst (λ (v : BookView CallEntry). HasHistory keys_of v) all c.attest.ensures.one) (l.ensures.counted, l.ensures.count) (r.ensures.counted, r.ensures.count) one.called two.called
