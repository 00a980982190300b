-- The tracks of the logs of many threads, merged one after the other.
use Rattle.std.proofs.Common.{◌≡◌, ◌∙◌, ℕ, List, [], ◌∷◌, ◌++◌, map, ap, subst, sym}
use Rattle.std.specs.List.{All, flat_map}
use Rattle.std.proofs.lemmas.Grind.{flat_map-append}
use Rattle.std.proofs.lemmas.List.{append-nil, append_assoc, map-append}
use Rattle.std.proofs.lemmas.List.Elements.{All-map, All-nil, All-push}
use Rattle.fc_book.specs.declared.view.BookView.{BookView}
use Rattle.fc_book.specs.declared.view.Track.{Track}
use Rattle.fc_filed.specs.declared.entry.FiledEntry.{FiledEntry}
use Rattle.fc_filed.specs.Threads.{HasOwnTrack}
use Rattle.fc_backend.specs.Logs.{TrackedLog}
use Rattle.fc_locked.specs.OneOrder.{HasTracksOf, logs_of}
use Rattle.fc_backend.specs.Statistics.{Share}

abbrev pub tracks_in : List TrackedLog → List (Track FiledEntry)
tracks_in logs = flat_map (λ (log : TrackedLog). log.tracks.own) logs

module _ {T : Type 0} where
  abbrev pub shared_tracks : List (Share T) → List (Track FiledEntry)
  shared_tracks shares = tracks_in (map (λ (s : Share T). s.log) shares)

  one_more : (shares : List (Share T)) (s : Share T) → shared_tracks (shares ++ s ∷ []) ≡ shared_tracks shares ++ s.log.tracks.own
  one_more shares s =
      ap tracks_in (map-append (λ (x : Share T). x.log) shares (s ∷ []))
      ∙ (flat_map-append (λ (log : TrackedLog). log.tracks.own) (map (λ (x : Share T). x.log) shares) (s.log ∷ []) ∙ ap (λ (ts : List (Track FiledEntry)). shared_tracks shares ++ ts) (append-nil s.log.tracks.own))

  -- if the last share's tracks are moved to the merged ones, these and the tracks of the remaining
  -- shares are still all tracks.
  pub tracks_moved : (shares left : List (Share T)) (s : Share T) (ts us all : List (Track FiledEntry)) → shares ≡ left ++ s ∷ [] → us ≡ s.log.tracks.own ++ ts → shared_tracks shares ++ ts ≡ all → shared_tracks left ++ us ≡ all
  tracks_moved shares left s ts us all is moved before =
      ap (λ (x : List (Track FiledEntry)). shared_tracks left ++ x) moved
      ∙ (sym (append_assoc (shared_tracks left) s.log.tracks.own ts) ∙ (ap (λ (x : List (Track FiledEntry)). x ++ ts) (sym (ap shared_tracks is ∙ one_more left s)) ∙ before))

  module _ (first_job : ℕ) where
    abbrev pub HasOwn : Share T → Type 0
    HasOwn s = HasOwnTrack first_job s.log.who s.log.tracks

    pub own_moved : (shares left : List (Share T)) (s : Share T) (All' : Type 0) → shares ≡ left ++ s ∷ [] → HasOwn s → (All HasOwn shares → All') → All HasOwn left → All'
    own_moved shares left s All' is own before rest = before (subst (λ (l : List (Share T)). All HasOwn l) (sym is) (All-push HasOwn left s rest own))

    -- once no share is left to merge, the view has the tracks of all the logs.
    pub have_tracks : (shares left : List (Share T)) (own : Share T) (v : BookView FiledEntry) → left ≡ [] → shared_tracks left ++ v.own ≡ shared_tracks shares ++ own.log.tracks.own
        → (All HasOwn left → All HasOwn shares) → HasOwn own → HasTracksOf first_job (logs_of shares own) v
    have_tracks shares left own v none tracks threads mine = record {
      tracks = ap (λ (l : List (Share T)). shared_tracks l ++ v.own) (sym none) ∙ (tracks ∙ sym (ap tracks_in (sym (map-append (λ (x : Share T). x.log) shares (own ∷ []))) ∙ one_more shares own));
      threads = All-push (λ (log : TrackedLog). HasOwnTrack first_job log.who log.tracks) (map (λ (s : Share T). s.log) shares) own.log
          (All-map (λ (log : TrackedLog). HasOwnTrack first_job log.who log.tracks) (λ (s : Share T). s.log) shares (threads (subst (λ (l : List (Share T)). All HasOwn l) (sym none) (All-nil HasOwn)))) mine;
    }
