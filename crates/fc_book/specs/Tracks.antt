-- Tracks of one history, and their owners. The entries may have any form; a function returns the
-- keys of each entry.
use Rattle.std.specs.Prelude.{◌≡◌, ◌⊎◌, ℕ, ◌+◌, ◌<◌, ◌≤◌, ◌==◌, ◌||◌, Bool, true, false, if◌then◌else◌, List, [], ◌∷◌, ◌++◌, map}
use Rattle.std.specs.List.{filter}
use lib.ListN.{get_elem?}
use mathlib.Core.Option.{some}
use Rattle.atomic_table.specs.Seated.{TableId}
use Rattle.fc_book.specs.declared.view.Track.{Track}
use Rattle.fc_book.specs.declared.view.BookView.{BookView}

-- the keys of an entry: that of its part, that of another part, that of the thread that made the
-- call, and that of its job. The thread holds the locks of both parts. If there is no other part,
-- `also` is the key of the part again.
pub record EntryKeys : Type 0 where
  pub part : ℕ
  pub also : ℕ
  pub who : ℕ
  pub job : ℕ

-- ---- tracks, and views

module _ {E : Type 0} where
  abbrev pub track : ℕ → List E → Track E
  track k entries = record { key = k; entries = entries }

  -- one of the tracks has this key.
  abbrev pub HasKey : ℕ → List (Track E) → Type 0
  HasKey k [] = ⊥
  HasKey k (t ∷ ts) = (t.key ≡ k) ⊎ HasKey k ts

  -- no two of the tracks have the same key.
  abbrev pub AreSingle : List (Track E) → Type 0
  AreSingle [] = Unit {0}
  AreSingle (t ∷ ts) = (HasKey t.key ts → ⊥) × AreSingle ts

  abbrev pub entries_with : Bool → List E → E → List E
  entries_with true entries e = entries ++ e ∷ []
  entries_with false entries e = entries

  -- the entries on the first track.
  abbrev pub entries_of : List (Track E) → List E
  entries_of [] = []
  entries_of (t ∷ ts) = t.entries

  -- the entries on the track with this key, if one has it.
  abbrev pub entries_at : ℕ → List (Track E) → List E
  entries_at k [] = []
  entries_at k (t ∷ ts) = if t.key == k then t.entries else entries_at k ts

  abbrev pub first_track : List (Track E) → List (Track E)
  first_track [] = []
  first_track (t ∷ ts) = t ∷ []

  abbrev pub other_tracks : List (Track E) → List (Track E)
  other_tracks [] = []
  other_tracks (t ∷ ts) = ts

  -- the view of an owner that has no track, and may begin no track.
  abbrev pub no_tracks : BookView E
  no_tracks = record { locked = []; own = []; may_begin = false; next = 0 }

  -- the view of the first owner: no track has begun, and the owner may begin each track.
  abbrev pub first_view : BookView E
  first_view = record { locked = []; own = []; may_begin = true; next = 0 }

  -- the view of a part's lock, which has the part's track.
  abbrev pub part_view : ℕ → List E → BookView E
  part_view k entries = record { locked = track k entries ∷ []; own = []; may_begin = false; next = 0 }

  -- the view of an owner, of a thread or a message, with one track of its own.
  abbrev pub own_view : ℕ → List E → BookView E
  own_view k entries = record { locked = []; own = track k entries ∷ []; may_begin = false; next = 0 }

  -- the owner owns the track with this key: it is one of the owner's own tracks, or the owner may
  -- begin it.
  abbrev pub OwnsTrack : ℕ → BookView E → Type 0
  OwnsTrack k v = HasKey k v.own ⊎ ((v.may_begin ≡ true) × (v.next ≤ k))

  -- the owner owns the track with this key, or has it as that of a part.
  abbrev pub HasTrack : ℕ → BookView E → Type 0
  HasTrack k v = HasKey k v.locked ⊎ OwnsTrack k v

-- ---- the entries on a track

module _ {E : Type 0} (keys : E → EntryKeys) where
  -- whether an entry is on the track with this key: that of its part, of another part, of its
  -- thread or of its job.
  abbrev pub is_on : ℕ → E → Bool
  is_on k e = ((keys e).part == k) || (((keys e).also == k) || (((keys e).who == k) || ((keys e).job == k)))

  -- the subhistory of a key: the entries on the key's track, oldest first.
  abbrev pub on : ℕ → List E → List E
  on k log = filter (is_on k) log

  -- each track has exactly the entries of the history with the track's key.
  abbrev pub AreOn : List E → List (Track E) → Type 0
  AreOn log [] = Unit {0}
  AreOn log (t ∷ ts) = (t.entries ≡ on t.key log) × AreOn log ts

  -- the track after an entry is filed: the entry is appended if it belongs to the track.
  abbrev pub track_with : E → Track E → Track E
  track_with e t = track t.key (entries_with (is_on t.key e) t.entries e)

  -- these tracks after the entry is filed.
  abbrev pub with_entry : E → List (Track E) → List (Track E)
  with_entry e ts = map (track_with e) ts

-- ---- the rule

-- the view is one of the history: its tracks are exactly the entries of the history with their
-- keys. No two tracks of the view have the same key, and the tracks that the owner may begin have
-- no entry.
pub record IsViewOf {E : Type 0} (keys : E → EntryKeys) (log : List E) (v : BookView E) : Type 0 where
  pub locked : AreOn keys log v.locked
  pub own : AreOn keys log v.own
  pub unbegun : v.may_begin ≡ true → (k : ℕ) → v.next ≤ k → on keys k log ≡ []
  pub fresh : v.may_begin ≡ true → (k : ℕ) → HasKey k v.own → k < v.next
  pub unlike : (k : ℕ) → HasKey k v.locked → OwnsTrack k v → ⊥
  pub single : AreSingle v.own

-- each view is one of the history, and no two views have the same track.
pub record AreViewsOf {E : Type 0} (keys : E → EntryKeys) (log : List E) (views : List (BookView E)) : Type 0 where
  pub each : (i : ℕ) (v : BookView E) → get_elem? views i ≡ some v → IsViewOf keys log v
  pub apart : (i j : ℕ) (v w : BookView E) (k : ℕ) → get_elem? views i ≡ some v → get_elem? views j ≡ some w → HasTrack k v → HasTrack k w → i ≡ j

-- there is one history, each view is one of this history, and no two views have the same track.
pub record HaveOneHistory {E : Type 0} (keys : E → EntryKeys) (views : List (BookView E)) : Type 0 where
  pub log : List E
  pub views_of : AreViewsOf keys log views

-- the view is one of some history.
pub record HasHistory {E : Type 0} (keys : E → EntryKeys) (v : BookView E) : Type 0 where
  pub log : List E
  pub is : IsViewOf keys log v

-- ---- moves

module _ {E : Type 0} (keys : E → EntryKeys) where
  -- an owner's view after it takes over a part's track and files an entry.
  abbrev pub filed_with : E → BookView E → BookView E → BookView E
  filed_with e v w = record { locked = with_entry keys e w.locked; own = with_entry keys e v.own; may_begin = v.may_begin; next = v.next }

  -- an owner's view after an entry is filed on all its tracks, those of its parts among them.
  abbrev pub filed_on_all : E → BookView E → BookView E
  filed_on_all e v = filed_with e v v

  -- an owner's view after an entry is filed on the owner's own tracks.
  abbrev pub with_filed : E → BookView E → BookView E
  with_filed e v = record v { own = with_entry keys e v.own }

module _ {E : Type 0} where
  -- the owner's view after it takes over a part's track.
  abbrev pub with_locked : BookView E → BookView E → BookView E
  with_locked v w = record v { locked = w.locked }

  -- the owner's view after it takes over another part's track, which is then the first of its
  -- parts' tracks.
  abbrev pub with_another : BookView E → BookView E → BookView E
  with_another v w = record v { locked = w.locked ++ v.locked }

  -- the owner's view without the part's track.
  abbrev pub without_locked : BookView E → BookView E
  without_locked v = record v { locked = [] }

  -- the view of the part's track alone.
  abbrev pub locked_of : BookView E → BookView E
  locked_of v = record { locked = v.locked; own = []; may_begin = false; next = 0 }

  -- the owner's view without the first of its parts' tracks.
  abbrev pub without_first_locked : BookView E → BookView E
  without_first_locked v = record v { locked = other_tracks v.locked }

  -- the view of the first of its parts' tracks alone.
  abbrev pub first_locked : BookView E → BookView E
  first_locked v = record { locked = first_track v.locked; own = []; may_begin = false; next = 0 }

  -- the owner's view after it begins the next track for another owner.
  abbrev pub with_next : BookView E → BookView E
  with_next v = record v { next = v.next + 1 }

  -- the owner's view after it begins the next track for itself: this track is then the first of its
  -- own tracks.
  abbrev pub with_begun : BookView E → BookView E
  with_begun v = record v { own = track v.next [] ∷ v.own; next = v.next + 1 }

  -- the view of the first of an owner's own tracks alone.
  abbrev pub first_own : BookView E → BookView E
  first_own v = record { locked = []; own = first_track v.own; may_begin = false; next = 0 }

  -- the owner's view without its first track.
  abbrev pub without_first : BookView E → BookView E
  without_first v = record v { own = other_tracks v.own }

  -- the owner's view after a merge: the other owner's tracks come before the owner's own tracks.
  abbrev pub merged_with : BookView E → BookView E → BookView E
  merged_with v w = record v { own = w.own ++ v.own }

  -- the owner's view after a part is closed: the part's track comes before the owner's own tracks.
  abbrev pub with_part : BookView E → BookView E → BookView E
  with_part v w = record v { own = w.locked ++ v.own }

-- ---- the meaning of a name that no caller chose

abbrev pub no_table : TableId
no_table = record { words = 0; slots = 0; views_name = 0; atom = 0; block = 0; offset = 0; slot_names = [] }
