-- Each move keeps the rule of a server's book.
use Rattle.std.proofs.Common.{◌≡◌, ◌≢◌, ℕ, ◌+◌, ◌-◌, ◌<◌, ◌≤◌, Bool, true, false, List, [], ◌∷◌, ◌++◌, None, length, set, max, refl, sym, ap, ◌∙◌, subst, inl, inr, arith}
use Rattle.std.specs.Prelude.{nat_lt, slice_index}
use Rattle.std.proofs.lemmas.Bool.{ltb-true}
use Rattle.std.proofs.lemmas.List.{drop-set-add, drop-set-lt, get_or-drop, get_or-set_other, length-set, set-get_or}
use mathlib.Core.Option.{some}
use lib.ListN.{get_elem?}
use Rattle.atomic_table.proofs.Lists.{set_again}
use Rattle.fc_book.specs.declared.view.BookView.{BookView}
use Rattle.fc_book.specs.declared.view.Track.{Track}
use Rattle.fc_book.specs.Tracks.{AreOn, AreSingle, HasKey, entries_of, filed_on_all, filed_with, first_own, first_view, locked_of, merged_with, no_tracks, on, own_view, part_view, track, first_locked, with_another, with_begun, with_filed, with_locked, with_next, with_part, without_first, without_first_locked, without_locked}
use Rattle.fc_book.proofs.Kept.{begins, begins_part, begins_tracks, closes, files, files_alone, files_on_all, gives, opens, returns, returns_first, sits, takes, takes_another, takes_part}
use Rattle.fc_front.specs.Heads.{word_at}
use Rattle.fc_registry.specs.Shards.{shard_at}
use Rattle.fc_linear.specs.Operations.{ServerPart, NoPart, WordsPart, is_words, part_of, Logged, Operation, is_for_job, is_locked}
use Rattle.fc_calls.specs.Logged.{SkipsIdle}
use Rattle.fc_filed.specs.declared.entry.FiledEntry.{FiledEntry}
use Rattle.fc_filed.specs.declared.book_begin.BookBegin.{BookBegin}
use Rattle.fc_filed.specs.Books.{HasServerHistory, HaveServerHistory, IsFirstSent, IsWithThread, heads_in}
use Rattle.fc_filed.specs.Entries.{ChangesWords, IsKeyed, IsOfSavedSlot, OperationsLead, WordsDoIf, also_key, entry_keys, part_key, shard_entries}
use Rattle.fc_filed.specs.Threads.{entry_of_look, entry_of_raise, filed_if, known_word}
use Rattle.fc_filed.specs.Idle.{AreIdleWords, LeadToIdle, IsIdleIfSkipped, idle_word}
use Rattle.fc_filed.proofs.ByThread.{shard_track}
use Rattle.fc_filed.proofs.Idle.{IsElsewhere, idle_more, idle_same, idle_set, idle_still}
use Rattle.fc_filed.proofs.Keyed.{keyed_more}
use Rattle.fc_filed.proofs.Known.{known_at_most}
use Rattle.fc_filed.proofs.Leading.{leads_more}
use Rattle.fc_filed.proofs.Skips.{for_job_skips_none, locked_no_words, locked_skips_none, none_skip, skips_more}
use Rattle.fc_filed.proofs.Sent.{holds_with, sent_filed, sent_gives, sent_seen, sent_still, still_cut, still_joined, still_set}

-- ---- head words

no_head : (e : FiledEntry) (ws : List ℕ) → is_words (part_of e.operation) ≡ false → ChangesWords e.operation ws ws
no_head e ws not = subst (λ (b : Bool). WordsDoIf b e.operation ws ws) (sym not) refl

pub after_idle_words : (slot : ℕ) → slot ≡ (16 + slot) - 16
after_idle_words slot = omega arith

pub after_padding : (index : ℕ) → index ≡ (8 + index) - 8
after_padding index = omega arith

-- the table's word 16 + slot is the slot's head word, since sixteen other words come first.
head_at : (words : List ℕ) (slot : ℕ) → slice_index words (16 + slot) ≡ word_at (heads_in words) slot
head_at words slot = sym (get_or-drop 16 words slot 0)

head_set : (words : List ℕ) (slot n : ℕ) → heads_in (set words (16 + slot) n) ≡ set (heads_in words) slot n
head_set words slot n = drop-set-add 16 words slot n

-- an idle word is not a head word.
heads_same : (words : List ℕ) (index n : ℕ) → index < 8 → heads_in (set words (8 + index) n) ≡ heads_in words
heads_same words index n lt = drop-set-lt 16 words (8 + index) n (omega (arith, lt))

idle_kept : (words : List ℕ) (slot n index : ℕ) → index < 8 → idle_word (set words (16 + slot) n) index ≡ idle_word words index
idle_kept words slot n index lt = get_or-set_other words (16 + slot) (8 + index) n 0 (λ p. omega (arith, p, lt))

-- an entry without a save is of one part alone.
also_part : (e : FiledEntry) → e.save ≡ None → (entry_keys e).also ≡ (entry_keys e).part
also_part e unsaved = ap (λ s. also_key (part_key e.who (part_of e.operation)) s) unsaved

none_saved : (e : FiledEntry) → e.save ≡ None → (part : ServerPart) → IsOfSavedSlot e.save part
none_saved e unsaved part = subst (λ s. IsOfSavedSlot s part) (sym unsaved) tt

pub opens_book : (start : BookBegin) (words : List ℕ) → length words ≡ 80 → heads_in words ≡ start.first.words → ((index : ℕ) → index < 8 → idle_word words index ≡ 0) → HaveServerHistory start words (first_view ∷ [])
opens_book start words size is none = record {
  log = [];
  views_of = opens entry_keys;
  size = size;
  heads = is;
  idle = λ index lt now before. absurd (let z = none index lt in omega (arith, z, before));
  skips = none_skip start.first;
  keyed = tt;
  sent = λ k le none. tt;
}

module _ (start : BookBegin) (words : List ℕ) (views : List (BookView FiledEntry)) (id : ℕ) (v : BookView FiledEntry) (h : HaveServerHistory start words views) (at : get_elem? views id ≡ some v) where
  -- ---- an entry is filed, with a part's track

  module _ (e : FiledEntry) (w : BookView FiledEntry) (other : ℕ) (part : HasKey (entry_keys e).part w.locked) (unsaved : e.save ≡ None) (who : HasKey e.who v.own) (job : HasKey e.job v.own) (bare : w.own ≡ []) (dull : w.may_begin ≡ false)
      (locked : is_locked (part_of e.operation) ≡ true) (keyed : IsKeyed start.first_job e) (elsewhere : (index : ℕ) → index < 8 → IsElsewhere e index) (apart : other ≢ id) (there : get_elem? (set views id (filed_with entry_keys e v w)) other ≡ some w) where
    none_own : (k : ℕ) → HasKey k w.own → ⊥
    none_own k x = subst (λ (ts : List _). HasKey k ts) bare x

    still_filed : (k : ℕ) → IsWithThread start.first_job views k → IsWithThread start.first_job (set (set views id (filed_with entry_keys e v w)) other no_tracks) k
    still_filed k x = still_joined start.first_job k views id v at w (filed_with entry_keys e v w) no_tracks other apart there
        (holds_with start.first_job k e v (filed_with entry_keys e v w) refl) (λ y. absurd (none_own k y.1)) x

    job_filed : IsWithThread start.first_job (set (set views id (filed_with entry_keys e v w)) other no_tracks) e.job
    job_filed = still_filed e.job (id, (v, (at, ((e.who, (keyed.who.0, (keyed.who.1, who))), job))))

    pub held_files : HaveServerHistory start words (set (set views id (filed_with entry_keys e v w)) other no_tracks)
    held_files = record {
      log = h.log ++ e ∷ [];
      views_of = files entry_keys e v w part (subst (λ (k : ℕ). HasKey k w.locked) (sym (also_part e unsaved)) part) who job dull h.log views id other h.views_of at apart there;
      size = h.size;
      heads = leads_more ChangesWords h.log e start.first.words (heads_in words) (heads_in words) h.heads (no_head e (heads_in words) (locked_no_words (part_of e.operation) locked));
      idle = idle_more start.first e h.log words elsewhere h.idle;
      skips = skips_more start.first h.log e h.skips (locked_skips_none start.first h.log e.operation locked);
      keyed = keyed_more start.first_job h.log e h.keyed keyed;
      sent = sent_filed start.first_job h.log views (set (set views id (filed_with entry_keys e v w)) other no_tracks) e keyed still_filed job_filed h.sent;
    }

  -- ---- a part's track is taken over, and an entry is filed on it

  pub held_takes_part : (w : BookView FiledEntry) (other : ℕ) → w.own ≡ [] → other ≢ id → get_elem? (set views id (with_locked v w)) other ≡ some w → HaveServerHistory start words (set (set views id (with_locked v w)) other no_tracks)
  held_takes_part w other bare apart there = record {
    log = h.log;
    views_of = takes_part entry_keys v w h.log views id other h.views_of at apart there;
    size = h.size;
    heads = h.heads;
    idle = h.idle;
    skips = h.skips;
    keyed = h.keyed;
    sent = sent_still start.first_job h.log views _ (λ k x. still_joined start.first_job k views id v at w (with_locked v w) no_tracks other apart there
        (λ y. y) (λ y. absurd (subst (λ (ts : List _). HasKey k ts) bare y.1)) x) h.sent;
  }

  -- another part's track is taken over.
  pub held_takes_another : (w : BookView FiledEntry) (other : ℕ) → w.own ≡ [] → other ≢ id → get_elem? (set views id (with_another v w)) other ≡ some w → HaveServerHistory start words (set (set views id (with_another v w)) other no_tracks)
  held_takes_another w other bare apart there = record {
    log = h.log;
    views_of = takes_another entry_keys v w h.log views id other h.views_of at apart there;
    size = h.size;
    heads = h.heads;
    idle = h.idle;
    skips = h.skips;
    keyed = h.keyed;
    sent = sent_still start.first_job h.log views _ (λ k x. still_joined start.first_job k views id v at w (with_another v w) no_tracks other apart there
        (λ y. y) (λ y. absurd (subst (λ (ts : List _). HasKey k ts) bare y.1)) x) h.sent;
  }

  module _ (e : FiledEntry) (part : HasKey (entry_keys e).part v.locked) (also : HasKey (entry_keys e).also v.locked) (who : HasKey e.who v.own) (job : HasKey e.job v.own) (locked : is_locked (part_of e.operation) ≡ true) (keyed : IsKeyed start.first_job e)
      (index : ℕ) (lt : index < 8) (of : part_key e.who (part_of e.operation) ≡ index + 1) where
    still_on_all : (k : ℕ) → IsWithThread start.first_job views k → IsWithThread start.first_job (set views id (filed_on_all entry_keys e v)) k
    still_on_all k x = still_set start.first_job k views id v at (filed_on_all entry_keys e v) (holds_with start.first_job k e v (filed_on_all entry_keys e v) refl) x

    -- the word is reset, and the entry is on no other shard's track.
    idle_reset : AreIdleWords start.first (h.log ++ e ∷ []) (set words (8 + index) 0)
    idle_reset = idle_set start.first (h.log ++ e ∷ []) words index 0 (let s = h.size in omega (arith, s, lt)) (λ now before. absurd (omega (arith, before)))
        (λ i low other. idle_still start.first e i (idle_word words i) h.log (λ p. other (omega (arith, p, of))) (h.idle i low))

    pub held_files_on_all : HaveServerHistory start (set words (8 + index) 0) (set views id (filed_on_all entry_keys e v))
    held_files_on_all = record {
      log = h.log ++ e ∷ [];
      views_of = files_on_all entry_keys e v part also who job h.log views id h.views_of at;
      size = length-set words (8 + index) 0 ∙ h.size;
      heads = leads_more ChangesWords h.log e start.first.words (heads_in words) (heads_in (set words (8 + index) 0)) h.heads
          (subst (λ (ws : List ℕ). ChangesWords e.operation (heads_in words) ws) (sym (heads_same words index 0 lt)) (no_head e (heads_in words) (locked_no_words (part_of e.operation) locked)));
      idle = idle_reset;
      skips = skips_more start.first h.log e h.skips (locked_skips_none start.first h.log e.operation locked);
      keyed = keyed_more start.first_job h.log e h.keyed keyed;
      sent = sent_filed start.first_job h.log views (set views id (filed_on_all entry_keys e v)) e keyed still_on_all
          (still_on_all e.job (id, (v, (at, ((e.who, (keyed.who.0, (keyed.who.1, who))), job))))) h.sent;
    }

  -- ---- an idle word is written

  module _ (index : ℕ) (lt : index < 8) where
    pub held_notes_idle : (until : ℕ) → v.locked ≡ track (index + 1) (entries_of v.locked) ∷ []
        → ((now : ℕ) → now < until → LeadToIdle (shard_at start.first.shards index) (entries_of v.locked) now) → HaveServerHistory start (set words (8 + index) until) (set views id v)
    held_notes_idle until locked idle = subst (λ (us : List (BookView FiledEntry)). HaveServerHistory start (set words (8 + index) until) us) (sym (set_again views id v at)) (record {
      log = h.log;
      views_of = h.views_of;
      size = length-set words (8 + index) until ∙ h.size;
      heads = subst (λ (ws : List ℕ). OperationsLead ChangesWords h.log start.first.words ws) (sym (heads_same words index until lt)) h.heads;
      idle = idle_set start.first h.log words index until (let s = h.size in omega (arith, s, lt))
          (subst (λ (es : List FiledEntry). (now : ℕ) → now < until → LeadToIdle (shard_at start.first.shards index) es now) entries idle)
          (λ i low other. h.idle i low);
      skips = h.skips;
      keyed = h.keyed;
      sent = h.sent;
    })
      where
        entries : entries_of v.locked ≡ shard_entries index h.log
        entries = (subst (λ (ts : List (Track FiledEntry)). AreOn entry_keys h.log ts) locked (h.views_of.each id v at).locked).0 ∙ shard_track start.first_job index lt h.log h.keyed

  -- ---- seats are cut and joined

  pub held_returns : HaveServerHistory start words (set views id (without_locked v) ++ locked_of v ∷ [])
  held_returns = record {
    log = h.log;
    views_of = returns entry_keys h.log views id v h.views_of at;
    size = h.size;
    heads = h.heads;
    idle = h.idle;
    skips = h.skips;
    keyed = h.keyed;
    sent = sent_still start.first_job h.log views _ (λ k x. still_cut start.first_job k views id v at (without_locked v) (locked_of v) (λ y. y) x) h.sent;
  }

  pub held_returns_first : AreSingle v.locked → HaveServerHistory start words (set views id (without_first_locked v) ++ first_locked v ∷ [])
  held_returns_first single = record {
    log = h.log;
    views_of = returns_first entry_keys v single h.log views id h.views_of at;
    size = h.size;
    heads = h.heads;
    idle = h.idle;
    skips = h.skips;
    keyed = h.keyed;
    sent = sent_still start.first_job h.log views _ (λ k x. still_cut start.first_job k views id v at (without_first_locked v) (first_locked v) (λ y. y) x) h.sent;
  }

  pub held_sits : HaveServerHistory start words (set views id v ++ no_tracks ∷ [])
  held_sits = record {
    log = h.log;
    views_of = sits entry_keys h.log views id v h.views_of at;
    size = h.size;
    heads = h.heads;
    idle = h.idle;
    skips = h.skips;
    keyed = h.keyed;
    sent = sent_still start.first_job h.log views _ (λ k x. still_cut start.first_job k views id v at v no_tracks (λ y. y) x) h.sent;
  }

  pub held_begins_part : v.may_begin ≡ true → HaveServerHistory start words (set views id (with_next v) ++ part_view v.next [] ∷ [])
  held_begins_part may = record {
    log = h.log;
    views_of = begins_part entry_keys v may h.log views id h.views_of at;
    size = h.size;
    heads = h.heads;
    idle = h.idle;
    skips = h.skips;
    keyed = h.keyed;
    sent = sent_still start.first_job h.log views _ (λ k x. still_cut start.first_job k views id v at (with_next v) (part_view v.next []) (λ y. y) x) h.sent;
  }

  pub held_begins_tracks : v.may_begin ≡ true → HaveServerHistory start words (set views id (with_next v) ++ own_view v.next [] ∷ [])
  held_begins_tracks may = record {
    log = h.log;
    views_of = begins_tracks entry_keys v may h.log views id h.views_of at;
    size = h.size;
    heads = h.heads;
    idle = h.idle;
    skips = h.skips;
    keyed = h.keyed;
    sent = sent_still start.first_job h.log views _ (λ k x. still_cut start.first_job k views id v at (with_next v) (own_view v.next []) (λ y. y) x) h.sent;
  }

  pub held_gives : IsFirstSent start.first_job v.own → HaveServerHistory start words (set views id (without_first v) ++ first_own v ∷ [])
  held_gives first = record {
    log = h.log;
    views_of = gives entry_keys h.log views id v h.views_of at;
    size = h.size;
    heads = h.heads;
    idle = h.idle;
    skips = h.skips;
    keyed = h.keyed;
    sent = sent_gives start.first_job h.log views id v at (h.views_of.each id v at).own first h.sent;
  }

  -- a view's own track is still one of them if other tracks are put before them.
  has_more : (first : List _) (k : ℕ) → HasKey k v.own → HasKey k (first ++ v.own)
  has_more [] k x = x
  has_more (t ∷ ts) k x = inr (has_more ts k x)

  pub held_takes : (w : BookView FiledEntry) (other : ℕ) → w.locked ≡ [] → w.may_begin ≡ false → other ≢ id → get_elem? (set views id (merged_with v w)) other ≡ some w → HaveServerHistory start words (set (set views id (merged_with v w)) other no_tracks)
  held_takes w other bare dull apart there = record {
    log = h.log;
    views_of = takes entry_keys v w bare dull h.log views id other h.views_of at apart there;
    size = h.size;
    heads = h.heads;
    idle = h.idle;
    skips = h.skips;
    keyed = h.keyed;
    sent = sent_still start.first_job h.log views _ (λ k x. still_joined start.first_job k views id v at w (merged_with v w) no_tracks other apart there
        (λ y. ((y.0.0, (y.0.1.0, (y.0.1.1.0, has_more w.own y.0.0 y.0.1.1.1))), has_more w.own k y.1))
        (λ y. ((y.0.0, (y.0.1.0, (y.0.1.1.0, has_less w.own y.0.0 y.0.1.1.1))), has_less w.own k y.1)) x) h.sent;
  }
    where
      has_less : (ts : List _) (k : ℕ) → HasKey k ts → HasKey k (ts ++ v.own)
      has_less [] k x = absurd x
      has_less (t ∷ ts) k (inl p) = inl p
      has_less (t ∷ ts) k (inr x) = inr (has_less ts k x)

  pub held_closes : (w : BookView FiledEntry) (other : ℕ) → w.own ≡ [] → w.may_begin ≡ false → AreSingle w.locked → other ≢ id → get_elem? (set views id (with_part v w)) other ≡ some w → HaveServerHistory start words (set (set views id (with_part v w)) other no_tracks)
  held_closes w other bare dull single apart there = record {
    log = h.log;
    views_of = closes entry_keys v w bare dull single h.log views id other h.views_of at apart there;
    size = h.size;
    heads = h.heads;
    idle = h.idle;
    skips = h.skips;
    keyed = h.keyed;
    sent = sent_still start.first_job h.log views _ (λ k x. still_joined start.first_job k views id v at w (with_part v w) no_tracks other apart there
        (λ y. ((y.0.0, (y.0.1.0, (y.0.1.1.0, has_more w.locked y.0.0 y.0.1.1.1))), has_more w.locked k y.1))
        (λ y. absurd (subst (λ (ts : List _). HasKey k ts) bare y.1)) x) h.sent;
  }

  -- ---- a load leaves the word that it reads

  loaded : (i : ℕ) (us : List (BookView FiledEntry)) → HaveServerHistory start words us → HaveServerHistory start (set words i (slice_index words i)) us
  loaded i us x = subst (λ (ws : List ℕ). HaveServerHistory start ws us) (sym (set-get_or words i 0)) x

  pub held_begins : v.may_begin ≡ true → HaveServerHistory start (set words 0 (slice_index words 0)) (set views id (with_begun v))
  held_begins may = loaded 0 (set views id (with_begun v)) (record {
    log = h.log;
    views_of = begins entry_keys v may h.log views id h.views_of at;
    size = h.size;
    heads = h.heads;
    idle = h.idle;
    skips = h.skips;
    keyed = h.keyed;
    sent = sent_still start.first_job h.log views _ (λ k x. still_set start.first_job k views id v at (with_begun v) (λ y. ((y.0.0, (y.0.1.0, (y.0.1.1.0, inr y.0.1.1.1))), inr y.1)) x) h.sent;
  })

  -- a read of a word changes nothing.
  pub held_reads : (i : ℕ) → HaveServerHistory start (set words i (slice_index words i)) (set views id v)
  held_reads i = loaded i (set views id v) (subst (λ (us : List (BookView FiledEntry)). HaveServerHistory start words us) (sym (set_again views id v at)) h)

  -- the head word of a slot is at least each word of the slot that the owner knows.
  pub knows_at : (slot : ℕ) → length start.first.words ≡ 64 → slot < 64 → known_word slot v.own ≤ slice_index words (16 + slot)
  knows_at slot size lt = subst (λ (n : ℕ). known_word slot v.own ≤ n) (sym (head_at words slot)) (known_at_most slot h.log v start.first.words (heads_in words) (omega (arith, size, lt)) (h.views_of.each id v at) h.heads)

  pub seen_by : HasServerHistory start.first_job start.first v
  seen_by = record {
    log = h.log;
    is = h.views_of.each id v at;
    words = heads_in words;
    heads = h.heads;
    skips = h.skips;
    keyed = h.keyed;
    sent = sent_seen start.first_job h.log views id v at h.views_of h.sent;
  }

  -- ---- a look at a head word, a raise or a skip is filed in the step that makes it

  module _ (e : FiledEntry) (part : (entry_keys e).part ≡ e.who) (unsaved : e.save ≡ None) (who : HasKey e.who v.own) (job : HasKey e.job v.own) (keyed : IsKeyed start.first_job e) (skips : IsIdleIfSkipped start.first h.log e.operation) where
    still_alone : (k : ℕ) → IsWithThread start.first_job views k → IsWithThread start.first_job (set views id (with_filed entry_keys e v)) k
    still_alone k x = still_set start.first_job k views id v at (with_filed entry_keys e v) (holds_with start.first_job k e v (with_filed entry_keys e v) refl) x

    job_alone : IsWithThread start.first_job (set views id (with_filed entry_keys e v)) e.job
    job_alone = still_alone e.job (id, (v, (at, ((e.who, (keyed.who.0, (keyed.who.1, who))), job))))

    pub held_alone : (ws : List ℕ) → length ws ≡ 80 → ((index : ℕ) → index < 8 → idle_word ws index ≡ idle_word words index) → ChangesWords e.operation (heads_in words) (heads_in ws) → HaveServerHistory start ws (set views id (with_filed entry_keys e v))
    held_alone ws size same does = record {
      log = h.log ++ e ∷ [];
      views_of = files_alone entry_keys e v part (also_part e unsaved ∙ part) who job h.log views id h.views_of at;
      size = size;
      heads = leads_more ChangesWords h.log e start.first.words (heads_in words) (heads_in ws) h.heads does;
      idle = idle_same start.first (h.log ++ e ∷ []) words ws same (idle_more start.first e h.log words (λ index lt p. let le = keyed.who.0 in omega (arith, part, p, le, lt)) h.idle);
      skips = skips_more start.first h.log e h.skips skips;
      keyed = keyed_more start.first_job h.log e h.keyed keyed;
      sent = sent_filed start.first_job h.log views (set views id (with_filed entry_keys e v)) e keyed still_alone job_alone h.sent;
    }

  pub held_no_part : (e : FiledEntry) → part_of e.operation ≡ NoPart → e.save ≡ None → is_for_job e.operation ≡ true → HasKey e.who v.own → HasKey e.job v.own → IsKeyed start.first_job e → HaveServerHistory start (set words 0 (slice_index words 0)) (set views id (with_filed entry_keys e v))
  held_no_part e none unsaved for who job keyed = loaded 0 (set views id (with_filed entry_keys e v))
      (held_alone e (ap (λ (p : ServerPart). part_key e.who p) none) unsaved who job keyed (for_job_skips_none start.first h.log e.operation for) words h.size (λ index lt. refl) (no_head e (heads_in words) (ap (λ (p : ServerPart). is_words p) none)))

  module _ (e : FiledEntry) (slot : ℕ) (unsaved : e.save ≡ None) (who : HasKey e.who v.own) (job : HasKey e.job v.own) (low : (10 ≤ e.who) × (e.who < start.first_job) × (start.first_job ≤ e.job)) where
    pub held_looks_at : HaveServerHistory start (set words (16 + slot) (slice_index words (16 + slot))) (set views id (with_filed entry_keys (entry_of_look e slot (slice_index words (16 + slot))) v))
    held_looks_at =
        let x : FiledEntry = entry_of_look e slot (slice_index words (16 + slot)) in
        loaded (16 + slot) (set views id (with_filed entry_keys x v))
        (held_alone x refl unsaved who job (record { who = (low.0, low.1); job = λ is. low.2; none = λ is. absurd (cc is); of_server = tt; saved = none_saved e unsaved WordsPart }) tt words h.size (λ index lt. refl) (head_at words slot, refl))

    pub rises_at : length start.first.words ≡ 64 → slot < 64 → known_word slot v.own ≤ slice_index words (16 + slot)
    rises_at size lt = knows_at slot size lt

    pub held_raises : (word : ℕ) → HaveServerHistory start (set words (16 + slot) (max (slice_index words (16 + slot)) word)) (set views id (with_filed entry_keys (entry_of_raise e slot word) v))
    held_raises word =
        let x : FiledEntry = entry_of_raise e slot word in
        let n = max (slice_index words (16 + slot)) word in
        held_alone x refl unsaved who job (record { who = (low.0, low.1); job = λ is. low.2; none = λ is. absurd (cc is); of_server = tt; saved = none_saved e unsaved WordsPart }) tt (set words (16 + slot) n)
        (length-set words (16 + slot) n ∙ h.size)
        (λ index lt. idle_kept words slot n index lt)
        (head_set words slot n ∙ ap (λ (m : ℕ). set (heads_in words) slot (max m word)) (head_at words slot))

  module _ (e : FiledEntry) (index now : ℕ) (lt : index < 8) (is : e.operation ≡ Logged (SkipsIdle index now)) (unsaved : e.save ≡ None) (who : HasKey e.who v.own) (job : HasKey e.job v.own) (keyed : IsKeyed start.first_job e) where
    skips_by : (b : Bool) → nat_lt now (idle_word words index) ≡ b → HaveServerHistory start words (set views id (filed_if b e v))
    skips_by true before = held_alone e (ap (λ (o : Operation). part_key e.who (part_of o)) is) unsaved who job keyed
        (subst (λ (o : Operation). IsIdleIfSkipped start.first h.log o) (sym is) (h.idle index lt now (ltb-true now (idle_word words index) before)))
        words h.size (λ i low. refl) (no_head e (heads_in words) (ap (λ (o : Operation). is_words (part_of o)) is))
    skips_by false before = subst (λ (us : List (BookView FiledEntry)). HaveServerHistory start words us) (sym (set_again views id v at)) h

    -- the skip is filed if the idle word is later than its time.
    pub held_skips : HaveServerHistory start (set words (8 + index) (slice_index words (8 + index))) (set views id (filed_if (nat_lt now (slice_index words (8 + index))) e v))
    held_skips = loaded (8 + index) (set views id (filed_if (nat_lt now (slice_index words (8 + index))) e v)) (skips_by (nat_lt now (idle_word words index)) refl)
