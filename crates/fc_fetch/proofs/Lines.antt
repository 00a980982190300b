-- The output of an observer, note by note.
use Rattle.std.proofs.Common.{◌≡◌, Bool, true, false, ℕ, ◌+◌, ◌<◌, ◌≤◌, ◌&&◌, ◌||◌, is_some, IfSome, List, [], ◌∷◌, length, take, Option, Some, None, Ok, refl, sym, ap, subst, ◌∙◌, if◌then◌else◌, arith}
use Rattle.std.specs.Io.KnownBytes.{Appends}
use Rattle.std.proofs.KnownBytes.{Appends-nil, Appends-trans}
use Rattle.coap_msg.specs.Reading.{reading_of}
use Rattle.coap_msg.specs.Wire.{Message, message_bytes}
use Rattle.coap_msg.specs.declared.code.Code.{Code}
use Rattle.coap_observer.proofs.Watching.{first_note, next_note, only_note}
use Rattle.coap_client.specs.Fetching.{Out, moved_on}
use Rattle.coap_observer.specs.Notices.{by_sequence, first_marks, is_first_part, is_last_part, notice_of, observe_request, sequence_of}
use Rattle.coap_observer.specs.Notes.{AreNotes, IsNextNote, IsRegistered, IsWatching, Note, Watches}
use Rattle.coap_client.specs.Parts.{largest_szx}
use Rattle.coap_client.specs.PeerCalls.{PeerCall}
use Rattle.coap_client.specs.Replies.{is_success, is_understood, next_of_answer}
use Rattle.coap_observer.specs.Completions.{AreOutcomes, Joined, Missing, StateEnd, Superseded}
use Rattle.coap_observer.specs.Representations.{begun, state_of}
use Rattle.coap_observer.specs.declared.joining.Joining.{Joining}
use Rattle.coap_observer.specs.declared.notice.NotificationClass.TheVariants as notice
use Rattle.coap_observer.specs.declared.observing.NotedMessage.{NotedMessage}
use Rattle.coap_observer.specs.declared.observing.Observer.{Observer}
use Rattle.coap_observer.specs.declared.notice.ObserveOption.TheVariants.{Register}
use Rattle.coap_client.specs.declared.part.Part.{Part}
use Rattle.coap_client.specs.declared.part.Part.TheVariants.{Answer}
use Rattle.coap_client.specs.declared.reply.Next.{Next}
use Rattle.coap_client.specs.declared.reply.Next.TheVariants as next
use Rattle.coap_observer.specs.declared.watch.Observation.{Observation}
use Rattle.fc_fetch.specs.declared.observer.ObservationEnd.{ObservationEnd}
use Rattle.fc_fetch.specs.declared.observer.ObservationEnd.TheVariants.{Counted, Over, Last}
use Rattle.fc_fetch.specs.declared.printer.Shown.{Shown}
use Rattle.fc_fetch.specs.declared.rendering.Rendered.{Rendered}
use Rattle.fc_fetch.specs.declared.rendering.Rendered.TheVariants as rendered
use Rattle.fc_fetch.specs.Observing.{BeginsWithState, EndsStateBy, EndsInTime, HasMessage, HasRendered, HasShown, IsAtFirst, IsBeforeNext, IsFirstState, IsLastPrinted, IsMissingState, IsNextNoted, IsPending, IsPendingAs, IsRenderedAs, IsRenderingOf, IsShowing, IsState, lines_wanted}
use Rattle.fc_fetch.specs.Rendering.{BeginsAt, Blocks, IsNewerNote, IsRendering, IsSuccessor, RenderedNote, Rendering, SucceedsNotes, Whole, Written, has_further, has_line, errors_text, ids_after, is_superseded, lines_in, note_text, notes_of, notes_text, rendered_error, rendered_text}

-- ---- whole messages

unfirst : (n : Next) → is_last_part n ≡ true → is_first_part n ≡ false
unfirst (next.Ask part) h = absurd (cc h)
unfirst next.Last h = refl
unfirst next.Refused h = refl
unfirst next.Stale h = refl
unfirst next.Malformed h = refl

-- a sequence number makes a state
no_last : (o : Option ℕ) → is_some o ≡ true → by_sequence o ≡ notice.Last → ⊥
no_last None some h = absurd (cc some)
no_last (Some v) some h = cc h

-- the last response isn't the first of several blocks
whole_by : (known : Bool) (n : Next) (success : Bool) (o : Option ℕ) →
    (if (known && is_last_part n) || ((known && (is_first_part n && success)) && is_some o) then (if success then by_sequence o else notice.Last) else notice.Malformed) ≡ notice.Last →
    is_first_part n ≡ false
whole_by false n success o h = absurd (cc h)
whole_by true (next.Ask part) true None h = absurd (cc h)
whole_by true (next.Ask part) true (Some v) h = absurd (cc h)
whole_by true (next.Ask part) false o h = absurd (cc h)
whole_by true next.Last success o h = refl
whole_by true next.Refused success o h = refl
whole_by true next.Stale success o h = refl
whole_by true next.Malformed success o h = refl

pub last_is_whole : (m : Message) → notice_of m ≡ notice.Last → has_further m ≡ false
last_is_whole m h = whole_by (is_understood m) (next_of_answer 0 largest_szx m) (is_success m.code) (sequence_of m) h

-- a joining begins with the first of several blocks
further_by : (n : Next) (m : Message) (body : List ℕ) (part : Part) (etag : List ℕ) → moved_on n [] [] m ≡ Out part body etag → is_first_part n ≡ true
further_by (next.Ask p) m body part etag h = refl
further_by next.Last m body part etag h = absurd (cc h)
further_by next.Refused m body part etag h = absurd (cc h)
further_by next.Stale m body part etag h = absurd (cc h)
further_by next.Malformed m body part etag h = absurd (cc h)

pub has_blocks : (m : Message) (j : Joining) → begun m ≡ state_of j → has_further m ≡ true
has_blocks m j h = further_by (next_of_answer 0 largest_szx m) m j.body.items (Answer j.number j.szx) j.etag.items h

-- the same text
pub printed_as : (shown : Shown) (before after : Option (List ℕ)) (code same : ℕ) (payload bytes : List ℕ) → code ≡ same → payload ≡ bytes → Appends before after (note_text shown code payload)
    → Appends before after (note_text shown same bytes)
printed_as shown before after code same payload bytes is are h =
    subst (λ (x : ℕ). Appends before after (note_text shown x bytes)) is (subst (λ (x : List ℕ). Appends before after (note_text shown code x)) are h)

-- the last note ends the observation in time
pub ends_last : (shown : Shown) (m : Message) (before after : Option (List ℕ)) (seconds : Option ℕ) (end : ObservationEnd) → IsLastPrinted shown m before after end
    → (calls : List PeerCall) → EndsInTime seconds end calls
ends_last shown m before after seconds Counted printed calls = tt
ends_last shown m before after seconds Over printed calls = absurd printed
ends_last shown m before after seconds (Last code) printed calls = tt

-- ---- a pending note

pub state_of_pending : (went came : List ℕ → Type 0) (told : ℕ → Type 0) (o : Observer) (note : Note) (older : List Note) (w : Observation) (last : Bool) → last ≡ false
    → IsPendingAs went came told o note older w last → IsWatching went came told o.token o.id note older w
state_of_pending went came told o note older w true is h = absurd (cc is)
state_of_pending went came told o note older w false is h = h

pub last_pending : (went came : List ℕ → Type 0) (told : ℕ → Type 0) (o : Observer) (note : Note) (older : List Note) (w : Observation) (last : Bool) → last ≡ true
    → IsPendingAs went came told o note older w last → notice_of note.message ≡ notice.Last
last_pending went came told o note older w true is h = h
last_pending went came told o note older w false is h = absurd (cc is)

-- the message of the note that arrived
pub arrived_message : (went came : List ℕ → Type 0) (told : ℕ → Type 0) (token buffer : List ℕ) (old new : Observation) (noted : Option NotedMessage) → Watches went came told token buffer old new noted
    → IfSome noted (HasMessage buffer)
arrived_message went came told token buffer old new None w = tt
arrived_message went came told token buffer old new (Some noted) w = (w.0, (w.1.message, w.1.handled.read_is))

-- each note before a state is a state
oldest_state : (went came : List ℕ → Type 0) (told : ℕ → Type 0) (token : List ℕ) (id : ℕ) (latest : Note) (older : List Note) → AreNotes went came told token id (latest ∷ older)
    → IsState (notice_of latest.message) → BeginsWithState (latest ∷ older)
oldest_state went came told token id latest [] are state = state
oldest_state went came told token id latest (n ∷ ns) are state = oldest_state went came told token id n ns are.0 (subst IsState (sym are.2.after.state) tt)

-- ---- the end of a state

-- the datagram that superseded it
abbrev bytes_in : StateEnd → List ℕ
bytes_in (Superseded bytes time) = bytes
bytes_in other = []

-- a state is superseded by one datagram
same_bytes : (r : Rendering) (bytes other : List ℕ) (time later : ℕ) → EndsStateBy (Superseded bytes time) r → EndsStateBy (Superseded other later) r → other ≡ bytes
same_bytes Whole bytes other time later a b = absurd a
same_bytes (Blocks first w outcomes end) bytes other time later a b = ap bytes_in (sym b ∙ a)

-- one that is whole, or can't be fetched, isn't superseded
pub lined_unsuperseded : (r : Rendering) (bytes : List ℕ) (time : ℕ) → has_line r ≡ true → EndsStateBy (Superseded bytes time) r → ⊥
lined_unsuperseded Whole bytes time line h = h
lined_unsuperseded (Blocks first w outcomes (Joined code body)) bytes time line h = cc h
lined_unsuperseded (Blocks first w outcomes (Superseded b t)) bytes time line h = cc line
lined_unsuperseded (Blocks first w outcomes (Missing cause)) bytes time line h = cc line

pub missing_unsuperseded : (r : Rendering) (bytes : List ℕ) (time : ℕ) → IsMissingState r → EndsStateBy (Superseded bytes time) r → ⊥
missing_unsuperseded Whole bytes time m h = h
missing_unsuperseded (Blocks first w outcomes end) bytes time m h = cc (sym m.1 ∙ h)

-- it has no line
pub superseded_unlined : (r : Rendering) (bytes : List ℕ) (time : ℕ) → EndsStateBy (Superseded bytes time) r → has_line r ≡ false
superseded_unlined Whole bytes time h = absurd h
superseded_unlined (Blocks first w outcomes (Joined code body)) bytes time h = absurd (cc h)
superseded_unlined (Blocks first w outcomes (Superseded b t)) bytes time h = refl
superseded_unlined (Blocks first w outcomes (Missing cause)) bytes time h = refl

pub missing_unlined : (r : Rendering) → IsMissingState r → has_line r ≡ false
missing_unlined Whole h = absurd h.1
missing_unlined (Blocks first w outcomes (Joined code body)) h = absurd (cc h.1)
missing_unlined (Blocks first w outcomes (Superseded b t)) h = refl
missing_unlined (Blocks first w outcomes (Missing cause)) h = refl

-- any note may follow
unsuperseded_is_free : (r : Rendering) (n : Note) → is_superseded r ≡ false → IsSuccessor r n
unsuperseded_is_free Whole n h = tt
unsuperseded_is_free (Blocks first w outcomes (Joined code body)) n h = tt
unsuperseded_is_free (Blocks first w outcomes (Superseded b t)) n h = absurd (cc h)
unsuperseded_is_free (Blocks first w outcomes (Missing cause)) n h = tt

pub line_is_free : (r : Rendering) → has_line r ≡ true → is_superseded r ≡ false
line_is_free Whole line = refl
line_is_free (Blocks first w outcomes (Joined code body)) line = refl
line_is_free (Blocks first w outcomes (Superseded b t)) line = absurd (cc line)
line_is_free (Blocks first w outcomes (Missing cause)) line = refl

missing_is_free : (r : Rendering) → IsMissingState r → is_superseded r ≡ false
missing_is_free Whole h = refl
missing_is_free (Blocks first w outcomes (Joined code body)) h = refl
missing_is_free (Blocks first w outcomes (Superseded b t)) h = absurd (cc h.1)
missing_is_free (Blocks first w outcomes (Missing cause)) h = refl

-- or only the one that superseded the state
succeeds_newer : (r : Rendering) (bytes : List ℕ) (time : ℕ) (n : Note) → EndsStateBy (Superseded bytes time) r → reading_of bytes ≡ Ok n.message → IsSuccessor r n
succeeds_newer Whole bytes time n h read = tt
succeeds_newer (Blocks first w outcomes (Joined code body)) bytes time n h read = tt
succeeds_newer (Blocks first w outcomes (Superseded b t)) bytes time n h read = ap reading_of (ap bytes_in h) ∙ read
succeeds_newer (Blocks first w outcomes (Missing cause)) bytes time n h read = tt

module _ (went came : List ℕ → Type 0) (told : ℕ → Type 0) (o : Observer) (shown : Shown) (before : Written) where
  -- ---- one more note

  -- nothing was rendered yet
  nothing_rendered : went (message_bytes (observe_request o.client_request.now Register o.token o.id)) → HasRendered went came told o shown before before []
  nothing_rendered asked = record { asked = asked; are = tt; rendered = tt; printed = Appends-nil before.out; reported = Appends-nil before.err }

  -- one more note is rendered
  one_rendered : (now after : Written) (rs : List RenderedNote) (n : Note) (r : Rendering) → HasRendered went came told o shown before now rs → AreNotes went came told o.token o.id (n ∷ notes_of rs)
      → IsRendering went came told o n (notes_of rs) r → SucceedsNotes rs n → BeginsAt (ids_after o rs) r → Appends now.out after.out (rendered_text shown n.message r) → Appends now.err after.err (rendered_error r)
      → HasRendered went came told o shown before after (record { note = n; rendering = r } ∷ rs)
  one_rendered now after rs n r h are is succeeds begins text error = record {
    asked = h.asked;
    are = are;
    rendered = (h.rendered, (is, (succeeds, begins)));
    printed = Appends-trans before.out now.out after.out (notes_text shown rs) (rendered_text shown n.message r) h.printed text;
    reported = Appends-trans before.err now.err after.err (errors_text rs) (rendered_error r) h.reported error;
  }

  module _ (Called Later : List RenderedNote → Type 0) (lines : ℕ) where
    abbrev Shows : Written → ℕ → Observation → Type 0
    Shows now n w = IsShowing went came told Later o shown before now n w

    abbrev Pends : Written → Observation → List ℕ → NotedMessage → Type 0
    Pends now w buffer noted = IsPending went came told Called o shown before now lines w buffer noted

    abbrev PendsLater : Written → Observation → List ℕ → NotedMessage → Type 0
    PendsLater now w buffer noted = IsPending went came told Later o shown before now lines w buffer noted

    -- the next note arrived
    next_ready : (now : Written) (buffer : List ℕ) (noted : NotedMessage) (old new : Observation) (last : Bool) → noted.last ≡ last
        → (s : IsShowing went came told Called o shown before now lines old) → ((n : Note) → reading_of (take noted.count buffer) ≡ Ok n.message → IsSuccessor s.latest.rendering n)
        → Later (s.latest ∷ s.older) → noted.count ≤ length buffer → IsNextNote went came told o.token (take noted.count buffer) noted.time old new last → PendsLater now new buffer noted
    next_ready now buffer noted old new true is s succeeds called within x =
        let next = next_note went came told o.token o.id s.latest.note (notes_of s.older) (take noted.count buffer) noted.time old new true s.watching x in
        record {
          note = next.note;
          older = s.latest ∷ s.older;
          are = next.are;
          so_far = s.so_far;
          count = s.count;
          within = within;
          read_is = next.read;
          pending = subst (IsPendingAs went came told o next.note (notes_of (s.latest ∷ s.older)) new) (sym is) (next.none refl);
          begins = oldest_state went came told o.token o.id s.latest.note (notes_of s.older) s.watching.are (subst IsState (sym s.watching.state) tt);
          succeeds = succeeds next.note next.read;
          called = called;
        }
    next_ready now buffer noted old new false is s succeeds called within x =
        let next = next_note went came told o.token o.id s.latest.note (notes_of s.older) (take noted.count buffer) noted.time old new false s.watching x in
        record {
          note = next.note;
          older = s.latest ∷ s.older;
          are = next.are;
          so_far = s.so_far;
          count = s.count;
          within = within;
          read_is = next.read;
          pending = subst (IsPendingAs went came told o next.note (notes_of (s.latest ∷ s.older)) new) (sym is) (next.goes_on refl);
          begins = oldest_state went came told o.token o.id s.latest.note (notes_of s.older) s.watching.are (subst IsState (sym s.watching.state) tt);
          succeeds = succeeds next.note next.read;
          called = called;
        }

    -- the same notes with other calls
    showing_by : (now : Written) (n : ℕ) (old new : Observation) → new ≡ old → (s : IsShowing went came told Called o shown before now n old) → Later (s.latest ∷ s.older)
        → (t : Shows now n new) × (t.latest ≡ s.latest)
    showing_by now n old new same s called = (
      record { latest = s.latest; older = s.older; so_far = s.so_far; watching = subst (IsWatching went came told o.token o.id s.latest.note (notes_of s.older)) (sym same) s.watching; count = s.count; called = called },
      refl,
    )

    pending_by : (now : Written) (old new : Observation) (buffer later : List ℕ) (noted : NotedMessage) → new ≡ old → later ≡ buffer → (p : Pends now old buffer noted) → Later p.older
        → PendsLater now new later noted
    pending_by now old new buffer later noted same is p called = record {
      note = p.note;
      older = p.older;
      are = p.are;
      so_far = p.so_far;
      count = p.count;
      within = subst (λ (x : List ℕ). noted.count ≤ length x) (sym is) p.within;
      read_is = ap (λ (x : List ℕ). reading_of (take noted.count x)) is ∙ p.read_is;
      pending = subst (λ w. IsPendingAs went came told o p.note (notes_of p.older) w noted.last) (sym same) p.pending;
      begins = p.begins;
      succeeds = p.succeeds;
      called = called;
    }

    -- the note that is awaited, or the one that has arrived already
    pub arrived : (now : Written) (old new : Observation) (buffer later : List ℕ) (next noted : Option NotedMessage) → (next ≡ None → (r : RenderedNote) (rs : List RenderedNote) → is_superseded r.rendering ≡ false → Called (r ∷ rs) → Later (r ∷ rs))
        → ((n : NotedMessage) → next ≡ Some n → (rs : List RenderedNote) → Called rs → Later rs) → IsBeforeNext went came told Called o shown before now lines old buffer next
        → IsNextNoted went came told o.token old new buffer later next noted → IsBeforeNext went came told Later o shown before now lines new later noted
    arrived now old new buffer later None None awaits same b w =
        let t = showing_by now lines old new w b.0 (awaits refl b.0.latest b.0.older b.1 b.0.called) in
        (t.0, ap (λ x. is_superseded x.rendering) t.1 ∙ b.1)
    arrived now old new buffer later None (Some noted) awaits same b w =
        next_ready now later noted old new noted.last refl b.0 (λ n read. unsuperseded_is_free b.0.latest.rendering n b.1) (awaits refl b.0.latest b.0.older b.1 b.0.called) w.0 w.1
    arrived now old new buffer later (Some next) noted awaits same b w =
        subst (IsBeforeNext went came told Later o shown before now lines new later) (sym w.0) (pending_by now old new buffer later next w.1.0 w.1.1 b (same next refl b.older b.called))

    pub before_by : (now : Written) (w : Observation) (buffer : List ℕ) (next : Option NotedMessage) → ((rs : List RenderedNote) → Called rs → Later rs)
        → IsBeforeNext went came told Called o shown before now lines w buffer next → IsBeforeNext went came told Later o shown before now lines w buffer next
    before_by now w buffer None turns b =
        let t = showing_by now lines w w refl b.0 (turns (b.0.latest ∷ b.0.older) b.0.called) in
        (t.0, ap (λ x. is_superseded x.rendering) t.1 ∙ b.1)
    before_by now w buffer (Some noted) turns b = pending_by now w w buffer buffer noted refl refl b (turns b.older b.called)

    -- ---- its rendering

    lined : (rs : List RenderedNote) (n : Note) (r : Rendering) (b : Bool) → has_line r ≡ b → lines_in (record { note = n; rendering = r } ∷ rs) ≡ lines_in rs + (if b then 1 else 0)
    lined rs n r b is = ap (λ (x : Bool). lines_in rs + (if x then 1 else 0)) is

    -- the rendering of a state that the watch has
    pub is_rendering : (n : Note) (older : List Note) (w : Observation) (r : Rendering) → IsWatching went came told o.token o.id n older w → IsRenderingOf went came told o w n.message r
        → ((bytes : List ℕ) (time : ℕ) → EndsStateBy (Superseded bytes time) r → IsNewerNote went came told o n older (Superseded bytes time)) → IsRendering went came told o n older r
    is_rendering n older w Whole watching is newer = is
    is_rendering n older w (Blocks first old outcomes end) watching is newer = record {
      further = is.1.0;
      watching = subst (IsWatching went came told o.token o.id n older) (sym is.0) watching;
      are = subst (λ x. AreOutcomes went came told o x first (begun n.message) outcomes) (sym is.0) is.1.1.0;
      ends = is.1.1.1;
      newer = newer_in end refl;
    }
      where
        newer_in : (e : StateEnd) → end ≡ e → IsNewerNote went came told o n older e
        newer_in (Joined code body) same = tt
        newer_in (Superseded bytes time) same = newer bytes time same
        newer_in (Missing cause) same = tt

    -- a state was rendered
    showing : (now after : Written) (more : ℕ) (b : Bool) (w : Observation) (buffer : List ℕ) (noted : NotedMessage) (r : Rendering) → noted.last ≡ false → (p : Pends now w buffer noted)
        → IsRenderingOf went came told o w p.note.message r → BeginsAt (ids_after o p.older) r
        → ((bytes : List ℕ) (time : ℕ) → EndsStateBy (Superseded bytes time) r → IsNewerNote went came told o p.note (notes_of p.older) (Superseded bytes time))
        → Appends now.out after.out (rendered_text shown p.note.message r) → Appends now.err after.err (rendered_error r) → has_line r ≡ b → more ≡ lines + (if b then 1 else 0)
        → Later (record { note = p.note; rendering = r } ∷ p.older) → (s : Shows after more w) × (s.latest.rendering ≡ r)
    showing now after more b w buffer noted r state p is begins newer text error line count called =
        let watching = state_of_pending went came told o p.note (notes_of p.older) w noted.last state p.pending in (
          record {
            latest = record { note = p.note; rendering = r };
            older = p.older;
            so_far = one_rendered now after p.older p.note r p.so_far p.are (is_rendering p.note (notes_of p.older) w r watching is newer) p.succeeds begins text error;
            watching = watching;
            count = lined p.older p.note r b line ∙ (ap (λ (x : ℕ). x + (if b then 1 else 0)) p.count ∙ sym count);
            called = called;
          },
          refl,
        )

    -- the newer notification that superseded it
    newer_note : (now : Written) (old new : Observation) (buffer : List ℕ) (noted : NotedMessage) (r : Rendering) (bytes other : List ℕ) (time later : ℕ) (last : Bool) → noted.last ≡ false
        → (p : Pends now old buffer noted) → EndsStateBy (Superseded bytes time) r → IsNextNote went came told o.token bytes time old new last → EndsStateBy (Superseded other later) r
        → IsNewerNote went came told o p.note (notes_of p.older) (Superseded other later)
    newer_note now old new buffer noted r bytes other time later last state p ends x h =
        let watching = state_of_pending went came told o p.note (notes_of p.older) old noted.last state p.pending in
        let next = next_note went came told o.token o.id p.note (notes_of p.older) bytes time old new last watching x in
        (next.note, ap reading_of (same_bytes r bytes other time later ends h) ∙ next.read, next.are)

    module _ (Makes : (List PeerCall → Type 0) → Type 0) (seconds : Option ℕ) (start : ℕ) (now after : Written) (buffer later : List ℕ) (noted : NotedMessage) (old new : Observation) (ids next : ℕ) where
      -- it begins at the next message ID
      begins_after : (rs : List RenderedNote) (r : Rendering) → ids_after o rs ≡ ids → BeginsAt ids r → BeginsAt (ids_after o rs) r
      begins_after rs r same begins = subst (λ (x : ℕ). BeginsAt x r) (sym same) begins

      abbrev Renders : Message → Rendered → Type 0
      Renders m effect = IsRenderedAs went came told Makes o shown seconds start m now after old new ids next later effect

      -- it has a line
      pub one_line : noted.last ≡ false → (p : Pends now old buffer noted) → ids_after o p.older ≡ ids → (r : Renders p.note.message rendered.Line) → Later (record { note = p.note; rendering = r.rendering } ∷ p.older)
          → (s : Shows after (lines + 1) new) × (has_line s.latest.rendering ≡ true)
      one_line state p same r called =
          let s = showing now after (lines + 1) true old buffer noted r.rendering state p r.is (begins_after p.older r.rendering same r.begins) (λ bytes time h. absurd (lined_unsuperseded r.rendering bytes time r.effect_is.0 h)) r.text r.error
          r.effect_is.0 refl called in
          subst (λ w. (t : Shows after (lines + 1) w) × (has_line t.latest.rendering ≡ true)) (sym r.effect_is.1) (s.0, ap has_line s.1 ∙ r.effect_is.0)

      -- or none
      pub goes_on_missing : noted.last ≡ false → (p : Pends now old buffer noted) → ids_after o p.older ≡ ids → (r : Renders p.note.message rendered.Missing) → Later (record { note = p.note; rendering = r.rendering } ∷ p.older)
          → IsBeforeNext went came told Later o shown before after lines new later None × Shows after lines new
      goes_on_missing state p same r called =
          let none = missing_unlined r.rendering r.effect_is.0 in
          let s = showing now after lines false old buffer noted r.rendering state p r.is (begins_after p.older r.rendering same r.begins) (λ bytes time h. absurd (missing_unsuperseded r.rendering bytes time r.effect_is.0 h)) r.text r.error none
          (omega arith) called in
          subst (λ w. IsBeforeNext went came told Later o shown before after lines w later None × Shows after lines w) (sym r.effect_is.1)
          ((s.0, ap is_superseded s.1 ∙ missing_is_free r.rendering r.effect_is.0), s.0)

      -- a newer notification arrived
      pub superseded : (bytes : List ℕ) (time : ℕ) (last : Bool) → noted.last ≡ false → (p : Pends now old buffer noted) → (r : Rendering) → IsRenderingOf went came told o old p.note.message r
          → BeginsAt (ids_after o p.older) r → EndsStateBy (Superseded bytes time) r → IsNextNote went came told o.token bytes time old new last → Appends now.out after.out (rendered_text shown p.note.message r)
          → Appends now.err after.err (rendered_error r) → Later (record { note = p.note; rendering = r } ∷ p.older) → (s : Shows after lines old) × (s.latest.rendering ≡ r)
      superseded bytes time last state p r is begins ends x text error called =
          showing now after lines false old buffer noted r state p is begins (λ other t h. newer_note now old new buffer noted r bytes other time t last state p ends x h) text error
          (superseded_unlined r bytes time ends) (omega arith) called

-- the response to the registration is next
pub first_ready : (went came : List ℕ → Type 0) (told : ℕ → Type 0) (Called : List RenderedNote → Type 0) (o : Observer) (shown : Shown) (now : Written) (buffer : List ℕ) (count time : ℕ)
    (w : Observation) → Called [] → IsFirstState went came told o buffer count w
    → IsPending went came told Called o shown now now 0 w buffer (record { count = count; time = time; last = false })
first_ready went came told Called o shown now buffer count time w called f = record {
  note = f.note;
  older = [];
  are = f.watching.are;
  so_far = nothing_rendered went came told o shown now f.asked;
  count = refl;
  within = f.within;
  read_is = f.read_is;
  pending = f.watching;
  begins = subst IsState (sym f.watching.state) tt;
  succeeds = tt;
  called = called;
}

-- the newer notification is next
pub goes_on_newer : (went came : List ℕ → Type 0) (told : ℕ → Type 0) (o : Observer) (shown : Shown) (before : Written) (Called Later : List RenderedNote → Type 0) (lines : ℕ)
    (Makes : (List PeerCall → Type 0) → Type 0) (seconds : Option ℕ) (start : ℕ) (now after : Written) (buffer later : List ℕ) (noted newer : NotedMessage) (old new : Observation) (ids next : ℕ) → noted.last ≡ false
    → (p : IsPending went came told Called o shown before now lines old buffer noted) → ids_after o p.older ≡ ids
    → (r : IsRenderedAs went came told Makes o shown seconds start p.note.message now after old new ids next later (rendered.Newer newer)) → Later (record { note = p.note; rendering = r.rendering } ∷ p.older)
    → IsBeforeNext went came told Later o shown before after lines new later (Some newer) × IsShowing went came told Later o shown before after lines old
goes_on_newer went came told o shown before Called Later lines Makes seconds start now after buffer later noted newer old new ids next state p same r called =
    let e = r.effect_is in
    let bytes = take newer.count later in
    let s = superseded went came told o shown before Called Later lines Makes seconds start now after buffer later noted old new ids next bytes newer.time newer.last state p r.rendering r.is
    (subst (λ (x : ℕ). BeginsAt x r.rendering) (sym same) r.begins) e.0 e.1.1 r.text r.error
    called in (
      next_ready went came told o shown before Later Later lines after later newer old new newer.last refl s.0
          (λ n read. subst (λ x. IsSuccessor x n) (sym s.1) (succeeds_newer r.rendering bytes newer.time n e.0 read)) s.0.called e.1.0 e.1.1,
      s.0,
    )

-- some note so far was rendered
pub record GoesOn (went came : List ℕ → Type 0) (told : ℕ → Type 0) (Called : List RenderedNote → Type 0) (o : Observer) (shown : Shown) (before now : Written) (lines : ℕ) : Type 0 where
  pub was : Observation
  pub some : IsShowing went came told Called o shown before now lines was

-- ---- the end

-- the time is over
pub over_shown : (went came : List ℕ → Type 0) (told : ℕ → Type 0) (Called Later : List RenderedNote → Type 0) (o : Observer) (shown : Shown) (before now : Written) (lines : ℕ) (w : Observation)
    → (s : IsShowing went came told Called o shown before now lines w) → Later (s.latest ∷ s.older) → (limit : ℕ) → lines < limit → HasShown went came told Later o shown limit before now Over
over_shown went came told Called Later o shown before now lines w s called limit fewer =
    record { latest = s.latest; older = s.older; so_far = s.so_far; ends = (omega (arith, s.count, fewer), subst IsState (sym s.watching.state) tt); called = called }

-- as many lines as are wanted
pub all_shown : (went came : List ℕ → Type 0) (told : ℕ → Type 0) (Called Later : List RenderedNote → Type 0) (o : Observer) (shown : Shown) (before now : Written) (lines limit : ℕ) (w : Observation)
    → (s : IsShowing went came told Called o shown before now lines w) → has_line s.latest.rendering ≡ true → Later (s.latest ∷ s.older) → lines ≡ limit
    → HasShown went came told Later o shown limit before now Counted
all_shown went came told Called Later o shown before now lines limit w s line called same =
    record { latest = s.latest; older = s.older; so_far = s.so_far; ends = (s.count ∙ same, (subst IsState (sym s.watching.state) tt, line)); called = called }

-- between two lines: the response to the registration is next, or the last note had a line
abbrev pub IsBetween : (List ℕ → Type 0) → (List ℕ → Type 0) → (ℕ → Type 0) → (List RenderedNote → Type 0) → Observer → Shown → Written → Written → ℕ → Observation → List ℕ → Option NotedMessage → Type 0
IsBetween went came told Called o shown before now lines w buffer None = (s : IsShowing went came told Called o shown before now lines w) × (has_line s.latest.rendering ≡ true)
IsBetween went came told Called o shown before now lines w buffer (Some noted) = (lines ≡ 0) × IsPending went came told Called o shown before now lines w buffer noted

pub between_ready : (went came : List ℕ → Type 0) (told : ℕ → Type 0) (Called : List RenderedNote → Type 0) (o : Observer) (shown : Shown) (before now : Written) (lines : ℕ) (w : Observation)
    (buffer : List ℕ) (next : Option NotedMessage) → IsBetween went came told Called o shown before now lines w buffer next → IsBeforeNext went came told Called o shown before now lines w buffer next
between_ready went came told Called o shown before now lines w buffer None b = (b.0, line_is_free b.0.latest.rendering b.1)
between_ready went came told Called o shown before now lines w buffer (Some noted) b = b.1

pub between_shown : (went came : List ℕ → Type 0) (told : ℕ → Type 0) (Called Later : List RenderedNote → Type 0) (o : Observer) (shown : Shown) (before now : Written) (lines limit : ℕ)
    (w : Observation) (buffer : List ℕ) (next : Option NotedMessage) → ((rs : List RenderedNote) → Called rs → Later rs) → IsBetween went came told Called o shown before now lines w buffer next
    → lines ≡ limit → 1 ≤ limit → HasShown went came told Later o shown limit before now Counted
between_shown went came told Called Later o shown before now lines limit w buffer None turns b same some =
    all_shown went came told Called Later o shown before now lines limit w b.0 b.1 (turns (b.0.latest ∷ b.0.older) b.0.called) same
between_shown went came told Called Later o shown before now lines limit w buffer (Some noted) turns b same some = let none = b.0 in absurd (omega (arith, none, same, some))

-- other calls of the same notes
pub shown_by : (went came : List ℕ → Type 0) (told : ℕ → Type 0) (Called Later : List RenderedNote → Type 0) (o : Observer) (shown : Shown) (limit : ℕ) (before now : Written) (end : ObservationEnd)
    → ((rs : List RenderedNote) → Called rs → Later rs) → HasShown went came told Called o shown limit before now end → HasShown went came told Later o shown limit before now end
shown_by went came told Called Later o shown limit before now end turns h =
    record { latest = h.latest; older = h.older; so_far = h.so_far; ends = h.ends; called = turns (h.latest ∷ h.older) h.called }

-- the last note was printed
pub last_shown : (went came : List ℕ → Type 0) (told : ℕ → Type 0) (Called : List RenderedNote → Type 0) (Later : ObservationEnd → List RenderedNote → Type 0) (o : Observer) (shown : Shown)
    (before now after : Written) (lines : ℕ) (w : Observation) (buffer : List ℕ) (noted : NotedMessage) (end : ObservationEnd) → noted.last ≡ true
    → (p : IsPending went came told Called o shown before now lines w buffer noted)
    → ((code : Code) → Later (Last code) (record { note = p.note; rendering = Whole } ∷ p.older)) → after.err ≡ now.err → IsLastPrinted shown p.note.message now.out after.out end
    → (limit : ℕ) → lines < limit → HasShown went came told (Later end) o shown limit before after end
last_shown went came told Called Later o shown before now after lines w buffer noted Counted last p called same printed limit fewer = absurd printed
last_shown went came told Called Later o shown before now after lines w buffer noted Over last p called same printed limit fewer = absurd printed
last_shown went came told Called Later o shown before now after lines w buffer noted (Last code) last p called same printed limit fewer =
    let is = last_pending went came told o p.note (notes_of p.older) w noted.last last p.pending in
    let count = p.count in
    record {
      latest = record { note = p.note; rendering = Whole };
      older = p.older;
      so_far = one_rendered went came told o shown before now after p.older p.note Whole p.so_far p.are (last_is_whole p.note.message is) p.succeeds tt printed.1
          (subst (λ e. Appends now.err e []) (sym same) (Appends-nil now.err));
      ends = (omega (arith, count, fewer), (printed.0, (is, refl)));
      called = called code;
    }

-- ---- the response to the registration

-- a state
pub first_shown : (went came : List ℕ → Type 0) (told : ℕ → Type 0) (o : Observer) (buffer : List ℕ) (count : ℕ) (m : Message) (at : ℕ) (w : Observation) → count ≤ length buffer
    → IsRegistered went came o (take count buffer) → reading_of (take count buffer) ≡ Ok m → told at → notice_of m ≡ notice.State w.sequence → w.at ≡ at → w.marks.items ≡ first_marks m at
    → IsFirstState went came told o buffer count w
first_shown went came told o buffer count m at w within registered read time state same marks = record {
  asked = registered.asked;
  note = record { message = m; at = at };
  within = within;
  read_is = read;
  watching = first_note went came told o (take count buffer) w m at registered read time state same marks;
}

-- or the last one
pub only_shown : (went came : List ℕ → Type 0) (told : ℕ → Type 0) (o : Observer) (shown : Shown) (bytes : List ℕ) (before after : Option (List ℕ)) (m : Message) (at : ℕ) (code : Code)
    → IsRegistered went came o bytes → reading_of bytes ≡ Ok m → told at → notice_of m ≡ notice.Last → code.byte ≡ m.code → Appends before after (note_text shown m.code m.payload)
    → (limit : ℕ) (err : Option (List ℕ)) → 1 ≤ limit
    → HasShown went came told (IsAtFirst (Last code)) o shown limit (record { out = before; err = err }) (record { out = after; err = err }) (Last code)
only_shown went came told o shown bytes before after m at code registered read time last same appends limit err some =
    let n : Note = record { message = m; at = at } in
    record {
      latest = record { note = n; rendering = Whole };
      older = [];
      so_far = one_rendered went came told o shown (record { out = before; err = err }) (record { out = before; err = err }) (record { out = after; err = err }) [] n Whole
          (nothing_rendered went came told o shown (record { out = before; err = err }) registered.asked) (only_note went came told o bytes m at registered read time last) (last_is_whole m last) tt tt
          appends (Appends-nil err);
      ends = (some, (sym same, (last, refl)));
      called = last;
    }

-- some line is wanted
pub some_line : (count : Option ℕ) → 1 ≤ lines_wanted count
some_line None = omega arith
some_line (Some count) = omega arith
