-- Failures of an observer.
use Rattle.std.proofs.Common.{◌≡◌, ◌⊎◌, ◌++◌, ℕ, Bool, false, true, List, ◌∷◌, Option, Some, None, Result, Ok, Err, IfErr, OnErr, OnOk, is_some, inl, inr, refl, ap, sym, subst, ◌∙◌, append_assoc, if◌then◌else◌}
use Rattle.coap_observer.specs.ObserverFaults.{EndsOnNotification, IsLeavingFault, IsNewState, IsNotificationFault, IsRegistrationFault, UnfitCame, deregistration_of}
use Rattle.coap_client.specs.Faults.{IsOfPeer}
use Rattle.coap_observer.specs.ObserverCalls.{IsDatedRegistration, IsDeregistration}
use Rattle.coap_observer.specs.Notes.{IsRegistered, IsResponseWith, IsWatching}
use Rattle.coap_observer.specs.Notices.{by_sequence, by_success, can_be_shown, is_unobserved, notice_of, sequence_of}
use Rattle.coap_client.specs.Replies.{is_success}
use Rattle.coap_client.specs.PeerCalls.{PeerCall, PeerError}
use Rattle.coap_observer.specs.Completions.{Superseded}
use Rattle.coap_observer.specs.Representations.{IsFollowingFault}
use Rattle.coap_client.specs.Transmissions.{AreBehind, MakesCalls}
use Rattle.coap_client.specs.declared.fetcher.FetchFault.{FetchFault}
use Rattle.coap_client.specs.declared.fetcher.FetchFault.TheVariants as fault
use Rattle.coap_observer.specs.declared.notice.NotificationClass.{NotificationClass}
use Rattle.coap_observer.specs.declared.notice.NotificationClass.TheVariants as notice
use Rattle.coap_observer.specs.declared.observing.NotedMessage.{NotedMessage}
use Rattle.coap_observer.specs.declared.observing.Observer.{Observer}
use Rattle.coap_observer.specs.declared.watch.Observation.{Observation}
use Rattle.coap_observer.proofs.ObserverFailing.{unfit_notice}
use Rattle.coap_client.proofs.Transmitting.{Calls, both, does_both, does_of}
use Rattle.coap_msg.specs.Reading.{reading_of}
use Rattle.coap_msg.specs.Wire.{Message}
use Rattle.fc_fetch.specs.declared.observer.NotesError.{NotesError}
use Rattle.fc_fetch.specs.declared.observer.NotesError.TheVariants as notes_error
use Rattle.fc_fetch.specs.declared.observer.ObservationEnd.{ObservationEnd}
use Rattle.fc_fetch.specs.declared.printer.Shown.{Shown}
use Rattle.fc_fetch.specs.Observing.{AwaitsNote, AwaitsUntil, EndsStateBy, HasCalled, IsAwaitFault, IsBeforeNext, IsFirstFault, IsLaterFault, IsLeftInVain, IsMissingState, IsNoMemory, IsNotesFault, IsObservedSoFar, IsPending, IsRenderFault, IsState, IsStoppedByFirst, IsStoppedWaiting, IsStoppedWriting, IsTimedObservation, IsUnwritten, LeavesAtFault, ObservesNotes, may_notify, unfit_error}
use Rattle.fc_fetch.specs.Rendering.{AreRendered, BeginsAt, RenderedNote, Rendering, Whole, Written, has_further, has_line, is_superseded, notes_of}
use Rattle.fc_fetch.proofs.Lines.{is_rendering, last_is_whole, last_pending, lined_unsuperseded, missing_unsuperseded, state_of_pending}
use Rattle.fc_fetch.proofs.Timing.{HasAwaited, HasBegun, HasCounted, line_unwritten, notes_awaiting, observed_so_far, observed_until, uncounted, whole_observed}

-- the registration failed
pub unanswered : (came : List ℕ → Type 0) (is_error : PeerError → Type 0) (Makes : (List PeerCall → Type 0) → Type 0) (o : Observer) (f : FetchFault) → IsRegistrationFault is_error Makes o f
    → IsFirstFault came is_error Makes o (notes_error.Fault f)
unanswered came is_error Makes o fault.Silence h = h
unanswered came is_error Makes o fault.Rejected h = h
unanswered came is_error Makes o fault.Malformed h = h
unanswered came is_error Makes o fault.Changed h = h
unanswered came is_error Makes o fault.Part h = absurd h
unanswered came is_error Makes o (fault.Socket error) h = h
unanswered came is_error Makes o (fault.Memory error) h = h

-- or the clock after it
pub undated : (came : List ℕ → Type 0) (is_error : PeerError → Type 0) (Makes : (List PeerCall → Type 0) → Type 0) (o : Observer) (f : FetchFault) → IsOfPeer is_error ⊥ f
    → IsFirstFault came is_error Makes o (notes_error.Fault f)
undated came is_error Makes o fault.Silence h = absurd h
undated came is_error Makes o fault.Rejected h = absurd h
undated came is_error Makes o fault.Malformed h = absurd h
undated came is_error Makes o fault.Changed h = absurd h
undated came is_error Makes o fault.Part h = absurd h
undated came is_error Makes o (fault.Socket error) h = h
undated came is_error Makes o (fault.Memory error) h = absurd h

-- or a wait can't begin
pub unbegun : {S : Type 0} (went came : List ℕ → Type 0) (told : ℕ → Type 0) (is_error : PeerError → Type 0) (called : S → List PeerCall → Type 0) (before after : S) (o : Observer)
    (SoFar : List RenderedNote → List PeerCall → Type 0) (f : FetchFault) → IsOfPeer is_error ⊥ f → IsLaterFault went came told is_error called before after o SoFar (notes_error.Fault f)
unbegun went came told is_error called before after o SoFar fault.Silence h = absurd h
unbegun went came told is_error called before after o SoFar fault.Rejected h = absurd h
unbegun went came told is_error called before after o SoFar fault.Malformed h = absurd h
unbegun went came told is_error called before after o SoFar fault.Changed h = absurd h
unbegun went came told is_error called before after o SoFar fault.Part h = absurd h
unbegun went came told is_error called before after o SoFar (fault.Socket error) h = inl h
unbegun went came told is_error called before after o SoFar (fault.Memory error) h = absurd h

-- the rest of the time can't begin
pub unrested : (came : List ℕ → Type 0) (is_error : PeerError → Type 0) (token : List ℕ) (f : FetchFault) → IsOfPeer is_error ⊥ f → IsFollowingFault came is_error token f
unrested came is_error token fault.Silence h = absurd h
unrested came is_error token fault.Rejected h = absurd h
unrested came is_error token fault.Malformed h = absurd h
unrested came is_error token fault.Changed h = absurd h
unrested came is_error token fault.Part h = absurd h
unrested came is_error token (fault.Socket error) h = h
unrested came is_error token (fault.Memory error) h = absurd h

pub of_peer : (came : List ℕ → Type 0) (told : ℕ → Type 0) (is_error : PeerError → Type 0) (Makes : (List PeerCall → Type 0) → Type 0) (o : Observer) (ends : Bool) (w : Observation) (f : FetchFault)
    → IsOfPeer is_error ⊥ f → IsAwaitFault came told is_error Makes o ends w f
of_peer came told is_error Makes o ends w fault.Silence h = h
of_peer came told is_error Makes o ends w fault.Rejected h = h
of_peer came told is_error Makes o ends w fault.Malformed h = h
of_peer came told is_error Makes o ends w fault.Changed h = h
of_peer came told is_error Makes o ends w fault.Part h = absurd h
of_peer came told is_error Makes o ends w (fault.Socket error) h = h
of_peer came told is_error Makes o ends w (fault.Memory error) h = absurd h

-- the wait for a note ends on a notification
until : (told : ℕ → Type 0) (token : List ℕ) (ends : Bool) (n : ℕ) (w : Observation) (P : NotificationClass → Type 0) (before between after : Calls) → MakesCalls before between (HasAwaited token ends n)
    → MakesCalls between after (EndsOnNotification told token w P) → MakesCalls before after (AwaitsUntil told token ends w P)
until told token ends n w P before between after one other =
    both before between after (AwaitsNote token ends false) (EndsOnNotification told token w P)
    (does_of before between (HasAwaited token ends n) (AwaitsNote token ends false) one (λ calls h. record { observing = h.observing; awaited = h.awaited; over = λ x. absurd (cc x) })) other

-- the wait for a note failed
pub no_note : (came : List ℕ → Type 0) (told : ℕ → Type 0) (is_error : PeerError → Type 0) (before between after : Calls) (o : Observer) (ends : Bool) (n : ℕ) (w : Observation) (f : FetchFault)
    → MakesCalls before between (HasAwaited o.token ends n) → IsNotificationFault came is_error (MakesCalls between after) told o.token w f
    → IsAwaitFault came told is_error (MakesCalls before after) o ends w f
no_note came told is_error before between after o ends n w fault.Silence one h = h
no_note came told is_error before between after o ends n w fault.Rejected one h = h
no_note came told is_error before between after o ends n w fault.Malformed one h = h
no_note came told is_error before between after o ends n w fault.Changed one h = h
no_note came told is_error before between after o ends n w fault.Part one h = (h.1 o.id, until told o.token ends n w (λ x. x ≡ notice.Malformed) before between after one h.0)
no_note came told is_error before between after o ends n w (fault.Socket error) one h = h
no_note came told is_error before between after o ends n w (fault.Memory error) one h = until told o.token ends n w IsNewState before between after one h

-- it fails while the next note is awaited
module _ (went came : List ℕ → Type 0) (told : ℕ → Type 0) (is_error : PeerError → Type 0) (before between after : Calls) (o : Observer) (seconds : Option ℕ) (start n : ℕ) (ends : Bool)
    (w : Observation) (r : RenderedNote) (rs : List RenderedNote) where
  until_notes : (P : NotificationClass → Type 0) → ends ≡ is_some seconds → is_superseded r.rendering ≡ false → MakesCalls before between (HasCounted o seconds start n (r ∷ rs))
      → MakesCalls between after (AwaitsUntil told o.token ends w P) → MakesCalls before after (AreBehind (ObservesNotes o seconds start (r ∷ rs)) (EndsOnNotification told o.token w P))
  until_notes P is free one other =
      does_both before between after (HasCounted o seconds start n (r ∷ rs)) (AwaitsUntil told o.token ends w P)
      (AreBehind (ObservesNotes o seconds start (r ∷ rs)) (EndsOnNotification told o.token w P)) one other
      (λ older newer a b. record {
        older = b.older ++ older;
        first = notes_awaiting o seconds start n ends false r rs b.older older is free a b.first;
        newer = b.newer;
        then = b.then;
        is = ap (λ (x : List PeerCall). x ++ older) b.is ∙ append_assoc b.newer b.older older;
      })

  pub stopped_waiting : (f : FetchFault) → ends ≡ is_some seconds → AreRendered went came told o (r ∷ rs) → is_superseded r.rendering ≡ false → IsWatching went came told o.token o.id r.note (notes_of rs) w
      → MakesCalls before between (HasCounted o seconds start n (r ∷ rs)) → IsAwaitFault came told is_error (MakesCalls between after) o ends w f
      → IsStoppedWaiting went came told is_error (MakesCalls before after) o (ObservesNotes o seconds start) f
  stopped_waiting fault.Silence is are free s one h = h
  stopped_waiting fault.Rejected is are free s one h = h
  stopped_waiting fault.Malformed is are free s one h = h
  stopped_waiting fault.Changed is are free s one h = h
  stopped_waiting fault.Part is are free s one h =
      (h.0, record { latest = r; older = rs; rendered = are; unsuperseded = free; w = w; watching = s; called = until_notes (λ x. x ≡ notice.Malformed) is free one h.1 })
  stopped_waiting (fault.Socket error) is are free s one h = h
  stopped_waiting (fault.Memory error) is are free s one h = record { latest = r; older = rs; rendered = are; unsuperseded = free; w = w; watching = s; called = until_notes IsNewState is free one h }

-- a wait that hasn't begun doesn't fail
pub no_wait_fails : (went came : List ℕ → Type 0) (told : ℕ → Type 0) (is_error : PeerError → Type 0) (before between after : Calls) (o : Observer) (shown : Shown) (first now : Written) (lines : ℕ)
    (buffer : List ℕ) (next : Option NotedMessage) (seconds : Option ℕ) (start n ids : ℕ) (ends : Bool) (w : Observation) (f : FetchFault) → ends ≡ is_some seconds
    → IsBeforeNext went came told (HasCalled (MakesCalls before between) o ids (HasCounted o seconds start n)) o shown first now lines w buffer next
    → IsAwaitFault came told is_error (MakesCalls between after) o ends w f → next ≡ None → IsStoppedWaiting went came told is_error (MakesCalls before after) o (ObservesNotes o seconds start) f
no_wait_fails went came told is_error before between after o shown first now lines buffer None seconds start n ids ends w f is b h none =
    stopped_waiting went came told is_error before between after o seconds start n ends w b.0.latest b.0.older f is b.0.so_far.rendered b.1 b.0.watching b.0.called.0 h
no_wait_fails went came told is_error before between after o shown first now lines buffer (Some noted) seconds start n ids ends w f is b h none = absurd (cc none)

-- its line can't be written
unwritten : (went came : List ℕ → Type 0) (told : ℕ → Type 0) (before between after : Calls) (o : Observer) (shown : Shown) (first now : Written) (lines : ℕ) (buffer : List ℕ) (noted : NotedMessage)
    (seconds : Option ℕ) (start n ids : ℕ) (w : Observation) (P : Rendering → Type 0) → noted.last ≡ false
    → (p : IsPending went came told (HasCalled (MakesCalls before between) o ids (HasCounted o seconds start n)) o shown first now lines w buffer noted)
    → ((r : Rendering) (bytes : List ℕ) (time : ℕ) → P r → EndsStateBy (Superseded bytes time) r → ⊥) → IsUnwritten went came told (MakesCalls between after) o seconds start p.note.message w ids P
    → IsStoppedWriting went came told (MakesCalls before after) o (ObservesNotes o seconds start) P
unwritten went came told before between after o shown first now lines buffer noted seconds start n ids w P state p other h =
    let watching = state_of_pending went came told o p.note (notes_of p.older) w noted.last state p.pending in
    let latest : RenderedNote = record { note = p.note; rendering = h.rendering } in
    record {
      latest = latest;
      older = p.older;
      are = p.are;
      rendered = (
        p.so_far.rendered,
        (
          is_rendering went came told o shown first (λ rs. Unit {0}) (λ rs. Unit {0}) lines p.note (notes_of p.older) w h.rendering watching h.is
              (λ bytes time ends. absurd (other h.rendering bytes time h.line ends)),
          (p.succeeds, subst (λ (x : ℕ). BeginsAt x h.rendering) (sym p.called.1) h.begins),
        ),
      );
      line = h.line;
      called = line_unwritten o seconds start before n latest p.older between after p.begins p.called.0 h.called;
    }

-- the last note can't be printed
pub unprinted_last : (went came : List ℕ → Type 0) (told : ℕ → Type 0) (before after : Calls) (o : Observer) (shown : Shown) (first now : Written) (lines : ℕ) (buffer : List ℕ) (noted : NotedMessage)
    (seconds : Option ℕ) (start n ids : ℕ) (w : Observation) → noted.last ≡ true
    → IsPending went came told (HasCalled (MakesCalls before after) o ids (HasCounted o seconds start n)) o shown first now lines w buffer noted
    → IsStoppedWriting went came told (MakesCalls before after) o (ObservesNotes o seconds start) (λ r. has_line r ≡ true)
unprinted_last went came told before after o shown first now lines buffer noted seconds start n ids w last p = record {
  latest = record { note = p.note; rendering = Whole };
  older = p.older;
  are = p.are;
  rendered = (p.so_far.rendered, (last_is_whole p.note.message (last_pending went came told o p.note (notes_of p.older) w noted.last last p.pending), (p.succeeds, tt)));
  line = refl;
  called = whole_observed o seconds start before n p.note p.older after p.begins p.called.0;
}

-- the rendering of a note fails
pub unrendered : {S : Type 0} (went came : List ℕ → Type 0) (told : ℕ → Type 0) (is_error : PeerError → Type 0) (called : S → List PeerCall → Type 0) (before between after : S) (o : Observer)
    (shown : Shown) (first now : Written) (lines : ℕ) (buffer : List ℕ) (noted : NotedMessage) (seconds : Option ℕ) (start n ids : ℕ) (w : Observation) (e : NotesError) → noted.last ≡ false
    → (p : IsPending went came told (HasCalled (MakesCalls (called before) (called between)) o ids (HasCounted o seconds start n)) o shown first now lines w buffer noted)
    → IsRenderFault went came told is_error (MakesCalls (called between) (called after)) o seconds start p.note.message w ids e
    → IsLaterFault went came told is_error called before after o (ObservesNotes o seconds start) e
unrendered went came told is_error called before between after o shown first now lines buffer noted seconds start n ids w (notes_error.Fault f) state p h = inr (record {
  at = between;
  latest = p.note;
  older = p.older;
  rendered = p.so_far.rendered;
  succeeds = p.succeeds;
  w = w;
  watching = state_of_pending went came told o p.note (notes_of p.older) w noted.last state p.pending;
  further = h.0;
  called_is = uncounted o seconds start (called before) n p.older (called between) p.called.0;
  fails = h.1;
})
unrendered went came told is_error called before between after o shown first now lines buffer noted seconds start n ids w notes_error.Unobserved state p h = h
unrendered went came told is_error called before between after o shown first now lines buffer noted seconds start n ids w (notes_error.Print error) state p h =
    unwritten went came told (called before) (called between) (called after) o shown first now lines buffer noted seconds start n ids w (λ r. has_line r ≡ true) state p
    (λ r bytes time line ends. lined_unsuperseded r bytes time line ends) h
unrendered went came told is_error called before between after o shown first now lines buffer noted seconds start n ids w (notes_error.Report error) state p h =
    unwritten went came told (called before) (called between) (called after) o shown first now lines buffer noted seconds start n ids w IsMissingState state p
    (λ r bytes time line ends. missing_unsuperseded r bytes time line ends) h
unrendered went came told is_error called before between after o shown first now lines buffer noted seconds start n ids w (notes_error.Memory error) state p h = h

-- memory for the first block can't be allocated
pub unjoined : (went came : List ℕ → Type 0) (told : ℕ → Type 0) (is_error : PeerError → Type 0) (Makes : (List PeerCall → Type 0) → Type 0) (o : Observer) (seconds : Option ℕ) (start : ℕ)
    (m : Message) (w : Observation) (ids : ℕ) (f : FetchFault) → has_further m ≡ true → IsNoMemory f → IsRenderFault went came told is_error Makes o seconds start m w ids (notes_error.Fault f)
unjoined went came told is_error Makes o seconds start m w ids fault.Silence further h = absurd h
unjoined went came told is_error Makes o seconds start m w ids fault.Rejected further h = absurd h
unjoined went came told is_error Makes o seconds start m w ids fault.Malformed further h = absurd h
unjoined went came told is_error Makes o seconds start m w ids fault.Changed further h = absurd h
unjoined went came told is_error Makes o seconds start m w ids fault.Part further h = absurd h
unjoined went came told is_error Makes o seconds start m w ids (fault.Socket error) further h = absurd h
unjoined went came told is_error Makes o seconds start m w ids (fault.Memory error) further h = (further, tt)

-- the same since the registration
stopped_since : (went came : List ℕ → Type 0) (told : ℕ → Type 0) (is_error : PeerError → Type 0) (before between after : Calls) (o : Observer) (seconds : Option ℕ) (start : ℕ) (f : FetchFault)
    → MakesCalls before between (HasBegun o seconds start) → IsStoppedWaiting went came told is_error (MakesCalls between after) o (ObservesNotes o seconds start) f
    → IsStoppedWaiting went came told is_error (MakesCalls before after) o (IsObservedSoFar o seconds) f
stopped_since went came told is_error before between after o seconds start fault.Silence one h = h
stopped_since went came told is_error before between after o seconds start fault.Rejected one h = h
stopped_since went came told is_error before between after o seconds start fault.Malformed one h = h
stopped_since went came told is_error before between after o seconds start fault.Changed one h = h
stopped_since went came told is_error before between after o seconds start fault.Part one h = (
  h.0,
  record {
    latest = h.1.latest;
    older = h.1.older;
    rendered = h.1.rendered;
    unsuperseded = h.1.unsuperseded;
    w = h.1.w;
    watching = h.1.watching;
    called = observed_until told o seconds start (h.1.latest ∷ h.1.older) h.1.w (λ x. x ≡ notice.Malformed) before between after one h.1.called;
  },
)
stopped_since went came told is_error before between after o seconds start (fault.Socket error) one h = h
stopped_since went came told is_error before between after o seconds start (fault.Memory error) one h = record {
  latest = h.latest;
  older = h.older;
  rendered = h.rendered;
  unsuperseded = h.unsuperseded;
  w = h.w;
  watching = h.watching;
  called = observed_until told o seconds start (h.latest ∷ h.older) h.w IsNewState before between after one h.called;
}

unwritten_since : (went came : List ℕ → Type 0) (told : ℕ → Type 0) (before between after : Calls) (o : Observer) (seconds : Option ℕ) (start : ℕ) (P : Rendering → Type 0)
    → MakesCalls before between (HasBegun o seconds start) → IsStoppedWriting went came told (MakesCalls between after) o (ObservesNotes o seconds start) P
    → IsStoppedWriting went came told (MakesCalls before after) o (IsObservedSoFar o seconds) P
unwritten_since went came told before between after o seconds start P one h = record {
  latest = h.latest;
  older = h.older;
  are = h.are;
  rendered = h.rendered;
  line = h.line;
  called = observed_so_far o seconds start (h.latest ∷ h.older) before between after one h.called;
}

pub failed_since : {S : Type 0} (went came : List ℕ → Type 0) (told : ℕ → Type 0) (is_error : PeerError → Type 0) (called : S → List PeerCall → Type 0) (before between after : S) (o : Observer)
    (seconds : Option ℕ) (start : ℕ) (e : NotesError) → MakesCalls (called before) (called between) (HasBegun o seconds start)
    → IsLaterFault went came told is_error called between after o (ObservesNotes o seconds start) e → IsLaterFault went came told is_error called before after o (IsObservedSoFar o seconds) e
failed_since went came told is_error called before between after o seconds start (notes_error.Fault f) one (inl h) =
    inl (stopped_since went came told is_error (called before) (called between) (called after) o seconds start f one h)
failed_since went came told is_error called before between after o seconds start (notes_error.Fault f) one (inr h) = inr (record {
  at = h.at;
  latest = h.latest;
  older = h.older;
  rendered = h.rendered;
  succeeds = h.succeeds;
  w = h.w;
  watching = h.watching;
  further = h.further;
  called_is = observed_so_far o seconds start h.older (called before) (called between) (called h.at) one h.called_is;
  fails = h.fails;
})
failed_since went came told is_error called before between after o seconds start notes_error.Unobserved one h = h
failed_since went came told is_error called before between after o seconds start (notes_error.Print error) one h =
    unwritten_since went came told (called before) (called between) (called after) o seconds start (λ r. has_line r ≡ true) one h
failed_since went came told is_error called before between after o seconds start (notes_error.Report error) one h =
    unwritten_since went came told (called before) (called between) (called after) o seconds start IsMissingState one h
failed_since went came told is_error called before between after o seconds start (notes_error.Memory error) one h = h

-- no response is older by itself
no_sequence_is_older : (o : Option ℕ) → by_sequence o ≡ notice.Older → ⊥
no_sequence_is_older None h = cc h
no_sequence_is_older (Some v) h = cc h

never_older : (m : Message) → notice_of m ≡ notice.Older → ⊥
never_older m h = elim (can_be_shown m) as (λ b. (if b then by_success m else notice.Malformed) ≡ notice.Older → ⊥) [
  | true ↦ λ x. elim (is_success m.code) as (λ b. (if b then by_sequence (sequence_of m) else notice.Last) ≡ notice.Older → ⊥) [
    | true ↦ λ y. no_sequence_is_older (sequence_of m) y
    | false ↦ λ y. cc y
  ] x
  | false ↦ λ x. cc x
] h

-- the response to the registration can't be shown
pub unfit_first : (went came : List ℕ → Type 0) (o : Observer) (bytes : List ℕ) (m : Message) (n : NotificationClass) → IsRegistered went came o bytes → reading_of bytes ≡ Ok m
    → n ≡ notice_of m → (n ≡ notice.Older) ⊎ (n ≡ notice.Malformed) → (u : UnfitCame came o.token o.id) × (u.message ≡ m)
unfit_first went came o bytes m n registered read is (inl older) = absurd (never_older m (sym is ∙ older))
unfit_first went came o bytes m n registered read is (inr so) =
    let same : registered.message ≡ m = cc (registered.handled.read_is, read) in (
      record {
        bytes = bytes;
        message = m;
        came_is = registered.handled.came_is;
        read_is = read;
        own = subst (IsResponseWith o.token o.id) same registered.own;
        unfit = unfit_notice m (sym is ∙ so);
      },
      refl,
    )

-- the error says why it can't be shown
pub stopped_unfit : (came : List ℕ → Type 0) (is_error : PeerError → Type 0) (Makes : (List PeerCall → Type 0) → Type 0) (o : Observer) (u : UnfitCame came o.token o.id) (error : NotesError)
    → error ≡ unfit_error u.message → Makes (IsDatedRegistration o) → IsFirstFault came is_error Makes o error
stopped_unfit came is_error Makes o u error is one = subst (IsFirstFault came is_error Makes o) (sym is) (by (is_unobserved u.message) refl)
  where
    by : (b : Bool) → is_unobserved u.message ≡ b → IsFirstFault came is_error Makes o (if b then notes_error.Unobserved else notes_error.Fault fault.Part)
    by true so = record { unfit = u; error_is = ap (λ (b : Bool). if b then notes_error.Unobserved else notes_error.Fault fault.Part) so; called = one }
    by false so = record { unfit = u; error_is = ap (λ (b : Bool). if b then notes_error.Unobserved else notes_error.Fault fault.Part) so; called = one }

-- the response is a state, and there is no memory for its mark
pub unmarked : (went came : List ℕ → Type 0) (before after : Calls) (o : Observer) (bytes : List ℕ) (m : Message) (v : ℕ) → IsRegistered went came o bytes → reading_of bytes ≡ Ok m
    → notice_of m ≡ notice.State v → MakesCalls before after (IsDatedRegistration o) → IsStoppedByFirst came (MakesCalls before after) o
unmarked went came before after o bytes m v registered read is one =
    let same : registered.message ≡ m = cc (registered.handled.read_is, read) in
    record {
      bytes = bytes;
      came_is = record {
        message = m;
        came_is = registered.handled.came_is;
        read_is = read;
        holds = (subst (IsResponseWith o.token o.id) same registered.own, subst IsState (sym is) tt);
      };
      called = one;
    }

-- no later note fails by a silence or a rejection
later_notifies : {S : Type 0} (went came : List ℕ → Type 0) (told : ℕ → Type 0) (is_error : PeerError → Type 0) (called : S → List PeerCall → Type 0) (before after : S) (o : Observer)
    (SoFar : List RenderedNote → List PeerCall → Type 0) (f : FetchFault) → may_notify (notes_error.Fault f) ≡ false → IsLaterFault went came told is_error called before after o SoFar (notes_error.Fault f) → ⊥
later_notifies went came told is_error called before after o SoFar fault.Silence is (inl h) = h
later_notifies went came told is_error called before after o SoFar fault.Silence is (inr h) = h.fails
later_notifies went came told is_error called before after o SoFar fault.Rejected is (inl h) = h
later_notifies went came told is_error called before after o SoFar fault.Rejected is (inr h) = h.fails
later_notifies went came told is_error called before after o SoFar fault.Malformed is h = cc is
later_notifies went came told is_error called before after o SoFar fault.Changed is h = cc is
later_notifies went came told is_error called before after o SoFar fault.Part is h = cc is
later_notifies went came told is_error called before after o SoFar (fault.Socket error) is h = cc is
later_notifies went came told is_error called before after o SoFar (fault.Memory error) is h = cc is

-- the server doesn't have the observer
pub unregistered : {S : Type 0} (called : S → List PeerCall → Type 0) (tried went came : List ℕ → Type 0) (told : ℕ → Type 0) (is_error : PeerError → Type 0) (before after : S) (o : Observer)
    (seconds : Option ℕ) (e : NotesError) → may_notify e ≡ false → IsNotesFault went came told is_error called before after o seconds e
    → LeavesAtFault called is_error tried before after o
unregistered called tried went came told is_error before after o seconds (notes_error.Fault fault.Silence) is (inl h) = inr (inr (inr h))
unregistered called tried went came told is_error before after o seconds (notes_error.Fault fault.Rejected) is (inl h) = inr (inr (inl h))
unregistered called tried went came told is_error before after o seconds (notes_error.Fault fault.Malformed) is (inl h) = absurd (cc is)
unregistered called tried went came told is_error before after o seconds (notes_error.Fault fault.Changed) is (inl h) = absurd (cc is)
unregistered called tried went came told is_error before after o seconds (notes_error.Fault fault.Part) is (inl h) = absurd (cc is)
unregistered called tried went came told is_error before after o seconds (notes_error.Fault (fault.Socket error)) is (inl h) = absurd (cc is)
unregistered called tried went came told is_error before after o seconds (notes_error.Fault (fault.Memory error)) is (inl h) = absurd (cc is)
unregistered called tried went came told is_error before after o seconds (notes_error.Fault f) is (inr h) =
    absurd (later_notifies went came told is_error called before after o (IsObservedSoFar o seconds) f is h)
unregistered called tried went came told is_error before after o seconds notes_error.Unobserved is h = absurd (cc is)
unregistered called tried went came told is_error before after o seconds (notes_error.Print error) is h = absurd (cc is)
unregistered called tried went came told is_error before after o seconds (notes_error.Report error) is h = absurd (cc is)
unregistered called tried went came told is_error before after o seconds (notes_error.Memory error) is h = absurd (cc is)

-- it deregistered, successfully or not
pub left_anyhow : {S : Type 0} (called : S → List PeerCall → Type 0) (is_error : PeerError → Type 0) (tried : List ℕ → Type 0) (before from after : S) (o : Observer) (r : Result Unit FetchFault)
    → tried (deregistration_of o) → OnOk r (MakesCalls (called from) (called after) (IsDeregistration o))
    → IfErr r (IsLeavingFault is_error (MakesCalls (called from) (called after)) o) → LeavesAtFault called is_error tried before after o
left_anyhow called is_error tried before from after o (Ok x) sent ended failed = inl (sent, record { from = from; ends = inl ended })
left_anyhow called is_error tried before from after o (Err f) sent ended failed = inl (sent, record { from = from; ends = inr (f, failed) })

-- the deregistration failed
pub left_in_vain : (is_error : PeerError → Type 0) (before between after : List PeerCall → Type 0) (o : Observer) (seconds : Option ℕ) (end : ObservationEnd) (rs : List RenderedNote) (f : FetchFault)
    → MakesCalls before between (IsTimedObservation o seconds end rs) → IsLeavingFault is_error (MakesCalls between after) o f
    → IsLeftInVain is_error (MakesCalls before after) o seconds f
left_in_vain is_error before between after o seconds end rs fault.Silence one h = record { end = end; rs = rs; fails = both before between after (IsTimedObservation o seconds end rs) _ one h }
left_in_vain is_error before between after o seconds end rs fault.Rejected one h = record { end = end; rs = rs; fails = both before between after (IsTimedObservation o seconds end rs) _ one h }
left_in_vain is_error before between after o seconds end rs fault.Malformed one h = absurd h
left_in_vain is_error before between after o seconds end rs fault.Changed one h = absurd h
left_in_vain is_error before between after o seconds end rs fault.Part one h = absurd h
left_in_vain is_error before between after o seconds end rs (fault.Socket error) one h = record { end = end; rs = rs; fails = h }
left_in_vain is_error before between after o seconds end rs (fault.Memory error) one h = absurd h

pub on_err : {A E : Type 0} (r : Result A E) (P : Type 0) → P → OnErr r P
on_err (Ok x) P h = tt
on_err (Err e) P h = h
