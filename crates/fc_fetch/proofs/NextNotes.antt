-- The notes of an observer with their calls, one after the other.
use Rattle.std.proofs.Common.{◌≡◌, ◌+◌, ◌<◌, ℕ, Bool, false, List, Option, Some, None, take, is_none, is_some, ap, subst, sym, ◌∙◌}
use Rattle.coap_client.specs.Transmissions.{MakesCalls}
use Rattle.coap_observer.specs.Completions.{Missing, Superseded}
use Rattle.coap_observer.specs.declared.observing.NotedMessage.{NotedMessage}
use Rattle.coap_observer.specs.declared.observing.Observer.{Observer}
use Rattle.coap_observer.specs.declared.watch.Observation.{Observation}
use Rattle.coap_client.proofs.Transmitting.{Calls}
use Rattle.fc_fetch.specs.Observing.{AwaitsNext, AwaitsNote, EndsNotes, HasCalled, HasShown, IsBeforeNext, IsLineOrEnd, IsNextNoted, IsPending, IsRenderedAs, ObservesNotes}
use Rattle.fc_fetch.specs.declared.observer.ObservationEnd.TheVariants.{Over}
use Rattle.fc_fetch.specs.declared.rendering.Rendered.{Rendered}
use Rattle.fc_fetch.specs.declared.rendering.Rendered.TheVariants as rendered
use Rattle.fc_fetch.specs.Rendering.{BeginsAt, RenderedNote, Rendering, Written, id_after_note, ids_after}
use Rattle.fc_fetch.specs.declared.printer.Shown.{Shown}
use Rattle.fc_fetch.proofs.Lines.{GoesOn, arrived, before_by, goes_on_missing, goes_on_newer, one_line, over_shown, superseded}
use Rattle.fc_fetch.proofs.Timing.{HasCounted, counts_awaiting, counts_more, counts_nothing, counts_same, line_observed, over_at_rest, over_awaiting}

module _ (went came : List ℕ → Type 0) (told : ℕ → Type 0) (o : Observer) (shown : Shown) (before : Written) (lines : ℕ) (seconds : Option ℕ) (start : ℕ) (base : Calls) where
  -- the calls for the notes so far, with at least n waits since some note
  abbrev pub Counted : ℕ → ℕ → Calls → List RenderedNote → Type 0
  Counted n ids now = HasCalled (MakesCalls base now) o ids (HasCounted o seconds start n)

  pub begin_counting : (ids : ℕ) (now : Calls) (state : Written) (w : Observation) (buffer : List ℕ) (next : Option NotedMessage)
      → IsBeforeNext went came told (HasCalled (MakesCalls base now) o ids (ObservesNotes o seconds start)) o shown before state lines w buffer next
      → IsBeforeNext went came told (Counted 0 ids now) o shown before state lines w buffer next
  begin_counting ids now state w buffer next b =
      before_by went came told o shown before (HasCalled (MakesCalls base now) o ids (ObservesNotes o seconds start)) (Counted 0 ids now) lines state w buffer next
      (λ rs one. (counts_nothing o seconds start base rs now one.0, one.1)) b

  -- the next note arrives, or has arrived already
  pub next_arrived : (n ids : ℕ) (ends : Bool) (between after : Calls) (now : Written) (old new : Observation) (buffer later : List ℕ) (next noted : Option NotedMessage) → ends ≡ is_some seconds
      → IsBeforeNext went came told (Counted n ids between) o shown before now lines old buffer next → IsNextNoted went came told o.token old new buffer later next noted
      → MakesCalls between after (AwaitsNext o.token ends next noted) → IsBeforeNext went came told (Counted n ids after) o shown before now lines new later noted
  next_arrived n ids ends between after now old new buffer later next noted is b w called =
      arrived went came told o shown before (Counted n ids between) (Counted n ids after) lines now old new buffer later next noted
      (λ none r rs free one. (counts_awaiting o seconds start base n ends (is_none noted) r rs between after is free one.0 (subst (λ x. MakesCalls between after (AwaitsNext o.token ends x noted)) none called), one.1))
      (λ some is_next rs one. (counts_same o seconds start base n rs between after one.0 (subst (λ x. MakesCalls between after (AwaitsNext o.token ends x noted)) is_next called), one.1))
      b w

  -- none arrives before the time is over
  pub none_arrived : (n ids : ℕ) (ends : Bool) (between after : Calls) (now : Written) (old new : Observation) (buffer later : List ℕ) (next noted : Option NotedMessage) → ends ≡ is_some seconds
      → noted ≡ None → IsBeforeNext went came told (Counted n ids between) o shown before now lines old buffer next → IsNextNoted went came told o.token old new buffer later next noted
      → MakesCalls between after (AwaitsNext o.token ends next noted) → (limit : ℕ) → lines < limit
      → HasShown went came told (λ rs. MakesCalls base after (EndsNotes o seconds start Over rs)) o shown limit before now Over
  none_arrived n ids ends between after now old new buffer later None noted is none b w called limit fewer =
      over_shown went came told (Counted n ids between) (λ rs. MakesCalls base after (EndsNotes o seconds start Over rs)) o shown before now lines old b.0
      (over_awaiting o seconds start base n ends b.0.latest b.0.older between after is b.1 b.0.called.0 (subst (λ x. MakesCalls between after (AwaitsNote o.token ends (is_none x))) none called))
      limit fewer
  none_arrived n ids ends between after now old new buffer later (Some next) noted is none b w called limit fewer = absurd (cc (none, w.0))

  module _ (n ids following : ℕ) (awaited after : Calls) (now state : Written) (buffer later : List ℕ) (noted : NotedMessage) (old new : Observation) (not_last : noted.last ≡ false)
      (p : IsPending went came told (Counted n ids awaited) o shown before now lines old buffer noted) where
    abbrev Renders : Rendered → Type 0
    Renders effect = IsRenderedAs went came told (MakesCalls awaited after) o shown seconds start p.note.message now state old new ids following later effect

    -- the message IDs of the next state begin there
    follows : (r : Rendering) → following ≡ id_after_note o ids r → id_after_note o (ids_after o p.older) r ≡ following
    follows r is = ap (λ (x : ℕ). id_after_note o x r) p.called.1 ∙ sym is

    -- it has a line
    pub line_rendered : Renders rendered.Line → IsLineOrEnd went came told (MakesCalls base after) o shown seconds start before state lines new following None
    line_rendered r =
        let latest : RenderedNote = record { note = p.note; rendering = r.rendering } in
        one_line went came told o shown before (Counted n ids awaited) (HasCalled (MakesCalls base after) o following (ObservesNotes o seconds start)) lines (MakesCalls awaited after) seconds start now state buffer later
        noted old new ids following not_last p p.called.1 r (line_observed o seconds start base rendered.Line n latest p.older awaited after p.begins p.called.0 r.called, follows r.rendering r.next_is)

    -- it is superseded, and no time is left
    pub over_rendered : Renders rendered.Over → (limit : ℕ) → lines < limit
        → HasShown went came told (λ rs. MakesCalls base after (EndsNotes o seconds start Over rs)) o shown limit before state Over
    over_rendered r limit fewer =
        let e = r.effect_is in
        let latest : RenderedNote = record { note = p.note; rendering = r.rendering } in
        let s = superseded went came told o shown before (Counted n ids awaited) (λ rs. MakesCalls base after (EndsNotes o seconds start Over rs)) lines (MakesCalls awaited after) seconds start now state buffer later noted old new ids following e.0 e.1 e.2 not_last p r.rendering r.is
        (subst (λ (x : ℕ). BeginsAt x r.rendering) (sym p.called.1) r.begins) e.3 e.4 r.text r.error (over_at_rest o seconds start base n (Superseded e.0 e.1) latest p.older awaited after e.3 p.begins p.called.0 r.called) in
        over_shown went came told (λ rs. MakesCalls base after (EndsNotes o seconds start Over rs)) (λ rs. MakesCalls base after (EndsNotes o seconds start Over rs)) o shown before state lines old s.0 s.0.called limit fewer

    -- its further blocks can't be fetched
    pub missing_rendered : Renders rendered.Missing
        → IsBeforeNext went came told (Counted (n + 1) following after) o shown before state lines new later None × GoesOn went came told (Counted (n + 1) following after) o shown before state lines
    missing_rendered r =
        let latest : RenderedNote = record { note = p.note; rendering = r.rendering } in
        let goes = goes_on_missing went came told o shown before (Counted n ids awaited) (Counted (n + 1) following after) lines (MakesCalls awaited after) seconds start now state buffer later noted old new ids following not_last p p.called.1 r
        (counts_more o seconds start base rendered.Missing n (Missing r.effect_is.0.0) latest p.older awaited after r.effect_is.0.1 p.begins p.called.0 r.called, follows r.rendering r.next_is) in
        (goes.0, record { was = new; some = goes.1 })

    -- it is superseded
    pub newer_rendered : (newer : NotedMessage) → Renders (rendered.Newer newer)
        → IsBeforeNext went came told (Counted (n + 1) following after) o shown before state lines new later (Some newer) × GoesOn went came told (Counted (n + 1) following after) o shown before state lines
    newer_rendered newer r =
        let latest : RenderedNote = record { note = p.note; rendering = r.rendering } in
        let goes = goes_on_newer went came told o shown before (Counted n ids awaited) (Counted (n + 1) following after) lines (MakesCalls awaited after) seconds start now state buffer later noted newer old new ids following not_last p p.called.1
        r (counts_more o seconds start base (rendered.Newer newer) n (Superseded (take newer.count later) newer.time) latest p.older awaited after r.effect_is.0 p.begins p.called.0 r.called, follows r.rendering r.next_is) in
        (goes.0, record { was = old; some = goes.1 })
