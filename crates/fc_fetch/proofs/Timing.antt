-- The waits of an observer.
use Rattle.std.proofs.Common.{◌≡◌, ℕ, zero, suc, ◌+◌, ◌≤◌, ◌^◌, ◌⊎◌, inl, inr, Bool, true, false, if◌then◌else◌, List, [], ◌∷◌, ◌++◌, length, Option, Some, None, is_some, refl, sym, ap, subst, ◌∙◌, append_assoc, length-append, arith}
use Rattle.std.specs.List.{All}
use Rattle.std.proofs.lemmas.List.Elements.{All-append, All-cons, All-nil, filter-append}
use Rattle.coap_observer.specs.ObserverFaults.{EndsOnNotification}
use Rattle.coap_client.specs.Listening.{ArePassedOver, IsOver}
use Rattle.coap_observer.specs.ObserverCalls.{AwaitsNotification, Dated, IsDatedRegistration, IsObserving, IsRegistration, IsPassedOverWatching}
use Rattle.coap_client.specs.PeerCalls.{Adds, PeerCall, Reads, Receives, Waits}
use Rattle.coap_observer.specs.Completions.{BlockOutcome, IsFollowing, Joined, Missing, StateEnd, Superseded}
use Rattle.coap_client.specs.Fetching.{State}
use Rattle.coap_observer.specs.Notes.{Note}
use Rattle.coap_client.specs.Schedules.{is_scheduled, schedule}
use Rattle.coap_client.specs.Transmissions.{AreBehind, MakesCalls}
use Rattle.coap_observer.specs.declared.notice.NotificationClass.{NotificationClass}
use Rattle.coap_observer.specs.declared.observing.Observer.{Observer}
use Rattle.coap_observer.specs.declared.watch.Observation.{Observation}
use Rattle.coap_observer.proofs.ObserverCalls.{awaited_steps, observed, waiting_step}
use Rattle.coap_observer.proofs.ObserverSchedules.{noted_quietly}
use Rattle.coap_client.proofs.Transmitting.{Calls, Passes, does_both, does_nothing, does_of, does_then}
use Rattle.fc_fetch.specs.declared.observer.ObservationEnd.{ObservationEnd}
use Rattle.fc_fetch.specs.declared.observer.ObservationEnd.TheVariants.{Counted, Last, Over}
use Rattle.coap_msg.specs.declared.code.Code.{Code}
use Rattle.fc_fetch.specs.declared.rendering.Rendered.{Rendered}
use Rattle.fc_fetch.specs.declared.rendering.Rendered.TheVariants as rendered
use Rattle.fc_fetch.specs.Observing.{AwaitsNote, BeginsRest, BeginsWithState, EndsStateBy, EndsInTime, EndsNotes, IsAtFirst, IsAwaitedIn, IsAwaiting, IsAwaitingAfter, IsObservedSoFar, IsOverAtLast, IsOverAtRest, IsOverBy, IsOverIn, IsRenderedBy, IsStateRequested, IsTimedObservation, IsTimeOver, IsWaitedFor, ObservesNotes, first_wait, is_day, rest_wait}
use Rattle.fc_fetch.specs.Rendering.{AreWhole, Blocks, RenderedNote, Rendering, Whole, is_superseded, notes_of}

schedule_of : (newer older : List PeerCall) → schedule (newer ++ older) ≡ schedule newer ++ schedule older
schedule_of newer older = filter-append is_scheduled newer older

-- each of these datagrams is a call
at_least : (passes : Passes) (n : ℕ) (calls : List PeerCall) → ArePassedOver passes n calls → n ≤ length calls
at_least passes zero calls none = omega arith
at_least passes (suc n) calls one =
    let before = at_least passes n one.older one.before in
    let is = ap length one.is ∙ length-append one.sent (Receives (Some one.bytes) ∷ one.older) in
    omega (arith, before, is)

over_at_last : (passes : Passes) (newer older : List PeerCall) → IsOver passes newer → IsOverAtLast (newer ++ older)
over_at_last passes newer older o = elim o.is as (λ _. IsOverAtLast (newer ++ older)) [
  | inl timed ↦ inl (o.older ++ older, ap (λ (x : List PeerCall). x ++ older) timed)
  | inr full ↦ inr (
      let many = at_least passes o.n o.older o.before in
      let same = ap length full.0 in
      let all = length-append newer older in
      let enough = full.1 in
      omega (arith, many, same, all, enough))
]

-- ---- until the next note

-- n days were waited for, if the time doesn't end
abbrev pub HasDays : Bool → ℕ → List PeerCall → Type 0
HasDays true n calls = n ≡ 0
HasDays false n calls = n ≤ length (schedule calls)

pub record HasAwaited (token : List ℕ) (ends : Bool) (n : ℕ) (calls : List PeerCall) : Type 0 where
  pub observing : IsObserving token calls
  pub awaited : IsAwaitedIn ends calls
  pub days : HasDays ends n calls

none_awaited : (ends : Bool) → IsAwaitedIn ends []
none_awaited true = refl
none_awaited false = All-nil is_day

no_days : (ends : Bool) → HasDays ends 0 []
no_days true = refl
no_days false = omega arith

pub awaits_nothing : (token : List ℕ) (ends : Bool) (now : Calls) → MakesCalls now now (HasAwaited token ends 0)
awaits_nothing token ends now =
    does_nothing now (HasAwaited token ends 0) (record { observing = (0, refl); awaited = none_awaited ends; days = no_days ends })

-- the calls for a note contain no wait
quietly : (ends : Bool) (newer older : List PeerCall) → schedule newer ≡ [] → IsAwaitedIn ends older → IsAwaitedIn ends (newer ++ older)
quietly true newer older quiet awaited = schedule_of newer older ∙ ap (λ (x : List PeerCall). x ++ schedule older) quiet ∙ awaited
quietly false newer older quiet awaited =
    subst (All is_day) (sym (schedule_of newer older ∙ ap (λ (x : List PeerCall). x ++ schedule older) quiet)) awaited

more_quietly : (ends : Bool) (n : ℕ) (newer older : List PeerCall) → schedule newer ≡ [] → HasDays ends n older → HasDays ends n (newer ++ older)
more_quietly true n newer older quiet days = days
more_quietly false n newer older quiet days =
    subst (λ (x : List PeerCall). n ≤ length x) (sym (schedule_of newer older ∙ ap (λ (x : List PeerCall). x ++ schedule older) quiet)) days

passes_quietly : (told : ℕ → Type 0) (token : List ℕ) (ends : Bool) (w : Observation) (n : ℕ) (answer : Option Dated) (before between after : Calls)
    → MakesCalls before between (HasAwaited token ends n) → MakesCalls between after (AwaitsNotification token (IsPassedOverWatching told token w) answer)
    → MakesCalls before after (HasAwaited token ends n)
passes_quietly told token ends w n answer before between after one other =
    does_both before between after (HasAwaited token ends n) (AwaitsNotification token (IsPassedOverWatching told token w) answer) (HasAwaited token ends n) one other
    (λ older newer a b.
    let quiet = noted_quietly told token w answer newer b in
    record {
      observing = observed token newer older (awaited_steps told token w answer newer b) a.observing;
      awaited = quietly ends newer older quiet a.awaited;
      days = more_quietly ends n newer older quiet a.days;
    })

-- one more day
pub one_more_day : (told : ℕ → Type 0) (token : List ℕ) (ends : Bool) (w : Observation) (n : ℕ) (before between after begun : Calls) → ends ≡ false
    → MakesCalls before between (HasAwaited token ends n) → MakesCalls between after (AwaitsNotification token (IsPassedOverWatching told token w) None)
    → Adds after begun (Waits 86400 ∷ []) → MakesCalls before begun (HasAwaited token ends (n + 1))
one_more_day told token ends w n before between after begun is one other adds =
    subst (λ x. MakesCalls before begun (HasAwaited token x (n + 1))) (sym is)
    (does_then before after begun (HasAwaited token false n) (HasAwaited token false (n + 1)) (Waits 86400 ∷ [])
    (passes_quietly told token false w n None before between after (subst (λ x. MakesCalls before between (HasAwaited token x n)) is one) other) adds
    (λ calls h. let days = h.days in record { observing = waiting_step token 86400 calls h.observing; awaited = All-cons is_day (Waits 86400) (schedule calls) refl h.awaited; days = omega (arith, days) }))

-- the next note came, or the time is over
pub note_awaited : (told : ℕ → Type 0) (token : List ℕ) (ends none : Bool) (w : Observation) (n : ℕ) (answer : Option Dated) (before between after : Calls)
    → MakesCalls before between (HasAwaited token ends n) → MakesCalls between after (AwaitsNotification token (IsPassedOverWatching told token w) answer)
    → ((none ≡ true) → (ends ≡ true) × (answer ≡ None)) → MakesCalls before after (AwaitsNote token ends none)
note_awaited told token ends none w n answer before between after one other only =
    let passes = IsPassedOverWatching told token w in
    does_both before between after (HasAwaited token ends n) (AwaitsNotification token passes answer) (AwaitsNote token ends none) one other
    (λ older newer a b. record {
      observing = observed token newer older (awaited_steps told token w answer newer b) a.observing;
      awaited = quietly ends newer older (noted_quietly told token w answer newer b) a.awaited;
      over = λ is.
          let both = only is in
          subst (λ x. IsOverIn x (newer ++ older)) (sym both.0) (over_at_last passes newer older (subst (λ x. AwaitsNotification token passes x newer) both.1 b));
    })

-- 2^64 - 1 days are over
days_over : (ends : Bool) (n : ℕ) (calls : List PeerCall) → 2 ^ 64 ≤ n + 1 → HasDays ends n calls → IsOverIn ends calls
days_over true n calls full none = absurd (omega (arith, full, none))
days_over false n calls full many = omega (arith, full, many)

pub awaited_to_the_end : (token : List ℕ) (ends : Bool) (n : ℕ) (before after : Calls) → 2 ^ 64 ≤ n + 1 → MakesCalls before after (HasAwaited token ends n)
    → MakesCalls before after (AwaitsNote token ends true)
awaited_to_the_end token ends n before after full one =
    does_of before after (HasAwaited token ends n) (AwaitsNote token ends true) one
    (λ calls h. record { observing = h.observing; awaited = h.awaited; over = λ _. days_over ends n calls full h.days })

-- ---- note after note

awaited_on : (ends : Bool) (newer older : List PeerCall) → IsAwaitedIn ends newer → IsAwaitedIn ends older → IsAwaitedIn ends (newer ++ older)
awaited_on true newer older a b = quietly true newer older a b
awaited_on false newer older a b = subst (All is_day) (sym (schedule_of newer older)) (All-append is_day (schedule newer) (schedule older) a b)

nothing_awaited : (token : List ℕ) (ends : Bool) → IsAwaiting token ends []
nothing_awaited token ends = record { observing = (0, refl); awaited = none_awaited ends }

both_awaited : (token : List ℕ) (ends : Bool) (newer older : List PeerCall) → IsAwaiting token ends newer → IsAwaiting token ends older → IsAwaiting token ends (newer ++ older)
both_awaited token ends newer older a b =
    record { observing = observed token newer older a.observing b.observing; awaited = awaited_on ends newer older a.awaited b.awaited }

pub is_awaiting : (token : List ℕ) (ends none : Bool) (seconds : Option ℕ) (calls : List PeerCall) → ends ≡ is_some seconds → AwaitsNote token ends none calls → IsAwaiting token (is_some seconds) calls
is_awaiting token ends none seconds calls is a = record { observing = a.observing; awaited = subst (λ x. IsAwaitedIn x calls) is a.awaited }

-- nothing is called after any note, or some notifications are awaited
nothing_after : (o : Observer) (seconds : Option ℕ) (r : Rendering) → IsAwaitingAfter o seconds r []
nothing_after o seconds Whole = nothing_awaited o.token (is_some seconds)
nothing_after o seconds (Blocks first w outcomes (Joined code body)) = nothing_awaited o.token (is_some seconds)
nothing_after o seconds (Blocks first w outcomes (Superseded bytes time)) = refl
nothing_after o seconds (Blocks first w outcomes (Missing cause)) = nothing_awaited o.token (is_some seconds)

more_after : (o : Observer) (seconds : Option ℕ) (r : Rendering) (newer older : List PeerCall) → is_superseded r ≡ false → IsAwaiting o.token (is_some seconds) newer
    → IsAwaitingAfter o seconds r older → IsAwaitingAfter o seconds r (newer ++ older)
more_after o seconds Whole newer older free a b = both_awaited o.token (is_some seconds) newer older a b
more_after o seconds (Blocks first w outcomes (Joined code body)) newer older free a b = both_awaited o.token (is_some seconds) newer older a b
more_after o seconds (Blocks first w outcomes (Superseded bytes time)) newer older free a b = absurd (cc free)
more_after o seconds (Blocks first w outcomes (Missing cause)) newer older free a b = both_awaited o.token (is_some seconds) newer older a b

-- notifications are awaited after the latest note
awaits_more : (o : Observer) (seconds : Option ℕ) (start : ℕ) (r : RenderedNote) (rs : List RenderedNote) (newer older : List PeerCall) → is_superseded r.rendering ≡ false → IsAwaiting o.token (is_some seconds) newer
    → ObservesNotes o seconds start (r ∷ rs) older → ObservesNotes o seconds start (r ∷ rs) (newer ++ older)
awaits_more o seconds start r rs newer older free a b = record {
  begins = b.begins;
  older = b.older;
  before = b.before;
  own = b.own;
  rendered = b.rendered;
  handled = newer ++ b.handled;
  awaited = more_after o seconds r.rendering newer b.handled free a b.awaited;
  is = ap (λ (x : List PeerCall). newer ++ x) b.is ∙ sym (append_assoc newer b.handled (b.own ++ b.older));
}

-- or one more note is rendered
renders_more : (o : Observer) (seconds : Option ℕ) (start : ℕ) (r : RenderedNote) (rs : List RenderedNote) (newer older : List PeerCall)
    → BeginsWithState (r.note ∷ notes_of rs) → IsRenderedBy o seconds start r.note.message r.rendering newer → ObservesNotes o seconds start rs older → ObservesNotes o seconds start (r ∷ rs) (newer ++ older)
renders_more o seconds start r rs newer older begins a b =
    record { begins = begins; older = older; before = b; own = newer; rendered = a; handled = []; awaited = nothing_after o seconds r.rendering; is = refl }

few_scheduled : (calls : List PeerCall) → length (schedule calls) ≤ length calls
few_scheduled [] = omega arith
few_scheduled (c ∷ calls) = let rest = few_scheduled calls in elim (is_scheduled c) as (λ b. length (if b then c ∷ schedule calls else schedule calls) ≤ suc (length calls)) [
  | true ↦ omega (arith, rest)
  | false ↦ omega (arith, rest)
]

-- the notes so far; since some note, at least n waits were begun
pub record HasCounted (o : Observer) (seconds : Option ℕ) (start n : ℕ) (rs : List RenderedNote) (calls : List PeerCall) : Type 0 where
  pub observed : ObservesNotes o seconds start rs calls
  pub many : n ≤ length (schedule calls)

more_counted : (n : ℕ) (newer older : List PeerCall) → n ≤ length (schedule older) → n ≤ length (schedule (newer ++ older))
more_counted n newer older many = let all = ap length (schedule_of newer older) ∙ length-append (schedule newer) (schedule older) in omega (arith, many, all)

-- the next note is awaited, after the notes so far
pub notes_awaiting : (o : Observer) (seconds : Option ℕ) (start n : ℕ) (ends none : Bool) (r : RenderedNote) (rs : List RenderedNote) (newer older : List PeerCall) → ends ≡ is_some seconds
    → is_superseded r.rendering ≡ false → HasCounted o seconds start n (r ∷ rs) older → AwaitsNote o.token ends none newer → ObservesNotes o seconds start (r ∷ rs) (newer ++ older)
notes_awaiting o seconds start n ends none r rs newer older is free a b = awaits_more o seconds start r rs newer older free (is_awaiting o.token ends none seconds newer is b) a.observed

module _ (o : Observer) (seconds : Option ℕ) (start : ℕ) (before : Calls) where
  pub counts_nothing : (rs : List RenderedNote) (after : Calls) → MakesCalls before after (ObservesNotes o seconds start rs) → MakesCalls before after (HasCounted o seconds start 0 rs)
  counts_nothing rs after one =
      does_of before after (ObservesNotes o seconds start rs) (HasCounted o seconds start 0 rs) one (λ calls h. record { observed = h; many = omega arith })

  pub uncounted : (n : ℕ) (rs : List RenderedNote) (after : Calls) → MakesCalls before after (HasCounted o seconds start n rs) → MakesCalls before after (ObservesNotes o seconds start rs)
  uncounted n rs after one = does_of before after (HasCounted o seconds start n rs) (ObservesNotes o seconds start rs) one (λ calls h. h.observed)

  -- the next note has arrived already
  pub counts_same : (n : ℕ) (rs : List RenderedNote) (between after : Calls) → MakesCalls before between (HasCounted o seconds start n rs) → MakesCalls between after (λ calls. calls ≡ [])
      → MakesCalls before after (HasCounted o seconds start n rs)
  counts_same n rs between after one other =
      does_both before between after (HasCounted o seconds start n rs) (λ calls. calls ≡ []) (HasCounted o seconds start n rs) one other
      (λ older newer a b. subst (λ x. HasCounted o seconds start n rs (x ++ older)) (sym b) a)

  -- or it is awaited
  pub counts_awaiting : (n : ℕ) (ends none : Bool) (r : RenderedNote) (rs : List RenderedNote) (between after : Calls) → ends ≡ is_some seconds
      → is_superseded r.rendering ≡ false → MakesCalls before between (HasCounted o seconds start n (r ∷ rs)) → MakesCalls between after (AwaitsNote o.token ends none)
      → MakesCalls before after (HasCounted o seconds start n (r ∷ rs))
  counts_awaiting n ends none r rs between after is free one other =
      does_both before between after (HasCounted o seconds start n (r ∷ rs)) (AwaitsNote o.token ends none) (HasCounted o seconds start n (r ∷ rs)) one other
      (λ older newer a b. record {
        observed = awaits_more o seconds start r rs newer older free (is_awaiting o.token ends none seconds newer is b) a.observed;
        many = more_counted n newer older a.many;
      })

  -- it has a line
  pub line_observed : (effect : Rendered) (n : ℕ) (r : RenderedNote) (rs : List RenderedNote) (between after : Calls) → BeginsWithState (r.note ∷ notes_of rs)
      → MakesCalls before between (HasCounted o seconds start n rs)
      → MakesCalls between after (λ calls. IsRenderedBy o seconds start r.note.message r.rendering calls × IsOverBy effect calls)
      → MakesCalls before after (ObservesNotes o seconds start (r ∷ rs))
  line_observed effect n r rs between after begins one other =
      does_both before between after (HasCounted o seconds start n rs) (λ calls. IsRenderedBy o seconds start r.note.message r.rendering calls × IsOverBy effect calls)
      (ObservesNotes o seconds start (r ∷ rs)) one other (λ older newer a b. renders_more o seconds start r rs newer older begins b.0 a.observed)

  -- or its line can't be written
  pub line_unwritten : (n : ℕ) (r : RenderedNote) (rs : List RenderedNote) (between after : Calls) → BeginsWithState (r.note ∷ notes_of rs)
      → MakesCalls before between (HasCounted o seconds start n rs)
      → MakesCalls between after (IsRenderedBy o seconds start r.note.message r.rendering) → MakesCalls before after (ObservesNotes o seconds start (r ∷ rs))
  line_unwritten n r rs between after begins one other =
      does_both before between after (HasCounted o seconds start n rs) (IsRenderedBy o seconds start r.note.message r.rendering) (ObservesNotes o seconds start (r ∷ rs)) one other
      (λ older newer a b. renders_more o seconds start r rs newer older begins b a.observed)

  -- a state of several blocks counts one wait
  one_wait : (n : ℕ) (end : StateEnd) (r : RenderedNote) (newer older : List PeerCall) → EndsStateBy end r.rendering → IsRenderedBy o seconds start r.note.message r.rendering newer
      → n ≤ length (schedule older) → n + 1 ≤ length (schedule (newer ++ older))
  one_wait n end r newer older ends h many = by r.rendering ends h
    where
      by : (x : Rendering) → EndsStateBy end x → IsRenderedBy o seconds start r.note.message x newer → n + 1 ≤ length (schedule (newer ++ older))
      by Whole is one = absurd is
      by (Blocks first w outcomes other) is one =
          let own = ap length (ap schedule one.is) in
          let all = ap length (schedule_of newer older) ∙ length-append (schedule newer) (schedule older) in
          omega (arith, many, own, all)

  pub counts_more : (effect : Rendered) (n : ℕ) (end : StateEnd) (r : RenderedNote) (rs : List RenderedNote) (between after : Calls) → EndsStateBy end r.rendering
      → BeginsWithState (r.note ∷ notes_of rs)
      → MakesCalls before between (HasCounted o seconds start n rs)
      → MakesCalls between after (λ calls. IsRenderedBy o seconds start r.note.message r.rendering calls × IsOverBy effect calls)
      → MakesCalls before after (HasCounted o seconds start (n + 1) (r ∷ rs))
  counts_more effect n end r rs between after ends begins one other =
      does_both before between after (HasCounted o seconds start n rs) (λ calls. IsRenderedBy o seconds start r.note.message r.rendering calls × IsOverBy effect calls)
      (HasCounted o seconds start (n + 1) (r ∷ rs)) one other
      (λ older newer a b. record { observed = renders_more o seconds start r rs newer older begins b.0 a.observed; many = one_wait n end r newer older ends b.0 a.many })

  -- no time is left after it
  pub over_at_rest : (n : ℕ) (end : StateEnd) (r : RenderedNote) (rs : List RenderedNote) (between after : Calls) → EndsStateBy end r.rendering
      → BeginsWithState (r.note ∷ notes_of rs)
      → MakesCalls before between (HasCounted o seconds start n rs)
      → MakesCalls between after (λ calls. IsRenderedBy o seconds start r.note.message r.rendering calls × IsOverBy rendered.Over calls)
      → MakesCalls before after (EndsNotes o seconds start Over (r ∷ rs))
  over_at_rest n end r rs between after ends begins one other =
      does_both before between after (HasCounted o seconds start n rs) (λ calls. IsRenderedBy o seconds start r.note.message r.rendering calls × IsOverBy rendered.Over calls)
      (EndsNotes o seconds start Over (r ∷ rs)) one other
      (λ older newer a b. (renders_more o seconds start r rs newer older begins b.0 a.observed, rest_over r.rendering newer older ends b.0 b.1))
    where
      waits_of : List PeerCall → ℕ
      waits_of (Waits seconds ∷ calls) = seconds
      waits_of other = 0

      no_rest : (now : ℕ) (first : Option ℕ) (calls older following : List PeerCall) → first ≡ None → calls ≡ Waits 0 ∷ older → calls ≡ Waits (rest_wait first start now) ∷ following → ⊥
      no_rest now None calls older following none is same = let zero_is = ap waits_of (sym is ∙ same) in omega (arith, zero_is)
      no_rest now (Some s) calls older following none is same = cc none

      rest_over : (x : Rendering) (newer older : List PeerCall) → EndsStateBy end x → IsRenderedBy o seconds start r.note.message x newer → IsOverAtRest newer → IsTimeOver seconds (newer ++ older)
      rest_over Whole newer older is h rest = absurd is
      rest_over (Blocks first w outcomes e) newer older is h rest = by seconds refl
        where
          by : (s : Option ℕ) → seconds ≡ s → IsTimeOver s (newer ++ older)
          by None none = absurd (no_rest h.now seconds newer (Reads rest.0 ∷ rest.1) (Reads h.now ∷ h.following) none rest.2 h.is)
          by (Some s) some = inr (rest.0, rest.1 ++ older, ap (λ (y : List PeerCall). y ++ older) rest.2)

-- the wait was over
time_over : (seconds : Option ℕ) (ends : Bool) (newer older : List PeerCall) → ends ≡ is_some seconds → IsOverIn ends newer → IsTimeOver seconds (newer ++ older)
time_over (Some seconds) ends newer older is over = elim (subst (λ x. IsOverIn x newer) is over) as (λ _. IsOverAtLast (newer ++ older) ⊎ IsOverAtRest (newer ++ older)) [
  | inl timed ↦ inl (inl (timed.0 ++ older, ap (λ (x : List PeerCall). x ++ older) timed.1))
  | inr full ↦ inl (inr (let all = length-append newer older in omega (arith, full, all)))
]
time_over None ends newer older is over =
    let days : 2 ^ 64 ≤ length (schedule newer) + 1 = subst (λ x. IsOverIn x newer) is over in
    let all = ap length (schedule_of newer older) ∙ length-append (schedule newer) (schedule older) in
    omega (arith, days, all)

-- so many notes had no line
over_by_number : (seconds : Option ℕ) (n : ℕ) (calls : List PeerCall) → 2 ^ 64 ≤ n + 1 → n ≤ length (schedule calls) → IsTimeOver seconds calls
over_by_number (Some seconds) n calls full many = let few = few_scheduled calls in inl (inr (omega (arith, full, many, few)))
over_by_number None n calls full many = omega (arith, full, many)

module _ (o : Observer) (seconds : Option ℕ) (start : ℕ) (before : Calls) where
  pub over_awaiting : (n : ℕ) (ends : Bool) (r : RenderedNote) (rs : List RenderedNote) (between after : Calls) → ends ≡ is_some seconds
      → is_superseded r.rendering ≡ false → MakesCalls before between (HasCounted o seconds start n (r ∷ rs)) → MakesCalls between after (AwaitsNote o.token ends true)
      → MakesCalls before after (EndsNotes o seconds start Over (r ∷ rs))
  over_awaiting n ends r rs between after is free one other =
      does_both before between after (HasCounted o seconds start n (r ∷ rs)) (AwaitsNote o.token ends true) (EndsNotes o seconds start Over (r ∷ rs)) one other
      (λ older newer a b. (awaits_more o seconds start r rs newer older free (is_awaiting o.token ends true seconds newer is b) a.observed, time_over seconds ends newer older is (b.over refl)))

  pub over_counted : (n : ℕ) (rs : List RenderedNote) (after : Calls) → 2 ^ 64 ≤ n + 1 → MakesCalls before after (HasCounted o seconds start n rs)
      → MakesCalls before after (EndsNotes o seconds start Over rs)
  over_counted n rs after full one =
      does_of before after (HasCounted o seconds start n rs) (EndsNotes o seconds start Over rs) one (λ calls h. (h.observed, over_by_number seconds n calls full h.many))

  -- the last note is whole
  pub last_observed : (n : ℕ) (code : Code) (note : Note) (rs : List RenderedNote) (after : Calls) → BeginsWithState (note ∷ notes_of rs) → MakesCalls before after (HasCounted o seconds start n rs)
      → MakesCalls before after (EndsNotes o seconds start (Last code) (record { note = note; rendering = Whole } ∷ rs))
  last_observed n code note rs after begins one =
      does_of before after (HasCounted o seconds start n rs) (EndsNotes o seconds start (Last code) (record { note = note; rendering = Whole } ∷ rs)) one
      (λ calls h. (renders_more o seconds start (record { note = note; rendering = Whole }) rs [] calls begins refl h.observed, tt))

  -- a whole note that can't be printed
  pub whole_observed : (n : ℕ) (note : Note) (rs : List RenderedNote) (after : Calls) → BeginsWithState (note ∷ notes_of rs) → MakesCalls before after (HasCounted o seconds start n rs)
      → MakesCalls before after (ObservesNotes o seconds start (record { note = note; rendering = Whole } ∷ rs))
  whole_observed n note rs after begins one =
      does_of before after (HasCounted o seconds start n rs) (ObservesNotes o seconds start (record { note = note; rendering = Whole } ∷ rs)) one
      (λ calls h. renders_more o seconds start (record { note = note; rendering = Whole }) rs [] calls begins refl h.observed)

-- ---- the calls for one state

-- the rest of the time begins again after the requests
pub state_requested : (o : Observer) (seconds : Option ℕ) (start first rest : ℕ) (from : State) (outcomes : List BlockOutcome) (end : StateEnd) (before between after : Calls)
    → MakesCalls before between (IsFollowing o first from outcomes end) → MakesCalls between after (BeginsRest seconds start rest)
    → MakesCalls before after (λ calls. IsStateRequested o seconds start first from outcomes end calls × (rest ≡ 0 → IsOverAtRest calls))
state_requested o seconds start first rest from outcomes end before between after one other =
    does_both before between after (IsFollowing o first from outcomes end) (BeginsRest seconds start rest)
    (λ calls. IsStateRequested o seconds start first from outcomes end calls × (rest ≡ 0 → IsOverAtRest calls)) one other
    (λ older newer a b. (
      record {
        following = older;
        requested = a;
        now = b.0;
        is = ap (λ (x : List PeerCall). x ++ older) b.2 ∙ ap (λ (x : ℕ). Waits x ∷ Reads b.0 ∷ older) b.1;
      },
      λ none. (b.0, older, ap (λ (x : List PeerCall). x ++ older) b.2 ∙ ap (λ (x : ℕ). Waits x ∷ Reads b.0 ∷ older) none),
    ))

pub rests : (seconds : Option ℕ) (start now rest : ℕ) (before between after : Calls) → rest ≡ rest_wait seconds start now → Adds before between (Reads now ∷ []) → Adds between after (Waits rest ∷ [])
    → MakesCalls before after (BeginsRest seconds start rest)
rests seconds start now rest before between after is reads waits calls h =
    record { more = Waits rest ∷ Reads now ∷ []; are = (now, is, refl); is = waits (Reads now ∷ calls) (reads calls h) }

-- ---- from the registration on

-- the clock is read after the response
pub dated : (o : Observer) (answer : List ℕ) (time : ℕ) (before between after : Calls) → MakesCalls before between (IsRegistration o answer) → Adds between after (Reads time ∷ [])
    → MakesCalls before after (IsDatedRegistration o)
dated o answer time before between after one adds =
    does_then before between after (IsRegistration o answer) (IsDatedRegistration o) (Reads time ∷ []) one adds
    (λ older a. record { older = older; answered = (answer, a); time = time; is = refl })

pub dated_at : (o : Observer) (answer : List ℕ) (at time : ℕ) (before between after : Calls) → time ≡ at → MakesCalls before between (IsRegistration o answer) → Adds between after (Reads time ∷ [])
    → MakesCalls before after (λ calls. (d : IsDatedRegistration o calls) × (d.time ≡ at))
dated_at o answer at time before between after is one adds =
    does_then before between after (IsRegistration o answer) (λ calls. (d : IsDatedRegistration o calls) × (d.time ≡ at)) (Reads time ∷ []) one adds
    (λ older a. (record { older = older; answered = (answer, a); time = time; is = refl }, is))

-- the observer registered at this time, and began the first wait
pub record HasBegun (o : Observer) (seconds : Option ℕ) (start : ℕ) (calls : List PeerCall) : Type 0 where
  pub older : List PeerCall
  pub registered : IsDatedRegistration o older
  pub start_is : registered.time ≡ start
  pub is : calls ≡ Waits (first_wait seconds) ∷ older

-- in some state of the peer, the first wait had begun
pub record IsSinceBegun {S : Type 0} (called : S → List PeerCall → Type 0) (before : S) (o : Observer) (seconds : Option ℕ) (start : ℕ) (Then : S → Type 0) : Type 0 where
  pub at : S
  pub begun : MakesCalls (called before) (called at) (HasBegun o seconds start)
  pub since : Then at

pub waits_first : (o : Observer) (seconds : Option ℕ) (start wait : ℕ) (before between after : Calls) → wait ≡ first_wait seconds
    → MakesCalls before between (λ calls. (d : IsDatedRegistration o calls) × (d.time ≡ start)) → Adds between after (Waits wait ∷ []) → MakesCalls before after (HasBegun o seconds start)
waits_first o seconds start wait before between after is one adds =
    does_then before between after (λ calls. (d : IsDatedRegistration o calls) × (d.time ≡ start)) (HasBegun o seconds start) (Waits wait ∷ []) one adds
    (λ older a. record { older = older; registered = a.0; start_is = a.1; is = ap (λ (x : ℕ). Waits x ∷ older) is })

ends_so : (o : Observer) (seconds : Option ℕ) (start : ℕ) (end : ObservationEnd) (rs : List RenderedNote) (newer older : List PeerCall) → HasBegun o seconds start older
    → ObservesNotes o seconds start rs newer → EndsInTime seconds end (newer ++ Waits (first_wait seconds) ∷ []) → IsTimedObservation o seconds end rs (newer ++ older)
ends_so o seconds start end rs newer older a b ends = record {
  older = a.older;
  registered = a.registered;
  newer = newer ++ Waits (first_wait seconds) ∷ [];
  waited = inr (record { handled = newer; observed = subst (λ (x : ℕ). ObservesNotes o seconds x rs newer) (sym a.start_is) b; is = refl });
  ends = ends;
  is = ap (λ (x : List PeerCall). newer ++ x) a.is ∙ sym (append_assoc newer (Waits (first_wait seconds) ∷ []) a.older);
}

time_over_on : (seconds : Option ℕ) (newer older : List PeerCall) → IsTimeOver seconds newer → IsTimeOver seconds (newer ++ older)
time_over_on (Some seconds) newer older (inl over) = time_over (Some seconds) true newer older refl over
time_over_on (Some seconds) newer older (inr rest) = inr (rest.0, rest.1 ++ older, ap (λ (x : List PeerCall). x ++ older) rest.2)
time_over_on None newer older over = time_over None false newer older refl over

ends_on : (seconds : Option ℕ) (end : ObservationEnd) (newer older : List PeerCall) → EndsInTime seconds end newer → EndsInTime seconds end (newer ++ older)
ends_on seconds Counted newer older ends = tt
ends_on seconds Over newer older ends = time_over_on seconds newer older ends
ends_on seconds (Last code) newer older ends = tt

-- the observation so far, or to its end
pub observed_so_far : (o : Observer) (seconds : Option ℕ) (start : ℕ) (rs : List RenderedNote) (before between after : Calls) → MakesCalls before between (HasBegun o seconds start)
    → MakesCalls between after (ObservesNotes o seconds start rs) → MakesCalls before after (IsObservedSoFar o seconds rs)
observed_so_far o seconds start rs before between after one other =
    does_both before between after (HasBegun o seconds start) (ObservesNotes o seconds start rs) (IsObservedSoFar o seconds rs) one other
    (λ older newer a b. ends_so o seconds start Counted rs newer older a b tt)

pub observed_to_end : (o : Observer) (seconds : Option ℕ) (start : ℕ) (end : ObservationEnd) (rs : List RenderedNote) (before between after : Calls) → MakesCalls before between (HasBegun o seconds start)
    → MakesCalls between after (EndsNotes o seconds start end rs) → MakesCalls before after (IsTimedObservation o seconds end rs)
observed_to_end o seconds start end rs before between after one other =
    does_both before between after (HasBegun o seconds start) (EndsNotes o seconds start end rs) (IsTimedObservation o seconds end rs) one other
    (λ older newer a b. ends_so o seconds start end rs newer older a b.0 (ends_on seconds end newer (Waits (first_wait seconds) ∷ []) b.1))

-- a notification ends the observation
pub observed_until : (told : ℕ → Type 0) (o : Observer) (seconds : Option ℕ) (start : ℕ) (rs : List RenderedNote) (w : Observation) (P : NotificationClass → Type 0) (before between after : Calls)
    → MakesCalls before between (HasBegun o seconds start) → MakesCalls between after (AreBehind (ObservesNotes o seconds start rs) (EndsOnNotification told o.token w P))
    → MakesCalls before after (AreBehind (IsObservedSoFar o seconds rs) (EndsOnNotification told o.token w P))
observed_until told o seconds start rs w P before between after one other =
    does_both before between after (HasBegun o seconds start) (AreBehind (ObservesNotes o seconds start rs) (EndsOnNotification told o.token w P))
    (AreBehind (IsObservedSoFar o seconds rs) (EndsOnNotification told o.token w P)) one other
    (λ older newer a b. record {
      older = b.older ++ older;
      first = ends_so o seconds start Counted rs b.older older a b.first tt;
      newer = b.newer;
      then = b.then;
      is = ap (λ (x : List PeerCall). x ++ older) b.is ∙ append_assoc b.newer b.older older;
    })

-- or the first response is the last
pub ends_at_first : (o : Observer) (seconds : Option ℕ) (code : Code) (rs : List RenderedNote) (before after : Calls) → IsAtFirst (Last code) rs → MakesCalls before after (IsDatedRegistration o)
    → MakesCalls before after (IsTimedObservation o seconds (Last code) rs)
ends_at_first o seconds code rs before after only one =
    does_of before after (IsDatedRegistration o) (IsTimedObservation o seconds (Last code) rs) one
    (λ calls a. record { older = calls; registered = a; newer = []; waited = inl (only, refl); ends = tt; is = refl })

-- ---- the waits in the schedule

-- a whole note adds no wait but those for the next note
whole_wait : (o : Observer) (seconds : Option ℕ) (start : ℕ) (rs : List RenderedNote) (calls : List PeerCall) → AreWhole rs → ObservesNotes o seconds start rs calls → IsAwaitedIn (is_some seconds) calls
whole_wait o seconds start [] calls whole h = subst (IsAwaitedIn (is_some seconds)) (sym h) (none_awaited (is_some seconds))
whole_wait o seconds start (r ∷ rs) calls whole h =
    let own : h.own ≡ [] = subst (λ x. IsRenderedBy o seconds start r.note.message x h.own) whole.1 h.rendered in
    let before = whole_wait o seconds start rs h.older whole.0 h.before in
    subst (IsAwaitedIn (is_some seconds)) (sym (h.is ∙ ap (λ (x : List PeerCall). h.handled ++ (x ++ h.older)) own)) (awaited_on (is_some seconds) h.handled h.older (subst (λ x. IsAwaitingAfter o seconds x h.handled) whole.1 h.awaited).awaited before)

pub lasts_seconds : (o : Observer) (seconds start : ℕ) (rs : List RenderedNote) (calls : List PeerCall) → AreWhole rs → IsWaitedFor o (Some seconds) start rs calls
    → schedule calls ≡ Waits seconds ∷ []
lasts_seconds o seconds start rs calls whole w =
    ap schedule w.is
    ∙ (schedule_of w.handled (Waits seconds ∷ [])
    ∙ ap (λ (x : List PeerCall). x ++ Waits seconds ∷ []) (whole_wait o (Some seconds) start rs w.handled whole w.observed))

pub lasts_days : (o : Observer) (start : ℕ) (rs : List RenderedNote) (calls : List PeerCall) → AreWhole rs → IsWaitedFor o None start rs calls → All is_day (schedule calls)
lasts_days o start rs calls whole w =
    subst (All is_day) (sym (ap schedule w.is ∙ schedule_of w.handled (Waits 86400 ∷ [])))
    (All-append is_day (schedule w.handled) (Waits 86400 ∷ []) (whole_wait o None start rs w.handled whole w.observed) (All-cons is_day (Waits 86400) [] refl (All-nil is_day)))
