use Rattle.std.proofs.Common.{◌≡◌, ℕ, inl, inr, [], ◌∷◌, List, Some, subst}
use Rattle.coap_observer.specs.Notices.{notice_of}
use Rattle.coap_observer.specs.declared.notice.NotificationClass.TheVariants as notice
use Rattle.fc_fetch.specs.Observing.{IsAtFirst, IsState, IsWaitedFor}
use Rattle.fc_fetch.specs.Rendering.{RenderedNote}
use Rattle.fc_fetch.specs.declared.observer.ObservationEnd.{ObservationEnd}
use Rattle.fc_fetch.specs.declared.observer.ObservationEnd.TheVariants.{Counted, Last, Over}
use Rattle.fc_fetch.proofs.Timing.{lasts_days, lasts_seconds}
use Rattle.fc_fetch.proofs.laws.an_observation_lasts_so_many_seconds.Goals as goal

-- the response to the registration is the last
no_state : (end : ObservationEnd) (r : RenderedNote) (v : ℕ) → IsAtFirst end (r ∷ []) → notice_of r.note.message ≡ notice.State v → ⊥
no_state Counted r v h state = h
no_state Over r v h state = h
no_state (Last code) r v h state = cc (h, state)

-- it isn't the only note
not_alone : (end : ObservationEnd) (r n : RenderedNote) (rs : List RenderedNote) → IsAtFirst end (r ∷ n ∷ rs) → ⊥
not_alone Counted r n rs h = h
not_alone Over r n rs h = h
not_alone (Last code) r n rs h = h

pub returns-clause-seconds : goal.returns-clause-seconds
returns-clause-seconds c = λ o start rs calls whole w. lasts_seconds o 5 start rs calls whole w

pub returns-clause-days : goal.returns-clause-days
returns-clause-days c = λ o start rs calls whole w. lasts_days o start rs calls whole w

pub returns-clause-last : goal.returns-clause-last
returns-clause-last c = λ o end r calls t last. elim t.waited as (λ _. t.newer ≡ []) [
  | inl first ↦ first.1
  | inr waited ↦ absurd (subst IsState last waited.observed.begins)
]

pub returns-clause-state : goal.returns-clause-state
returns-clause-state c = λ o end r calls t state. elim t.waited as (λ _. IsWaitedFor o (Some 5) t.registered.time (r ∷ []) t.newer) [
  | inl first ↦ absurd (no_state end r 7 first.0 state)
  | inr waited ↦ waited
]

pub returns-clause-later : goal.returns-clause-later
returns-clause-later c = λ o end r n rs calls t. elim t.waited as (λ _. IsWaitedFor o (Some 5) t.registered.time (r ∷ n ∷ rs) t.newer) [
  | inl first ↦ absurd (not_alone end r n rs first.0)
  | inr waited ↦ waited
]
