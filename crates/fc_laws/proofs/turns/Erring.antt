-- A notification that isn't a 2.05 (Content) removes its observer.
use Rattle.std.proofs.Common.{◌≡◌, ℕ, List, [], ◌∷◌, ◌++◌, Bool, false, Option, Some, None, refl, sym, ap, ◌∙◌}
use Rattle.std.specs.Prelude.{if◌then◌else◌}
use Rattle.std.proofs.lemmas.Bool.{eq-eqb}
use Rattle.coap_msg.specs.declared.types.Emission.{Emission}
use Rattle.fc_observe.specs.declared.entry.Entry.{Entry as ObserverEntry}
use Rattle.fc_observe.specs.declared.entry.Turn.{Turn}
use Rattle.fc_observe.specs.Calls.{ObserverCall, Advance, End, observers}
use Rattle.fc_observe.specs.Observers.{ObserverList, list_at_time, entry_out}
use Rattle.fc_observe.proofs.Leaving.{observer_gone}
use Rattle.fc_ticket.specs.Notes.{note_calls}
use Rattle.fc_ticket.proofs.Endings.{error_ends}
use Rattle.fc_ticket.specs.Tickets.{Ticket}
use Rattle.fc_core.specs.declared.event.Event.TheVariants.{Note}
use Rattle.fc_core.specs.Stage.{Stage}
use Rattle.fc_core.specs.Stage.{ToTell}
use Rattle.fc_core.specs.TurnStage as turns
use Rattle.fc_core.specs.History.{Seen, and_then, did, inputs, stage, watch}
use Rattle.fc_core.specs.Laws.{slot_of}
use Rattle.fc_core.specs.Legal.{Emits}
use Rattle.fc_laws.specs.ObserveLaws.{is_held}
use Rattle.fc_core.specs.Transitions.{transition}
use Rattle.fc_laws.specs.TurnLaws.{IsNoContent, time_at}
use Rattle.fc_laws.proofs.turns.Notices.{note_sends}
use Rattle.fc_laws.proofs.turns.Turning.{at_stage}

-- a notification that isn't a 2.05 (Content) ends the lease of its observer.
turn_ends : (turn : Turn) (id random at : ℕ) (found : Option Ticket) (e : Emission) → IsNoContent found → note_calls turn id random at found (Some e) ≡ End turn ∷ Advance at ∷ []
turn_ends turn id random at None e not = refl
turn_ends turn id random at (Some t) e not = error_ends turn id random at t e not

module _ (s : Seen) (k now random id : ℕ) (turn : Turn) (found : Option Ticket) (e : Emission) where
  abbrev n : ℕ
  n = slot_of s k

  abbrev at : ℕ
  at = time_at s k now

  -- the observers after the notification are those without the lease's observer.
  ended : stage s k ≡ ToTell turn (turns.ToNote found id) → IsNoContent found → Emits s (Note k now random) (Some e) → watch (and_then (did (Note k now random) (Some e)) s) n ≡ observers n s.policy.confirm_after (End turn ∷ Advance at ∷ s.calls n)
  ended is not sent =
      ap (λ (b : Bool). observers n s.policy.confirm_after ((if b then (transition (Note k now random) (inputs s k)).calls else []) ++ s.calls n)) (eq-eqb n n refl)
      ∙ (ap (λ (x : Stage). observers n s.policy.confirm_after ((transition (Note k now random) (at_stage s k x)).calls ++ s.calls n)) is
      ∙ (ap (λ (o : Option Emission). observers n s.policy.confirm_after (note_calls turn id random at found o ++ s.calls n)) (sym (note_sends s k now random id turn found (Some e) is sent))
      ∙ ap (λ (cs : List ObserverCall). observers n s.policy.confirm_after (cs ++ s.calls n)) (turn_ends turn id random at found e not)))

  pub observer_removed : (x : ObserverEntry) → stage s k ≡ ToTell turn (turns.ToNote found id) → IsNoContent found → entry_out turn (list_at_time at (watch s n)) ≡ Some x → Emits s (Note k now random) (Some e) → is_held x.endpoint x.token.items (watch (and_then (did (Note k now random) (Some e)) s) n) ≡ false
  observer_removed x is not out sent =
      ap (λ (w : ObserverList). is_held x.endpoint x.token.items w) (ended is not sent) ∙ observer_gone n s.policy.confirm_after turn x (Advance at ∷ s.calls n) out
