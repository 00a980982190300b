-- Definitions for the laws of stored answers.
use Rattle.std.specs.Prelude.{◌≡◌, ℕ, ◌⊎◌, true, List, map, slice_set, Option, Some, None, is_some, max}
use Rattle.arrayvec.specs.ArrayVec.{ArrayVec}
use Rattle.coap_msg.specs.declared.types.Emission.{Emission}
use Rattle.fc_front.specs.Contents.{Content}
use Rattle.fc_core.specs.declared.event.Event.{Event}
use Rattle.fc_core.specs.declared.event.Event.TheVariants.{Answer}
use Rattle.fc_core.specs.Stage.{ToAnswer}
use Rattle.fc_core.specs.History.{Seen, job, stage}
use Rattle.fc_front.specs.Ids.{free_id}

-- ---- stored answers

-- the bytes of an emission, if there is one.
abbrev pub emitted_bytes : Option Emission → Option (ArrayVec ℕ)
emitted_bytes None = None
emitted_bytes (Some emission) = Some emission.bytes

-- the stored answer of each exchange, at the exchange's number.
abbrev pub answers : Seen → List (Option (ArrayVec ℕ))
answers s = map (λ e. e.answer) s.exchanges

-- the number of the exchange of a job's request.
abbrev pub exchange_of_job : Seen → ℕ → ℕ
exchange_of_job s k = (job s k).origin.opening.number

-- the stored answers after the `Answer` of a job whose exchange has this number. An emission
-- replaces the answer of this exchange. Without an emission all answers are unchanged.
abbrev pub answers_with : Option Emission → ℕ → List (Option (ArrayVec ℕ)) → List (Option (ArrayVec ℕ))
answers_with None number kept = kept
answers_with (Some emission) number kept = slice_set kept number (Some emission.bytes)

-- the event is the `Answer` of a job that is to be answered.
pub record AnswersJob (s : Seen) (e : Event) : Type 0 where
  pub number : ℕ
  pub now : ℕ
  pub content : Content
  pub event : e ≡ Answer number now
  pub at : stage s number ≡ ToAnswer content

-- ---- times of answers

-- the time when the exchange of a job's request was opened.
abbrev pub opened_at : Seen → ℕ → ℕ
opened_at s k = (job s k).origin.opening.at

-- there is a message ID for the answer of a job: that of the confirmable request, or one of the
-- server that is available at this time.
abbrev pub HasId : Seen → ℕ → ℕ → Type 0
HasId s k now = ((job s k).confirmable ≡ true) ⊎ (is_some (free_id s.ids (max s.time now)) ≡ true)
