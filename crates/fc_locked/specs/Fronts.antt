-- A front that only calls have changed since the server began.
use Rattle.std.specs.Prelude.{◌≡◌, ℕ, List, [], ◌∷◌, Option}
use Rattle.coap_msg.specs.declared.types.Emission.{Emission}
use Rattle.coap_msg.specs.declared.types.Endpoint.{Endpoint}
use Rattle.fc_front.specs.declared.by_value.Delivered.{Delivered}
use Rattle.fc_front.specs.Contents.{Content}
use Rattle.fc_front.specs.Exchanges.{FrontState}
use Rattle.fc_ticket.specs.declared.job.Job.{Job}
use Rattle.fc_calls.specs.Doings.{AdvancesTo, AnswersAt, DrawsAt, FiresAt, HandlesAt}

-- a call of a front. A datagram is handled, the clock advances, the timer of a slot fires, a
-- message ID is drawn, or a job is answered.
pub data FrontCall (before after : FrontState) : Type 0 where
  Handles : (now : ℕ) (from : Endpoint) (bytes : List ℕ) (brings : Delivered) → HandlesAt now from bytes brings before after → FrontCall before after
  Passes : (now : ℕ) → AdvancesTo now before after → FrontCall before after
  Fires : (slot now : ℕ) → FiresAt now before after → FrontCall before after
  Draws : (now : ℕ) (id : Option ℕ) → DrawsAt now id before after → FrontCall before after
  Answers : (now : ℕ) (job : Job) (content : Content) (sent : Option Emission) → AnswersAt now job content sent before after → FrontCall before after

-- calls lead from the first front to the last one. The list has the front before each call, the
-- newest first.
abbrev pub AreFrontsFrom : FrontState → List FrontState → FrontState → Type 0
AreFrontsFrom first [] front = front ≡ first
AreFrontsFrom first (before ∷ earlier) front = AreFrontsFrom first earlier before × FrontCall before front

-- a front that only calls have changed since it was `first`.
pub record BeganAt (first front : FrontState) : Type 0 where
  pub earlier : List FrontState
  pub calls : AreFrontsFrom first earlier front
