-- Definitions for the law of draws: the events that need a message ID of the server.
use Rattle.std.specs.Prelude.{◌≡◌, ℕ, ◌+◌, ◌<◌, false, max, Option}
use Rattle.coap_msg.specs.Wire.{Message}
use Rattle.coap_opts.specs.Verdict.{Asked}
use Rattle.coap_reply.specs.Responses.{Response}
use Rattle.fc_observe.specs.declared.entry.Turn.{Turn}
use Rattle.fc_ticket.specs.Tickets.{Ticket}
use Rattle.fc_core.specs.declared.event.Event.{Event}
use Rattle.fc_core.specs.declared.event.Event.TheVariants.{Answer, Deliver, Fresh}
use Rattle.fc_front.specs.Contents.{Content}
use Rattle.fc_core.specs.History.{Seen, job, stage}
use Rattle.fc_front.specs.Receiving.{Immediate, is_confirmable}
use Rattle.fc_core.specs.Stage.{ToAnswer, ToTell}
use Rattle.fc_core.specs.TurnStage as turns
use Rattle.fc_laws.specs.BodyLaws.{Asks, asked_at}
use Rattle.fc_laws.specs.ExchangeLaws.{FindsNoExchange, HasExchange}
use Rattle.fc_laws.specs.KeptLaws.{opened_at}
use Rattle.fc_laws.specs.ReplyLaws.{Refuses}

-- the block of a request is answered on arrival, by this response.
abbrev pub RespondsNow : Seen → Event → Message → Asked → Response → Type 0
RespondsNow s (Deliver now to bytes) m r response = asked_at s now to m r ≡ Immediate m r response
RespondsNow s other m r response = ⊥

-- the event delivers a new request that is answered on arrival: there is no space for its exchange,
-- a check of its options refuses it, its block is refused, or its block isn't the last one.
pub data IsAnsweredAtOnce (s : Seen) (e : Event) (m : Message) : Type 0 where
  FindsNoRoom : (crowded : FindsNoExchange s e m) → IsAnsweredAtOnce s e m
  IsRefused : (answer : ℕ) (refuses : Refuses s e m answer) → IsAnsweredAtOnce s e m
  IsImmediate : (asked : Asked) (response : Response) (asks : Asks s e m asked) (settles : RespondsNow s e m asked response) → IsAnsweredAtOnce s e m

-- the event needs a message ID of the server. It answers a request that isn't confirmable, or it
-- draws the message ID of a lease's notification. The request is answered on arrival, or by its job
-- less than 247,000 ms after the exchange was opened.
pub data NeedsId (s : Seen) (e : Event) : Type 0 where
  AnswersAtOnce : (m : Message) (kind : is_confirmable m.kind ≡ false) (answers : IsAnsweredAtOnce s e m) → NeedsId s e
  AnswersInTime : (k now : ℕ) (content : Content) (event : e ≡ Answer k now) (at : stage s k ≡ ToAnswer content) (kind : (job s k).confirmable ≡ false) (opened : HasExchange (job s k))
      (in_time : max s.time now < opened_at s k + 247000) → NeedsId s e
  TellsTurn : (k now : ℕ) (turn : Turn) (found : Option Ticket) (event : e ≡ Fresh k now) (at : stage s k ≡ ToTell turn (turns.ToDraw found)) → NeedsId s e
