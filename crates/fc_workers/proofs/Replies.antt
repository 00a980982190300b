-- The messages that are sent for jobs that were run.
use Rattle.std.proofs.Common.{◌≡◌, inl, inr, ℕ, Bool, Option, Some, None, sym, subst}
use Rattle.coap_msg.specs.declared.types.Emission.{Emission}
use Rattle.fc_observe.specs.declared.entry.Turn.{Turn}
use Rattle.fc_ticket.specs.declared.job.Job.{Job}
use Rattle.fc_ticket.specs.declared.note.Noted.{Noted}
use Rattle.fc_ticket.specs.declared.note.Noted.TheVariants.{Send, Stale as StaleNote, Stranger}
use Rattle.fc_ticket.specs.declared.note.Notification.{Notification}
use Rattle.fc_ticket.specs.Taken.{Taken}
use Rattle.fc_ticket.specs.Taken.{Given, Missing, Stale, Refused}
use Rattle.fc_registry.specs.Calls.{turn_of}
use Rattle.fc_ticket.specs.Notes.{sent_of}
use Rattle.fc_ticket.specs.Tickets.{Ticket}
use Rattle.fc_backend.specs.Statistics.{Share}
use Rattle.fc_backend.specs.Answers.{IsSomeNote, IsNote, GoesOut}
use Rattle.fc_backend.specs.Logs.{TrackedLog}
use Rattle.fc_backend.specs.Called.{SendsReply}
use Rattle.fc_workers.specs.Views.{WorkerView}
use Rattle.fc_workers.specs.Outgoing.{IsFoundTold, IsSent, IsTurnReply, with_reply}
use Rattle.fc_workers.specs.Work.{IsWorked, IsWorkedAs}

nothing_out : {A : Type 0} (e : Emission) → Some e ≡ None → A
nothing_out e is = absurd (let n = is in cc)

sent_is_note : (now : ℕ) (told : Notification) (turn : Turn) (id : ℕ) (noted : Noted) (e : Emission) → IsSomeNote now told turn id noted
    → Some e ≡ sent_of noted → IsNote e
sent_is_note now told turn id (Send out) e note is = record {
  now = now;
  told = told;
  turn = turn;
  id = id;
  note = subst (λ (x : Emission). IsSomeNote now told turn id (Send x)) (let n = is in cc) note;
}
sent_is_note now told turn id StaleNote e note is = nothing_out e is
sent_is_note now told turn id Stranger e note is = nothing_out e is

module _ {T : Type 0} (s : WorkerView T) where
  told_is_reply : (turn : Turn) (found : Option Ticket) (e : Emission) (before after : TrackedLog) → IsFoundTold s turn found (Some e) before after → GoesOut e
  told_is_reply turn found e before after (inl n) = inr (sent_is_note n.noted.now n.told turn n.id n.noted.noted e n.noted.note n.noted.reply_is)
  told_is_reply turn found e before after (inr n) = nothing_out e n.given_up.nothing

  turn_is_reply : (turn : Turn) (taken : Taken) (e : Emission) (before after : TrackedLog) → IsTurnReply s turn taken (Some e) before after → GoesOut e
  turn_is_reply turn (Given t) e before after is = told_is_reply turn (Some t) e before after is
  turn_is_reply turn Missing e before after is = told_is_reply turn None e before after is
  turn_is_reply turn Stale e before after is = nothing_out e is.0
  turn_is_reply turn Refused e before after is = nothing_out e is.nothing

  worked_is_reply : (turn : Option ℕ) (number : ℕ) (job : Job) (before after : Share T) (e : Emission) → IsWorkedAs s turn number job before after (Some e)
      → GoesOut e
  worked_is_reply None number job before after e w = inl (record { now = w.answered.now; job = job; content = w.content; answer = w.answered.answer })
  worked_is_reply (Some turn) number job before after e w = turn_is_reply (turn_of job turn) w.taken e w.log after.log w.told

  -- if a job was run, the message that is to be sent for it is one that a worker may send.
  pub goes_out : (number : ℕ) (job : Job) (before after : Share T) {reply : Option Emission} (e : Emission) → IsWorked s number job before after reply
      → reply ≡ Some e → GoesOut e
  goes_out number job before after e w is = worked_is_reply job.turn number job before after e
      (subst (λ (r : Option Emission). IsWorked s number job before after r) is w)

  -- if a reply was sent by one call and counted, it is sent as `IsSent` demands.
  pub sends_reply : (number : ℕ) (before : Share T) {reply : Option Emission} (e : Emission) (out : Bool) (log : TrackedLog) {after : Share T}
      → s.wire (SendsReply number e out) before.log log → reply ≡ Some e → after ≡ with_reply out (record before { log = log })
      → IsSent s number reply before after
  sends_reply number before e out log {after} sends is counted =
      subst (λ (r : Option Emission). IsSent s number r before after) (sym is) (out, log, sends, counted)

  -- if there is no reply, and the statistics are unchanged, nothing had to be sent.
  pub sends_nothing : (number : ℕ) (before : Share T) {reply : Option Emission} {after : Share T} → reply ≡ None → after ≡ before
      → IsSent s number reply before after
  sends_nothing number before {reply} {after} is kept = subst (λ (r : Option Emission). IsSent s number r before after) (sym is) kept
