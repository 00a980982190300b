-- Definitions for the laws of timers.
use Rattle.std.specs.Prelude.{◌≡◌, ℕ, false, List, [], ◌∷◌, length, Option, None}
use Rattle.coap_msg.specs.declared.types.Emission.{Emission}
use Rattle.fc_help.specs.declared.request.Method.TheVariants.{Post}
use Rattle.fc_ticket.specs.declared.job.Ask.TheVariants.{Run}
use Rattle.fc_ticket.specs.declared.job.Job.{Job}
use Rattle.fc_core.specs.declared.event.Event.{Event}
use Rattle.fc_core.specs.declared.event.Event.TheVariants.{Fire}
use Rattle.fc_core.specs.History.{Entry, History, BeginsWith, Then, did, seen}
use Rattle.fc_core.specs.Laws.{followed_by}
use Rattle.fc_laws.specs.ExchangeLaws.{HasExchange}

-- the job is that of a POST of slot n's resource from 0.0.0.0:0. The POST isn't confirmable. It has
-- neither a token, nor an option besides its path, nor a payload (RFC 7252, section 5.8.2). No
-- exchange is opened for it.
pub record IsPostOfTimer (n : ℕ) (j : Job) : Type 0 where
  pub endpoint : j.origin.endpoint ≡ record { ip = 0 ∷ 0 ∷ 0 ∷ 0 ∷ []; port = 0 }
  pub slot : j.origin.slot ≡ n
  pub exchange : HasExchange j → ⊥
  pub turn : j.turn ≡ None
  pub confirmable : j.confirmable ≡ false
  pub token : j.token.items ≡ []
  pub etags : j.etags.items ≡ []
  pub block : j.block ≡ None
  pub observe : j.observe ≡ None
  pub ask : j.ask ≡ Run (record { method = Post; slot = n; content_format = None; query = []; payload = [] })

-- the timer of slot n made job k: it fired earlier in the history, when k jobs had arrived.
pub record IsOfFire (n k : ℕ) (h : History) : Type 0 where
  pub before : History
  pub now : ℕ
  pub emitted : Option Emission
  pub since : List Entry
  pub is : h ≡ followed_by (Then before (did (Fire n now) emitted)) since
  pub number : k ≡ length (seen before).tasks

-- the event isn't the `Fire` of a timer.
abbrev pub IsNoFire : Event → Type 0
IsNoFire (Fire slot now) = ⊥
IsNoFire other = Unit {0}

-- no timer has fired in the history.
abbrev pub HasNoFire : History → Type 0
HasNoFire (BeginsWith stored id policy) = Unit {0}
HasNoFire (Then h r) = IsNoFire r.event × HasNoFire h
