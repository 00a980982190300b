-- All rounds, or all lines, of a server on one thread as one history.
use Rattle.std.specs.Prelude.{◌≡◌, ℕ, List, [], ◌∷◌, ◌++◌, Option, Some, None, flat_map, map, nat_lt, if◌then◌else◌}
use Rattle.std.specs.Option.{option_to_list}
use Rattle.coap_msg.specs.declared.types.Emission.{Emission}
use Rattle.fc_core.specs.declared.event.Event.{Event}
use Rattle.fc_core.specs.declared.event.Event.TheVariants.{Deliver, Fire, Tick}
use Rattle.fc_core.specs.declared.stage.Task.{Task}
use Rattle.fc_core.specs.History.{Entry, History}
use Rattle.fc_core.specs.Laws.{followed_by}
use Rattle.fc_server.specs.Serving.{Serves}
use Rattle.fc_server.specs.States.{ServerState}
use Rattle.fc_lines.specs.declared.line.Line.{Line}
use Rattle.fc_lines.specs.declared.line.Line.TheVariants as lines
use Rattle.fc_lines.specs.Emissions.{peer_endpoint}
use Rattle.fc_host.specs.Sockets.{Incoming}
use Rattle.fc_host.specs.Timers.{put_off}
use Rattle.fc_host.specs.declared.timer.Timer.{Timer}
use Rattle.fc_service.specs.Playing.{PlayedLine, time_of}
use Rattle.fc_receive.specs.Rounds.{Round}
use Rattle.fc_server.specs.Flushing.{sent_in_steps}

-- at this time a datagram came, or none came and time passed, or the timer of a slot fired.
pub data Arrival : Type 0 where
  Datagram : (now : ℕ) (incoming : Incoming) → Arrival
  Silence : (now : ℕ) → Arrival
  Beat : (now slot : ℕ) → Arrival

-- the arrival of a datagram, if one came.
abbrev pub arrival_at : ℕ → Option Incoming → Arrival
arrival_at now (Some incoming) = Datagram now incoming
arrival_at now None = Silence now

-- the arrival that an event has.
abbrev pub arrived_by : Event → List Arrival
arrived_by (Deliver now from bytes) = Datagram now (record { from = from; bytes = bytes.now }) ∷ []
arrived_by (Tick now) = Silence now ∷ []
arrived_by (Fire slot now) = Beat now slot ∷ []
arrived_by other = []

-- there are events of a server after this history, each with a permitted emission. They leave this
-- server. Exactly these datagrams were delivered, time passed if none came, and exactly these
-- timers fired, each at its time, in this order. These are the emissions, the oldest first.
pub record IsOneHistory (before : History) (arrived : List Arrival) (emitted : List Emission) (s : ServerState) : Type 0 where
  pub entries : List Entry
  pub tasks : List Task
  pub serves : Serves (followed_by before entries) s tasks
  pub arrives : flat_map (λ r. arrived_by r.event) entries ≡ arrived
  pub emits : flat_map (λ r. option_to_list r.emitted) entries ≡ emitted

-- ---- of rounds

-- the arrivals of rounds, with their times, the oldest first; the list of rounds begins with the
-- newest.
abbrev pub arrivals_in : List Round → List Arrival
arrivals_in [] = []
arrivals_in (r ∷ rs) = arrivals_in rs ++ arrival_at r.now r.received ∷ []

-- ---- of rounds with timers

-- a timer fires at a time if it is due, and is due at its next beat after that.
abbrev pub beat_at : ℕ → Timer → List Arrival
beat_at now t = if nat_lt now t.due then [] else Beat now t.slot ∷ []

abbrev pub after_beat : ℕ → Timer → Timer
after_beat now t = if nat_lt now t.due then t else put_off now t

-- the timers as rounds leave them, by the times of the rounds.
abbrev pub timers_after : List Round → List Timer → List Timer
timers_after [] ts = ts
timers_after (r ∷ rs) ts = map (after_beat r.now) (timers_after rs ts)

-- the arrivals of rounds. In each round the timers that are due fire first, in their order.
abbrev pub timed_arrivals_in : List Round → List Timer → List Arrival
timed_arrivals_in [] ts = []
timed_arrivals_in (r ∷ rs) ts = timed_arrivals_in rs ts ++ (flat_map (beat_at r.now) (timers_after rs ts) ++ arrival_at r.now r.received ∷ [])

-- ---- of lines

-- the datagram of a line, if it has one.
abbrev pub datagram_in : Line → Option Incoming
datagram_in (lines.Deliver now peer bytes) = Some (record { from = peer_endpoint peer; bytes = bytes.items })
datagram_in other = None

-- the arrivals of lines, with their times, and the emissions sent for them, the oldest first; the
-- list of lines begins with the newest.
abbrev pub arrivals_in_lines : List PlayedLine → List Arrival
arrivals_in_lines [] = []
arrivals_in_lines (p ∷ ps) = arrivals_in_lines ps ++ arrival_at (time_of p.line) (datagram_in p.line) ∷ []

abbrev pub sent_in_lines : List PlayedLine → List Emission
sent_in_lines [] = []
sent_in_lines (p ∷ ps) = sent_in_lines ps ++ (option_to_list p.sent ++ sent_in_steps p.steps)
