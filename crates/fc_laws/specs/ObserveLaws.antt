-- Definitions for the laws of registration.
use Rattle.std.specs.Prelude.{◌≡◌, ℕ, ◌&&◌, ◌++◌, find, max, nat_eq, Bool, true, List, [], ◌∷◌, Option, Some, None}
use Rattle.std.specs.Cmp.Lexicographic.{pointwise}
use Rattle.std.specs.List.{list_any}
use Rattle.coap_msg.specs.declared.types.Endpoint.{Endpoint}
use Rattle.coap_msg.specs.Endpoints.{same_endpoint}
use Rattle.coap_opts.specs.Values.{Place}
use Rattle.fc_observe.specs.declared.entry.Entry.{Entry as ObserverEntry}
use Rattle.fc_observe.specs.Entries.{is_due, is_entry_of}
use Rattle.fc_observe.specs.Observers.{ObserverList}
use Rattle.fc_observe.specs.Views.{interest_of}
use Rattle.fc_ticket.specs.Runs.{meaning_at}
use Rattle.fc_ticket.specs.Tickets.{Ticket}
use Rattle.fc_registry.specs.Turns.{turn_job}
use Rattle.fc_core.specs.declared.event.Event.TheVariants.{Commit}
use Rattle.fc_core.specs.Stage.{ToCommit, ToTell}
use Rattle.fc_core.specs.TurnStage as turns
use Rattle.fc_core.specs.History.{Entry, History, Then, Seen, seen, slot_at, stage, watch}
use Rattle.fc_core.specs.Laws.{slot_of}

-- no block is requested, or the first one.
abbrev pub IsFirst : Option Place → Type 0
IsFirst None = Unit {0}
IsFirst (Some block) = block.number ≡ 0

-- the ticket's request has Observe 0 and requests no block or the first, and its run means a 2.05
-- (Content).
pub record AsksToObserve (t : Ticket) : Type 0 where
  pub observe : t.observe ≡ Some 0
  pub first : IsFirst t.block
  pub content : (meaning_at t).code ≡ 69

-- whether the client with this endpoint and token is in a list of observers.
abbrev pub is_held : Endpoint → List ℕ → ObserverList → Bool
is_held to token w = list_any (is_entry_of to token) w.held

-- whether the client that sent the ticket's request is in a list of observers.
abbrev pub is_among : Ticket → ObserverList → Bool
is_among t w = is_held t.origin.endpoint t.token.items w

-- the event is the commit of this client's GET, which asks to observe. The GET's job is a job of
-- slot n, and is at the stage of the commit.
pub record Registers (r : Entry) (s : Seen) (n : ℕ) (to : Endpoint) (token : List ℕ) : Type 0 where
  pub number : ℕ
  pub now : ℕ
  pub count : ℕ
  pub ticket : Ticket
  pub event : r.event ≡ Commit number now
  pub at : stage s number ≡ ToCommit count ticket
  pub slot : slot_of s number ≡ n
  pub asks : AsksToObserve ticket
  pub client : (same_endpoint ticket.origin.endpoint to && pointwise nat_eq ticket.token.items token) ≡ true

-- none of the entries after a history registers this client.
abbrev pub NoneRegisters : History → List Entry → ℕ → Endpoint → List ℕ → Type 0
NoneRegisters h [] n to token = Unit {0}
NoneRegisters h (r ∷ rs) n to token = (Registers r (seen h) n to token → ⊥) × NoneRegisters (Then h r) rs n to token

-- a lease of slot n is granted at this time. The lease's job is at its first stage, and is for the
-- slot's first observer with a pending notification at that time.
pub record BringsTurn (s : Seen) (n at : ℕ) (after : Seen) : Type 0 where
  pub entry : ObserverEntry
  pub first : find (is_due (max (watch s n).time at) (slot_at s n).notify_serial) (watch s n).held ≡ Some entry
  pub comes : after.tasks ≡ s.tasks ++ record {
    job = turn_job n (watch s n).turns (interest_of entry);
    stage = ToTell (record { slot = n; number = (watch s n).turns }) turns.ToTake;
  } ∷ []
