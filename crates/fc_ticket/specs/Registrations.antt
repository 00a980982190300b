-- Registrations and cancellations of observers by runs (RFC 7641).
use Rattle.std.specs.Prelude.{ℕ, ◌==◌, ◌&&◌, Bool, true, false, List, [], ◌∷◌, Option, Some, None}
use Rattle.coap_msg.specs.Codes.{code}
use Rattle.coap_opts.specs.declared.observe.TheConstants as observe
use Rattle.coap_opts.specs.Observe.{has_observe}
use Rattle.coap_opts.specs.Values.{Place}
use Rattle.fc_observe.specs.declared.observers.Registered.{Registered}
use Rattle.fc_observe.specs.declared.observers.Registered.TheVariants.{Full}
use Rattle.fc_observe.specs.Calls.{ObserverCall, Cancel, Register}
use Rattle.fc_observe.specs.Observers.{ObserverList, registration}
use Rattle.fc_ticket.specs.Runs.{meaning_at}
use Rattle.fc_ticket.specs.Tickets.{Ticket}

-- whether the requested block is the first one, or none is requested.
abbrev pub is_first_block : Option Place → Bool
is_first_block None = true
is_first_block (Some block) = block.number == 0

-- the size of the requested block, as an exponent, if a block is requested.
abbrev pub szx_of : Option Place → Option ℕ
szx_of None = None
szx_of (Some block) = Some block.szx

-- whether the run registers the client as an observer: Observe 0, the first block, and a 2.05
-- (Content) response (RFC 7641, section 4.1).
abbrev pub is_registration : Ticket → Bool
is_registration t = has_observe observe.REGISTER t.observe && (is_first_block t.block && ((meaning_at t).code == code 2 5))

-- whether the run removes the client from the observers: Observe 1, whatever the code (RFC 7641,
-- section 3.6).
abbrev pub is_cancellation : Ticket → Bool
is_cancellation t = has_observe observe.CANCEL t.observe

-- the call of a registration or of a cancellation on the observers; none for any other run.
abbrev pub observe_calls_by : Bool → Bool → ℕ → Ticket → List ObserverCall
observe_calls_by true cancel now t = Register now t.origin.endpoint t.token t.request (szx_of t.block) t.serial ∷ []
observe_calls_by false true now t = Cancel t.origin.endpoint t.token.items ∷ []
observe_calls_by false false now t = []

-- the calls of a run that has nothing to write on the observers of its slot, at this time.
abbrev pub observe_calls : ℕ → Ticket → List ObserverCall
observe_calls now t = observe_calls_by (is_registration t) (is_cancellation t) now t

-- whether a registration was made.
abbrev pub is_entered : Registered → Bool
is_entered Full = false
is_entered other = true

-- whether the client observes the slot, with these observers, from now on.
abbrev pub is_observed : Ticket → ObserverList → Bool
is_observed t w = is_registration t && is_entered (registration t.origin.endpoint t.token.items w)
