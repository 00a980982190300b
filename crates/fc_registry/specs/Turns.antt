-- The leases of a slot's observers, as jobs. The job of a lease answers the observer's request
-- again (RFC 7641, section 4.2).
use Rattle.std.specs.Prelude.{ℕ, ◌+◌, ◌*◌, ◌%◌, Bool, true, false, Option, Some, None, []}
use Rattle.std.specs.Option.{option_map}
use Rattle.coap_opts.specs.Values.{Place}
use Rattle.fc_observe.specs.declared.entry.Turn.{Turn}
use Rattle.fc_observe.specs.Calls.{NextDue, observers_after}
use Rattle.fc_observe.specs.Observers.{ObserverList, list_at_time, entry_out, next_turn}
use Rattle.fc_observe.specs.Views.{Interest, interest_of}
use Rattle.fc_ticket.specs.declared.job.Ask.TheVariants.{Run}
use Rattle.fc_ticket.specs.declared.job.Job.{Job}
use Rattle.fc_registry.specs.Slots.{Shard}
use Rattle.fc_registry.specs.Watches.{noticed_at, watch_at}

-- the first block of the size with this exponent; three bits of the exponent count.
abbrev pub first_block : Option ℕ → Option Place
first_block None = None
first_block (Some szx) = Some (record { number = 0; more = false; szx = szx % 8 })

-- the job of the lease with this number in slot n; the job has no exchange.
abbrev pub turn_job : ℕ → ℕ → Interest → Job
turn_job n number o = record {
  origin = record { opening = record { number = 0; at = 0 }; endpoint = o.endpoint; id = 0; slot = n };
  turn = Some number;
  confirmable = false;
  token = o.token;
  etags = record { items = [] };
  block = first_block o.szx;
  observe = None;
  ask = Run o.request;
}

-- the job of a lease that was granted to an observer of slot n, if one was.
abbrev pub job_of_turn : ℕ → Option Turn → ObserverList → Option Job
job_of_turn n None w = None
job_of_turn n (Some turn) w = option_map (turn_job n turn.number) (option_map interest_of (entry_out turn w))

-- the job of the lease that is granted at this time to one of these observers of slot n, about this
-- notify serial.
abbrev pub turn_given_to : ℕ → ℕ → ℕ → ObserverList → Option Job
turn_given_to n now notify_serial w = job_of_turn n (next_turn notify_serial (list_at_time now w)) (observers_after (NextDue now notify_serial) w)

-- the job that was written, if one was.
abbrev pub written_if : Bool → Job → Option Job
written_if true job = Some job
written_if false job = None

-- the job of the lease that is granted at a place of a shard; `None` without a place.
abbrev pub due_job : Option ℕ → Shard → Option Job
due_job None shard = None
due_job (Some k) shard = turn_given_to (8 * k + shard.index) shard.now (noticed_at shard k) (watch_at shard k)
