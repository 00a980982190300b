-- The stages of a job: the first one, and the stage after the result of each call.
use Rattle.std.specs.Prelude.{ℕ, ◌+◌, Bool, true, false, nat_lt, if◌then◌else◌, Option, Some, None, List, [], ◌∷◌, length}
use Rattle.fc_observe.specs.declared.entry.Turn.{Turn}
use Rattle.fc_ticket.specs.declared.job.Ask.{Ask}
use Rattle.fc_ticket.specs.declared.job.Ask.TheVariants.{Run, Install as Installs, Remove as Removes, Describe, Discover}
use Rattle.fc_ticket.specs.declared.job.Job.{Job}
use Rattle.fc_ticket.specs.declared.receipt.Receipt.{Receipt as Facts}
use Rattle.fc_ticket.specs.Taken.{Taken}
use Rattle.fc_ticket.specs.Taken.{Given, Missing, Stale, Refused}
use Rattle.fc_registry.specs.declared.shard.Made.{Made}
use Rattle.fc_registry.specs.declared.shard.Made.TheVariants.{Raised, AtEnd}
use Rattle.fc_registry.specs.declared.shard.Removal.{Removal}
use Rattle.fc_registry.specs.declared.shard.Removal.TheVariants as removals
use Rattle.fc_registry.specs.declared.commit.Committed.{Committed}
use Rattle.fc_registry.specs.declared.commit.Committed.TheVariants.{Done, Overtaken, Ended, Stranger}
use Rattle.fc_ticket.specs.Tickets.{Ticket}
use Rattle.fc_ticket.specs.Runs.{meaning_at}
use Rattle.fc_registry.specs.Calls.{turn_of, wants}
use Rattle.fc_front.specs.Contents.{Content, Ran, run_answer, Missing as Misses, Unavailable, Made as Makes, Valid, Deleted, Described, Listed}
use Rattle.fc_front.specs.Heads.{head_word, is_match, serial_in}
use Rattle.fc_core.specs.Stage.{Stage}
use Rattle.fc_core.specs.Stage.{ToMatch, ToTake, ToCommit, ToInstall, ToRemove, ToDescribe, ToList, ToRaise, ToAnswer, ToTell, Gone}
use Rattle.fc_core.specs.TurnStage.{TurnStage}
use Rattle.fc_core.specs.TurnStage as turns
use Rattle.fc_core.specs.declared.stage.Task.{Task}

-- the greatest number of snapshots of a job.
abbrev pub snapshots : ℕ
snapshots = 8

-- the first stage of a request's job. A run whose request has ETags reads its slot's head word
-- first.
abbrev pub first_by : Ask → List ℕ → Stage
first_by (Run request) [] = ToTake 0
first_by (Run request) (serial ∷ serials) = ToMatch
first_by (Installs image initial) serials = ToInstall
first_by Removes serials = ToRemove
first_by Describe serials = ToDescribe
first_by Discover serials = ToList (record { items = [] })

-- the first stage of a request's job, by the data of the job.
abbrev pub asked_stage : Job → Stage
asked_stage job = first_by job.ask job.etags.items

-- the first stage of a job: a lease needs a snapshot, whatever its request.
abbrev pub first_or_turn : Option ℕ → Job → Stage
first_or_turn None job = asked_stage job
first_or_turn (Some number) job = ToTell (turn_of job number) turns.ToTake

abbrev pub first_stage : Job → Stage
first_stage job = first_or_turn job.turn job

abbrev pub new_task : Job → Task
new_task job = record { job = job; stage = first_stage job }

-- ---- by the result of a call

abbrev pub took : ℕ → Taken → Stage
took count (Given t) = ToCommit (count + 1) t
took count Missing = ToAnswer Misses
took count Refused = ToAnswer Unavailable
took count Stale = ToAnswer Unavailable

-- the job of a lease ends if the lease isn't active when the snapshot is taken. If memory for the
-- snapshot is refused, the job still needs a snapshot.
abbrev pub turn_took : Turn → Taken → Stage
turn_took turn (Given t) = ToTell turn (turns.ToDraw (Some t))
turn_took turn Missing = ToTell turn (turns.ToDraw None)
turn_took turn Stale = Gone
turn_took turn Refused = ToTell turn turns.ToTake

-- the lease that needs a snapshot at this stage, if any.
abbrev pub turn_to_take : Stage → Option Turn
turn_to_take (ToTell turn turns.ToTake) = Some turn
turn_to_take other = None

-- whether the job needs a message ID of the server at this stage.
abbrev pub needs_id : Stage → Bool
needs_id (ToTell turn (turns.ToDraw found)) = true
needs_id other = false

-- the next action of a lease that draws a message ID. If none is available, the lease still needs
-- one.
abbrev pub with_id : Option Ticket → Option ℕ → TurnStage
with_id found (Some id) = turns.ToNote found id
with_id found None = turns.ToDraw found

abbrev pub drew : Option ℕ → Stage → Stage
drew free (ToTell turn (turns.ToDraw found)) = ToTell turn (with_id found free)
drew free other = other

-- whether a snapshot had memory, or needed none.
abbrev pub had_memory : Taken → Bool
had_memory Refused = false
had_memory other = true

-- the result of the same snapshot without memory.
abbrev pub without_memory : Taken → Taken
without_memory (Given t) = Refused
without_memory other = other

-- the answer of a ticket's run; the flag says whether the client observes the slot from now on.
abbrev pub run_content : Ticket → Bool → Content
run_content t observed = Ran (run_answer t (meaning_at t) observed)

-- the stage of a run's job whose slot has changed. It takes another snapshot, at most eight in all,
-- or is answered 5.03.
abbrev pub retaken : ℕ → Stage
retaken count = if nat_lt count snapshots then ToTake count else ToAnswer Unavailable

abbrev pub after_commit : ℕ → Ticket → Committed → Stage
after_commit count t (Done m) = if m.changed then ToRaise (head_word m.serial true) (run_content t m.observed) else ToAnswer (run_content t m.observed)
after_commit count t Overtaken = retaken count
after_commit count t Ended = ToAnswer Unavailable
after_commit count t Stranger = ToAnswer Unavailable

abbrev pub made : Facts → Made → Stage
made r (Raised serial created) = ToRaise (head_word serial true) (Makes (record r { version = serial }) created)
made r AtEnd = ToAnswer Unavailable

abbrev pub removed : Removal → Stage
removed (removals.Removed serial) = ToRaise (head_word serial false) Deleted
removed removals.Absent = ToAnswer Deleted
removed removals.AtEnd = ToAnswer Unavailable

abbrev pub receipt_content : Option Facts → Content
receipt_content None = Misses
receipt_content (Some receipt) = Described receipt

-- the stage after a head word was read. A client that has the response of the word's serial needs
-- no run.
abbrev pub matched_by : Bool → ℕ → Stage
matched_by true word = ToAnswer (Valid (serial_in word))
matched_by false word = ToTake 0

abbrev pub matched : ℕ → List ℕ → Stage
matched word serials = matched_by (is_match word serials) word

-- the stage of a job that lists head words, after these were read.
abbrev pub listed : List ℕ → Stage
listed words = if nat_lt (length words) 64 then ToList (record { items = words }) else ToAnswer (Listed words)

abbrev pub after_list : Stage → Stage
after_list (ToList seen) = listed seen.items
after_list other = other

-- whether a server may refuse the change of a job at this stage: the commit of a run that wants to
-- write, or a removal. The refusal of an install is an `Install` with `false`.
abbrev pub is_refusable : Stage → Bool
is_refusable (ToCommit count t) = wants t
is_refusable ToRemove = true
is_refusable other = false

-- the image that a job is to install; any other job has none.
abbrev pub image_of : Ask → List ℕ
image_of (Installs image initial) = image.items
image_of other = []

-- the stage after the head word of the job's slot was raised.
abbrev pub word_raised : Stage → Stage
word_raised (ToRaise word content) = ToAnswer content
word_raised other = other

-- the answer of the job at this stage, if the job is to be answered.
abbrev pub content_at : Stage → Option Content
content_at (ToAnswer content) = Some content
content_at other = None

-- the stage of a job after it was answered.
abbrev pub ended : Stage → Stage
ended (ToAnswer content) = Gone
ended other = other
