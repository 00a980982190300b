-- Definitions for the laws of jobs.
use Rattle.std.specs.Prelude.{◌≡◌, ℕ, ◌+◌, ◌-◌, ◌<◌, ◌==◌, Bool, true, false, not, if◌then◌else◌, Option, Some, None, List, [], ◌∷◌, ◌++◌, length}
use Rattle.fc_ticket.specs.declared.job.Job.{Job}
use Rattle.fc_ticket.specs.Tickets.{Present, Ticket}
use Rattle.fc_registry.specs.Changes.{Change}
use Rattle.fc_registry.specs.Calls.{is_out_at, wants}
use Rattle.fc_ticket.specs.Runs.{meaning_at, ticket_of}
use Rattle.fc_core.specs.declared.event.Event.{Event}
use Rattle.fc_core.specs.declared.event.Event.TheVariants.{Deliver, Peek, Take, Commit, Install, Remove, Refuse, Receipt, Raise, Answer, Due, Fire, Fresh, Note, GiveUp, Signal, Tick, ShardTick, Lose}
use Rattle.fc_core.specs.Stage.{Stage}
use Rattle.fc_core.specs.Stage.{ToMatch, ToTake, ToCommit, ToInstall, ToRemove, ToDescribe, ToList, ToRaise, ToAnswer, ToTell, Gone}
use Rattle.fc_core.specs.TurnStage as turns
use Rattle.coap_reply.specs.Blocks.{cut_for}
use Rattle.fc_front.specs.Contents.{Content, RunAnswer}
use Rattle.fc_core.specs.Stages.{is_refusable}
use Rattle.fc_core.specs.Transitions.{Inputs, names}
use Rattle.fc_core.specs.History.{Entry, History, BeginsWith, Then, Seen, seen, job, inputs, slot_at, stage}

-- ---- events without an effect

-- whether a job of slot `own` needs the head word of slot n: n is the job's own slot, or the slot
-- after those whose words the job has read.
abbrev pub needs_word : ℕ → ℕ → Stage → Bool
needs_word own n ToMatch = n == own
needs_word own n (ToList seen) = n == length seen.items
needs_word own n other = false

-- whether the event is a no-op: the job that it names, of slot `own`, isn't at the stage that the
-- event needs.
abbrev pub is_noop_at : Event → ℕ → Stage → Bool
is_noop_at (Peek k n) own at = not (needs_word own n at)
is_noop_at (Take k memory readings) own (ToTake count) = false
is_noop_at (Take k memory readings) own (ToTell turn turns.ToTake) = false
is_noop_at (Commit k now) own (ToCommit count t) = false
is_noop_at (Install k memory) own ToInstall = false
is_noop_at (Remove k) own ToRemove = false
is_noop_at (Refuse k) own at = not (is_refusable at)
is_noop_at (Receipt k) own ToDescribe = false
is_noop_at (Raise k) own (ToRaise word content) = false
is_noop_at (Answer k now) own (ToAnswer content) = false
is_noop_at (Fresh k now) own (ToTell turn (turns.ToDraw found)) = false
is_noop_at (Note k now random) own (ToTell turn (turns.ToNote found id)) = false
is_noop_at (GiveUp k now) own (ToTell turn needs) = false
is_noop_at (Lose k) own Gone = true
is_noop_at (Lose k) own other = false
is_noop_at (Deliver now to bytes) own at = false
is_noop_at (Fire slot now) own at = false
is_noop_at (Tick now) own at = false
is_noop_at (Due shard now) own at = false
is_noop_at (Signal shard to id reset) own at = false
is_noop_at (ShardTick shard now) own at = false
is_noop_at other own at = true

-- the stage of the job that an event names, or `Gone` if it names none.
abbrev pub stage_named : Seen → Option ℕ → Stage
stage_named s None = Gone
stage_named s (Some k) = stage s k

abbrev pub own_of_named : Seen → Option ℕ → ℕ
own_of_named s None = 0
own_of_named s (Some k) = (job s k).origin.slot

abbrev pub is_noop : Seen → Event → Bool
is_noop s e = is_noop_at e (own_of_named s (names e)) (stage_named s (names e))

-- ---- jobs

-- job k has arrived.
abbrev pub HasCome : Seen → ℕ → Type 0
HasCome s k = k < length s.tasks

-- whether an event that names this job, if any, names job k.
abbrev pub is_job : ℕ → Option ℕ → Bool
is_job k None = false
is_job k (Some j) = j == k

abbrev pub is_named : ℕ → Event → Bool
is_named k e = is_job k (names e)

-- the slot of job k.
abbrev pub slot_of : Seen → ℕ → ℕ
slot_of s k = (job s k).origin.slot

-- ---- snapshots

-- a snapshot that gave a ticket, and the changes of the slot before the snapshot, the newest first.
pub record Snapshot : Type 0 where
  pub ticket : Ticket
  pub changes : List Change

-- the ticket of a snapshot with these readings, if the slot has a program.
abbrev pub finds : Job → List ℕ → ℕ → Option Present → List Change → List Snapshot
finds j readings serial None changes = []
finds j readings serial (Some found) changes = record { ticket = ticket_of j readings serial found; changes = changes } ∷ []

-- the ticket of a lease's snapshot; a lease that isn't active takes none.
abbrev pub finds_if : Bool → Job → List ℕ → ℕ → Option Present → List Change → List Snapshot
finds_if true j readings serial present changes = finds j readings serial present changes
finds_if false j readings serial present changes = []

abbrev pub gives_at : List ℕ → Inputs → Stage → List Change → List Snapshot
gives_at readings s (ToTake count) changes = finds s.job readings s.slot.serial s.slot.present changes
gives_at readings s (ToTell turn turns.ToTake) changes = finds_if (is_out_at turn s.around.time s.around.watch) s.job readings s.slot.serial s.slot.present changes
gives_at readings s other changes = []

-- the ticket that an event gives to the job that it names. A `Take` at its stage gives one if the
-- slot has a program and memory can be allocated.
abbrev pub gives : Event → Inputs → List Change → List Snapshot
gives (Take k true readings) s changes = gives_at readings s s.stage changes
gives other s changes = []

-- the snapshots that gave a ticket to job k, the newest first.
abbrev pub snapshots_of : History → ℕ → List Snapshot
snapshots_of (BeginsWith stored id policy) k = []
snapshots_of (Then h r) k =
    if is_named k r.event
    then gives r.event (inputs (seen h) k) ((seen h).changes (slot_of (seen h) k)) ++ snapshots_of h k
    else snapshots_of h k

-- the newest of these snapshots gave this ticket.
abbrev pub IsNewest : List Snapshot → Ticket → Type 0
IsNewest [] t = ⊥
IsNewest (x ∷ xs) t = x.ticket ≡ t

-- the answer of a run comes from the newest of these snapshots. It has the code that the snapshot's
-- program means, the requested block of the reply, and the serial of the snapshot.
abbrev pub IsOfNewest : List Snapshot → RunAnswer → Type 0
IsOfNewest [] run = ⊥
IsOfNewest (t ∷ ts) run = (run.code ≡ (meaning_at t.ticket).code) × (run.cut ≡ cut_for t.ticket.block (meaning_at t.ticket).reply) × (run.serial ≡ t.ticket.serial)

-- the answer that a job gives next, or after it has published its slot's new head word.
abbrev pub answer_at : Stage → Option Content
answer_at (ToRaise word content) = Some content
answer_at (ToAnswer content) = Some content
answer_at other = None

-- job k is to commit a run that wants to write, but its slot isn't at the ticket's serial any more.
pub record IsOvertaken (s : Seen) (k : ℕ) : Type 0 where
  pub count : ℕ
  pub ticket : Ticket
  pub at : stage s k ≡ ToCommit count ticket
  pub wants : wants ticket ≡ true
  pub other : (slot_at s (slot_of s k)).serial ≡ ticket.serial → ⊥

-- the job at this stage needs a snapshot.
abbrev pub TakesAgain : Stage → Type 0
TakesAgain (ToTake count) = Unit {0}
TakesAgain other = ⊥

-- ---- answers

-- whether the event answers the job that it names, which is at this stage.
abbrev pub is_answered : Event → Stage → Bool
is_answered (Answer k now) (ToAnswer content) = true
is_answered other at = false

-- the number of answers that job k was given.
abbrev pub answers_of : History → ℕ → ℕ
answers_of (BeginsWith stored id policy) k = 0
answers_of (Then h r) k =
    if is_named k r.event
    then (if is_answered r.event (stage (seen h) k) then answers_of h k + 1 else answers_of h k)
    else answers_of h k

-- ---- changes

-- the number of changes that events of job k made to the job's slot.
abbrev pub changes_by : History → ℕ → ℕ
changes_by (BeginsWith stored id policy) k = 0
changes_by (Then h r) k =
    if is_named k r.event
    then changes_by h k + (length ((seen (Then h r)).changes (slot_of (seen h) k)) - length ((seen h).changes (slot_of (seen h) k)))
    else changes_by h k

-- ---- continuations

-- a history continued by these entries.
abbrev pub followed_by : History → List Entry → History
followed_by h [] = h
followed_by h (r ∷ rs) = followed_by (Then h r) rs
