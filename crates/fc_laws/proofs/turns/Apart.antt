-- The job of a lease is at a stage of its own lease, or has ended.
use Rattle.std.proofs.Common.{◌≡◌, ℕ, List, Option, Some, None, refl, sym, ap, ◌∙◌, subst, ◌⊎◌, inl, inr}
use Rattle.coap_msg.specs.declared.types.Emission.{Emission}
use Rattle.fc_observe.specs.declared.entry.Turn.{Turn}
use Rattle.fc_ticket.specs.declared.job.Job.{Job}
use Rattle.fc_ticket.specs.Taken.{Taken}
use Rattle.fc_ticket.specs.Taken.{Given, Missing, Stale, Refused}
use Rattle.fc_registry.specs.Calls.{turn_of}
use Rattle.fc_registry.specs.Slots.{Slot}
use Rattle.fc_ticket.specs.Tickets.{Ticket}
use Rattle.fc_core.specs.declared.event.Event.{Event}
use Rattle.fc_core.specs.declared.event.Event.TheVariants.{Note, GiveUp, Lose}
use Rattle.fc_core.specs.Stage.{Stage}
use Rattle.fc_core.specs.Stage.{ToTell, Gone}
use Rattle.fc_core.specs.declared.stage.Task.{Task}
use Rattle.fc_core.specs.TurnStage.{TurnStage}
use Rattle.fc_core.specs.TurnStage as turns
use Rattle.fc_core.specs.Fits.{FitsStage}
use Rattle.fc_core.specs.History.{Entry, History, BeginsWith, Then, Seen, seen, and_then, around, did, job, no_task, slot_at, stage, task_at}
use Rattle.fc_core.specs.Laws.{HasCome, followed_by, slot_of}
use Rattle.fc_core.specs.Stages.{first_or_turn, first_stage, turn_took}
use Rattle.fc_core.specs.Transitions.{Around, Inputs, names, transition}
use Rattle.fc_core.proofs.ByStep.{Step, IsUnanswered, by_effect, effect_by, stage_by}
use Rattle.fc_core.proofs.ByStep as steps
use Rattle.fc_laws.proofs.jobs.Ends.{gone_later, lost_gone}
use Rattle.fc_laws.proofs.jobs.Others.{is_here, named_stage, still_here}
use Rattle.fc_laws.proofs.jobs.Steps.{Becomes, Moves, Stays, Comes, becomes}
use Rattle.fc_laws.proofs.turns.Turning.{given_up_gone}
use Rattle.fc_laws.proofs.slots.Writing.{sound}

abbrev at : Job → Slot → Around → Stage → Inputs
at job slot ws stage = record { job = job; slot = slot; around = ws; stage = stage }

-- ---- a property of each job of a history

-- if each transition keeps a property, and each job has it at its first stage, each job of a
-- history has it.
module _ (Q : Job → Stage → Type 0) (gone : (j : Job) → Q j Gone) (first : (j : Job) → Q j (first_stage j)) (keeps : (e : Event) (j : Job) (slot : Slot) (ws : Around) (st : Stage) → Q j st → Q j (transition e (at j slot ws st)).stage) where
  every_by : (r : Entry) (s : Seen) (k : ℕ) (t : Task) → Becomes (names r.event) r.event s k t → Q (job s k) (stage s k) → Q t.job t.stage
  every_by r s k t (Moves named is) q = subst (λ (x : Task). Q x.job x.stage) (sym is) (keeps r.event (job s k) (slot_at s (slot_of s k)) (around s (slot_of s k)) (stage s k) q)
  every_by r s k t (Stays other is) q = subst (λ (x : Task). Q x.job x.stage) (sym is) q
  every_by r s k t (Comes new j is) q = subst (λ (x : Task). Q x.job x.stage) (sym is) (first j)

  pub every : (h : History) (k : ℕ) → Q (job (seen h) k) (stage (seen h) k)
  unfolding seen
  every (BeginsWith stored id policy) k = gone no_task.job
  every (Then h r) k = every_by r (seen h) k (task_at (and_then r (seen h)).tasks k) (becomes r (seen h) k) (every h k)

-- ---- the job of a lease

-- a job at this stage has this lease, or has ended.
abbrev pub IsToldOf : Turn → Stage → Type 0
IsToldOf turn (ToTell own needs) = own ≡ turn
IsToldOf turn Gone = Unit {0}
IsToldOf turn other = ⊥

taken_apart : (own turn : Turn) (x : Taken) → own ≡ turn → IsToldOf turn (turn_took own x)
taken_apart own turn (Given t) is = is
taken_apart own turn Missing is = is
taken_apart own turn Stale is = tt
taken_apart own turn Refused is = is

-- a request's job without an answer has no lease.
pub unanswered_apart : (turn : Turn) (s : Stage) → IsUnanswered s → IsToldOf turn s → ⊥
unanswered_apart turn (ToTell own needs) none w = none
unanswered_apart turn Gone none w = none
unanswered_apart turn other none w = w

step_apart : (c : Step) (job : Job) (slot : Slot) (ws : Around) (turn : Turn) → IsToldOf turn (stage_by c) → IsToldOf turn (effect_by c job slot ws).stage
step_apart (steps.TakesTurn memory readings own) job slot ws turn w = taken_apart own turn _ w
step_apart (steps.Draws now own found) job slot ws turn w = w
step_apart (steps.Notes now random own found id) job slot ws turn w = tt
step_apart (steps.GivesUp now own needs) job slot ws turn w = tt
step_apart (steps.Loses needs) job slot ws turn w = tt
step_apart (steps.Refuses refusal) job slot ws turn w = absurd (unanswered_apart turn refusal.stage refusal.unanswered w)
step_apart other job slot ws turn w = absurd w

pub transition_apart : (e : Event) (job : Job) (slot : Slot) (ws : Around) (turn : Turn) (s : Stage) → IsToldOf turn s → IsToldOf turn (transition e (at job slot ws s)).stage
transition_apart e job slot ws turn s =
    by_effect (λ st m. IsToldOf turn st → IsToldOf turn m.stage) job slot ws
    (λ c asked. step_apart c job slot ws turn) (λ st w. w) e s

pub first_apart : (j : Job) (o : Option ℕ) (number : ℕ) → o ≡ Some number → IsToldOf (turn_of j number) (first_or_turn o j)
first_apart j None number e = absurd (cc e)
first_apart j (Some own) number e = let same : own ≡ number = cc e in ap (turn_of j) same

apart_by : (turn : Turn) (s : Stage) → IsToldOf turn s → ((needs : TurnStage) × (s ≡ ToTell turn needs)) ⊎ (s ≡ Gone)
apart_by turn (ToTell own needs) w = inl (needs, ap (λ (t : Turn). ToTell t needs) w)
apart_by turn Gone w = inr refl
apart_by turn other w = absurd w

pub is_told_of : (h : History) (k number : ℕ) → (job (seen h) k).turn ≡ Some number → IsToldOf (turn_of (job (seen h) k) number) (stage (seen h) k)
is_told_of h k number is =
    every (λ (j : Job) (st : Stage). (n : ℕ) → j.turn ≡ Some n → IsToldOf (turn_of j n) st)
    (λ j n e. tt) (λ j n e. first_apart j j.turn n e)
    (λ e j slot ws st w n of_turn. transition_apart e j slot ws (turn_of j n) st (w n of_turn)) h k number is

pub turn_apart : (h : History) (k number : ℕ) → (job (seen h) k).turn ≡ Some number → ((needs : TurnStage) × (stage (seen h) k ≡ ToTell (record { slot = slot_of (seen h) k; number = number }) needs)) ⊎ (stage (seen h) k ≡ Gone)
turn_apart h k number is = apart_by (turn_of (job (seen h) k) number) (stage (seen h) k) (is_told_of h k number is)

pub request_apart : (h : History) (k : ℕ) (turn : Turn) (needs : TurnStage) → (job (seen h) k).turn ≡ None → stage (seen h) k ≡ ToTell turn needs → ⊥
request_apart h k turn needs none is =
    let fits = subst (FitsStage (job (seen h) k) (slot_at (seen h) (slot_of (seen h) k))) is ((sound h).stages k) in
    cc (none, fits.1)

-- ---- the end of a lease's job

-- a job that has ended after an event has ended for ever.
gone_ever : (h : History) (r : Entry) (rs : List Entry) (k : ℕ) → HasCome (seen h) k → stage (and_then r (seen h)) k ≡ Gone → stage (seen (followed_by (Then h r) rs)) k ≡ Gone
unfolding seen
gone_ever h r rs k come gone = gone_later (Then h r) rs k (still_here r (seen h) k come) gone

came_to_tell : (s : Seen) (k : ℕ) (turn : Turn) (needs : TurnStage) → stage s k ≡ ToTell turn needs → HasCome s k
came_to_tell s k turn needs is = is_here s k (ToTell turn needs) is (λ e. absurd (cc e))

noted_gone : (s : Seen) (k now random id : ℕ) (turn : Turn) (found : Option Ticket) (o : Option Emission) → stage s k ≡ ToTell turn (turns.ToNote found id) → stage (and_then (did (Note k now random) o) s) k ≡ Gone
noted_gone s k now random id turn found o is =
    named_stage (did (Note k now random) o) s k (came_to_tell s k turn (turns.ToNote found id) is) refl
    ∙ ap (λ (st : Stage). (transition (Note k now random) (at (job s k) (slot_at s (slot_of s k)) (around s (slot_of s k)) st)).stage) is

pub noted_ever : (h : History) (rs : List Entry) (k now random id : ℕ) (turn : Turn) (found : Option Ticket) (o : Option Emission) → stage (seen h) k ≡ ToTell turn (turns.ToNote found id) → stage (seen (followed_by (Then h (did (Note k now random) o)) rs)) k ≡ Gone
noted_ever h rs k now random id turn found o is = gone_ever h (did (Note k now random) o) rs k (came_to_tell (seen h) k turn (turns.ToNote found id) is) (noted_gone (seen h) k now random id turn found o is)

pub given_up_ever : (h : History) (rs : List Entry) (k now : ℕ) (turn : Turn) (needs : TurnStage) (o : Option Emission) → stage (seen h) k ≡ ToTell turn needs → stage (seen (followed_by (Then h (did (GiveUp k now) o)) rs)) k ≡ Gone
given_up_ever h rs k now turn needs o is = gone_ever h (did (GiveUp k now) o) rs k (came_to_tell (seen h) k turn needs is) (given_up_gone (seen h) k now turn needs o is)

pub lost_ever : (h : History) (rs : List Entry) (k : ℕ) (o : Option Emission) → HasCome (seen h) k → stage (seen (followed_by (Then h (did (Lose k) o)) rs)) k ≡ Gone
lost_ever h rs k o come = gone_ever h (did (Lose k) o) rs k come (lost_gone (seen h) k o come)
