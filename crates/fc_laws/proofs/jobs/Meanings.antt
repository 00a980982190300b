-- Each ticket that a job took has a meaning, if each program that a snapshot found has one.
use Rattle.std.proofs.Common.{◌≡◌, ℕ, List, [], ◌∷◌, ◌++◌, Bool, true, false, Option, Some, None, refl, ap, subst, if◌then◌else◌}
use Rattle.std.proofs.lemmas.Bool.{eqb-true}
use Rattle.fc_observe.specs.declared.entry.Turn.{Turn}
use Rattle.fc_ticket.specs.declared.job.Job.{Job}
use Rattle.fc_registry.specs.Calls.{is_out_at}
use Rattle.fc_registry.specs.Changes.{Change}
use Rattle.fc_ticket.specs.Tickets.{Present, Ticket}
use Rattle.fc_core.specs.declared.event.Event.{Event}
use Rattle.fc_core.specs.declared.event.Event.TheVariants.{Take}
use Rattle.fc_core.specs.History.{BeginsWith, History, Then, Seen, inputs, seen, stage}
use Rattle.fc_core.specs.Laws.{IsNewest, Snapshot, finds, finds_if, gives, gives_at, is_job, is_named, slot_of, snapshots_of}
use Rattle.fc_core.specs.Legal.{AllMean, FindsMeaning, FoundMeans, IsMeant, TakesMeaning}
use Rattle.fc_core.specs.Transitions.{Inputs, names}
use Rattle.fc_core.specs.Stage.{Stage, ToCommit, ToTake, ToTell}
use Rattle.fc_core.specs.TurnStage as turns
use Rattle.fc_laws.proofs.jobs.Snapshots.{Took, known}

abbrev AllMeant : List Snapshot → Type 0
AllMeant [] = Unit {0}
AllMeant (x ∷ xs) = IsMeant x.ticket × AllMeant xs

-- ---- the ticket of an event

found_meant : (j : Job) (readings : List ℕ) (serial : ℕ) (p : Option Present) (cs : List Change) (ts : List Snapshot) → FoundMeans j readings serial p → AllMeant ts
    → AllMeant (finds j readings serial p cs ++ ts)
found_meant j readings serial None cs ts m w = w
found_meant j readings serial (Some found) cs ts m w = (m, w)

out_meant : (out : Bool) (j : Job) (readings : List ℕ) (serial : ℕ) (p : Option Present) (cs : List Change) (ts : List Snapshot) → FoundMeans j readings serial p → AllMeant ts
    → AllMeant (finds_if out j readings serial p cs ++ ts)
out_meant true j readings serial p cs ts m w = found_meant j readings serial p cs ts m w
out_meant false j readings serial p cs ts m w = w

given_meant : (readings : List ℕ) (s : Inputs) (st : Stage) (cs : List Change) (ts : List Snapshot) → FindsMeaning readings s st → AllMeant ts → AllMeant (gives_at readings s st cs ++ ts)
given_meant readings s (ToTake count) cs ts m w = found_meant s.job readings s.slot.serial s.slot.present cs ts m w
given_meant readings s (ToTell turn turns.ToTake) cs ts m w = out_meant (is_out_at turn s.around.time s.around.watch) s.job readings s.slot.serial s.slot.present cs ts m w
given_meant readings s (ToTell turn other) cs ts m w = w
given_meant readings s other cs ts m w = w

-- if the earlier tickets of a job have a meaning, so has the ticket that an event gives to the job.
event_meant : (e : Event) (s : Seen) (k : ℕ) (cs : List Change) (ts : List Snapshot) → names e ≡ Some k → TakesMeaning s e → AllMeant ts → AllMeant (gives e (inputs s k) cs ++ ts)
event_meant (Take j true readings) s k cs ts named m w =
    let same : j ≡ k = cc named in
    given_meant readings (inputs s k) (stage s k) cs ts (subst (λ (i : ℕ). FindsMeaning readings (inputs s i) (stage s i)) same m) w
event_meant (Take j false readings) s k cs ts named m w = w
event_meant other s k cs ts named m w = w

named_is : (k : ℕ) (o : Option ℕ) → is_job k o ≡ true → o ≡ Some k
named_is k None is = absurd (cc is)
named_is k (Some j) is = ap Some (eqb-true j k is)

step_meant : (e : Event) (s : Seen) (k : ℕ) (cs : List Change) (ts : List Snapshot) (b : Bool) → is_named k e ≡ b → TakesMeaning s e → AllMeant ts
    → AllMeant (if b then gives e (inputs s k) cs ++ ts else ts)
step_meant e s k cs ts true is m w = event_meant e s k cs ts (named_is k (names e) is) m w
step_meant e s k cs ts false is m w = w

all_meant : (h : History) (k : ℕ) → AllMean h → AllMeant (snapshots_of h k)
all_meant (BeginsWith stored id policy) k m = tt
all_meant (Then h r) k m = step_meant r.event (seen h) k ((seen h).changes (slot_of (seen h) k)) (snapshots_of h k) (is_named k r.event) refl m.0 (all_meant h k m.1)

-- ---- the ticket of a job

newest_meant : (ts : List Snapshot) (t : Ticket) → IsNewest ts t → AllMeant ts → IsMeant t
newest_meant [] t is w = absurd is
newest_meant (x ∷ xs) t is w = subst IsMeant is w.0

module _ (h : History) (k : ℕ) (t : Ticket) (m : AllMean h) where
  pub commit_meant : (n : ℕ) → stage (seen h) k ≡ ToCommit n t → IsMeant t
  commit_meant n is = newest_meant (snapshots_of h k) t (subst (Took (snapshots_of h k)) is (known h k)).2 (all_meant h k m)

  pub draw_meant : (turn : Turn) → stage (seen h) k ≡ ToTell turn (turns.ToDraw (Some t)) → IsMeant t
  draw_meant turn is = newest_meant (snapshots_of h k) t (subst (Took (snapshots_of h k)) is (known h k)).1 (all_meant h k m)

  pub note_meant : (turn : Turn) (id : ℕ) → stage (seen h) k ≡ ToTell turn (turns.ToNote (Some t) id) → IsMeant t
  note_meant turn id is = newest_meant (snapshots_of h k) t (subst (Took (snapshots_of h k)) is (known h k)).1 (all_meant h k m)
