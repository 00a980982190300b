-- If each event keeps the fit, a function of a history and a job fits the job's stage.
use Rattle.std.proofs.Common.{◌≡◌, ℕ, ◌≤◌, List, Bool, true, false, Option, Some, None, refl, sym, ap, ◌∙◌, subst, arith, if◌then◌else◌}
use Rattle.std.specs.Prelude.{length}
use Rattle.std.proofs.lemmas.Bool.{eq-eqb, ne_eqb}
use Rattle.std.proofs.lemmas.List.{get_or_past}
use Rattle.fc_observe.specs.declared.entry.Turn.{Turn}
use Rattle.fc_ticket.specs.declared.job.Ask.{Ask}
use Rattle.fc_ticket.specs.declared.job.Job.{Job}
use Rattle.fc_registry.specs.Calls.{turn_of}
use Rattle.fc_store.specs.Stored.{StoredSlots}
use Rattle.fc_core.specs.declared.event.Event.{Event}
use Rattle.fc_core.specs.Stage.{Stage}
use Rattle.fc_core.specs.Stage.{ToTell, Gone}
use Rattle.fc_core.specs.TurnStage as turns
use Rattle.fc_core.specs.declared.stage.Task.{Task}
use Rattle.fc_front.specs.declared.policy.Policy.{Policy}
use Rattle.fc_core.specs.History.{Entry, History, BeginsWith, Then, Seen, seen, and_then, no_task, inputs, stage, task_at}
use Rattle.fc_core.specs.Laws.{is_named, is_job}
use Rattle.fc_core.specs.Stages.{first_by, first_or_turn, first_stage}
use Rattle.fc_core.specs.Transitions.{names, transition}
use Rattle.fc_laws.proofs.jobs.Steps.{Becomes, Moves, Stays, Comes, becomes, tasks_grow}

pub is_its_number : (k : ℕ) (o : Option ℕ) → o ≡ Some k → is_job k o ≡ true
is_its_number k o is = ap (is_job k) is ∙ eq-eqb k k refl

pub is_another : (k : ℕ) (o : Option ℕ) → (o ≡ Some k → ⊥) → is_job k o ≡ false
is_another k None ne = refl
is_another k (Some j) ne = ne_eqb j k (λ e. ne (ap Some e))

-- a job that didn't arrive is at the stage `Gone`.
pub gone_before : (s : Seen) (k : ℕ) → length s.tasks ≤ k → stage s k ≡ Gone
gone_before s k le = ap (λ (t : Task). t.stage) (get_or_past s.tasks k no_task le)

-- `told` is a function of the history and a job, which only the events of that job update.
module _ {A : Type 0} (told : History → ℕ → A) (update : Event → Seen → ℕ → A → A) (P : A → Stage → Type 0) (none : A) where
  pub record IsTold : Type 0 where
    pub begins : (stored : StoredSlots) (id : ℕ) (policy : Policy) (k : ℕ) → told (BeginsWith stored id policy) k ≡ none
    pub then_is : (h : History) (r : Entry) (k : ℕ) → told (Then h r) k ≡ (if is_named k r.event then update r.event (seen h) k (told h k) else told h k)
    pub still : (e : Event) (s : Seen) (k : ℕ) (a : A) → stage s k ≡ Gone → update e s k a ≡ a
    pub gone : P none Gone
    pub first : (ask : Ask) (serials : List ℕ) → P none (first_by ask serials)
    pub turns : (turn : Turn) → P none (ToTell turn turns.ToTake)
    pub keeps : (e : Event) (s : Seen) (k : ℕ) (a : A) → P a (stage s k) → P (update e s k a) (transition e (inputs s k)).stage

  none_if : (w : IsTold) (e : Event) (s : Seen) (k : ℕ) (a : A) (b : Bool) → stage s k ≡ Gone → (if b then update e s k a else a) ≡ a
  none_if w e s k a true is = w.still e s k a is
  none_if w e s k a false is = refl

  pub none_yet : IsTold → (h : History) (k : ℕ) → length (seen h).tasks ≤ k → told h k ≡ none
  unfolding seen
  none_yet w (BeginsWith stored id policy) k le = w.begins stored id policy k
  none_yet w (Then h r) k le =
      let before : length (seen h).tasks ≤ k = omega (arith, tasks_grow r (seen h), le) in
      w.then_is h r k ∙ (none_if w r.event (seen h) k (told h k) (is_named k r.event) (gone_before (seen h) k before) ∙ none_yet w h k before)

  pub none_after : IsTold → (h : History) (r : Entry) (k : ℕ) → length (seen h).tasks ≤ k → told (Then h r) k ≡ none
  none_after w h r k before = w.then_is h r k ∙ (none_if w r.event (seen h) k (told h k) (is_named k r.event) (gone_before (seen h) k before) ∙ none_yet w h k before)

  first_told : (w : IsTold) (j : Job) (o : Option ℕ) → P none (first_or_turn o j)
  first_told w j None = w.first j.ask j.etags.items
  first_told w j (Some number) = w.turns (turn_of j number)

  step : (w : IsTold) (h : History) (r : Entry) (k : ℕ) (t : Task) → Becomes (names r.event) r.event (seen h) k t → P (told h k) (stage (seen h) k) → P (if is_named k r.event then update r.event (seen h) k (told h k) else told h k) t.stage
  step w h r k t (Moves named is) p =
      subst (λ (b : Bool). P (if b then update r.event (seen h) k (told h k) else told h k) t.stage) (sym (is_its_number k (names r.event) named))
      (subst (λ (x : Task). P (update r.event (seen h) k (told h k)) x.stage) (sym is) (w.keeps r.event (seen h) k (told h k) p))
  step w h r k t (Stays other is) p =
      subst (λ (b : Bool). P (if b then update r.event (seen h) k (told h k) else told h k) t.stage) (sym (is_another k (names r.event) other))
      (subst (λ (x : Task). P (told h k) x.stage) (sym is) p)
  step w h r k t (Comes new j is) p =
      subst (λ (x : Task). P (if is_named k r.event then update r.event (seen h) k (told h k) else told h k) x.stage) (sym is)
      (subst (λ (a : A). P a (first_stage j)) (sym (none_if w r.event (seen h) k (told h k) (is_named k r.event) (gone_before (seen h) k new) ∙ none_yet w h k new)) (first_told w j j.turn))

  pub along : IsTold → (h : History) (k : ℕ) → P (told h k) (stage (seen h) k)
  unfolding seen
  along w (BeginsWith stored id policy) k = subst (λ (a : A). P a Gone) (sym (w.begins stored id policy k)) w.gone
  along w (Then h r) k = subst (λ (a : A). P a (stage (and_then r (seen h)) k)) (sym (w.then_is h r k)) (step w h r k (task_at (and_then r (seen h)).tasks k) (becomes r (seen h) k) (along w h k))
