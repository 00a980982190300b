-- The first call's place among the calls of its part and of its job.
use Rattle.std.proofs.Common.{◌≡◌, ◌≢◌, ℕ, ◌+◌, ◌<◌, ◌≤◌, Bool, true, false, List, [], ◌∷◌, ◌++◌, length, set, Option, Some, None, refl, sym, ap, ◌∙◌, subst, ⊎_elim, arith}
use Rattle.std.specs.Prelude.{◌==◌, if◌then◌else◌, is_some}
use Rattle.std.specs.List.{filter}
use Rattle.std.proofs.lemmas.List.{get_or-set_same, get_or_append_left, get_or-set_same, get_or-set_other, length-append, length-set}
use Rattle.std.proofs.Math.Seq.{get_or-append_seam}
use Rattle.std.proofs.lemmas.Bool.{cases_lt}
use Rattle.std.proofs.lemmas.Bool.Decides.{nat_tests}
use native.Mathlib.Decide.{ℕ_discrete}
use Rattle.fc_ticket.specs.declared.job.Job.{Job}
use Rattle.fc_registry.specs.Shards.{no_shard, shard_at}
use Rattle.fc_registry.specs.Slots.{Shard}
use Rattle.fc_core.specs.declared.stage.Task.{Task}
use Rattle.fc_core.specs.Stage.{Stage}
use Rattle.fc_core.specs.Stages.{new_task}
use Rattle.fc_core.specs.History.{no_task, task_at}
use Rattle.fc_server.specs.States.{ServerState}
use Rattle.fc_linear.specs.Operations.{Operation, LogEntry, ServerPart, ShardPart, ShardDoes, StageMoves, job_brought, is_for_job, is_shard, part_of}
use Rattle.fc_linear.specs.Parts.{HaveNextNumbers, BringsItsJob, LeadInOrder, RightByParts, FollowsStages, bringing, concerns, of_job, of_shard}

abbrev pub entry_for : ℕ → Operation → LogEntry
entry_for k op = record { job = k; operation = op }

is_itself : (k : ℕ) → (k == k) ≡ true
is_itself k = grind (arith, nat_tests)

is_other : (j k : ℕ) → j ≢ k → (k == j) ≡ false
is_other j k n = grind (n, arith, nat_tests)

-- ---- for its job

head_if : (b : Bool) (p : LogEntry → Bool) (e : LogEntry) (es : List LogEntry) → p e ≡ b → filter p (e ∷ es) ≡ (if b then e ∷ filter p es else filter p es)
head_if b p e es is = ap (λ (c : Bool). if c then e ∷ filter p es else filter p es) is

pub kept : (p : LogEntry → Bool) (e : LogEntry) (es : List LogEntry) → p e ≡ true → filter p (e ∷ es) ≡ e ∷ filter p es
kept p e es is = head_if true p e es is

pub left : (p : LogEntry → Bool) (e : LogEntry) (es : List LogEntry) → p e ≡ false → filter p (e ∷ es) ≡ filter p es
left p e es is = head_if false p e es is

concerns_its : (k : ℕ) (op : Operation) → is_for_job op ≡ true → concerns k (entry_for k op) ≡ true
concerns_its k op for = rw (for, is_itself k) refl

concerns_other : (j k : ℕ) (op : Operation) → j ≢ k → concerns j (entry_for k op) ≡ false
concerns_other j k op n = grind (is_other j k n, arith, nat_tests)

concerns_none : (j k : ℕ) (op : Operation) → is_for_job op ≡ false → job_brought op ≡ None → concerns j (entry_for k op) ≡ false
concerns_none j k op not none = rw (not, none) refl

-- a call for a job that arrived before leads the job to a stage. With this stage, the other calls
-- of each job are right.
pub record Named (k : ℕ) (op : Operation) (tasks : List Task) (es : List LogEntry) : Type 0 where
  pub came : k < length tasks
  pub stage : Stage
  pub moves : StageMoves op (task_at tasks k).job (task_at tasks k).stage stage
  pub jobs : let later = set tasks k (record { job = (task_at tasks k).job; stage = stage }) in (j : ℕ) → j < length later → FollowsStages (of_job j es) (task_at later j)
  pub to_come : let later = set tasks k (record { job = (task_at tasks k).job; stage = stage }) in (j : ℕ) → length later ≤ j → BringsItsJob (of_job j es)
  pub numbered : let later = set tasks k (record { job = (task_at tasks k).job; stage = stage }) in HaveNextNumbers (length later) (bringing es)

module _ (k : ℕ) (op : Operation) (end s : ServerState) (tasks : List Task) (es : List LogEntry) (st : RightByParts end s tasks (entry_for k op ∷ es)) where
  -- if the first call produces no job, the calls that produce a job are all among the others.
  bringing_left : job_brought op ≡ None → bringing (entry_for k op ∷ es) ≡ bringing es
  bringing_left none = left (λ e. is_some (job_brought e.operation)) (entry_for k op) es (ap (λ (o : Option Job). is_some o) none)

  its : is_for_job op ≡ true → of_job k (entry_for k op ∷ es) ≡ entry_for k op ∷ of_job k es
  its for = kept (concerns k) (entry_for k op) es (concerns_its k op for)

  others : (j : ℕ) → j ≢ k → of_job j (entry_for k op ∷ es) ≡ of_job j es
  others j n = left (concerns j) (entry_for k op) es (concerns_other j k op n)

  to_come_isnt : job_brought op ≡ None → BringsItsJob (entry_for k op ∷ of_job k es) → ⊥
  to_come_isnt none u = let e : None ≡ Some u.0 = sym none ∙ u.1 in absurd (cc e)

  has_come : is_for_job op ≡ true → job_brought op ≡ None → k < length tasks
  has_come for none = ⊎_elim (λ (lt : k < length tasks). lt) (λ (le : length tasks ≤ k). absurd (to_come_isnt none (subst BringsItsJob (its for) (st.to_come k le)))) (cases_lt k (length tasks))

  pub named : is_for_job op ≡ true → job_brought op ≡ None → Named k op tasks es
  named for none =
      let lt : k < length tasks = has_come for none in
      let w : FollowsStages (entry_for k op ∷ of_job k es) (task_at tasks k) = subst (λ (l : List LogEntry). FollowsStages l (task_at tasks k)) (its for) (st.jobs k lt) in
      let next : Task = record { job = (task_at tasks k).job; stage = w.0 } in
      let later = set tasks k next in
      let n : length later ≡ length tasks = length-set tasks k next in
      record {
        came = lt;
        stage = w.0;
        moves = w.1;
        jobs = λ j l. elim (ℕ_discrete j k) [
          | yes e ↦ subst (λ (i : ℕ). FollowsStages (of_job i es) (task_at later i)) (sym e) (subst (λ (t : Task). FollowsStages (of_job k es) t) (sym (get_or-set_same tasks k next no_task lt)) w.2)
          | no d ↦ subst (λ (t : Task). FollowsStages (of_job j es) t) (sym (get_or-set_other tasks k j next no_task d)) (subst (λ (l : List LogEntry). FollowsStages l (task_at tasks j)) (others j d) (st.jobs j (omega (arith, n, l))))
        ];
        to_come = λ j le. let d : j ≢ k = λ e. absurd (omega (arith, n, e, lt, le)) in subst BringsItsJob (others j d) (st.to_come j (omega (arith, n, le)));
        numbered = subst (λ (m : ℕ). HaveNextNumbers m (bringing es)) (sym n) (subst (HaveNextNumbers (length tasks)) (bringing_left none) st.numbered);
      }

  -- if the first call is for no job and produces none, it is among no job's calls, nor among those
  -- that produce a job.
  pub spared : is_for_job op ≡ false → job_brought op ≡ None → ((j : ℕ) → of_job j (entry_for k op ∷ es) ≡ of_job j es) × (bringing (entry_for k op ∷ es) ≡ bringing es)
  spared not none = (λ j. left (concerns j) (entry_for k op) es (concerns_none j k op not none), bringing_left none)

-- a call that produces a job gives the job the next number. With this job, the other calls of each
-- job are right.
pub record Brought (k : ℕ) (job : Job) (tasks : List Task) (es : List LogEntry) : Type 0 where
  pub is : k ≡ length tasks
  pub jobs : (j : ℕ) → j < length (tasks ++ new_task job ∷ []) → FollowsStages (of_job j es) (task_at (tasks ++ new_task job ∷ []) j)
  pub to_come : (j : ℕ) → length (tasks ++ new_task job ∷ []) ≤ j → BringsItsJob (of_job j es)
  pub numbered : HaveNextNumbers (length (tasks ++ new_task job ∷ [])) (bringing es)

module _ (k : ℕ) (op : Operation) (job : Job) (end s : ServerState) (tasks : List Task) (es : List LogEntry) (not : is_for_job op ≡ false) (brings : job_brought op ≡ Some job) (st : RightByParts end s tasks (entry_for k op ∷ es)) where
  bears : is_some (job_brought op) ≡ true
  bears = ap (λ (o : Option Job). is_some o) brings

  numbered_now : HaveNextNumbers (length tasks) (entry_for k op ∷ bringing es)
  numbered_now = subst (HaveNextNumbers (length tasks)) (kept (λ e. is_some (job_brought e.operation)) (entry_for k op) es bears) st.numbered

  concerns_it : concerns k (entry_for k op) ≡ true
  concerns_it = rw (not, bears, is_itself k) refl

  concerns_no : (j : ℕ) → j ≢ k → concerns j (entry_for k op) ≡ false
  concerns_no j n = rw (not, bears, is_other j k n) refl

  walks_new : BringsItsJob (entry_for k op ∷ of_job k es) → FollowsStages (of_job k es) (new_task job)
  walks_new u = let e : Some job ≡ Some u.0 = sym brings ∙ u.1 in subst (λ (x : Job). FollowsStages (of_job k es) (new_task x)) (cc e) u.2

  pub brought : Brought k job tasks es
  brought =
      let is : k ≡ length tasks = numbered_now.0 in
      let n : length (tasks ++ new_task job ∷ []) ≡ length tasks + 1 = length-append tasks (new_task job ∷ []) in
      let walk : FollowsStages (of_job k es) (new_task job) = walks_new (subst BringsItsJob (kept (concerns k) (entry_for k op) es concerns_it) (st.to_come k (omega (arith, is)))) in
      record {
        is = is;
        jobs = λ j l. elim (ℕ_discrete j k) [
          | yes e ↦ subst (λ (i : ℕ). FollowsStages (of_job i es) (task_at (tasks ++ new_task job ∷ []) i)) (sym e)
              (subst (λ (t : Task). FollowsStages (of_job k es) t) (sym (ap (λ (i : ℕ). task_at (tasks ++ new_task job ∷ []) i) is ∙ get_or-append_seam tasks (new_task job) [] no_task)) walk)
          | no d ↦ let lt : j < length tasks = omega (arith, n, l, is, d) in
              subst (λ (t : Task). FollowsStages (of_job j es) t) (sym (get_or_append_left tasks (new_task job ∷ []) no_task j lt))
              (subst (λ (l : List LogEntry). FollowsStages l (task_at tasks j)) (left (concerns j) (entry_for k op) es (concerns_no j d)) (st.jobs j lt))
        ];
        to_come = λ j le. let d : j ≢ k = λ e. absurd (omega (arith, n, e, is, le)) in
            subst BringsItsJob (left (concerns j) (entry_for k op) es (concerns_no j d)) (st.to_come j (omega (arith, n, le)));
        numbered = subst (λ (m : ℕ). HaveNextNumbers m (bringing es)) (sym n) numbered_now.1;
      }

-- ---- of its part

-- a call of shard i leads the shard to a state. From this state on, the other calls of each shard
-- are right.
pub record OnShard (op : Operation) (i : ℕ) (end s : ServerState) (es : List LogEntry) : Type 0 where
  pub after : Shard
  pub does : ShardDoes op (shard_at s.shards i) after
  pub shards : (j : ℕ) → j < 8 → LeadInOrder ShardDoes (of_shard j es) (shard_at (set s.shards i after) j) (shard_at end.shards j)

module _ (k : ℕ) (op : Operation) (end s : ServerState) (tasks : List Task) (es : List LogEntry) (st : RightByParts end s tasks (entry_for k op ∷ es)) where
  pub on_shard : (i : ℕ) → part_of op ≡ ShardPart i → i < 8 → length s.shards ≡ 8 → OnShard op i end s es
  on_shard i at low eight =
      let here : is_shard i (part_of op) ≡ true = ap (λ (p : ServerPart). is_shard i p) at ∙ is_itself i in
      let r : LeadInOrder ShardDoes (entry_for k op ∷ of_shard i es) (shard_at s.shards i) (shard_at end.shards i) =
      subst (λ (l : List LogEntry). LeadInOrder ShardDoes l (shard_at s.shards i) (shard_at end.shards i)) (kept (λ e. is_shard i (part_of e.operation)) (entry_for k op) es here) (st.shards i low) in
      record {
        after = r.0;
        does = r.1;
        shards = λ j l. elim (ℕ_discrete j i) [
          | yes e ↦ subst (λ (i' : ℕ). LeadInOrder ShardDoes (of_shard i' es) (shard_at (set s.shards i r.0) i') (shard_at end.shards i')) (sym e)
              (subst (λ (x : Shard). LeadInOrder ShardDoes (of_shard i es) x (shard_at end.shards i)) (sym (get_or-set_same s.shards i r.0 no_shard (omega (arith, eight, low)))) r.2)
          | no d ↦ subst (λ (x : Shard). LeadInOrder ShardDoes (of_shard j es) x (shard_at end.shards j)) (sym (get_or-set_other s.shards i j r.0 no_shard d))
              (subst (λ (l : List LogEntry). LeadInOrder ShardDoes l (shard_at s.shards j) (shard_at end.shards j)) (left (λ e. is_shard j (part_of e.operation)) (entry_for k op) es (ap (λ (p : ServerPart). is_shard j p) at ∙ is_other j i d)) (st.shards j l))
        ];
      }
