-- Calls of the front.
use Rattle.std.proofs.Common.{◌≡◌, ℕ, max, Bool, true, false, List, [], ◌∷◌, ◌++◌, length, map, set, Option, Some, None, refl, sym, ap, ◌∙◌, subst}
use Rattle.std.proofs.lemmas.List.{append-nil}
use Rattle.coap_msg.specs.declared.types.Emission.{Emission}
use Rattle.coap_msg.specs.declared.types.Endpoint.{Endpoint}
use Rattle.fc_ticket.specs.declared.job.Job.{Job}
use Rattle.fc_front.specs.declared.by_value.Answered.{Answered}
use Rattle.fc_front.specs.declared.by_value.Answered.TheVariants.{Sent, Late, NoId}
use Rattle.fc_front.specs.declared.by_value.Delivered.{Delivered}
use Rattle.fc_front.specs.declared.by_value.Delivered.TheVariants.{Nothing, Reply, Job as Brings, Signal as Signals}
use Rattle.fc_core.specs.declared.stage.Task.{Task}
use Rattle.fc_core.specs.declared.event.Event.TheVariants.{Answer, Deliver, Fresh, Tick}
use Rattle.fc_front.specs.Answering.{Answers, emission_of}
use Rattle.fc_front.specs.Contents.{Content}
use Rattle.fc_front.specs.Exchanges.{FrontState, advanced, opening_is_live}
use Rattle.fc_core.specs.History.{History, task_at}
use Rattle.fc_front.specs.Ids.{free_id}
use Rattle.fc_core.specs.Legal.{AnswerEmits, IsAnswered}
use Rattle.fc_front.specs.Receiving.{id_in}
use Rattle.fc_core.specs.Stage.{Stage}
use Rattle.fc_core.specs.Stage.{ToAnswer, ToTell}
use Rattle.fc_core.specs.TurnStage as turns
use Rattle.fc_core.specs.Stages.{content_at, drew, ended, needs_id, new_task}
use Rattle.fc_front.specs.Timers.{timer_job}
use Rattle.fc_calls.specs.Logged.{AdvancesFront, AnswersRequest, DrawsId, FiresTimer, HandlesDatagram}
use Rattle.fc_calls.specs.Doings.{AdvancesTo, AnswersAt, FiresAt}
use Rattle.fc_server.specs.Serving.{Serves, next}
use Rattle.fc_server.specs.States.{DrawsId as Draws, Responds, ServerState, front_after, front_drawn}
use Rattle.fc_server.proofs.Others.{draws_done, responds_done, ticked_done}
use Rattle.fc_server.proofs.Served.{delivered_on, fired_on, jobs_by, sent_by}
use Rattle.fc_linear.specs.Operations.{Operation, Logged, LogEntry, borrowed, job_in, reply_in}
use Rattle.fc_linear.specs.Parts.{HaveNextNumbers, BringsItsJob, RightByParts, FollowsStages}
use Rattle.fc_linear.proofs.Afters.{After}
use Rattle.fc_linear.proofs.Firsts.{brought, entry_for, named, spared}
use Rattle.fc_linear.proofs.OnJob.{served_on}

fired : (now : ℕ) (f g : FrontState) → FiresAt now f g → g ≡ advanced f now
unfolding FiresAt
fired now f g is = is

ticked : (now : ℕ) (f g : FrontState) → AdvancesTo now f g → g ≡ advanced f now
unfolding AdvancesTo
ticked now f g is = is

module _ (k : ℕ) (es : List LogEntry) (h : History) (end s : ServerState) (tasks : List Task) (v : Serves h s tasks) where
  pub after_tick : (now : ℕ) → RightByParts end s tasks (entry_for k (Logged (AdvancesFront now)) ∷ es) → After k (Logged (AdvancesFront now)) es h end
  after_tick now st =
      let r = st.front in
      let t : ServerState = record s { front = r.0 } in
      record {
        server = t;
        tasks = tasks;
        serves = served_on h (Tick now) s tasks None t tasks (ticked_done now s t tasks (ticked now s.front r.0 r.1) refl refl) v;
        rest = record { front = r.2; shards = st.shards; words = st.words; jobs = st.jobs; to_come = st.to_come; numbered = st.numbered; of_server = st.of_server.1 };
      }

  -- if the first call is a delivery that produces no job, the history with this call leaves a
  -- server. The other calls are right for this server.
  jobless : (now : ℕ) (from : Endpoint) (bytes : List ℕ) (d : Delivered) → job_in d ≡ None → jobs_by d ≡ [] → sent_by d ≡ reply_in d
      → RightByParts end s tasks (entry_for k (Logged (HandlesDatagram now from bytes d)) ∷ es) → After k (Logged (HandlesDatagram now from bytes d)) es h end
  jobless now from bytes d none nobody sent st =
      let op : Operation = Logged (HandlesDatagram now from bytes d) in
      let r = st.front in
      let t : ServerState = record s { front = r.0 } in
      let still = spared k op end s tasks es st refl none in
      let served = delivered_on now from (borrowed bytes) s t d (sym r.1.0) r.1.1 refl refl h tasks v in
      record {
        server = t;
        tasks = tasks;
        serves = subst (λ (o : Option Emission). Serves (next h (Deliver now from (borrowed bytes)) o) t tasks) sent
            (subst (λ (ts : List Task). Serves (next h (Deliver now from (borrowed bytes)) (sent_by d)) t ts) (ap (λ (js : List Job). tasks ++ map new_task js) nobody ∙ append-nil tasks) served);
        rest = record {
          front = r.2;
          shards = st.shards;
          words = st.words;
          jobs = λ j l. subst (λ (x : List LogEntry). FollowsStages x (task_at tasks j)) (still.0 j) (st.jobs j l);
          to_come = λ j l. subst BringsItsJob (still.0 j) (st.to_come j l);
          numbered = subst (HaveNextNumbers (length tasks)) still.1 st.numbered;
          of_server = st.of_server.1;
        };
      }

  pub after_handle : (now : ℕ) (from : Endpoint) (bytes : List ℕ) (d : Delivered)
      → RightByParts end s tasks (entry_for k (Logged (HandlesDatagram now from bytes d)) ∷ es) → After k (Logged (HandlesDatagram now from bytes d)) es h end
  after_handle now from bytes Nothing st = jobless now from bytes Nothing refl refl refl st
  after_handle now from bytes (Reply emission) st = jobless now from bytes (Reply emission) refl refl refl st
  after_handle now from bytes (Signals id reset) st = jobless now from bytes (Signals id reset) refl refl refl st
  after_handle now from bytes (Brings job) st =
      let op : Operation = Logged (HandlesDatagram now from bytes (Brings job)) in
      let r = st.front in
      let t : ServerState = record s { front = r.0 } in
      let b = brought k op job end s tasks es refl refl st in
      record {
        server = t;
        tasks = tasks ++ new_task job ∷ [];
        serves = delivered_on now from (borrowed bytes) s t (Brings job) (sym r.1.0) r.1.1 refl refl h tasks v;
        rest = record { front = r.2; shards = st.shards; words = st.words; jobs = b.jobs; to_come = b.to_come; numbered = b.numbered; of_server = st.of_server.1 };
      }

  pub after_fire : (slot now : ℕ) → RightByParts end s tasks (entry_for k (Logged (FiresTimer slot now)) ∷ es) → After k (Logged (FiresTimer slot now)) es h end
  after_fire slot now st =
      let op : Operation = Logged (FiresTimer slot now) in
      let r = st.front in
      let t : ServerState = record s { front = r.0 } in
      let b = brought k op (timer_job slot) end s tasks es refl refl st in
      record {
        server = t;
        tasks = tasks ++ new_task (timer_job slot) ∷ [];
        serves = fired_on slot now s t (fired now s.front r.0 r.1) refl refl h tasks v;
        rest = record { front = r.2; shards = st.shards; words = st.words; jobs = b.jobs; to_come = b.to_come; numbered = b.numbered; of_server = st.of_server.1 };
      }

  pub after_draw : (now : ℕ) (id : Option ℕ) → RightByParts end s tasks (entry_for k (Logged (DrawsId now id)) ∷ es) → After k (Logged (DrawsId now id)) es h end
  after_draw now id st =
      let op : Operation = Logged (DrawsId now id) in
      let r = st.front in
      let t : ServerState = record s { front = r.0 } in
      let task = task_at tasks k in
      let n = named k op end s tasks es st refl refl in
      let later : Task = record { job = task.job; stage = n.stage } in
      let turn = n.moves.0 in
      let found = n.moves.1 in
      let was : task.stage ≡ ToTell turn (turns.ToDraw found) = n.moves.2 in
      let free = free_id s.front.ids (max s.front.now now) in
      let d : Draws now s task t later = record {
        front = r.1.1 ∙ ap (λ (x : Stage). front_drawn (needs_id x) s.front now) (sym was);
        task_is = ap (λ (x : Stage). record { job = task.job; stage = x }) (n.moves.3 ∙ (ap (λ (o : Option ℕ). drew o (ToTell turn (turns.ToDraw found))) r.1.0 ∙ ap (λ (x : Stage). drew free x) (sym was)));
        shards = refl;
        words = refl;
      } in
      record {
        server = t;
        tasks = set tasks k later;
        serves = served_on h (Fresh k now) s tasks None t (set tasks k later) (draws_done k now s t tasks (set tasks k later) task later refl refl d) v;
        rest = record { front = r.2; shards = st.shards; words = st.words; jobs = n.jobs; to_come = n.to_come; numbered = n.numbered; of_server = st.of_server.1 };
      }

-- the emission of an answer is the one that `IsAnswered` permits.
sent_is : (live : Bool) (id : Option ℕ) (job : Job) (content : Content) (answered : Answered) → Answers live id job content answered → IsAnswered live id job content (emission_of answered)
sent_is true (Some id) job content (Sent emission) a = a
sent_is true (Some id) job content Late a = absurd a
sent_is true (Some id) job content NoId a = absurd a
sent_is true None job content NoId a = refl
sent_is true None job content (Sent emission) a = absurd a
sent_is true None job content Late a = absurd a
sent_is false id job content Late a = refl
sent_is false id job content (Sent emission) a = absurd a
sent_is false id job content NoId a = absurd a

answer_is : (now : ℕ) (job : Job) (content : Content) (sent : Option Emission) (f g : FrontState) → AnswersAt now job content sent f g → AnswerEmits (Some content) job (advanced f now) sent
answer_is now job content sent f g a =
    let at = advanced f now in
    subst (λ (o : Option Emission). IsAnswered (opening_is_live at.now job.origin.opening) (id_in at job.confirmable job.origin.id) job content o) (sym a.sent_is)
    (sent_is (opening_is_live at.now job.origin.opening) (id_in at job.confirmable job.origin.id) job content a.answered a.answers)

module _ (k : ℕ) (es : List LogEntry) (h : History) (end s : ServerState) (tasks : List Task) (v : Serves h s tasks) where
  pub after_answer : (now : ℕ) (j : Job) (content : Content) (sent : Option Emission) → RightByParts end s tasks (entry_for k (Logged (AnswersRequest now j content sent)) ∷ es) → After k (Logged (AnswersRequest now j content sent)) es h end
  after_answer now j content sent st =
      let op : Operation = Logged (AnswersRequest now j content sent) in
      let r = st.front in
      let t : ServerState = record s { front = r.0 } in
      let task = task_at tasks k in
      let n = named k op end s tasks es st refl refl in
      let later : Task = record { job = task.job; stage = n.stage } in
      let same : j ≡ task.job = n.moves.0 in
      let was : task.stage ≡ ToAnswer content = n.moves.1 in
      let a : AnswersAt now task.job content sent s.front r.0 = subst (λ (x : Job). AnswersAt now x content sent s.front r.0) same r.1 in
      let d : Responds now s task t later sent = record {
        front = a.after_is ∙ ap (λ (x : Stage). front_after (content_at x) task.job sent s.front now) (sym was);
        task_is = ap (λ (x : Stage). record { job = task.job; stage = x }) (n.moves.2 ∙ ap (λ (x : Stage). ended x) (sym was));
        shards = refl;
        words = refl;
        emits = subst (λ (x : Stage). AnswerEmits (content_at x) task.job (advanced s.front now) sent) (sym was) (answer_is now task.job content sent s.front r.0 a);
      } in
      record {
        server = t;
        tasks = set tasks k later;
        serves = served_on h (Answer k now) s tasks sent t (set tasks k later) (responds_done k now s t tasks (set tasks k later) task later sent refl refl d) v;
        rest = record { front = r.2; shards = st.shards; words = st.words; jobs = n.jobs; to_come = n.to_come; numbered = n.numbered; of_server = st.of_server.1 };
      }
