-- Each call as an event: for a job that arrived, for a job that never did, and for no job.
use Rattle.std.proofs.Common.{◌≡◌, ℕ, ◌<◌, ◌≤◌, ◌%◌, arith, max, get_or, List, [], ◌∷◌, ◌++◌, length, set, Bool, true, false, Option, Some, None, refl, sym, ap, ◌∙◌, subst, Bor}
use Rattle.std.specs.Prelude.{◌==◌, is_some}
use Rattle.std.proofs.lemmas.List.{append-nil, get_or_default, get_or_past, set-get_or, set_past}
use Rattle.coap_msg.specs.declared.types.Endpoint.{Endpoint}
use Rattle.coap_msg.specs.declared.types.Emission.{Emission}
use Rattle.fc_registry.specs.Shards.{no_shard, shard_at, slot_in_shards}
use Rattle.fc_registry.specs.Slots.{Shard, Slot}
use Rattle.fc_core.specs.declared.event.Event.{Event}
use Rattle.fc_core.specs.declared.event.Event.TheVariants.{Deliver, Answer, Due, Fire, Fresh, Note, Peek, Receipt, Signal, Tick, ShardTick, Lose}
use Rattle.fc_core.specs.Stage.{Stage}
use Rattle.fc_core.specs.Stage.{ToMatch, ToDescribe, ToList, ToAnswer, ToTell, Gone}
use Rattle.fc_core.specs.TurnStage as turns
use Rattle.fc_core.specs.declared.stage.Task.{Task}
use Rattle.fc_front.specs.Exchanges.{advanced}
use Rattle.fc_front.specs.Ids.{free_id}
use Rattle.fc_core.specs.History.{AtFront, Rests, at_front, at_shard, no_task, task_at}
use Rattle.fc_core.specs.Legal.{AnswerEmits}
use Rattle.fc_core.specs.Sound.{AllSafe}
use Rattle.fc_front.specs.Heads.{word_at}
use Rattle.fc_core.specs.Stages.{content_at, drew, ended, needs_id, new_task}
use Rattle.fc_front.specs.Timers.{timer_job}
use Rattle.fc_core.specs.Steps.{Call, Matches, Lists, next_stage}
use Rattle.fc_core.specs.Transitions.{around_of, Around, Effect, Inputs, call_if, effect_of, goes_to, names, transition, inputs_at, sends, task_moved, words_after}
use Rattle.fc_core.proofs.Rejections.{same_slot}
use Rattle.fc_server.specs.Agreement.{Parts}
use Rattle.fc_server.specs.Serving.{with_tasks}
use Rattle.fc_server.specs.States.{Does, DrawsId, Responds, ServerState, Works, common_in, front_after, front_drawn, inputs_in, shards_moved}
use Rattle.fc_server.specs.Steps.{DeliveredTo, Done, EmitsAt, IsOfJob, IsSafeIn, brought_by, front_by, resent_by, sends_at, shard_by, shards_in, tasks_in, turns_at, words_in}

-- ---- a transition that changes no slot

-- the shards are unchanged after a transition that changes no slot.
pub unwritten : (stage : Stage) (n : ℕ) (shards : List Shard) → shards_moved (goes_to stage) n shards ≡ shards
unwritten stage n shards = ap (λ (x : Shard). set shards (n % 8) x) (same_slot (shard_at shards (n % 8)) n) ∙ set-get_or shards (n % 8) no_shard

-- an event that changes no slot and raises no head word has only the effect on its task.
pub does_quietly : (e : Event) (old new : ServerState) (task later : Task) (st : Stage) → transition e (inputs_in old task) ≡ goes_to st → None ≡ sends e (inputs_in old task) → later ≡ task_moved task (transition e (inputs_in old task)) → new ≡ old → Does e old task new later None
does_quietly e old new task later st idle silent is same = subst (λ (s : ServerState). Does e old task s later None) (sym same) (record {
  front = refl;
  task_is = is;
  shards = sym (unwritten st task.job.origin.slot old.shards) ∙ ap (λ (m : Effect). shards_moved m task.job.origin.slot old.shards) (sym idle);
  words = ap (λ (m : Effect). words_after m task old.words) (sym idle);
  safe = subst (λ (m : Effect). AllSafe m.changes) (sym idle) tt;
  emits = silent;
})

-- the shard that was read at a place is the owner of the slot.
pub owner_read : (shards : List Shard) (n k : ℕ) (found : Shard) → length shards ≡ 8 → k < 8 → k ≡ n % 8 → found ≡ get_or shards k found → found ≡ shard_at shards (n % 8)
owner_read shards n k found eight lt place is = is ∙ (get_or_default shards k found no_shard (omega (arith, eight, lt)) ∙ ap (shard_at shards) place)

-- if the owner of a slot is written unchanged, the shards are unchanged.
pub owner_same : (shards : List Shard) (k : ℕ) (found now : Shard) → now ≡ found → found ≡ get_or shards k found → set shards k now ≡ shards
owner_same shards k found now same is = ap (λ (x : Shard). set shards k x) (same ∙ is) ∙ set-get_or shards k found

-- if a call changes its job alone, so does the call under a condition.
pub call_idle : (e : Event) (x : Inputs) (c : Call) → effect_of e x (Some c) ≡ goes_to (next_stage c) → (b : Bool) → effect_of e x (call_if b c) ≡ goes_to (effect_of e x (call_if b c)).stage
call_idle e x c idle true = idle
call_idle e x c idle false = refl

abbrev at : Inputs → Stage → Inputs
at x stage = record x { stage = stage }

peek_idle_at : (k n : ℕ) (x : Inputs) (st : Stage) → transition (Peek k n) (at x st) ≡ goes_to (transition (Peek k n) (at x st)).stage
peek_idle_at k n x ToMatch = call_idle (Peek k n) (at x ToMatch) (Matches x.job.etags.items (word_at x.around.common.words n)) refl (n == x.job.origin.slot)
peek_idle_at k n x (ToList seen) = call_idle (Peek k n) (at x (ToList seen)) (Lists seen (word_at x.around.common.words n)) refl (n == length seen.items)
peek_idle_at k n x other = refl

pub peek_idle : (k n : ℕ) (x : Inputs) → transition (Peek k n) x ≡ goes_to (transition (Peek k n) x).stage
peek_idle k n x = peek_idle_at k n x x.stage

receipt_idle_at : (k : ℕ) (x : Inputs) (st : Stage) → transition (Receipt k) (at x st) ≡ goes_to (transition (Receipt k) (at x st)).stage
receipt_idle_at k x ToDescribe = refl
receipt_idle_at k x other = refl

pub receipt_idle : (k : ℕ) (x : Inputs) → transition (Receipt k) x ≡ goes_to (transition (Receipt k) x).stage
receipt_idle k x = receipt_idle_at k x x.stage

answer_idle : (k now : ℕ) (x : Inputs) (st : Stage) → transition (Answer k now) (at x st) ≡ goes_to (ended st)
answer_idle k now x (ToAnswer content) = refl
answer_idle k now x other = refl

draw_idle : (k now : ℕ) (x : Inputs) (st : Stage) → transition (Fresh k now) (at x st) ≡ goes_to (drew (x.around.common.free now) st)
draw_idle k now x (ToTell turn (turns.ToDraw found)) = refl
draw_idle k now x other = refl

-- ---- a job that arrived

-- an event on a job, without an effect on the front, has the effect of its task.
pub does_done : (e : Event) (k : ℕ) → IsOfJob e k → (old new : ServerState) (tasks later : List Task) (was now : Task) (out : Option Emission) → was ≡ task_at tasks k → later ≡ set tasks k now → Does e old was new now out → Done e (with_tasks old tasks) out (with_tasks new later)
does_done e k (rests, calm, named) old new tasks later was now out at is d =
    let p : Parts = with_tasks old tasks in
    record {
      front = d.front ∙ ap (λ (x : AtFront). front_by x p out) (sym rests);
      tasks = is
          ∙ (ap (λ (t : Task). set tasks k t) (d.task_is ∙ ap (λ (t : Task). task_moved t (transition e (inputs_in old t))) at)
          ∙ (sym (append-nil (tasks_in (Some k) e p)) ∙ λ i. tasks_in (sym named i) e p ++ (turns_at (sym calm i) p.shards ++ brought_by (sym rests i) p)));
      shards = subst (λ (t : Task). new.shards ≡ shards_moved (transition e (inputs_in old t)) t.job.origin.slot old.shards) at d.shards ∙ λ i. shard_by (sym calm i) (shards_in (sym named i) e p);
      words = subst (λ (t : Task). new.words ≡ words_after (transition e (inputs_in old t)) t old.words) at d.words ∙ ap (λ (o : Option ℕ). words_in o e p) (sym named);
      emits = subst (λ (x : AtFront). EmitsAt x e p out) (sym rests) (subst (λ (t : Task). out ≡ sends e (inputs_in old t)) at d.emits ∙ ap (λ (o : Option ℕ). sends_at o e p) (sym named));
      safe = subst (λ (o : Option ℕ). IsSafeIn o e p) (sym named) (subst (λ (t : Task). AllSafe (transition e (inputs_in old t)).changes) at d.safe);
    }

pub responds_done : (k now : ℕ) (old new : ServerState) (tasks later : List Task) (was next : Task) (out : Option Emission) → was ≡ task_at tasks k → later ≡ set tasks k next → Responds now old was new next out → Done (Answer k now) (with_tasks old tasks) out (with_tasks new later)
responds_done k now old new tasks later was next out same is d =
    let task = task_at tasks k in
    let idle : transition (Answer k now) (inputs_in old task) ≡ goes_to (ended task.stage) = answer_idle k now (inputs_in old task) task.stage in
    record {
      front = subst (λ (t : Task). new.front ≡ front_after (content_at t.stage) t.job out old.front now) same d.front;
      tasks = is
          ∙ (ap (λ (t : Task). set tasks k t) (d.task_is ∙ (ap (λ (t : Task). task_moved t (goes_to (ended t.stage))) same ∙ ap (λ (m : Effect). task_moved task m) (sym idle)))
          ∙ sym (append-nil (tasks_in (Some k) (Answer k now) (with_tasks old tasks))));
      shards = d.shards ∙ (sym (unwritten (ended task.stage) task.job.origin.slot old.shards) ∙ ap (λ (m : Effect). shards_moved m task.job.origin.slot old.shards) (sym idle));
      words = d.words ∙ ap (λ (m : Effect). words_after m task old.words) (sym idle);
      emits = subst (λ (t : Task). AnswerEmits (content_at t.stage) t.job (advanced old.front now) out) same d.emits;
      safe = subst (λ (m : Effect). AllSafe m.changes) (sym idle) tt;
    }

pub draws_done : (k now : ℕ) (old new : ServerState) (tasks later : List Task) (was next : Task) → was ≡ task_at tasks k → later ≡ set tasks k next → DrawsId now old was new next → Done (Fresh k now) (with_tasks old tasks) None (with_tasks new later)
draws_done k now old new tasks later was next same is d =
    let task = task_at tasks k in
    let st = drew (free_id old.front.ids (max old.front.now now)) task.stage in
    let idle : transition (Fresh k now) (inputs_in old task) ≡ goes_to st = draw_idle k now (inputs_in old task) task.stage in
    record {
      front = subst (λ (t : Task). new.front ≡ front_drawn (needs_id t.stage) old.front now) same d.front;
      tasks = is
          ∙ (ap (λ (t : Task). set tasks k t) (d.task_is ∙ (ap (λ (t : Task). task_moved t (goes_to (drew (free_id old.front.ids (max old.front.now now)) t.stage))) same ∙ ap (λ (m : Effect). task_moved task m) (sym idle)))
          ∙ sym (append-nil (tasks_in (Some k) (Fresh k now) (with_tasks old tasks))));
      shards = d.shards ∙ (sym (unwritten st task.job.origin.slot old.shards) ∙ ap (λ (m : Effect). shards_moved m task.job.origin.slot old.shards) (sym idle));
      words = d.words ∙ ap (λ (m : Effect). words_after m task old.words) (sym idle);
      emits = refl;
      safe = subst (λ (m : Effect). AllSafe m.changes) (sym idle) tt;
    }

-- an event of job k, with any effect on the front, has the effect of its task.
pub works_done : (e : Event) (k : ℕ) → names e ≡ Some k → (old new : ServerState) (tasks later : List Task) (was next : Task) (out : Option Emission) → was ≡ task_at tasks k → later ≡ set tasks k next → Works e old was new next out → Done e (with_tasks old tasks) out (with_tasks new later)
works_done (Answer j now) k named old new tasks later was next out same is d =
    let number : k ≡ j = cc in
    responds_done j now old new tasks later was next out (same ∙ ap (task_at tasks) number) (is ∙ ap (λ (i : ℕ). set tasks i next) number) d
works_done (Fresh j now) k named old new tasks later was next out same is d =
    let number : k ≡ j = cc in
    subst (λ (o : Option Emission). Done (Fresh j now) (with_tasks old tasks) o (with_tasks new later)) (sym d.1)
    (draws_done j now old new tasks later was next (same ∙ ap (task_at tasks) number) (is ∙ ap (λ (i : ℕ). set tasks i next) number) d.0)
works_done (Deliver now to b) k named old new tasks later was next out same is d = absurd (let n = named in cc)
works_done (Fire slot now) k named old new tasks later was next out same is d = absurd (let n = named in cc)
works_done (Tick now) k named old new tasks later was next out same is d = absurd (let n = named in cc)
works_done (Due shard now) k named old new tasks later was next out same is d = absurd (let n = named in cc)
works_done (Signal shard to id reset) k named old new tasks later was next out same is d = absurd (let n = named in cc)
works_done (ShardTick shard now) k named old new tasks later was next out same is d = absurd (let n = named in cc)
works_done other k named old new tasks later was next out same is d = does_done other k (refl, refl, named) old new tasks later was next out same is d

-- an event that names no job has no effect on a task.
idles_by : (e : Event) (s : ServerState) (task : Task) → transition e (inputs_in s task) ≡ goes_to task.stage → None ≡ sends e (inputs_in s task) → Does e s task s task None
idles_by e s task idle silent = does_quietly e s s task task task.stage idle silent (ap (λ (m : Effect). task_moved task m) (sym idle)) refl

true_isnt : {A : Type 0} → true ≡ false → A
true_isnt e = absurd (cc e)

pub idles : (e : Event) (s : ServerState) (task : Task) → is_some (names e) ≡ false → Works e s task s task None
idles (Deliver now to b) s task none = idles_by (Deliver now to b) s task refl refl
idles (Fire slot now) s task none = idles_by (Fire slot now) s task refl refl
idles (Tick now) s task none = idles_by (Tick now) s task refl refl
idles (Due shard now) s task none = idles_by (Due shard now) s task refl refl
idles (Signal shard to id reset) s task none = idles_by (Signal shard to id reset) s task refl refl
idles (ShardTick shard now) s task none = idles_by (ShardTick shard now) s task refl refl
idles other s task none = true_isnt none

-- ---- no job

pub delivered_done : (now : ℕ) (to : Endpoint) (b : Bor (List ℕ)) (old new : Parts) (out : Option Emission) → DeliveredTo now to b.now old new out → Done (Deliver now to b) old out new
delivered_done now to b old new out d = record { front = d.front; tasks = d.tasks; shards = d.shards; words = d.words; emits = d.emits; safe = tt }

pub ticked_done : (now : ℕ) (old new : ServerState) (tasks : List Task) → new.front ≡ advanced old.front now → new.shards ≡ old.shards → new.words ≡ old.words → Done (Tick now) (with_tasks old tasks) None (with_tasks new tasks)
ticked_done now old new tasks front shards words = record { front = front; tasks = sym (append-nil tasks); shards = shards; words = words; emits = refl; safe = tt }

pub fired_done : (slot now : ℕ) (old new : ServerState) (tasks : List Task) → new.front ≡ advanced old.front now → new.shards ≡ old.shards → new.words ≡ old.words → Done (Fire slot now) (with_tasks old tasks) None (with_tasks new (tasks ++ new_task (timer_job slot) ∷ []))
fired_done slot now old new tasks front shards words = record { front = front; tasks = refl; shards = shards; words = words; emits = refl; safe = tt }

-- an event that names no job and has no effect on the front has the effect of its own shard.
pub shard_done : (e : Event) (old new : ServerState) (tasks : List Task) (out : Option Emission) → names e ≡ None → at_front e ≡ Rests → new.front ≡ old.front → new.words ≡ old.words → new.shards ≡ shard_by (at_shard e) old.shards → out ≡ resent_by (at_shard e) old.shards → Done e (with_tasks old tasks) out (with_tasks new (tasks ++ turns_at (at_shard e) old.shards))
shard_done e old new tasks out none rests front words shards sent =
    let w : Parts = with_tasks old tasks in
    record {
      front = front ∙ ap (λ (x : AtFront). front_by x w out) (sym rests);
      tasks = λ i. tasks_in (sym none i) e w ++ (sym (append-nil (turns_at (at_shard e) old.shards)) ∙ ap (λ (x : AtFront). turns_at (at_shard e) old.shards ++ brought_by x w) (sym rests)) i;
      shards = shards ∙ ap (λ (o : Option ℕ). shard_by (at_shard e) (shards_in o e w)) (sym none);
      words = words ∙ ap (λ (o : Option ℕ). words_in o e w) (sym none);
      emits = subst (λ (x : AtFront). EmitsAt x e w out) (sym rests) (sent ∙ ap (λ (o : Option ℕ). sends_at o e w) (sym none));
      safe = subst (λ (o : Option ℕ). IsSafeIn o e w) (sym none) tt;
    }

-- ---- jobs that never arrived

gone_moves : (e : Event) (slot : Slot) (ws : Around) → transition e (inputs_at no_task slot ws) ≡ goes_to Gone
gone_moves (Lose k) slot ws = refl
gone_moves other slot ws = refl

gone_sends : (e : Event) (slot : Slot) (ws : Around) → None ≡ sends e (inputs_at no_task slot ws)
gone_sends (Note k now random) slot ws = refl
gone_sends other slot ws = refl

past_does : (e : Event) (w : ServerState) → Does e w no_task w no_task None
past_does e w =
    let slot = slot_in_shards w.shards 0 in
    let ws = around_of (shard_at w.shards 0) (common_in w.front w.words) 0 in
    let idle = gone_moves e slot ws in
    does_quietly e w w no_task no_task Gone idle (gone_sends e slot ws) (ap (λ (m : Effect). task_moved no_task m) (sym idle)) refl

past_works : (e : Event) (k : ℕ) (w : ServerState) → names e ≡ Some k → Works e w no_task w no_task None
past_works (Answer j now) k w named = record { front = refl; task_is = refl; shards = refl; words = refl; emits = refl }
past_works (Fresh j now) k w named = (record { front = refl; task_is = refl; shards = refl; words = refl }, refl)
past_works other k w named = past_does other w

-- an event of a job that never arrived has no effect.
pub past_done : (e : Event) (k : ℕ) (w : ServerState) (tasks : List Task) → names e ≡ Some k → length tasks ≤ k → Done e (with_tasks w tasks) None (with_tasks w tasks)
past_done e k w tasks named le = works_done e k named w w tasks tasks no_task no_task None (sym (get_or_past tasks k no_task le)) (sym (set_past tasks k no_task le)) (past_works e k w named)
