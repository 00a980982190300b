-- The times of the front and of the shards.
use Rattle.std.proofs.Common.{◌≡◌, ℕ, List, ◌++◌, Bool, true, false, Option, Some, None, refl, sym, ap, ◌∙◌, max, if◌then◌else◌, [], ◌∷◌}
use Rattle.std.specs.Prelude.{is_some, nat_lt, ◌%◌, ◌==◌, ◌&&◌}
use Rattle.fc_ticket.specs.declared.job.Job.{Job}
use Rattle.fc_registry.specs.Slots.{Slot}
use Rattle.fc_core.specs.declared.event.Event.{Event}
use Rattle.fc_core.specs.declared.event.Event.TheVariants.{Deliver, Answer, Tick, Fire, Fresh, Due, ShardTick}
use Rattle.fc_core.specs.Stage.{Stage}
use Rattle.fc_core.specs.Stage.{ToAnswer, ToTell}
use Rattle.fc_core.specs.TurnStage as turns
use Rattle.fc_core.specs.AnswerLaws.{answer_time, draw_time, transition_time, greatest, is_of_shard, own_time, times_in, times_of, shard_times_of}
use Rattle.fc_core.specs.History.{around, History, BeginsWith, Then, Seen, seen, job, inputs, shard_time_after, slot_at, stage, at_front, time_by, at_shard, hands_by}
use Rattle.fc_core.specs.Laws.{slot_of, stage_named}
use Rattle.fc_core.specs.Stages.{content_at, needs_id}
use Rattle.fc_core.specs.Transitions.{Around, Inputs, handed, names, transition}
use Rattle.fc_core.proofs.ByStep.{Step, by_step, event_by, effect_by, stage_by}
use Rattle.fc_core.proofs.ByStep as steps

answer_handed : (st : Stage) (m now : ℕ) (ms : List ℕ) → m ≡ greatest ms → (if is_some (content_at st) then max m now else m) ≡ greatest (answer_time st now ++ ms)
answer_handed (ToAnswer content) m now ms is = ap (λ (x : ℕ). max x now) is
answer_handed other m now ms is = is

draw_handed : (st : Stage) (m now : ℕ) (ms : List ℕ) → m ≡ greatest ms → (if needs_id st then max m now else m) ≡ greatest (draw_time st now ++ ms)
draw_handed (ToTell turn (turns.ToDraw found)) m now ms is = ap (λ (x : ℕ). max x now) is
draw_handed other m now ms is = is

front_handed : (e : Event) (s : Seen) (ms : List ℕ) → s.time ≡ greatest ms → time_by (at_front e) s ≡ greatest (times_in e s ++ ms)
front_handed (Deliver now to bytes) s ms is = ap (λ (x : ℕ). max x now) is
front_handed (Fire slot now) s ms is = ap (λ (x : ℕ). max x now) is
front_handed (Tick now) s ms is = ap (λ (x : ℕ). max x now) is
front_handed (Answer k now) s ms is = answer_handed (stage s k) s.time now ms is
front_handed (Fresh k now) s ms is = draw_handed (stage s k) s.time now ms is
front_handed other s ms is = is

pub time_is_greatest : (h : History) → (seen h).time ≡ greatest (times_of h)
unfolding seen
time_is_greatest (BeginsWith stored id policy) = refl
time_is_greatest (Then h r) = front_handed r.event (seen h) (times_of h) (time_is_greatest h)

abbrev at : Job → Slot → Around → Stage → Inputs
at job slot ws stage = record { job = job; slot = slot; around = ws; stage = stage }

step_handed : (k : ℕ) (c : Step) (job : Job) (slot : Slot) (ws : Around) (m : ℕ) (ms : List ℕ) → m ≡ greatest ms → handed (effect_by c job slot ws).hands m ≡ greatest (transition_time (event_by k c) (stage_by c) ++ ms)
step_handed k (steps.Commits now n t) job slot ws m ms is = ap (λ (x : ℕ). max x now) is
step_handed k (steps.Notes now random turn found id) job slot ws m ms is = ap (λ (x : ℕ). max x now) is
step_handed k (steps.GivesUp now turn needs) job slot ws m ms is = ap (λ (x : ℕ). max x now) is
step_handed k (steps.Refuses refusal) job slot ws m ms is = is ∙ ap (λ (l : List ℕ). greatest (l ++ ms)) (sym (refusal.times k))
step_handed k other job slot ws m ms is = is

transition_handed : (e : Event) (job : Job) (slot : Slot) (ws : Around) (st : Stage) (m : ℕ) (ms : List ℕ) → m ≡ greatest ms → handed (transition e (at job slot ws st)).hands m ≡ greatest (transition_time e st ++ ms)
transition_handed e job slot ws st m ms is =
    by_step (λ d s move. handed move.hands m ≡ greatest (transition_time d s ++ ms)) job slot ws (λ k c asked. step_handed k c job slot ws m ms is)
    (λ d s rest. is ∙ ap (λ (l : List ℕ). greatest (l ++ ms)) (sym rest.times)) e st

shard_if : (s : Seen) (e : Event) (k i : ℕ) (b : Bool) (ms : List ℕ) → s.shard_time i ≡ greatest ms → (if b then handed (transition e (inputs s k)).hands (s.shard_time i) else s.shard_time i) ≡ greatest (if b then transition_time e (stage s k) ++ ms else ms)
shard_if s e k i true ms is = transition_handed e (job s k) (slot_at s (slot_of s k)) (around s (slot_of s k)) (stage s k) (s.shard_time i) ms is
shard_if s e k i false ms is = is

shard_handed : (s : Seen) (e : Event) (o : Option ℕ) (i : ℕ) (ms : List ℕ) → s.shard_time i ≡ greatest ms → shard_time_after o e s i ≡ greatest (if is_of_shard i s o then transition_time e (stage_named s o) ++ ms else ms)
shard_handed s e None i ms is = is
shard_handed s e (Some k) i ms is = shard_if s e k i (slot_of s k % 8 == i) ms is

-- if the time of a shard is the greatest that was passed to it, this holds after an event of the
-- shard too.
handed_if : (b : Bool) (now m : ℕ) (ms : List ℕ) → m ≡ greatest ms → handed (if b then Some now else None) m ≡ greatest ((if b then now ∷ [] else []) ++ ms)
handed_if true now m ms is = ap (λ (x : ℕ). max x now) is
handed_if false now m ms is = is

handed_more : (e : Event) (i m : ℕ) (ms : List ℕ) → m ≡ greatest ms → handed (hands_by (at_shard e) i) m ≡ greatest (own_time e i ++ ms)
handed_more (Due shard now) i m ms is = handed_if ((shard == i) && nat_lt i 8) now m ms is
handed_more (ShardTick shard now) i m ms is = handed_if ((shard == i) && nat_lt i 8) now m ms is
handed_more other i m ms is = is

pub shard_time_is_greatest : (h : History) (i : ℕ) → (seen h).shard_time i ≡ greatest (shard_times_of i h)
unfolding seen
shard_time_is_greatest (BeginsWith stored id policy) i = refl
shard_time_is_greatest (Then h r) i = handed_more r.event i _ _ (shard_handed (seen h) r.event (names r.event) i (shard_times_of i h) (shard_time_is_greatest h i))
