-- Each event keeps the agreement of a server with its history. There are three parts: the event's
-- effect on the front, on the job that it names, and on its own shard.
use Rattle.std.proofs.Common.{◌≡◌, ℕ, ◌+◌, ◌*◌, ◌/◌, ◌<◌, ◌%◌, arith, List, [], ◌++◌, length, map, set, Bool, true, false, Option, Some, None, refl, sym, ap, ◌∙◌, subst, ⊎_elim, if◌then◌else◌, max}
use Rattle.std.specs.Prelude.{filter, is_some, ◌==◌}
use Rattle.std.proofs.lemmas.Bool.{cases_eq, eq-eqb, ne_eqb}
use Rattle.coap_msg.specs.declared.types.Endpoint.{Endpoint}
use Rattle.coap_msg.specs.declared.types.Emission.{Emission}
use Rattle.coap_block.specs.Transfers.{transfers}
use Rattle.coap_dedup.specs.Exchanges.{is_live as is_held}
use Rattle.fc_observe.specs.Calls.{ObserverCall, after_calls, observers}
use Rattle.fc_ticket.specs.declared.job.Job.{Job}
use Rattle.fc_registry.specs.Changes.{after_changes}
use Rattle.fc_registry.specs.Shards.{shard_at, slot_in_shards}
use Rattle.fc_registry.specs.Slots.{Shard, Slot}
use Rattle.fc_ticket.specs.Tickets.{Present}
use Rattle.fc_registry.specs.Watches.{watch_at}
use Rattle.fc_core.specs.declared.event.Event.{Event}
use Rattle.fc_core.specs.declared.event.Event.TheVariants.{Take}
use Rattle.fc_core.specs.Stage.{Stage}
use Rattle.fc_core.specs.Stage.{ToTake, ToTell}
use Rattle.fc_core.specs.TurnStage as turns
use Rattle.fc_front.specs.Answering.{after_answered_by}
use Rattle.fc_front.specs.Contents.{Content}
use Rattle.fc_front.specs.Exchanges.{FrontState, opening_is_live}
use Rattle.fc_core.specs.Fits.{FitsSlot}
use Rattle.fc_core.specs.History.{AtFront, Receives, Answers, Draws, Fires, Passes, Rests, AtShard, Calm, Seen, additions_by, and_then, answered_in, at_front, at_shard, calls_by, calls_named, changes_after, common, did, exchanges_by, first_slot, front_at, front_in, hands_by, ids_answered, ids_by, job, time_by, received_at, inputs, shard_time_after, slot_at, stage, task_at, tasks_by, tasks_moved, watch, words_seen}
use Rattle.fc_front.specs.Ids.{drawn, drawn_for}
use Rattle.fc_core.specs.Legal.{AnswerEmits, EmitsBy, sends_in, FindsMeaning, FoundMeans, IsAnswered, TakesMeaning}
use Rattle.fc_front.specs.Receiving.{AskWithin, added_by, after_added, after_received, brought, drawn_by, id_in, keeping, kept_of, next_opening, opened_by, received, sent}
use Rattle.fc_core.specs.Sound.{AllSafe, IsSafelySeen, IsSoundlySeen}
use Rattle.fc_core.specs.Stages.{content_at, needs_id, new_task}
use Rattle.fc_core.specs.Transitions.{Effect, Inputs, handed, names, transition, sends, inputs_at, task_moved, words_after}
use Rattle.fc_core.proofs.Fitting.{after_changes-append, is_input}
use Rattle.fc_core.proofs.Keeping.{IsSafeEffect, still_safe, still_sound}
use Rattle.fc_core.proofs.OnShards.{named_calm}
use Rattle.fc_core.proofs.Watches.{after_append}
use Rattle.fc_server.specs.Agreement.{Parts, ShardsAgree}
use Rattle.fc_server.specs.States.{front_after, front_drawn, inputs_in, shards_moved}
use Rattle.fc_server.specs.Steps.{Done, EmitsAt, IsSafeIn, Steps, brought_by, front_by, effect_in, sends_at, server_in, shard_by, shards_in, tasks_in, words_in}
use Rattle.fc_server.proofs.Fronts.{front_advances, front_keeps, front_of, front_opens, transfers_added}
use Rattle.fc_server.proofs.Places.{are_written, now_here, now_there, slot_here, slot_there, watch_here, watch_there}
use Rattle.fc_server.proofs.ShardEvents.{shard_agrees, shard_brings, shard_sends}

-- ---- a snapshot has a meaning

found_means : (j : Job) (readings : List ℕ) (slot : Slot) (p : Option Present) → AskWithin j.ask → FitsSlot p → FoundMeans j readings slot.serial p
found_means j readings slot None within fits = tt
found_means j readings slot (Some p) within fits = record { run = fits.safe.runs.run _ (is_input j p _ _ within refl fits); longest = fits.safe.longest; cost = fits.safe.runs.cost }

finds_by : (readings : List ℕ) (x : Inputs) (st : Stage) → AskWithin x.job.ask → FitsSlot x.slot.present → FindsMeaning readings x st
finds_by readings x (ToTake n) within fits = found_means x.job readings x.slot x.slot.present within fits
finds_by readings x (ToTell turn turns.ToTake) within fits = found_means x.job readings x.slot x.slot.present within fits
finds_by readings x other within fits = tt

takes_mean : (e : Event) (s : Seen) → IsSoundlySeen s → IsSafelySeen s → TakesMeaning s e
takes_mean (Take k memory readings) s a f = finds_by readings (inputs s k) (stage s k) (a.within k).1 (f.slots (job s k).origin.slot)
takes_mean other s a f = tt

-- ---- the front

-- the front of the history's summary after an event's effect on it.
abbrev front_seen : AtFront → Option Emission → Seen → FrontState
front_seen x out s = record { managers = s.policy.managers; limits = s.policy.limits; now = time_by x s; opened = length (exchanges_by x out s); held = filter (is_held (time_by x s)) (exchanges_by x out s); transfers = transfers (additions_by x s ++ s.additions); ids = ids_by x s }

front_received : (s : Seen) (now : ℕ) (to : Endpoint) (bytes : List ℕ) (out : Option Emission) → out ≡ sent (received_at s now to bytes) (front_at s now) to → after_received (received_at s now to bytes) (front_at s now) to ≡ front_seen (Receives now to bytes) out s
front_received s now to bytes out e =
    let x = received_at s now to bytes in
    let at = max s.time now in
    let n = length s.exchanges in
    let ids = drawn_by x s.ids at in
    let all = s.exchanges ++ opened_by x (next_opening (front_at s now)) to in
    let new = added_by x at to in
    let ts = after_added new (transfers s.additions) in
    ap (keeping n (kept_of x (sent x (front_at s now) to))) (front_opens s at x to ts ids)
    ∙ (front_keeps s.policy at n (kept_of x (sent x (front_at s now) to)) all ts ids
    ∙ λ i. front_of s.policy at (answered_in n (kept_of x (sym e i)) all) (sym (transfers_added new s.additions) i) ids)

-- the front after an answer is that of the history, for a job with an answer or without one.
front_answered : (s : Seen) (now : ℕ) (j : Job) (out : Option Emission) (live : Bool) (c : Option Content) → opening_is_live (max s.time now) j.origin.opening ≡ live → AnswerEmits c j (front_at s now) out →
    front_after c j out (front_in s s.time) now
    ≡ front_of s.policy (if is_some c then max s.time now else s.time) (if is_some c then answered_in j.origin.opening.number out s.exchanges else s.exchanges) (transfers s.additions) (ids_answered c live j.confirmable s.ids (max s.time now))
front_answered s now j out live None is emits = refl
front_answered s now j out true (Some content) is emits =
    let at = max s.time now in
    (λ i. after_answered_by (opening_is_live (front_advances s now i).now j.origin.opening) j out (front_advances s now i))
    ∙ (ap (λ (b : Bool). after_answered_by b j out (front_at s now)) is
    ∙ front_keeps s.policy at j.origin.opening.number out s.exchanges (transfers s.additions) (drawn_for j.confirmable s.ids at))
front_answered s now j out false (Some content) is emits =
    let overdue : out ≡ None = subst (λ (b : Bool). IsAnswered b (id_in (front_at s now) j.confirmable j.origin.id) j content out) is emits in
    (λ i. after_answered_by (opening_is_live (front_advances s now i).now j.origin.opening) j out (front_advances s now i))
    ∙ (ap (λ (b : Bool). after_answered_by b j out (front_at s now)) is
    ∙ ap (λ (em : Option Emission). front_of s.policy (max s.time now) (answered_in j.origin.opening.number em s.exchanges) (transfers s.additions) s.ids) (sym overdue))

front_drew : (s : Seen) (now : ℕ) (b : Bool) →
    front_drawn b (front_in s s.time) now
    ≡ front_of s.policy (if b then max s.time now else s.time) s.exchanges (transfers s.additions) (if b then drawn s.ids (max s.time now) else s.ids)
front_drew s now true = ap (λ (f : FrontState). record f { ids = drawn s.ids (max s.time now) }) (front_advances s now)
front_drew s now false = refl

-- ---- a state that agrees with the history, by its shards

abbrev state_seen : Seen → List Shard → Parts
state_seen s shards = record { front = front_in s s.time; shards = shards; words = s.words; tasks = s.tasks }

-- ---- the named job

module _ (s : Seen) (e : Event) (shards : List Shard) (a : ShardsAgree s shards) (sound : IsSoundlySeen s) where
  -- the summary of the history after the event's effects on the shards.
  abbrev shards_seen : Option ℕ → AtShard → Seen
  shards_seen o y = record s { changes = λ n. changes_after o e s n; shard_time = λ i. handed (hands_by y i) (shard_time_after o e s i); calls = λ n. calls_named o e s n ++ (calls_by y s n ++ s.calls n) }

  module _ (k : ℕ) where
    abbrev n : ℕ
    n = (job s k).origin.slot

    abbrev m : Effect
    m = transition e (inputs s k)

    low : n < 64
    low = (sound.within k).0

    -- the observers of the task's slot are those of the history.
    watch_is : watch_at (shard_at shards (n % 8)) (n / 8) ≡ watch s n
    watch_is =
        let number : 8 * (n / 8) + n % 8 ≡ n = omega arith in
        a.watch (n % 8) (n / 8) (omega arith) (omega (arith, low)) ∙ ap (watch s) number

    -- the inputs of the task at the server are those of the history.
    inputs_is : inputs_in (server_in (state_seen s shards)) (task_at s.tasks k) ≡ inputs s k
    inputs_is = λ i. inputs_at (task_at s.tasks k) (a.slot n low i) (record { common = common s; time = a.now (n % 8) (omega arith) i; watch = watch_is i })

    effect_is : effect_in e (state_seen s shards) k ≡ m
    effect_is = λ i. transition e (inputs_is i)

    changes_if : (i : ℕ) (b : Bool) → (n == i) ≡ b → changes_after (Some k) e s i ≡ (if b then m.changes ++ s.changes i else s.changes i)
    changes_if i b is = ap (λ (c : Bool). if c then m.changes ++ s.changes i else s.changes i) is

    time_if : (i : ℕ) (b : Bool) → (n % 8 == i) ≡ b → shard_time_after (Some k) e s i ≡ (if b then handed m.hands (s.shard_time i) else s.shard_time i)
    time_if i b is = ap (λ (c : Bool). if c then handed m.hands (s.shard_time i) else s.shard_time i) is

    calls_if : (i : ℕ) (b : Bool) → (n == i) ≡ b → calls_named (Some k) e s i ≡ (if b then m.calls else [])
    calls_if i b is = ap (λ (c : Bool). if c then m.calls else []) is

    slot_place : after_changes (slot_at s n) m.changes ≡ after_changes (first_slot s n) (changes_after (Some k) e s n)
    slot_place = sym (after_changes-append (first_slot s n) m.changes (s.changes n)) ∙ ap (after_changes (first_slot s n)) (sym (changes_if n true (eq-eqb n n refl)))

    -- the observers of the job's slot after the event are those of the history.
    watch_own : (i p : ℕ) → i < 8 → 8 * p + i ≡ n → watch_at (shard_at (shards_moved m n shards) i) p ≡ observers (8 * p + i) s.policy.confirm_after (calls_named (Some k) e s (8 * p + i) ++ s.calls (8 * p + i))
    watch_own i p il q =
        let shard : i ≡ n % 8 = omega (arith, il, q) in
        let place : p ≡ n / 8 = omega (arith, il, q) in
        let here : watch_at (shard_at (shards_moved m n shards) i) p ≡ observers n s.policy.confirm_after (calls_named (Some k) e s n ++ s.calls n) =
        (λ j. watch_at (shard_at (shards_moved m n shards) (shard j)) (place j))
        ∙ (watch_here shards a.are n low m
        ∙ (ap (after_calls m.calls) (watch_is)
        ∙ (sym (after_append n s.policy.confirm_after m.calls (s.calls n)) ∙ ap (λ (cs : List ObserverCall). observers n s.policy.confirm_after (cs ++ s.calls n)) (sym (calls_if n true (eq-eqb n n refl)))))) in
        subst (λ (j : ℕ). watch_at (shard_at (shards_moved m n shards) i) p ≡ observers j s.policy.confirm_after (calls_named (Some k) e s j ++ s.calls j)) (sym q) here

    -- the observers of another slot after the event are those of the history.
    watch_other : (i p : ℕ) → i < 8 → p < 8 → (8 * p + i ≡ n → ⊥) → watch_at (shard_at (shards_moved m n shards) i) p ≡ observers (8 * p + i) s.policy.confirm_after (calls_named (Some k) e s (8 * p + i) ++ s.calls (8 * p + i))
    watch_other i p il pl ne = watch_there shards a.are n low m i p il ne ∙ (a.watch i p il pl ∙ ap (λ (cs : List ObserverCall). observers (8 * p + i) s.policy.confirm_after (cs ++ s.calls (8 * p + i))) (sym (calls_if (8 * p + i) false (ne_eqb n (8 * p + i) (λ q. ne (sym q))))))

    moved_agrees : ShardsAgree (shards_seen (Some k) Calm) (shards_moved m n shards)
    moved_agrees = record {
      are = are_written shards a.are n low m;
      slot = λ i lt. ⊎_elim
          (λ (q : i ≡ n). subst (λ (j : ℕ). slot_in_shards (shards_moved m n shards) j ≡ after_changes (first_slot s j) (changes_after (Some k) e s j)) (sym q)
          (slot_here shards a.are n low m ∙ (ap (λ (x : Slot). after_changes x m.changes) (a.slot n low) ∙ slot_place)))
          (λ (ne : i ≡ n → ⊥). slot_there shards a.are n low m i ne ∙ (a.slot i lt ∙ ap (after_changes (first_slot s i)) (sym (changes_if i false (ne_eqb n i (λ q. ne (sym q)))))))
          (cases_eq i n);
      now = λ i lt. ⊎_elim
          (λ (q : i ≡ n % 8). subst (λ (j : ℕ). (shard_at (shards_moved m n shards) j).now ≡ shard_time_after (Some k) e s j) (sym q)
          (now_here shards a.are n low m ∙ (ap (handed m.hands) (a.now (n % 8) (subst (λ (j : ℕ). j < 8) q lt)) ∙ sym (time_if (n % 8) true (eq-eqb (n % 8) (n % 8) refl)))))
          (λ (ne : i ≡ n % 8 → ⊥). now_there shards a.are n low m i ne ∙ (a.now i lt ∙ sym (time_if i false (ne_eqb (n % 8) i (λ q. ne (sym q))))))
          (cases_eq i (n % 8));
      watch = λ i p il pl. ⊎_elim (watch_own i p il) (watch_other i p il pl) (cases_eq (8 * p + i) n);
    }

    job_agrees : ShardsAgree (shards_seen (Some k) Calm) (shards_in (Some k) e (state_seen s shards))
    job_agrees = subst (λ (x : Effect). ShardsAgree (shards_seen (Some k) Calm) (shards_moved x n shards)) (sym effect_is) moved_agrees

  tasks_agree : (o : Option ℕ) → tasks_in o e (state_seen s shards) ≡ tasks_moved o e s
  tasks_agree None = refl
  tasks_agree (Some k) = ap (λ (m : Effect). set s.tasks k (task_moved (task_at s.tasks k) m)) (effect_is k)

  words_agree : (o : Option ℕ) → words_in o e (state_seen s shards) ≡ words_seen o e s
  words_agree None = refl
  words_agree (Some k) = ap (λ (m : Effect). words_after m (task_at s.tasks k) s.words) (effect_is k)

  safe_agree : (o : Option ℕ) → IsSafeIn o e (state_seen s shards) → IsSafeEffect o e s
  safe_agree None safe = tt
  safe_agree (Some k) safe = subst (λ (m : Effect). AllSafe m.changes) (effect_is k) safe

  -- an event that names no job keeps the agreement of the shards, by its effect on its own shard.
  unnamed_agrees : (y : AtShard) → ShardsAgree (shards_seen None y) (shard_by y shards)
  unnamed_agrees y = let w = shard_agrees y s shards a in record { are = w.are; slot = w.slot; now = w.now; watch = w.watch }

  shards_agree : (o : Option ℕ) → names e ≡ o → ShardsAgree (shards_seen (names e) (at_shard e)) (shard_by (at_shard e) (shards_in (names e) e (state_seen s shards)))
  shards_agree None is = subst (λ (o : Option ℕ). ShardsAgree (shards_seen o (at_shard e)) (shard_by (at_shard e) (shards_in o e (state_seen s shards)))) (sym is) (unnamed_agrees (at_shard e))
  shards_agree (Some k) is =
      let calm = subst (λ (y : AtShard). ShardsAgree (shards_seen (Some k) y) (shard_by y (shards_in (Some k) e (state_seen s shards)))) (sym (named_calm e k is)) (job_agrees k) in
      subst (λ (o : Option ℕ). ShardsAgree (shards_seen o (at_shard e)) (shard_by (at_shard e) (shards_in o e (state_seen s shards)))) (sym is) calm

-- ---- the emission of an event, and the front

module _ (s : Seen) (shards : List Shard) (a : ShardsAgree s shards) (sound : IsSoundlySeen s) (out : Option Emission) where
  sends_agree : (o : Option ℕ) (e : Event) → sends_at o e (state_seen s shards) ≡ sends_in o e s
  sends_agree None e = shard_sends (at_shard e) s shards a
  sends_agree (Some k) e = ap (sends e) (inputs_is s e shards a sound k)

  emits_agree : (x : AtFront) (e : Event) → EmitsAt x e (state_seen s shards) out → EmitsBy x e s out
  emits_agree (Receives now to bytes) e w = subst (λ (f : FrontState). out ≡ sent (received f to bytes) f to) (front_advances s now) w
  emits_agree (Answers k now) e w = subst (λ (f : FrontState). AnswerEmits (content_at (stage s k)) (job s k) f out) (front_advances s now) w
  emits_agree (Draws k now) e w = w
  emits_agree (Fires slot now) e w = w
  emits_agree (Passes now) e w = w
  emits_agree Rests e w = w ∙ sends_agree (names e) e

  front_agrees : (x : AtFront) (e : Event) → EmitsBy x e s out → front_by x (state_seen s shards) out ≡ front_seen x out s
  front_agrees (Receives now to bytes) e w = ap (λ (f : FrontState). after_received (received f to bytes) f to) (front_advances s now) ∙ front_received s now to bytes out w
  front_agrees (Answers k now) e w = front_answered s now (job s k) out (opening_is_live (max s.time now) (job s k).origin.opening) (content_at (stage s k)) refl w
  front_agrees (Draws k now) e w = front_drew s now (needs_id (stage s k))
  front_agrees (Fires slot now) e w = front_advances s now
  front_agrees (Passes now) e w = front_advances s now
  front_agrees Rests e w = refl

  brought_agree : (x : AtFront) → brought_by x (state_seen s shards) ≡ tasks_by x s
  brought_agree (Receives now to bytes) = ap (λ (f : FrontState). map new_task (brought (received f to bytes) (next_opening f) to)) (front_advances s now)
  brought_agree other = refl

-- ---- any event

pub goes_on : (e : Event) (old new : Parts) (out : Option Emission) → Done e old out new → Steps e old out new
goes_on e old new out done s a =
    let same : old ≡ state_seen s old.shards = λ i. record { front = a.front i; shards = old.shards; words = a.words i; tasks = a.tasks i } in
    let d = subst (λ (p : Parts). Done e p out new) same done in
    let emits = emits_agree s old.shards a.shards a.sound out (at_front e) e d.emits in
    let moved = shards_agree s e old.shards a.shards a.sound (names e) refl in
    record {
      emits = emits;
      means = takes_mean e s a.sound a.safe;
      agrees = record {
        front = d.front ∙ front_agrees s old.shards a.shards a.sound out (at_front e) e emits;
        tasks = d.tasks ∙ (λ i. tasks_agree s e old.shards a.shards a.sound (names e) i ++ (shard_brings (at_shard e) s old.shards a.shards i ++ brought_agree s old.shards a.shards a.sound out (at_front e) i));
        words = d.words ∙ words_agree s e old.shards a.shards a.sound (names e);
        shards = subst (ShardsAgree (and_then (did e out) s)) (sym d.shards) (record { are = moved.are; slot = moved.slot; now = moved.now; watch = moved.watch });
        sound = still_sound (did e out) s a.sound;
        safe = still_safe (did e out) s a.sound (safe_agree s e old.shards a.shards a.sound (names e) d.safe) a.safe;
      };
    }
