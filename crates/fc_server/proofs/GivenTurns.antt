-- A lease that a shard has just granted is active. So if its slot is empty, the lease's snapshot
-- finds that, and the lease notifies with the message ID that it draws.
use Rattle.std.proofs.Common.{◌≡◌, ℕ, ◌+◌, ◌*◌, ◌/◌, ◌%◌, ◌<◌, ◌≤◌, max, set, arith, [], ◌∷◌, ◌++◌, List, Bool, true, false, Option, Some, None, if◌then◌else◌, refl, sym, ap, ◌∙◌, subst}
use Rattle.std.specs.Prelude.{is_some}
use Rattle.std.specs.Option.{option_map}
use Rattle.std.proofs.lemmas.List.{get_or-set_same}
use Rattle.coap_msg.specs.declared.types.Emission.{Emission}
use Rattle.fc_observe.specs.declared.entry.Entry.{Entry}
use Rattle.fc_observe.specs.declared.entry.Turn.{Turn}
use Rattle.fc_observe.specs.Calls.{Advance, MarkMissing, NextDue, ObserverCall, after_calls, observers_after}
use Rattle.fc_observe.specs.Observers.{ObserverList, list_at_time, entry_out, gives_turn, is_missing, is_missing_by, must_confirm_turn, next_turn_by, no_observers, turn_missed}
use Rattle.fc_observe.specs.Views.{Interest, interest_of}
use Rattle.fc_observe.proofs.Hearing.{time_is, slot_is}
use Rattle.fc_observe.proofs.Missing.{missing_after}
use Rattle.fc_ticket.specs.declared.job.Job.{Job}
use Rattle.fc_registry.specs.Calls.{is_out_at, mark_missing_calls, readings_if, turn_of, turn_snapshot}
use Rattle.fc_ticket.specs.Notes.{note_at, note_in, note_to}
use Rattle.fc_registry.specs.Shards.{AreShards, no_shard, shard_at, slot_in_shards}
use Rattle.fc_registry.specs.Slots.{Shard, slot_in}
use Rattle.fc_registry.specs.Turns.{due_job, job_of_turn, turn_job}
use Rattle.fc_registry.specs.Watches.{after_due, at_time as shard_handed, due_place, has_due, noticed_at, watch_at}
use Rattle.fc_ticket.specs.Taken.{Missing}
use Rattle.fc_core.specs.declared.event.Event.{Event}
use Rattle.fc_core.specs.declared.event.Event.TheVariants.{Note, Take}
use Rattle.fc_core.specs.declared.stage.Task.{Task}
use Rattle.fc_core.specs.History.{Seen}
use Rattle.fc_core.specs.Transitions.{Effect, Inputs, call_at, handed, effect_of, notification, transition, sends}
use Rattle.fc_core.specs.Stage.{Stage, ToTell}
use Rattle.fc_core.specs.Stages.{drew, first_or_turn, needs_id, new_task}
use Rattle.fc_core.specs.Steps.{TakesTurn}
use Rattle.fc_core.specs.TurnStage as turns
use Rattle.fc_core.proofs.Places.{place_below}
use Rattle.fc_server.specs.Agreement.{ShardsAgree}
use Rattle.fc_server.specs.Serving.{IsOutToTake}
use Rattle.fc_server.specs.States.{ServerState, inputs_in, shards_moved}
use Rattle.fc_server.specs.Steps.{shard_asked, shard_turn}
use Rattle.fc_server.proofs.Places.{now_here, watch_here}

-- ---- the new job

-- the job has this slot and this lease, and an entry of the list has the lease, active.
abbrev IsOf : ℕ → Turn → ObserverList → Job → Type 0
IsOf n turn w job = (job.origin.slot ≡ n) × (job.turn ≡ Some turn.number) × (is_some (entry_out turn w) ≡ true)

made_by : (n number : ℕ) (e : Option Entry) (job : Job) → option_map (turn_job n number) (option_map interest_of e) ≡ Some job → (job.origin.slot ≡ n) × (job.turn ≡ Some number) × (is_some e ≡ true)
made_by n number None job is = absurd (cc is)
made_by n number (Some o) job is =
    let same : turn_job n number (interest_of o) ≡ job = cc is in
    (ap (λ (j : Job). j.origin.slot) (sym same), ap (λ (j : Job). j.turn) (sym same), refl)

given_by : (n : ℕ) (b : Bool) (t w : ObserverList) (job : Job) → job_of_turn n (next_turn_by b t) w ≡ Some job → IsOf n (record { slot = t.slot; number = t.turns }) w job
given_by n false t w job is = absurd (cc is)
given_by n true t w job is = made_by n t.turns (entry_out (record { slot = t.slot; number = t.turns }) w) job is

-- the lease that is granted at a place of a shard.
abbrev turn_at_place : Shard → ℕ → Turn
turn_at_place shard k = record { slot = (watch_at shard k).slot; number = (watch_at shard k).turns }

abbrev asked_there : Shard → ℕ → ObserverList
asked_there shard k = observers_after (NextDue shard.now (noticed_at shard k)) (watch_at shard k)

placed : (shard : Shard) (p : Option ℕ) (job : Job) → due_job p shard ≡ Some job → (k : ℕ) × (p ≡ Some k) × IsOf (8 * k + shard.index) (turn_at_place shard k) (asked_there shard k) job
placed shard None job is = absurd (cc is)
placed shard (Some k) job is =
    let t = list_at_time shard.now (watch_at shard k) in
    (k, refl, given_by (8 * k + shard.index) (gives_turn (noticed_at shard k) t) t (asked_there shard k) job is)

-- ---- the lease is active at the shard

module _ (s : Seen) (i now : ℕ) (low : i < 8) (old new : List Shard) (a : ShardsAgree s old) (shards : new ≡ set old i (shard_asked now (shard_at old i)))
    (job : Job) (comes : Some job ≡ shard_turn now (shard_at old i)) where
  abbrev asked : Shard
  asked = shard_handed (shard_at old i) now

  given : (k : ℕ) × (due_place asked ≡ Some k) × IsOf (8 * k + asked.index) (turn_at_place asked k) (asked_there asked k) job
  given = placed asked (due_place asked) job (sym comes)

  abbrev place : ℕ
  place = given.0

  slot_of_job : job.origin.slot ≡ 8 * place + i
  slot_of_job = let own = given.2.0 in let index = a.are.index i low in omega (arith, own, index)

  owner : job.origin.slot % 8 ≡ i
  owner = omega (arith, slot_of_job, low)

  here : job.origin.slot / 8 ≡ place
  here = omega (arith, slot_of_job, low)

  asked_here : shard_at new i ≡ after_due (Some place) asked
  asked_here =
      let count = a.are.count in
      ap (λ (l : List Shard). shard_at l i) shards ∙ get_or-set_same old i (shard_asked now (shard_at old i)) no_shard (omega (arith, count, low)) ∙ ap (λ (p : Option ℕ). after_due p asked) given.1

  watched : watch_at (after_due (Some place) asked) place ≡ asked_there asked place
  watched =
      let eight = a.are.watched i low in
      let below = place_below (has_due asked) 8 0 place given.1 in
      get_or-set_same asked.watches place (asked_there asked place) (no_observers 0 0) (omega (arith, eight, below))

  -- the lease that the shard granted is that of the job.
  same_turn : turn_at_place asked place ≡ turn_of job (watch_at asked place).turns
  same_turn =
      let below = place_below (has_due asked) 8 0 place given.1 in
      let own = ap (λ (w : ObserverList). w.slot) (a.watch i place low (omega (arith, below))) ∙ slot_is (8 * place + i) s.policy.confirm_after (s.calls (8 * place + i)) ∙ sym slot_of_job in
      ap (λ (n : ℕ). let t : Turn = record { slot = n; number = (watch_at asked place).turns } in t) own

  -- the time of the request was passed to the observers already, so they are unchanged by it.
  rests : list_at_time asked.now (asked_there asked place) ≡ asked_there asked place
  rests =
      let w = asked_there asked place in
      let is = time_is asked.now (noticed_at asked place) (watch_at asked place) in
      ap (λ (m : ℕ). record w { time = m }) (omega (arith, is))

  out_there : is_out_at (turn_of job (watch_at asked place).turns) (after_due (Some place) asked).now (watch_at (after_due (Some place) asked) place) ≡ true
  out_there =
      ap (λ (w : ObserverList). is_out_at (turn_of job (watch_at asked place).turns) asked.now w) watched
      ∙ ap (λ (w : ObserverList). is_some (entry_out (turn_of job (watch_at asked place).turns) w)) rests
      ∙ ap (λ (t : Turn). is_some (entry_out t (asked_there asked place))) (sym same_turn)
      ∙ given.2.2

  -- a task that begins with the job needs the snapshot of its lease, which is active.
  pub given_out : (front : ServerState) → front.shards ≡ new → IsOutToTake now front (new_task job)
  given_out server is =
      subst (λ (l : List Shard). IsOutToTake now (record server { shards = l }) (new_task job)) (sym is) (record {
        turn = turn_of job (watch_at asked place).turns;
        stage = ap (λ (t : Option ℕ). first_or_turn t job) given.2.1;
        handed = subst (λ (x : Shard). now ≤ x.now) (sym (ap (shard_at new) owner ∙ asked_here)) (omega arith);
        out = (λ j. let x = shard_at new (owner j) in is_out_at (turn_of job (watch_at asked place).turns) x.now (watch_at x (here j)))
            ∙ ap (λ (x : Shard). is_out_at (turn_of job (watch_at asked place).turns) x.now (watch_at x place)) asked_here
            ∙ out_there;
      })

  -- the task finds the state that its slot had before the request.
  pub found_before : slot_in_shards new job.origin.slot ≡ slot_in (shard_at old i) job.origin.slot
  found_before =
      ap (λ (m : ℕ). slot_in (shard_at new m) job.origin.slot) owner
      ∙ ap (λ (x : Shard). slot_in x job.origin.slot) asked_here

-- ---- if the lease's slot is empty

some_entry : (f : Interest → Emission) (e : Option Entry) → is_missing_by e ≡ true → is_some (option_map f (if is_missing_by e then option_map interest_of e else None)) ≡ true
some_entry f None missing = absurd (cc missing)
some_entry f (Some o) missing = ap (λ (b : Bool). is_some (option_map f (if b then Some (interest_of o) else None))) missing

module _ (k now random : ℕ) (memory : Bool) (readings : List ℕ) (server : ServerState) (task : Task) (o : IsOutToTake now server task) (are : AreShards server.shards)
    (low : task.job.origin.slot < 64) (none : (slot_in_shards server.shards task.job.origin.slot).present ≡ None) where
  abbrev n : ℕ
  n = task.job.origin.slot

  abbrev at : ℕ
  at = (shard_at server.shards (n % 8)).now

  abbrev w : ObserverList
  w = watch_at (shard_at server.shards (n % 8)) (n / 8)

  abbrev inputs : Inputs
  inputs = inputs_in server task

  abbrev take : Event
  take = Take k memory readings

  -- the snapshot of the lease finds the slot empty.
  taken : transition take inputs ≡ effect_of take inputs (Some (TakesTurn o.turn Missing))
  taken =
      ap (λ (st : Stage). effect_of take inputs (call_at take inputs st)) o.stage
      ∙ (λ j. effect_of take inputs (Some (TakesTurn o.turn (turn_snapshot (o.out j) (readings_if memory readings) task.job inputs.slot.serial (none j)))))

  pub stage_taken : (transition take inputs).stage ≡ ToTell o.turn (turns.ToDraw None)
  stage_taken = ap (λ (m : Effect). m.stage) taken

  calls_taken : (transition take inputs).calls ≡ MarkMissing o.turn ∷ Advance at ∷ []
  calls_taken = ap (λ (m : Effect). m.calls) taken ∙ (λ j. mark_missing_calls (o.out j) o.turn (none j) ++ Advance at ∷ [])

  -- the lease is marked as missing after its snapshot, so it notifies if it drew a message ID.
  missed : is_missing o.turn (turn_missed o.turn (list_at_time at w)) ≡ true
  missed = missing_after o.turn (list_at_time at w) o.out

  noted : (id later : ℕ) → later ≡ at → is_some (note_at o.turn id later None (turn_missed o.turn (list_at_time at w))) ≡ true
  noted id later same =
      let v = turn_missed o.turn (list_at_time at w) in
      let rests : list_at_time at v ≡ v = ap (λ (m : ℕ). record v { time = m }) (omega arith) in
      ap (λ (m : ℕ). is_some (note_at o.turn id m None v)) same
      ∙ ap (λ (x : ObserverList). is_some (note_in o.turn id None x)) rests
      ∙ some_entry (note_to id (must_confirm_turn o.turn v) None) (entry_out o.turn v) missed

  pub is_told : (later : ServerState) (next : Task) (id : ℕ) → later.shards ≡ shards_moved (transition take inputs) n server.shards → next.job ≡ task.job → next.stage ≡ ToTell o.turn (turns.ToNote None id)
      → is_some (sends (Note k now random) (inputs_in later next)) ≡ true
  is_told later next id shards job stage =
      let moved = shards_moved (transition take inputs) n server.shards in
      let watched = watch_here server.shards are n low (transition take inputs) ∙ ap (λ (cs : List ObserverCall). after_calls cs w) calls_taken in
      let time = now_here server.shards are n low (transition take inputs) ∙ ap (λ (m : Effect). handed m.hands at) taken in
      let past = o.handed in
      (λ j. is_some (notification now (inputs_in (record later { shards = shards j }) (record { job = job j; stage = stage j })) (stage j)))
      ∙ ap (λ (x : ObserverList). is_some (note_at o.turn id (max (shard_at moved (n % 8)).now now) None x)) watched
      ∙ noted id (max (shard_at moved (n % 8)).now now) (omega (arith, time, past))

  -- if a lease needs no message ID after its draw, it has drawn one.
  pub has_drawn : (free : Option ℕ) (st : Stage) → st ≡ ToTell o.turn (turns.ToDraw None) → needs_id (drew free st) ≡ false → (id : ℕ) × (drew free st ≡ ToTell o.turn (turns.ToNote None id))
  has_drawn None st is has = let needs : needs_id (drew None st) ≡ true = ap (λ (x : Stage). needs_id (drew None x)) is in absurd (cc (needs, has))
  has_drawn (Some id) st is has = (id, ap (drew (Some id)) is)

-- an option that isn't `None` has a value.
pub is_there : {A : Type 0} (o : Option A) → (o ≡ None → ⊥) → is_some o ≡ true
is_there None some = absurd (some refl)
is_there (Some x) some = refl
