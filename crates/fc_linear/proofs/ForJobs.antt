-- Calls of a shard, or of the head words, for a job.
use Rattle.std.proofs.Common.{◌≡◌, ◌⊎◌, ℕ, ◌<◌, ◌%◌, ◌/◌, Bool, true, false, List, [], ◌∷◌, ◌++◌, length, set, Option, Some, None, refl, sym, ap, ◌∙◌, subst, ⊎_elim, arith}
use Rattle.std.specs.Prelude.{◌==◌}
use Rattle.std.proofs.lemmas.Bool.Decides.{nat_tests}
use Rattle.arrayvec.specs.ArrayVec.{ArrayVec}
use Rattle.fc_observe.specs.declared.entry.Turn.{Turn}
use Rattle.fc_ticket.specs.declared.job.Job.{Job}
use Rattle.fc_registry.specs.Calls.{readings_if, snapshot, snapshot_by, snapshot_calls_by}
use Rattle.fc_registry.specs.Shards.{shard_at}
use Rattle.fc_ticket.specs.Tickets.{Present}
use Rattle.fc_registry.specs.Slots.{Shard, slot_in}
use Rattle.fc_ticket.specs.Taken.{Taken}
use Rattle.fc_registry.specs.Watches.{watch_at, with_calls}
use Rattle.fc_core.specs.declared.stage.Task.{Task}
use Rattle.fc_core.specs.declared.event.Event.TheVariants.{Peek, Raise, Take}
use Rattle.fc_front.specs.Heads.{word_at, word_raised}
use Rattle.fc_core.specs.History.{History, task_at}
use Rattle.fc_core.specs.Transitions.{call_if, effect_of, transition, task_moved, words_after}
use Rattle.fc_core.specs.Sound.{AllSafe}
use Rattle.fc_core.specs.Stage.{Stage}
use Rattle.fc_core.specs.Stage.{ToMatch, ToTake, ToList, ToRaise, ToAnswer, ToTell}
use Rattle.fc_core.specs.TurnStage.{TurnStage}
use Rattle.fc_core.specs.TurnStage as turns
use Rattle.fc_core.specs.Stages.{had_memory, listed, matched, took, turn_to_take, turn_took}
use Rattle.fc_core.specs.Steps.{Lists, Matches}
use Rattle.fc_core.proofs.Rejections.{same_slot}
use Rattle.fc_core.proofs.TurnSnapshots.{turn_calls_at, turn_takes}
use Rattle.fc_calls.specs.Logged.{LooksAt, RaisesWord, TakesForJob}
use Rattle.fc_calls.specs.Doings.{TakesTo}
use Rattle.fc_server.specs.Serving.{Serves}
use Rattle.fc_server.specs.States.{AtWork, Does, ServerState, common_in, inputs_in}
use Rattle.fc_server.proofs.Others.{does_quietly, peek_idle, unwritten}
use Rattle.fc_linear.specs.Operations.{Operation, Logged, LogEntry, WordsDo}
use Rattle.fc_linear.specs.Parts.{LeadInOrder, RightByParts, of_words}
use Rattle.fc_linear.proofs.Afters.{After, eight}
use Rattle.fc_linear.proofs.Firsts.{entry_for, named, on_shard}
use Rattle.fc_linear.proofs.OnJob.{does_there, fits_there, job_served, may_work, inputs_with}

same_number : (n : ℕ) → (n == n) ≡ true
same_number n = grind (arith, nat_tests)

pub below_eight : (n : ℕ) → n % 8 < 8
below_eight n = omega arith

-- ---- the head words

module _ (s : ServerState) (task : Task) (k : ℕ) where
  abbrev looked_at : ℕ → Stage → Task
  looked_at n x = task_moved task (transition (Peek k n) (inputs_with s task task.job.origin.slot x))

  matches_there : (slot word : ℕ) (st : Stage) → slot ≡ task.job.origin.slot → task.stage ≡ ToMatch → word ≡ word_at s.words slot → st ≡ matched word task.job.etags.items
      → record { job = task.job; stage = st } ≡ looked_at slot task.stage
  matches_there slot word st at is found to =
      let n = task.job.origin.slot in
      let sc = inputs_with s task n ToMatch in
      ap (λ (x : Stage). record { job = task.job; stage = x }) (to ∙ ap (λ (z : ℕ). matched z task.job.etags.items) (found ∙ ap (λ (i : ℕ). word_at s.words i) at))
      ∙ (ap (λ (b : Bool). task_moved task (effect_of (Peek k n) sc (call_if b (Matches task.job.etags.items (word_at s.words n))))) (sym (same_number n))
      ∙ (ap (λ (i : ℕ). looked_at i ToMatch) (sym at) ∙ ap (λ (x : Stage). looked_at slot x) (sym is)))

  lists_there : (seen : ArrayVec ℕ) (slot word : ℕ) (st : Stage) → slot ≡ length seen.items → task.stage ≡ ToList seen → word ≡ word_at s.words slot → st ≡ listed (seen.items ++ word ∷ [])
      → record { job = task.job; stage = st } ≡ looked_at slot task.stage
  lists_there seen slot word st at is found to =
      let n = length seen.items in
      let sc = inputs_with s task task.job.origin.slot (ToList seen) in
      ap (λ (x : Stage). record { job = task.job; stage = x }) (to ∙ ap (λ (z : ℕ). listed (seen.items ++ z ∷ [])) (found ∙ ap (λ (i : ℕ). word_at s.words i) at))
      ∙ (ap (λ (b : Bool). task_moved task (effect_of (Peek k n) sc (call_if b (Lists seen (word_at s.words n))))) (sym (same_number n))
      ∙ (ap (λ (i : ℕ). looked_at i (ToList seen)) (sym at) ∙ ap (λ (x : Stage). looked_at slot x) (sym is)))

module _ (k : ℕ) (es : List LogEntry) (h : History) (end s : ServerState) (tasks : List Task) (v : Serves h s tasks) where
  pub after_look : (slot word : ℕ) → RightByParts end s tasks (entry_for k (Logged (LooksAt slot word)) ∷ es) → After k (Logged (LooksAt slot word)) es h end
  after_look slot word st =
      let r = st.words in
      let task = task_at tasks k in
      let n = named k (Logged (LooksAt slot word)) end s tasks es st refl refl in
      let later : Task = record { job = task.job; stage = n.stage } in
      let is : later ≡ task_moved task (transition (Peek k slot) (inputs_in s task)) = ⊎_elim
      (λ m. matches_there s task k slot word n.stage m.0 m.1 r.1.0 m.2)
      (λ m. lists_there s task k m.0 slot word n.stage m.1 m.2 r.1.0 m.3)
      n.moves in
      record {
        server = s;
        tasks = set tasks k later;
        serves = job_served h (Peek k slot) k (refl, refl, refl) s s tasks later None (does_quietly (Peek k slot) s s task later (transition (Peek k slot) (inputs_in s task)).stage (peek_idle k slot (inputs_in s task)) refl is refl) v;
        rest = record { front = st.front; shards = st.shards; words = subst (λ (ws : List ℕ). LeadInOrder WordsDo (of_words es) ws end.words) r.1.1 r.2; jobs = n.jobs; to_come = n.to_come; numbered = n.numbered; of_server = st.of_server.1 };
      }

  pub after_raise : (slot word : ℕ) → RightByParts end s tasks (entry_for k (Logged (RaisesWord slot word)) ∷ es) → After k (Logged (RaisesWord slot word)) es h end
  after_raise slot word st =
      let r = st.words in
      let t : ServerState = record s { words = r.0 } in
      let task = task_at tasks k in
      let n = named k (Logged (RaisesWord slot word)) end s tasks es st refl refl in
      let later : Task = record { job = task.job; stage = n.stage } in
      let content = n.moves.1.0 in
      record {
        server = t;
        tasks = set tasks k later;
        serves = job_served h (Raise k) k (refl, refl, refl) s t tasks later None
            (does_there (Raise k) s task task.job.origin.slot (ToRaise word content) t later None refl n.moves.1.1 (record {
              front = refl;
              task_is = ap (λ (x : Stage). record { job = task.job; stage = x }) n.moves.1.2;
              shards = sym (unwritten (ToAnswer content) task.job.origin.slot s.shards);
              words = r.1 ∙ ap (λ (i : ℕ). word_raised i word s.words) n.moves.0;
              safe = tt;
              emits = refl;
            })) v;
        rest = record { front = st.front; shards = st.shards; words = r.2; jobs = n.jobs; to_come = n.to_come; numbered = n.numbered; of_server = st.of_server.1 };
      }

-- ---- a snapshot

had : (memory : Bool) (readings : List ℕ) (job : Job) (serial : ℕ) (p : Option Present)
    → let x = snapshot (readings_if memory readings) job serial p in x ≡ snapshot (readings_if (had_memory x) readings) job serial p
had memory readings job serial None = refl
had true readings job serial (Some p) = refl
had false readings job serial (Some p) = refl

module _ (s : ServerState) (task : Task) (k : ℕ) (w : AtWork s task) (readings : List ℕ) (taken : Taken) (st : Stage) where
  abbrev here : ℕ
  here = task.job.origin.slot

  abbrev shard_here : Shard
  shard_here = shard_at s.shards (here % 8)

  abbrev after_here : Shard → ServerState
  after_here x = record s { shards = set s.shards (here % 8) x }

  abbrev later_here : Task
  later_here = record { job = task.job; stage = st }

  request_takes : (count : ℕ) → task.stage ≡ ToTake count → st ≡ took count taken → (after : Shard) → TakesTo task.job readings shard_here taken after
      → Does (Take k (had_memory taken) readings) s task (after_here after) later_here None
  request_takes count is to after d =
      let slot = slot_in shard_here here in
      let watch = watch_at shard_here (here / 8) in
      let fits = fits_there s task (ToTake count) w is in
      let found : taken ≡ snapshot (readings_if d.0.0 readings) task.job slot.serial slot.present = d.0.1 ∙ ap (λ (o : Option ℕ). snapshot_by o (readings_if d.0.0 readings) task.job slot shard_here.now watch) fits.1 in
      let settled : taken ≡ snapshot (readings_if (had_memory taken) readings) task.job slot.serial slot.present =
      found ∙ (had d.0.0 readings task.job slot.serial slot.present ∙ ap (λ (y : Taken). snapshot (readings_if (had_memory y) readings) task.job slot.serial slot.present) (sym found)) in
      does_there (Take k (had_memory taken) readings) s task here (ToTake count) (after_here after) later_here None refl is (record {
        front = refl;
        task_is = ap (λ (x : Stage). record { job = task.job; stage = x }) (to ∙ ap (λ (y : Taken). took count y) settled);
        shards = ap (λ (x : Shard). set s.shards (here % 8) x)
            (d.1 ∙ (ap (λ (o : Option ℕ). with_calls (snapshot_calls_by o task.job slot shard_here.now watch) here shard_here) fits.1 ∙ ap (λ (x : Shard). with_calls [] here x) (sym (same_slot shard_here here))));
        words = refl;
        safe = tt;
        emits = refl;
      })

  turn_is_taken : (turn : Turn) → task.stage ≡ ToTell turn turns.ToTake → st ≡ turn_took turn taken → (after : Shard) → TakesTo task.job readings shard_here taken after
      → Does (Take k (had_memory taken) readings) s task (after_here after) later_here None
  turn_is_taken turn is to after d =
      let e = Take k (had_memory taken) readings in
      let common = common_in s.front s.words in
      let to_take = ap (λ (x : Stage). turn_to_take x) is in
      record {
        front = refl;
        task_is = ap (λ (x : Stage). record { job = task.job; stage = x }) to ∙ turn_takes shard_here task turn to_take w.stage readings taken d.0 k common;
        shards = ap (λ (x : Shard). set s.shards (here % 8) x) (turn_calls_at shard_here task turn to_take w.stage after d.1 k (had_memory taken) readings common);
        words = ap (λ (x : Stage). words_after (transition e (inputs_with s task here x)) task s.words) (sym is);
        safe = subst (λ (x : Stage). AllSafe (transition e (inputs_with s task here x)).changes) (sym is) tt;
        emits = refl;
      }

  pub takes_on : (j : Job) → j ≡ task.job → ((count : ℕ) × (task.stage ≡ ToTake count) × (st ≡ took count taken)) ⊎ ((turn : Turn) × (task.stage ≡ ToTell turn turns.ToTake) × (st ≡ turn_took turn taken))
      → (after : Shard) → TakesTo j readings (shard_at s.shards (j.origin.slot % 8)) taken after
      → Does (Take k (had_memory taken) readings) s task (record s { shards = set s.shards (j.origin.slot % 8) after }) later_here None
  takes_on j same m after =
      subst (λ (x : Job). TakesTo x readings (shard_at s.shards (x.origin.slot % 8)) taken after → Does (Take k (had_memory taken) readings) s task (record s { shards = set s.shards (x.origin.slot % 8) after }) later_here None) (sym same)
      (⊎_elim (λ a. request_takes a.0 a.1 a.2 after) (λ b. turn_is_taken b.0 b.1 b.2 after) m)

module _ (k : ℕ) (es : List LogEntry) (h : History) (end s : ServerState) (tasks : List Task) (v : Serves h s tasks) where
  pub after_take : (j : Job) (readings : List ℕ) (taken : Taken) → RightByParts end s tasks (entry_for k (Logged (TakesForJob j readings taken)) ∷ es) → After k (Logged (TakesForJob j readings taken)) es h end
  after_take j readings taken st =
      let op : Operation = Logged (TakesForJob j readings taken) in
      let i = j.origin.slot % 8 in
      let o = on_shard k op end s tasks es st i refl (below_eight j.origin.slot) (eight h s tasks v) in
      let t : ServerState = record s { shards = set s.shards i o.after } in
      let task = task_at tasks k in
      let n = named k op end s tasks es st refl refl in
      let later : Task = record { job = task.job; stage = n.stage } in
      record {
        server = t;
        tasks = set tasks k later;
        serves = job_served h (Take k (had_memory taken) readings) k (refl, refl, refl) s t tasks later None (takes_on s task k (may_work h s tasks k v) readings taken n.stage j n.moves.0 n.moves.1 o.after o.does) v;
        rest = record { front = st.front; shards = o.shards; words = st.words; jobs = n.jobs; to_come = n.to_come; numbered = n.numbered; of_server = st.of_server.1 };
      }
