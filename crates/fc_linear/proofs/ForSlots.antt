-- Calls of a shard that change a slot or end a lease, and images that aren't installed.
use Rattle.std.proofs.Common.{◌≡◌, ℕ, ◌%◌, ◌/◌, max, Bool, true, false, List, ◌∷◌, set, Option, Some, None, refl, sym, ap, ◌∙◌, subst, ⊎_elim}
use Rattle.std.specs.Prelude.{nat_lt}
use Rattle.std.proofs.lemmas.List.{set-get_or}
use Rattle.fc_store.specs.declared.store.ProgramUpdate.{ProgramUpdate}
use Rattle.fc_store.specs.declared.store.ProgramUpdate.TheVariants as saves
use Rattle.fc_store.specs.declared.store.SlotUpdate.{SlotUpdate}
use Rattle.fc_kinds.specs.Meaning.{Program}
use Rattle.fc_machine.specs.Ran.{Ran}
use Rattle.fc_verify.specs.Accepted.{Accepts, Judgement}
use Rattle.fc_verify.specs.declared.refusal.Refusal.TheVariants.{Broken}
use Rattle.fc_verify.specs.Judged.{judged}
use Rattle.fc_observe.specs.declared.entry.Turn.{Turn}
use Rattle.fc_observe.specs.Observers.{ObserverList, list_at_time}
use Rattle.fc_registry.specs.declared.commit.CommitOutcome.{CommitOutcome}
use Rattle.fc_registry.specs.declared.commit.CommitOutcome.TheVariants.{Writes, Keeps, Overtakes, Ends}
use Rattle.fc_registry.specs.declared.commit.Committed.{Committed}
use Rattle.fc_ticket.specs.declared.job.Job.{Job}
use Rattle.fc_ticket.specs.declared.job.InitialVars.{InitialVars}
use Rattle.fc_ticket.specs.declared.note.Noted.{Noted}
use Rattle.fc_ticket.specs.declared.note.Noted.TheVariants.{Send, Stale, Stranger}
use Rattle.fc_ticket.specs.declared.note.Notification.{Notification}
use Rattle.fc_ticket.specs.declared.note.Notification.TheVariants as tells
use Rattle.fc_ticket.specs.declared.receipt.Receipt.{Receipt as Facts}
use Rattle.fc_registry.specs.declared.shard.Made.{Made}
use Rattle.fc_registry.specs.declared.shard.Removal.{Removal}
use Rattle.fc_registry.specs.Calls.{HasGiven, clear_by, commits, outcome, put_by}
use Rattle.fc_ticket.specs.Runs.{receipt_of, run_of, initial_vars_of}
use Rattle.fc_registry.specs.Changes.{Change, after_changes}
use Rattle.fc_ticket.specs.Notes.{IsNotedIn, IsOfTurn, note_at, note_calls, note_in, sent_of, ticket_told}
use Rattle.fc_registry.specs.Shards.{no_shard, shard_at}
use Rattle.fc_ticket.specs.Tickets.{Present, Ticket}
use Rattle.fc_registry.specs.Slots.{Shard, Slot, last_serial, slot_in, with_slot}
use Rattle.fc_registry.specs.Watches.{after_given_up, at_time, watch_at, with_calls}
use Rattle.fc_core.specs.declared.stage.Task.{Task}
use Rattle.fc_core.specs.declared.event.Event.TheVariants.{Commit, GiveUp, Install, Note, Receipt, Refuse, Remove}
use Rattle.fc_front.specs.Contents.{Content, Unavailable}
use Rattle.fc_front.specs.Ends.{refused}
use Rattle.fc_core.specs.Fits.{FitsTurn, IsSafe, IsTicketOf}
use Rattle.fc_core.specs.History.{History, task_at}
use Rattle.fc_core.specs.Transitions.{Effect, Inputs, call_if, install_call, install_if, effect_of, goes_to, transition, task_moved, words_after}
use Rattle.fc_core.specs.Sound.{AllSafe}
use Rattle.fc_core.specs.Stage.{Stage}
use Rattle.fc_core.specs.Stage.{ToCommit, ToInstall, ToRemove, ToDescribe, ToAnswer, ToTell, Gone}
use Rattle.fc_core.specs.TurnStage.{TurnStage}
use Rattle.fc_core.specs.TurnStage as turns
use Rattle.fc_core.specs.Stages.{after_commit, image_of, is_refusable, made, removed, receipt_content}
use Rattle.fc_core.specs.Steps.{Call, Commits, Installs, RefusesChange, Rejects, Removes, changes_of_call}
use Rattle.fc_core.proofs.Commits.{IsTransition, commit_transition, left_by, shard_of_transition}
use Rattle.fc_core.proofs.Rejections.{rejected_call, same_slot}
use Rattle.fc_calls.specs.Logged.{CommitsRun, GivesUpTurn, InstallsProgram, NotesTurn, RemovesProgram, TellsReceipt}
use Rattle.fc_calls.specs.Doings.{CommitsAt, DescribesTo, GivesUpAt, InstallsTo, NotesAt, RemovesFrom}
use Rattle.fc_calls.specs.Doings.{SaysFound}
use Rattle.fc_server.specs.Serving.{Serves, next}
use Rattle.fc_server.specs.States.{AtWork, Does, ServerState, inputs_in, shards_moved}
use Rattle.fc_server.proofs.Others.{does_quietly}
use Rattle.fc_linear.specs.Operations.{FailsToSave, LogEntry, Logged, MakesUpdate, Operation, ReceiptMoves, RefusesInstall, RejectsImage, ShardDoes, unsaved_event}
use Rattle.fc_linear.specs.Parts.{LeadInOrder, RightByParts, of_shard}
use Rattle.fc_linear.proofs.Afters.{After, eight}
use Rattle.fc_linear.proofs.Firsts.{entry_for, named, on_shard}
use Rattle.fc_linear.proofs.ForJobs.{below_eight}
use Rattle.fc_linear.proofs.OnJob.{does_there, fits_there, job_served, may_work, inputs_with}

-- ---- a commit

commit_safe : (o : CommitOutcome) (count : ℕ) (t : Ticket) (serial : ℕ) (watch : ObserverList) → AllSafe (changes_of_call (Commits count t (commits o t serial watch).answer))
commit_safe Writes count t serial watch = tt
commit_safe Keeps count t serial watch = tt
commit_safe Overtakes count t serial watch = tt
commit_safe Ends count t serial watch = tt

module _ (s : ServerState) (task : Task) (k : ℕ) (w : AtWork s task) (now : ℕ) (ran : Ran) (t : Ticket) (committed : Committed) (st : Stage) where
  pub commits_on : (count : ℕ) → ran ≡ run_of t → task.stage ≡ ToCommit count t → st ≡ after_commit count t committed → (after : Shard) → CommitsAt now ran t (shard_at s.shards (t.origin.slot % 8)) committed after
      → Does (Commit k now) s task (record s { shards = set s.shards (t.origin.slot % 8) after }) (record { job = task.job; stage = st }) None
  commits_on count ran_is is to after d =
      let i = t.origin.slot in
      let x = shard_at s.shards (i % 8) in
      let slot = slot_in x i in
      let watch = watch_at x (i / 8) in
      let fits = fits_there s task (ToCommit count t) w is in
      let at : i ≡ task.job.origin.slot = ap (λ o. o.slot) fits.1.origin in
      let given : HasGiven slot t = subst (λ (m : ℕ). HasGiven (slot_in (shard_at s.shards (m % 8)) m) t) (sym at) fits.1.given in
      let r : IsTransition t slot watch committed d.after = commit_transition ran t slot watch committed d.after (ap (λ (y : Ran). y.program) ran_is) (ap (λ (y : Ran). y.input.request) ran_is) (ap (λ (y : Ran). y.input.vars) ran_is) (ap (λ (y : Ran). y.input.readings) ran_is) given (fits.1.turn ∙ fits.2) d.commit in
      does_there (Commit k now) s task i (ToCommit count t) (record s { shards = set s.shards (i % 8) after }) (record { job = task.job; stage = st }) None at is (record {
        front = refl;
        task_is = ap (λ (y : Stage). record { job = task.job; stage = y }) (to ∙ ap (λ (y : Committed). after_commit count t y) r.answer);
        shards = ap (λ (y : Shard). set s.shards (i % 8) y) (d.shard ∙ ((λ j. left_by t now x (r.answer j) (r.after_is j)) ∙ shard_of_transition (outcome t slot) count t now x));
        words = refl;
        safe = commit_safe (outcome t slot) count t slot.serial watch;
        emits = refl;
      })

-- ---- an install

told_put : (b : Bool) (slot : Slot) (p : Program) (v : InitialVars) → changes_of_call (Installs p v (put_by b slot p v).answer) ≡ (put_by b slot p v).changes
told_put true slot p v = refl
told_put false slot p v = refl

put_safe : (b : Bool) (slot : Slot) (p : Program) (v : InitialVars) → IsSafe p → AllSafe (changes_of_call (Installs p v (put_by b slot p v).answer))
put_safe true slot p v safe = (safe, tt)
put_safe false slot p v safe = tt

module _ (s : ServerState) (task : Task) (k : ℕ) (p : Program) (answer : Made) (st : Stage) where
  installs_here : judged (image_of task.job.ask) ≡ Accepts p → IsSafe p → task.stage ≡ ToInstall → st ≡ made (receipt_of p 0) answer → (after : Shard) → InstallsTo task.job p (shard_at s.shards (task.job.origin.slot % 8)) answer after
      → Does (Install k true) s task (record s { shards = set s.shards (task.job.origin.slot % 8) after }) (record { job = task.job; stage = st }) None
  installs_here judges safe is to after d =
      let i = task.job.origin.slot in
      let x = shard_at s.shards (i % 8) in
      let slot = slot_in x i in
      let sc = inputs_with s task i ToInstall in
      let t : ServerState = record s { shards = set s.shards (i % 8) after } in
      let later : Task = record { job = task.job; stage = st } in
      let v = initial_vars_of task.job.ask in
      let m : Judgement → Effect = λ j. effect_of (Install k true) sc (Some (install_if true v j slot)) in
      does_there (Install k true) s task i ToInstall t later None refl is (record {
        front = refl;
        task_is = ap (λ (y : Stage). record { job = task.job; stage = y }) (to ∙ ap (λ (y : Made). made (receipt_of p 0) y) d.0) ∙ ap (λ (j : Judgement). task_moved task (m j)) (sym judges);
        shards = ap (λ (y : Shard). set s.shards (i % 8) y) (d.1 ∙ ap (λ (cs : List Change). with_slot x i (after_changes slot cs)) (sym (told_put (nat_lt slot.serial last_serial) slot p v))) ∙ ap (λ (j : Judgement). shards_moved (m j) i s.shards) (sym judges);
        words = ap (λ (j : Judgement). words_after (m j) task s.words) (sym judges);
        safe = subst (λ (j : Judgement). AllSafe (m j).changes) (sym judges) (put_safe (nat_lt slot.serial last_serial) slot p v safe);
        emits = refl;
      })

  pub installs_on : (j : Job) → j ≡ task.job → judged (image_of task.job.ask) ≡ Accepts p → IsSafe p → task.stage ≡ ToInstall → st ≡ made (receipt_of p 0) answer → (after : Shard) → InstallsTo j p (shard_at s.shards (j.origin.slot % 8)) answer after
      → Does (Install k true) s task (record s { shards = set s.shards (j.origin.slot % 8) after }) (record { job = task.job; stage = st }) None
  installs_on j same judges safe is to after =
      subst (λ (y : Job). InstallsTo y p (shard_at s.shards (y.origin.slot % 8)) answer after → Does (Install k true) s task (record s { shards = set s.shards (y.origin.slot % 8) after }) (record { job = task.job; stage = st }) None) (sym same)
      (installs_here judges safe is to after)

-- ---- a removal

told_cleared : (b : Bool) (serial : ℕ) (p : Option Present) → changes_of_call (Removes (clear_by b serial p).answer) ≡ (clear_by b serial p).changes
told_cleared b serial None = refl
told_cleared true serial (Some p) = refl
told_cleared false serial (Some p) = refl

clear_safe : (b : Bool) (serial : ℕ) (p : Option Present) → AllSafe (changes_of_call (Removes (clear_by b serial p).answer))
clear_safe b serial None = tt
clear_safe true serial (Some p) = tt
clear_safe false serial (Some p) = tt

module _ (s : ServerState) (task : Task) (k : ℕ) (removal : Removal) (st : Stage) where
  removes_here : task.stage ≡ ToRemove → st ≡ removed removal → (after : Shard) → RemovesFrom task.job (shard_at s.shards (task.job.origin.slot % 8)) removal after
      → Does (Remove k) s task (record s { shards = set s.shards (task.job.origin.slot % 8) after }) (record { job = task.job; stage = st }) None
  removes_here is to after d =
      let i = task.job.origin.slot in
      let x = shard_at s.shards (i % 8) in
      let slot = slot_in x i in
      let below = nat_lt slot.serial last_serial in
      does_there (Remove k) s task i ToRemove (record s { shards = set s.shards (i % 8) after }) (record { job = task.job; stage = st }) None refl is (record {
        front = refl;
        task_is = ap (λ (y : Stage). record { job = task.job; stage = y }) (to ∙ ap (λ (y : Removal). removed y) d.0);
        shards = ap (λ (y : Shard). set s.shards (i % 8) y) (d.1 ∙ ap (λ (cs : List Change). with_slot x i (after_changes slot cs)) (sym (told_cleared below slot.serial slot.present)));
        words = refl;
        safe = clear_safe below slot.serial slot.present;
        emits = refl;
      })

  pub removes_on : (j : Job) → j ≡ task.job → task.stage ≡ ToRemove → st ≡ removed removal → (after : Shard) → RemovesFrom j (shard_at s.shards (j.origin.slot % 8)) removal after
      → Does (Remove k) s task (record s { shards = set s.shards (j.origin.slot % 8) after }) (record { job = task.job; stage = st }) None
  removes_on j same is to after =
      subst (λ (y : Job). RemovesFrom y (shard_at s.shards (y.origin.slot % 8)) removal after → Does (Remove k) s task (record s { shards = set s.shards (y.origin.slot % 8) after }) (record { job = task.job; stage = st }) None) (sym same)
      (removes_here is to after)

-- ---- a receipt

module _ (s : ServerState) (task : Task) (k : ℕ) (receipt : Option Facts) (st : Stage) where
  describes_here : task.stage ≡ ToDescribe → st ≡ ToAnswer (receipt_content receipt) → (after : Shard) → DescribesTo task.job (shard_at s.shards (task.job.origin.slot % 8)) receipt after
      → Does (Receipt k) s task (record s { shards = set s.shards (task.job.origin.slot % 8) after }) (record { job = task.job; stage = st }) None
  describes_here is to after d =
      let i = task.job.origin.slot in
      let x = shard_at s.shards (i % 8) in
      does_there (Receipt k) s task i ToDescribe (record s { shards = set s.shards (i % 8) after }) (record { job = task.job; stage = st }) None refl is (record {
        front = refl;
        task_is = ap (λ (y : Stage). record { job = task.job; stage = y }) (to ∙ ap (λ (y : Option Facts). ToAnswer (receipt_content y)) d.0);
        shards = ap (λ (y : Shard). set s.shards (i % 8) y) (d.1 ∙ sym (same_slot x i));
        words = refl;
        safe = tt;
        emits = refl;
      })

  -- a receipt leaves a job at its stage if the stage doesn't need the receipt.
  elsewhere : (x : Inputs) (y : Stage) → (y ≡ ToDescribe → ⊥) → transition (Receipt k) (record x { stage = y }) ≡ goes_to y
  elsewhere x ToDescribe apart = absurd (apart refl)
  elsewhere x other apart = refl

  passes_here : (task.stage ≡ ToDescribe → ⊥) → st ≡ task.stage → (after : Shard) → DescribesTo task.job (shard_at s.shards (task.job.origin.slot % 8)) receipt after
      → Does (Receipt k) s task (record s { shards = set s.shards (task.job.origin.slot % 8) after }) (record { job = task.job; stage = st }) None
  passes_here apart to after d =
      let i = task.job.origin.slot in
      let x = shard_at s.shards (i % 8) in
      let idle : transition (Receipt k) (inputs_with s task i task.stage) ≡ goes_to task.stage = elsewhere (inputs_with s task i task.stage) task.stage apart in
      does_there (Receipt k) s task i task.stage (record s { shards = set s.shards (i % 8) after }) (record { job = task.job; stage = st }) None refl refl (record {
        front = refl;
        task_is = ap (λ (y : Stage). record { job = task.job; stage = y }) to ∙ ap (λ (m : Effect). task_moved task m) (sym idle);
        shards = ap (λ (y : Shard). set s.shards (i % 8) y) (d.1 ∙ sym (same_slot x i)) ∙ ap (λ (m : Effect). shards_moved m i s.shards) (sym idle);
        words = ap (λ (m : Effect). words_after m task s.words) (sym idle);
        safe = subst (λ (m : Effect). AllSafe m.changes) (sym idle) tt;
        emits = refl;
      })

  pub describes_on : (j : Job) → j ≡ task.job → ReceiptMoves receipt task.stage st → (after : Shard) → DescribesTo j (shard_at s.shards (j.origin.slot % 8)) receipt after
      → Does (Receipt k) s task (record s { shards = set s.shards (j.origin.slot % 8) after }) (record { job = task.job; stage = st }) None
  describes_on j same m after =
      subst (λ (y : Job). DescribesTo y (shard_at s.shards (y.origin.slot % 8)) receipt after → Does (Receipt k) s task (record s { shards = set s.shards (y.origin.slot % 8) after }) (record { job = task.job; stage = st }) None) (sym same)
      (⊎_elim (λ a. describes_here a.0 a.1 after) (λ b. passes_here b.0 b.1 after) m)

-- ---- the end of a lease

given_up : (now : ℕ) (turn : Turn) (x y : Shard) → GivesUpAt now turn x y → y ≡ after_given_up turn (at_time x now)
unfolding GivesUpAt
given_up now turn x y is = is

module _ (s : ServerState) (task : Task) (k : ℕ) (w : AtWork s task) (turn : Turn) (now : ℕ) (st : Stage) where
  pub gives_up_on : (needs : TurnStage) → task.stage ≡ ToTell turn needs → st ≡ Gone → (after : Shard) → GivesUpAt now turn (shard_at s.shards (turn.slot % 8)) after
      → Does (GiveUp k now) s task (record s { shards = set s.shards (turn.slot % 8) after }) (record { job = task.job; stage = st }) None
  gives_up_on needs is to after d =
      let i = turn.slot in
      let x = shard_at s.shards (i % 8) in
      let fits = fits_there s task (ToTell turn needs) w is in
      does_there (GiveUp k now) s task i (ToTell turn needs) (record s { shards = set s.shards (i % 8) after }) (record { job = task.job; stage = st }) None fits.0 is (record {
        front = refl;
        task_is = ap (λ (y : Stage). record { job = task.job; stage = y }) to;
        shards = ap (λ (y : Shard). set s.shards (i % 8) y) (given_up now turn x after d ∙ ap (λ (y : Shard). after_given_up turn y) (sym (same_slot (at_time x now) i)));
        words = refl;
        safe = tt;
        emits = refl;
      })

-- the ticket of a notification that tells of `found` is `found`: a snapshot's ticket, or none for
-- an empty slot.
told_found : (told : Notification) (found : Option Ticket) → SaysFound told found → ticket_told told ≡ found
told_found (tells.Ran outcome ticket) found is = sym is.0
told_found tells.Gone found is = sym is

-- if a notification tells of the snapshot that a lease's job took, it belongs to the lease.
own_told : (told : Notification) (found : Option Ticket) (turn : Turn) (id : ℕ) (job : Job) (slot : Slot) → SaysFound told found → turn.slot ≡ job.origin.slot → job.turn ≡ Some turn.number → FitsTurn job slot (turns.ToNote found id) → IsOfTurn turn slot.serial told
own_told tells.Gone found turn id job slot is at number fits = tt
own_told (tells.Ran outcome ticket) found turn id job slot is at number fits =
    let own : IsTicketOf job slot ticket.now = subst (λ (o : Option Ticket). FitsTurn job slot (turns.ToNote o id)) is.0 fits in
    record {
      slot = ap (λ o. o.slot) own.origin ∙ sym at;
      number = own.turn ∙ number;
      run = record {
        program = ap (λ (r : Ran). r.program) is.1;
        request = ap (λ (r : Ran). r.input.request) is.1;
        vars = ap (λ (r : Ran). r.input.vars) is.1;
        readings = ap (λ (r : Ran). r.input.readings) is.1;
        found = own.given.serial;
      };
    }

note_sent : (told : Notification) (turn : Turn) (id serial : ℕ) (w : ObserverList) (noted : Noted) → IsOfTurn turn serial told → IsNotedIn told turn id serial w noted → sent_of noted ≡ note_in turn id (ticket_told told) w
note_sent told turn id serial w (Send emission) own is = is.1
note_sent told turn id serial w Stale own is = rw is refl
note_sent told turn id serial w Stranger own is = absurd (is.1 own)

module _ (s : ServerState) (task : Task) (k : ℕ) (w : AtWork s task) (turn : Turn) (id now random : ℕ) (said : Notification) (noted : Noted) (st : Stage) where
  pub notes_on : (found : Option Ticket) → SaysFound said found → task.stage ≡ ToTell turn (turns.ToNote found id) → st ≡ Gone → (after : Shard) → NotesAt turn id now random said (shard_at s.shards (turn.slot % 8)) noted after
      → Does (Note k now random) s task (record s { shards = set s.shards (turn.slot % 8) after }) (record { job = task.job; stage = st }) (sent_of noted)
  notes_on found says is to after d =
      let i = turn.slot in
      let x = shard_at s.shards (i % 8) in
      let at = max x.now now in
      let fits = fits_there s task (ToTell turn (turns.ToNote found id)) w is in
      let fits_turn : FitsTurn task.job (slot_in x i) (turns.ToNote found id) = subst (λ (m : ℕ). FitsTurn task.job (slot_in (shard_at s.shards (m % 8)) m) (turns.ToNote found id)) (sym fits.0) fits.2 in
      let own = own_told said found turn id task.job (slot_in x i) says fits.0 fits.1 fits_turn in
      let is_told = told_found said found says in
      let sent : sent_of noted ≡ note_at turn id at found (watch_at x (i / 8)) =
      note_sent said turn id (slot_in x i).serial (list_at_time at (watch_at x (i / 8))) noted own d.is ∙ ap (λ (f : Option Ticket). note_at turn id at f (watch_at x (i / 8))) is_told in
      does_there (Note k now random) s task i (ToTell turn (turns.ToNote found id)) (record s { shards = set s.shards (i % 8) after }) (record { job = task.job; stage = st }) (sent_of noted) fits.0 is (record {
        front = refl;
        task_is = ap (λ (y : Stage). record { job = task.job; stage = y }) to;
        shards = ap (λ (y : Shard). set s.shards (i % 8) y) (d.after ∙ ((λ j. with_calls (note_calls turn id random at (is_told j) (sent j)) i (at_time x now)) ∙ ap (λ (y : Shard). with_calls (note_calls turn id random at found (note_at turn id at found (watch_at x (i / 8)))) i y) (sym (same_slot (at_time x now) i))));
        words = refl;
        safe = tt;
        emits = sent;
      })

-- ---- the calls

module _ (k : ℕ) (es : List LogEntry) (h : History) (end s : ServerState) (tasks : List Task) (v : Serves h s tasks) where
  pub after_run : (now : ℕ) (ran : Ran) (ticket : Ticket) (committed : Committed) → RightByParts end s tasks (entry_for k (Logged (CommitsRun now ran ticket committed)) ∷ es) → After k (Logged (CommitsRun now ran ticket committed)) es h end
  after_run now ran ticket committed st =
      let op : Operation = Logged (CommitsRun now ran ticket committed) in
      let i = ticket.origin.slot % 8 in
      let o = on_shard k op end s tasks es st i refl (below_eight ticket.origin.slot) (eight h s tasks v) in
      let t : ServerState = record s { shards = set s.shards i o.after } in
      let task = task_at tasks k in
      let n = named k op end s tasks es st refl refl in
      let later : Task = record { job = task.job; stage = n.stage } in
      record {
        server = t;
        tasks = set tasks k later;
        serves = job_served h (Commit k now) k (refl, refl, refl) s t tasks later None (commits_on s task k (may_work h s tasks k v) now ran ticket committed n.stage n.moves.1.0 n.moves.0 n.moves.1.1 n.moves.1.2 o.after o.does) v;
        rest = record { front = st.front; shards = o.shards; words = st.words; jobs = n.jobs; to_come = n.to_come; numbered = n.numbered; of_server = st.of_server.1 };
      }

  pub after_install : (j : Job) (p : Program) (answer : Made) → RightByParts end s tasks (entry_for k (Logged (InstallsProgram j p answer)) ∷ es) → After k (Logged (InstallsProgram j p answer)) es h end
  after_install j p answer st =
      let op : Operation = Logged (InstallsProgram j p answer) in
      let i = j.origin.slot % 8 in
      let o = on_shard k op end s tasks es st i refl (below_eight j.origin.slot) (eight h s tasks v) in
      let t : ServerState = record s { shards = set s.shards i o.after } in
      let task = task_at tasks k in
      let n = named k op end s tasks es st refl refl in
      let later : Task = record { job = task.job; stage = n.stage } in
      record {
        server = t;
        tasks = set tasks k later;
        serves = job_served h (Install k true) k (refl, refl, refl) s t tasks later None (installs_on s task k p answer n.stage j n.moves.0 n.moves.1 n.moves.2 n.moves.3 n.moves.4 o.after o.does) v;
        rest = record { front = st.front; shards = o.shards; words = st.words; jobs = n.jobs; to_come = n.to_come; numbered = n.numbered; of_server = st.of_server.1 };
      }

  pub after_remove : (j : Job) (removal : Removal) → RightByParts end s tasks (entry_for k (Logged (RemovesProgram j removal)) ∷ es) → After k (Logged (RemovesProgram j removal)) es h end
  after_remove j removal st =
      let op : Operation = Logged (RemovesProgram j removal) in
      let i = j.origin.slot % 8 in
      let o = on_shard k op end s tasks es st i refl (below_eight j.origin.slot) (eight h s tasks v) in
      let t : ServerState = record s { shards = set s.shards i o.after } in
      let task = task_at tasks k in
      let n = named k op end s tasks es st refl refl in
      let later : Task = record { job = task.job; stage = n.stage } in
      record {
        server = t;
        tasks = set tasks k later;
        serves = job_served h (Remove k) k (refl, refl, refl) s t tasks later None (removes_on s task k removal n.stage j n.moves.0 n.moves.1 n.moves.2 o.after o.does) v;
        rest = record { front = st.front; shards = o.shards; words = st.words; jobs = n.jobs; to_come = n.to_come; numbered = n.numbered; of_server = st.of_server.1 };
      }

  pub after_receipt : (j : Job) (receipt : Option Facts) → RightByParts end s tasks (entry_for k (Logged (TellsReceipt j receipt)) ∷ es) → After k (Logged (TellsReceipt j receipt)) es h end
  after_receipt j receipt st =
      let op : Operation = Logged (TellsReceipt j receipt) in
      let i = j.origin.slot % 8 in
      let o = on_shard k op end s tasks es st i refl (below_eight j.origin.slot) (eight h s tasks v) in
      let t : ServerState = record s { shards = set s.shards i o.after } in
      let task = task_at tasks k in
      let n = named k op end s tasks es st refl refl in
      let later : Task = record { job = task.job; stage = n.stage } in
      record {
        server = t;
        tasks = set tasks k later;
        serves = job_served h (Receipt k) k (refl, refl, refl) s t tasks later None (describes_on s task k receipt n.stage j n.moves.0 n.moves.1 o.after o.does) v;
        rest = record { front = st.front; shards = o.shards; words = st.words; jobs = n.jobs; to_come = n.to_come; numbered = n.numbered; of_server = st.of_server.1 };
      }

  pub after_give_up : (turn : Turn) (now : ℕ) → RightByParts end s tasks (entry_for k (Logged (GivesUpTurn turn now)) ∷ es) → After k (Logged (GivesUpTurn turn now)) es h end
  after_give_up turn now st =
      let op : Operation = Logged (GivesUpTurn turn now) in
      let i = turn.slot % 8 in
      let o = on_shard k op end s tasks es st i refl (below_eight turn.slot) (eight h s tasks v) in
      let t : ServerState = record s { shards = set s.shards i o.after } in
      let task = task_at tasks k in
      let n = named k op end s tasks es st refl refl in
      let later : Task = record { job = task.job; stage = n.stage } in
      record {
        server = t;
        tasks = set tasks k later;
        serves = job_served h (GiveUp k now) k (refl, refl, refl) s t tasks later None (gives_up_on s task k (may_work h s tasks k v) turn now n.stage n.moves.0 n.moves.1 n.moves.2 o.after o.does) v;
        rest = record { front = st.front; shards = o.shards; words = st.words; jobs = n.jobs; to_come = n.to_come; numbered = n.numbered; of_server = st.of_server.1 };
      }

  pub after_note : (turn : Turn) (id now random : ℕ) (said : Notification) (noted : Noted) → RightByParts end s tasks (entry_for k (Logged (NotesTurn turn id now random said noted)) ∷ es) → After k (Logged (NotesTurn turn id now random said noted)) es h end
  after_note turn id now random said noted st =
      let op : Operation = Logged (NotesTurn turn id now random said noted) in
      let i = turn.slot % 8 in
      let o = on_shard k op end s tasks es st i refl (below_eight turn.slot) (eight h s tasks v) in
      let t : ServerState = record s { shards = set s.shards i o.after } in
      let task = task_at tasks k in
      let n = named k op end s tasks es st refl refl in
      let later : Task = record { job = task.job; stage = n.stage } in
      record {
        server = t;
        tasks = set tasks k later;
        serves = job_served h (Note k now random) k (refl, refl, refl) s t tasks later (sent_of noted) (notes_on s task k (may_work h s tasks k v) turn id now random said noted n.stage n.moves.0 n.moves.1 n.moves.2 n.moves.3 o.after o.does) v;
        rest = record { front = st.front; shards = o.shards; words = st.words; jobs = n.jobs; to_come = n.to_come; numbered = n.numbered; of_server = st.of_server.1 };
      }

  pub after_reject : (j : Job) (content : Content) → RightByParts end s tasks (entry_for k (RejectsImage j content) ∷ es) → After k (RejectsImage j content) es h end
  after_reject j content st =
      let op : Operation = RejectsImage j content in
      let task = task_at tasks k in
      let n = named k op end s tasks es st refl refl in
      let later : Task = record { job = task.job; stage = n.stage } in
      let i = task.job.origin.slot in
      let slot = slot_in (shard_at s.shards (i % 8)) i in
      let sc = inputs_with s task i ToInstall in
      let e = Install k true in
      let f = n.moves.1.0 in
      let initial = initial_vars_of task.job.ask in
      let rejects : Rejects (refused (Broken f)) ≡ install_call initial (judged (image_of task.job.ask)) slot = rejected_call (image_of task.job.ask) initial (judged (image_of task.job.ask)) f slot n.moves.1.1 in
      let there : transition e (inputs_in s task) ≡ goes_to (ToAnswer (refused (Broken f))) =
      ap (λ (x : Stage). transition e (inputs_with s task i x)) n.moves.2 ∙ ap (λ (c : Call). effect_of e sc (Some c)) (sym rejects) in
      record {
        server = s;
        tasks = set tasks k later;
        serves = job_served h e k (refl, refl, refl) s s tasks later None (does_quietly e s s task later (ToAnswer (refused (Broken f))) there refl
            (ap (λ (x : Stage). record { job = task.job; stage = x }) (n.moves.3 ∙ ap (λ (c : Content). ToAnswer c) n.moves.1.2) ∙ ap (λ (m : Effect). task_moved task m) (sym there)) refl) v;
        rest = record { front = st.front; shards = st.shards; words = st.words; jobs = n.jobs; to_come = n.to_come; numbered = n.numbered; of_server = st.of_server.1 };
      }

  -- the history with the refusal of job k's change leaves the server and the other jobs unchanged.
  unsaved : (p : ProgramUpdate) (stage : Stage) → MakesUpdate (task_at tasks k).job p (task_at tasks k).stage → stage ≡ ToAnswer Unavailable → Serves (next h (unsaved_event k p) None) s (set tasks k (record { job = (task_at tasks k).job; stage = stage }))
  unsaved (saves.Install image vars) stage may to =
      let task = task_at tasks k in
      let later : Task = record { job = task.job; stage = stage } in
      let e = Install k false in
      let there : transition e (inputs_in s task) ≡ goes_to (ToAnswer Unavailable) = ap (λ (x : Stage). transition e (inputs_with s task task.job.origin.slot x)) may.0 in
      job_served h e k (refl, refl, refl) s s tasks later None (does_quietly e s s task later (ToAnswer Unavailable) there refl
      (ap (λ (x : Stage). record { job = task.job; stage = x }) to ∙ ap (λ (m : Effect). task_moved task m) (sym there)) refl) v
  unsaved (saves.Commit vars) stage may to =
      let task = task_at tasks k in
      let later : Task = record { job = task.job; stage = stage } in
      let e = Refuse k in
      let is : is_refusable task.stage ≡ true = ap (λ (x : Stage). is_refusable x) may.1.1.0 ∙ may.1.1.1 in
      let there : transition e (inputs_in s task) ≡ goes_to (ToAnswer Unavailable) = ap (λ (b : Bool). effect_of e (inputs_in s task) (call_if b (RefusesChange task.stage))) is in
      job_served h e k (refl, refl, refl) s s tasks later None (does_quietly e s s task later (ToAnswer Unavailable) there refl
      (ap (λ (x : Stage). record { job = task.job; stage = x }) to ∙ ap (λ (m : Effect). task_moved task m) (sym there)) refl) v
  unsaved saves.Remove stage may to =
      let task = task_at tasks k in
      let later : Task = record { job = task.job; stage = stage } in
      let e = Refuse k in
      let is : is_refusable task.stage ≡ true = ap (λ (x : Stage). is_refusable x) may in
      let there : transition e (inputs_in s task) ≡ goes_to (ToAnswer Unavailable) = ap (λ (b : Bool). effect_of e (inputs_in s task) (call_if b (RefusesChange task.stage))) is in
      job_served h e k (refl, refl, refl) s s tasks later None (does_quietly e s s task later (ToAnswer Unavailable) there refl
      (ap (λ (x : Stage). record { job = task.job; stage = x }) to ∙ ap (λ (m : Effect). task_moved task m) (sym there)) refl) v

  pub after_refuse : (u : SlotUpdate) → RightByParts end s tasks (entry_for k (FailsToSave u) ∷ es) → After k (FailsToSave u) es h end
  after_refuse u st =
      let op : Operation = FailsToSave u in
      let i = u.slot % 8 in
      let o = on_shard k op end s tasks es st i refl (below_eight u.slot) (eight h s tasks v) in
      let same : set s.shards i o.after ≡ s.shards = ap (λ (x : Shard). set s.shards i x) o.does ∙ set-get_or s.shards i no_shard in
      let task = task_at tasks k in
      let n = named k op end s tasks es st refl refl in
      let later : Task = record { job = task.job; stage = n.stage } in
      record {
        server = s;
        tasks = set tasks k later;
        serves = unsaved u.program n.stage n.moves.1 n.moves.2;
        rest = record {
          front = st.front;
          shards = λ j low. subst (λ (xs : List Shard). LeadInOrder ShardDoes (of_shard j es) (shard_at xs j) (shard_at end.shards j)) same (o.shards j low);
          words = st.words;
          jobs = n.jobs;
          to_come = n.to_come;
          numbered = n.numbered;
          of_server = st.of_server.1;
        };
      }

  pub after_refused_install : (j : Job) → RightByParts end s tasks (entry_for k (RefusesInstall j) ∷ es) → After k (RefusesInstall j) es h end
  after_refused_install j st =
      let op : Operation = RefusesInstall j in
      let task = task_at tasks k in
      let n = named k op end s tasks es st refl refl in
      let later : Task = record { job = task.job; stage = n.stage } in
      let e = Install k false in
      let there : transition e (inputs_in s task) ≡ goes_to (ToAnswer Unavailable) = ap (λ (x : Stage). transition e (inputs_with s task task.job.origin.slot x)) n.moves.1 in
      record {
        server = s;
        tasks = set tasks k later;
        serves = job_served h e k (refl, refl, refl) s s tasks later None (does_quietly e s s task later (ToAnswer Unavailable) there refl
            (ap (λ (x : Stage). record { job = task.job; stage = x }) n.moves.2 ∙ ap (λ (m : Effect). task_moved task m) (sym there)) refl) v;
        rest = record { front = st.front; shards = st.shards; words = st.words; jobs = n.jobs; to_come = n.to_come; numbered = n.numbered; of_server = st.of_server.1 };
      }
