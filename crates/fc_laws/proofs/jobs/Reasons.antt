-- The cause of each answer.
use Rattle.std.proofs.Common.{◌≡◌, ℕ, ◌+◌, ◌<◌, ◌≤◌, length, Bool, true, false, Option, Some, None, refl, sym, ap, ◌∙◌, subst, ◌⊎◌, inl, inr, arith, if◌then◌else◌, length-append}
use Rattle.std.specs.Prelude.{List, [], ◌∷◌, ◌++◌, nat_lt, ◌==◌, ◌%◌, ◌&&◌, ◌||◌, is_none}
use Rattle.std.specs.List.{list_any}
use borrow.Author.Tests.{ltb-true, ltb-false}
use Rattle.std.proofs.lemmas.Bool.{eqb-true, eq-eqb}
use Rattle.coap_msg.specs.declared.types.Emission.{Emission}
use Rattle.fc_kinds.specs.Meaning.{Program}
use Rattle.fc_verify.specs.Accepted.{Judgement, Accepts, Breaks, Untypable}
use Rattle.fc_verify.specs.Judged.{judged}
use Rattle.fc_ticket.specs.declared.job.InitialVars.{InitialVars}
use Rattle.fc_ticket.specs.declared.job.Ask.{Ask}
use Rattle.fc_ticket.specs.declared.job.Ask.TheVariants.{Run}
use Rattle.fc_ticket.specs.declared.job.Job.{Job}
use Rattle.fc_registry.specs.declared.commit.CommitOutcome.{CommitOutcome}
use Rattle.fc_registry.specs.declared.commit.CommitOutcome.TheVariants.{Writes, Keeps, Overtakes, Ends}
use Rattle.fc_registry.specs.Slots.{Slot, last_serial}
use Rattle.fc_ticket.specs.Tickets.{Present, Ticket}
use Rattle.fc_ticket.specs.Registrations.{is_observed}
use Rattle.fc_registry.specs.Calls.{clear_by, outcome, outcome_by, put_by, receipt_at, snapshot, wants, readings_if}
use Rattle.fc_ticket.specs.Runs.{receipt_of, initial_vars_of}
use Rattle.fc_core.specs.declared.event.Event.{Event}
use Rattle.fc_core.specs.declared.event.Event.TheVariants.{Peek, Take, Commit, Install, Remove, Receipt}
use Rattle.fc_core.specs.Stage.{Stage}
use Rattle.fc_core.specs.Stage.{ToMatch, ToTake, ToCommit, ToInstall, ToRemove, ToDescribe, ToList, ToAnswer, ToTell}
use Rattle.fc_core.specs.TurnStage as turns
use Rattle.fc_core.specs.declared.stage.Task.{Task}
use Rattle.arrayvec.specs.ArrayVec.{ArrayVec}
use Rattle.fc_front.specs.Contents.{Content, Missing, Unavailable, Made, Rejected, Untyped, Valid, Deleted, Described, Listed}
use Rattle.fc_core.specs.Fits.{HasNext}
use Rattle.fc_front.specs.Heads.{is_match, is_present, serial_in, word_at}
use Rattle.fc_core.specs.AnswerLaws.{HasSerial, IsCause, NoTicket, NoMemory, NothingDescribed, NothingTaken, Overtaken, LastCommit, LastInstall, LastRemoval}
use Rattle.fc_core.specs.History.{around, Entry, History, Then, Seen, seen, and_then, did, job, slot_at, stage, task_at}
use Rattle.fc_core.specs.Laws.{answer_at, slot_of, snapshots_of}
use Rattle.fc_core.specs.Stages.{first_by, first_or_turn, image_of, made, matched_by, removed, run_content, receipt_content, took, matched}
use Rattle.fc_core.specs.Transitions.{Around, Inputs, names, transition, install_call, install_if}
use Rattle.fc_core.specs.Steps.{next_stage}
use Rattle.fc_core.proofs.ByStep.{Step, by_step, event_by, effect_by, names_job, stage_by, committed, IsAsked}
use Rattle.fc_core.proofs.ByStep as steps
use Rattle.fc_laws.proofs.turns.Telling.{after_turn}
use Rattle.fc_laws.proofs.jobs.Others.{is_here, named_stage}
use Rattle.fc_laws.proofs.jobs.Steps.{Becomes, Moves, Stays, Comes, becomes}
use Rattle.fc_core.proofs.Fitting.{fits_next}
use Rattle.fc_laws.proofs.jobs.Snapshots.{Took, known}
use Rattle.fc_laws.proofs.slots.Writing.{sound}

abbrev at : Job → Slot → Around → Stage → Inputs
at job slot ws stage = record { job = job; slot = slot; around = ws; stage = stage }

module _ (k : ℕ) (job : Job) (slot : Slot) (ws : Around) (taken : ℕ) where
  -- the event gives a job at this stage the answer for a reason.
  abbrev Why : Event → Stage → Content → Type 0
  Why e s c = IsCause e k job slot ws.common.words s taken c

  abbrev Answered : Event → Stage → Stage → Content → Type 0
  Answered e s new c = answer_at new ≡ Some c → Why e s c

  -- a reason for a content is a reason for the same content under another name.
  so : (e : Event) (s : Stage) (c d : Content) → Why e s c → Some c ≡ Some d → Why e s d
  so e s c d why is = let same : c ≡ d = cc is in subst (Why e s) same why

  snapshot_why : (memory : Bool) (readings : List ℕ) (n : ℕ) (p : Option Present) (c : Content) → slot.present ≡ p → Answered (Take k memory readings) (ToTake n) (took n (snapshot (readings_if memory readings) job slot.serial p)) c
  snapshot_why memory readings n None c is e = so (Take k memory readings) (ToTake n) Missing c (NothingTaken memory readings n refl refl is) e
  snapshot_why true readings n (Some p) c is e = absurd (cc)
  snapshot_why false readings n (Some p) c is e = so (Take k false readings) (ToTake n) Unavailable c (NoTicket n readings p refl refl is) e

  outcome_overtakes : (w same below : Bool) → outcome_by w same below ≡ Overtakes → (w ≡ true) × (same ≡ false)
  outcome_overtakes false same below e = absurd (cc)
  outcome_overtakes true false below e = (refl, refl)
  outcome_overtakes true true false e = absurd (cc)
  outcome_overtakes true true true e = absurd (cc)

  outcome_ends : (w same below : Bool) → outcome_by w same below ≡ Ends → (w ≡ true) × (below ≡ false)
  outcome_ends false same below e = absurd (cc)
  outcome_ends true false below e = absurd (cc)
  outcome_ends true true false e = (refl, refl)
  outcome_ends true true true e = absurd (cc)

  retaken_why : (now n : ℕ) (t : Ticket) (b : Bool) (c : Content) → nat_lt n 8 ≡ b → taken ≡ n → n ≤ 8 → outcome t slot ≡ Overtakes → Answered (Commit k now) (ToCommit n t) (if b then ToTake n else ToAnswer Unavailable) c
  retaken_why now n t true c lt is le comes e = absurd (cc e)
  retaken_why now n t false c lt is le comes e =
      let tests = outcome_overtakes (wants t) (slot.serial == t.serial) (nat_lt slot.serial last_serial) comes in
      let past : 8 ≤ n = ltb-false n 8 lt in
      so (Commit k now) (ToCommit n t) Unavailable c (Overtaken now n t refl refl tests.0 (λ (same : slot.serial ≡ t.serial). let is_same : (slot.serial == t.serial) ≡ true = eq-eqb slot.serial t.serial same in absurd (cc (is_same, tests.1))) (omega arith)) e

  outcome_keeps : (w same below : Bool) → outcome_by w same below ≡ Keeps → w ≡ false
  outcome_keeps false same below e = refl
  outcome_keeps true false below e = absurd (cc)
  outcome_keeps true true false e = absurd (cc)
  outcome_keeps true true true e = absurd (cc)

  outcome_writes : (w same below : Bool) → outcome_by w same below ≡ Writes → (same ≡ true) × (below ≡ true)
  outcome_writes false same below e = absurd (cc)
  outcome_writes true false below e = absurd (cc)
  outcome_writes true true false e = absurd (cc)
  outcome_writes true true true e = (refl, refl)

  -- a run's answer has its reason, if a run that wants to write finds its slot unchanged and below
  -- the last serial.
  ran_why : (now n : ℕ) (t : Ticket) (observed : Bool) (c : Content) → (wants t ≡ true → (slot.serial ≡ t.serial) × (slot.serial < last_serial)) → Answered (Commit k now) (ToCommit n t) (ToAnswer (run_content t observed)) c
  ran_why now n t observed c writes e = so (Commit k now) (ToCommit n t) (run_content t observed) c (record { now = now; count = n; ticket = t; event = refl; is = refl; code = refl; cut = refl; serial = refl; writes = writes }) e

  committed_why : (now n : ℕ) (t : Ticket) (o : CommitOutcome) (c : Content) → taken ≡ n → n ≤ 8 → outcome t slot ≡ o → Answered (Commit k now) (ToCommit n t) (committed o n t now slot.serial ws).stage c
  committed_why now n t Writes c is le comes e =
      let tests = outcome_writes (wants t) (slot.serial == t.serial) (nat_lt slot.serial last_serial) comes in
      ran_why now n t false c (λ w. (eqb-true slot.serial t.serial tests.0, ltb-true slot.serial last_serial tests.1)) e
  committed_why now n t Keeps c is le comes e =
      let keeps = outcome_keeps (wants t) (slot.serial == t.serial) (nat_lt slot.serial last_serial) comes in
      ran_why now n t (is_observed t ws.watch) c (λ w. absurd (cc (keeps, w))) e
  committed_why now n t Overtakes c is le comes e = retaken_why now n t (nat_lt n 8) c refl is le comes e
  committed_why now n t Ends c is le comes e =
      let tests = outcome_ends (wants t) (slot.serial == t.serial) (nat_lt slot.serial last_serial) comes in
      so (Commit k now) (ToCommit n t) Unavailable c (LastCommit now n t refl refl tests.0 (ltb-false slot.serial last_serial tests.1)) e

  put_why : (p : Program) (v : InitialVars) (b : Bool) (c : Content) → judged (image_of job.ask) ≡ Accepts p → nat_lt slot.serial last_serial ≡ b → Answered (Install k true) ToInstall (made (receipt_of p 0) (put_by b slot p v).answer) c
  put_why p v true c is lt e = so (Install k true) ToInstall (Made (record (receipt_of p 0) { version = slot.serial + 1 }) (is_none slot.present)) c (record { program = p; event = refl; is = refl; accepted = is; below = ltb-true slot.serial last_serial lt; version = refl; cost = refl; budget = refl; vars = refl; empty = refl }) e
  put_why p v false c is lt e = so (Install k true) ToInstall Unavailable c (LastInstall p refl refl is (ltb-false slot.serial last_serial lt)) e

  installed_why : (v : InitialVars) (j : Judgement) (c : Content) → judged (image_of job.ask) ≡ j → Answered (Install k true) ToInstall (next_stage (install_call v j slot)) c
  installed_why v (Accepts p) c is e = put_why p v (nat_lt slot.serial last_serial) c is refl e
  installed_why v (Breaks rule n) c is e = so (Install k true) ToInstall (Rejected rule n) c (record { event = refl; is = refl; judged_as = is }) e
  installed_why v Untypable c is e = so (Install k true) ToInstall Untyped c (record { event = refl; is = refl; judged_as = is }) e

  verified_why : (memory : Bool) (c : Content) → Answered (Install k memory) ToInstall (next_stage (install_if memory (initial_vars_of job.ask) (judged (image_of job.ask)) slot)) c
  verified_why true c e = installed_why (initial_vars_of job.ask) (judged (image_of job.ask)) c refl e
  verified_why false c e = so (Install k false) ToInstall Unavailable c (NoMemory refl refl) e

  clear_why : (b : Bool) (o : Option Present) (c : Content) → nat_lt slot.serial last_serial ≡ b → slot.present ≡ o → Answered (Remove k) ToRemove (removed (clear_by b slot.serial o).answer) c
  clear_why b None c lt is e = so (Remove k) ToRemove Deleted c (record { event = refl; is = refl; may = inl is }) e
  clear_why true (Some p) c lt is e = so (Remove k) ToRemove Deleted c (record { event = refl; is = refl; may = inr (ltb-true slot.serial last_serial lt) }) e
  clear_why false (Some p) c lt is e = so (Remove k) ToRemove Unavailable c (LastRemoval p refl refl is (ltb-false slot.serial last_serial lt)) e

  told_why : (o : Option Present) (c : Content) → slot.present ≡ o → Answered (Receipt k) ToDescribe (ToAnswer (receipt_content (receipt_at o))) c
  told_why None c is e = so (Receipt k) ToDescribe Missing c (NothingDescribed refl refl is) e
  told_why (Some p) c is e = so (Receipt k) ToDescribe (Described (receipt_of p.program p.version)) c (record { found = p; event = refl; is = refl; present = is; version = refl; cost = refl; budget = refl; vars = refl }) e

  -- if a test of the serials against a word passes, the word's serial is one of them.
  among_by : (x serial : ℕ) (xs : List ℕ) (b : Bool) → (x == serial) ≡ b → (list_any (λ y. y == serial) xs ≡ true → HasSerial xs serial) → (b || list_any (λ y. y == serial) xs) ≡ true → HasSerial (x ∷ xs) serial
  among_by x serial xs true is more e = record { before = []; after = xs; is = ap (λ (y : ℕ). y ∷ xs) (eqb-true x serial is) }
  among_by x serial xs false is more e = let w = more e in record { before = x ∷ w.before; after = w.after; is = ap (λ (l : List ℕ). x ∷ l) w.is }

  among : (serials : List ℕ) (serial : ℕ) → list_any (λ x. x == serial) serials ≡ true → HasSerial serials serial
  among [] serial e = absurd (cc)
  among (x ∷ xs) serial e = among_by x serial xs (x == serial) refl (among xs serial) e

  both : (a b : Bool) → (a && b) ≡ true → (a ≡ true) × (b ≡ true)
  both true b e = (refl, e)
  both false b e = absurd (cc)

  matched_why : (word : ℕ) (b : Bool) (c : Content) → word ≡ word_at ws.common.words job.origin.slot → is_match word job.etags.items ≡ b → Answered (Peek k job.origin.slot) ToMatch (matched_by b word) c
  matched_why word true c is e f =
      let tests = both (is_present word) (list_any (λ x. x == serial_in word) job.etags.items) e in
      let odd = eqb-true (word % 2) 1 tests.0 in
      so (Peek k job.origin.slot) ToMatch (Valid (serial_in word)) c (record { event = refl; is = refl; word = sym is ∙ omega (arith, odd); asked = among job.etags.items (serial_in word) tests.1 }) f
  matched_why word false c is e f = absurd (cc f)

  own_why : (n : ℕ) (c : Content) → (n == job.origin.slot) ≡ true → Answered (Peek k n) ToMatch (matched (word_at ws.common.words n) job.etags.items) c
  own_why n c is =
      let same = eqb-true n job.origin.slot is in
      subst (λ (i : ℕ). Answered (Peek k i) ToMatch (matched (word_at ws.common.words i) job.etags.items) c) (sym same)
      (matched_why (word_at ws.common.words job.origin.slot) (is_match (word_at ws.common.words job.origin.slot) job.etags.items) c refl refl)

  listed_why : (seen : ArrayVec ℕ) (n : ℕ) (b : Bool) (c : Content) → n ≡ length seen.items → length seen.items < 64 → nat_lt (length (seen.items ++ word_at ws.common.words n ∷ [])) 64 ≡ b → Answered (Peek k n) (ToList seen) (if b then ToList (record { items = seen.items ++ word_at ws.common.words n ∷ [] }) else ToAnswer (Listed (seen.items ++ word_at ws.common.words n ∷ []))) c
  listed_why seen n true c is below lt e = absurd (cc e)
  listed_why seen n false c is below lt e =
      let len : length (seen.items ++ word_at ws.common.words n ∷ []) ≡ length seen.items + 1 = length-append seen.items (word_at ws.common.words n ∷ []) in
      let past : 64 ≤ length (seen.items ++ word_at ws.common.words n ∷ []) = ltb-false (length (seen.items ++ word_at ws.common.words n ∷ [])) 64 lt in
      let last : n ≡ 63 = omega (arith, is, below, len, past) in
      let count : length (seen.items ++ word_at ws.common.words n ∷ []) ≡ 64 = omega (arith, below, len, past) in
      so (Peek k n) (ToList seen) (Listed (seen.items ++ word_at ws.common.words n ∷ [])) c
      (record { seen = seen; event = ap (Peek k) last; is = refl; list_is = ap (λ (i : ℕ). seen.items ++ word_at ws.common.words i ∷ []) last; count = count }) e

-- the number of tickets that a job at the stage of its commit took. A job that lists head words has
-- at least one left to read.
abbrev IsCount : Stage → ℕ → Type 0
IsCount (ToCommit n t) taken = (taken ≡ n) × (n ≤ 8)
IsCount (ToList seen) taken = length seen.items < 64
IsCount other taken = Unit {0}

none_is_answered : {c : Content} → None ≡ Some c → ⊥
none_is_answered e = cc e

step_why : (x : Step) (k : ℕ) (job : Job) (slot : Slot) (ws : Around) (taken : ℕ) (c : Content) → IsAsked x job → IsCount (stage_by x) taken → answer_at (effect_by x job slot ws).stage ≡ Some c → (answer_at (stage_by x) ≡ Some c) ⊎ IsCause (event_by k x) k job slot ws.common.words (stage_by x) taken c
step_why (steps.Matches n) k job slot ws taken c asked f e = inr (own_why k job slot ws taken n c asked e)
step_why (steps.Lists n seen) k job slot ws taken c asked f e = inr (listed_why k job slot ws taken seen n (nat_lt (length (seen.items ++ word_at ws.common.words n ∷ [])) 64) c (eqb-true n (length seen.items) asked) f refl e)
step_why steps.Removes k job slot ws taken c asked f e = inr (clear_why k job slot ws taken (nat_lt slot.serial last_serial) slot.present c refl refl e)
step_why steps.Describes k job slot ws taken c asked f e = inr (told_why k job slot ws taken slot.present c refl e)
step_why (steps.Takes memory readings n) k job slot ws taken c asked f e = inr (snapshot_why k job slot ws taken memory readings n slot.present c refl e)
step_why (steps.TakesTurn memory readings turn) k job slot ws taken c asked f e = absurd (after_turn (λ st. answer_at st ≡ Some c → ⊥) (λ turn needs e. cc e) (λ e. cc e) (readings_if memory readings) turn (at job slot ws (ToTell turn turns.ToTake)) e)
step_why (steps.Commits now n t) k job slot ws taken c asked f e = inr (committed_why k job slot ws taken now n t (outcome t slot) c f.0 f.1 refl e)
step_why (steps.Installs memory) k job slot ws taken c asked f e = inr (verified_why k job slot ws taken memory c e)
step_why (steps.Refuses refusal) k job slot ws taken c asked f e = inr (so k job slot ws taken (refusal.event k) refusal.stage Unavailable c (refusal.reason k job slot taken) e)
step_why (steps.Raises word content) k job slot ws taken c asked f e = inl e
step_why other k job slot ws taken c asked f e = absurd (none_is_answered e)

transition_why : (e : Event) (k : ℕ) (job : Job) (slot : Slot) (ws : Around) (s : Stage) (taken : ℕ) (c : Content) → names e ≡ Some k → IsCount s taken → answer_at (transition e (at job slot ws s)).stage ≡ Some c → (answer_at s ≡ Some c) ⊎ IsCause e k job slot ws.common.words s taken c
transition_why e k job slot ws s taken c =
    by_step (λ d st m. names d ≡ Some k → IsCount st taken → answer_at m.stage ≡ Some c → (answer_at st ≡ Some c) ⊎ IsCause d k job slot ws.common.words st taken c) job slot ws
    (λ j x asked named f e.
    let same : j ≡ k = cc (sym (names_job j x) ∙ named) in
    subst (λ (i : ℕ). (answer_at (stage_by x) ≡ Some c) ⊎ IsCause (event_by i x) k job slot ws.common.words (stage_by x) taken c) (sym same) (step_why x k job slot ws taken c asked f e))
    (λ d st rest named f e. inl e) e s

count_is : (s : Stage) (h : History) (k : ℕ) → Took (snapshots_of h k) s → HasNext s → IsCount s (length (snapshots_of h k))
count_is (ToCommit n t) h k f next = (f.0, f.1)
count_is (ToList seen) h k f next = next
count_is other h k f next = tt

none_first : (ask : Ask) (serials : List ℕ) (c : Content) → answer_at (first_by ask serials) ≡ Some c → ⊥
none_first (Run request) [] c e = none_is_answered e
none_first (Run request) (x ∷ xs) c e = none_is_answered e
none_first other serials c e = none_is_answered e

none_of_turn : (j : Job) (o : Option ℕ) (c : Content) → answer_at (first_or_turn o j) ≡ Some c → ⊥
none_of_turn j None c e = none_first j.ask j.etags.items c e
none_of_turn j (Some number) c e = absurd (cc e)

why_by : (h : History) (r : Entry) (k : ℕ) (c : Content) (t : Task) → Becomes (names r.event) r.event (seen h) k t → answer_at t.stage ≡ Some c → (answer_at (stage (seen h) k) ≡ Some c) ⊎ IsCause r.event k (job (seen h) k) (slot_at (seen h) (slot_of (seen h) k)) (seen h).words (stage (seen h) k) (length (snapshots_of h k)) c
why_by h r k c t (Moves named is) e = transition_why r.event k (job (seen h) k) (slot_at (seen h) (slot_of (seen h) k)) (around (seen h) (slot_of (seen h) k)) (stage (seen h) k) (length (snapshots_of h k)) c named (count_is (stage (seen h) k) h k (known h k) (fits_next (job (seen h) k) (slot_at (seen h) (slot_of (seen h) k)) (stage (seen h) k) ((sound h).stages k))) (ap (λ (x : Task). answer_at x.stage) (sym is) ∙ e)
why_by h r k c t (Stays other is) e = inl (ap (λ (x : Task). answer_at x.stage) (sym is) ∙ e)
why_by h r k c t (Comes new j is) e = absurd (none_of_turn j j.turn c (ap (λ (x : Task). answer_at x.stage) (sym is) ∙ e))

pub answers_have_causes : (h : History) (r : Entry) (k : ℕ) (c : Content) → answer_at (stage (seen (Then h r)) k) ≡ Some c → (answer_at (stage (seen h) k) ≡ Some c) ⊎ IsCause r.event k (job (seen h) k) (slot_at (seen h) (slot_of (seen h) k)) (seen h).words (stage (seen h) k) (length (snapshots_of h k)) c
unfolding seen
answers_have_causes h r k c e = why_by h r k c (task_at (and_then r (seen h)).tasks k) (becomes r (seen h) k) e

-- a snapshot that finds no program makes the answer `Missing`.
pub empty_misses : (s : Seen) (k count : ℕ) (memory : Bool) (readings : List ℕ) (o : Option Emission) → stage s k ≡ ToTake count → (slot_at s (slot_of s k)).present ≡ None → stage (and_then (did (Take k memory readings) o) s) k ≡ ToAnswer Missing
empty_misses s k count memory readings o is empty = named_stage (did (Take k memory readings) o) s k (is_here s k (ToTake count) is (λ e. absurd (cc e))) refl
    ∙ (ap (λ (x : Stage). (transition (Take k memory readings) (at (job s k) (slot_at s (slot_of s k)) (around s (slot_of s k)) x)).stage) is
    ∙ ap (λ (x : Option Present). took count (snapshot (readings_if memory readings) (job s k) (slot_at s (slot_of s k)).serial x)) empty)
