-- A job takes at most eight tickets, and the answer of a run comes from the newest ticket.
use Rattle.std.proofs.Common.{◌≡◌, ℕ, ◌<◌, ◌≤◌, List, [], ◌∷◌, ◌++◌, length, Bool, true, false, Option, Some, None, refl, sym, ap, ◌∙◌, subst, arith, if◌then◌else◌}
use Rattle.std.specs.Prelude.{nat_lt, ◌==◌}
use borrow.Author.Tests.{ltb-true, lt-ltb}
use Rattle.std.proofs.lemmas.Bool.{ne_eqb}
use Rattle.coap_msg.specs.declared.types.Emission.{Emission}
use Rattle.fc_kinds.specs.Meaning.{Program}
use Rattle.fc_verify.specs.Accepted.{Judgement, Accepts, Breaks, Untypable}
use Rattle.fc_verify.specs.Judged.{judged}
use Rattle.fc_observe.specs.declared.entry.Turn.{Turn}
use Rattle.fc_ticket.specs.declared.job.InitialVars.{InitialVars}
use Rattle.fc_ticket.specs.declared.job.Ask.{Ask}
use Rattle.fc_ticket.specs.declared.job.Ask.TheVariants.{Run}
use Rattle.fc_ticket.specs.declared.job.Job.{Job}
use Rattle.fc_registry.specs.declared.commit.CommitOutcome.{CommitOutcome}
use Rattle.fc_registry.specs.declared.commit.CommitOutcome.TheVariants.{Writes, Keeps, Overtakes, Ends}
use Rattle.fc_registry.specs.Slots.{Slot, last_serial}
use Rattle.fc_ticket.specs.Tickets.{Present, Ticket}
use Rattle.fc_registry.specs.Changes.{Change}
use Rattle.fc_ticket.specs.declared.receipt.Receipt.{Receipt as Facts}
use Rattle.fc_ticket.specs.Registrations.{is_observed}
use Rattle.fc_registry.specs.Calls.{clear_by, outcome, outcome_by, put_by, is_out_at, receipt_at, snapshot, turn_snapshot, wants, readings_if}
use Rattle.fc_ticket.specs.Runs.{meaning_at, receipt_of, initial_vars_of}
use Rattle.fc_core.specs.declared.event.Event.{Event}
use Rattle.fc_core.specs.declared.event.Event.TheVariants.{Take, Commit}
use Rattle.fc_core.specs.Stage.{Stage}
use Rattle.fc_core.specs.Stage.{ToMatch, ToTake, ToCommit, ToInstall, ToList, ToRaise, ToAnswer, Gone, ToTell}
use Rattle.fc_core.specs.TurnStage.{TurnStage}
use Rattle.fc_core.specs.TurnStage as turns
use Rattle.coap_reply.specs.Blocks.{cut_for}
use Rattle.fc_front.specs.Contents.{Content, Listed, Ran, RunAnswer, run_answer, Unavailable}
use Rattle.fc_front.specs.Heads.{is_match, word_at}
use Rattle.fc_core.specs.History.{around, Entry, History, Then, Seen, seen, and_then, did, job, inputs, slot_at, stage}
use Rattle.fc_core.specs.Laws.{IsNewest, IsOfNewest, IsOvertaken, Snapshot, TakesAgain, answer_at, finds_if, gives, slot_of, snapshots_of}
use Rattle.fc_core.specs.Stages.{first_by, image_of, made, matched_by, removed, retaken, receipt_content, took, turn_took, with_id}
use Rattle.fc_core.specs.Transitions.{Around, Inputs, transition, install_call, install_if}
use Rattle.fc_core.specs.Steps.{next_stage}
use Rattle.fc_core.proofs.ByStep.{Step, by_step, event_by, effect_by, stage_by, committed}
use Rattle.fc_core.proofs.ByStep as steps
use Rattle.fc_laws.proofs.jobs.Along.{IsTold, along}
use Rattle.fc_laws.proofs.jobs.Others.{is_here, named_stage}

-- the answer of a run comes from the newest of these snapshots.
abbrev pub Says : List Snapshot → Content → Type 0
Says ts (Ran run) = IsOfNewest ts run
Says ts other = Unit {0}

-- a lease took no ticket, since it found the slot empty, or one ticket.
abbrev pub TookOne : List Snapshot → Option Ticket → Type 0
TookOne ts None = length ts ≡ 0
TookOne ts (Some t) = (length ts ≡ 1) × IsNewest ts t

abbrev pub TookTurn : List Snapshot → TurnStage → Type 0
TookTurn ts turns.ToTake = length ts ≡ 0
TookTurn ts (turns.ToDraw found) = TookOne ts found
TookTurn ts (turns.ToNote found id) = TookOne ts found

-- a job at this stage took these tickets.
abbrev pub Took : List Snapshot → Stage → Type 0
Took ts (ToTake n) = (length ts ≡ n) × (n < 8)
Took ts (ToCommit n t) = (length ts ≡ n) × (n ≤ 8) × IsNewest ts t
Took ts ToMatch = length ts ≡ 0
Took ts (ToRaise word content) = (length ts ≤ 8) × Says ts content
Took ts (ToAnswer content) = (length ts ≤ 8) × Says ts content
Took ts (ToTell turn needs) = TookTurn ts needs
Took ts other = length ts ≤ 8

one_at_most : (ts : List Snapshot) (found : Option Ticket) → TookOne ts found → length ts ≤ 8
one_at_most ts None f = omega (arith, f)
one_at_most ts (Some t) f = omega (arith, f.0)

turn_at_most : (ts : List Snapshot) (needs : TurnStage) → TookTurn ts needs → length ts ≤ 8
turn_at_most ts turns.ToTake f = omega (arith, f)
turn_at_most ts (turns.ToDraw found) f = one_at_most ts found f
turn_at_most ts (turns.ToNote found id) f = one_at_most ts found f

at_most_eight : (s : Stage) (ts : List Snapshot) → Took ts s → length ts ≤ 8
at_most_eight (ToTake n) ts f = omega (arith, f.0, f.1)
at_most_eight (ToCommit n t) ts f = omega (arith, f.0, f.1)
at_most_eight ToMatch ts f = omega (arith, f)
at_most_eight (ToRaise word content) ts f = f.0
at_most_eight (ToAnswer content) ts f = f.0
at_most_eight (ToTell turn needs) ts f = turn_at_most ts needs f
at_most_eight other ts f = f

abbrev at : Job → Slot → Around → Stage → Inputs
at job slot ws stage = record { job = job; slot = slot; around = ws; stage = stage }

snapshot_took : (memory : Bool) (readings : List ℕ) (k : ℕ) (job : Job) (slot : Slot) (cs : List Change) (ws : Around) (n : ℕ) (ts : List Snapshot) (p : Option Present) → slot.present ≡ p → length ts ≡ n → n < 8 → Took (gives (Take k memory readings) (at job (record slot { present = p }) ws (ToTake n)) cs ++ ts) (took n (snapshot (readings_if memory readings) job slot.serial p))
snapshot_took true readings k job slot cs ws n ts None e is lt = (omega arith, tt)
snapshot_took false readings k job slot cs ws n ts None e is lt = (omega arith, tt)
snapshot_took true readings k job slot cs ws n ts (Some p) e is lt = (omega arith, omega arith, refl)
snapshot_took false readings k job slot cs ws n ts (Some p) e is lt = (omega arith, tt)

-- after a snapshot with memory, a lease has one ticket, or none if the slot was empty or the lease
-- wasn't active.
turn_snapshot_took : (out : Bool) (readings : List ℕ) (turn : Turn) (job : Job) (serial : ℕ) (cs : List Change) (ts : List Snapshot) (p : Option Present) → length ts ≡ 0 → Took (finds_if out job readings serial p cs ++ ts) (turn_took turn (turn_snapshot out (Some readings) job serial p))
turn_snapshot_took false readings turn job serial cs ts p none = omega (arith, none)
turn_snapshot_took true readings turn job serial cs ts None none = none
turn_snapshot_took true readings turn job serial cs ts (Some p) none = (omega (arith, none), refl)

refused_took : (out : Bool) (turn : Turn) (job : Job) (serial : ℕ) (ts : List Snapshot) (p : Option Present) → length ts ≡ 0 → Took ts (turn_took turn (turn_snapshot out None job serial p))
refused_took false turn job serial ts p none = omega (arith, none)
refused_took true turn job serial ts None none = none
refused_took true turn job serial ts (Some p) none = none

drawn_took : (ts : List Snapshot) (found : Option Ticket) (free : Option ℕ) → TookOne ts found → TookTurn ts (with_id found free)
drawn_took ts found (Some id) f = f
drawn_took ts found None f = f

retaken_took : (n : ℕ) (ts : List Snapshot) (b : Bool) → nat_lt n 8 ≡ b → length ts ≡ n → n ≤ 8 → Took ts (if b then ToTake n else ToAnswer Unavailable)
retaken_took n ts true e is le = (is, ltb-true n 8 e)
retaken_took n ts false e is le = (omega arith, tt)

newest_says : (ts : List Snapshot) (t : Ticket) (observed : Bool) → IsNewest ts t → IsOfNewest ts (run_answer t (meaning_at t) observed)
newest_says [] t observed e = e
newest_says (x ∷ xs) t observed e = (ap (λ (y : Ticket). (meaning_at y).code) (sym e), ap (λ (y : Ticket). cut_for y.block (meaning_at y).reply) (sym e), ap (λ (y : Ticket). y.serial) (sym e))

committed_took : (n : ℕ) (ts : List Snapshot) (t : Ticket) (now : ℕ) (serial : ℕ) (ws : Around) (o : CommitOutcome) → length ts ≡ n → n ≤ 8 → IsNewest ts t → Took ts (committed o n t now serial ws).stage
committed_took n ts t now serial ws Writes is le e = (omega arith, newest_says ts t false e)
committed_took n ts t now serial ws Keeps is le e = (omega arith, newest_says ts t (is_observed t ws.watch) e)
committed_took n ts t now serial ws Overtakes is le e = retaken_took n ts (nat_lt n 8) refl is le
committed_took n ts t now serial ws Ends is le e = (omega arith, tt)

made_took : (b : Bool) (p : Program) (v : InitialVars) (slot : Slot) (ts : List Snapshot) → length ts ≤ 8 → Took ts (made (receipt_of p 0) (put_by b slot p v).answer)
made_took true p v slot ts le = (le, tt)
made_took false p v slot ts le = (le, tt)

installed_took : (v : InitialVars) (j : Judgement) (slot : Slot) (ts : List Snapshot) → length ts ≤ 8 → Took ts (next_stage (install_call v j slot))
installed_took v (Accepts p) slot ts le = made_took (nat_lt slot.serial last_serial) p v slot ts le
installed_took v (Breaks rule k) slot ts le = (le, tt)
installed_took v Untypable slot ts le = (le, tt)

verified_took : (memory : Bool) (s : Inputs) (ts : List Snapshot) → length ts ≤ 8 → Took ts (next_stage (install_if memory (initial_vars_of s.job.ask) (judged (image_of s.job.ask)) s.slot))
verified_took true s ts le = installed_took (initial_vars_of s.job.ask) (judged (image_of s.job.ask)) s.slot ts le
verified_took false s ts le = (le, tt)

clear_took : (below : Bool) (serial : ℕ) (p : Option Present) (ts : List Snapshot) → length ts ≤ 8 → Took ts (removed (clear_by below serial p).answer)
clear_took below serial None ts le = (le, tt)
clear_took true serial (Some p) ts le = (le, tt)
clear_took false serial (Some p) ts le = (le, tt)

told_took : (receipt : Option Facts) (ts : List Snapshot) → length ts ≤ 8 → Took ts (ToAnswer (receipt_content receipt))
told_took None ts le = (le, tt)
told_took (Some receipt) ts le = (le, tt)

matched_took : (b : Bool) (word : ℕ) (ts : List Snapshot) → length ts ≡ 0 → Took ts (matched_by b word)
matched_took true word ts is = (omega (arith, is), tt)
matched_took false word ts is = (is, omega arith)

listed_took : (b : Bool) (words : List ℕ) (ts : List Snapshot) → length ts ≤ 8 → Took ts (if b then ToList (record { items = words }) else ToAnswer (Listed words))
listed_took true words ts le = le
listed_took false words ts le = (le, tt)

step_took : (k : ℕ) (c : Step) (job : Job) (slot : Slot) (cs : List Change) (ws : Around) (ts : List Snapshot) → Took ts (stage_by c) → Took (gives (event_by k c) (at job slot ws (stage_by c)) cs ++ ts) (effect_by c job slot ws).stage
step_took k (steps.Matches n) job slot cs ws ts f = matched_took (is_match (word_at ws.common.words n) job.etags.items) (word_at ws.common.words n) ts f
step_took k (steps.Lists n seen) job slot cs ws ts f = listed_took (nat_lt (length (seen.items ++ word_at ws.common.words n ∷ [])) 64) (seen.items ++ word_at ws.common.words n ∷ []) ts f
step_took k steps.Removes job slot cs ws ts f = clear_took (nat_lt slot.serial last_serial) slot.serial slot.present ts f
step_took k steps.Describes job slot cs ws ts f = told_took (receipt_at slot.present) ts f
step_took k (steps.Takes memory readings n) job slot cs ws ts f = snapshot_took memory readings k job slot cs ws n ts slot.present refl f.0 f.1
step_took k (steps.TakesTurn true readings turn) job slot cs ws ts f = turn_snapshot_took (is_out_at turn ws.time ws.watch) readings turn job slot.serial cs ts slot.present f
step_took k (steps.TakesTurn false readings turn) job slot cs ws ts f = refused_took (is_out_at turn ws.time ws.watch) turn job slot.serial ts slot.present f
step_took k (steps.Commits now n t) job slot cs ws ts f = committed_took n ts t now slot.serial ws (outcome t slot) f.0 f.1 f.2
step_took k (steps.Installs memory) job slot cs ws ts f = verified_took memory (at job slot ws ToInstall) ts f
step_took k (steps.Refuses refusal) job slot cs ws ts f = subst (λ (l : List Snapshot). Took (l ++ ts) (ToAnswer Unavailable)) (sym (refusal.given k job slot ws cs)) (at_most_eight refusal.stage ts f, tt)
step_took k (steps.Raises word content) job slot cs ws ts f = f
step_took k (steps.Draws now turn found) job slot cs ws ts f = drawn_took ts found (ws.common.free now) f
step_took k other job slot cs ws ts f = at_most_eight (stage_by other) ts f

transition_took : (e : Event) (job : Job) (slot : Slot) (cs : List Change) (ws : Around) (s : Stage) (ts : List Snapshot) → Took ts s → Took (gives e (at job slot ws s) cs ++ ts) (transition e (at job slot ws s)).stage
transition_took e job slot cs ws s ts =
    by_step (λ d st m. Took ts st → Took (gives d (at job slot ws st) cs ++ ts) m.stage) job slot ws (λ k c asked. step_took k c job slot cs ws ts)
    (λ d st rest f. subst (λ (l : List Snapshot). Took (l ++ ts) st) (sym (rest.given slot ws cs)) f) e s

-- an event gives no ticket to a job that has ended.
gone_given : (e : Event) (job : Job) (slot : Slot) (ws : Around) (cs : List Change) → gives e (at job slot ws Gone) cs ≡ []
gone_given (Take k true readings) job slot ws cs = refl
gone_given (Take k false readings) job slot ws cs = refl
gone_given other job slot ws cs = refl

none_took : 0 ≤ 8
none_took = omega arith

first_took : (ask : Ask) (serials : List ℕ) → Took [] (first_by ask serials)
first_took (Run request) [] = (refl, omega arith)
first_took (Run request) (x ∷ xs) = refl
first_took other serials = none_took

abbrev pub more : Event → Seen → ℕ → List Snapshot → List Snapshot
more e s k ts = gives e (inputs s k) (s.changes (slot_of s k)) ++ ts

pub is_told : IsTold snapshots_of more Took []
is_told = record {
  begins = λ stored id policy k. refl;
  then_is = λ h r k. refl;
  still = λ e s k ts is. ap (λ (x : Stage). gives e (at (job s k) (slot_at s (slot_of s k)) (around s (slot_of s k)) x) (s.changes (slot_of s k)) ++ ts) is ∙ ap (λ (l : List Snapshot). l ++ ts) (gone_given e (job s k) (slot_at s (slot_of s k)) (around s (slot_of s k)) (s.changes (slot_of s k)));
  gone = omega arith;
  first = first_took;
  turns = λ turn. refl;
  keeps = λ e s k ts f. transition_took e (job s k) (slot_at s (slot_of s k)) (s.changes (slot_of s k)) (around s (slot_of s k)) (stage s k) ts f;
}

pub known : (h : History) (k : ℕ) → Took (snapshots_of h k) (stage (seen h) k)
known = along snapshots_of more Took [] is_told

pub few : (h : History) (k : ℕ) → length (snapshots_of h k) ≤ 8
few h k = at_most_eight (stage (seen h) k) (snapshots_of h k) (known h k)

says_run : (ts : List Snapshot) (content : Content) (run : RunAnswer) → Some content ≡ Some (Ran run) → Says ts content → IsOfNewest ts run
says_run ts content run e says = let is : content ≡ Ran run = cc e in subst (Says ts) is says

none_isnt : {x : Content} → None ≡ Some x → ⊥
none_isnt e = cc e

said : (ts : List Snapshot) (s : Stage) (run : RunAnswer) → Took ts s → answer_at s ≡ Some (Ran run) → IsOfNewest ts run
said ts (ToRaise word content) run f e = says_run ts content run e f.1
said ts (ToAnswer content) run f e = says_run ts content run e f.1
said ts other run f e = absurd (none_isnt e)

-- a lease that is to notify took one ticket, the one whose response it sends.
pub told_newest : (h : History) (k id : ℕ) (turn : Turn) (t : Ticket) → stage (seen h) k ≡ ToTell turn (turns.ToNote (Some t) id) → (length (snapshots_of h k) ≡ 1) × IsNewest (snapshots_of h k) t
told_newest h k id turn t is = subst (Took (snapshots_of h k)) is (known h k)

pub answers_newest : (h : History) (k : ℕ) (run : RunAnswer) → answer_at (stage (seen h) k) ≡ Some (Ran run) → IsOfNewest (snapshots_of h k) run
answers_newest h k run e = said (snapshots_of h k) (stage (seen h) k) run (known h k) e

-- ---- the eighth conflict

overtaken_outcome : (t : Ticket) (slot : Slot) → wants t ≡ true → (slot.serial ≡ t.serial → ⊥) → outcome t slot ≡ Overtakes
overtaken_outcome t slot wants other = ap (λ (w : Bool). outcome_by w (slot.serial == t.serial) (nat_lt slot.serial last_serial)) wants ∙ ap (λ (c : Bool). outcome_by true c (nat_lt slot.serial last_serial)) (ne_eqb slot.serial t.serial other)

abbrev committing : ℕ → ℕ → Option Emission → Entry
committing k now o = did (Commit k now) o

-- after a commit with a conflict, its job is at the stage of another snapshot, or of a 5.03
-- (Service Unavailable).
overtaken_stage : (s : Seen) (k now : ℕ) (o : Option Emission) (w : IsOvertaken s k) → stage (and_then (committing k now o) s) k ≡ retaken w.count
overtaken_stage s k now o w =
    named_stage (committing k now o) s k (is_here s k (ToCommit w.count w.ticket) w.at (λ gone. absurd (cc gone))) refl
    ∙ (ap (λ (x : Stage). (transition (Commit k now) (at (job s k) (slot_at s (slot_of s k)) (around s (slot_of s k)) x)).stage) w.at
    ∙ ap (λ (x : CommitOutcome). (committed x w.count w.ticket now (slot_at s (slot_of s k)).serial (around s (slot_of s k))).stage) (overtaken_outcome w.ticket (slot_at s (slot_of s k)) w.wants w.other))

taken_so_far : (h : History) (k : ℕ) (w : IsOvertaken (seen h) k) → length (snapshots_of h k) ≡ w.count
taken_so_far h k w = (subst (Took (snapshots_of h k)) w.at (known h k)).0

pub eighth_ends : (h : History) (k now : ℕ) (o : Option Emission) → IsOvertaken (seen h) k → length (snapshots_of h k) ≡ 8 → stage (seen (Then h (did (Commit k now) o))) k ≡ ToAnswer Unavailable
unfolding seen
eighth_ends h k now o w is = overtaken_stage (seen h) k now o w ∙ ap (λ (n : ℕ). retaken n) (sym (taken_so_far h k w) ∙ is)

retakes : (n : ℕ) → n < 8 → TakesAgain (retaken n)
retakes n lt = subst (λ (b : Bool). TakesAgain (if b then ToTake n else ToAnswer Unavailable)) (sym (lt-ltb n 8 lt)) tt

pub earlier_retakes : (h : History) (k now : ℕ) (o : Option Emission) → IsOvertaken (seen h) k → length (snapshots_of h k) < 8 → TakesAgain (stage (seen (Then h (did (Commit k now) o))) k)
unfolding seen
earlier_retakes h k now o w lt =
    let count : length (snapshots_of h k) ≡ w.count = taken_so_far h k w in
    subst TakesAgain (sym (overtaken_stage (seen h) k now o w)) (retakes w.count (omega arith))
