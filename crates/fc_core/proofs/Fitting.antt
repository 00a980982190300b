-- Each transition keeps the invariants of jobs and slots.
use Rattle.std.proofs.Common.{◌≡◌, ℕ, ◌<◌, ◌≤◌, List, [], ◌∷◌, ◌++◌, Bool, true, false, Option, Some, None, length, refl, sym, ap, subst, arith, if◌then◌else◌}
use Rattle.std.specs.Prelude.{nat_lt, ◌==◌, ◌&&◌}
use Rattle.std.proofs.lemmas.Bool.{eqb-true}
use borrow.Author.Tests.{ltb-true}
use Rattle.fc_help.specs.declared.request.Method.{Method}
use Rattle.fc_help.specs.declared.request.Method.TheVariants.{Get, Post}
use Rattle.fc_help.specs.Request.{Request}
use Rattle.fc_help.specs.Layout.{FitsRegion}
use Rattle.fc_kinds.specs.Meaning.{Program, input_with}
use Rattle.fc_kinds.specs.Runnable.{IsInput}
use Rattle.fc_verify.specs.Accepted.{Judgement, Accepts, Breaks, Untypable}
use Rattle.fc_verify.specs.Judged.{judged}
use Rattle.fc_observe.specs.declared.entry.Turn.{Turn}
use Rattle.fc_ticket.specs.declared.job.Ask.{Ask}
use Rattle.fc_ticket.specs.declared.job.Ask.TheVariants.{Run, Discover}
use Rattle.fc_ticket.specs.declared.job.Job.{Job}
use Rattle.fc_ticket.specs.declared.job.InitialVars.{InitialVars}
use Rattle.fc_registry.specs.declared.commit.CommitOutcome.{CommitOutcome}
use Rattle.fc_registry.specs.declared.commit.CommitOutcome.TheVariants.{Writes, Keeps, Overtakes, Ends}
use Rattle.fc_registry.specs.Slots.{Slot, last_serial, vars_in}
use Rattle.fc_ticket.specs.Tickets.{Present, Ticket}
use Rattle.fc_registry.specs.Changes.{Change, Installed, Committed, Removed, changed, after_changes, with_vars}
use Rattle.fc_registry.specs.Record.{IsChain, IsLink, code_class}
use Rattle.fc_ticket.specs.declared.receipt.Receipt.{Receipt as Facts}
use Rattle.fc_registry.specs.Calls.{HasGiven, clear_by, commit_of, is_post, outcome, outcome_by, put_by, receipt_at, snapshot, wants, is_out_at, turn_snapshot, readings_if}
use Rattle.fc_ticket.specs.Runs.{input_of, meaning_at, receipt_of, request_of, initial_vars_of}
use Rattle.fc_core.specs.declared.event.Event.{Event}
use Rattle.fc_core.specs.Stage.{Stage}
use Rattle.fc_core.specs.Stage.{ToTake, ToCommit, ToInstall, ToList, ToAnswer, ToTell}
use Rattle.fc_core.specs.TurnStage.{TurnStage}
use Rattle.fc_core.specs.TurnStage as turns
use Rattle.fc_front.specs.Contents.{Listed, Unavailable}
use Rattle.fc_front.specs.Heads.{is_match, word_at}
use Rattle.fc_core.specs.Fits.{FitsPresent, FitsSlot, FitsStage, FitsTurn, HasNext, IsTicketOf}
use Rattle.fc_front.specs.Receiving.{AskWithin}
use Rattle.fc_core.specs.Sound.{AllSafe}
use Rattle.fc_core.specs.Stages.{first_by, first_or_turn, first_stage, image_of, made, matched_by, removed, receipt_content, took, turn_took, with_id}
use Rattle.fc_core.specs.Transitions.{Around, Inputs, transition, install_call, install_if}
use Rattle.fc_registry.proofs.Installs.{installed_size}
use Rattle.fc_core.specs.Steps.{Installs, Removes, changes_of_call, next_stage}
use Rattle.fc_core.proofs.ByStep.{Step, by_effect, effect_by, stage_by, committed}
use Rattle.fc_core.proofs.ByStep as steps

-- ---- slots

changed_rises : (slot : Slot) (c : Change) → slot.serial < (changed slot c).serial
changed_rises slot (Installed p v) = omega arith
changed_rises slot (Committed c) = omega arith
changed_rises slot Removed = omega arith

pub after_rises : (slot : Slot) (cs : List Change) → slot.serial ≤ (after_changes slot cs).serial
after_rises slot [] = omega arith
after_rises slot (c ∷ cs) = omega (arith, after_rises slot cs, changed_rises (after_changes slot cs) c)

pub after_changes-append : (slot : Slot) (cs ds : List Change) → after_changes slot (cs ++ ds) ≡ after_changes (after_changes slot ds) cs
after_changes-append slot [] ds = refl
after_changes-append slot (c ∷ cs) ds = ap (λ s. changed s c) (after_changes-append slot cs ds)

-- ---- stages

given_changed : (slot : Slot) (t : Ticket) (cs : List Change) → HasGiven slot t → HasGiven (after_changes slot cs) t
given_changed slot t [] g = g
given_changed slot t (c ∷ cs) g =
    let le = after_rises slot cs in
    let lt = changed_rises (after_changes slot cs) c in
    record { serial = omega (arith, g.serial); present = λ e. absurd (omega (arith, g.serial, e)) }

ticket_changed : (job : Job) (slot : Slot) (t : Ticket) (cs : List Change) → IsTicketOf job slot t → IsTicketOf job (after_changes slot cs) t
ticket_changed job slot t cs own = record { origin = own.origin; turn = own.turn; request = own.request; given = given_changed slot t cs own.given }

turn_changed : (job : Job) (slot : Slot) (needs : TurnStage) (cs : List Change) → FitsTurn job slot needs → FitsTurn job (after_changes slot cs) needs
turn_changed job slot (turns.ToDraw (Some t)) cs own = ticket_changed job slot t cs own
turn_changed job slot (turns.ToDraw None) cs own = tt
turn_changed job slot (turns.ToNote (Some t) id) cs own = ticket_changed job slot t cs own
turn_changed job slot (turns.ToNote None id) cs own = tt
turn_changed job slot turns.ToTake cs own = tt

-- a job that fits its slot fits it after each list of changes.
pub fits_changed : (job : Job) (slot : Slot) (s : Stage) (cs : List Change) → FitsStage job slot s → FitsStage job (after_changes slot cs) s
fits_changed job slot (ToCommit n t) cs f = (f.0, ticket_changed job slot t cs f.1, f.2)
fits_changed job slot (ToTell turn needs) cs f = (f.0, f.1, turn_changed job slot needs cs f.2)
fits_changed job slot other cs f = f

-- if a job lists head words, at least one is left to read.
pub fits_next : (job : Job) (slot : Slot) (s : Stage) → FitsStage job slot s → HasNext s
fits_next job slot (ToList seen) f = f
fits_next job slot other f = tt

first_ask_fits : (job : Job) (slot : Slot) → job.turn ≡ None → (ask : Ask) (serials : List ℕ) → FitsStage job slot (first_by ask serials)
first_ask_fits job slot none (Run request) [] = (omega arith, none)
first_ask_fits job slot none (Run request) (x ∷ xs) = none
first_ask_fits job slot none Discover serials = omega arith
first_ask_fits job slot none other serials = tt

first_turn_fits : (job : Job) (slot : Slot) (turn : Option ℕ) → job.turn ≡ turn → FitsStage job slot (first_or_turn turn job)
first_turn_fits job slot None none = first_ask_fits job slot none job.ask job.etags.items
first_turn_fits job slot (Some number) is = (refl, is, tt)

pub first_fits : (job : Job) (slot : Slot) → FitsStage job slot (first_stage job)
first_fits job slot = first_turn_fits job slot job.turn refl

took_fits : (kept : Option (List ℕ)) (job : Job) (slot : Slot) (n : ℕ) (p : Option Present) → slot.present ≡ p → n < 8 → job.turn ≡ None → FitsStage job slot (took n (snapshot kept job slot.serial p))
took_fits kept job slot n None e lt none = tt
took_fits (Some readings) job slot n (Some p) e lt none = (omega arith, record { origin = refl; turn = refl; request = refl; given = record { serial = omega arith; present = λ _. e } }, none)
took_fits None job slot n (Some p) e lt none = tt

turn_fits : (kept : Option (List ℕ)) (job : Job) (slot : Slot) (turn : Turn) (out : Bool) (p : Option Present) → slot.present ≡ p → turn.slot ≡ job.origin.slot → job.turn ≡ Some turn.number → FitsStage job slot (turn_took turn (turn_snapshot out kept job slot.serial p))
turn_fits kept job slot turn false p e own number = tt
turn_fits kept job slot turn true None e own number = (own, number, tt)
turn_fits (Some readings) job slot turn true (Some p) e own number = (own, number, record { origin = refl; turn = refl; request = refl; given = record { serial = omega arith; present = λ _. e } })
turn_fits None job slot turn true (Some p) e own number = (own, number, tt)

retaken_fits : (job : Job) (slot : Slot) (n : ℕ) (b : Bool) → job.turn ≡ None → nat_lt n 8 ≡ b → FitsStage job slot (if b then ToTake n else ToAnswer Unavailable)
retaken_fits job slot n true none e = (ltb-true n 8 e, none)
retaken_fits job slot n false none e = tt

committed_fits : (job : Job) (slot : Slot) (n : ℕ) (t : Ticket) (o : CommitOutcome) (now : ℕ) (ws : Around) → t.origin ≡ job.origin → job.turn ≡ None → FitsStage job slot (committed o n t now slot.serial ws).stage
committed_fits job slot n t Writes now ws own none = own
committed_fits job slot n t Keeps now ws own none = own
committed_fits job slot n t Overtakes now ws own none = retaken_fits job slot n (nat_lt n 8) none refl
committed_fits job slot n t Ends now ws own none = tt

made_fits : (job : Job) (slot : Slot) (b : Bool) (p : Program) (v : InitialVars) → FitsStage job slot (made (receipt_of p 0) (put_by b slot p v).answer)
made_fits job slot true p v = tt
made_fits job slot false p v = tt

installed_fits : (job : Job) (slot : Slot) (v : InitialVars) (j : Judgement) → FitsStage job slot (next_stage (install_call v j slot))
installed_fits job slot v (Accepts p) = made_fits job slot (nat_lt slot.serial last_serial) p v
installed_fits job slot v (Breaks rule k) = tt
installed_fits job slot v Untypable = tt

verified_fits : (memory : Bool) (s : Inputs) → FitsStage s.job s.slot (next_stage (install_if memory (initial_vars_of s.job.ask) (judged (image_of s.job.ask)) s.slot))
verified_fits true s = installed_fits s.job s.slot (initial_vars_of s.job.ask) (judged (image_of s.job.ask))
verified_fits false s = tt

abbrev at : Job → Slot → Around → Stage → Inputs
at job slot ws stage = record { job = job; slot = slot; around = ws; stage = stage }

clear_fits : (job : Job) (slot : Slot) (below : Bool) (serial : ℕ) (p : Option Present) → FitsStage job slot (removed (clear_by below serial p).answer)
clear_fits job slot below serial None = tt
clear_fits job slot true serial (Some p) = tt
clear_fits job slot false serial (Some p) = tt

told_fits : (job : Job) (slot : Slot) (receipt : Option Facts) → FitsStage job slot (ToAnswer (receipt_content receipt))
told_fits job slot None = tt
told_fits job slot (Some receipt) = tt

matched_fits : (job : Job) (slot : Slot) (b : Bool) (word : ℕ) → job.turn ≡ None → FitsStage job slot (matched_by b word)
matched_fits job slot true word none = tt
matched_fits job slot false word none = (omega arith, none)

listed_fits : (job : Job) (slot : Slot) (b : Bool) (words : List ℕ) → nat_lt (length words) 64 ≡ b → FitsStage job slot (if b then ToList (record { items = words }) else ToAnswer (Listed words))
listed_fits job slot true words e = ltb-true (length words) 64 e
listed_fits job slot false words e = tt

drawn_fits : (job : Job) (slot : Slot) (found : Option Ticket) (free : Option ℕ) → FitsTurn job slot (turns.ToDraw found) → FitsTurn job slot (with_id found free)
drawn_fits job slot (Some t) (Some id) own = own
drawn_fits job slot (Some t) None own = own
drawn_fits job slot None (Some id) own = tt
drawn_fits job slot None None own = tt

step_fits : (c : Step) (job : Job) (slot : Slot) (ws : Around) → FitsStage job slot (stage_by c) → FitsStage job slot (effect_by c job slot ws).stage
step_fits (steps.Matches n) job slot ws f = matched_fits job slot (is_match (word_at ws.common.words n) job.etags.items) (word_at ws.common.words n) f
step_fits (steps.Lists n seen) job slot ws f = listed_fits job slot (nat_lt (length (seen.items ++ word_at ws.common.words n ∷ [])) 64) (seen.items ++ word_at ws.common.words n ∷ []) refl
step_fits steps.Removes job slot ws f = clear_fits job slot (nat_lt slot.serial last_serial) slot.serial slot.present
step_fits steps.Describes job slot ws f = told_fits job slot (receipt_at slot.present)
step_fits (steps.Takes memory readings n) job slot ws f = took_fits (readings_if memory readings) job slot n slot.present refl f.0 f.1
step_fits (steps.TakesTurn memory readings turn) job slot ws f = turn_fits (readings_if memory readings) job slot turn (is_out_at turn ws.time ws.watch) slot.present refl f.0 f.1
step_fits (steps.Commits now n t) job slot ws f = committed_fits job slot n t (outcome t slot) now ws f.1.origin f.2
step_fits (steps.Installs memory) job slot ws f = verified_fits memory (at job slot ws ToInstall)
step_fits (steps.Raises word content) job slot ws f = f
step_fits (steps.Draws now turn found) job slot ws f = (f.0, f.1, drawn_fits job slot found (ws.common.free now) f.2)
step_fits other job slot ws f = tt

-- a job that fits its slot fits the slot after each transition of the job.
pub transition_fits : (e : Event) (job : Job) (slot : Slot) (ws : Around) (s : Stage) → FitsStage job slot s → FitsStage job slot (transition e (at job slot ws s)).stage
transition_fits e job slot ws s =
    by_effect (λ st m. FitsStage job slot st → FitsStage job slot m.stage) job slot ws
    (λ c asked. step_fits c job slot ws) (λ st f. f) e s

-- ---- the chain

wants_post : (m : Method) (b : Bool) → (is_post m && b) ≡ true → (m ≡ Post) × (b ≡ true)
wants_post Get b e = absurd (cc)
wants_post Post b e = (refl, e)

outcome_tests : (w same below : Bool) → outcome_by w same below ≡ Writes → (w ≡ true) × (same ≡ true)
outcome_tests false same below e = absurd (cc)
outcome_tests true false below e = absurd (cc)
outcome_tests true true false e = absurd (cc)
outcome_tests true true true e = (refl, refl)

-- a commit that writes finds its slot in the state of the ticket.
pub writes_found : (slot : Slot) (t : Ticket) → HasGiven slot t → outcome t slot ≡ Writes → slot.present ≡ Some t.found
writes_found slot t g e =
    let tests = outcome_tests (wants t) (slot.serial == t.serial) (nat_lt slot.serial last_serial) e in
    g.present (sym (eqb-true slot.serial t.serial tests.1))

-- a commit that writes is a link of the slot's chain.
writes_link : (slot : Slot) (t : Ticket) → HasGiven slot t → outcome t slot ≡ Writes → IsLink slot (commit_of t)
writes_link slot t g e =
    let tests = outcome_tests (wants t) (slot.serial == t.serial) (nat_lt slot.serial last_serial) e in
    let post = wants_post t.request.method (code_class (meaning_at t).code == 2) tests.0 in
    record {
      found = t.found;
      present = writes_found slot t g e;
      before = refl;
      after = refl;
      notice = refl;
      post = post.0;
      class = eqb-true (code_class (meaning_at t).code) 2 post.1;
    }

commit_chain : (first : Slot) (cs : List Change) (n : ℕ) (t : Ticket) (now : ℕ) (ws : Around) (o : CommitOutcome) → outcome t (after_changes first cs) ≡ o → HasGiven (after_changes first cs) t → IsChain first cs → IsChain first ((committed o n t now (after_changes first cs).serial ws).changes ++ cs)
commit_chain first cs n t now ws Writes e g chain = (writes_link (after_changes first cs) t g e, chain)
commit_chain first cs n t now ws Keeps e g chain = chain
commit_chain first cs n t now ws Overtakes e g chain = chain
commit_chain first cs n t now ws Ends e g chain = chain

put_chain : (first : Slot) (cs : List Change) (b : Bool) (slot : Slot) (p : Program) (v : InitialVars) → IsChain first cs → IsChain first (changes_of_call (Installs p v (put_by b slot p v).answer) ++ cs)
put_chain first cs true slot p v chain = chain
put_chain first cs false slot p v chain = chain

installed_chain : (first : Slot) (cs : List Change) (v : InitialVars) (j : Judgement) (slot : Slot) → IsChain first cs → IsChain first (changes_of_call (install_call v j slot) ++ cs)
installed_chain first cs v (Accepts p) slot chain = put_chain first cs (nat_lt slot.serial last_serial) slot p v chain
installed_chain first cs v (Breaks rule k) slot chain = chain
installed_chain first cs v Untypable slot chain = chain

verified_chain : (memory : Bool) (first : Slot) (cs : List Change) (s : Inputs) → IsChain first cs → IsChain first (changes_of_call (install_if memory (initial_vars_of s.job.ask) (judged (image_of s.job.ask)) s.slot) ++ cs)
verified_chain true first cs s chain = installed_chain first cs (initial_vars_of s.job.ask) (judged (image_of s.job.ask)) s.slot chain
verified_chain false first cs s chain = chain

clear_chain : (first : Slot) (cs : List Change) (below : Bool) (serial : ℕ) (p : Option Present) → IsChain first cs → IsChain first (changes_of_call (Removes (clear_by below serial p).answer) ++ cs)
clear_chain first cs below serial None chain = chain
clear_chain first cs true serial (Some p) chain = chain
clear_chain first cs false serial (Some p) chain = chain

step_chain : (c : Step) (job : Job) (first : Slot) (cs : List Change) (ws : Around) → FitsStage job (after_changes first cs) (stage_by c) → IsChain first cs → IsChain first ((effect_by c job (after_changes first cs) ws).changes ++ cs)
step_chain steps.Removes job first cs ws f chain = clear_chain first cs (nat_lt (after_changes first cs).serial last_serial) (after_changes first cs).serial (after_changes first cs).present chain
step_chain (steps.Commits now n t) job first cs ws f chain = commit_chain first cs n t now ws (outcome t (after_changes first cs)) refl f.1.given chain
step_chain (steps.Installs memory) job first cs ws f chain = verified_chain memory first cs (at job (after_changes first cs) ws ToInstall) chain
step_chain other job first cs ws f chain = chain

pub transition_chain : (e : Event) (job : Job) (first : Slot) (cs : List Change) (ws : Around) (s : Stage) → FitsStage job (after_changes first cs) s → IsChain first cs → IsChain first ((transition e (at job (after_changes first cs) ws s)).changes ++ cs)
transition_chain e job first cs ws s =
    by_effect (λ st m. FitsStage job (after_changes first cs) st → IsChain first cs → IsChain first (m.changes ++ cs)) job (after_changes first cs) ws
    (λ c asked. step_chain c job first cs ws) (λ st f chain. chain) e s

-- ---- safe programs

request_fits : (ask : Ask) → AskWithin ask → FitsRegion (request_of ask)
request_fits (Run request) f = record { query = f.0; payload = f.1 }
request_fits other f = record { query = omega arith; payload = omega arith }

-- the variables of a program that fits, and the request of a job within its limits, are an input of
-- the program.
pub is_input : (job : Job) (p : Present) (request : Request) (readings : List ℕ) → AskWithin job.ask → request ≡ request_of job.ask → FitsPresent p → IsInput p.program (input_with request p.vars readings)
is_input job p request readings within is fits = record { fits = subst FitsRegion (sym is) (request_fits job.ask within); vars = fits.vars }

written_fits : (job : Job) (slot : Slot) (t : Ticket) → AskWithin job.ask → IsTicketOf job slot t → slot.present ≡ Some t.found → FitsSlot slot.present → FitsSlot (with_vars (meaning_at t).vars slot.present)
written_fits job slot t within own e fits =
    let found : FitsPresent t.found = subst FitsSlot e fits in
    let runs = found.safe.runs.run (input_of t) (is_input job t.found t.request t.readings within own.request found) in
    let here : FitsPresent (record t.found { vars = (meaning_at t).vars }) = record { safe = found.safe; vars = runs.vars } in
    subst (λ (p : Option Present). FitsSlot (with_vars (meaning_at t).vars p)) (sym e) here

commit_safe : (job : Job) (slot : Slot) (n : ℕ) (t : Ticket) (now : ℕ) (ws : Around) (o : CommitOutcome) → outcome t slot ≡ o → AskWithin job.ask → IsTicketOf job slot t → FitsSlot slot.present → FitsSlot (after_changes slot (committed o n t now slot.serial ws).changes).present
commit_safe job slot n t now ws Writes e within own fits = written_fits job slot t within own (writes_found slot t own.given e) fits
commit_safe job slot n t now ws Keeps e within own fits = fits
commit_safe job slot n t now ws Overtakes e within own fits = fits
commit_safe job slot n t now ws Ends e within own fits = fits

put_safe : (slot : Slot) (b : Bool) (p : Program) (v : InitialVars) → AllSafe (changes_of_call (Installs p v (put_by b slot p v).answer)) → FitsSlot slot.present
    → FitsSlot (after_changes slot (changes_of_call (Installs p v (put_by b slot p v).answer))).present
put_safe slot true p v safe fits = record { safe = safe.0; vars = installed_size v p (vars_in slot.present) }
put_safe slot false p v safe fits = fits

installed_safe : (slot : Slot) (v : InitialVars) (j : Judgement) → AllSafe (changes_of_call (install_call v j slot)) → FitsSlot slot.present → FitsSlot (after_changes slot (changes_of_call (install_call v j slot))).present
installed_safe slot v (Accepts p) safe fits = put_safe slot (nat_lt slot.serial last_serial) p v safe fits
installed_safe slot v (Breaks rule k) safe fits = fits
installed_safe slot v Untypable safe fits = fits

verified_safe : (memory : Bool) (s : Inputs) → AllSafe (changes_of_call (install_if memory (initial_vars_of s.job.ask) (judged (image_of s.job.ask)) s.slot)) → FitsSlot s.slot.present → FitsSlot (after_changes s.slot (changes_of_call (install_if memory (initial_vars_of s.job.ask) (judged (image_of s.job.ask)) s.slot))).present
verified_safe true s safe fits = installed_safe s.slot (initial_vars_of s.job.ask) (judged (image_of s.job.ask)) safe fits
verified_safe false s safe fits = fits

clear_safe : (slot : Slot) (below : Bool) (serial : ℕ) (p : Option Present) → FitsSlot slot.present → FitsSlot (after_changes slot (changes_of_call (Removes (clear_by below serial p).answer))).present
clear_safe slot below serial None fits = fits
clear_safe slot true serial (Some p) fits = tt
clear_safe slot false serial (Some p) fits = fits

step_safe : (c : Step) (job : Job) (slot : Slot) (ws : Around) → AskWithin job.ask → FitsStage job slot (stage_by c) → AllSafe (effect_by c job slot ws).changes → FitsSlot slot.present → FitsSlot (after_changes slot (effect_by c job slot ws).changes).present
step_safe steps.Removes job slot ws within f safe fits = clear_safe slot (nat_lt slot.serial last_serial) slot.serial slot.present fits
step_safe (steps.Commits now n t) job slot ws within f safe fits = commit_safe job slot n t now ws (outcome t slot) refl within f.1 fits
step_safe (steps.Installs memory) job slot ws within f safe fits = verified_safe memory (at job slot ws ToInstall) safe fits
step_safe other job slot ws within f safe fits = fits

pub transition_safe : (e : Event) (job : Job) (slot : Slot) (ws : Around) (s : Stage) → AskWithin job.ask → FitsStage job slot s → AllSafe (transition e (at job slot ws s)).changes → FitsSlot slot.present → FitsSlot (after_changes slot (transition e (at job slot ws s)).changes).present
transition_safe e job slot ws s within =
    by_effect (λ st m. FitsStage job slot st → AllSafe m.changes → FitsSlot slot.present → FitsSlot (after_changes slot m.changes).present) job slot ws
    (λ c asked. step_safe c job slot ws within) (λ st f safe fits. fits) e s
