-- The stages of a job.
use Rattle.std.proofs.Common.{◌≡◌, ℕ, List, [], ◌∷◌, Bool, true, false, Option, refl, ap, ◌∙◌, ◌⊎◌, inl, inr, arith, nat_lt}
use Rattle.std.specs.Prelude.{◌%◌, ◌==◌, ◌||◌}
use Rattle.std.specs.List.{list_any}
use Rattle.std.proofs.lemmas.Bool.{and_parts, eq-eqb, eqb-true}
use Rattle.coap_msg.specs.declared.types.Emission.{Emission}
use Rattle.fc_ticket.specs.declared.job.Job.{Job}
use Rattle.fc_registry.specs.Calls.{commits, outcome_by, wants}
use Rattle.fc_ticket.specs.Registrations.{is_observed}
use Rattle.fc_registry.specs.Slots.{Slot, last_serial}
use Rattle.fc_ticket.specs.Tickets.{Ticket}
use Rattle.fc_core.specs.AnswerLaws.{HasSerial}
use Rattle.fc_core.specs.declared.event.Event.TheVariants.{Commit, Peek}
use Rattle.fc_core.specs.Stage.{Stage}
use Rattle.fc_core.specs.Stage.{ToAnswer, ToCommit, ToMatch, ToTake}
use Rattle.fc_front.specs.Heads.{head_word, is_match, is_present, serial_in, word_at}
use Rattle.fc_core.specs.History.{Seen, and_then, around, did, job, slot_at, stage, watch}
use Rattle.fc_core.specs.Laws.{slot_of}
use Rattle.fc_core.specs.Transitions.{Around, Inputs, call_if, effect_of, transition}
use Rattle.fc_core.specs.Stages.{after_commit, matched_by, run_content}
use Rattle.fc_core.specs.Steps.{Matches}
use Rattle.fc_laws.proofs.jobs.Others.{is_here, named_stage}

abbrev at : Job → Slot → Around → Stage → Inputs
at job slot ws stage = record { job = job; slot = slot; around = ws; stage = stage }

-- ---- a read that finds none of the ETags

has_by : (x serial : ℕ) (xs : List ℕ) (b : Bool) → (x == serial) ≡ b → (list_any (λ y. y == serial) xs ≡ true → HasSerial xs serial)
    → (b || list_any (λ y. y == serial) xs) ≡ true → HasSerial (x ∷ xs) serial
has_by x serial xs true is more e = record { before = []; after = xs; is = ap (λ (y : ℕ). y ∷ xs) (eqb-true x serial is) }
has_by x serial xs false is more e =
    let w = more e in record { before = x ∷ w.before; after = w.after; is = ap (λ (l : List ℕ). x ∷ l) w.is }

has_one : (serials : List ℕ) (serial : ℕ) → list_any (λ x. x == serial) serials ≡ true → HasSerial serials serial
has_one [] serial e = absurd (cc e)
has_one (x ∷ xs) serial e = has_by x serial xs (x == serial) refl (has_one xs serial) e

no_match : (word : ℕ) (serials : List ℕ) (b : Bool) → is_match word serials ≡ b
    → ((serial : ℕ) → word ≡ head_word serial true → HasSerial serials serial → ⊥) → is_match word serials ≡ false
no_match word serials false is none = is
no_match word serials true is none =
    let tests = and_parts (is_present word) (list_any (λ x. x == serial_in word) serials) is in
    let odd : word % 2 ≡ 1 = eqb-true (word % 2) 1 tests.0 in
    absurd (none (serial_in word) (omega (arith, odd)) (has_one serials (serial_in word) tests.1))

pub takes_unmatched : (s : Seen) (k : ℕ) (o : Option Emission) → stage s k ≡ ToMatch
    → ((serial : ℕ) → word_at s.words (slot_of s k) ≡ head_word serial true → HasSerial (job s k).etags.items serial → ⊥)
    → stage (and_then (did (Peek k (slot_of s k)) o) s) k ≡ ToTake 0
takes_unmatched s k o is none =
    let own = slot_of s k in
    let etags = (job s k).etags.items in
    let word = word_at s.words own in
    named_stage (did (Peek k own) o) s k (is_here s k ToMatch is (λ e. absurd (cc e))) refl
    ∙ (ap (λ (st : Stage). (transition (Peek k own) (at (job s k) (slot_at s own) (around s own) st)).stage) is
    ∙ (ap (λ (b : Bool). (effect_of (Peek k own) (at (job s k) (slot_at s own) (around s own) ToMatch) (call_if b (Matches etags word))).stage)
    (eq-eqb own own refl)
    ∙ ap (λ (b : Bool). matched_by b word) (no_match word etags (is_match word etags) refl none)))

-- ---- a commit that has nothing to write

either : (t : Ticket) (b : Bool) (st : Stage) → st ≡ ToAnswer (run_content t b) → (st ≡ ToAnswer (run_content t true)) ⊎ (st ≡ ToAnswer (run_content t false))
either t true st is = inl is
either t false st is = inr is

pub answers_kept : (s : Seen) (k now count : ℕ) (t : Ticket) (o : Option Emission) → stage s k ≡ ToCommit count t → wants t ≡ false
    → (stage (and_then (did (Commit k now) o) s) k ≡ ToAnswer (run_content t true))
    ⊎ (stage (and_then (did (Commit k now) o) s) k ≡ ToAnswer (run_content t false))
answers_kept s k now count t o is keeps =
    let own = slot_of s k in
    let slot = slot_at s own in
    either t (is_observed t (watch s own)) (stage (and_then (did (Commit k now) o) s) k)
    (named_stage (did (Commit k now) o) s k (is_here s k (ToCommit count t) is (λ e. absurd (cc e))) refl
    ∙ (ap (λ (st : Stage). (transition (Commit k now) (at (job s k) slot (around s own) st)).stage) is
    ∙ ap (λ (b : Bool). after_commit count t
    (commits (outcome_by b (slot.serial == t.serial) (nat_lt slot.serial last_serial)) t slot.serial (watch s own)).answer) keeps))
