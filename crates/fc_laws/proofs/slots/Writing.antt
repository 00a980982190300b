-- A commit writes exactly if its slot is unchanged since the job's last snapshot.
use Rattle.std.proofs.Common.{◌≡◌, ℕ, ◌+◌, ◌<◌, ◌≤◌, ◌⊎◌, List, [], ◌∷◌, ◌++◌, length, Bool, true, false, Option, Some, None, refl, sym, ap, ◌∙◌, subst, ⊎_elim, arith, if◌then◌else◌, length-append, append_assoc}
use Rattle.std.specs.Prelude.{nat_lt, ◌==◌, ◌&&◌}
use borrow.Author.Tests.{ltb-true, lt-ltb}
use Rattle.std.proofs.lemmas.Bool.{cases_lt, eqb-true, eq-eqb, ne_eqb}
use Rattle.std.proofs.lemmas.List.Elements.{All-nil}
use Rattle.std.proofs.lemmas.List.{nil_from_length}
use Rattle.coap_msg.specs.declared.types.Emission.{Emission}
use Rattle.fc_help.specs.declared.request.Method.{Method}
use Rattle.fc_help.specs.declared.request.Method.TheVariants.{Get, Post}
use Rattle.fc_ticket.specs.declared.job.Job.{Job}
use Rattle.fc_registry.specs.declared.commit.CommitOutcome.{CommitOutcome}
use Rattle.fc_registry.specs.declared.commit.CommitOutcome.TheVariants.{Writes, Keeps, Overtakes, Ends}
use Rattle.fc_registry.specs.Slots.{Slot, last_serial}
use Rattle.fc_ticket.specs.Tickets.{Present, Ticket}
use Rattle.fc_registry.specs.Changes.{Change, Committed, after_changes}
use Rattle.fc_registry.specs.Record.{IsChain, code_class}
use Rattle.fc_registry.specs.Calls.{commit_of, is_out_at, is_post, outcome, outcome_by, wants}
use Rattle.fc_ticket.specs.Runs.{meaning_at}
use Rattle.fc_registry.proofs.Installs.{serials_from}
use Rattle.fc_store.specs.Stored.{StoredSlots}
use Rattle.fc_core.specs.declared.event.Event.{Event}
use Rattle.fc_core.specs.declared.event.Event.TheVariants.{Take, Commit}
use Rattle.fc_core.specs.Stage.{Stage}
use Rattle.fc_core.specs.Stage.{ToTake, ToCommit, ToTell}
use Rattle.fc_core.specs.TurnStage as turns
use Rattle.fc_front.specs.declared.policy.Policy.{Policy}
use Rattle.fc_core.specs.History.{first_slot, around, Entry, History, BeginsWith, Then, Seen, seen, and_then, begun, did, job, inputs, slot_at, stage, watch}
use Rattle.fc_core.specs.Laws.{HasCome, Snapshot, finds, finds_if, gives_at, is_named, slot_of, snapshots_of}
use Rattle.fc_laws.specs.SlotLaws.{IsUnchanged, IsWritten}
use Rattle.fc_core.specs.Sound.{IsSoundlySeen}
use Rattle.fc_core.specs.Transitions.{Around, Inputs, names, transition}
use Rattle.fc_core.proofs.ByStep.{committed}
use Rattle.fc_laws.proofs.jobs.Along.{none_after}
use Rattle.fc_core.proofs.Calling.{EntryWithin}
use Rattle.fc_core.proofs.Keeping.{grows, still_sound}
use Rattle.fc_core.proofs.Lists.{Each}
use Rattle.fc_laws.proofs.jobs.Others.{job_stays, own_slot}
use Rattle.fc_laws.proofs.jobs.Snapshots.{Took, is_told, known, more}

-- ---- the chain

begun_sound : (stored : StoredSlots) (id : ℕ) (policy : Policy) → IsSoundlySeen (begun stored id policy)
begun_sound stored id policy = record { chain = λ n. tt; within = λ k. (omega arith, tt); stages = λ k. tt; watched = λ n. All-nil EntryWithin }

pub sound : (h : History) → IsSoundlySeen (seen h)
unfolding seen
sound (BeginsWith stored id policy) = begun_sound stored id policy
sound (Then h r) = still_sound r (seen h) (sound h)

pub chains : (h : History) (n : ℕ) → IsChain (first_slot (seen h) n) ((seen h).changes n)
chains h n = (sound h).chain n

-- ---- the state of the slot that a snapshot found

-- the snapshot was taken before these changes of the job's slot, and has the serial of the slot at
-- that time.
record IsSince (s : Seen) (k : ℕ) (t : Snapshot) : Type 0 where
  since : List Change
  is : s.changes (slot_of s k) ≡ since ++ t.changes
  serial : t.ticket.serial ≡ (after_changes (first_slot s (slot_of s k)) t.changes).serial

later_since : (r : Entry) (s : Seen) (k : ℕ) (t : Snapshot) → HasCome s k → IsSince s k t → IsSince (and_then r s) k t
later_since r s k t come w =
    let g = grows s r.event (names r.event) (slot_of s k) in
    let same : slot_of (and_then r s) k ≡ slot_of s k = ap (λ (j : Job). j.origin.slot) (job_stays r s k come) in
    record {
      since = g.made ++ w.since;
      is = ap (and_then r s).changes same ∙ (g.is ∙ (ap (λ (cs : List Change). g.made ++ cs) w.is ∙ sym (append_assoc g.made w.since t.changes)));
      serial = w.serial ∙ ap (λ (m : ℕ). (after_changes (first_slot s m) t.changes).serial) (sym same);
    }

all_later : (r : Entry) (s : Seen) (k : ℕ) (ts : List Snapshot) → HasCome s k → Each (IsSince s k) ts → Each (IsSince (and_then r s) k) ts
all_later r s k [] come w = tt
all_later r s k (t ∷ ts) come w = (later_since r s k t come w.0, all_later r s k ts come w.1)

found_since : (s : Seen) (k : ℕ) (readings : List ℕ) (p : Option Present) (ts : List Snapshot) → Each (IsSince s k) ts → Each (IsSince s k) (finds (job s k) readings (slot_at s (slot_of s k)).serial p (s.changes (slot_of s k)) ++ ts)
found_since s k readings None ts w = w
found_since s k readings (Some found) ts w = (record { since = []; is = refl; serial = refl }, w)

found_since_if : (s : Seen) (k : ℕ) (readings : List ℕ) (out : Bool) (ts : List Snapshot) → Each (IsSince s k) ts → Each (IsSince s k) (finds_if out (job s k) readings (slot_at s (slot_of s k)).serial (slot_at s (slot_of s k)).present (s.changes (slot_of s k)) ++ ts)
found_since_if s k readings true ts w = found_since s k readings (slot_at s (slot_of s k)).present ts w
found_since_if s k readings false ts w = w

at_since : (s : Seen) (k : ℕ) (readings : List ℕ) (at : Stage) (ts : List Snapshot) → Each (IsSince s k) ts → Each (IsSince s k) (gives_at readings (inputs s k) at (s.changes (slot_of s k)) ++ ts)
at_since s k readings (ToTake n) ts w = found_since s k readings (slot_at s (slot_of s k)).present ts w
at_since s k readings (ToTell turn turns.ToTake) ts w = found_since_if s k readings (is_out_at turn (around s (slot_of s k)).time (watch s (slot_of s k))) ts w
at_since s k readings other ts w = w

given_since : (s : Seen) (k : ℕ) (e : Event) (ts : List Snapshot) → Each (IsSince s k) ts → Each (IsSince s k) (more e s k ts)
given_since s k (Take j true readings) ts w = at_since s k readings (stage s k) ts w
given_since s k (Take j false readings) ts w = w
given_since s k other ts w = w

since_if : (s : Seen) (k : ℕ) (e : Event) (ts : List Snapshot) (b : Bool) → Each (IsSince s k) ts → Each (IsSince s k) (if b then more e s k ts else ts)
since_if s k e ts true w = given_since s k e ts w
since_if s k e ts false w = w

since_after : (h : History) (r : Entry) (k : ℕ) → Each (IsSince (seen h) k) (snapshots_of h k) → Each (IsSince (and_then r (seen h)) k) (snapshots_of (Then h r) k)
since_after h r k w = ⊎_elim
    (λ (come : k < length (seen h).tasks). all_later r (seen h) k (snapshots_of (Then h r) k) come (since_if (seen h) k r.event (snapshots_of h k) (is_named k r.event) w))
    (λ (le : length (seen h).tasks ≤ k). subst (Each (IsSince (and_then r (seen h)) k)) (sym (none_after snapshots_of more Took [] is_told h r k le)) tt)
    (cases_lt k (length (seen h).tasks))

all_since : (h : History) (k : ℕ) → Each (IsSince (seen h) k) (snapshots_of h k)
unfolding seen
all_since (BeginsWith stored id policy) k = tt
all_since (Then h r) k = since_after h r k (all_since h k)

-- ---- the commit

none_since : (first : Slot) (cs ds since : List Change) → cs ≡ since ++ ds → (after_changes first cs).serial ≡ (after_changes first ds).serial → cs ≡ ds
none_since first cs ds since is same =
    let long : length cs ≡ length since + length ds = ap length is ∙ length-append since ds in
    let none : length since ≡ 0 = omega (arith, serials_from first cs, serials_from first ds) in
    is ∙ ap (λ (l : List Change). l ++ ds) (nil_from_length since none)

unchanged_by : (s : Seen) (k n : ℕ) (t : Ticket) (ts : List Snapshot) → Took ts (ToCommit n t) → Each (IsSince s k) ts → (slot_at s (slot_of s k)).serial ≡ t.serial → IsUnchanged ts (s.changes (slot_of s k))
unchanged_by s k n t [] took w same = absurd took.2
unchanged_by s k n t (x ∷ xs) took w same = none_since (first_slot s (slot_of s k)) (s.changes (slot_of s k)) x.changes w.0.since w.0.is (same ∙ (ap (λ (y : Ticket). y.serial) (sym took.2) ∙ w.0.serial))

serial_by : (s : Seen) (k n : ℕ) (t : Ticket) (ts : List Snapshot) → Took ts (ToCommit n t) → Each (IsSince s k) ts → IsUnchanged ts (s.changes (slot_of s k)) → (slot_at s (slot_of s k)).serial ≡ t.serial
serial_by s k n t [] took w same = absurd took.2
serial_by s k n t (x ∷ xs) took w same = ap (λ (cs : List Change). (after_changes (first_slot s (slot_of s k)) cs).serial) same ∙ (sym w.0.serial ∙ ap (λ (y : Ticket). y.serial) took.2)

took_at : (h : History) (k n : ℕ) (t : Ticket) → stage (seen h) k ≡ ToCommit n t → Took (snapshots_of h k) (ToCommit n t)
took_at h k n t is = subst (Took (snapshots_of h k)) is (known h k)

-- if the slot's serial is that of the ticket, the slot's changes are those before the job's last
-- snapshot.
pub unchanged : (h : History) (k n : ℕ) (t : Ticket) → stage (seen h) k ≡ ToCommit n t → (slot_at (seen h) (slot_of (seen h) k)).serial ≡ t.serial → IsUnchanged (snapshots_of h k) ((seen h).changes (slot_of (seen h) k))
unchanged h k n t is same = unchanged_by (seen h) k n t (snapshots_of h k) (took_at h k n t is) (all_since h k) same

pub same_serial : (h : History) (k n : ℕ) (t : Ticket) → stage (seen h) k ≡ ToCommit n t → IsUnchanged (snapshots_of h k) ((seen h).changes (slot_of (seen h) k)) → (slot_at (seen h) (slot_of (seen h) k)).serial ≡ t.serial
same_serial h k n t is same = serial_by (seen h) k n t (snapshots_of h k) (took_at h k n t is) (all_since h k) same

abbrev at : Job → Slot → Around → Stage → Inputs
at job slot ws stage = record { job = job; slot = slot; around = ws; stage = stage }

commit_changes : (s : Seen) (k now n : ℕ) (o : Option Emission) (t : Ticket) (x : CommitOutcome) → stage s k ≡ ToCommit n t → outcome t (slot_at s (slot_of s k)) ≡ x → (and_then (did (Commit k now) o) s).changes (slot_of s k) ≡ (committed x n t now (slot_at s (slot_of s k)).serial (around s (slot_of s k))).changes ++ s.changes (slot_of s k)
commit_changes s k now n o t x is comes = own_slot (did (Commit k now) o) s k refl
    ∙ (ap (λ (st : Stage). (transition (Commit k now) (at (job s k) (slot_at s (slot_of s k)) (around s (slot_of s k)) st)).changes ++ s.changes (slot_of s k)) is
    ∙ ap (λ (y : CommitOutcome). (committed y n t now (slot_at s (slot_of s k)).serial (around s (slot_of s k))).changes ++ s.changes (slot_of s k)) comes)

post_wants : (m : Method) (b : Bool) → m ≡ Post → b ≡ true → (is_post m && b) ≡ true
post_wants Get b p e = absurd (cc)
post_wants Post b p e = e

pub wanted : (t : Ticket) → t.request.method ≡ Post → code_class (meaning_at t).code ≡ 2 → wants t ≡ true
wanted t post class = post_wants t.request.method (code_class (meaning_at t).code == 2) post (eq-eqb (code_class (meaning_at t).code) 2 class)

written_outcome : (h : History) (k n : ℕ) (t : Ticket) → stage (seen h) k ≡ ToCommit n t → IsWritten h k t → outcome t (slot_at (seen h) (slot_of (seen h) k)) ≡ Writes
written_outcome h k n t is w =
    let slot = slot_at (seen h) (slot_of (seen h) k) in
    ap (λ (b : Bool). outcome_by b (slot.serial == t.serial) (nat_lt slot.serial last_serial)) (wanted t w.post w.class)
    ∙ (ap (λ (b : Bool). outcome_by true b (nat_lt slot.serial last_serial)) (eq-eqb slot.serial t.serial (same_serial h k n t is w.unchanged))
    ∙ ap (λ (b : Bool). outcome_by true true b) (lt-ltb slot.serial last_serial w.below))

pub commit_writes : (h : History) (k now n : ℕ) (o : Option Emission) (t : Ticket) → stage (seen h) k ≡ ToCommit n t → IsWritten h k t → (seen (Then h (did (Commit k now) o))).changes (slot_of (seen h) k) ≡ Committed (commit_of t) ∷ (seen h).changes (slot_of (seen h) k)
unfolding seen
commit_writes h k now n o t is w = commit_changes (seen h) k now n o t Writes is (written_outcome h k n t is w)

-- a GET wants to write nothing, and neither does a run whose code isn't of class 2.
get_wants : (m : Method) (b : Bool) → m ≡ Get → (is_post m && b) ≡ false
get_wants Get b g = refl
get_wants Post b g = absurd (cc)

error_wants : (m : Method) (a b : ℕ) → (a ≡ b → ⊥) → (is_post m && (a == b)) ≡ false
error_wants Get a b not = refl
error_wants Post a b not = ne_eqb a b not

pub unwanted : (t : Ticket) → (t.request.method ≡ Get) ⊎ (code_class (meaning_at t).code ≡ 2 → ⊥) → wants t ≡ false
unwanted t e = ⊎_elim
    (λ (g : t.request.method ≡ Get). get_wants t.request.method (code_class (meaning_at t).code == 2) g)
    (λ (not : code_class (meaning_at t).code ≡ 2 → ⊥). error_wants t.request.method (code_class (meaning_at t).code) 2 not)
    e

pub keeps_unwanted : (t : Ticket) (slot : Slot) (w : Bool) → wants t ≡ w → w ≡ false → outcome t slot ≡ Keeps
keeps_unwanted t slot w is e = ap (λ (b : Bool). outcome_by b (slot.serial == t.serial) (nat_lt slot.serial last_serial)) (is ∙ e)

-- if a transition makes no change, each slot is unchanged, whether or not it is the job's.
kept_if : (s : Seen) (e : Event) (k n : ℕ) (b : Bool) (at : Inputs) → (transition e at).changes ≡ [] → (if b then (transition e at).changes ++ s.changes n else s.changes n) ≡ s.changes n
kept_if s e k n true at is = ap (λ (cs : List Change). cs ++ s.changes n) is
kept_if s e k n false at is = refl

transition_keeps : (job : Job) (slot : Slot) (ws : Around) (k now count : ℕ) (t : Ticket) (st : Stage) → st ≡ ToCommit count t → outcome t slot ≡ Keeps → (transition (Commit k now) (at job slot ws st)).changes ≡ []
transition_keeps job slot ws k now count t st is keeps = ap (λ (x : Stage). (transition (Commit k now) (at job slot ws x)).changes) is ∙ ap (λ (o : CommitOutcome). (committed o count t now slot.serial ws).changes) keeps

unwanted_at : (s : Seen) (k now count n : ℕ) (o : Option Emission) (t : Ticket) → stage s k ≡ ToCommit count t → wants t ≡ false → (and_then (did (Commit k now) o) s).changes n ≡ s.changes n
unwanted_at s k now count n o t is w =
    let slot = slot_at s (slot_of s k) in
    kept_if s (Commit k now) k n (slot_of s k == n) (at (job s k) slot (around s (slot_of s k)) (stage s k)) (transition_keeps (job s k) slot (around s (slot_of s k)) k now count t (stage s k) is (keeps_unwanted t slot (wants t) refl w))

pub unwanted_changes_nothing : (r : Entry) (s : Seen) (k now count n : ℕ) (t : Ticket) → r.event ≡ Commit k now → stage s k ≡ ToCommit count t → (t.request.method ≡ Get) ⊎ (code_class (meaning_at t).code ≡ 2 → ⊥) → (and_then r s).changes n ≡ s.changes n
unwanted_changes_nothing r s k now count n t is st e =
    subst (λ (x : Event). (and_then (did x r.emitted) s).changes n ≡ s.changes n) (sym is) (unwanted_at s k now count n r.emitted t st (unwanted t e))

wants_post : (m : Method) (b : Bool) → (is_post m && b) ≡ true → (m ≡ Post) × (b ≡ true)
wants_post Get b e = absurd (cc)
wants_post Post b e = (refl, e)

outcome_tests : (w same below : Bool) → outcome_by w same below ≡ Writes → (w ≡ true) × (same ≡ true) × (below ≡ true)
outcome_tests false same below e = absurd (cc)
outcome_tests true false below e = absurd (cc)
outcome_tests true true false e = absurd (cc)
outcome_tests true true true e = (refl, refl, refl)

writes_written : (h : History) (k n : ℕ) (t : Ticket) → stage (seen h) k ≡ ToCommit n t → outcome t (slot_at (seen h) (slot_of (seen h) k)) ≡ Writes → IsWritten h k t
writes_written h k n t is e =
    let slot = slot_at (seen h) (slot_of (seen h) k) in
    let tests = outcome_tests (wants t) (slot.serial == t.serial) (nat_lt slot.serial last_serial) e in
    let post = wants_post t.request.method (code_class (meaning_at t).code == 2) tests.0 in
    record {
      post = post.0;
      class = eqb-true (code_class (meaning_at t).code) 2 post.1;
      unchanged = unchanged h k n t is (eqb-true slot.serial t.serial tests.1);
      below = ltb-true slot.serial last_serial tests.2;
    }

keeps_by : (h : History) (k now n : ℕ) (o : Option Emission) (t : Ticket) (x : CommitOutcome) → outcome t (slot_at (seen h) (slot_of (seen h) k)) ≡ x → stage (seen h) k ≡ ToCommit n t → (IsWritten h k t → ⊥) → (and_then (did (Commit k now) o) (seen h)).changes (slot_of (seen h) k) ≡ (seen h).changes (slot_of (seen h) k)
keeps_by h k now n o t Writes comes is not = absurd (not (writes_written h k n t is comes))
keeps_by h k now n o t Keeps comes is not = commit_changes (seen h) k now n o t Keeps is comes
keeps_by h k now n o t Overtakes comes is not = commit_changes (seen h) k now n o t Overtakes is comes
keeps_by h k now n o t Ends comes is not = commit_changes (seen h) k now n o t Ends is comes

pub commit_keeps : (h : History) (k now n : ℕ) (o : Option Emission) (t : Ticket) → stage (seen h) k ≡ ToCommit n t → (IsWritten h k t → ⊥) → (seen (Then h (did (Commit k now) o))).changes (slot_of (seen h) k) ≡ (seen h).changes (slot_of (seen h) k)
unfolding seen
commit_keeps h k now n o t is not = keeps_by h k now n o t (outcome t (slot_at (seen h) (slot_of (seen h) k))) refl is not
