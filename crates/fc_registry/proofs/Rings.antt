-- The ring of a slot after each kind of change.
use Rattle.std.proofs.Common.{◌≡◌, ℕ, ◌+◌, ◌-◌, ◌<◌, ◌≤◌, List, [], ◌∷◌, ◌++◌, length, map, set, get_or, drop, replicate, Bool, true, false, Option, Some, None, refl, sym, ap, ◌∙◌, subst, arith, max, ⊎_elim, length-append}
use Rattle.std.specs.Prelude.{nat_lt, ◌==◌, ◌&&◌, Result, Ok, Err, OnOk, OnErr}
use Rattle.std.specs.List.{All}
use Rattle.std.proofs.lemmas.Bool.{cases_lt, cases_eq, eqb-true}
use Rattle.std.proofs.lemmas.List.{get_or-set_same, get_or-set_other, get_or-map, get_or-replicate, length-map, length-replicate, length-set}
use Rattle.circular_buffer.specs.Buffer.{keep_last}
use Rattle.fc_kinds.specs.Meaning.{Program, input_with, meant}
use Rattle.fc_machine.specs.Ran.{Ran}
use Rattle.fc_observe.specs.Observers.{ObserverList}
use Rattle.fc_store.specs.Stored.{StoredProgram, StoredSlot}
use Rattle.fc_verify.specs.Accepted.{Judgement}
use Rattle.fc_registry.specs.Restored.{present_if, restored_present, restored_slot}
use Rattle.fc_registry.specs.Starts.{CanRestore, CanRestoreProgram, IsProgramState, RestoresProgram, RingContinues, RingContinuesIf}
use Rattle.fc_registry.specs.declared.body.Body.{Body}
use Rattle.fc_registry.specs.declared.slot.SlotState.{SlotState}
use Rattle.fc_registry.specs.declared.commit.Committed.{Committed as Answer}
use Rattle.fc_registry.specs.declared.commit.Committed.TheVariants.{Done, Overtaken, Ended, Stranger}
use Rattle.fc_registry.specs.Views.{as_seen, present_of}
use Rattle.fc_registry.specs.declared.commit.CommitOutcome.{CommitOutcome}
use Rattle.fc_registry.specs.declared.commit.CommitOutcome.TheVariants.{Writes, Keeps, Overtakes, Ends}
use Rattle.fc_help.specs.declared.request.Method.{Method}
use Rattle.fc_help.specs.declared.request.Method.TheVariants.{Get, Post}
use Rattle.fc_registry.specs.Calls.{IsCommit, IsOwnCommit, ComesTo, IsCurrent, commit_of, commits, is_post, wants, clear_by, install_in, put_by, remove_from}
use Rattle.fc_ticket.specs.Runs.{meaning_at}
use Rattle.fc_ticket.specs.declared.job.InitialVars.{InitialVars}
use Rattle.fc_registry.specs.declared.ring.Entry.{Entry}
use Rattle.fc_ticket.specs.declared.job.InitialVars.TheVariants.{Zeros}
use Rattle.fc_registry.specs.Laws.{AllCommits, RingBegins, vars_begun, vars_since}
use Rattle.fc_registry.proofs.Installs.{installed_size, serials_from}
use Rattle.fc_registry.specs.Slots.{Slot, new_slot, last_serial, vars_in}
use Rattle.fc_ticket.specs.Tickets.{Present, Ticket}
use Rattle.fc_registry.specs.Changes.{Change, Installed, Committed, Removed, Commit, after_changes, changed, installed, with_vars, entry_of}
use Rattle.fc_registry.specs.Record.{IsLink, IsChain, IsEntry, AreEntries, left_by, HasRecordIf, HasRingFrom, HasRingIf, HasRingSince, IsRecord, IsRing, code_class}

-- entries stay entries with one more, which begins with the variables that the others left.
entries_more : (p : Program) (serial : ℕ) (vars : List ℕ) (es : List Entry) (e : Entry) → AreEntries p serial vars es → IsEntry p (serial + length es) (left_by vars es) e → AreEntries p serial vars (es ++ e ∷ [])
entries_more p serial vars [] e a x = (subst (λ (n : ℕ). IsEntry p n vars e) (omega arith) x, tt)
entries_more p serial vars (y ∷ es) e a x = (a.0, entries_more p (serial + 1) y.after es e a.1 (subst (λ (n : ℕ). IsEntry p n (left_by y.after es) e) (omega arith) x))

left_more : (vars : List ℕ) (es : List Entry) (e : Entry) → left_by vars (es ++ e ∷ []) ≡ e.after
left_more vars [] e = refl
left_more vars (y ∷ es) e = left_more y.after es e

-- the ring's entry of a commit that is a link begins with the slot's variables.
entry_is : (slot : Slot) (c : Commit) (p : Present) → slot.present ≡ Some p → IsLink slot c → IsEntry p.program (slot.serial + 1) p.vars (entry_of (slot.serial + 1) c)
entry_is slot c p is link =
    let same : link.found ≡ p = (let s = link.present in cc) in
    record {
      serial_is = refl;
      before = link.before ∙ ap (λ (q : Present). q.vars) same;
      after = subst (λ (q : Present). c.after ≡ (meant q.program (input_with c.request q.vars c.readings)).vars) same link.after;
      post = link.post;
      class = subst (λ (q : Present). code_class (meant q.program (input_with c.request q.vars c.readings)).code ≡ 2) same link.class;
    }

abbrev with_after : Present → Commit → Present
with_after p c = record p { vars = c.after }

-- a ring of fewer than eight entries stays a ring with one more commit.
short : (p : Present) (since serial : ℕ) (first : List ℕ) (c : Commit) (ring : List Entry) → length ring < 8 → IsEntry p.program (serial + 1) p.vars (entry_of (serial + 1) c) → HasRingSince since serial first p ring
    → HasRingSince since (serial + 1) first (with_after p c) (keep_last 8 (ring ++ entry_of (serial + 1) c ∷ []))
short p since serial first c ring lt e h =
    let x = entry_of (serial + 1) c in
    let len : length (ring ++ x ∷ []) ≡ length ring + 1 = length-append ring (x ∷ []) in
    let reached = h.reached in
    let size = h.size in
    let all : length ring ≡ serial - since = omega (arith, size, lt) in
    let none : length (ring ++ x ∷ []) - 8 ≡ 0 = omega (arith, len, lt) in
    let kept : keep_last 8 (ring ++ x ∷ []) ≡ ring ++ x ∷ [] = ap (λ (k : ℕ). drop k (ring ++ x ∷ [])) none in
    let place : serial + 1 ≡ ((serial - length ring) + 1) + length ring = omega (arith, all, reached) in
    let oldest : (serial - length ring) + 1 ≡ ((serial + 1) - length (ring ++ x ∷ [])) + 1 = omega (arith, len, all, reached) in
    subst (HasRingSince since (serial + 1) first (with_after p c)) (sym kept) (record {
      version = h.version;
      reached = omega (arith, reached);
      size = omega (arith, len, all, reached, lt);
      found = h.found;
      entries = subst (λ (n : ℕ). AreEntries p.program n h.found (ring ++ x ∷ [])) oldest (entries_more p.program ((serial - length ring) + 1) h.found ring x h.entries (subst (λ (n : ℕ). IsEntry p.program n (left_by h.found ring) x) place (subst (λ (v : List ℕ). IsEntry p.program (serial + 1) v x) h.vars e)));
      vars = sym (left_more h.found ring x);
      begins = λ q. h.begins all;
    })

-- a ring of eight entries stays a ring with one more commit, which replaces the oldest.
full : (p : Present) (since serial : ℕ) (first : List ℕ) (c : Commit) (ring : List Entry) → 8 ≤ length ring → IsEntry p.program (serial + 1) p.vars (entry_of (serial + 1) c) → HasRingSince since serial first p ring
    → HasRingSince since (serial + 1) first (with_after p c) (keep_last 8 (ring ++ entry_of (serial + 1) c ∷ []))
full p since serial first c [] le e h = absurd (omega (arith, le))
full p since serial first c (y ∷ es) le e h =
    let x = entry_of (serial + 1) c in
    let len : length (es ++ x ∷ []) ≡ length es + 1 = length-append es (x ∷ []) in
    let reached = h.reached in
    let size = h.size in
    let seven : length es ≡ 7 = omega (arith, size, le) in
    let old : 8 ≤ serial - since = omega (arith, size, seven) in
    let one : length (y ∷ (es ++ x ∷ [])) - 8 ≡ 1 = omega (arith, len, seven) in
    let kept : keep_last 8 (y ∷ (es ++ x ∷ [])) ≡ es ++ x ∷ [] = ap (λ (k : ℕ). drop k (y ∷ (es ++ x ∷ []))) one in
    let place : serial + 1 ≡ (((serial - length (y ∷ es)) + 1) + 1) + length es = omega (arith, seven, old) in
    let oldest : ((serial - length (y ∷ es)) + 1) + 1 ≡ ((serial + 1) - length (es ++ x ∷ [])) + 1 = omega (arith, len, seven, old) in
    subst (HasRingSince since (serial + 1) first (with_after p c)) (sym kept) (record {
      version = h.version;
      reached = omega (arith, reached);
      size = omega (arith, len, seven, old, reached);
      found = y.after;
      entries = subst (λ (n : ℕ). AreEntries p.program n y.after (es ++ x ∷ [])) oldest (entries_more p.program (((serial - length (y ∷ es)) + 1) + 1) y.after es x h.entries.1 (subst (λ (n : ℕ). IsEntry p.program n (left_by y.after es) x) place (subst (λ (v : List ℕ). IsEntry p.program (serial + 1) v x) h.vars e)));
      vars = sym (left_more y.after es x);
      begins = λ q. absurd (omega (arith, q, len, seven, old, reached));
    })

one_more : (p : Present) (since serial : ℕ) (first : List ℕ) (c : Commit) (ring : List Entry) → IsEntry p.program (serial + 1) p.vars (entry_of (serial + 1) c) → HasRingSince since serial first p ring
    → HasRingSince since (serial + 1) first (with_after p c) (keep_last 8 (ring ++ entry_of (serial + 1) c ∷ []))
one_more p since serial first c ring e h = ⊎_elim
    (λ (lt : length ring < 8). short p since serial first c ring lt e h)
    (λ (ge : 8 ≤ length ring). full p since serial first c ring ge e h)
    (cases_lt (length ring) 8)

record_if : (serial : ℕ) (o : Option Present) (ring : List Entry) → HasRingIf serial o ring → HasRecordIf serial o ring
record_if serial None ring h = h
record_if serial (Some p) ring h = (p.version, h)

pub ring_record : (slot : Slot) → IsRing slot → IsRecord slot
ring_record slot h = record_if slot.serial slot.present slot.ring h

-- the ring of a slot stays a ring after a commit that is a link.
since_committed : (slot : Slot) (since : ℕ) (c : Commit) (link : IsLink slot c) → HasRingFrom since slot.serial link.found slot.ring
    → HasRingFrom since (slot.serial + 1) (with_after link.found c) (keep_last 8 (slot.ring ++ entry_of (slot.serial + 1) c ∷ []))
since_committed slot since c link h =
    (h.0, one_more link.found since slot.serial h.0 c slot.ring (entry_is slot c link.found link.present link) h.1, h.2)

pub ring_committed : (slot : Slot) (c : Commit) → IsLink slot c → IsRing slot → IsRing (changed slot (Committed c))
ring_committed slot c link h =
    let has : HasRingFrom link.found.version slot.serial link.found slot.ring = subst (λ (o : Option Present). HasRingIf slot.serial o slot.ring) link.present h in
    subst (λ (o : Option Present). HasRingIf (slot.serial + 1) (with_vars c.after o) (keep_last 8 (slot.ring ++ entry_of (slot.serial + 1) c ∷ []))) (sym link.present)
    (since_committed slot link.found.version c link has)

record_committed : (slot : Slot) (c : Commit) → IsLink slot c → IsRecord slot → IsRecord (changed slot (Committed c))
record_committed slot c link h =
    let has : HasRecordIf slot.serial (Some link.found) slot.ring = subst (λ (o : Option Present). HasRecordIf slot.serial o slot.ring) link.present h in
    subst (λ (o : Option Present). HasRecordIf (slot.serial + 1) (with_vars c.after o) (keep_last 8 (slot.ring ++ entry_of (slot.serial + 1) c ∷ []))) (sym link.present)
    (has.0, since_committed slot has.0 c link has.1)

-- an install begins a new, empty ring.
begun : (slot : Slot) (p : Program) (v : InitialVars) → HasRingSince (slot.serial + 1) (slot.serial + 1) (installed slot p v).vars (installed slot p v) []
begun slot p v = record { version = omega arith; reached = omega arith; size = omega arith; found = (installed slot p v).vars; entries = tt; vars = refl; begins = λ q. refl }

pub ring_installed : (slot : Slot) (p : Program) (v : InitialVars) → IsRing (changed slot (Installed p v))
ring_installed slot p v = ((installed slot p v).vars, begun slot p v, installed_size v p (vars_in slot.present))

-- the ring of a slot after a chain of changes counts from the newest install.
pub rings_follow : (serial : ℕ) (cs : List Change) → IsChain (new_slot serial) cs → IsRing (after_changes (new_slot serial) cs)
rings_follow serial [] chain = refl
rings_follow serial (Installed p v ∷ cs) chain = ring_installed (after_changes (new_slot serial) cs) p v
rings_follow serial (Committed c ∷ cs) chain = ring_committed (after_changes (new_slot serial) cs) c chain.0 (rings_follow serial cs chain.1)
rings_follow serial (Removed ∷ cs) chain = refl

-- the ring of a slot after a chain of changes begins with the variables that the newest install
-- left.
pub rings_begin : (serial : ℕ) (cs : List Change) → IsChain (new_slot serial) cs → RingBegins serial cs (after_changes (new_slot serial) cs)
rings_begin serial [] chain p e = absurd (cc)
rings_begin serial (Installed program v ∷ cs) chain p e =
    let slot = after_changes (new_slot serial) cs in
    let is : installed slot program v ≡ p = cc in
    subst (λ (q : Present). HasRingSince q.version (slot.serial + 1) (installed slot program v).vars q []) is (begun slot program v)
rings_begin serial (Committed c ∷ cs) chain p e =
    let slot = after_changes (new_slot serial) cs in
    let link = chain.0 in
    let is : with_after link.found c ≡ p = committed_is c slot.present link.found p link.present e in
    subst (λ (q : Present). HasRingSince q.version (slot.serial + 1) (vars_begun serial cs) q (keep_last 8 (slot.ring ++ entry_of (slot.serial + 1) c ∷ []))) is
    (one_more link.found link.found.version slot.serial (vars_begun serial cs) c slot.ring (entry_is slot c link.found link.present link) (rings_begin serial cs chain.1 link.found link.present))
  where
    committed_is : (c : Commit) (o : Option Present) (q p : Present) → o ≡ Some q → with_vars c.after o ≡ Some p → with_after q c ≡ p
    committed_is c None q p is e = absurd (cc)
    committed_is c (Some r) q p is e = let same : r ≡ q = cc in let left : with_after r c ≡ p = cc in subst (λ (x : Present). with_after x c ≡ p) same left
rings_begin serial (Removed ∷ cs) chain p e = absurd (cc)

pub zeros_begin : (serial : ℕ) (later earlier : List Change) (p : Program) → AllCommits later → vars_begun serial (later ++ (Installed p Zeros ∷ earlier)) ≡ replicate p.vars_size 0
zeros_begin serial [] earlier p all = refl
zeros_begin serial (Committed c ∷ later) earlier p all = zeros_begin serial later earlier p all
zeros_begin serial (Installed q v ∷ later) earlier p all = absurd all
zeros_begin serial (Removed ∷ later) earlier p all = absurd all

-- a commit that writes is a link at the state of its slot.
commit_link : (slot : Slot) (t : Ticket) → wants t ≡ true → IsCurrent t slot → IsLink slot (commit_of t)
commit_link slot t w current =
    let post = wants_post t.request.method (code_class (meaning_at t).code == 2) w in
    record {
      found = t.found;
      present = current.present;
      before = refl;
      after = refl;
      notice = refl;
      post = post.0;
      class = eqb-true (code_class (meaning_at t).code) 2 post.1;
    }
  where
    wants_post : (m : Method) (b : Bool) → (is_post m && b) ≡ true → (m ≡ Post) × (b ≡ true)
    wants_post Get b e = absurd (cc)
    wants_post Post b e = (refl, e)

-- the ring of a slot stays a record after any commit.
ring_by : (t : Ticket) (slot : Slot) (v : ObserverList) (o : CommitOutcome) → ComesTo t slot o → IsRecord slot → IsRecord (after_changes slot (commits o t slot.serial v).changes)
ring_by t slot v Writes w h = record_committed slot (commit_of t) (commit_link slot t w.0 w.1) h
ring_by t slot v Keeps w h = h
ring_by t slot v Overtakes w h = h
ring_by t slot v Ends w h = h

own_kept : (ran : Ran) (t : Ticket) (slot : Slot) (v : ObserverList) (c : Answer) (after : Slot) → IsOwnCommit ran t slot v c after → IsRecord slot → IsRecord after
own_kept ran t slot v c after w h = subst IsRecord (sym w.1.after_is) (ring_by t slot v w.1.comes_to w.1.is h)

pub ring_kept : (ran : Ran) (t : Ticket) (slot : Slot) (v : ObserverList) (c : Answer) (after : Slot) → IsCommit ran t slot v c after → IsRecord slot → IsRecord after
ring_kept ran t slot v Stranger after w h = subst IsRecord (sym w.after_is) h
ring_kept ran t slot v (Done m) after w h = own_kept ran t slot v (Done m) after w h
ring_kept ran t slot v Overtaken after w h = own_kept ran t slot v Overtaken after w h
ring_kept ran t slot v Ended after w h = own_kept ran t slot v Ended after w h

put_ring_by : (slot : Slot) (p : Program) (v : InitialVars) (b : Bool) → IsRecord slot → IsRecord (after_changes slot (put_by b slot p v).changes)
put_ring_by slot p v true h = ring_record (changed slot (Installed p v)) (ring_installed slot p v)
put_ring_by slot p v false h = h

pub ring_put : (slot : Slot) (p : Program) (v : InitialVars) → IsRecord slot → IsRecord (after_changes slot (install_in slot p v).changes)
ring_put slot p v h = put_ring_by slot p v (nat_lt slot.serial last_serial) h

clear_ring_by : (slot : Slot) (b : Bool) (p : Option Present) → IsRecord slot → IsRecord (after_changes slot (clear_by b slot.serial p).changes)
clear_ring_by slot b None h = h
clear_ring_by slot true (Some p) h = refl
clear_ring_by slot false (Some p) h = h

pub ring_clear : (slot : Slot) → IsRecord slot → IsRecord (after_changes slot (remove_from slot).changes)
ring_clear slot h = clear_ring_by slot (nat_lt slot.serial last_serial) slot.present h

-- if one slot of a list is written, and all had records and the new one has, all have records.
pub all_written : (items : List SlotState) (k : ℕ) (t : SlotState) → All (λ x. IsRecord (as_seen x)) items → IsRecord (as_seen t) → All (λ x. IsRecord (as_seen x)) (set items k t)
all_written items k t all here = λ j d lt. ⊎_elim
    (λ (e : j ≡ k). let low : k < length items = omega (arith, e, lt, length-set items k t) in subst (λ (i : ℕ). IsRecord (as_seen (get_or (set items k t) i d))) (sym e) (subst (λ (x : SlotState). IsRecord (as_seen x)) (sym (get_or-set_same items k t d low)) here))
    (λ (ne : j ≡ k → ⊥). subst (λ (x : SlotState). IsRecord (as_seen x)) (sym (get_or-set_other items k j t d ne)) (all j d (omega (arith, lt, length-set items k t))))
    (cases_eq j k)

-- slots whose views are those of new slots have records.
pub all_new : (items : List SlotState) (n serial : ℕ) → map as_seen items ≡ replicate n (new_slot serial) → All (λ x. IsRecord (as_seen x)) items
all_new items n serial is = λ j d lt.
    let count : n ≡ length items = sym (sym (length-map items as_seen) ∙ (ap length is ∙ length-replicate n (new_slot serial))) in
    let one : as_seen (get_or items j d) ≡ new_slot serial = sym (get_or-map as_seen items j d (new_slot serial) lt) ∙ (ap (λ (xs : List Slot). get_or xs j (new_slot serial)) is ∙ get_or-replicate n j (new_slot serial) (new_slot serial) (omega (arith, lt, count))) in
    subst IsRecord (sym one) refl

-- if the state of a slot is read, changed so that its record stays one, and written at its place,
-- all slots keep their records.
pub written_rings : (items : List SlotState) (k : ℕ) (was now : SlotState) → (length items ≡ 8) × All (λ x. IsRecord (as_seen x)) items → k < 8 → was ≡ get_or items k was → (IsRecord (as_seen was) → IsRecord (as_seen now)) → (length (set items k now) ≡ 8) × All (λ x. IsRecord (as_seen x)) (set items k now)
written_rings items k was now inv lt is keeps =
    let eight = inv.0 in
    let old : IsRecord (as_seen was) = subst (λ (x : SlotState). IsRecord (as_seen x)) (sym is) (inv.1 k was (omega (arith, eight, lt))) in
    (length-set items k now ∙ eight, all_written items k now inv.1 (keeps old))

pub all_seen : (items : List SlotState) (k : ℕ) → All (λ x. IsRecord (as_seen x)) items → k < length items → IsRecord (get_or (map as_seen items) k (new_slot 0))
all_seen [] k all lt = absurd (omega (arith, lt))
all_seen (x ∷ xs) k all lt = subst IsRecord (sym (get_or-map as_seen (x ∷ xs) k x (new_slot 0) lt)) (all k x lt)

-- ---- restoring

-- a program that is restored at this serial begins a new, empty ring.
ring_begun : (serial : ℕ) (p : Present) → p.version ≤ serial → HasRingSince serial serial p.vars p []
ring_begun serial p low = record { version = low; reached = omega arith; size = omega arith; found = p.vars; entries = tt; vars = refl; begins = λ q. refl }

pub restored_ring : (serial : ℕ) (b : Body) (k : StoredProgram) → IsProgramState serial k b.program.value → b.version ≡ k.version → b.vars ≡ k.vars → HasRecordIf serial (present_of (Some b)) []
restored_ring serial b k is version vars =
    let low = is.1 in
    (serial, (b.vars, ring_begun serial (record { program = b.program.value; version = b.version; vars = b.vars }) (omega (arith, version, low)), ap (λ (xs : List ℕ). length xs) vars ∙ is.2))

-- if a slot with a record is restored, or left unchanged, it has a record.
pub record_either : {X E : Type 0} (r : Result X E) (was now : SlotState) → OnOk r (IsRecord (as_seen now)) → OnErr r (now ≡ was) → IsRecord (as_seen was) → IsRecord (as_seen now)
record_either (Ok x) was now is same h = is
record_either (Err e) was now is same h = subst (λ (s : SlotState). IsRecord (as_seen s)) (sym same) h

-- ---- after a start

-- the program of a slot that was restored from this state.
restored_program : (serial : ℕ) (k : StoredProgram) (r : RestoresProgram serial k) → restored_present (Some k) ≡ Some (record { program = r.program; version = k.version; vars = k.vars })
restored_program serial k r = ap (λ (j : Judgement). present_if j k) r.judged_as

ring_started : (serial : ℕ) (o : Option StoredProgram) → CanRestoreProgram serial o → RingContinues (restored_slot (record { serial = serial; program = o })) [] (restored_slot (record { serial = serial; program = o }))
ring_started serial None can = refl
ring_started serial (Some k) can =
    let first : Option Present → Slot = λ o. record { serial = serial; notify_serial = serial; present = o; ring = [] } in
    let p : Present = record { program = can.program; version = k.version; vars = k.vars } in
    let within = can.state.1 in
    let since : serial ≡ max serial k.version = omega (arith, within) in
    subst (λ (o : Option Present). RingContinues (first o) [] (first o)) (sym (restored_program serial k can))
    (subst (λ (n : ℕ). HasRingSince n serial k.vars p []) since (ring_begun serial p within), can.state.2)

-- the ring of a slot that was restored counts from the newest install after that, or from the
-- start.
pub rings_continue : (k : StoredSlot) (cs : List Change) → CanRestore k → IsChain (restored_slot k) cs → RingContinues (restored_slot k) cs (after_changes (restored_slot k) cs)
rings_continue k [] can chain = ring_started k.serial k.program can.program
rings_continue k (Installed program v ∷ cs) can chain =
    let slot = after_changes (restored_slot k) cs in
    let since : slot.serial + 1 ≡ max k.serial (slot.serial + 1) = omega (arith, serials_from (restored_slot k) cs) in (
      subst (λ (n : ℕ). HasRingSince n (slot.serial + 1) (installed slot program v).vars (installed slot program v) []) since (begun slot program v),
      installed_size v program (vars_in slot.present),
    )
rings_continue k (Committed c ∷ cs) can chain =
    let slot = after_changes (restored_slot k) cs in
    let link = chain.0 in
    let vars = vars_since (restored_slot k) cs in
    let has : RingContinuesIf (restored_slot k) cs slot.serial (Some link.found) slot.ring =
    subst (λ (o : Option Present). RingContinuesIf (restored_slot k) cs slot.serial o slot.ring) link.present (rings_continue k cs can chain.1) in
    subst (λ (o : Option Present). RingContinuesIf (restored_slot k) (Committed c ∷ cs) (slot.serial + 1) (with_vars c.after o) (keep_last 8 (slot.ring ++ entry_of (slot.serial + 1) c ∷ []))) (sym link.present)
    (one_more link.found (max k.serial link.found.version) slot.serial vars c slot.ring (entry_is slot c link.found link.present link) has.0, has.1)
rings_continue k (Removed ∷ cs) can chain = refl
