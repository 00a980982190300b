-- The slots that a start finds at each place of a server's history.
use Rattle.std.proofs.Common.{◌≡◌, ◌≢◌, ℕ, ◌-◌, ◌/◌, ◌%◌, ◌<◌, Bool, true, false, List, [], ◌∷◌, ◌++◌, length, Option, Some, None, refl, sym, ap, ◌∙◌, subst, inl, inr, ⊎_elim, arith}
use Rattle.std.specs.Prelude.{◌==◌, if◌then◌else◌, is_some}
use Rattle.std.proofs.lemmas.Bool.Decides.{nat_tests}
use Rattle.std.proofs.lemmas.List.{get_or-set_other, get_or-set_same, length-set, map-append}
use Rattle.std.proofs.lemmas.List.Elements.{filter-append}
use native.Mathlib.Decide.{ℕ_discrete}
use Rattle.fc_store.specs.declared.store.SlotUpdate.{SlotUpdate}
use Rattle.fc_store.specs.declared.store.Store.{Ghosts}
use Rattle.fc_store.specs.Stored.{StoredSlot, StoredSlots}
use Rattle.fc_store.specs.Updates.{AreSameSlots, slot_after, slots_after}
use Rattle.fc_verify.specs.Accepted.{Accepts}
use Rattle.fc_verify.specs.Judged.{judged}
use Rattle.fc_ticket.specs.declared.job.Job.{Job}
use Rattle.fc_registry.specs.Changes.{changed}
use Rattle.fc_registry.specs.Plans.{IsPlanned, IsStoredOf, IsStoredProgram}
use Rattle.fc_registry.specs.Shards.{shard_at, slot_in_shards}
use Rattle.fc_registry.specs.Slots.{Shard, Slot, new_slot, slot_in, with_slot}
use Rattle.fc_registry.proofs.Plans.{kept_changed}
use Rattle.fc_core.specs.declared.stage.Task.{Task}
use Rattle.fc_core.specs.History.{History}
use Rattle.fc_core.specs.Stage.{Stage}
use Rattle.fc_core.specs.Stages.{image_of, new_task}
use Rattle.fc_store.specs.Recovery.{HasRefusedUpdate, MayBeFound, Save, SavesAll, stored_after}
use Rattle.fc_store.specs.Saves.{SavesUpdate}
use Rattle.fc_store.proofs.Recovery.{stays_ready, stored_are}
use Rattle.fc_calls.specs.Kept.{HasEightSlots}
use Rattle.fc_calls.specs.Logged.{InstallsProgram}
use Rattle.fc_server.specs.Serving.{Serves}
use Rattle.fc_server.specs.States.{ServerState}
use Rattle.fc_linear.specs.Operations.{LogEntry, Logged, Operation, ServerPart, ShardDoes, StageMoves, is_shard, job_brought, part_of}
use Rattle.fc_linear.specs.Parts.{BringsItsJob, FollowsStages, LeadInOrder, RightByParts, concerns, history_on, of_job, of_shard}
use Rattle.fc_linear.proofs.Firsts.{entry_for}
use Rattle.fc_linear.proofs.ForJobs.{below_eight}
use Rattle.fc_linear.proofs.Ordered.{whole}
use Rattle.fc_linear.proofs.Prefixes.{RightWithShards, eight_shards, first_right}
use Rattle.fc_filed.specs.declared.entry.FiledEntry.{FiledEntry}
use Rattle.fc_filed.specs.Entries.{AreKeyed, EntriesLead, IsKeyed, IsOfSavedSlot, log_entry, log_of, shard_entries, store_entries}
use Rattle.fc_filed.specs.Recovered.{AreStoredAtFirst, FindsHistory, HaveSavedOrder, IsStoredOrInitial, saves_of, saves_onto, with_save}
use Rattle.fc_filed.specs.Saves.{AreRaised, ChangesAsSaved, FindsRaised, InstallsImageOfJob, MakesIfStored, SavesAs, ShardSteps, StoreSteps}
use Rattle.fc_filed.proofs.Leading.{lead_log}
use Rattle.fc_filed.proofs.Saving.{same_raised}
use Rattle.fc_filed.proofs.Shards.{shard_led}

-- ---- the first entries of a list

-- the state to which the first entries lead a part.
led_first : {S : Type 0} (Steps : FiledEntry → S → S → Type 0) (es fs : List FiledEntry) (x y : S) → EntriesLead Steps (es ++ fs) x y → (m : S) × EntriesLead Steps es x m × EntriesLead Steps fs m y
led_first Steps [] fs x y led = (x, refl, led)
led_first Steps (e ∷ es) fs x y led =
    let rest = led_first Steps es fs led.0 y led.2 in
    (rest.0, (led.0, led.1, rest.1), rest.2)

keyed_first : (first_job : ℕ) (es fs : List FiledEntry) → AreKeyed first_job (es ++ fs) → AreKeyed first_job es
keyed_first first_job [] fs keyed = tt
keyed_first first_job (e ∷ es) fs keyed = (keyed.0, keyed_first first_job es fs keyed.1)

-- ---- the entries of a shard, as a log

logged_if : (b : Bool) (first_job : ℕ) (e : FiledEntry) (log : List LogEntry) (es : List FiledEntry) → log ≡ log_of first_job es
    → (if b then log_entry first_job e ∷ log else log) ≡ log_of first_job (if b then e ∷ es else es)
logged_if true first_job e log es is = ap (λ (l : List LogEntry). log_entry first_job e ∷ l) is
logged_if false first_job e log es is = is

shard_logged : (i first_job : ℕ) (es : List FiledEntry) → of_shard i (log_of first_job es) ≡ log_of first_job (shard_entries i es)
shard_logged i first_job [] = refl
shard_logged i first_job (e ∷ es) = logged_if (is_shard i (part_of e.operation)) first_job e (of_shard i (log_of first_job es)) (shard_entries i es) (shard_logged i first_job es)

-- ---- the programs of installs

abbrev AllVerified : List FiledEntry → Type 0
AllVerified [] = Unit {0}
AllVerified (e ∷ es) = InstallsImageOfJob e.operation × AllVerified es

abbrev LogVerified : List LogEntry → Type 0
LogVerified [] = Unit {0}
LogVerified (e ∷ es) = InstallsImageOfJob e.operation × LogVerified es

-- the operation of a job at a stage is verified, and so is one that produces a job.
moves_verified : (operation : Operation) (job : Job) (s t : Stage) → StageMoves operation job s t → InstallsImageOfJob operation
moves_verified (Logged (InstallsProgram j program made)) job s t moves = subst (λ (k : Job). judged (image_of k.ask) ≡ Accepts program) (sym moves.0) moves.1
moves_verified operation job s t moves = tt

brings_verified : (operation : Operation) (job : Job) → job_brought operation ≡ Some job → InstallsImageOfJob operation
brings_verified (Logged (InstallsProgram j program made)) job brought = absurd (cc brought)
brings_verified operation job brought = tt

follows_verified : (log : List LogEntry) (task : Task) → FollowsStages log task → LogVerified log
follows_verified [] task follows = tt
follows_verified (e ∷ es) task follows =
    (moves_verified e.operation task.job task.stage follows.0 follows.1, follows_verified es (record { job = task.job; stage = follows.0 }) follows.2)

job_verified : (log : List LogEntry) → BringsItsJob log → LogVerified log
job_verified [] brings = tt
job_verified (e ∷ es) brings = (brings_verified e.operation brings.0 brings.1, follows_verified es (new_task brings.0) brings.2)

is_itself : (k : ℕ) → (k == k) ≡ true
is_itself k = grind (arith, nat_tests)

-- an install is among the entries of its job.
head_verified : (k : ℕ) (operation : Operation) (log : List LogEntry) → LogVerified (if concerns k (entry_for k operation) then entry_for k operation ∷ log else log) → InstallsImageOfJob operation
head_verified k (Logged (InstallsProgram job program made)) log all =
    (subst (λ (b : Bool). LogVerified (if b then entry_for k (Logged (InstallsProgram job program made)) ∷ log else log)) (is_itself k) all).0
head_verified k operation log all = tt

rest_verified : (b : Bool) (e : LogEntry) (log : List LogEntry) → LogVerified (if b then e ∷ log else log) → LogVerified log
rest_verified true e log all = all.1
rest_verified false e log all = all

-- if the entries of each job are verified, all are.
all_verified : (first_job : ℕ) (es : List FiledEntry) → ((k : ℕ) → LogVerified (of_job k (log_of first_job es))) → AllVerified es
all_verified first_job [] each = tt
all_verified first_job (e ∷ es) each = (
  head_verified (e.job - first_job) e.operation (of_job (e.job - first_job) (log_of first_job es)) (each (e.job - first_job)),
  all_verified first_job es (λ k. rest_verified (concerns k (log_entry first_job e)) (log_entry first_job e) (of_job k (log_of first_job es)) (each k)),
)

-- ---- the store

module _ {S : Type 0} (g : Ghosts S) (first : S) where
  -- the saves of the entries lead the store, if those of all but the first one do.
  one_saved : (e : FiledEntry) (o : Option Save) (es : List FiledEntry) (saves : List Save) (x y : S) → e.save ≡ o → SavesAll g saves first x
      → EntriesLead (StoreSteps g) (if is_some o then e ∷ store_entries es else store_entries es) x y
      → ((more : List Save) (m : S) → SavesAll g more first m → EntriesLead (StoreSteps g) (store_entries es) m y → SavesAll g (saves_onto more es) first y)
      → SavesAll g (saves_onto (with_save o saves) es) first y
  one_saved e None es saves x y is all led rest = rest saves x all led
  one_saved e (Some save) es saves x y is all led rest = rest (save ∷ saves) led.0 (x, all, subst (λ (o : Option Save). SavesAs g o x led.0) is led.1) led.2

  -- the saves of the entries lead the store.
  all_saved : (es : List FiledEntry) (saves : List Save) (x y : S) → SavesAll g saves first x → EntriesLead (StoreSteps g) (store_entries es) x y → SavesAll g (saves_onto saves es) first y
  all_saved [] saves x y all led = subst (λ (s : S). SavesAll g saves first s) (sym led) all
  all_saved (e ∷ es) saves x y all led = one_saved e e.save es saves x y refl all led (λ more m before rest. all_saved es more m y before rest)

-- slots that a start may find after these saves, if the server began with these slots, some of them
-- at a higher serial.
abbrev IsFoundAfter : List Save → StoredSlots → StoredSlots → Type 0
IsFoundAfter saves slots found = (begun : StoredSlots) × AreRaised slots begun × MayBeFound saves begun found

-- equal slots are equal after an update.
updated_same : (u : SlotUpdate) (xs ys : StoredSlots) → AreSameSlots xs ys → AreSameSlots (slots_after u xs) (slots_after u ys)
updated_same u xs ys same n low = ap (λ (x : StoredSlot). if n == u.slot then slot_after u x else x) (same n low)

module _ {S : Type 0} (g : Ghosts S) where
  -- the slots that a start finds after one more save.
  found_next : (b : Bool) (u : SlotUpdate) (earlier : List Save) (slots : StoredSlots) (old new : S)
      → SavesUpdate g u b old new → g.is_ready old → g.is_clean new → AreSameSlots (g.stored old) (stored_after earlier slots)
      → ((found : StoredSlots) → g.may_recover old found → IsFoundAfter earlier slots found)
      → (found : StoredSlots) → g.may_recover new found → IsFoundAfter (record { update = u; is_stored = b } ∷ earlier) slots found
  found_next true u earlier slots old new saved ready clean same before found may =
      (slots, same_raised slots slots (λ n low. refl), inl (λ n low. saved.durable ready clean refl found may n low ∙ saved.stored n low ∙ updated_same u (g.stored old) (stored_after earlier slots) same n low))
  found_next false u earlier slots old new saved ready clean same before found may = ⊎_elim
      (λ (was : g.may_recover old found).
      let w = before found was in (
        w.0,
        w.1,
        ⊎_elim
            (λ (stored : AreSameSlots found (stored_after earlier w.0)). inl stored)
            (λ (refused : HasRefusedUpdate earlier w.0 found). inr (refl, inr refused))
            w.2,
      ))
      (λ (now : AreSameSlots found (slots_after u (g.stored old))).
      (slots, same_raised slots slots (λ n low. refl), inr (refl, inl (λ n low. now n low ∙ updated_same u (g.stored old) (stored_after earlier slots) same n low))))
      (saved.crash ready clean found may)

  -- the slots that a start finds after the saves.
  found_after : (saves : List Save) (first last : S) → SavesAll g saves first last → g.is_ready first → (g.is_clean first → FindsRaised g first) → g.is_clean last
      → (found : StoredSlots) → g.may_recover last found → IsFoundAfter saves (g.stored first) found
  found_after [] first last is ready settled clean found may =
      (found, settled (subst g.is_clean is clean) found (subst (λ (x : S). g.may_recover x found) is may), inl (λ n low. refl))
  found_after (s ∷ earlier) first last w ready settled clean found may =
      found_next s.is_stored s.update earlier (g.stored first) w.0 last w.2 (stays_ready g earlier first w.0 w.1 ready) clean (stored_are g earlier first w.0 w.1)
      (found_after earlier first w.0 w.1 ready settled (w.2.clean clean)) found may

-- ---- a slot

same_number : (m n : ℕ) → (m == n) ≡ true → m ≡ n
same_number m n is = grind (is, arith, nat_tests)

not_same : (m n : ℕ) → m ≢ n → (m == n) ≡ false
not_same m n d = grind (d, arith, nat_tests)

not_number : (m n : ℕ) → (m == n) ≡ false → m ≢ n
not_number m n is e = absurd (grind (is, e, arith, nat_tests))

-- an update of another slot leaves the stored state of slot n.
others_stay : (b : Bool) (u : SlotUpdate) (rows : StoredSlots) (n : ℕ) → u.slot ≢ n → (if b then slots_after u rows else rows) n ≡ rows n
others_stay true u rows n other = ap (λ (c : Bool). if c then slot_after u (rows n) else rows n) (not_same n u.slot (λ e. other (sym e)))
others_stay false u rows n other = refl

-- the place of another slot of the shard is another place.
other_place : (m n : ℕ) → m % 8 ≡ n % 8 → m ≢ n → n / 8 ≢ m / 8
other_place m n same other e = other (omega (arith, same, e))

place_below : (n : ℕ) → n < 64 → n / 8 < 8
place_below n low = omega (arith, low)

module _ (first_slot : Slot) (rows : StoredSlots) (n : ℕ) (low : n < 64) (begun : IsStoredProgram first_slot.present (rows n).program) where
  abbrev Keeps : Slot → StoredSlot → Type 0
  Keeps slot row = IsStoredOrInitial first_slot (rows n) slot row

  -- a stored state that is kept has the slot's program.
  has_program : (slot : Slot) (row : StoredSlot) → Keeps slot row → IsStoredProgram slot.present row.program
  has_program slot row (inl is) = is.1
  has_program slot row (inr is) = subst (λ (s : Slot). IsStoredProgram s.present row.program) (sym is.0) (subst (λ (r : StoredSlot). IsStoredProgram first_slot.present r.program) (sym is.1) begun)

  -- the slot and its stored state after an entry of its shard, with a save.
  made_kept : (b : Bool) (operation : Operation) (u : SlotUpdate) (before : StoredSlots) (x y : Shard) → HasEightSlots x → InstallsImageOfJob operation → u.slot % 8 ≡ n % 8
      → MakesIfStored b operation u x y → Keeps (slot_in x n) (before n) → Keeps (slot_in y n) ((if b then slots_after u before else before) n)
  made_kept false operation u before x y eight verified place makes kept = subst (λ (slots : List Slot). Keeps (slot_in (record x { slots = slots }) n) (before n)) (sym makes.unmade) kept
  made_kept true operation u before x y eight verified place makes kept = elim (ℕ_discrete u.slot n) [
    | yes is ↦
        let planned : IsPlanned (slot_in x n) n makes.change u = subst (λ (k : ℕ). IsPlanned (slot_in x k) k makes.change u) is makes.of.planned in
        let row : StoredSlot = record (before n) { serial = (slot_in x n).serial } in
        let here : slot_in y n ≡ changed (slot_in x n) makes.change =
        ap (λ (slots : List Slot). slot_in (record x { slots = slots }) n) makes.made
        ∙ ap (λ (k : ℕ). slot_in (with_slot x k (changed (slot_in x k) makes.change)) n) is
        ∙ get_or-set_same x.slots (n / 8) (changed (slot_in x n) makes.change) (new_slot 0) (subst (λ (l : ℕ). n / 8 < l) (sym eight) (place_below n low)) in
        let stored : slots_after u before n ≡ slot_after u row = ap (λ (k : ℕ). if n == k then slot_after u (before n) else before n) is ∙ ap (λ (c : Bool). if c then slot_after u (before n) else before n) (is_itself n) in
        inl (subst (λ (s : Slot). IsStoredOf s (slots_after u before n)) (sym here) (subst (λ (r : StoredSlot). IsStoredOf (changed (slot_in x n) makes.change) r) (sym stored)
        (kept_changed (slot_in x n) row n makes.change u (refl, has_program (slot_in x n) (before n) kept) planned (makes.image verified))))
    | no other ↦
        let there : slot_in y n ≡ slot_in x n =
        ap (λ (slots : List Slot). slot_in (record x { slots = slots }) n) makes.made
        ∙ get_or-set_other x.slots (u.slot / 8) (n / 8) (changed (slot_in x u.slot) makes.change) (new_slot 0) (other_place u.slot n place other) in
        subst (λ (s : Slot). Keeps s (slots_after u before n)) (sym there) (subst (λ (r : StoredSlot). Keeps (slot_in x n) r) (sym (others_stay true u before n other)) kept)
  ]

  made_eight : (b : Bool) (operation : Operation) (u : SlotUpdate) (x y : Shard) → MakesIfStored b operation u x y → HasEightSlots x → HasEightSlots y
  made_eight true operation u x y makes eight = ap length makes.made ∙ (length-set x.slots (u.slot / 8) (changed (slot_in x u.slot) makes.change) ∙ eight)
  made_eight false operation u x y makes eight = ap length makes.unmade ∙ eight

  -- the slot and its stored state after an entry of its shard.
  own_kept : (operation : Operation) (o : Option Save) (saves : List Save) (x y : Shard) → HasEightSlots x → InstallsImageOfJob operation → IsOfSavedSlot o (part_of operation)
      → is_shard (n % 8) (part_of operation) ≡ true → ChangesAsSaved operation o x y → Keeps (slot_in x n) (stored_after saves rows n)
      → HasEightSlots y × Keeps (slot_in y n) (stored_after (with_save o saves) rows n)
  own_kept operation None saves x y eight verified of on changes kept =
      (ap length changes ∙ eight, subst (λ (slots : List Slot). Keeps (slot_in (record x { slots = slots }) n) (stored_after saves rows n)) (sym changes) kept)
  own_kept operation (Some save) saves x y eight verified of on changes kept =
      let place : save.update.slot % 8 ≡ n % 8 = same_number (save.update.slot % 8) (n % 8) (ap (λ (p : ServerPart). is_shard (n % 8) p) (sym of) ∙ on) in
      (made_eight save.is_stored operation save.update x y changes eight, made_kept save.is_stored operation save.update (stored_after saves rows) x y eight verified place changes kept)

  -- the slot and its stored state after an entry that isn't of its shard.
  other_kept : (slot : Slot) (part : ServerPart) (o : Option Save) (saves : List Save) → IsOfSavedSlot o part → is_shard (n % 8) part ≡ false → Keeps slot (stored_after saves rows n)
      → Keeps slot (stored_after (with_save o saves) rows n)
  other_kept slot part None saves of off kept = kept
  other_kept slot part (Some save) saves of off kept =
      let place : save.update.slot % 8 ≢ n % 8 = not_number (save.update.slot % 8) (n % 8) (ap (λ (p : ServerPart). is_shard (n % 8) p) (sym of) ∙ off) in
      subst (λ (r : StoredSlot). Keeps slot r) (sym (others_stay save.is_stored save.update (stored_after saves rows) n (λ e. place (ap (λ (k : ℕ). k % 8) e)))) kept

  -- the slot and its stored state after many entries, if they are kept after all but the first one.
  entry_kept : (b : Bool) (first_job : ℕ) (e : FiledEntry) (es : List FiledEntry) (saves : List Save) (x y : Shard) → is_shard (n % 8) (part_of e.operation) ≡ b → IsKeyed first_job e → InstallsImageOfJob e.operation
      → HasEightSlots x → EntriesLead (ShardSteps true) (if b then e ∷ shard_entries (n % 8) es else shard_entries (n % 8) es) x y → Keeps (slot_in x n) (stored_after saves rows n)
      → ((more : List Save) (m : Shard) → HasEightSlots m → EntriesLead (ShardSteps true) (shard_entries (n % 8) es) m y → Keeps (slot_in m n) (stored_after more rows n) → Keeps (slot_in y n) (stored_after (saves_onto more es) rows n))
      → Keeps (slot_in y n) (stored_after (saves_onto (with_save e.save saves) es) rows n)
  entry_kept true first_job e es saves x y on keyed verified eight led kept rest =
      let made = own_kept e.operation e.save saves x led.0 eight verified keyed.saved on (led.1.saved refl) kept in
      rest (with_save e.save saves) led.0 made.0 led.2 made.1
  entry_kept false first_job e es saves x y off keyed verified eight led kept rest =
      rest (with_save e.save saves) x eight led (other_kept (slot_in x n) (part_of e.operation) e.save saves keyed.saved off kept)

  -- the slot and its stored state after many entries.
  slot_kept : (first_job : ℕ) (es : List FiledEntry) (saves : List Save) (x y : Shard) → AreKeyed first_job es → AllVerified es → HasEightSlots x
      → EntriesLead (ShardSteps true) (shard_entries (n % 8) es) x y → Keeps (slot_in x n) (stored_after saves rows n) → Keeps (slot_in y n) (stored_after (saves_onto saves es) rows n)
  slot_kept first_job [] saves x y keyed verified eight led kept = subst (λ (s : Shard). Keeps (slot_in s n) (stored_after saves rows n)) (sym led) kept
  slot_kept first_job (e ∷ es) saves x y keyed verified eight led kept =
      entry_kept (is_shard (n % 8) (part_of e.operation)) first_job e es saves x y refl keyed.0 verified.0 eight led kept (λ more m still after also. slot_kept first_job es more m y keyed.1 verified.1 still after also)

-- ---- a server

-- the entries lead each shard of the server to that of the list.
abbrev LeadShards : ServerState → Bool → List FiledEntry → List Shard → Type 0
LeadShards first persistent es shards = (i : ℕ) → i < 8 → EntriesLead (ShardSteps persistent) (shard_entries i es) (shard_at first.shards i) (shard_at shards i)

module _ {S : Type 0} (g : Ghosts S) (keyed_from numbered_from : ℕ) (first end : ServerState) (stored : StoredSlots) (earlier later : List FiledEntry) (before : History) (closed : List Shard) where
  module _ (persistent : g.persistent ≡ true) (serves : Serves before first []) (right : RightByParts end first [] (log_of numbered_from (earlier ++ later))) (keyed : AreKeyed keyed_from (earlier ++ later)) (begun : AreStoredAtFirst first stored) (saved : HaveSavedOrder g first stored closed (earlier ++ later)) where
    -- the shards after the calls so far.
    first_shards : (shards : List Shard) × LeadShards first g.persistent earlier shards
    first_shards = eight_shards (λ i x. EntriesLead (ShardSteps g.persistent) (shard_entries i earlier) (shard_at first.shards i) x)
        (λ i low.
        let led = led_first (ShardSteps g.persistent) (shard_entries i earlier) (shard_entries i later) (shard_at first.shards i) (shard_at closed i)
        (subst (λ (es : List FiledEntry). EntriesLead (ShardSteps g.persistent) es (shard_at first.shards i) (shard_at closed i)) (filter-append (λ (e : FiledEntry). is_shard i (part_of e.operation)) earlier later) (saved.shards_led i low)) in
        (led.0, led.1))

    first_are_right : (shards : List Shard) → LeadShards first g.persistent earlier shards → RightWithShards first [] (log_of numbered_from earlier) shards
    first_are_right shards led = first_right end first [] (log_of numbered_from earlier) (log_of numbered_from later) shards
        (subst (λ (log : List LogEntry). RightByParts end first [] log) (map-append (log_entry numbered_from) earlier later) right)
        (λ i low. subst (λ (log : List LogEntry). LeadInOrder ShardDoes log (shard_at first.shards i) (shard_at shards i)) (sym (shard_logged i numbered_from earlier))
        (lead_log ShardDoes numbered_from (shard_entries i earlier) (shard_at first.shards i) (shard_at shards i)
        (shard_led g.persistent (shard_entries i earlier) (shard_at first.shards i) (shard_at shards i) (led i low))))

    -- each install so far has the program of its job's image.
    first_verified : (shards : List Shard) → RightWithShards first [] (log_of numbered_from earlier) shards → AllVerified earlier
    first_verified shards with_shards = all_verified numbered_from earlier (λ k. job_verified (of_job k (log_of numbered_from earlier)) (with_shards.right.to_come k (omega arith)))

    -- the store after the calls so far.
    first_stored : (store : S) × EntriesLead (StoreSteps g) (store_entries earlier) saved.before store × EntriesLead (StoreSteps g) (store_entries later) store saved.after
    first_stored = led_first (StoreSteps g) (store_entries earlier) (store_entries later) saved.before saved.after
        (subst (λ (es : List FiledEntry). EntriesLead (StoreSteps g) es saved.before saved.after) (filter-append (λ (e : FiledEntry). is_some e.save) earlier later) saved.store_led)

    first_kept : (shards : List Shard) → LeadShards first g.persistent earlier shards → AllVerified earlier → (n : ℕ) → n < 64
        → IsStoredOrInitial (slot_in_shards first.shards n) (stored n) (slot_in_shards shards n) (stored_after (saves_of earlier) stored n)
    first_kept shards led verified n low = slot_kept (slot_in_shards first.shards n) stored n low (begun n low) keyed_from earlier [] (shard_at first.shards (n % 8)) (shard_at shards (n % 8))
        (keyed_first keyed_from earlier later keyed) verified (serves.agrees.shards.are.size (n % 8) (below_eight n))
        (subst (λ (b : Bool). EntriesLead (ShardSteps b) (shard_entries (n % 8) earlier) (shard_at first.shards (n % 8)) (shard_at shards (n % 8))) persistent (led (n % 8) (below_eight n)))
        (inr (refl, refl))

    finds_here : FindsHistory g first stored saved.before saved.after earlier later (history_on before (log_of numbered_from earlier))
    finds_here =
        let shards = first_shards in
        let are_right = first_are_right shards.0 shards.1 in
        let verified = first_verified shards.0 are_right in
        let is_history = whole (log_of numbered_from earlier) before first (record { front = are_right.front; shards = shards.0; words = are_right.words }) serves are_right.right in
        let store = first_stored in
        let all : SavesAll g (saves_of earlier) saved.before store.0 = all_saved g saved.before earlier [] saved.before store.0 refl store.1 in
        record {
          store = store.0;
          led = store.1;
          rest = store.2;
          ready = stays_ready g (saves_of earlier) saved.before store.0 all saved.opened.ready;
          slots = λ n low. subst (λ (s : Slot). IsStoredOrInitial (slot_in_shards first.shards n) (stored n) s (stored_after (saves_of earlier) stored n)) (is_history.slots n low) (first_kept shards.0 shards.1 verified n low);
          found = λ clean found may. subst (λ (rows : StoredSlots). IsFoundAfter (saves_of earlier) rows found) saved.begins (found_after g (saves_of earlier) saved.before store.0 all saved.opened.ready saved.opened.settled clean found may);
        }

  -- a start finds the slots of the history after the calls so far.
  pub finds_history : (calls : List FiledEntry) → g.persistent ≡ true → Serves before first [] → RightByParts end first [] (log_of numbered_from calls) → AreKeyed keyed_from calls → AreStoredAtFirst first stored
      → (saved : HaveSavedOrder g first stored closed calls) → calls ≡ earlier ++ later → FindsHistory g first stored saved.before saved.after earlier later (history_on before (log_of numbered_from earlier))
  finds_history calls persistent serves right keyed begun saved is = finds_here persistent serves
      (subst (λ (es : List FiledEntry). RightByParts end first [] (log_of numbered_from es)) is right)
      (subst (λ (es : List FiledEntry). AreKeyed keyed_from es) is keyed)
      begun
      (record {
        before = saved.before;
        opened = saved.opened;
        begins = saved.begins;
        after = saved.after;
        store_led = subst (λ (es : List FiledEntry). EntriesLead (StoreSteps g) (store_entries es) saved.before saved.after) is saved.store_led;
        shards_led = λ i low. subst (λ (es : List FiledEntry). EntriesLead (ShardSteps g.persistent) (shard_entries i es) (shard_at first.shards i) (shard_at closed i)) is (saved.shards_led i low);
      })
