-- The shards of a start: each slot is restored from its stored state.
use Rattle.std.proofs.Common.{◌≡◌, ℕ, ◌+◌, ◌*◌, ◌<◌, ◌≤◌, ◌/◌, ◌%◌, List, [], length, get_or, set, map, max, refl, sym, ap, ◌∙◌, subst, arith, ⊎_elim, Option, Some, None, length-set}
use Rattle.std.specs.List.{range_with_len}
use Rattle.std.proofs.lemmas.Bool.{cases_lt, cases_eq}
use Rattle.std.proofs.lemmas.List.{ext_get_or, get_or-replicate, get_or-set_other, get_or-set_same, get_or_past}
use Rattle.std.proofs.lemmas.List.FromFn.{get_or-map-range_with_len, length-map-range_with_len}
use Rattle.fc_store.specs.Stored.{StoredProgram, StoredSlot, StoredSlots}
use Rattle.fc_verify.specs.Accepted.{Judgement}
use Rattle.fc_registry.proofs.Installs.{serials_from}
use Rattle.fc_registry.specs.Changes.{Change, after_changes}
use Rattle.fc_registry.specs.Plans.{IsStoredOf, IsStoredProgram}
use Rattle.fc_registry.specs.Restored.{at_least, present_if, restored_present, restored_slot}
use Rattle.fc_registry.specs.Shards.{empty_shard}
use Rattle.fc_ticket.specs.Tickets.{Present}
use Rattle.fc_registry.specs.Slots.{Shard, Slot, last_serial, new_slot}
use Rattle.fc_registry.specs.Starts.{CanRestore, CanRestoreProgram, IsRestoreError, IsSlotError, IsStartError, RestoresTo, shard_over}
use Rattle.fc_registry.specs.Watches.{new_watches}
use Rattle.fc_registry.specs.declared.shards.StartError.{StartError}
use Rattle.fc_registry.specs.declared.shards.StartError.TheVariants as starts

-- a program with this stored state is the restored one.
pub present_is : (o : Option Present) (k : Option StoredProgram) → IsStoredProgram o k → o ≡ restored_present k
present_is None None is = refl
present_is None (Some k) is = absurd is
present_is (Some p) None is = absurd is
present_is (Some p) (Some k) is = sym (ap (λ (j : Judgement). present_if j k) is.0 ∙ (λ i. Some (record { program = p.program; version = is.1 i; vars = is.2 i })))

pub restored_as : (slot : Slot) (k : StoredSlot) → IsStoredOf slot k → restored_slot k ≡ record slot { notify_serial = slot.serial; ring = [] }
restored_as slot k is = λ i. record { serial = is.0 i; notify_serial = is.0 i; present = sym (present_is slot.present k.program is.1) i; ring = [] }

pub raised_can : (least : ℕ) (k : StoredSlot) → least ≤ last_serial → CanRestore k → CanRestore (at_least least k)
raised_can least k low can = record { serial = (let old = can.serial in omega (arith, old, low)); program = program_can k.program can.program }
  where
    program_can : (o : Option StoredProgram) → CanRestoreProgram k.serial o → CanRestoreProgram (max least k.serial) o
    program_can None is = tt
    program_can (Some s) is =
        let within = is.state.1 in
        record { program = is.program; judged_as = is.judged_as; accepted = is.accepted; runs = is.runs; state = (is.state.0, omega (arith, within), is.state.2) }

pub goes_on : (least : ℕ) (k : StoredSlot) (cs : List Change) → max least k.serial ≤ (after_changes (restored_slot (at_least least k)) cs).serial
goes_on least k cs = omega (arith, serials_from (restored_slot (at_least least k)) cs)

-- the slots of a shard are restored at the places below `done`, and are new at the others.
pub record IsRestoredBelow (stored : StoredSlots) (index confirm_after done : ℕ) (shard : Shard) : Type 0 where
  pub index_is : shard.index ≡ index
  pub now : shard.now ≡ 0
  pub watches : shard.watches ≡ new_watches index confirm_after 8
  pub size : length shard.slots ≡ 8
  pub restored : (k : ℕ) → k < done → get_or shard.slots k (new_slot 0) ≡ restored_slot (stored (8 * k + index))
  pub fresh : (k : ℕ) → done ≤ k → get_or shard.slots k (new_slot 0) ≡ new_slot 0
  pub can : (k : ℕ) → k < done → CanRestore (stored (8 * k + index))

module _ (stored : StoredSlots) (index confirm_after : ℕ) (low : index < 8) where
  new_at : (k : ℕ) → get_or (empty_shard 0 confirm_after index).slots k (new_slot 0) ≡ new_slot 0
  new_at k = ⊎_elim
      (λ (lt : k < 8). get_or-replicate 8 k (new_slot 0) (new_slot 0) lt)
      (λ (ge : 8 ≤ k). get_or_past (empty_shard 0 confirm_after index).slots k (new_slot 0) ge)
      (cases_lt k 8)

  pub none_restored : (shard : Shard) → shard ≡ empty_shard 0 confirm_after index → IsRestoredBelow stored index confirm_after 0 shard
  none_restored shard is = subst (IsRestoredBelow stored index confirm_after 0) (sym is) (record {
    index_is = refl;
    now = refl;
    watches = refl;
    size = refl;
    restored = λ k lt. absurd (omega (arith, lt));
    fresh = λ k le. new_at k;
    can = λ k lt. absurd (omega (arith, lt));
  })

  module _ (done : ℕ) (old new : Shard) (lt : done < 8) (k : StoredSlot) (k_is : k ≡ stored (8 * done + index)) (was : IsRestoredBelow stored index confirm_after done old) (to : RestoresTo k old (8 * done + index) new) where
    place : (8 * done + index) / 8 ≡ done
    place = omega (arith, low)

    new_is : new ≡ record old { slots = set old.slots done (restored_slot k) }
    new_is = to ∙ ap (λ (j : ℕ). record old { slots = set old.slots j (restored_slot k) }) place

    slots_are : new.slots ≡ set old.slots done (restored_slot k)
    slots_are = ap (λ (x : Shard). x.slots) new_is

    here : get_or new.slots done (new_slot 0) ≡ restored_slot (stored (8 * done + index))
    here =
        let size = was.size in
        ap (λ (xs : List Slot). get_or xs done (new_slot 0)) slots_are
        ∙ (get_or-set_same old.slots done (restored_slot k) (new_slot 0) (omega (arith, lt, size))
        ∙ ap restored_slot k_is)

    there : (j : ℕ) → (j ≡ done → ⊥) → get_or new.slots j (new_slot 0) ≡ get_or old.slots j (new_slot 0)
    there j ne = ap (λ (xs : List Slot). get_or xs j (new_slot 0)) slots_are ∙ get_or-set_other old.slots done j (restored_slot k) (new_slot 0) ne

    pub one_restored : CanRestore k → IsRestoredBelow stored index confirm_after (done + 1) new
    one_restored able = record {
      index_is = ap (λ (x : Shard). x.index) new_is ∙ was.index_is;
      now = ap (λ (x : Shard). x.now) new_is ∙ was.now;
      watches = ap (λ (x : Shard). x.watches) new_is ∙ was.watches;
      size = ap length slots_are ∙ (length-set old.slots done (restored_slot k) ∙ was.size);
      restored = λ j below. ⊎_elim
          (λ (e : j ≡ done). subst (λ (m : ℕ). get_or new.slots m (new_slot 0) ≡ restored_slot (stored (8 * m + index))) (sym e) here)
          (λ (ne : j ≡ done → ⊥). there j ne ∙ was.restored j (omega (arith, below, ne)))
          (cases_eq j done);
      fresh = λ j le. there j (λ e. absurd (omega (arith, e, le))) ∙ was.fresh j (omega (arith, le));
      can = λ j below. ⊎_elim
          (λ (e : j ≡ done). subst (λ (m : ℕ). CanRestore (stored (8 * m + index))) (sym e) (subst CanRestore k_is able))
          (λ (ne : j ≡ done → ⊥). was.can j (omega (arith, below, ne)))
          (cases_eq j done);
    }

  module _ (shard : Shard) (done : ℕ) (past : 8 ≤ done) (was : IsRestoredBelow stored index confirm_after done shard) where
    abbrev slots : ℕ → Slot
    slots n = restored_slot (stored n)

    slots_all : shard.slots ≡ map (λ k. slots (8 * k + index)) (range_with_len 0 8)
    slots_all =
        let f : ℕ → Slot = λ k. slots (8 * k + index) in
        let size = was.size in
        ext_get_or (new_slot 0) shard.slots (map f (range_with_len 0 8)) (size ∙ sym (length-map-range_with_len f 0 8))
        (λ j lt. let below : j < 8 = omega (arith, lt, size) in was.restored j (omega (arith, below, past)) ∙ sym (get_or-map-range_with_len f 0 8 j j (new_slot 0) below (omega arith)))

    pub all_restored : shard ≡ shard_over slots confirm_after index
    all_restored = λ i. record { index = was.index_is i; now = was.now i; slots = slots_all i; watches = was.watches i }

    pub all_can : (n : ℕ) → n < 64 → n % 8 ≡ index → CanRestore (stored n)
    all_can n lt is =
        let number : 8 * (n / 8) + index ≡ n = omega (arith, is) in
        subst (λ (m : ℕ). CanRestore (stored m)) number (was.can (n / 8) (omega (arith, lt, past)))

-- the error of a slot is that of the start.
pub error_is : (stored : StoredSlots) (slot : Slot) (n : ℕ) (k : StoredSlot) (e : StartError) → n < 64 → slot ≡ new_slot 0 → k ≡ stored n → IsSlotError slot n k e → IsStartError stored e
error_is stored slot n k (starts.Slot number e) lt new is why =
    let same = why.0 in (
      omega (arith, same, lt),
      subst (λ (m : ℕ). IsRestoreError (new_slot 0) (stored m) e) (sym same)
          (subst (λ (x : StoredSlot). IsRestoreError (new_slot 0) x e) is (subst (λ (s : Slot). IsRestoreError s k e) new why.1)),
    )
error_is stored slot n k starts.Memory lt new is why = absurd why
