-- Reads and writes of one slot's state, in the view of the shard.
use Rattle.std.proofs.Common.{◌≡◌, ℕ, ◌<◌, List, [], ◌∷◌, length, refl, map, set, get_or, sym, ap, ◌∙◌, arith}
use Rattle.std.proofs.lemmas.List.{map-set, get_or-map, set-get_or}
use Rattle.fc_observe.specs.Calls.{ObserverCall, after_calls}
use Rattle.fc_observe.specs.Observers.{ObserverList, no_observers}
use Rattle.fc_registry.specs.declared.slot.SlotState.{SlotState}
use Rattle.fc_registry.specs.Slots.{Slot, Shard, new_slot}
use Rattle.fc_registry.specs.Views.{as_seen}
use Rattle.fc_registry.specs.Watches.{watches_called}

-- the view of a shard, from its fields.
abbrev pub seen : ℕ → ℕ → List SlotState → List ObserverList → Shard
seen index now items watches = record { index = index; now = now; slots = map as_seen items; watches = watches }

-- the slot at a place.
abbrev pub slot_in_place : Shard → ℕ → Slot
slot_in_place shard k = get_or shard.slots k (new_slot 0)

-- the shard at a time, with this slot at a place.
abbrev pub written : Shard → ℕ → ℕ → Slot → Shard
written shard now k v = record shard { now = now; slots = set shard.slots k v }

-- the lists of observers after calls, possibly none, on the one at a place.
pub watches_written : (cs : List ObserverCall) (k : ℕ) (watches : List ObserverList) → set watches k (after_calls cs (get_or watches k (no_observers 0 0))) ≡ watches_called cs k watches
watches_written [] k watches = set-get_or watches k (no_observers 0 0)
watches_written (c ∷ cs) k watches = refl

module _ (index now : ℕ) (items : List SlotState) (watches : List ObserverList) (shard : Shard) (view_is : seen index now items watches ≡ shard) (eight : length items ≡ 8) where
  slots_are : map as_seen items ≡ shard.slots
  slots_are = ap (λ (s : Shard). s.slots) view_is

  -- the view of the state at a place is the slot at that place of the view.
  pub slot_read : (k : ℕ) (s : SlotState) → k < 8 → s ≡ get_or items k s → as_seen s ≡ get_or shard.slots k (new_slot 0)
  slot_read k s lt is =
      let short : k < length items = omega (arith, eight, lt) in
      ap as_seen is ∙ (sym (get_or-map as_seen items k s (new_slot 0) short) ∙ ap (λ (xs : List Slot). get_or xs k (new_slot 0)) slots_are)

  -- a write of a state at a place is, in the view, a write of the slot.
  pub slot_write : (k early overdue : ℕ) (t : SlotState) (v : Slot) → early ≡ overdue → as_seen t ≡ v → seen index early (set items k t) watches ≡ record shard { now = overdue; slots = set shard.slots k v }
  slot_write k early overdue t v passes is =
      let slots : map as_seen (set items k t) ≡ set shard.slots k v = map-set as_seen items k t ∙ (λ i. set (slots_are i) k (is i)) in
      λ i. record { index = (view_is i).index; now = passes i; slots = slots i; watches = (view_is i).watches }

  -- a write of a state at a place and calls on its observers are, in the view, those of the slot.
  pub slot_and_watch_write : (k early overdue : ℕ) (t : SlotState) (v : Slot) (cs : List ObserverCall) (old new : ObserverList) → early ≡ overdue → as_seen t ≡ v → old ≡ get_or watches k (no_observers 0 0) → new ≡ after_calls cs old → seen index early (set items k t) (set watches k new) ≡ record shard { now = overdue; slots = set shard.slots k v; watches = watches_called cs k shard.watches }
  slot_and_watch_write k early overdue t v cs old new passes is was calls =
      let slots : map as_seen (set items k t) ≡ set shard.slots k v = map-set as_seen items k t ∙ (λ i. set (slots_are i) k (is i)) in
      let called : set watches k new ≡ watches_called cs k shard.watches = ap (set watches k) (calls ∙ ap (after_calls cs) was) ∙ (watches_written cs k watches ∙ ap (λ (s : Shard). watches_called cs k s.watches) view_is) in
      λ i. record { index = (view_is i).index; now = passes i; slots = slots i; watches = called i }

  pub now_is : now ≡ shard.now
  now_is = ap (λ (s : Shard). s.now) view_is
