-- What a call's save says of the changes that it made.
use Rattle.std.proofs.Common.{◌≡◌, ◌⊎◌, ℕ, Bool, true, false, List, [], ◌∷◌, Option, None, Some, inl, inr, refl, sym, subst, ⊎_elim}
use Rattle.std.specs.Prelude.{MatchOption}
use Rattle.fc_store.specs.declared.store.SlotUpdate.{SlotUpdate}
use Rattle.fc_store.specs.declared.store.Store.{Ghosts}
use Rattle.fc_registry.specs.Changes.{Change}
use Rattle.fc_registry.specs.Plans.{IsPlanned}
use Rattle.fc_registry.specs.Slots.{Slot}
use Rattle.fc_store.specs.Recovery.{Save}
use Rattle.fc_store.specs.Saves.{SavesUpdate}
use Rattle.fc_filed.specs.Saves.{IsSavedAs}
use Rattle.fc_locked.specs.SharedStores.{HasSaved, HasSavedBy}

module _ {S : Type 0} (g : Ghosts S) (slot : Slot) (n : ℕ) where
  -- without a change there is nothing to save.
  pub none_saved : (Verified : Type 0) (made : List Change) → made ≡ [] → HasSaved g Verified slot n made true
  none_saved Verified made is = subst (λ (cs : List Change). HasSaved g Verified slot n cs true) (sym is) refl

  -- a call with its save has saved its changes.
  pub saved_as : (Verified : Type 0) (change : Change) (update : SlotUpdate) (made : List Change) (save : Option Save) (old new : S) → g.persistent ≡ true → g.is_ready old → IsSavedAs g slot n change Verified update made save old new
      → HasSaved g Verified slot n made true
  saved_as Verified change update made save old new persistent ready is = ⊎_elim
      (λ none. none_saved Verified made none.0)
      (λ one. subst (λ (cs : List Change). HasSaved g Verified slot n cs true) (sym one.0)
      (subst (λ (b : Bool). HasSavedBy b g Verified slot n change [] true) (sym persistent)
      (refl, record { update = update; planned = one.2; image = one.3; saves = record { old = old; new = new; ready = ready; saves = one.4 } })))
      is

  -- an update that was refused is that of a change which isn't made.
  pub refused_as : (change : Change) (update : SlotUpdate) (old new : S) → g.persistent ≡ true → g.is_ready old → IsPlanned slot n change update → SavesUpdate g update false old new → HasSaved g ⊥ slot n (change ∷ []) false
  refused_as change update old new persistent ready planned saves =
      subst (λ (b : Bool). HasSavedBy b g ⊥ slot n change [] false) (sym persistent)
      (refl, record { update = update; planned = planned; image = λ x. absurd x; saves = record { old = old; new = new; ready = ready; saves = saves } })

  forgotten : (Verified : Type 0) (made : List Change) → g.persistent ≡ false → HasSaved g Verified slot n made true
  forgotten Verified [] forgets = refl
  forgotten Verified (c ∷ cs) forgets = subst (λ (b : Bool). HasSavedBy b g Verified slot n c cs true) (sym forgets) refl

  saved_by : (Verified : Type 0) (made : List Change) (b : Bool) → g.persistent ≡ b → (g.persistent ≡ true → made ≡ []) → HasSaved g Verified slot n made true
  saved_by Verified made true persistent none = none_saved Verified made (none persistent)
  saved_by Verified made false forgets none = forgotten Verified made forgets

  -- a call that changes no slot if the store is persistent has saved its changes.
  pub unsaved_as : (Verified : Type 0) (made : List Change) → (g.persistent ≡ true → made ≡ []) → HasSaved g Verified slot n made true
  unsaved_as Verified made none = saved_by Verified made g.persistent refl none

-- ---- a result that may be none

pub match_to : {A X Y : Type 0} {B : A → Type 0} (r : Option A) → MatchOption r X B → (X → Y) → ((a : A) → B a → Y) → Y
match_to None x f g = f x
match_to (Some a) b f g = g a b

pub match_map : {A X Y : Type 0} {B C : A → Type 0} (r : Option A) → MatchOption r X B → (X → Y) → ((a : A) → B a → C a) → MatchOption r Y C
match_map None x f g = f x
match_map (Some a) b f g = g a b
