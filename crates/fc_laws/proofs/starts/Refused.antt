-- A start with an image that the verifier refuses.
use Rattle.std.proofs.Common.{◌≡◌, ℕ, ◌≤◌, ◌⊎◌, Some, None, refl, sym, subst, ⊎_elim, inl, inr, arith}
use Rattle.std.proofs.lemmas.Bool.{cases_eq}
use Rattle.fc_isa.specs.Rules.{number_of}
use Rattle.fc_isa.specs.declared.rule.Fault.{Fault}
use Rattle.fc_isa.specs.declared.rule.Rule.{Rule}
use Rattle.fc_verify.specs.Accepted.{Judgement, Breaks, Untypable}
use Rattle.fc_verify.specs.Judged.{judged}
use Rattle.fc_verify.specs.Refusals.{IsFaultOf, IsRefusal}
use Rattle.fc_verify.specs.declared.refusal.Refusal.{Refusal}
use Rattle.fc_verify.specs.declared.refusal.Refusal.TheVariants.{Broken, NoMemory}
use Rattle.fc_store.specs.Stored.{StoredProgram, StoredSlot, StoredSlots}
use Rattle.fc_registry.specs.Slots.{new_slot}
use Rattle.fc_registry.specs.Starts.{IsRestoreError, IsStartError}
use Rattle.fc_registry.specs.declared.restore.RestoreError.{RestoreError}
use Rattle.fc_registry.specs.declared.restore.RestoreError.TheVariants.{Image}
use Rattle.fc_registry.specs.declared.shards.StartError.TheVariants.{Slot}

-- a slot that is stored as empty at serial 7 can be restored.
empty_restores : (e : RestoreError)
    → IsRestoreError (new_slot 0) (record { serial = 7; program = None }) e → ⊥
empty_restores e (inl (is, inl falls)) = omega (arith, falls)
empty_restores e (inl (is, inr above)) = omega (arith, above)
empty_restores e (inr (s, is, why)) = absurd (cc is)

-- the reason why slot n isn't restored, if it is stored like this.
at_slot : (stored : StoredSlots) (n : ℕ) (k : StoredSlot) (e : RestoreError) → stored n ≡ k
    → IsStartError stored (Slot n e) → IsRestoreError (new_slot 0) k e
at_slot stored n k e is error =
    subst (λ (s : StoredSlot). IsRestoreError (new_slot 0) s e) is error.1

pub names_it : (stored : StoredSlots) (n : ℕ) (e : RestoreError)
    → ((m : ℕ) → (m ≡ 9 → ⊥) → stored m ≡ record { serial = 7; program = None })
    → IsStartError stored (Slot n e) → n ≡ 9
names_it stored n e others error = ⊎_elim
    (λ (is : n ≡ 9). is)
    (λ (ne : n ≡ 9 → ⊥). absurd (empty_restores e (at_slot stored n _ e (others n ne) error)))
    (cases_eq n 9)

-- an error of the image of the only program is a refusal of that image.
refusal_is : (s : StoredProgram) (refusal : Refusal)
    → IsRestoreError (new_slot 0) (record { serial = 7; program = Some s }) (Image refusal)
    → IsRefusal s.image refusal
refusal_is s refusal (inl (is, why)) = absurd (cc is)
refusal_is s refusal (inr (t, is, why)) =
    let same : s ≡ t = cc is in
    subst (λ (x : StoredProgram). IsRefusal x.image refusal) (sym same) why

refused_by : (s : StoredProgram) (refusal : Refusal) (rule : Rule) (at : ℕ)
    → judged s.image ≡ Breaks rule at → IsRefusal s.image refusal
    → (refusal ≡ Broken (record { rule = rule; slot = at })) ⊎ (refusal ≡ NoMemory)
refused_by s (Broken f) rule at e is =
    let faults : IsFaultOf s.image (Breaks rule at) f =
    subst (λ (j : Judgement). IsFaultOf s.image j f) e is in
    inl (λ i. Broken (record { rule = faults.0 i; slot = faults.1 i }))
refused_by s NoMemory rule at e is = inr refl

pub names_rule : (stored : StoredSlots) (s : StoredProgram) (refusal : Refusal) (rule : Rule)
    (at : ℕ) → stored 9 ≡ record { serial = 7; program = Some s }
    → judged s.image ≡ Breaks rule at → IsStartError stored (Slot 9 (Image refusal))
    → (refusal ≡ Broken (record { rule = rule; slot = at })) ⊎ (refusal ≡ NoMemory)
names_rule stored s refusal rule at is judges error =
    refused_by s refusal rule at judges
    (refusal_is s refusal (at_slot stored 9 _ (Image refusal) is error))

pub names_typing : (stored : StoredSlots) (s : StoredProgram) (fault : Fault)
    → stored 9 ≡ record { serial = 7; program = Some s } → judged s.image ≡ Untypable
    → IsStartError stored (Slot 9 (Image (Broken fault)))
    → (20 ≤ number_of fault.rule) × (number_of fault.rule ≤ 28)
names_typing stored s fault is judges error =
    let refusal = Broken fault in
    let refused = refusal_is s refusal (at_slot stored 9 _ (Image refusal) is error) in
    let faults : IsFaultOf s.image Untypable fault =
    subst (λ (j : Judgement). IsFaultOf s.image j fault) judges refused in
    (faults.0, faults.1)
