-- The variables that an install leaves, and how they affect everything else.
use Rattle.std.proofs.Common.{◌≡◌, ℕ, Bool, true, false, List, [], ◌∷◌, ◌++◌, length, replicate, Option, None, refl, sym, ap, ◌∙◌}
use Rattle.std.specs.Prelude.{nat_lt}
use Rattle.std.proofs.lemmas.Bool.{lt-ltb}
use Rattle.arrayvec.specs.ArrayVec.{ArrayVec}
use Rattle.coap_msg.specs.declared.types.Emission.{Emission}
use Rattle.fc_kinds.specs.Meaning.{Program}
use Rattle.fc_verify.specs.Accepted.{Judgement, Accepts, Breaks, Untypable}
use Rattle.fc_verify.specs.Judged.{judged}
use Rattle.fc_ticket.specs.declared.job.InitialVars.{InitialVars}
use Rattle.fc_ticket.specs.declared.job.InitialVars.TheVariants.{Kept, Zeros}
use Rattle.fc_registry.specs.Calls.{put_by}
use Rattle.fc_ticket.specs.Runs.{receipt_of, initial_vars_of}
use Rattle.fc_registry.specs.declared.shard.Made.{Made}
use Rattle.fc_registry.specs.Changes.{Change, Installed, after_changes, vars_installed}
use Rattle.fc_registry.specs.Slots.{Slot, last_serial, vars_in}
use Rattle.fc_registry.proofs.Installs.{empty_vars, kept_answer, kept_vars, other_vars}
use Rattle.fc_core.specs.declared.event.Event.TheVariants.{Install}
use Rattle.fc_core.specs.History.{first_slot, Seen, and_then, did, job, inputs, slot_at}
use Rattle.fc_core.specs.Laws.{slot_of}
use Rattle.fc_core.specs.Transitions.{Inputs, install_call, install_if, transition}
use Rattle.fc_core.specs.Stage.{Stage, ToInstall}
use Rattle.fc_core.specs.Stages.{made}
use Rattle.fc_core.specs.Steps.{Installs, changes_of_call, next_stage}
use Rattle.fc_core.proofs.Calling.{verified_calls}
use Rattle.fc_laws.specs.SlotLaws.{IsToInstall, inputs_installing, vars_at}
use Rattle.fc_laws.proofs.jobs.Others.{own_slot}

-- ---- the variables after an install

put_told : (b : Bool) (slot : Slot) (p : Program) (v : InitialVars) → b ≡ true → changes_of_call (Installs p v (put_by b slot p v).answer) ≡ Installed p v ∷ []
put_told true slot p v e = refl
put_told false slot p v e = absurd (cc e)

installs : (s : Seen) (k : ℕ) (p : Program) (o : Option Emission) → IsToInstall s k p
    → (and_then (did (Install k true) o) s).changes (slot_of s k) ≡ Installed p (initial_vars_of (job s k).ask) ∷ s.changes (slot_of s k)
installs s k p o w =
    let slot = slot_at s (slot_of s k) in
    let v = initial_vars_of (job s k).ask in
    own_slot (did (Install k true) o) s k refl
    ∙ ap (λ (cs : List Change). cs ++ s.changes (slot_of s k)) (
    ap (λ (at : Stage). (transition (Install k true) (record (inputs s k) { stage = at })).changes) w.at
    ∙ (ap (λ (j : Judgement). changes_of_call (install_call v j slot)) w.accepted
    ∙ put_told (nat_lt slot.serial last_serial) slot p v (lt-ltb slot.serial last_serial w.below)))

leaves : (s : Seen) (k : ℕ) (p : Program) (o : Option Emission) → IsToInstall s k p
    → vars_at (and_then (did (Install k true) o) s) (slot_of s k) ≡ vars_installed (initial_vars_of (job s k).ask) p (vars_at s (slot_of s k))
leaves s k p o w = ap (λ (cs : List Change). vars_in (after_changes (first_slot s (slot_of s k)) cs).present) (installs s k p o w)

pub keeps_vars : (s : Seen) (k : ℕ) (p : Program) (o : Option Emission) → IsToInstall s k p → initial_vars_of (job s k).ask ≡ Kept → length (vars_at s (slot_of s k)) ≡ p.vars_size
    → vars_at (and_then (did (Install k true) o) s) (slot_of s k) ≡ vars_at s (slot_of s k)
keeps_vars s k p o w asks same =
    leaves s k p o w ∙ (ap (λ (v : InitialVars). vars_installed v p (vars_at s (slot_of s k))) asks ∙ kept_vars p (vars_at s (slot_of s k)) same)

unlike : (v : InitialVars) (p : Program) (before : List ℕ) → (length before ≡ p.vars_size → ⊥) → vars_installed v p before ≡ replicate p.vars_size 0
unlike Zeros p before differs = refl
unlike Kept p before differs = other_vars p before differs

pub zeros_unlike : (s : Seen) (k : ℕ) (p : Program) (o : Option Emission) → IsToInstall s k p → (length (vars_at s (slot_of s k)) ≡ p.vars_size → ⊥)
    → vars_at (and_then (did (Install k true) o) s) (slot_of s k) ≡ replicate p.vars_size 0
zeros_unlike s k p o w differs = leaves s k p o w ∙ unlike (initial_vars_of (job s k).ask) p (vars_at s (slot_of s k)) differs

pub zeros_empty : (s : Seen) (k : ℕ) (p : Program) (o : Option Emission) → IsToInstall s k p → (slot_at s (slot_of s k)).present ≡ None
    → vars_at (and_then (did (Install k true) o) s) (slot_of s k) ≡ replicate p.vars_size 0
zeros_empty s k p o w none = leaves s k p o w ∙ empty_vars p (initial_vars_of (job s k).ask) (slot_at s (slot_of s k)) none

pub zeros_asked : (s : Seen) (k : ℕ) (p : Program) (o : Option Emission) → IsToInstall s k p → initial_vars_of (job s k).ask ≡ Zeros
    → vars_at (and_then (did (Install k true) o) s) (slot_of s k) ≡ replicate p.vars_size 0
zeros_asked s k p o w asks = leaves s k p o w ∙ ap (λ (v : InitialVars). vars_installed v p (vars_at s (slot_of s k))) asks

-- ---- effects that are the same either way

same_next : (memory : Bool) (j : Judgement) (slot : Slot) → next_stage (install_if memory Kept j slot) ≡ next_stage (install_if memory Zeros j slot)
same_next true (Accepts p) slot = ap (λ (m : Made). made (receipt_of p 0) m) (kept_answer slot p)
same_next true (Breaks rule n) slot = refl
same_next true Untypable slot = refl
same_next false j slot = refl

abbrev standing : Stage → Inputs → Inputs
standing at x = record x { stage = at }

stage_either : (k : ℕ) (memory : Bool) (x : Inputs) (image : ArrayVec ℕ) (at : Stage)
    → (transition (Install k memory) (inputs_installing image Kept (standing at x))).stage ≡ (transition (Install k memory) (inputs_installing image Zeros (standing at x))).stage
stage_either k memory x image ToInstall = same_next memory (judged image.items) x.slot
stage_either k memory x image other = refl

pub same_stage : (k : ℕ) (memory : Bool) (x : Inputs) (image : ArrayVec ℕ) → (transition (Install k memory) (inputs_installing image Kept x)).stage ≡ (transition (Install k memory) (inputs_installing image Zeros x)).stage
same_stage k memory x image = stage_either k memory x image x.stage

calls_either : (k : ℕ) (memory : Bool) (x : Inputs) (image : ArrayVec ℕ) (at : Stage)
    → (transition (Install k memory) (inputs_installing image Kept (standing at x))).calls ≡ (transition (Install k memory) (inputs_installing image Zeros (standing at x))).calls
calls_either k memory x image ToInstall =
    verified_calls x.around.time 0 memory (inputs_installing image Kept (standing ToInstall x)) ∙ sym (verified_calls x.around.time 0 memory (inputs_installing image Zeros (standing ToInstall x)))
calls_either k memory x image other = refl

pub same_calls : (k : ℕ) (memory : Bool) (x : Inputs) (image : ArrayVec ℕ) → (transition (Install k memory) (inputs_installing image Kept x)).calls ≡ (transition (Install k memory) (inputs_installing image Zeros x)).calls
same_calls k memory x image = calls_either k memory x image x.stage
