-- A refused image makes the answer of its job, and no change.
use Rattle.std.proofs.Common.{◌≡◌, ℕ, ◌<◌, ◌/◌, List, Bool, sym, ap, ◌∙◌, subst}
use Rattle.std.specs.Prelude.{nat_lt}
use Rattle.std.proofs.lemmas.Bool.{lt-ltb, le-ltb}
use Rattle.std.proofs.lemmas.List.{set-get_or}
use Rattle.fc_isa.specs.declared.rule.Rule.{Rule}
use Rattle.fc_isa.specs.declared.rule.Fault.{Fault}
use Rattle.fc_isa.specs.Rules.{number_of}
use Rattle.fc_verify.specs.Accepted.{Judgement, Accepts, Breaks, Untypable}
use Rattle.fc_verify.specs.Refusals.{IsFaultOf}
use Rattle.fc_ticket.specs.declared.job.InitialVars.{InitialVars}
use Rattle.fc_registry.specs.Slots.{Slot, Shard, slot_in, with_slot, new_slot}
use Rattle.fc_front.specs.Contents.{Rejected}
use Rattle.fc_front.specs.Ends.{refused_by}
use Rattle.fc_core.specs.Transitions.{install_call}
use Rattle.fc_core.specs.Steps.{Rejects}

-- the call for a refused image is that of the image's judgement.
pub rejected_call : (image : List ℕ) (v : InitialVars) (j : Judgement) (f : Fault) (slot : Slot) → IsFaultOf image j f → Rejects (refused_by (nat_lt (number_of f.rule) 20) f) ≡ install_call v j slot
rejected_call image v (Accepts p) f slot is = absurd is
rejected_call image v (Breaks rule k) f slot is =
    let low : number_of f.rule < 20 = subst (λ (r : Rule). number_of r < 20) (sym is.0) is.2 in
    ap (λ (b : Bool). Rejects (refused_by b f)) (lt-ltb (number_of f.rule) 20 low) ∙ λ i. Rejects (Rejected (is.0 i) (is.1 i))
rejected_call image v Untypable f slot is = ap (λ (b : Bool). Rejects (refused_by b f)) (le-ltb (number_of f.rule) 20 is.0)

-- a slot that is written as it was leaves the shard unchanged.
pub same_slot : (shard : Shard) (n : ℕ) → with_slot shard n (slot_in shard n) ≡ shard
same_slot shard n = λ i. record shard { slots = set-get_or shard.slots (n / 8) (new_slot 0) i }
