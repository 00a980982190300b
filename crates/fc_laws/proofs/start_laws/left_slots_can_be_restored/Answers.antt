use Rattle.std.proofs.Common.{◌≡◌, ◌∙◌, Some, sym, ap}
use Rattle.fc_store.specs.Stored.{StoredProgram, StoredSlot}
use Rattle.fc_laws.proofs.starts.Left.{left_can, right_so}
use Rattle.fc_laws.proofs.start_laws.left_slots_can_be_restored.Goals as goal

pub returns-in-Some : goal.returns-in-Some
returns-in-Some c = λ h n can is. left_can h n c.args.stored.now
    (λ s p found judges.
    let program = ap (λ (k : StoredSlot). k.program) (sym c.stored.view_is) in
    let at : Some s ≡ Some c.in-Some.program = sym found ∙ (program ∙ c.in-Some.is) in
    let same : c.in-Some.program ≡ s = cc at in
    let image = ap (λ (x : StoredProgram). x.image) (c.program.view_is ∙ same) in
    right_so c.as_slice-image.result.now s p (c.as_slice-image.ensures.value ∙ image)
    c.judgement_is_right.ensures c.accepted_programs_run.ensures judges)
    can is

pub returns-in_default : goal.returns-in_default
returns-in_default c = λ h n can is. left_can h n c.args.stored.now
    (λ s p found judges.
    let program = ap (λ (k : StoredSlot). k.program) c.stored.view_is in
    absurd (c.in_default.not-Some s (program ∙ found)))
    can is
