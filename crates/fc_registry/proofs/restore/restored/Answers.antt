use Rattle.std.proofs.Common.{◌≡◌, ◌∙◌, [], Some, ap, subst, sym}
use Rattle.fc_store.specs.Stored.{StoredSlot}
use Rattle.fc_registry.specs.Record.{HasRecordIf}
use Rattle.fc_registry.specs.Views.{present_of}
use Rattle.fc_registry.specs.Restored.{restored_present}
use Rattle.fc_registry.proofs.Restoring.{present_is}
use Rattle.fc_registry.proofs.Rings.{restored_ring}
use Rattle.fc_registry.proofs.restore.restored.Goals as goal

pub returns-in_ok-restored_program-in-Some-clause-record : goal.returns-in_ok-restored_program-in-Some-clause-record
returns-in_ok-restored_program-in-Some-clause-record c =
    let body = c.in_ok-restored_program-in-Some.field-0 in
    let is = c.in_ok-restored_program-in-Some.ensures in
    subst (λ (s : StoredSlot). HasRecordIf s.serial (present_of (Some body)) []) c.stored.view_is
    (restored_ring c.stored.inside.serial body c.in-Some.program is.state is.version is.vars)

pub returns-in_ok-restored_program-in-Some-clause-program : goal.returns-in_ok-restored_program-in-Some-clause-program
returns-in_ok-restored_program-in-Some-clause-program c =
    let body = c.in_ok-restored_program-in-Some.field-0 in
    let is = c.in_ok-restored_program-in-Some.ensures in
    subst (λ (s : StoredSlot). present_of (Some body) ≡ restored_present s.program) c.stored.view_is
    (present_is (present_of (Some body)) (Some c.in-Some.program) (is.program, sym is.version, sym is.vars) ∙ ap restored_present (sym c.in-Some.is))
