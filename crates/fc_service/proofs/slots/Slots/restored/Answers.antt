use Rattle.std.proofs.Common.{ℕ, subst}
use Rattle.fc_service.proofs.FirstSerials.{finds_raised, restored_after}
use Rattle.fc_service.specs.Serials.{serial_over}
use Rattle.fc_service.specs.Starting.{SavesSerial}
use Rattle.fc_service.proofs.slots.Slots.restored.Goals as goal

pub of-requires-clause-settled : goal.of-requires-clause-settled
of-requires-clause-settled g c =
    finds_raised g.P.Store (serial_over c.args.started c.args.stored.now) c.args.stored.now c.save_serial-is_saved.result c.args.store c.save_serial-is_saved.new.store
    c.requires.count c.requires.same c.in_ok-first.ensures.serials c.index-stored-0.result c.index-stored-0.is
    (subst (λ (n : ℕ). SavesSerial g.P.Store n c.index-stored-0.result.program c.save_serial-is_saved.result c.args.store c.save_serial-is_saved.new.store) c.serial_over.ensures.value c.save_serial-is_saved.ensures)
    c.requires.ready c.requires.settled

pub of-requires-clause-restored : goal.of-requires-clause-restored
of-requires-clause-restored g c = λ persistent.
    restored_after g.P.Store (serial_over c.args.started c.args.stored.now) c.args.first_id c.args.policy.now c.in_ok-first.first c.args.stored.now c.save_serial-is_saved.result c.args.store c.save_serial-is_saved.new.store
    c.requires.count c.requires.same c.in_ok-first.ensures.serials c.in_ok-first.ensures.can c.in_ok-first.ensures.first c.index-stored-0.result c.index-stored-0.is
    (subst (λ (n : ℕ). SavesSerial g.P.Store n c.index-stored-0.result.program c.save_serial-is_saved.result c.args.store c.save_serial-is_saved.new.store) c.serial_over.ensures.value c.save_serial-is_saved.ensures)
