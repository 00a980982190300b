use Rattle.std.proofs.Common.{inl, inr, ◌∷◌}
use Rattle.coap_client.proofs.Failing.{raised}
use Rattle.coap_client.proofs.Transmitting.{both}
use Rattle.coap_client.specs.Transmissions.{MakesCalls}
use Rattle.fc_fetch.specs.Rendering.{written_to}
use Rattle.fc_fetch.proofs.Failures.{left_anyhow, left_in_vain, on_err}
use Rattle.fc_fetch.proofs.Lines.{shown_by}
use Rattle.fc_fetch.specs.declared.observer.NotesError.TheVariants as notes_error
use Rattle.fc_fetch.specs.Observing.{IsEndFault, IsLeaving, IsTimedObservation, LeavesAtFault, ObservesToEnd, lines_wanted}
use Rattle.fc_fetch.proofs.observer.NotePrinter.print_to_end.Goals as goal

pub returns-in_ok-leave-in-Ok-clause-shown : goal.returns-in_ok-leave-in-Ok-clause-shown
returns-in_ok-leave-in-Ok-clause-shown g c =
    let o = c.args.self.now.observer.now in
    let seconds = c.args.self.now.extent.seconds in
    let before = g.P.Peer.called c.args.peer.now in
    let between = g.P.Peer.called c.print_notes.new.peer in
    let after = g.P.Peer.called c.leave.new.peer in
    shown_by g.P.Peer.went g.P.Peer.came g.P.Peer.is_time (λ rs. MakesCalls before between (IsTimedObservation o seconds c.in-Ok.end rs))
    (λ rs. MakesCalls before after (ObservesToEnd o seconds c.in-Ok.end rs)) o c.args.self.now.shown (lines_wanted c.args.self.now.extent.count)
    (written_to g.W.Write.contents g.E.Write.contents c.args.console.now)
    (written_to g.W.Write.contents g.E.Write.contents c.print_notes.new.console) c.in-Ok.end
    (λ rs one. both before between after (IsTimedObservation o seconds c.in-Ok.end rs) (IsLeaving o c.in-Ok.end) one c.in_ok-leave-in-Ok.ensures.called) c.in-Ok.ensures.shown

pub returns-in_err-leave-in-Ok-clause-fault : goal.returns-in_err-leave-in-Ok-clause-fault
returns-in_err-leave-in-Ok-clause-fault g c =
    let o = c.args.self.now.observer.now in
    let before = g.P.Peer.called c.args.peer.now in
    let between = g.P.Peer.called c.print_notes.new.peer in
    let after = g.P.Peer.called c.leave.new.peer in
    raised c.from_residual-in_err-leave-in-Ok.result (notes_error.Fault c.in_err-leave-in-Ok.field-0.0)
    (IsEndFault g.P.Peer.went g.P.Peer.came g.P.Peer.is_time g.P.Peer.is_error g.P.Peer.called c.args.peer.now c.leave.new.peer o c.args.self.now.extent.seconds) c.from_residual-in_err-leave-in-Ok.ensures.1
    (inr (left_in_vain g.P.Peer.is_error before between after o c.args.self.now.extent.seconds c.in-Ok.end (c.in-Ok.ensures.shown.latest ∷ c.in-Ok.ensures.shown.older)
    c.in_err-leave-in-Ok.field-0.0 c.in-Ok.ensures.shown.called c.in_err-leave-in-Ok.ensures.fault))

pub returns-in_err-leave-in-Ok-clause-leaves : goal.returns-in_err-leave-in-Ok-clause-leaves
returns-in_err-leave-in-Ok-clause-leaves g c =
    on_err c.from_residual-in_err-leave-in-Ok.result
    (LeavesAtFault g.P.Peer.called g.P.Peer.is_error g.P.Peer.tried c.args.peer.now c.leave.new.peer c.args.self.now.observer.now)
    (inl (c.in_err-leave-in-Ok.ensures.tried, record { from = c.print_notes.new.peer; ends = inr (c.in_err-leave-in-Ok.field-0.0, c.in_err-leave-in-Ok.ensures.fault) }))

pub returns-then-may_notify-clause-leaves : goal.returns-then-may_notify-clause-leaves
returns-then-may_notify-clause-leaves g c =
    left_anyhow g.P.Peer.called g.P.Peer.is_error g.P.Peer.tried c.args.peer.now c.print_notes.new.peer c.deregister_by-ended.new.peer c.args.self.now.observer.now c.deregister_by-ended.result
    c.deregister_by-ended.ensures.tried c.deregister_by-ended.ensures.called c.deregister_by-ended.ensures.fault
