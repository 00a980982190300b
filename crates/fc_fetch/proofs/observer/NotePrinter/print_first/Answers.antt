use Rattle.std.proofs.Common.{ap, take, sym, refl, ◌∙◌}
use Rattle.coap_observer.specs.declared.notice.NotificationClass.TheVariants as notice
use Rattle.coap_client.proofs.Failing.{raised}
use Rattle.coap_client.specs.Transmissions.{MakesCalls}
use Rattle.fc_fetch.specs.declared.observer.NotesError.TheVariants as notes_error
use Rattle.fc_fetch.specs.Observing.{IsFirstFault, unfit_error}
use Rattle.fc_fetch.proofs.Failures.{stopped_unfit, unfit_first, unmarked}
use Rattle.fc_fetch.proofs.Lines.{first_shown, only_shown, printed_as}
use Rattle.fc_fetch.proofs.Timing.{dated, dated_at}
use Rattle.fc_fetch.proofs.observer.NotePrinter.print_first.Goals as goal

pub returns-in_ok-watch-in-State-clause-shown : goal.returns-in_ok-watch-in-State-clause-shown
returns-in_ok-watch-in-State-clause-shown g c =
    let f = c.in_ok-watch-in-State in (
      first_shown g.P.Peer.went g.P.Peer.came g.P.Peer.is_time c.args.self.now.observer.now c.register.new.buffer c.in_ok-count.count c.in-Ok.message c.in_ok-at.at f.watch c.in_ok-count.ensures.registered.0
          c.in_ok-count.ensures.registered.1 (sym c.read.ensures.function ∙ c.in-Ok.is) c.in_ok-at.ensures.time
          (sym c.notice_of.ensures ∙ (c.in-State.is ∙ ap notice.State (sym f.ensures.shown.0))) f.ensures.shown.1 f.ensures.marks,
      refl,
    )

pub returns-in_ok-watch-in-State-clause-called : goal.returns-in_ok-watch-in-State-clause-called
returns-in_ok-watch-in-State-clause-called g c =
    dated_at c.args.self.now.observer.now (take c.in_ok-count.count c.register.new.buffer) c.in_ok-watch-in-State.watch.at c.in_ok-at.at (g.P.Peer.called c.args.peer.now)
    (g.P.Peer.called c.register.new.peer) (g.P.Peer.called c.time.new.peer) (sym c.in_ok-watch-in-State.ensures.shown.1) c.in_ok-count.ensures.called c.in_ok-at.ensures.called

pub returns-in_ok-write_note-in-Last-clause-shown : goal.returns-in_ok-write_note-in-Last-clause-shown
returns-in_ok-write_note-in-Last-clause-shown g c =
    only_shown g.P.Peer.went g.P.Peer.came g.P.Peer.is_time c.args.self.now.observer.now c.args.self.now.shown (take c.in_ok-count.count c.register.new.buffer) (g.W.Write.contents c.args.out.now)
    (g.W.Write.contents c.write_note.new.out) c.in-Ok.message c.in_ok-at.at c.code-in-Last.result c.in_ok-count.ensures.registered.1 (sym c.read.ensures.function ∙ c.in-Ok.is)
    c.in_ok-at.ensures.time (sym c.notice_of.ensures ∙ c.in-Last.is) c.code-in-Last.ensures
    (printed_as c.args.self.now.shown (g.W.Write.contents c.args.out.now) (g.W.Write.contents c.write_note.new.out) c.code.result.byte c.in-Ok.message.code c.payload.result.now c.in-Ok.message.payload c.code.ensures c.payload.ensures
    c.in_ok-write_note-in-Last.ensures)

pub returns-in_ok-write_note-in-Last-clause-called : goal.returns-in_ok-write_note-in-Last-clause-called
returns-in_ok-write_note-in-Last-clause-called g c =
    dated c.args.self.now.observer.now (take c.in_ok-count.count c.register.new.buffer) c.in_ok-at.at (g.P.Peer.called c.args.peer.now) (g.P.Peer.called c.register.new.peer)
    (g.P.Peer.called c.time.new.peer) c.in_ok-count.ensures.called c.in_ok-at.ensures.called

pub returns-in-Older-clause-fault : goal.returns-in-Older-clause-fault
returns-in-Older-clause-fault g c =
    let before = g.P.Peer.called c.args.peer.now in
    let after = g.P.Peer.called c.time.new.peer in
    let unfit = unfit_first g.P.Peer.went g.P.Peer.came c.args.self.now.observer.now _ c.in-Ok.message c.notice_of.result c.in_ok-count.ensures.registered.1 (sym c.read.ensures.function ∙ c.in-Ok.is)
    c.notice_of.ensures c.in-Older.is in
    stopped_unfit g.P.Peer.came g.P.Peer.is_error (MakesCalls before after) c.args.self.now.observer.now unfit.0 c.unfit.result (c.unfit.ensures ∙ ap unfit_error (sym unfit.1))
    (dated c.args.self.now.observer.now (take c.in_ok-count.count c.register.new.buffer) c.in_ok-at.at before (g.P.Peer.called c.register.new.peer) after c.in_ok-count.ensures.called
    c.in_ok-at.ensures.called)

pub returns-in_err-watch-in-State-clause-fault : goal.returns-in_err-watch-in-State-clause-fault
returns-in_err-watch-in-State-clause-fault g c =
    let before = g.P.Peer.called c.args.peer.now in
    let after = g.P.Peer.called c.time.new.peer in
    raised c.from_residual-in_err-watch-in-State.result (notes_error.Memory c.in_err-watch-in-State.field-0.0)
    (IsFirstFault g.P.Peer.came g.P.Peer.is_error (MakesCalls before after) c.args.self.now.observer.now) c.from_residual-in_err-watch-in-State.ensures.1
    (unmarked g.P.Peer.went g.P.Peer.came before after c.args.self.now.observer.now _ c.in-Ok.message _ c.in_ok-count.ensures.registered.1 (sym c.read.ensures.function ∙ c.in-Ok.is)
    (sym c.notice_of.ensures ∙ c.in-State.is)
    (dated c.args.self.now.observer.now (take c.in_ok-count.count c.register.new.buffer) c.in_ok-at.at before (g.P.Peer.called c.register.new.peer) after c.in_ok-count.ensures.called
    c.in_ok-at.ensures.called))

pub returns-in_err-write_note-in-Last-clause-fault : goal.returns-in_err-write_note-in-Last-clause-fault
returns-in_err-write_note-in-Last-clause-fault g c =
    let before = g.P.Peer.called c.args.peer.now in
    let after = g.P.Peer.called c.time.new.peer in
    raised c.from_residual-in_err-write_note-in-Last.result (notes_error.Print c.in_err-write_note-in-Last.field-0.0)
    (IsFirstFault g.P.Peer.came g.P.Peer.is_error (MakesCalls before after) c.args.self.now.observer.now) c.from_residual-in_err-write_note-in-Last.ensures.1
    (dated c.args.self.now.observer.now (take c.in_ok-count.count c.register.new.buffer) c.in_ok-at.at before (g.P.Peer.called c.register.new.peer) after c.in_ok-count.ensures.called
    c.in_ok-at.ensures.called)
