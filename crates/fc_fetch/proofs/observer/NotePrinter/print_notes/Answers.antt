use Rattle.std.proofs.Common.{◌≡◌, ◌<◌, ◌+◌, ◌%◌, ℕ, [], false, inr, refl, subst, sym, Option, List, arith}
use Rattle.coap_client.proofs.Failing.{raised}
use Rattle.coap_client.proofs.Transmitting.{does_nothing}
use Rattle.coap_client.specs.Transmissions.{MakesCalls}
use Rattle.fc_fetch.specs.Observing.{EndsNotes, HasCalled, IsAtFirst, IsFirstBy, IsFirstShown, IsLineOrEnd, IsNotesFault, IsPending, IsTimedObservation, ObservesNotes, lines_wanted}
use Rattle.fc_fetch.specs.Rendering.{Written, written_to}
use Rattle.fc_fetch.specs.declared.observer.ObservationEnd.TheVariants.{Counted, Last}
use Rattle.fc_fetch.proofs.Failures.{failed_since}
use Rattle.fc_fetch.proofs.Lines.{between_ready, between_shown, first_ready, shown_by, some_line}
use Rattle.fc_fetch.proofs.Timing.{ends_at_first, observed_so_far, observed_to_end, waits_first}
use Rattle.fc_fetch.proofs.observer.NotePrinter.print_notes.Goals as goal

below : (n end limit : ℕ) → n < end → end ≡ limit → n < limit
below n end limit less is = omega (arith, less, is)

pub returns-in-Only-clause-shown : goal.returns-in-Only-clause-shown
returns-in-Only-clause-shown g c =
    let went = g.P.Peer.went in
    let came = g.P.Peer.came in
    let told = g.P.Peer.is_time in
    let o = c.args.self.now.observer.now in
    let seconds = c.args.self.now.extent.seconds in
    let before = g.P.Peer.called c.args.peer.now in
    let after = g.P.Peer.called c.print_first.new.peer in
    shown_by went came told (IsAtFirst (Last c.in-Only.code)) (λ rs. MakesCalls before after (IsTimedObservation o seconds (Last c.in-Only.code) rs)) o c.args.self.now.shown (lines_wanted c.args.self.now.extent.count)
    (written_to g.W.Write.contents g.E.Write.contents c.args.console.now) (record { out = g.W.Write.contents c.print_first.new.out; err = g.E.Write.contents c.args.console.now.err })
    (Last c.in-Only.code)
    (λ rs only. ends_at_first o seconds c.in-Only.code rs before after only (subst (λ x. MakesCalls before after (IsFirstBy o x)) c.in-Only.is c.in_ok-watch.ensures.called))
    (subst (IsFirstShown went came told o c.args.self.now.shown (g.W.Write.contents c.args.console.now.out) (g.W.Write.contents c.print_first.new.out) c.print_first.new.buffer) c.in-Only.is c.in_ok-watch.ensures.shown
    (lines_wanted c.args.self.now.extent.count) (g.E.Write.contents c.args.console.now.err) (some_line c.args.self.now.extent.count))

pub loop-init : goal.loop-init
loop-init g c =
    let went = g.P.Peer.went in
    let came = g.P.Peer.came in
    let told = g.P.Peer.is_time in
    let o = c.args.self.now.observer.now in
    let seconds = c.args.self.now.extent.seconds in
    let before = g.P.Peer.called c.args.peer.now in
    let between = g.P.Peer.called c.print_first.new.peer in
    let begun = g.P.Peer.called c.begin_wait.new.peer in
    let watch = c.in-State.watch in
    let first : Written = written_to g.W.Write.contents g.E.Write.contents c.args.console.now in
    let f = subst (IsFirstShown went came told o c.args.self.now.shown (g.W.Write.contents c.args.console.now.out) (g.W.Write.contents c.print_first.new.out) c.print_first.new.buffer) c.in-State.is
    c.in_ok-watch.ensures.shown in (
      (f.0.within, (f.0.note.message, f.0.read_is)),
      record {
        at = c.begin_wait.new.peer;
        begun =
            waits_first o seconds watch.at c.first_wait.result before between begun c.first_wait.ensures
            (subst (λ x. MakesCalls before between (IsFirstBy o x)) c.in-State.is c.in_ok-watch.ensures.called) c.in_ok-begin_wait.ensures.called;
        since = (
          refl,
          subst
              (λ (out : Option (List ℕ)).
              IsPending went came told (HasCalled (MakesCalls begun begun) o ((o.id + 2) % 65536) (ObservesNotes o seconds watch.at)) o c.args.self.now.shown first (record { out = out; err = g.E.Write.contents c.args.console.now.err }) 0 watch
              c.print_first.new.buffer (record { count = c.in-State.count; time = watch.at; last = false })) (sym f.1)
              (first_ready went came told (HasCalled (MakesCalls begun begun) o ((o.id + 2) % 65536) (ObservesNotes o seconds watch.at)) o c.args.self.now.shown first c.print_first.new.buffer c.in-State.count watch.at watch
              (does_nothing begun (ObservesNotes o seconds watch.at []) refl, refl) f.0),
        );
      },
    )

pub returns-in_err-ended-clause-fault : goal.returns-in_err-ended-clause-fault
returns-in_err-ended-clause-fault g c =
    let went = g.P.Peer.went in
    let came = g.P.Peer.came in
    let told = g.P.Peer.is_time in
    let o = c.args.self.now.observer.now in
    let seconds = c.args.self.now.extent.seconds in
    let start = c.in-State.watch.at in
    let first : Written = written_to g.W.Write.contents g.E.Write.contents c.args.console.now in
    let now : Written = written_to g.W.Write.contents g.E.Write.contents c.loop.console in
    let since = c.loop.invariant.1 in
    let before = g.P.Peer.called c.args.peer.now in
    let base = g.P.Peer.called since.at in
    let between = g.P.Peer.called c.loop.peer in
    let ready = between_ready went came told (HasCalled (MakesCalls base between) o c.loop.progress.next_id (ObservesNotes o seconds start)) o c.args.self.now.shown first now c.loop.counter c.loop.progress.watch c.loop.progress.buffer.now c.loop.next since.since in
    raised c.from_residual-in_err-ended.result c.in_err-ended.field-0.0
    (IsNotesFault went came told g.P.Peer.is_error g.P.Peer.called c.args.peer.now c.print_line.new.peer o seconds) c.from_residual-in_err-ended.ensures.1
    (inr (failed_since went came told g.P.Peer.is_error g.P.Peer.called c.args.peer.now since.at c.print_line.new.peer o seconds start c.in_err-ended.field-0.0 since.begun
    (c.in_err-ended.ensures.fault since.at first c.loop.counter ready)))

pub returns-in-Some-clause-shown : goal.returns-in-Some-clause-shown
returns-in-Some-clause-shown g c =
    let went = g.P.Peer.went in
    let came = g.P.Peer.came in
    let told = g.P.Peer.is_time in
    let o = c.args.self.now.observer.now in
    let seconds = c.args.self.now.extent.seconds in
    let start = c.in-State.watch.at in
    let first : Written = written_to g.W.Write.contents g.E.Write.contents c.args.console.now in
    let now : Written = written_to g.W.Write.contents g.E.Write.contents c.loop.console in
    let since = c.loop.invariant.1 in
    let before = g.P.Peer.called c.args.peer.now in
    let base = g.P.Peer.called since.at in
    let between = g.P.Peer.called c.loop.peer in
    let ready = between_ready went came told (HasCalled (MakesCalls base between) o c.loop.progress.next_id (ObservesNotes o seconds start)) o c.args.self.now.shown first now c.loop.counter c.loop.progress.watch c.loop.progress.buffer.now c.loop.next since.since in
    let after = g.P.Peer.called c.print_line.new.peer in
    let state : Written = written_to g.W.Write.contents g.E.Write.contents c.print_line.new.console in
    shown_by went came told (λ rs. MakesCalls base after (EndsNotes o seconds start c.in-Some.end rs)) (λ rs. MakesCalls before after (IsTimedObservation o seconds c.in-Some.end rs)) o c.args.self.now.shown
    (lines_wanted c.args.self.now.extent.count) first state c.in-Some.end (λ rs one. observed_to_end o seconds start c.in-Some.end rs before base after since.begun one)
    (subst (IsLineOrEnd went came told (MakesCalls base after) o c.args.self.now.shown seconds start first state c.loop.counter c.print_line.new.progress.watch c.print_line.new.progress.next_id) c.in-Some.is
    (c.in_ok-ended.ensures.line since.at first c.loop.counter ready) (lines_wanted c.args.self.now.extent.count)
    (below c.loop.counter c.lines_wanted-end.result (lines_wanted c.args.self.now.extent.count) c.loop-test.true c.lines_wanted-end.ensures.wanted))

pub loop-preserved : goal.loop-preserved
loop-preserved g c =
    let went = g.P.Peer.went in
    let came = g.P.Peer.came in
    let told = g.P.Peer.is_time in
    let o = c.args.self.now.observer.now in
    let seconds = c.args.self.now.extent.seconds in
    let start = c.in-State.watch.at in
    let first : Written = written_to g.W.Write.contents g.E.Write.contents c.args.console.now in
    let now : Written = written_to g.W.Write.contents g.E.Write.contents c.loop.console in
    let since = c.loop.invariant.1 in
    let before = g.P.Peer.called c.args.peer.now in
    let base = g.P.Peer.called since.at in
    let between = g.P.Peer.called c.loop.peer in
    let ready = between_ready went came told (HasCalled (MakesCalls base between) o c.loop.progress.next_id (ObservesNotes o seconds start)) o c.args.self.now.shown first now c.loop.counter c.loop.progress.watch c.loop.progress.buffer.now c.loop.next since.since in
    let after = g.P.Peer.called c.print_line.new.peer in
    let state : Written = written_to g.W.Write.contents g.E.Write.contents c.print_line.new.console in (
      tt,
      record {
        at = since.at;
        begun = since.begun;
        since =
            subst (IsLineOrEnd went came told (MakesCalls base after) o c.args.self.now.shown seconds start first state c.loop.counter c.print_line.new.progress.watch c.print_line.new.progress.next_id) c.in-None.is
            (c.in_ok-ended.ensures.line since.at first c.loop.counter ready);
      },
    )

pub returns-clause-shown : goal.returns-clause-shown
returns-clause-shown g c =
    let went = g.P.Peer.went in
    let came = g.P.Peer.came in
    let told = g.P.Peer.is_time in
    let o = c.args.self.now.observer.now in
    let seconds = c.args.self.now.extent.seconds in
    let start = c.in-State.watch.at in
    let first : Written = written_to g.W.Write.contents g.E.Write.contents c.args.console.now in
    let now : Written = written_to g.W.Write.contents g.E.Write.contents c.loop.console in
    let since = c.loop.invariant.1 in
    let before = g.P.Peer.called c.args.peer.now in
    let base = g.P.Peer.called since.at in
    let between = g.P.Peer.called c.loop.peer in
    let limit = c.lines_wanted-end.result in
    let end = c.loop-test.false in
    let auto = c.loop.auto.counter-end in
    let wanted = c.lines_wanted-end.ensures.wanted in
    between_shown went came told (HasCalled (MakesCalls base between) o c.loop.progress.next_id (ObservesNotes o seconds start)) (λ rs. MakesCalls before between (IsTimedObservation o seconds Counted rs)) o c.args.self.now.shown first now
    c.loop.counter (lines_wanted c.args.self.now.extent.count) c.loop.progress.watch c.loop.progress.buffer.now c.loop.next (λ rs one. observed_so_far o seconds start rs before base between since.begun one.0) since.since
    (omega (arith, end, auto, wanted)) (some_line c.args.self.now.extent.count)
