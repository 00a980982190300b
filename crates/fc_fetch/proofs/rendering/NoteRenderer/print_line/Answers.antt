use Rattle.std.proofs.Common.{◌≡◌, ◌+◌, ◌⊎◌, ℕ, inl, inr, ◌∷◌, IfSome, is_some, refl, subst, sym, arith}
use Rattle.coap_client.proofs.Failing.{raised}
use Rattle.coap_client.specs.Transmissions.{MakesCalls}
use Rattle.fc_fetch.specs.Observing.{EndsNotes, HasCalled, HasMessage, HasNewer, HasShown, IsBeforeNext, IsLaterFault, IsRenderedAs, ObservesNotes}
use Rattle.fc_fetch.specs.Rendering.{Written, written_to}
use Rattle.fc_fetch.specs.declared.observer.NotesError.TheVariants as notes_error
use Rattle.fc_fetch.specs.declared.observer.ObservationEnd.TheVariants.{Over}
use Rattle.fc_fetch.proofs.Failures.{no_wait_fails, unprinted_last, unrendered}
use Rattle.fc_fetch.proofs.Lines.{GoesOn, last_shown, over_shown}
use Rattle.fc_fetch.proofs.NextNotes.{Counted, begin_counting, line_rendered, missing_rendered, newer_rendered, next_arrived, none_arrived, over_rendered}
use Rattle.fc_fetch.proofs.Timing.{HasCounted, last_observed, over_counted}
use Rattle.fc_fetch.proofs.rendering.NoteRenderer.print_line.Goals as goal
use Rattle.fc_fetch.proofs.rendering.NoteRenderer.print_line.Goals.{in-Missing, in-Newer}

pub loop-init : goal.loop-init
loop-init g c = (
  c.requires,
  λ begun before lines ready. (
    begin_counting g.P.Peer.went g.P.Peer.came g.P.Peer.is_time c.args.self.now.observer.now c.args.self.now.shown before lines c.args.self.now.limit.seconds c.args.self.now.limit.start (g.P.Peer.called begun) c.args.progress.now.next_id
        (g.P.Peer.called c.args.peer.now) (written_to g.W.Write.contents g.E.Write.contents c.args.console.now) c.args.progress.now.watch c.args.progress.now.buffer.now c.args.next ready,
    inl refl,
  ),
)

pub returns-in_err-noted-clause-fault : goal.returns-in_err-noted-clause-fault
returns-in_err-noted-clause-fault g c =
    let o = c.args.self.now.observer.now in
    let seconds = c.args.self.now.limit.seconds in
    let start = c.args.self.now.limit.start in
    let first : Written = written_to g.W.Write.contents g.E.Write.contents c.args.console.now in
    let now : Written = written_to g.W.Write.contents g.E.Write.contents c.loop.console in
    raised c.from_residual.result (notes_error.Fault c.in_err-noted.field-0.0)
    (λ error. (begun : _) (before : Written) (lines : ℕ)
    → IsBeforeNext g.P.Peer.went g.P.Peer.came g.P.Peer.is_time (HasCalled (MakesCalls (g.P.Peer.called begun) (g.P.Peer.called c.args.peer.now)) o c.args.progress.now.next_id (ObservesNotes o seconds start)) o c.args.self.now.shown before first
    lines c.args.progress.now.watch c.args.progress.now.buffer.now c.args.next
    → IsLaterFault g.P.Peer.went g.P.Peer.came g.P.Peer.is_time g.P.Peer.is_error g.P.Peer.called begun c.next_note.new.peer o (ObservesNotes o seconds start) error)
    c.from_residual.ensures.1
    (λ begun before lines ready.
    inl (no_wait_fails g.P.Peer.went g.P.Peer.came g.P.Peer.is_time g.P.Peer.is_error (g.P.Peer.called begun) (g.P.Peer.called c.loop.peer) (g.P.Peer.called c.next_note.new.peer) o c.args.self.now.shown
    before now lines c.loop.progress.buffer.now c.loop.next seconds start c.loop.counter c.loop.progress.next_id (is_some seconds) c.loop.progress.watch c.in_err-noted.field-0.0 refl
    (c.loop.invariant.1 begun before lines ready).0 c.in_err-noted.ensures.fault c.in_err-noted.ensures.awaited))

pub returns-in_default-clause-line : goal.returns-in_default-clause-line
returns-in_default-clause-line g c = λ begun before lines ready limit fewer.
    let o = c.args.self.now.observer.now in
    none_arrived g.P.Peer.went g.P.Peer.came g.P.Peer.is_time o c.args.self.now.shown before lines c.args.self.now.limit.seconds c.args.self.now.limit.start (g.P.Peer.called begun) c.loop.counter c.loop.progress.next_id (is_some c.args.self.now.limit.seconds)
    (g.P.Peer.called c.loop.peer) (g.P.Peer.called c.next_note.new.peer) (written_to g.W.Write.contents g.E.Write.contents c.loop.console) c.loop.progress.watch c.next_note.new.watch c.loop.progress.buffer.now
    c.next_note.new.buffer c.loop.next c.in_ok-noted.field-0 refl c.in_default.is (c.loop.invariant.1 begun before lines ready).0 c.in_ok-noted.ensures.noted c.in_ok-noted.ensures.called
    limit fewer

pub returns-in_err-end-clause-fault : goal.returns-in_err-end-clause-fault
returns-in_err-end-clause-fault g c =
    let went = g.P.Peer.went in
    let came = g.P.Peer.came in
    let told = g.P.Peer.is_time in
    let o = c.args.self.now.observer.now in
    let shown = c.args.self.now.shown in
    let seconds = c.args.self.now.limit.seconds in
    let start = c.args.self.now.limit.start in
    let n = c.loop.counter in
    let ends = is_some seconds in
    let first : Written = written_to g.W.Write.contents g.E.Write.contents c.args.console.now in
    let now : Written = written_to g.W.Write.contents g.E.Write.contents c.loop.console in
    let between = g.P.Peer.called c.loop.peer in
    let awaited = g.P.Peer.called c.next_note.new.peer in
    let old = c.next_note.new.watch in
    raised c.from_residual-in_err-end.result (notes_error.Print c.in_err-end.field-0.0)
    (λ error. (begun : _) (before : Written) (lines : ℕ)
    → IsBeforeNext went came told (HasCalled (MakesCalls (g.P.Peer.called begun) (g.P.Peer.called c.args.peer.now)) o c.args.progress.now.next_id (ObservesNotes o seconds start)) o shown before first lines c.args.progress.now.watch c.args.progress.now.buffer.now
    c.args.next
    → IsLaterFault went came told g.P.Peer.is_error g.P.Peer.called begun c.next_note.new.peer o (ObservesNotes o seconds start) error)
    c.from_residual-in_err-end.ensures.1
    (λ begun before lines ready.
    unprinted_last went came told (g.P.Peer.called begun) awaited o shown before now lines c.next_note.new.buffer c.in-Some.noted seconds start n c.loop.progress.next_id old c.if-noted.true (subst (IsBeforeNext went came told (Counted went came told o shown before lines seconds start (g.P.Peer.called begun) n c.loop.progress.next_id awaited) o shown before now lines old c.next_note.new.buffer) c.in-Some.is
    (next_arrived went came told o shown before lines seconds start (g.P.Peer.called begun) n c.loop.progress.next_id ends between awaited now c.loop.progress.watch old c.loop.progress.buffer.now c.next_note.new.buffer c.loop.next c.in_ok-noted.field-0 refl (c.loop.invariant.1 begun before lines ready).0 c.in_ok-noted.ensures.noted c.in_ok-noted.ensures.called)))

pub returns-then-noted-clause-line : goal.returns-then-noted-clause-line
returns-then-noted-clause-line g c =
    let went = g.P.Peer.went in
    let came = g.P.Peer.came in
    let told = g.P.Peer.is_time in
    let o = c.args.self.now.observer.now in
    let shown = c.args.self.now.shown in
    let seconds = c.args.self.now.limit.seconds in
    let start = c.args.self.now.limit.start in
    let n = c.loop.counter in
    let ends = is_some seconds in
    let first : Written = written_to g.W.Write.contents g.E.Write.contents c.args.console.now in
    let now : Written = written_to g.W.Write.contents g.E.Write.contents c.loop.console in
    let between = g.P.Peer.called c.loop.peer in
    let awaited = g.P.Peer.called c.next_note.new.peer in
    let old = c.next_note.new.watch in
    λ begun before lines ready limit fewer.
    let p = subst (IsBeforeNext went came told (Counted went came told o shown before lines seconds start (g.P.Peer.called begun) n c.loop.progress.next_id awaited) o shown before now lines old c.next_note.new.buffer) c.in-Some.is
    (next_arrived went came told o shown before lines seconds start (g.P.Peer.called begun) n c.loop.progress.next_id ends between awaited now c.loop.progress.watch old c.loop.progress.buffer.now c.next_note.new.buffer c.loop.next c.in_ok-noted.field-0 refl (c.loop.invariant.1 begun before lines ready).0 c.in_ok-noted.ensures.noted c.in_ok-noted.ensures.called) in
    let base = g.P.Peer.called begun in
    last_shown went came told (Counted went came told o shown before lines seconds start base n c.loop.progress.next_id awaited) (λ end rs. MakesCalls base awaited (EndsNotes o seconds start end rs)) o shown before now
    (record { out = g.W.Write.contents c.print_last.new.out; err = g.E.Write.contents c.loop.console.err }) lines old c.next_note.new.buffer c.in-Some.noted c.in_ok-end.end c.if-noted.true p
    (λ code. last_observed o seconds start base n code p.note p.older awaited p.begins p.called.0) refl (c.in_ok-end.ensures p.note.message p.read_is) limit fewer

pub returns-in_err-render-clause-fault : goal.returns-in_err-render-clause-fault
returns-in_err-render-clause-fault g c =
    let went = g.P.Peer.went in
    let came = g.P.Peer.came in
    let told = g.P.Peer.is_time in
    let o = c.args.self.now.observer.now in
    let shown = c.args.self.now.shown in
    let seconds = c.args.self.now.limit.seconds in
    let start = c.args.self.now.limit.start in
    let n = c.loop.counter in
    let ends = is_some seconds in
    let first : Written = written_to g.W.Write.contents g.E.Write.contents c.args.console.now in
    let now : Written = written_to g.W.Write.contents g.E.Write.contents c.loop.console in
    let between = g.P.Peer.called c.loop.peer in
    let awaited = g.P.Peer.called c.next_note.new.peer in
    let old = c.next_note.new.watch in
    raised c.from_residual-in_err-render.result c.in_err-render.field-0.0
    (λ error. (begun : _) (before : Written) (lines : ℕ)
    → IsBeforeNext went came told (HasCalled (MakesCalls (g.P.Peer.called begun) (g.P.Peer.called c.args.peer.now)) o c.args.progress.now.next_id (ObservesNotes o seconds start)) o shown before first lines c.args.progress.now.watch c.args.progress.now.buffer.now
    c.args.next
    → IsLaterFault went came told g.P.Peer.is_error g.P.Peer.called begun c.render.new.peer o (ObservesNotes o seconds start) error)
    c.from_residual-in_err-render.ensures.1
    (λ begun before lines ready.
    let p = subst (IsBeforeNext went came told (Counted went came told o shown before lines seconds start (g.P.Peer.called begun) n c.loop.progress.next_id awaited) o shown before now lines old c.next_note.new.buffer) c.in-Some.is
    (next_arrived went came told o shown before lines seconds start (g.P.Peer.called begun) n c.loop.progress.next_id ends between awaited now c.loop.progress.watch old c.loop.progress.buffer.now c.next_note.new.buffer c.loop.next c.in_ok-noted.field-0 refl (c.loop.invariant.1 begun before lines ready).0 c.in_ok-noted.ensures.noted c.in_ok-noted.ensures.called) in
    unrendered went came told g.P.Peer.is_error g.P.Peer.called begun c.next_note.new.peer c.render.new.peer o shown before now lines c.next_note.new.buffer c.in-Some.noted seconds start n c.loop.progress.next_id old
    c.in_err-render.field-0.0 c.if-noted.false p (c.in_err-render.ensures.fault p.note.message p.read_is))

pub returns-in-Line-clause-line : goal.returns-in-Line-clause-line
returns-in-Line-clause-line g c =
    let went = g.P.Peer.went in
    let came = g.P.Peer.came in
    let told = g.P.Peer.is_time in
    let o = c.args.self.now.observer.now in
    let shown = c.args.self.now.shown in
    let seconds = c.args.self.now.limit.seconds in
    let start = c.args.self.now.limit.start in
    let n = c.loop.counter in
    let ends = is_some seconds in
    let first : Written = written_to g.W.Write.contents g.E.Write.contents c.args.console.now in
    let now : Written = written_to g.W.Write.contents g.E.Write.contents c.loop.console in
    let between = g.P.Peer.called c.loop.peer in
    let awaited = g.P.Peer.called c.next_note.new.peer in
    let old = c.next_note.new.watch in
    let after = g.P.Peer.called c.render.new.peer in
    let state : Written = written_to g.W.Write.contents g.E.Write.contents c.render.new.console in
    λ begun before lines ready.
    let p = subst (IsBeforeNext went came told (Counted went came told o shown before lines seconds start (g.P.Peer.called begun) n c.loop.progress.next_id awaited) o shown before now lines old c.next_note.new.buffer) c.in-Some.is
    (next_arrived went came told o shown before lines seconds start (g.P.Peer.called begun) n c.loop.progress.next_id ends between awaited now c.loop.progress.watch old c.loop.progress.buffer.now c.next_note.new.buffer c.loop.next c.in_ok-noted.field-0 refl (c.loop.invariant.1 begun before lines ready).0 c.in_ok-noted.ensures.noted c.in_ok-noted.ensures.called) in
    line_rendered went came told o shown before lines seconds start (g.P.Peer.called begun) n c.loop.progress.next_id c.render.new.progress.next_id awaited after now state c.next_note.new.buffer c.render.new.progress.buffer.now c.in-Some.noted old c.render.new.progress.watch c.if-noted.false p
    (subst (IsRenderedAs went came told (MakesCalls awaited after) o shown seconds start p.note.message now state old c.render.new.progress.watch c.loop.progress.next_id c.render.new.progress.next_id c.render.new.progress.buffer.now) c.in-Line.is (c.in_ok-render.ensures.rendered p.note.message p.read_is))

pub returns-in-Over-clause-line : goal.returns-in-Over-clause-line
returns-in-Over-clause-line g c =
    let went = g.P.Peer.went in
    let came = g.P.Peer.came in
    let told = g.P.Peer.is_time in
    let o = c.args.self.now.observer.now in
    let shown = c.args.self.now.shown in
    let seconds = c.args.self.now.limit.seconds in
    let start = c.args.self.now.limit.start in
    let n = c.loop.counter in
    let ends = is_some seconds in
    let first : Written = written_to g.W.Write.contents g.E.Write.contents c.args.console.now in
    let now : Written = written_to g.W.Write.contents g.E.Write.contents c.loop.console in
    let between = g.P.Peer.called c.loop.peer in
    let awaited = g.P.Peer.called c.next_note.new.peer in
    let old = c.next_note.new.watch in
    let after = g.P.Peer.called c.render.new.peer in
    let state : Written = written_to g.W.Write.contents g.E.Write.contents c.render.new.console in
    λ begun before lines ready limit fewer.
    let p = subst (IsBeforeNext went came told (Counted went came told o shown before lines seconds start (g.P.Peer.called begun) n c.loop.progress.next_id awaited) o shown before now lines old c.next_note.new.buffer) c.in-Some.is
    (next_arrived went came told o shown before lines seconds start (g.P.Peer.called begun) n c.loop.progress.next_id ends between awaited now c.loop.progress.watch old c.loop.progress.buffer.now c.next_note.new.buffer c.loop.next c.in_ok-noted.field-0 refl (c.loop.invariant.1 begun before lines ready).0 c.in_ok-noted.ensures.noted c.in_ok-noted.ensures.called) in
    over_rendered went came told o shown before lines seconds start (g.P.Peer.called begun) n c.loop.progress.next_id c.render.new.progress.next_id awaited after now state c.next_note.new.buffer c.render.new.progress.buffer.now c.in-Some.noted old c.render.new.progress.watch c.if-noted.false p
    (subst (IsRenderedAs went came told (MakesCalls awaited after) o shown seconds start p.note.message now state old c.render.new.progress.watch c.loop.progress.next_id c.render.new.progress.next_id c.render.new.progress.buffer.now) c.in-Over.is (c.in_ok-render.ensures.rendered p.note.message p.read_is))
    limit fewer

pub returns-clause-line : goal.returns-clause-line
returns-clause-line g c = λ begun before lines ready limit fewer.
    let o = c.args.self.now.observer.now in
    let seconds = c.args.self.now.limit.seconds in
    let start = c.args.self.now.limit.start in
    let n = c.loop.counter in
    let base = g.P.Peer.called begun in
    let after = g.P.Peer.called c.loop.peer in
    let now : Written = written_to g.W.Write.contents g.E.Write.contents c.loop.console in
    let end = c.loop-test.false in
    elim (c.loop.invariant.1 begun before lines ready).1 as (λ _. HasShown g.P.Peer.went g.P.Peer.came g.P.Peer.is_time (λ rs. MakesCalls base after (EndsNotes o seconds start Over rs)) o c.args.self.now.shown limit before now Over) [
      | inl none ↦ absurd (omega (arith, none, end))
      | inr goes ↦
          over_shown g.P.Peer.went g.P.Peer.came g.P.Peer.is_time (Counted g.P.Peer.went g.P.Peer.came g.P.Peer.is_time o c.args.self.now.shown before lines seconds start base n c.loop.progress.next_id after) (λ rs. MakesCalls base after (EndsNotes o seconds start Over rs)) o c.args.self.now.shown before now
          lines goes.was goes.some (over_counted o seconds start base n (goes.some.latest ∷ goes.some.older) after (omega (arith, end)) goes.some.called.0) limit fewer
    ]

pub loop-preserved : goal.loop-preserved
loop-preserved g c =
    let went = g.P.Peer.went in
    let came = g.P.Peer.came in
    let told = g.P.Peer.is_time in
    let o = c.args.self.now.observer.now in
    let shown = c.args.self.now.shown in
    let seconds = c.args.self.now.limit.seconds in
    let start = c.args.self.now.limit.start in
    let n = c.loop.counter in
    let ends = is_some seconds in
    let first : Written = written_to g.W.Write.contents g.E.Write.contents c.args.console.now in
    let now : Written = written_to g.W.Write.contents g.E.Write.contents c.loop.console in
    let between = g.P.Peer.called c.loop.peer in
    let awaited = g.P.Peer.called c.next_note.new.peer in
    let old = c.next_note.new.watch in
    let after = g.P.Peer.called c.render.new.peer in
    let state : Written = written_to g.W.Write.contents g.E.Write.contents c.render.new.console in
    elim c.match-branch-5.branch [
      | in-Missing w ↦
          subst
          (λ next. IfSome next (HasMessage c.render.new.progress.buffer.now)
          × ((begun : _) (before : Written) (lines : ℕ)
          → IsBeforeNext went came told (HasCalled (MakesCalls (g.P.Peer.called begun) (g.P.Peer.called c.args.peer.now)) o c.args.progress.now.next_id (ObservesNotes o seconds start)) o shown before first lines c.args.progress.now.watch
          c.args.progress.now.buffer.now c.args.next
          → IsBeforeNext went came told (HasCalled (MakesCalls (g.P.Peer.called begun) after) o c.render.new.progress.next_id (HasCounted o seconds start (n + 1))) o shown before state lines c.render.new.progress.watch c.render.new.progress.buffer.now next
          × ((n + 1 ≡ 0) ⊎ GoesOn went came told (HasCalled (MakesCalls (g.P.Peer.called begun) after) o c.render.new.progress.next_id (HasCounted o seconds start (n + 1))) o shown before state lines))) (sym w.next-is) (
            tt,
            λ begun before lines ready.
                let p = subst (IsBeforeNext went came told (Counted went came told o shown before lines seconds start (g.P.Peer.called begun) n c.loop.progress.next_id awaited) o shown before now lines old c.next_note.new.buffer) c.in-Some.is
                (next_arrived went came told o shown before lines seconds start (g.P.Peer.called begun) n c.loop.progress.next_id ends between awaited now c.loop.progress.watch old c.loop.progress.buffer.now c.next_note.new.buffer c.loop.next c.in_ok-noted.field-0 refl (c.loop.invariant.1 begun before lines ready).0 c.in_ok-noted.ensures.noted c.in_ok-noted.ensures.called) in
                let goes = missing_rendered went came told o shown before lines seconds start (g.P.Peer.called begun) n c.loop.progress.next_id c.render.new.progress.next_id awaited after now state c.next_note.new.buffer c.render.new.progress.buffer.now c.in-Some.noted old c.render.new.progress.watch c.if-noted.false p
                (subst (IsRenderedAs went came told (MakesCalls awaited after) o shown seconds start p.note.message now state old c.render.new.progress.watch c.loop.progress.next_id c.render.new.progress.next_id c.render.new.progress.buffer.now) w.in-Missing.is (c.in_ok-render.ensures.rendered p.note.message p.read_is)) in
                (goes.0, inr goes.1),
          )
      | in-Newer w ↦
          subst
          (λ next. IfSome next (HasMessage c.render.new.progress.buffer.now)
          × ((begun : _) (before : Written) (lines : ℕ)
          → IsBeforeNext went came told (HasCalled (MakesCalls (g.P.Peer.called begun) (g.P.Peer.called c.args.peer.now)) o c.args.progress.now.next_id (ObservesNotes o seconds start)) o shown before first lines c.args.progress.now.watch
          c.args.progress.now.buffer.now c.args.next
          → IsBeforeNext went came told (HasCalled (MakesCalls (g.P.Peer.called begun) after) o c.render.new.progress.next_id (HasCounted o seconds start (n + 1))) o shown before state lines c.render.new.progress.watch c.render.new.progress.buffer.now next
          × ((n + 1 ≡ 0) ⊎ GoesOn went came told (HasCalled (MakesCalls (g.P.Peer.called begun) after) o c.render.new.progress.next_id (HasCounted o seconds start (n + 1))) o shown before state lines))) (sym w.next-is) (
            subst (HasNewer c.render.new.progress.buffer.now) w.in-Newer.is c.in_ok-render.ensures.message,
            λ begun before lines ready.
                let p = subst (IsBeforeNext went came told (Counted went came told o shown before lines seconds start (g.P.Peer.called begun) n c.loop.progress.next_id awaited) o shown before now lines old c.next_note.new.buffer) c.in-Some.is
                (next_arrived went came told o shown before lines seconds start (g.P.Peer.called begun) n c.loop.progress.next_id ends between awaited now c.loop.progress.watch old c.loop.progress.buffer.now c.next_note.new.buffer c.loop.next c.in_ok-noted.field-0 refl (c.loop.invariant.1 begun before lines ready).0 c.in_ok-noted.ensures.noted c.in_ok-noted.ensures.called) in
                let goes = newer_rendered went came told o shown before lines seconds start (g.P.Peer.called begun) n c.loop.progress.next_id c.render.new.progress.next_id awaited after now state c.next_note.new.buffer c.render.new.progress.buffer.now c.in-Some.noted old c.render.new.progress.watch c.if-noted.false p w.in-Newer.newer
                (subst (IsRenderedAs went came told (MakesCalls awaited after) o shown seconds start p.note.message now state old c.render.new.progress.watch c.loop.progress.next_id c.render.new.progress.next_id c.render.new.progress.buffer.now) w.in-Newer.is (c.in_ok-render.ensures.rendered p.note.message p.read_is)) in
                (goes.0, inr goes.1),
          )
    ]
