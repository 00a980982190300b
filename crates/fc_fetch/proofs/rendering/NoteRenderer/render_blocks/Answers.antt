use Rattle.std.proofs.Common.{◌≡◌, ℕ, List, take, true, refl, subst}
use Rattle.std.specs.Io.KnownBytes.{Appends}
use Rattle.std.proofs.KnownBytes.{Appends-nil}
use Rattle.coap_client.proofs.Failing.{raised}
use Rattle.coap_observer.specs.Completions.{IsCompletion, Joined, Missing, Superseded}
use Rattle.coap_observer.specs.Representations.{begun, state_of}
use Rattle.coap_client.specs.Transmissions.{MakesCalls}
use Rattle.coap_observer.specs.declared.joining.Completion.TheVariants as completion
use Rattle.coap_msg.specs.Wire.{Message}
use Rattle.fc_fetch.specs.Observing.{IsRenderFault}
use Rattle.fc_fetch.specs.Rendering.{Blocks, has_further, note_text}
use Rattle.fc_fetch.specs.declared.observer.NotesError.TheVariants as notes_error
use Rattle.fc_fetch.specs.declared.rendering.Rendered.TheVariants as rendered
use Rattle.fc_fetch.proofs.States.{rendered_calls, rendering_of, unwritten_calls}
use Rattle.fc_fetch.proofs.rendering.NoteRenderer.render_blocks.Goals as goal

pub returns-in_err-write_note-in-Whole-clause-fault : goal.returns-in_err-write_note-in-Whole-clause-fault
returns-in_err-write_note-in-Whole-clause-fault g c =
    let went = g.P.Peer.went in
    let came = g.P.Peer.came in
    let told = g.P.Peer.is_time in
    let o = c.args.self.now.observer.now in
    let seconds = c.args.self.now.limit.seconds in
    let start = c.args.self.now.limit.start in
    let first = c.args.progress.now.next_id in
    let next = c.complete.new.ids in
    let rest = c.in_ok-rest.rest in
    let from = state_of c.args.joining in
    let old = c.args.progress.now.watch in
    let new = c.complete.new.self in
    let buffer = c.complete.new.buffer in
    let before = g.P.Peer.called c.args.peer.now in
    let between = g.P.Peer.called c.complete.new.peer in
    let after = g.P.Peer.called c.begin_rest.new.peer in
    let completed = subst (IsCompletion went came told (MakesCalls before between) o first next from old new buffer) c.in-Whole.is c.in_ok-completion.ensures.completed in
    raised c.from_residual-in_err-write_note-in-Whole.result (notes_error.Print c.in_err-write_note-in-Whole.field-0.0)
    (λ error. (m : Message) → begun m ≡ from → has_further m ≡ true → IsRenderFault went came told g.P.Peer.is_error (MakesCalls before after) o seconds start m old first error)
    c.from_residual-in_err-write_note-in-Whole.ensures.1
    (λ m begins further. record {
      rendering = Blocks first old completed.outcomes (Joined c.in-Whole.code.byte c.in-Whole.body.items);
      is = rendering_of went came told o seconds start first next rest from m old new buffer (completion.Whole c.in-Whole.code c.in-Whole.body) before between after completed begins further;
      begins = refl;
      line = refl;
      called = unwritten_calls went came told o seconds start first next rest from m old new buffer (completion.Whole c.in-Whole.code c.in-Whole.body) before between after completed begins c.in_ok-rest.ensures.called;
    })

pub returns-in-Err-clause-fault : goal.returns-in-Err-clause-fault
returns-in-Err-clause-fault g c = λ m begins further.
    let went = g.P.Peer.went in
    let came = g.P.Peer.came in
    let told = g.P.Peer.is_time in
    let o = c.args.self.now.observer.now in
    let seconds = c.args.self.now.limit.seconds in
    let start = c.args.self.now.limit.start in
    let first = c.args.progress.now.next_id in
    let next = c.complete.new.ids in
    let rest = c.in_ok-rest.rest in
    let from = state_of c.args.joining in
    let old = c.args.progress.now.watch in
    let new = c.complete.new.self in
    let buffer = c.complete.new.buffer in
    let before = g.P.Peer.called c.args.peer.now in
    let between = g.P.Peer.called c.complete.new.peer in
    let after = g.P.Peer.called c.begin_rest.new.peer in
    let completed = subst (IsCompletion went came told (MakesCalls before between) o first next from old new buffer) c.in-Unfetched.is c.in_ok-completion.ensures.completed in
    record {
      rendering = Blocks first old completed.outcomes (Missing c.in-Unfetched.cause);
      is = rendering_of went came told o seconds start first next rest from m old new buffer (completion.Unfetched c.in-Unfetched.cause) before between after completed begins further;
      begins = refl;
      line = (c.in-Unfetched.cause, refl);
      called = unwritten_calls went came told o seconds start first next rest from m old new buffer (completion.Unfetched c.in-Unfetched.cause) before between after completed begins c.in_ok-rest.ensures.called;
    }

pub returns-in_ok-write_note-in-Whole-clause-rendered : goal.returns-in_ok-write_note-in-Whole-clause-rendered
returns-in_ok-write_note-in-Whole-clause-rendered g c = λ m begins further.
    let went = g.P.Peer.went in
    let came = g.P.Peer.came in
    let told = g.P.Peer.is_time in
    let o = c.args.self.now.observer.now in
    let seconds = c.args.self.now.limit.seconds in
    let start = c.args.self.now.limit.start in
    let first = c.args.progress.now.next_id in
    let next = c.complete.new.ids in
    let rest = c.in_ok-rest.rest in
    let from = state_of c.args.joining in
    let old = c.args.progress.now.watch in
    let new = c.complete.new.self in
    let buffer = c.complete.new.buffer in
    let before = g.P.Peer.called c.args.peer.now in
    let between = g.P.Peer.called c.complete.new.peer in
    let after = g.P.Peer.called c.begin_rest.new.peer in
    let completed = subst (IsCompletion went came told (MakesCalls before between) o first next from old new buffer) c.in-Whole.is c.in_ok-completion.ensures.completed in
    record {
      rendering = Blocks first old completed.outcomes (Joined c.in-Whole.code.byte c.in-Whole.body.items);
      is = rendering_of went came told o seconds start first next rest from m old new buffer (completion.Whole c.in-Whole.code c.in-Whole.body) before between after completed begins further;
      begins = refl;
      next_is = completed.next_is;
      text = subst (λ (bytes : List ℕ). Appends (g.W.Write.contents c.args.console.now.out) (g.W.Write.contents c.write_note.new.out) (note_text c.args.self.now.shown c.in-Whole.code.byte bytes)) c.deref.ensures.value
          c.in_ok-write_note-in-Whole.ensures;
      error = Appends-nil (g.E.Write.contents c.args.console.now.err);
      effect_is = (refl, completed.watch);
      called = rendered_calls went came told o seconds start first next rest from m old new buffer (completion.Whole c.in-Whole.code c.in-Whole.body) before between after completed begins c.in_ok-rest.ensures.called rendered.Line (λ calls h. tt);
    }

pub returns-in-Newer-clause-rendered : goal.returns-in-Newer-clause-rendered
returns-in-Newer-clause-rendered g c = λ m begins further.
    let went = g.P.Peer.went in
    let came = g.P.Peer.came in
    let told = g.P.Peer.is_time in
    let o = c.args.self.now.observer.now in
    let seconds = c.args.self.now.limit.seconds in
    let start = c.args.self.now.limit.start in
    let first = c.args.progress.now.next_id in
    let next = c.complete.new.ids in
    let rest = c.in_ok-rest.rest in
    let from = state_of c.args.joining in
    let old = c.args.progress.now.watch in
    let new = c.complete.new.self in
    let buffer = c.complete.new.buffer in
    let before = g.P.Peer.called c.args.peer.now in
    let between = g.P.Peer.called c.complete.new.peer in
    let after = g.P.Peer.called c.begin_rest.new.peer in
    let completed = subst (IsCompletion went came told (MakesCalls before between) o first next from old new buffer) c.in-Newer.is c.in_ok-completion.ensures.completed in
    record {
      rendering = Blocks first old completed.outcomes (Superseded (take c.in-Newer.field-0.count buffer) c.in-Newer.field-0.time);
      is = rendering_of went came told o seconds start first next rest from m old new buffer (completion.Newer c.in-Newer.field-0) before between after completed begins further;
      begins = refl;
      next_is = completed.next_is;
      text = Appends-nil (g.W.Write.contents c.args.console.now.out);
      error = Appends-nil (g.E.Write.contents c.args.console.now.err);
      effect_is = (take c.in-Newer.field-0.count buffer, c.in-Newer.field-0.time, c.in-Newer.field-0.last, refl, completed.watch.1);
      called = rendered_calls went came told o seconds start first next rest from m old new buffer (completion.Newer c.in-Newer.field-0) before between after completed begins c.in_ok-rest.ensures.called rendered.Over (λ calls h. h c.if-rest-eq0.true);
    }

pub returns-in-Newer-2-clause-rendered : goal.returns-in-Newer-2-clause-rendered
returns-in-Newer-2-clause-rendered g c = λ m begins further.
    let went = g.P.Peer.went in
    let came = g.P.Peer.came in
    let told = g.P.Peer.is_time in
    let o = c.args.self.now.observer.now in
    let seconds = c.args.self.now.limit.seconds in
    let start = c.args.self.now.limit.start in
    let first = c.args.progress.now.next_id in
    let next = c.complete.new.ids in
    let rest = c.in_ok-rest.rest in
    let from = state_of c.args.joining in
    let old = c.args.progress.now.watch in
    let new = c.complete.new.self in
    let buffer = c.complete.new.buffer in
    let before = g.P.Peer.called c.args.peer.now in
    let between = g.P.Peer.called c.complete.new.peer in
    let after = g.P.Peer.called c.begin_rest.new.peer in
    let completed = subst (IsCompletion went came told (MakesCalls before between) o first next from old new buffer) c.in-Newer-2.is c.in_ok-completion.ensures.completed in
    record {
      rendering = Blocks first old completed.outcomes (Superseded (take c.in-Newer-2.noted.count buffer) c.in-Newer-2.noted.time);
      is = rendering_of went came told o seconds start first next rest from m old new buffer (completion.Newer c.in-Newer-2.noted) before between after completed begins further;
      begins = refl;
      next_is = completed.next_is;
      text = Appends-nil (g.W.Write.contents c.args.console.now.out);
      error = Appends-nil (g.E.Write.contents c.args.console.now.err);
      effect_is = (refl, completed.watch);
      called = rendered_calls went came told o seconds start first next rest from m old new buffer (completion.Newer c.in-Newer-2.noted) before between after completed begins c.in_ok-rest.ensures.called (rendered.Newer c.in-Newer-2.noted) (λ calls h. tt);
    }

pub returns-in_default-clause-rendered : goal.returns-in_default-clause-rendered
returns-in_default-clause-rendered g c = λ m begins further.
    let went = g.P.Peer.went in
    let came = g.P.Peer.came in
    let told = g.P.Peer.is_time in
    let o = c.args.self.now.observer.now in
    let seconds = c.args.self.now.limit.seconds in
    let start = c.args.self.now.limit.start in
    let first = c.args.progress.now.next_id in
    let next = c.complete.new.ids in
    let rest = c.in_ok-rest.rest in
    let from = state_of c.args.joining in
    let old = c.args.progress.now.watch in
    let new = c.complete.new.self in
    let buffer = c.complete.new.buffer in
    let before = g.P.Peer.called c.args.peer.now in
    let between = g.P.Peer.called c.complete.new.peer in
    let after = g.P.Peer.called c.begin_rest.new.peer in
    let completed = subst (IsCompletion went came told (MakesCalls before between) o first next from old new buffer) c.in-Unfetched.is c.in_ok-completion.ensures.completed in
    record {
      rendering = Blocks first old completed.outcomes (Missing c.in-Unfetched.cause);
      is = rendering_of went came told o seconds start first next rest from m old new buffer (completion.Unfetched c.in-Unfetched.cause) before between after completed begins further;
      begins = refl;
      next_is = completed.next_is;
      text = Appends-nil (g.W.Write.contents c.args.console.now.out);
      error = c.in_default.ensures;
      effect_is = ((c.in-Unfetched.cause, refl), completed.watch);
      called = rendered_calls went came told o seconds start first next rest from m old new buffer (completion.Unfetched c.in-Unfetched.cause) before between after completed begins c.in_ok-rest.ensures.called rendered.Missing (λ calls h. tt);
    }
