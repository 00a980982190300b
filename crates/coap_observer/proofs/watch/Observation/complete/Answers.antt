use Rattle.std.proofs.Common.{◌≡◌, ◌<◌, ◌≤◌, ◌+◌, ◌%◌, ℕ, List, length, take, refl, sym, ap, subst, ◌∙◌, arith}
use Rattle.coap_observer.specs.declared.joining.BlockHandled.TheVariants as handled
use Rattle.coap_observer.specs.declared.joining.Unfetched.TheVariants as unfetched
use Rattle.coap_observer.specs.Completions.{HasOutcome, IsBlockHandled, IsFollowing, Joined, Missing, Superseded, block_id, requests_until}
use Rattle.coap_client.specs.Fetching.{Ended}
use Rattle.coap_observer.specs.Notes.{IsNextNote}
use Rattle.coap_client.specs.PeerCalls.{received_bytes}
use Rattle.coap_observer.specs.Representations.{IsBlockAnswer, IsBlockFault, IsBlockTransmission, state_of}
use Rattle.coap_client.specs.Transmissions.{MakesCalls}
use Rattle.coap_observer.proofs.Joinings.{missing, no_more, one_outcome, outstanding, overtaken, rejected, requests_nothing, silent}
use Rattle.coap_client.proofs.Transmitting.{some_of}
use Rattle.coap_observer.proofs.watch.Observation.complete.Goals as goal

-- one more request is sent
few : (count requested : ℕ) → requested < 4194304 → count ≡ requested → count + 1 ≤ 4194304
few count requested less is = omega (arith, less, is)

-- it has an outcome
few_answered : (count requested : ℕ) → requested < 4194304 → count ≡ requested + 1 → count ≤ 4194304
few_answered count requested less is = omega (arith, less, is)

pub loop-requested-init : goal.loop-requested-init
loop-requested-init g c = (
  c.requires,
  (refl, requests_nothing g.P.Peer.went g.P.Peer.came g.P.Peer.is_time c.args.observer.now c.args.self.now c.args.ids.now (state_of c.args.joining) (g.P.Peer.called c.args.peer.now)),
)

pub loop-requested-preserved : goal.loop-requested-preserved
loop-requested-preserved g c =
    let went = g.P.Peer.went in
    let came = g.P.Peer.came in
    let told = g.P.Peer.is_time in
    let o = c.args.observer.now in
    let w = c.args.self.now in
    let first = c.args.ids.now in
    let from = state_of c.args.joining in
    let before = g.P.Peer.called c.args.peer.now in
    let between = g.P.Peer.called c.loop-requested.peer in
    let asked = g.P.Peer.called c.ask_block.new.peer in
    let old = c.loop-requested.joining in
    let id = c.block_id-id.result in
    let now = c.loop-requested.invariant in
    let after = g.P.Peer.called c.handle_block.new.peer in
    let bytes = take c.in-Ok-Some.count c.ask_block.new.buffer in
    let sent = subst (λ r. MakesCalls between asked (IsBlockTransmission o old.number old.szx id (received_bytes c.ask_block.new.buffer r))) c.in-Ok-Some.field-0-is c.in-Ok-Some.ensures.called in
    let so = subst (λ was. IsBlockHandled went came told (MakesCalls asked after) o id old c.handle_block.new.joining was c.handle_block.new.self bytes c.in-Ok-Some.count handled.GoesOn) now.1.0
    (subst (IsBlockHandled went came told (MakesCalls asked after) o id old c.handle_block.new.joining c.loop-requested.self c.handle_block.new.self bytes c.in-Ok-Some.count) c.in-GoesOn.is
    c.in_ok-handle_block.ensures.handled) in (
      so.1.0,
      (
        so.0,
        one_outcome went came told o w first c.loop-requested.ids c.loop-requested.requested id from old before between asked after bytes (state_of c.handle_block.new.joining) now.1.1
            c.block_id-id.ensures sent so.1.1,
      ),
    )

pub returns-in-Ok-None-clause-completed : goal.returns-in-Ok-None-clause-completed
returns-in-Ok-None-clause-completed g c =
    let went = g.P.Peer.went in
    let came = g.P.Peer.came in
    let told = g.P.Peer.is_time in
    let o = c.args.observer.now in
    let w = c.args.self.now in
    let first = c.args.ids.now in
    let from = state_of c.args.joining in
    let before = g.P.Peer.called c.args.peer.now in
    let between = g.P.Peer.called c.loop-requested.peer in
    let asked = g.P.Peer.called c.ask_block.new.peer in
    let old = c.loop-requested.joining in
    let id = c.block_id-id.result in
    let now = c.loop-requested.invariant in
    let h = now.1.1 in
    record {
      outcomes = h.outcomes;
      are = h.are;
      ends = (few (length h.outcomes) c.loop-requested.requested c.loop-requested-test.true h.count_is, outstanding went came told o w first c.loop-requested.ids c.loop-requested.requested id from old before between h);
      called = silent went came told o w first c.loop-requested.ids c.loop-requested.requested id from old before between asked h c.block_id-id.ensures
          (subst (λ r. MakesCalls between asked (IsBlockTransmission o old.number old.szx id (received_bytes c.ask_block.new.buffer r))) c.in-Ok-None.field-0-is c.in-Ok-None.ensures.called);
      watch = now.1.0;
      next_is = ap (λ (i : ℕ). (i + 1) % 65536) (c.block_id-id.ensures ∙ ap (block_id o) h.next_is);
    }

pub returns-in-Err-Rejected-clause-completed : goal.returns-in-Err-Rejected-clause-completed
returns-in-Err-Rejected-clause-completed g c =
    let went = g.P.Peer.went in
    let came = g.P.Peer.came in
    let told = g.P.Peer.is_time in
    let o = c.args.observer.now in
    let w = c.args.self.now in
    let first = c.args.ids.now in
    let from = state_of c.args.joining in
    let before = g.P.Peer.called c.args.peer.now in
    let between = g.P.Peer.called c.loop-requested.peer in
    let asked = g.P.Peer.called c.ask_block.new.peer in
    let old = c.loop-requested.joining in
    let id = c.block_id-id.result in
    let now = c.loop-requested.invariant in
    let h = now.1.1 in
    record {
      outcomes = h.outcomes;
      are = h.are;
      ends = (few (length h.outcomes) c.loop-requested.requested c.loop-requested-test.true h.count_is, outstanding went came told o w first c.loop-requested.ids c.loop-requested.requested id from old before between h);
      called =
          rejected went came told o w first c.loop-requested.ids c.loop-requested.requested id from old before between asked h c.block_id-id.ensures
          (subst (IsBlockFault g.P.Peer.is_error (MakesCalls between asked) o old.number old.szx id) c.in-Err-Rejected.field-0-is c.in-Err-Rejected.ensures.fault);
      watch = now.1.0;
      next_is = ap (λ (i : ℕ). (i + 1) % 65536) (c.block_id-id.ensures ∙ ap (block_id o) h.next_is);
    }

pub returns-in-Ended-clause-completed : goal.returns-in-Ended-clause-completed
returns-in-Ended-clause-completed g c =
    let went = g.P.Peer.went in
    let came = g.P.Peer.came in
    let told = g.P.Peer.is_time in
    let o = c.args.observer.now in
    let w = c.args.self.now in
    let first = c.args.ids.now in
    let from = state_of c.args.joining in
    let before = g.P.Peer.called c.args.peer.now in
    let between = g.P.Peer.called c.loop-requested.peer in
    let asked = g.P.Peer.called c.ask_block.new.peer in
    let old = c.loop-requested.joining in
    let id = c.block_id-id.result in
    let now = c.loop-requested.invariant in
    let after = g.P.Peer.called c.handle_block.new.peer in
    let bytes = take c.in-Ok-Some.count c.ask_block.new.buffer in
    let sent = subst (λ r. MakesCalls between asked (IsBlockTransmission o old.number old.szx id (received_bytes c.ask_block.new.buffer r))) c.in-Ok-Some.field-0-is c.in-Ok-Some.ensures.called in
    let so = subst (λ was. IsBlockHandled went came told (MakesCalls asked after) o id old c.handle_block.new.joining was c.handle_block.new.self bytes c.in-Ok-Some.count (handled.Ended c.in-Ended.code)) now.1.0
    (subst (IsBlockHandled went came told (MakesCalls asked after) o id old c.handle_block.new.joining c.loop-requested.self c.handle_block.new.self bytes c.in-Ok-Some.count) c.in-Ended.is
    c.in_ok-handle_block.ensures.handled) in
    let h = one_outcome went came told o w first c.loop-requested.ids c.loop-requested.requested id from old before between asked after bytes
    (Ended c.in-Ended.code.byte c.handle_block.new.joining.body.items) now.1.1 c.block_id-id.ensures sent so.1.1 in
    record {
      outcomes = h.outcomes;
      are = h.are;
      ends = (few_answered (length h.outcomes) c.loop-requested.requested c.loop-requested-test.true h.count_is, (so.1.0, h.leads));
      called = no_more o first from h.outcomes (Joined c.in-Ended.code.byte c.handle_block.new.joining.body.items) before after h.called (λ calls none. none);
      watch = so.0;
      next_is = h.next_is;
    }

pub returns-in-Newer-clause-completed : goal.returns-in-Newer-clause-completed
returns-in-Newer-clause-completed g c =
    let went = g.P.Peer.went in
    let came = g.P.Peer.came in
    let told = g.P.Peer.is_time in
    let o = c.args.observer.now in
    let w = c.args.self.now in
    let first = c.args.ids.now in
    let from = state_of c.args.joining in
    let before = g.P.Peer.called c.args.peer.now in
    let between = g.P.Peer.called c.loop-requested.peer in
    let asked = g.P.Peer.called c.ask_block.new.peer in
    let old = c.loop-requested.joining in
    let id = c.block_id-id.result in
    let now = c.loop-requested.invariant in
    let after = g.P.Peer.called c.handle_block.new.peer in
    let bytes = take c.in-Ok-Some.count c.ask_block.new.buffer in
    let sent = subst (λ r. MakesCalls between asked (IsBlockTransmission o old.number old.szx id (received_bytes c.ask_block.new.buffer r))) c.in-Ok-Some.field-0-is c.in-Ok-Some.ensures.called in
    let so = subst (λ was. IsBlockHandled went came told (MakesCalls asked after) o id old c.handle_block.new.joining was c.handle_block.new.self bytes c.in-Ok-Some.count (handled.Newer c.in-Newer.noted)) now.1.0
    (subst (IsBlockHandled went came told (MakesCalls asked after) o id old c.handle_block.new.joining c.loop-requested.self c.handle_block.new.self bytes c.in-Ok-Some.count) c.in-Newer.is
    c.in_ok-handle_block.ensures.handled) in
    let noted = c.in-Newer.noted in
    let buffer = c.ask_block.new.buffer in
    let own = ap (λ (n : ℕ). take n buffer) so.0 in
    let h = now.1.1 in
    record {
      outcomes = h.outcomes;
      are = h.are;
      ends = (few (length h.outcomes) c.loop-requested.requested c.loop-requested-test.true h.count_is, outstanding went came told o w first c.loop-requested.ids c.loop-requested.requested id from old before between h);
      called =
          subst (λ (x : List ℕ). MakesCalls before after (IsFollowing o first from h.outcomes (Superseded x noted.time))) (sym own)
          (overtaken went came told o w first c.loop-requested.ids c.loop-requested.requested id from old before between asked after bytes noted.time h c.block_id-id.ensures
          sent so.1.1);
      watch = (
        subst (λ (n : ℕ). n ≤ length buffer) (sym so.0)
            (some_of _ c.in-Ok-Some.count (λ (n : ℕ). (n ≤ length buffer) × IsBlockAnswer went came o old.number old.szx id (take n buffer)) c.in-Ok-Some.field-0-is c.in-Ok-Some.ensures.answer).0,
        subst (λ (x : List ℕ). IsNextNote went came told o.token x noted.time w c.handle_block.new.self noted.last) (sym own) so.1.0,
      );
      next_is = ap (λ (i : ℕ). (i + 1) % 65536) (c.block_id-id.ensures ∙ ap (block_id o) h.next_is);
    }

pub returns-in-Unfetched-clause-completed : goal.returns-in-Unfetched-clause-completed
returns-in-Unfetched-clause-completed g c =
    let went = g.P.Peer.went in
    let came = g.P.Peer.came in
    let told = g.P.Peer.is_time in
    let o = c.args.observer.now in
    let w = c.args.self.now in
    let first = c.args.ids.now in
    let from = state_of c.args.joining in
    let before = g.P.Peer.called c.args.peer.now in
    let between = g.P.Peer.called c.loop-requested.peer in
    let asked = g.P.Peer.called c.ask_block.new.peer in
    let old = c.loop-requested.joining in
    let id = c.block_id-id.result in
    let now = c.loop-requested.invariant in
    let after = g.P.Peer.called c.handle_block.new.peer in
    let bytes = take c.in-Ok-Some.count c.ask_block.new.buffer in
    let sent = subst (λ r. MakesCalls between asked (IsBlockTransmission o old.number old.szx id (received_bytes c.ask_block.new.buffer r))) c.in-Ok-Some.field-0-is c.in-Ok-Some.ensures.called in
    let so = subst (λ was. IsBlockHandled went came told (MakesCalls asked after) o id old c.handle_block.new.joining was c.handle_block.new.self bytes c.in-Ok-Some.count (handled.Unfetched c.in-Unfetched.cause)) now.1.0
    (subst (IsBlockHandled went came told (MakesCalls asked after) o id old c.handle_block.new.joining c.loop-requested.self c.handle_block.new.self bytes c.in-Ok-Some.count) c.in-Unfetched.is
    c.in_ok-handle_block.ensures.handled) in
    let m = missing went came told (MakesCalls before after) o w first ((id + 1) % 65536) (c.loop-requested.requested + 1) from c.in-Unfetched.cause
    (HasOutcome went came told (MakesCalls asked after) o w id old bytes)
    (λ to leads. one_outcome went came told o w first c.loop-requested.ids c.loop-requested.requested id from old before between asked after bytes to now.1.1 c.block_id-id.ensures
    sent leads)
    so.1 in
    record {
      outcomes = m.outcomes;
      are = m.are;
      ends = (few_answered (requests_until (Missing c.in-Unfetched.cause) (length m.outcomes)) c.loop-requested.requested c.loop-requested-test.true m.requests_are, m.missing);
      called = no_more o first from m.outcomes (Missing c.in-Unfetched.cause) before after m.called m.ends;
      watch = so.0;
      next_is = m.next_is ∙ m.next_same;
    }

pub returns-clause-completed : goal.returns-clause-completed
returns-clause-completed g c =
    let h = c.loop-requested.invariant.1.1 in
    let end = c.loop-requested-test.false in
    let most = c.loop-requested.auto.requested-end in
    let count = h.count_is in
    let all : length h.outcomes ≡ 4194304 = omega (arith, end, most, count) in
    record {
      outcomes = h.outcomes;
      are = h.are;
      ends = (
        omega (arith, all),
        (
          all,
          outstanding g.P.Peer.went g.P.Peer.came g.P.Peer.is_time c.args.observer.now c.args.self.now c.args.ids.now c.loop-requested.ids c.loop-requested.requested 0 (state_of c.args.joining)
              c.loop-requested.joining (g.P.Peer.called c.args.peer.now) (g.P.Peer.called c.loop-requested.peer) h,
        ),
      );
      called =
          no_more c.args.observer.now c.args.ids.now (state_of c.args.joining) h.outcomes (Missing unfetched.TooMany) (g.P.Peer.called c.args.peer.now) (g.P.Peer.called c.loop-requested.peer) h.called
          (λ calls none. none);
      watch = c.loop-requested.invariant.1.0;
      next_is = h.next_is;
    }
