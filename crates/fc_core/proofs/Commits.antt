-- The effect of a commit on a shard is its transition.
use Rattle.std.proofs.Common.{◌≡◌, ℕ, ◌/◌, refl, sym, ap, ◌∙◌, subst, max, arith, None}
use Rattle.fc_machine.specs.Ran.{Ran}
use Rattle.fc_observe.specs.Observers.{ObserverList}
use Rattle.fc_registry.specs.declared.commit.CommitOutcome.{CommitOutcome}
use Rattle.fc_registry.specs.declared.commit.CommitOutcome.TheVariants.{Writes, Keeps, Overtakes, Ends}
use Rattle.fc_registry.specs.declared.commit.Committed.{Committed}
use Rattle.fc_registry.specs.declared.commit.Committed.TheVariants.{Done, Overtaken, Ended, Stranger}
use Rattle.fc_registry.specs.Slots.{Shard, Slot, slot_in, with_slot}
use Rattle.fc_ticket.specs.Tickets.{Ticket}
use Rattle.fc_registry.specs.Changes.{after_changes}
use Rattle.fc_registry.specs.Calls.{ComesTo, IsCommit, IsOwnCommit, IsOwn, HasGiven, outcome, commit_calls, commits}
use Rattle.fc_registry.specs.Watches.{watch_at, with_calls}
use Rattle.fc_registry.proofs.Outcomes.{by_serials}
use Rattle.fc_ticket.proofs.OwnRuns.{own_run}
use Rattle.fc_front.specs.Contents.{AreDone}
use Rattle.fc_core.specs.Steps.{Commits, changes_of_call}

-- the mark of a commit that was done belongs to the outcome and the ticket.
done_by : (ran : Ran) (t : Ticket) (slot : Slot) (v : ObserverList) (o : CommitOutcome) → IsOwn ran t slot → ComesTo t slot o → AreDone ran t (commits o t slot.serial v).answer
done_by ran t slot v Writes own is = (record { run = own_run ran t slot.serial own.run; origin = refl; serial = refl }, λ e. let below = is.2 in omega (arith, below))
done_by ran t slot v Keeps own is = (record { run = own_run ran t slot.serial own.run; origin = refl; serial = refl }, λ e. absurd (cc e))
done_by ran t slot v Overtakes own is = tt
done_by ran t slot v Ends own is = tt

own_done : (ran : Ran) (t : Ticket) (slot : Slot) (v : ObserverList) (c : Committed) (after : Slot) → IsOwnCommit ran t slot v c after → AreDone ran t c
own_done ran t slot v c after w = subst (AreDone ran t) (sym w.1.answer) (done_by ran t slot v w.1.comes_to w.0 w.1.is)

pub commit_done : (ran : Ran) (t : Ticket) (slot : Slot) (v : ObserverList) (c : Committed) (after : Slot) → IsCommit ran t slot v c after → AreDone ran t c
commit_done ran t slot v Stranger after w = tt
commit_done ran t slot v (Done m) after w = own_done ran t slot v (Done m) after w
commit_done ran t slot v Overtaken after w = tt
commit_done ran t slot v Ended after w = tt

-- the result of a commit, and the slot after it, are those of the transition. The slot gave the
-- ticket, and has these observers.
pub record IsTransition (t : Ticket) (slot : Slot) (v : ObserverList) (c : Committed) (after : Slot) : Type 0 where
  pub answer : c ≡ (commits (outcome t slot) t slot.serial v).answer
  pub after_is : after ≡ after_changes slot (commits (outcome t slot) t slot.serial v).changes

own_transition : (ran : Ran) (t : Ticket) (slot : Slot) (v : ObserverList) (c : Committed) (after : Slot) → HasGiven slot t → IsOwnCommit ran t slot v c after → IsTransition t slot v c after
own_transition ran t slot v c after given w =
    let is = by_serials t slot w.1.comes_to given w.1.is in
    record {
      answer = w.1.answer ∙ ap (λ (o : CommitOutcome). (commits o t slot.serial v).answer) is;
      after_is = w.1.after_is ∙ ap (λ (o : CommitOutcome). after_changes slot (commits o t slot.serial v).changes) is;
    }

pub commit_transition : (ran : Ran) (t : Ticket) (slot : Slot) (v : ObserverList) (c : Committed) (after : Slot) → ran.program ≡ t.found.program → ran.input.request ≡ t.request → ran.input.vars ≡ t.found.vars → ran.input.readings ≡ t.readings → HasGiven slot t → t.turn ≡ None → IsCommit ran t slot v c after → IsTransition t slot v c after
commit_transition ran t slot v Stranger after p r vars readings given none w = absurd (w.stranger (record { asked = none; run = record { program = p; request = r; vars = vars; readings = readings; found = given.serial } }))
commit_transition ran t slot v (Done m) after p r vars readings given none w = own_transition ran t slot v (Done m) after given w
commit_transition ran t slot v Overtaken after p r vars readings given none w = own_transition ran t slot v Overtaken after given w
commit_transition ran t slot v Ended after p r vars readings given none w = own_transition ran t slot v Ended after given w

-- the shard after a commit with this result, whose slot is in this state then.
abbrev pub left_by : Ticket → ℕ → Shard → Committed → Slot → Shard
left_by t now shard c after = with_calls (commit_calls c (max shard.now now) t) t.origin.slot (with_slot (record shard { now = max shard.now now }) t.origin.slot after)

-- the shard after a commit is that of the transition.
pub shard_of_transition : (o : CommitOutcome) (n : ℕ) (t : Ticket) (now : ℕ) (shard : Shard) → (let called = commits o t (slot_in shard t.origin.slot).serial (watch_at shard (t.origin.slot / 8)) in left_by t now shard called.answer (after_changes (slot_in shard t.origin.slot) called.changes) ≡ left_by t now shard called.answer (after_changes (slot_in shard t.origin.slot) (changes_of_call (Commits n t called.answer))))
shard_of_transition Writes n t now shard = refl
shard_of_transition Keeps n t now shard = refl
shard_of_transition Overtakes n t now shard = refl
shard_of_transition Ends n t now shard = refl
