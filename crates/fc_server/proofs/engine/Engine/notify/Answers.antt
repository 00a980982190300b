use Rattle.std.proofs.Common.{◌≡◌, Bool, true, false, [], ◌∷◌, ◌++◌, Option, None, Some, length, max, refl, ap, sym, subst, ◌∙◌}
use Rattle.std.specs.Prelude.{is_some}
use Rattle.fc_core.specs.declared.event.Event.TheVariants.{Due}
use Rattle.fc_core.specs.declared.stage.Task.{Task}
use Rattle.fc_front.specs.Exchanges.{FrontState}
use Rattle.fc_core.specs.History.{seen}
use Rattle.fc_front.specs.Ids.{free_id}
use Rattle.fc_ticket.specs.declared.job.Job.{Job}
use Rattle.fc_registry.specs.Shards.{shard_at, slot_in_shards}
use Rattle.fc_registry.specs.Slots.{Slot}
use Rattle.fc_registry.specs.Turns.{written_if}
use Rattle.fc_server.specs.Notified.{is_given, notification_in, notified_as}
use Rattle.fc_server.specs.Serving.{AsksForTurn, FindsProgram, IsOutToTake, TurnGiven, Serves, next}
use Rattle.fc_server.specs.States.{ServerState}
use Rattle.fc_server.specs.Steps.{shard_turn}
use Rattle.fc_server.proofs.GivenTurns.{found_before, given_out}
use Rattle.fc_server.proofs.Served.{asked_on, notified_served}
use Rattle.fc_server.proofs.engine.Engine.notify.Goals as goal

-- the job that was written, if there is one, is that of the shard's lease.
turn_is : (b : Bool) (result : Bool) (job : Job) (turn : Option Job) → result ≡ b → written_if result job ≡ turn → written_if b job ≡ turn
turn_is b result job turn is written = ap (λ (x : Bool). written_if x job) (sym is) ∙ written

pub tell-requires-clause-begun : goal.tell-requires-clause-begun
tell-requires-clause-begun c =
    let e = c.due.ensures in
    let h = c.self.invariant.history in
    let tasks = c.self.invariant.tasks in
    let job = c.due.new.job in
    record {
      history = next h (Due c.args.shard c.args.now) None;
      rest = tasks;
      serves = subst (λ (t : Task). Serves (next h (Due c.args.shard c.args.now) None) c.due.new.self (tasks ++ t ∷ [])) (sym c.begin.ensures)
          (asked_on c.args.shard c.requires c.self.inside.server c.due.new.self e.front e.words h tasks c.self.invariant.serves c.args.now (Some job) e.shards
          (turn_is true c.due.result job _ c.if-not-due.false e.job));
    }

-- if no observer has a pending notification, the shard grants no lease.
asked_none : (c : goal.Then-not-due) → AsksForTurn c.args.readings.now c.args.shard c.args.now c.args.random c.self.inside.server c.due.new.self false None
asked_none c =
    let e = c.due.ensures in
    record {
      is_due = ap is_some (turn_is false c.due.result c.due.new.job _ c.if-not-due.true e.job);
      asked = λ h tasks v. (
        refl,
        record {
          tasks = tasks ++ [];
          serves = asked_on c.args.shard c.requires c.self.inside.server c.due.new.self e.front e.words h tasks v c.args.now None e.shards
              (turn_is false c.due.result c.due.new.job _ c.if-not-due.true e.job);
        },
      );
    }

pub invariant_of-self : goal.invariant_of-self
invariant_of-self c = notified_served c.args.readings.now c.args.shard c.args.now c.args.random c.self.inside.server c.due.new.self false None c.self.invariant (asked_none c)

pub returns-then-not-due-clause-asked : goal.returns-then-not-due-clause-asked
returns-then-not-due-clause-asked c = subst (λ (s : ServerState). AsksForTurn c.args.readings.now c.args.shard c.args.now c.args.random s c.due.new.self false None) c.self.view_is (asked_none c)

-- if an observer has a pending notification, the shard grants a lease, which runs.
asked_some : (c : goal.After-tell) → let told = notified_as c.tell.result c.tell.new.emission in
    AsksForTurn c.args.readings.now c.args.shard c.args.now c.args.random c.self.inside.server c.tell.new.server (is_given told) (notification_in told)
asked_some c =
    let e = c.due.ensures in
    let told = notified_as c.tell.result c.tell.new.emission in
    let job = c.due.new.job in
    record {
      is_due = c.tell.ensures.given ∙ ap is_some (turn_is true c.due.result job _ c.if-not-due.false e.job);
      asked = λ h tasks v.
          let brought = asked_on c.args.shard c.requires c.self.inside.server c.due.new.self e.front e.words h tasks v c.args.now (Some job) e.shards (turn_is true c.due.result job _ c.if-not-due.false e.job) in
          let began = subst (λ (t : Task). Serves (next h (Due c.args.shard c.args.now) None) c.due.new.self (tasks ++ t ∷ [])) (sym c.begin.ensures) brought in
          subst (λ (b : Bool). TurnGiven b c.args.readings.now (next h (Due c.args.shard c.args.now) None) (length tasks) c.args.now c.args.random c.tell.new.server (notification_in told)) (sym c.tell.ensures.given)
          (c.tell.ensures.turns (next h (Due c.args.shard c.args.now) None) tasks began);
    }

pub invariant_of-self-2 : goal.invariant_of-self-2
invariant_of-self-2 c =
    let told = notified_as c.tell.result c.tell.new.emission in
    notified_served c.args.readings.now c.args.shard c.args.now c.args.random c.self.inside.server c.tell.new.server (is_given told) (notification_in told) c.self.invariant (asked_some c)

pub returns-clause-asked : goal.returns-clause-asked
returns-clause-asked c =
    let told = notified_as c.tell.result c.tell.new.emission in
    subst (λ (s : ServerState). AsksForTurn c.args.readings.now c.args.shard c.args.now c.args.random s c.tell.new.server (is_given told) (notification_in told)) c.self.view_is (asked_some c)

pub returns-clause-starved : goal.returns-clause-starved
returns-clause-starved c = λ is.
    subst (λ (s : ServerState). free_id s.front.ids (max s.front.now c.args.now) ≡ None) c.self.view_is
    (subst (λ (f : FrontState). free_id f.ids (max f.now c.args.now) ≡ None) c.due.ensures.front (c.tell.ensures.starved is))

-- the job is that of the lease that the shard granted.
comes : (c : goal.After-tell) → Some c.due.new.job ≡ shard_turn c.args.now (shard_at c.self.inside.server.shards c.args.shard)
comes c = turn_is true c.due.result c.due.new.job _ c.if-not-due.false c.due.ensures.job

pub tell-requires-clause-out : goal.tell-requires-clause-out
tell-requires-clause-out c =
    subst (λ (t : Task). IsOutToTake c.args.now c.due.new.self t) (sym c.begin.ensures)
    (given_out (seen c.self.invariant.history) c.args.shard c.args.now c.requires c.self.inside.server.shards c.due.new.self.shards c.self.invariant.serves.agrees.shards c.due.ensures.shards
    c.due.new.job (turn_is true c.due.result c.due.new.job _ c.if-not-due.false c.due.ensures.job) c.due.new.self refl)

pub returns-clause-unsent : goal.returns-clause-unsent
returns-clause-unsent c = λ is.
    let old = c.self.inside.server.shards in
    let job = c.due.new.job in
    let new = c.due.new.self.shards in
    let held = subst (λ (t : Task). is_some (slot_in_shards new t.job.origin.slot).present ≡ true) c.begin.ensures (c.tell.ensures.unsent is) in
    let before = found_before (seen c.self.invariant.history) c.args.shard c.args.now c.requires old new c.self.invariant.serves.agrees.shards c.due.ensures.shards job (comes c) in
    subst (λ (s : ServerState). FindsProgram c.args.now (shard_at s.shards c.args.shard)) c.self.view_is
    (job, sym (comes c), ap (λ (x : Slot). is_some x.present) (sym before) ∙ held)
