use Rattle.std.proofs.Common.{◌≡◌, true, false, refl, ap, ◌∙◌, arith}
use Rattle.fc_observe.specs.Observers.{list_at_time, overdue_entry, next_turn}
use Rattle.fc_registry.specs.Slots.{Shard}
use Rattle.fc_registry.specs.Watches.{due_place, has_due, has_overdue, is_idle_at, overdue_place, noticed_at, watch_at}
use Rattle.fc_registry.proofs.Places.{busy_place, no_place, place_passed, idle_place, idle_places}
use Rattle.fc_registry.proofs.shard.Shard.check_observers.Goals as goal

pub returns-then-not-check_idle_at-clause-idle : goal.returns-then-not-check_idle_at-clause-idle
returns-then-not-check_idle_at-clause-idle c =
    let s : Shard = record c.args.self.now { now = c.args.now } in
    let k = c.loop-place.place in
    let w = list_at_time c.args.now (watch_at s k) in
    let there : false ≡ is_idle_at (record c.loop-place.self { now = c.args.now }) k = search c.if-not-check_idle_at.ensures.idle in
    let here = there ∙ ap (λ (x : Shard). is_idle_at (record x { now = c.args.now }) k) c.loop-place.invariant.same in
    busy_place (has_overdue s) (has_due s) (overdue_place s) (due_place s) k (overdue_entry w) (next_turn
    (noticed_at s k) w) c.loop-place-test.true refl refl here c.loop-place.invariant.overdue c.loop-place.invariant.due

pub loop-place-preserved : goal.loop-place-preserved
loop-place-preserved c =
    let s : Shard = record c.args.self.now { now = c.args.now } in
    let k = c.loop-place.place in
    let w = list_at_time c.args.now (watch_at s k) in
    let there : true ≡ is_idle_at (record c.loop-place.self { now = c.args.now }) k = search c.if-not-check_idle_at.ensures.idle in
    let here = there ∙ ap (λ (x : Shard). is_idle_at (record x { now = c.args.now }) k) c.loop-place.invariant.same in
    let idle = idle_place (overdue_entry w) (next_turn (noticed_at s k) w) here in record {
      same = c.check_idle_at.ensures.after ∙ c.loop-place.invariant.same;
      overdue = place_passed (has_overdue s) (overdue_place s) k c.loop-place-test.true idle.0 c.loop-place.invariant.overdue;
      due = place_passed (has_due s) (due_place s) k c.loop-place-test.true idle.1 c.loop-place.invariant.due;
    }

pub returns-clause-idle : goal.returns-clause-idle
returns-clause-idle c =
    let s : Shard = record c.args.self.now { now = c.args.now } in
    let k = c.loop-place.place in
    idle_places (overdue_place s) (due_place s) (no_place (has_overdue s) (overdue_place s) k (omega (arith, c.loop-place-test.false)) c.loop-place.invariant.overdue)
    (no_place (has_due s) (due_place s) k (omega (arith, c.loop-place-test.false)) c.loop-place.invariant.due)
