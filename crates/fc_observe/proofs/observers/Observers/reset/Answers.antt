use Rattle.std.proofs.Common.{sym, subst, arith}
use Rattle.fc_observe.specs.Entries.{has_last_id}
use Rattle.fc_observe.specs.Quiet.{AreIdleUntil}
use Rattle.fc_observe.proofs.Quiet.{idle_without}
use Rattle.fc_observe.proofs.observers.Observers.reset.Goals as goal

pub invariant_of-self : goal.invariant_of-self
invariant_of-self c =
    let s = c.self.inside in
    let few = c.self.invariant.0 in
    let room = c.self.invariant.1 in (
      omega (arith, few, c.remove_reset.ensures.fewer),
      omega (arith, room, c.remove_reset.ensures.room),
      subst (AreIdleUntil s.idle_until s.idle_for) (sym c.remove_reset.ensures.held) (idle_without s.idle_until s.idle_for
          (has_last_id c.args.endpoint c.args.id) s.held.items c.self.invariant.2),
    )
