use Rattle.std.proofs.Common.{rules, ◌≡◌, ℕ, ◌%◌, ◌∙◌, ap, sym}
use Rattle.fc_locked.specs.Counts.{Tallies, Tally}
use Rattle.fc_locked.proofs.EightTallies.{tallied_0, tallied_1, tallied_2, tallied_3}
use Rattle.fc_locked.proofs.server.Locked.change_low.Goals as goal

pub returns-in-0-clause-changed : goal.returns-in-0-clause-changed
returns-in-0-clause-changed g c =
    let at : 0 ≡ c.args.slot % 8 = sym c.in-0.is ∙ c.shard_of.ensures.0 in
    rw (← at) c.change.ensures.changed

pub returns-in-0-clause-changes : goal.returns-in-0-clause-changes
returns-in-0-clause-changes g c = tallied_0 _ _ _ _ _ _ _ _ _ _ _ _ (ap (λ (t : Tallies). t.changes) c.tallies.view_is) (sym c.in-0.is ∙ c.shard_of.ensures.0) (ap (λ (t : Tally). t.changes) c.change.ensures.tally)

pub returns-in-1-clause-changed : goal.returns-in-1-clause-changed
returns-in-1-clause-changed g c =
    let at : 1 ≡ c.args.slot % 8 = sym c.in-1.is ∙ c.shard_of.ensures.0 in
    rw (← at) c.change-in-1.ensures.changed

pub returns-in-1-clause-changes : goal.returns-in-1-clause-changes
returns-in-1-clause-changes g c = tallied_1 _ _ _ _ _ _ _ _ _ _ _ _ (ap (λ (t : Tallies). t.changes) c.tallies.view_is) (sym c.in-1.is ∙ c.shard_of.ensures.0) (ap (λ (t : Tally). t.changes) c.change-in-1.ensures.tally)

pub returns-in-2-clause-changed : goal.returns-in-2-clause-changed
returns-in-2-clause-changed g c =
    let at : 2 ≡ c.args.slot % 8 = sym c.in-2.is ∙ c.shard_of.ensures.0 in
    rw (← at) c.change-in-2.ensures.changed

pub returns-in-2-clause-changes : goal.returns-in-2-clause-changes
returns-in-2-clause-changes g c = tallied_2 _ _ _ _ _ _ _ _ _ _ _ _ (ap (λ (t : Tallies). t.changes) c.tallies.view_is) (sym c.in-2.is ∙ c.shard_of.ensures.0) (ap (λ (t : Tally). t.changes) c.change-in-2.ensures.tally)

pub returns-in_default-clause-changed : goal.returns-in_default-clause-changed
returns-in_default-clause-changed g c =
    let at : 3 ≡ c.args.slot % 8 = search rules in
    rw (← at) c.change-in_default.ensures.changed

pub returns-in_default-clause-changes : goal.returns-in_default-clause-changes
returns-in_default-clause-changes g c =
    let at : 3 ≡ c.args.slot % 8 = search rules in
    tallied_3 _ _ _ _ _ _ _ _ _ _ _ _ (ap (λ (t : Tallies). t.changes) c.tallies.view_is) at (ap (λ (t : Tally). t.changes) c.change-in_default.ensures.tally)
