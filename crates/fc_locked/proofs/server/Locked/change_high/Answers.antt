use Rattle.std.proofs.Common.{rules, ◌≡◌, ℕ, ◌%◌, ◌∙◌, ap, sym}
use Rattle.fc_locked.specs.Counts.{Tallies, Tally}
use Rattle.fc_locked.proofs.EightTallies.{tallied_4, tallied_5, tallied_6, tallied_7}
use Rattle.fc_locked.proofs.server.Locked.change_high.Goals as goal

pub returns-in-4-clause-changed : goal.returns-in-4-clause-changed
returns-in-4-clause-changed g c =
    let at : 4 ≡ c.args.slot % 8 = sym c.in-4.is ∙ c.shard_of.ensures.0 in
    rw (← at) c.change.ensures.changed

pub returns-in-4-clause-changes : goal.returns-in-4-clause-changes
returns-in-4-clause-changes g c = tallied_4 _ _ _ _ _ _ _ _ _ _ _ _ (ap (λ (t : Tallies). t.changes) c.tallies.view_is) (sym c.in-4.is ∙ c.shard_of.ensures.0) (ap (λ (t : Tally). t.changes) c.change.ensures.tally)

pub returns-in-5-clause-changed : goal.returns-in-5-clause-changed
returns-in-5-clause-changed g c =
    let at : 5 ≡ c.args.slot % 8 = sym c.in-5.is ∙ c.shard_of.ensures.0 in
    rw (← at) c.change-in-5.ensures.changed

pub returns-in-5-clause-changes : goal.returns-in-5-clause-changes
returns-in-5-clause-changes g c = tallied_5 _ _ _ _ _ _ _ _ _ _ _ _ (ap (λ (t : Tallies). t.changes) c.tallies.view_is) (sym c.in-5.is ∙ c.shard_of.ensures.0) (ap (λ (t : Tally). t.changes) c.change-in-5.ensures.tally)

pub returns-in-6-clause-changed : goal.returns-in-6-clause-changed
returns-in-6-clause-changed g c =
    let at : 6 ≡ c.args.slot % 8 = sym c.in-6.is ∙ c.shard_of.ensures.0 in
    rw (← at) c.change-in-6.ensures.changed

pub returns-in-6-clause-changes : goal.returns-in-6-clause-changes
returns-in-6-clause-changes g c = tallied_6 _ _ _ _ _ _ _ _ _ _ _ _ (ap (λ (t : Tallies). t.changes) c.tallies.view_is) (sym c.in-6.is ∙ c.shard_of.ensures.0) (ap (λ (t : Tally). t.changes) c.change-in-6.ensures.tally)

pub returns-in_default-clause-changed : goal.returns-in_default-clause-changed
returns-in_default-clause-changed g c =
    let at : 7 ≡ c.args.slot % 8 = search rules in
    rw (← at) c.change-in_default.ensures.changed

pub returns-in_default-clause-changes : goal.returns-in_default-clause-changes
returns-in_default-clause-changes g c =
    let at : 7 ≡ c.args.slot % 8 = search rules in
    tallied_7 _ _ _ _ _ _ _ _ _ _ _ _ (ap (λ (t : Tallies). t.changes) c.tallies.view_is) at (ap (λ (t : Tally). t.changes) c.change-in_default.ensures.tally)
