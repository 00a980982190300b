use Rattle.std.proofs.Common.{rules, ◌≡◌, lit<, sym}
use Rattle.fc_locked.proofs.AskedAt.{asked_at}
use Rattle.fc_locked.proofs.server.Locked.ask.Goals as goal

pub returns-in-0-clause-does : goal.returns-in-0-clause-does
returns-in-0-clause-does g c = asked_at (λ _. sym c.in-0.is) (lit< tt) c.ask.ensures.does

pub returns-in-1-clause-does : goal.returns-in-1-clause-does
returns-in-1-clause-does g c = asked_at (λ _. sym c.in-1.is) (lit< tt) c.ask-in-1.ensures.does

pub returns-in-2-clause-does : goal.returns-in-2-clause-does
returns-in-2-clause-does g c = asked_at (λ _. sym c.in-2.is) (lit< tt) c.ask-in-2.ensures.does

pub returns-in-3-clause-does : goal.returns-in-3-clause-does
returns-in-3-clause-does g c = asked_at (λ _. sym c.in-3.is) (lit< tt) c.ask-in-3.ensures.does

pub returns-in-4-clause-does : goal.returns-in-4-clause-does
returns-in-4-clause-does g c = asked_at (λ _. sym c.in-4.is) (lit< tt) c.ask-in-4.ensures.does

pub returns-in-5-clause-does : goal.returns-in-5-clause-does
returns-in-5-clause-does g c = asked_at (λ _. sym c.in-5.is) (lit< tt) c.ask-in-5.ensures.does

pub returns-in-6-clause-does : goal.returns-in-6-clause-does
returns-in-6-clause-does g c = asked_at (λ _. sym c.in-6.is) (lit< tt) c.ask-in-6.ensures.does

pub returns-in_default-clause-does : goal.returns-in_default-clause-does
returns-in_default-clause-does g c =
    asked_at (λ lt. let at : 7 ≡ c.args.index = search rules in at) (lit< tt) c.ask-in_default.ensures.does
