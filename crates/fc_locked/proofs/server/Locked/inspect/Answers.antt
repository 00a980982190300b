use Rattle.std.proofs.Common.{rules, ◌≡◌, lit<, sym}
use Rattle.fc_locked.proofs.AskedAt.{asked_at}
use Rattle.fc_locked.proofs.server.Locked.inspect.Goals as goal

pub returns-in-0 : goal.returns-in-0
returns-in-0 g c = asked_at (λ _. sym c.in-0.is) (lit< tt) c.inspect.ensures

pub returns-in-1 : goal.returns-in-1
returns-in-1 g c = asked_at (λ _. sym c.in-1.is) (lit< tt) c.inspect-in-1.ensures

pub returns-in-2 : goal.returns-in-2
returns-in-2 g c = asked_at (λ _. sym c.in-2.is) (lit< tt) c.inspect-in-2.ensures

pub returns-in-3 : goal.returns-in-3
returns-in-3 g c = asked_at (λ _. sym c.in-3.is) (lit< tt) c.inspect-in-3.ensures

pub returns-in-4 : goal.returns-in-4
returns-in-4 g c = asked_at (λ _. sym c.in-4.is) (lit< tt) c.inspect-in-4.ensures

pub returns-in-5 : goal.returns-in-5
returns-in-5 g c = asked_at (λ _. sym c.in-5.is) (lit< tt) c.inspect-in-5.ensures

pub returns-in-6 : goal.returns-in-6
returns-in-6 g c = asked_at (λ _. sym c.in-6.is) (lit< tt) c.inspect-in-6.ensures

pub returns-in_default : goal.returns-in_default
returns-in_default g c =
    asked_at (λ lt. let at : 7 ≡ c.args.index = search rules in at) (lit< tt) c.inspect-in_default.ensures
