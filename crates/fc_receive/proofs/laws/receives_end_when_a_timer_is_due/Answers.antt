use Rattle.std.proofs.Common.{◌≡◌, ◌∙◌, ℕ, arith, refl, Bool, Option, Some, None, ap, subst}
use Rattle.fc_server.specs.Ingresses.{never}
use Rattle.fc_receive.specs.Rounds.{EndsInTime, ShortensTo, until_due}
use Rattle.fc_receive.proofs.Beats.{first_of_two, no_work}
use Rattle.fc_receive.proofs.laws.receives_end_when_a_timer_is_due.Goals as goal

-- a wait that is shortened from a time.
shortened : (due due' ended : ℕ) (at : Option ℕ) (own own' wait : Option ℕ) → due ≡ due' → at ≡ Some ended → own ≡ own' → ShortensTo due at own wait → wait ≡ until_due ended due' own'
shortened due due' ended at own own' wait first is same w =
    let some = subst (λ (o : Option ℕ). ShortensTo due o own wait) is w in
    some.1 ∙ (ap (λ (n : ℕ). until_due ended n own) first ∙ ap (until_due ended due') same)

-- the clock is read exactly if there is a timer.
unread : (due : ℕ) (at own wait : Option ℕ) → due ≡ never → ShortensTo due at own wait → at ≡ None
unread due None own wait is w = refl
unread due (Some ended) own wait is w = let lt = w.0 in absurd (omega (arith, is, lt))

timed : (due : ℕ) (at own wait : Option ℕ) → due ≡ 5000 → ShortensTo due at own wait → at ≡ None → ⊥
timed due at own wait is w none = let never' = (subst (λ (o : Option ℕ). ShortensTo due o own wait) none w).0 in omega (arith, is, never')

pub returns-clause-received : goal.returns-clause-received
returns-clause-received g c = λ f t u r rs wait first second timers none at end came w.
    let own = subst (λ (b : Bool). EndsInTime (λ shard until. g.N.Ingress.calls.stays_idle shard f.ingress until) r.now b w.1) came w.3 in
    shortened w.0 5000 4200 r.ended w.1 (Some 100) wait (first_of_two g.N.Ingress.calls w.0 f t u first second timers none w.2) end own w.4

pub returns-clause-soon : goal.returns-clause-soon
returns-clause-soon g c = λ f t u r rs wait first second timers none at end came w.
    let own = subst (λ (b : Bool). EndsInTime (λ shard until. g.N.Ingress.calls.stays_idle shard f.ingress until) r.now b w.1) came w.3 in
    shortened w.0 5000 4950 r.ended w.1 (Some 100) wait (first_of_two g.N.Ingress.calls w.0 f t u first second timers none w.2) end own w.4

pub returns-clause-idle : goal.returns-clause-idle
returns-clause-idle g c = λ f t u r rs wait first second timers none idle at end came w.
    let own = subst (λ (b : Bool). EndsInTime (λ shard until. g.N.Ingress.calls.stays_idle shard f.ingress until) r.now b w.1) came w.3 in
    shortened w.0 5000 4200 r.ended w.1 None wait (first_of_two g.N.Ingress.calls w.0 f t u first second timers none w.2) end
    (no_work (λ shard until. g.N.Ingress.calls.stays_idle shard f.ingress until) r.now w.1 idle own) w.4

pub returns-clause-read : goal.returns-clause-read
returns-clause-read g c = λ f t u r rs wait first second timers none w. timed w.0 r.ended w.1 wait (first_of_two g.N.Ingress.calls w.0 f t u first second timers none w.2) w.4

pub returns-clause-unread : goal.returns-clause-unread
returns-clause-unread g c = λ left r rs wait first w. unread w.0 r.ended w.1 wait (first w.0 w.2) w.4
