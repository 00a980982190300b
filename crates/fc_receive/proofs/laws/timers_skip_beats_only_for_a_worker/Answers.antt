use Rattle.std.proofs.Common.{◌≡◌, ◌∙◌, ◌⊎◌, ℕ, ap, inl, inr, ⊎_elim, subst}
use Rattle.std.specs.Prelude.{MatchBool, nat_lt}
use Rattle.fc_host.specs.Timers.{next_beat}
use Rattle.fc_host.specs.declared.timer.Timer.{Timer}
use Rattle.fc_receive.specs.Firing.{FiresOnce, SkipsBeat}
use Rattle.fc_receive.proofs.laws.timers_skip_beats_only_for_a_worker.Goals as goal

pub returns-clause-free : goal.returns-clause-free
returns-clause-free g c = λ t u before after due free fires.
    ⊎_elim
    (λ (w : FiresOnce g.N.Ingress.calls 5300 t u before after). (w.outcome, w.fires, w.next))
    (λ (w : SkipsBeat g.N.Ingress.calls 5300 t u before after). absurd (cc (w.offloaded, free)))
    (subst (λ (n : ℕ). MatchBool (nat_lt 5300 n) ((u ≡ t) × (after ≡ before)) (FiresOnce g.N.Ingress.calls 5300 t u before after ⊎ SkipsBeat g.N.Ingress.calls 5300 t u before after)) due fires)

pub returns-clause-early : goal.returns-clause-early
returns-clause-early g c = λ t u before after due fires.
    subst (λ (n : ℕ). MatchBool (nat_lt 4999 n) ((u ≡ t) × (after ≡ before)) (FiresOnce g.N.Ingress.calls 4999 t u before after ⊎ SkipsBeat g.N.Ingress.calls 4999 t u before after)) due fires

pub returns-clause-offloaded : goal.returns-clause-offloaded
returns-clause-offloaded g c = λ t u before after every due was fires.
    let next : next_beat 5300 t ≡ 6000 = ap (λ (n : ℕ). next_beat 5300 (record t { due = n })) due ∙ ap (λ (n : ℕ). next_beat 5300 (record t { due = 5000; every = n })) every in
    ⊎_elim
    (λ (w : FiresOnce g.N.Ingress.calls 5300 t u before after). (ap (λ (v : Timer). v.due) w.next ∙ next, inl (w.outcome, w.fires, ap (λ (v : Timer). v.offloaded) w.next)))
    (λ (w : SkipsBeat g.N.Ingress.calls 5300 t u before after). (ap (λ (v : Timer). v.due) w.next ∙ next, inr (w.unchanged, ap (λ (v : Timer). v.offloaded) w.next ∙ was)))
    (subst (λ (n : ℕ). MatchBool (nat_lt 5300 n) ((u ≡ t) × (after ≡ before)) (FiresOnce g.N.Ingress.calls 5300 t u before after ⊎ SkipsBeat g.N.Ingress.calls 5300 t u before after)) due fires)
